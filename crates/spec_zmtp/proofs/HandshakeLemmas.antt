-- One item more adds to a handshake what `next` says.
use Rattle.std.proofs.Common.{◌≡◌, Bool, true, false, cond, List, [], ◌∷◌, ◌++◌, Option, Some, None, Result, Ok, Err, refl, sym, ap, subst, ◌∙◌}
use Rattle.std.proofs.lemmas.List.{append-nil}
use Rattle.std.specs.Prelude.{codes, not}
use Rattle.zq_base.specs.declared.options.EngineOpts.{EngineOpts}
use Rattle.zq_base.specs.declared.options.Peer.{Peer}
use Rattle.zq_base.specs.declared.options.Role.{Role}
use Rattle.zq_base.specs.declared.options.Role.TheVariants.{Null, PlainClient, PlainServer}
use Rattle.spec_zmtp.specs.declared.cause.Cause.{Cause}
use Rattle.spec_zmtp.specs.declared.cause.Cause.TheVariants.{BadMeta, NotWelcome, PeerError}
use Rattle.spec_zmtp.specs.declared.command.Command.{Command}
use Rattle.spec_zmtp.specs.declared.handshake.Awaited.{Awaited}
use Rattle.spec_zmtp.specs.declared.handshake.Awaited.TheVariants.{Ready, Initiate}
use Rattle.spec_zmtp.specs.declared.handshake.Stage.{Stage}
use Rattle.spec_zmtp.specs.declared.handshake.Stage.TheVariants.{Waiting, Running, Refused}
use Rattle.spec_zmtp.specs.Metadata.{is_called}
use Rattle.spec_zmtp.specs.Decoding.{decode_meta}
use Rattle.spec_zmtp.specs.PeerMetadata.{peer_from}
use Rattle.spec_zmtp.specs.OwnCommands.{our_ready, our_initiate, our_hello, our_welcome, our_error}
use Rattle.spec_zmtp.specs.Handshake.{Item, Told, Malformed, MessageFrame, Handshake, silent, followed_by, saying, has_bad_meta, misplaced, running, met, peer_awaited, ready_awaited, initiate_awaited, welcome_awaited, hello_awaited, is_welcome, handshake, handshake_as, awaiting, next}

-- a handshake that has begun so goes on by the next item
abbrev pub GoesOn : EngineOpts → Handshake → Item → Handshake → Type 0
GoesOn opts before item after = after ≡ followed_by before (next opts before.stage item)

running-more : (opts : EngineOpts) (heard : List Item) (item : Item) → next opts (running heard) item ≡ silent (running (heard ++ item ∷ []))
running-more opts [] item = refl
running-more opts (MessageFrame ∷ heard) item = running-more opts heard item
running-more opts (Malformed ∷ heard) item = refl
running-more opts (Told c ∷ heard) item =
    let after : Stage = running (heard ++ item ∷ []) in
    let rest : (b : Bool) → next opts (cond b (Refused PeerError) (running heard)) item ≡ silent (cond b (Refused PeerError) after) =
    λ b. elim b as (λ b. next opts (cond b (Refused PeerError) (running heard)) item ≡ silent (cond b (Refused PeerError) after)) [ true ↦ refl | false ↦ running-more opts heard item ] in
    let e : Bool = is_called (codes "ERROR") c in
    elim (has_bad_meta c) as (λ b. next opts (cond b (Refused BadMeta) (cond e (Refused PeerError) (running heard))) item ≡ silent (cond b (Refused BadMeta) (cond e (Refused PeerError) after))) [ true ↦ refl | false ↦ rest e ]

met-more : (opts : EngineOpts) (reply : List Command) (heard : List Item) (item : Item) (r : Result Peer Cause) → GoesOn opts (met reply heard r) item (met reply (heard ++ item ∷ []) r)
met-more opts reply heard item (Err cause) = refl
met-more opts reply heard item (Ok peer) =
    let all : List Command → Stage → Handshake = λ said stage. record { said = said; peer = Some peer; stage = stage } in
    ap (λ l. all l (running (heard ++ item ∷ []))) (sym (append-nil reply)) ∙ sym (ap (λ n. followed_by (all reply (running heard)) n) (running-more opts heard item))

saying-more : (opts : EngineOpts) (c : Command) (before after : Handshake) (item : Item) → GoesOn opts before item after → GoesOn opts (saying c before) item (saying c after)
saying-more opts c before after item h = ap (λ n. saying c n) h

choice-more : (opts : EngineOpts) (b : Bool) (item : Item) (x y x' y' : Handshake) → GoesOn opts x item x' → GoesOn opts y item y' → GoesOn opts (cond b x y) item (cond b x' y')
choice-more opts b item x y x' y' h k = elim b as (λ b. GoesOn opts (cond b x y) item (cond b x' y')) [ true ↦ h | false ↦ k ]

peer_awaited-more : (opts : EngineOpts) (awaited : Awaited) (name : List _) (reply : List Command) (heard : List Item) (item : Item)
    → ((item : Item) → awaiting awaited opts (item ∷ []) ≡ peer_awaited opts awaited name reply (item ∷ []))
    → GoesOn opts (peer_awaited opts awaited name reply heard) item (peer_awaited opts awaited name reply (heard ++ item ∷ []))
peer_awaited-more opts awaited name reply [] item so = sym (so item)
peer_awaited-more opts awaited name reply (MessageFrame ∷ heard) item so = refl
peer_awaited-more opts awaited name reply (Malformed ∷ heard) item so = refl
peer_awaited-more opts awaited name reply (Told c ∷ heard) item so =
    let r : Result Peer Cause = peer_from opts.kind (decode_meta c.content) in
    choice-more opts (is_called name c) item (met reply heard r) (silent (Refused (misplaced c))) (met reply (heard ++ item ∷ []) r) (silent (Refused (misplaced c))) (met-more opts reply heard item r) refl

ready-more : (opts : EngineOpts) (heard : List Item) (item : Item) → GoesOn opts (ready_awaited opts heard) item (ready_awaited opts (heard ++ item ∷ []))
ready-more opts heard item = peer_awaited-more opts Ready (codes "READY") [] heard item (λ item. refl)

initiate-more : (opts : EngineOpts) (heard : List Item) (item : Item) → GoesOn opts (initiate_awaited opts heard) item (initiate_awaited opts (heard ++ item ∷ []))
initiate-more opts heard item = peer_awaited-more opts Initiate (codes "INITIATE") (our_ready opts ∷ []) heard item (λ item. refl)

welcome-more : (opts : EngineOpts) (heard : List Item) (item : Item) → GoesOn opts (welcome_awaited opts heard) item (welcome_awaited opts (heard ++ item ∷ []))
welcome-more opts [] item = refl
welcome-more opts (MessageFrame ∷ heard) item = refl
welcome-more opts (Malformed ∷ heard) item = refl
welcome-more opts (Told c ∷ heard) item =
    let refused : Handshake = silent (Refused (misplaced c)) in
    let more : List Item = heard ++ item ∷ [] in
    choice-more opts (is_called (codes "WELCOME") c) item (saying (our_initiate opts) (ready_awaited opts heard)) refused (saying (our_initiate opts) (ready_awaited opts more)) refused
    (saying-more opts (our_initiate opts) (ready_awaited opts heard) (ready_awaited opts more) item (ready-more opts heard item)) refl

hello-more : (opts : EngineOpts) (heard : List Item) (item : Item) → GoesOn opts (hello_awaited opts heard) item (hello_awaited opts (heard ++ item ∷ []))
hello-more opts [] item = refl
hello-more opts (MessageFrame ∷ heard) item = refl
hello-more opts (Malformed ∷ heard) item = refl
hello-more opts (Told c ∷ heard) item =
    let refused : Handshake = silent (Refused (misplaced c)) in
    let stranger : Handshake = saying our_error (silent (Refused NotWelcome)) in
    let before : Handshake = saying our_welcome (initiate_awaited opts heard) in
    let after : Handshake = saying our_welcome (initiate_awaited opts (heard ++ item ∷ [])) in
    let welcome : Bool = is_welcome opts.logins c.content in
    choice-more opts (not (is_called (codes "HELLO") c)) item refused (cond welcome before stranger) refused (cond welcome after stranger) refl
    (choice-more opts welcome item before stranger after stranger (saying-more opts our_welcome (initiate_awaited opts heard) (initiate_awaited opts (heard ++ item ∷ [])) item (initiate-more opts heard item)) refl)

as-more : (role : Role) (opts : EngineOpts) (heard : List Item) (item : Item) → GoesOn opts (handshake_as role opts heard) item (handshake_as role opts (heard ++ item ∷ []))
as-more Null opts heard item = saying-more opts (our_ready opts) (ready_awaited opts heard) (ready_awaited opts (heard ++ item ∷ [])) item (ready-more opts heard item)
as-more PlainClient opts heard item = saying-more opts (our_hello opts) (welcome_awaited opts heard) (welcome_awaited opts (heard ++ item ∷ [])) item (welcome-more opts heard item)
as-more PlainServer opts heard item = hello-more opts heard item

pub handshake-more : (opts : EngineOpts) (heard : List Item) (item : Item) → handshake opts (heard ++ item ∷ []) ≡ followed_by (handshake opts heard) (next opts (handshake opts heard).stage item)
handshake-more opts heard item = as-more opts.role opts heard item

-- ---- the peer

-- the peer is known where the handshake is done, and not while it waits
abbrev pub Agrees : Option Peer → Stage → Type 0
Agrees None (Waiting awaited) = Unit {0}
Agrees None Running = ⊥
Agrees None (Refused cause) = Unit {0}
Agrees (Some peer) (Waiting awaited) = ⊥
Agrees (Some peer) Running = Unit {0}
Agrees (Some peer) (Refused cause) = Unit {0}

running_agrees : (peer : Peer) (heard : List Item) → Agrees (Some peer) (running heard)
running_agrees peer [] = tt
running_agrees peer (MessageFrame ∷ heard) = running_agrees peer heard
running_agrees peer (Malformed ∷ heard) = tt
running_agrees peer (Told c ∷ heard) =
    let rest : (b : Bool) → Agrees (Some peer) (cond b (Refused PeerError) (running heard)) = λ b. elim b as (λ b. Agrees (Some peer) (cond b (Refused PeerError) (running heard))) [ true ↦ tt | false ↦ running_agrees peer heard ] in
    let e : Bool = is_called (codes "ERROR") c in
    elim (has_bad_meta c) as (λ b. Agrees (Some peer) (cond b (Refused BadMeta) (cond e (Refused PeerError) (running heard)))) [ true ↦ tt | false ↦ rest e ]

choice_agrees : (b : Bool) (x y : Handshake) → Agrees x.peer x.stage → Agrees y.peer y.stage → Agrees (cond b x y).peer (cond b x y).stage
choice_agrees true x y h k = h
choice_agrees false x y h k = k

met_agrees : (reply : List Command) (heard : List Item) (r : Result Peer Cause) → Agrees (met reply heard r).peer (met reply heard r).stage
met_agrees reply heard (Err cause) = tt
met_agrees reply heard (Ok peer) = running_agrees peer heard

peer_awaited_agrees : (opts : EngineOpts) (awaited : Awaited) (name : List _) (reply : List Command) (heard : List Item) → Agrees (peer_awaited opts awaited name reply heard).peer (peer_awaited opts awaited name reply heard).stage
peer_awaited_agrees opts awaited name reply [] = tt
peer_awaited_agrees opts awaited name reply (MessageFrame ∷ heard) = tt
peer_awaited_agrees opts awaited name reply (Malformed ∷ heard) = tt
peer_awaited_agrees opts awaited name reply (Told c ∷ heard) =
    let r : Result Peer Cause = peer_from opts.kind (decode_meta c.content) in
    choice_agrees (is_called name c) (met reply heard r) (silent (Refused (misplaced c))) (met_agrees reply heard r) tt

welcome_agrees : (opts : EngineOpts) (heard : List Item) → Agrees (welcome_awaited opts heard).peer (welcome_awaited opts heard).stage
welcome_agrees opts [] = tt
welcome_agrees opts (MessageFrame ∷ heard) = tt
welcome_agrees opts (Malformed ∷ heard) = tt
welcome_agrees opts (Told c ∷ heard) =
    choice_agrees (is_called (codes "WELCOME") c) (saying (our_initiate opts) (ready_awaited opts heard)) (silent (Refused (misplaced c))) (peer_awaited_agrees opts Ready (codes "READY") [] heard) tt

hello_agrees : (opts : EngineOpts) (heard : List Item) → Agrees (hello_awaited opts heard).peer (hello_awaited opts heard).stage
hello_agrees opts [] = tt
hello_agrees opts (MessageFrame ∷ heard) = tt
hello_agrees opts (Malformed ∷ heard) = tt
hello_agrees opts (Told c ∷ heard) =
    let refused : Handshake = silent (Refused (misplaced c)) in
    let stranger : Handshake = saying our_error (silent (Refused NotWelcome)) in
    let welcome : Handshake = saying our_welcome (initiate_awaited opts heard) in
    choice_agrees (not (is_called (codes "HELLO") c)) refused (cond (is_welcome opts.logins c.content) welcome stranger) tt
    (choice_agrees (is_welcome opts.logins c.content) welcome stranger (peer_awaited_agrees opts Initiate (codes "INITIATE") (our_ready opts ∷ []) heard) tt)

as_agrees : (role : Role) (opts : EngineOpts) (heard : List Item) → Agrees (handshake_as role opts heard).peer (handshake_as role opts heard).stage
as_agrees Null opts heard = peer_awaited_agrees opts Ready (codes "READY") [] heard
as_agrees PlainClient opts heard = welcome_agrees opts heard
as_agrees PlainServer opts heard = hello_agrees opts heard

waiting_peer : (p : Option Peer) (a : Awaited) → Agrees p (Waiting a) → p ≡ None
waiting_peer None a h = refl
waiting_peer (Some peer) a h = absurd h

running_peer : (p : Option Peer) → Agrees p Running → (peer : Peer) × (p ≡ Some peer)
running_peer None h = absurd h
running_peer (Some peer) h = (peer, refl)

pub peer-waiting : (opts : EngineOpts) (heard : List Item) (a : Awaited) → (handshake opts heard).stage ≡ Waiting a → (handshake opts heard).peer ≡ None
peer-waiting opts heard a is =
    let h : Handshake = handshake opts heard in
    waiting_peer h.peer a (subst (λ (s : Stage). Agrees h.peer s) is (as_agrees opts.role opts heard))

pub peer-running : (opts : EngineOpts) (heard : List Item) → (handshake opts heard).stage ≡ Running → (peer : Peer) × ((handshake opts heard).peer ≡ Some peer)
peer-running opts heard is =
    let h : Handshake = handshake opts heard in
    running_peer h.peer (subst (λ (s : Stage). Agrees h.peer s) is (as_agrees opts.role opts heard))
