-- What is said in a handshake has its form, and is brief.
use Rattle.std.proofs.Common.{◌≡◌, ℕ, ◌≤◌, Bool, true, false, cond, ltb, get_or, List, [], ◌∷◌, length, Option, Some, None, Result, Ok, Err, refl, sym, ap, subst, ◌∙◌, arith, length-append}
use Rattle.std.specs.Prelude.{◌&&◌, ◌||◌, not, All, IfSome, IsTrue, codes, slice_get}
use Rattle.std.proofs.lemmas.Bool.{leb-true, le-ltb}
use Rattle.std.proofs.lemmas.List.{append-nil}
use Rattle.std.proofs.lemmas.List.Elements.{All-nil, All-cons, All-head}
use Rattle.zq_base.specs.Kind.{kind_name}
use Rattle.zq_base.specs.declared.kind.Kind.{Kind}
use Rattle.zq_base.specs.declared.kind.Kind.TheVariants.{Push, Pull, Pair, Dealer, Req, Rep, Router, Pub, XPub, Sub, XSub}
use Rattle.zq_base.specs.declared.options.EngineOpts.{EngineOpts}
use Rattle.zq_base.specs.declared.options.Login.{Login}
use Rattle.zq_base.specs.declared.options.Peer.{Peer}
use Rattle.spec_zmtp.specs.declared.cause.Cause.{Cause}
use Rattle.spec_zmtp.specs.declared.cause.Cause.TheVariants.{NotWelcome}
use Rattle.spec_zmtp.specs.declared.command.Command.{Command}
use Rattle.spec_zmtp.specs.declared.handshake.Awaited.{Awaited}
use Rattle.spec_zmtp.specs.declared.handshake.Awaited.TheVariants.{Ready, Hello, Welcome, Initiate}
use Rattle.spec_zmtp.specs.declared.handshake.Stage.{Stage}
use Rattle.spec_zmtp.specs.declared.handshake.Stage.TheVariants as stage
use Rattle.spec_zmtp.specs.Metadata.{IsShort, IsCommand, encode_meta, IsLogin, is_called, command, property}
use Rattle.spec_zmtp.specs.Decoding.{decode_meta}
use Rattle.spec_zmtp.specs.PeerMetadata.{peer_from, is_identity}
use Rattle.spec_zmtp.specs.OwnCommands.{IsEngineOpts, tells_identity, own_properties, own_login, our_ready, our_initiate, our_hello, our_welcome, our_error}
use Rattle.spec_zmtp.specs.Handshake.{Item, Told, Malformed, MessageFrame, Handshake, silent, saying, met, misplaced, peer_awaited, is_welcome, next}
use Rattle.zmtp_mech.specs.declared.answer.Answer.{Answer}
use Rattle.zmtp_mech.specs.Mechanism.{answer_with, answer_at, answer_of, said_by, IsSayable}

-- ---- our commands

first_of_two : (a b : Bool) → (a && b) ≡ true → a ≡ true
first_of_two true b e = refl
first_of_two false b e = absurd cc

pub short_identity : (id : List ℕ) → IsTrue (is_identity id) → length id ≤ 255
short_identity id h = leb-true _ _ (first_of_two _ _ h)

meta_of : (kind : Kind) (id : List ℕ) → length id ≤ 255 → length (encode_meta (property (codes "Socket-Type") (kind_name kind) ∷ cond (tells_identity kind) (property (codes "Identity") id ∷ []) [])) ≤ 500
meta_of Push id h = omega (arith, ap (λ l. length l) (append-nil id))
meta_of Pull id h = omega (arith, ap (λ l. length l) (append-nil id))
meta_of Pair id h = omega (arith, ap (λ l. length l) (append-nil id))
meta_of Dealer id h = omega (arith, ap (λ l. length l) (append-nil id))
meta_of Req id h = omega (arith, ap (λ l. length l) (append-nil id))
meta_of Rep id h = omega (arith, ap (λ l. length l) (append-nil id))
meta_of Router id h = omega (arith, ap (λ l. length l) (append-nil id))
meta_of Pub id h = omega (arith, ap (λ l. length l) (append-nil id))
meta_of XPub id h = omega (arith, ap (λ l. length l) (append-nil id))
meta_of Sub id h = omega (arith, ap (λ l. length l) (append-nil id))
meta_of XSub id h = omega (arith, ap (λ l. length l) (append-nil id))

meta_short : (opts : EngineOpts) → IsEngineOpts opts → length (encode_meta (own_properties opts)) ≤ 500
meta_short opts h = meta_of opts.kind opts.id (short_identity opts.id h.identity)

own_login_short : (logins : List Login) → All IsLogin logins → IsLogin (own_login logins)
own_login_short [] h = (omega arith, omega arith)
own_login_short (l ∷ logins) h = All-head IsLogin l logins h

-- a name that is none of three
abbrev pub Plain : Command → Type 0
Plain c = (c.name ≡ codes "HELLO" → ⊥) × (c.name ≡ codes "ERROR" → ⊥) × (c.name ≡ codes "WELCOME" → ⊥)

differs_at : (i : ℕ) (xs ys : List ℕ) → ltb (get_or xs i 0) (get_or ys i 0) || ltb (get_or ys i 0) (get_or xs i 0) ≡ true → xs ≡ ys → ⊥
differs_at i xs ys apart e =
    let same : get_or xs i 0 ≡ get_or ys i 0 = ap (λ l. get_or l i 0) e in
    let none : ltb (get_or ys i 0) (get_or ys i 0) ≡ false = le-ltb _ _ (omega arith) in
    let clash : true ≡ false = sym apart ∙ ap (λ k. ltb k (get_or ys i 0) || ltb (get_or ys i 0) k) same ∙ ap (λ b. b || b) none in
    absurd cc

ready_plain : (content : List ℕ) → Plain (command (codes "READY") content)
ready_plain content = (differs_at 0 _ _ refl, differs_at 0 _ _ refl, differs_at 0 _ _ refl)

initiate_plain : (content : List ℕ) → Plain (command (codes "INITIATE") content)
initiate_plain content = (differs_at 0 _ _ refl, differs_at 0 _ _ refl, differs_at 0 _ _ refl)

plain_formed : (c : Command) → 1 ≤ length c.name → IsShort c.name → Plain c → IsCommand c
plain_formed c some short h = record { named = some; short = short; hello = λ e. absurd (h.0 e); error = λ e. absurd (h.1 e); welcome = λ e. absurd (h.2 e) }

pub ready_sayable : (opts : EngineOpts) → IsEngineOpts opts → IsSayable (our_ready opts)
ready_sayable opts h = record { formed = plain_formed (our_ready opts) (omega arith) (omega arith) (ready_plain (encode_meta (own_properties opts))); brief = omega (arith, meta_short opts h) }

pub initiate_sayable : (opts : EngineOpts) → IsEngineOpts opts → IsSayable (our_initiate opts)
initiate_sayable opts h = record { formed = plain_formed (our_initiate opts) (omega arith) (omega arith) (initiate_plain (encode_meta (own_properties opts))); brief = omega (arith, meta_short opts h) }

pub hello_sayable : (opts : EngineOpts) → IsEngineOpts opts → IsSayable (our_hello opts)
hello_sayable opts h =
    let l : Login = own_login opts.logins in
    let short : IsLogin l = own_login_short opts.logins h.logins in
    record {
      formed = record {
        named = omega arith;
        short = omega arith;
        hello = λ e. (l, short, refl);
        error = λ e. absurd (differs_at 0 _ _ refl e);
        welcome = λ e. absurd (differs_at 0 _ _ refl e);
      };
      brief = omega (arith, short.0, short.1, length-append l.user (length l.pass ∷ l.pass));
    }

pub welcome_sayable : IsSayable our_welcome
welcome_sayable = record {
  formed = record { named = omega arith; short = omega arith; hello = λ e. absurd (differs_at 0 _ _ refl e); error = λ e. absurd (differs_at 0 _ _ refl e); welcome = λ e. refl };
  brief = omega arith;
}

pub error_sayable : IsSayable our_error
error_sayable = record {
  formed = record { named = omega arith; short = omega arith; hello = λ e. absurd (differs_at 0 _ _ refl e); error = λ e. (codes "Not-welcome", omega arith, refl); welcome = λ e. absurd (differs_at 0 _ _ refl e) };
  brief = omega arith;
}

-- ---- what one item adds

one : (c : Command) → IsSayable c → All IsSayable (c ∷ [])
one c h = All-cons IsSayable c [] h (All-nil IsSayable)

choice_sayable : (b : Bool) (x y : Handshake) → All IsSayable x.said → All IsSayable y.said → All IsSayable (cond b x y).said
choice_sayable true x y h k = h
choice_sayable false x y h k = k

met_sayable : (reply : List Command) (r : Result Peer Cause) → All IsSayable reply → All IsSayable (met reply [] r).said
met_sayable reply (Ok peer) h = h
met_sayable reply (Err cause) h = All-nil IsSayable

peer_awaited_sayable : (opts : EngineOpts) (awaited : Awaited) (name : List ℕ) (reply : List Command) (item : Item) → All IsSayable reply → All IsSayable (peer_awaited opts awaited name reply (item ∷ [])).said
peer_awaited_sayable opts awaited name reply MessageFrame h = All-nil IsSayable
peer_awaited_sayable opts awaited name reply Malformed h = All-nil IsSayable
peer_awaited_sayable opts awaited name reply (Told c) h =
    let r : Result Peer Cause = peer_from opts.kind (decode_meta c.content) in
    choice_sayable (is_called name c) (met reply [] r) (silent (stage.Refused (misplaced c))) (met_sayable reply r h) (All-nil IsSayable)

next_sayable : (opts : EngineOpts) (s : Stage) (item : Item) → IsEngineOpts opts → All IsSayable (next opts s item).said
next_sayable opts stage.Running item h = All-nil IsSayable
next_sayable opts (stage.Refused cause) item h = All-nil IsSayable
next_sayable opts (stage.Waiting Ready) item h = peer_awaited_sayable opts Ready (codes "READY") [] item (All-nil IsSayable)
next_sayable opts (stage.Waiting Initiate) item h = peer_awaited_sayable opts Initiate (codes "INITIATE") (our_ready opts ∷ []) item (one (our_ready opts) (ready_sayable opts h))
next_sayable opts (stage.Waiting Welcome) MessageFrame h = All-nil IsSayable
next_sayable opts (stage.Waiting Welcome) Malformed h = All-nil IsSayable
next_sayable opts (stage.Waiting Welcome) (Told c) h =
    choice_sayable (is_called (codes "WELCOME") c) (saying (our_initiate opts) (silent (stage.Waiting Ready))) (silent (stage.Refused (misplaced c))) (one (our_initiate opts) (initiate_sayable opts h)) (All-nil IsSayable)
next_sayable opts (stage.Waiting Hello) MessageFrame h = All-nil IsSayable
next_sayable opts (stage.Waiting Hello) Malformed h = All-nil IsSayable
next_sayable opts (stage.Waiting Hello) (Told c) h =
    let stranger : Handshake = saying our_error (silent (stage.Refused NotWelcome)) in
    let welcome : Handshake = saying our_welcome (silent (stage.Waiting Initiate)) in
    choice_sayable (not (is_called (codes "HELLO") c)) (silent (stage.Refused (misplaced c))) (cond (is_welcome opts.logins c.content) welcome stranger) (All-nil IsSayable)
    (choice_sayable (is_welcome opts.logins c.content) welcome stranger (one our_welcome welcome_sayable) (one our_error error_sayable))

-- ---- answers

with_sayable : (peer : Option Peer) (say : Option Command) → IfSome say IsSayable → IfSome (said_by (answer_with peer say)) IsSayable
with_sayable (Some peer) say h = h
with_sayable None (Some c) h = h
with_sayable None None h = tt

at_sayable : (s : Stage) (peer : Option Peer) (say : Option Command) → IfSome say IsSayable → IfSome (said_by (answer_at s peer say)) IsSayable
at_sayable (stage.Waiting awaited) peer say h = with_sayable peer say h
at_sayable stage.Running peer say h = with_sayable peer say h
at_sayable (stage.Refused cause) peer say h = h

front_sayable : (said : List Command) → All IsSayable said → IfSome (slice_get said 0) IsSayable
front_sayable [] h = tt
front_sayable (c ∷ said) h = All-head IsSayable c said h

pub answer_sayable : (opts : EngineOpts) (s : Stage) (item : Item) (a : Answer) → IsEngineOpts opts → a ≡ answer_of (next opts s item) → IfSome (said_by a) IsSayable
answer_sayable opts s item a h is =
    let n : Handshake = next opts s item in
    subst (λ (x : Answer). IfSome (said_by x) IsSayable) (sym is) (at_sayable n.stage n.peer (slice_get n.said 0) (front_sayable n.said (next_sayable opts s item h)))

-- ---- what is said first

pub ready_said : (opts : EngineOpts) (c : Command) → IsEngineOpts opts → c ≡ our_ready opts → IsSayable c
ready_said opts c h is = subst (λ (x : Command). IsSayable x) (sym is) (ready_sayable opts h)

pub hello_said : (opts : EngineOpts) (c : Command) → IsEngineOpts opts → c ≡ our_hello opts → IsSayable c
hello_said opts c h is = subst (λ (x : Command). IsSayable x) (sym is) (hello_sayable opts h)
