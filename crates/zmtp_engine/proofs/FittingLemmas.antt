-- What a side says in a whole handshake, and that a side that fits accepts it.
use Rattle.std.proofs.Common.{◌≡◌, ℕ, ◌<◌, ◌≤◌, ◌^◌, Bool, true, false, cond, ltb, List, [], ◌∷◌, ◌++◌, length, Option, Some, None, Result, Ok, Err, refl, sym, ap, subst, ◌∙◌, append_assoc, arith}
use Rattle.std.specs.Prelude.{IsSome, All, codes, map, not, unwrap_or}
use Rattle.std.proofs.lemmas.List.{append-nil}
use Rattle.std.proofs.lemmas.List.Concat.{flat_map-cons}
use Rattle.std.proofs.lemmas.List.Elements.{All-nil, All-cons, All-head, All-tail}
use Rattle.std.proofs.lemmas.Slice.Eq.{bytes_eq-Decides}
use Rattle.zq_base.specs.Kind.{kind_name, fits}
use Rattle.zq_base.specs.declared.kind.Kind.{Kind}
use Rattle.zq_base.specs.declared.kind.Kind.TheVariants.{Push, Pull, Pair, Dealer, Req, Rep, Router, Pub, XPub, Sub, XSub}
use Rattle.zq_base.specs.declared.options.EngineOpts.{EngineOpts}
use Rattle.zq_base.specs.declared.options.Peer.{Peer}
use Rattle.zq_base.specs.declared.options.Role.{Role}
use Rattle.zq_base.specs.declared.options.Role.TheVariants.{Null, PlainClient, PlainServer}
use Rattle.spec_zmtp.specs.declared.cause.Cause.{Cause}
use Rattle.spec_zmtp.specs.declared.cause.Cause.TheVariants.{NotWelcome}
use Rattle.spec_zmtp.specs.declared.command.Command.{Command}
use Rattle.spec_zmtp.specs.declared.command.Property.{Property}
use Rattle.spec_zmtp.specs.declared.flags.FrameKind.TheVariants as kind
use Rattle.spec_zmtp.specs.declared.flags.Flags.{Flags}
use Rattle.spec_zmtp.specs.declared.greeting.Judgement.TheVariants.{Good}
use Rattle.spec_zmtp.specs.declared.handshake.Awaited.{Awaited}
use Rattle.spec_zmtp.specs.declared.handshake.Awaited.TheVariants as awaited
use Rattle.spec_zmtp.specs.declared.handshake.Stage.TheVariants.{Running, Refused}
use Rattle.spec_zmtp.specs.FrameEncoding.{WireFrame, encode_frame}
use Rattle.spec_zmtp.specs.FrameRules.{Gathered, gathered, bodies, items_of, between_refusal, flags_refusal, Keeps}
use Rattle.spec_zmtp.specs.Greeting.{greeting_of, judged}
use Rattle.spec_zmtp.specs.Metadata.{IsProperty, encode_command, encode_login, encode_meta, is_called, command, property}
use Rattle.spec_zmtp.specs.Decoding.{decode_command, decode_meta}
use Rattle.spec_zmtp.specs.PeerMetadata.{value_of, kind_named, is_identity, peer_fitting, peer_of, peer_from}
use Rattle.spec_zmtp.specs.OwnCommands.{IsEngineOpts, tells_identity, own_properties, own_login, our_ready, our_initiate, our_hello, our_welcome, our_error}
use Rattle.spec_zmtp.specs.Handshake.{Item, Told, Malformed, MessageFrame, Handshake, told, silent, saying, misplaced, met, ready_awaited, is_welcome, peer_awaited, welcome_awaited, hello_awaited, initiate_awaited, handshake, handshake_as, stage_refusal}
use Rattle.spec_zmtp.specs.DecodedStream.{Decoded, Decodes, octets_said, Unfinished, greeting_unfinished, greeting_refused, unfinished, refused, IsStream}
use Rattle.spec_zmtp.specs.Put.{IsSendable, encode_commands, messages_in}
use Rattle.spec_zmtp.proofs.CommandLemmas.{decode_command-encode_command}
use Rattle.spec_zmtp.proofs.FlagLemmas.{flags_at-flags_octet}
use Rattle.spec_zmtp.proofs.MetadataLemmas.{decode_meta-encode_meta}
use Rattle.spec_zmtp.proofs.SizeLemmas.{fits_size}
use Rattle.spec_zmtp.proofs.RuleLemmas.{items_of-push, gathered-push}
use Rattle.zmtp_mech.specs.Mechanism.{IsSayable}
use Rattle.zmtp_mech.proofs.SayableLemmas.{ready_sayable, initiate_sayable, hello_sayable, welcome_sayable, short_identity}
use Rattle.zmtp_engine.specs.Conversation.{Past, Conversation, Follows, IsCurrent, unwritten, waiting}
use Rattle.zmtp_engine.specs.Exchange.{IsHandshake, RolesMeet, Fitting, as_told}
use Rattle.zmtp_engine.proofs.Exchanges.{runs_mean, decoded_at, written, stream_push, no_some, decodes_as_offered, hears_as_offered}
use Rattle.zmtp_engine.proofs.Meaning.{length-greeting_of}

-- ---- what is told of oneself

abbrev told_by : Kind → List ℕ → List Property
told_by k id = property (codes "Socket-Type") (kind_name k) ∷ cond (tells_identity k) (property (codes "Identity") id ∷ []) []

short_name : (k : Kind) → length (kind_name k) < 2 ^ 32
short_name Push = omega arith
short_name Pull = omega arith
short_name Pair = omega arith
short_name Dealer = omega arith
short_name Req = omega arith
short_name Rep = omega arith
short_name Router = omega arith
short_name Pub = omega arith
short_name XPub = omega arith
short_name Sub = omega arith
short_name XSub = omega arith

all_properties : (k : Kind) (id : List ℕ) → length id ≤ 255 → All IsProperty (told_by k id)
all_properties k id short =
    let first : IsProperty (property (codes "Socket-Type") (kind_name k)) = record { named = omega arith; short = omega arith; octets = refl; fits = short_name k } in
    let second : IsProperty (property (codes "Identity") id) = record { named = omega arith; short = omega arith; octets = refl; fits = omega arith } in
    let rest : (b : Bool) → All IsProperty (cond b (property (codes "Identity") id ∷ []) []) =
    λ b. elim b as (λ b. All IsProperty (cond b (property (codes "Identity") id ∷ []) [])) [ true ↦ All-cons IsProperty _ [] second (All-nil IsProperty) | false ↦ All-nil IsProperty ] in
    All-cons IsProperty _ _ first (rest (tells_identity k))

kind_again : (k : Kind) → kind_named (kind_name k) ≡ Some k
kind_again Push = refl
kind_again Pull = refl
kind_again Pair = refl
kind_again Dealer = refl
kind_again Req = refl
kind_again Rep = refl
kind_again Router = refl
kind_again Pub = refl
kind_again XPub = refl
kind_again Sub = refl
kind_again XSub = refl

kind_told : (k : Kind) (id : List ℕ) → value_of (codes "Socket-Type") (told_by k id) ≡ Some (kind_name k)
kind_told k id = refl

identity_at : (b : Bool) (k : Kind) (id : List ℕ) → unwrap_or (value_of (codes "Identity") (property (codes "Socket-Type") (kind_name k) ∷ cond b (property (codes "Identity") id ∷ []) [])) [] ≡ cond b id []
identity_at true k id = refl
identity_at false k id = refl

is_identity_at : (b : Bool) (id : List ℕ) → is_identity id ≡ true → is_identity (cond b id []) ≡ true
is_identity_at true id h = h
is_identity_at false id h = refl

peer_fits : (ours k : Kind) (id : List ℕ) → fits ours k ≡ true → is_identity id ≡ true → peer_fitting ours id (Some k) ≡ Ok (record { kind = k; identity = id })
peer_fits ours k id f i = rw (f, i) refl

peer_is : (ours k : Kind) (id : List ℕ) → fits ours k ≡ true → is_identity id ≡ true → peer_of ours (told_by k id) ≡ Ok (record { kind = k; identity = cond (tells_identity k) id [] })
unfolding peer_of
peer_is ours k id f i =
    ap (λ (o : Option (List ℕ)). peer_fitting ours (unwrap_or (value_of (codes "Identity") (told_by k id)) []) (kind_named (unwrap_or o []))) (kind_told k id)
    ∙ ap (λ (o : Option Kind). peer_fitting ours (unwrap_or (value_of (codes "Identity") (told_by k id)) []) o) (kind_again k)
    ∙ ap (λ (l : List ℕ). peer_fitting ours l (Some k)) (identity_at (tells_identity k) k id)
    ∙ peer_fits ours k (cond (tells_identity k) id []) f (is_identity_at (tells_identity k) id i)

-- the metadata of a side is that peer to another
pub peer_told : (ours : Kind) (opts : EngineOpts) → IsEngineOpts opts → fits ours opts.kind ≡ true → peer_from ours (decode_meta (encode_meta (own_properties opts))) ≡ Ok (as_told opts)
peer_told ours opts h f =
    ap (λ (o : Option (List Property)). peer_from ours o) (decode_meta-encode_meta (own_properties opts) (all_properties opts.kind opts.id (short_identity opts.id h.identity)))
    ∙ peer_is ours opts.kind opts.id f h.identity

-- ---- what is said in a whole handshake

abbrev pub whole_said : Role → EngineOpts → List Command
whole_said Null opts = our_ready opts ∷ []
whole_said PlainClient opts = our_hello opts ∷ our_initiate opts ∷ []
whole_said PlainServer opts = our_welcome ∷ our_ready opts ∷ []

no_peer : {A : Type 0} → IsSome {T = Peer} None → A
no_peer e = absurd cc

met_said : (reply : List Command) (heard : List Item) (r : Result Peer Cause) → IsSome (met reply heard r).peer → (met reply heard r).said ≡ reply
met_said reply heard (Err cause) known = no_peer known
met_said reply heard (Ok peer) known = refl

-- a choice that knows a peer is its first side, where the second knows none
chosen_said : (b : Bool) (x y : Handshake) (said : List Command) → (IsSome x.peer → x.said ≡ said) → y.peer ≡ None → IsSome (cond b x y).peer → (cond b x y).said ≡ said
chosen_said true x y said h none known = h known
chosen_said false x y said h none known = absurd (no_some y.peer none known)

peer_awaited_said : (opts : EngineOpts) (a : Awaited) (name : List ℕ) (reply : List Command) (heard : List Item) → IsSome (peer_awaited opts a name reply heard).peer → (peer_awaited opts a name reply heard).said ≡ reply
peer_awaited_said opts a name reply [] known = no_peer known
peer_awaited_said opts a name reply (MessageFrame ∷ heard) known = no_peer known
peer_awaited_said opts a name reply (Malformed ∷ heard) known = no_peer known
peer_awaited_said opts a name reply (Told c ∷ heard) known =
    let r : Result Peer Cause = peer_from opts.kind (decode_meta c.content) in
    chosen_said (is_called name c) (met reply heard r) (silent (Refused (misplaced c))) reply (met_said reply heard r) refl known

welcome_awaited_said : (opts : EngineOpts) (heard : List Item) → IsSome (welcome_awaited opts heard).peer → (welcome_awaited opts heard).said ≡ our_initiate opts ∷ []
welcome_awaited_said opts [] known = no_peer known
welcome_awaited_said opts (MessageFrame ∷ heard) known = no_peer known
welcome_awaited_said opts (Malformed ∷ heard) known = no_peer known
welcome_awaited_said opts (Told c ∷ heard) known =
    chosen_said (is_called (codes "WELCOME") c) (saying (our_initiate opts) (ready_awaited opts heard)) (silent (Refused (misplaced c))) (our_initiate opts ∷ [])
    (λ some. ap (λ (l : List Command). our_initiate opts ∷ l) (peer_awaited_said opts awaited.Ready (codes "READY") [] heard some)) refl known

hello_awaited_said : (opts : EngineOpts) (heard : List Item) → IsSome (hello_awaited opts heard).peer → (hello_awaited opts heard).said ≡ our_welcome ∷ our_ready opts ∷ []
hello_awaited_said opts [] known = no_peer known
hello_awaited_said opts (MessageFrame ∷ heard) known = no_peer known
hello_awaited_said opts (Malformed ∷ heard) known = no_peer known
hello_awaited_said opts (Told c ∷ heard) known =
    let stranger : Handshake = saying our_error (silent (Refused NotWelcome)) in
    let welcome : Handshake = saying our_welcome (initiate_awaited opts heard) in
    server_said (is_called (codes "HELLO") c) (is_welcome opts.logins c.content) welcome (silent (Refused (misplaced c))) stranger (our_welcome ∷ our_ready opts ∷ [])
    (λ some. ap (λ (l : List Command). our_welcome ∷ l) (peer_awaited_said opts awaited.Initiate (codes "INITIATE") (our_ready opts ∷ []) heard some)) refl refl known
  where
    server_said : (b d : Bool) (x y z : Handshake) (said : List Command) → (IsSome x.peer → x.said ≡ said) → y.peer ≡ None → z.peer ≡ None → IsSome (cond (not b) y (cond d x z)).peer → (cond (not b) y (cond d x z)).said ≡ said
    server_said true d x y z said h none none' known = chosen_said d x z said h none' known
    server_said false d x y z said h none none' known = absurd (no_some y.peer none known)

-- once the peer is known, all is said
pub handshake_said : (role : Role) (opts : EngineOpts) (heard : List Item) → IsSome (handshake_as role opts heard).peer → (handshake_as role opts heard).said ≡ whole_said role opts
handshake_said Null opts heard known = ap (λ (l : List Command). our_ready opts ∷ l) (peer_awaited_said opts awaited.Ready (codes "READY") [] heard known)
handshake_said PlainClient opts heard known = ap (λ (l : List Command). our_hello opts ∷ l) (welcome_awaited_said opts heard known)
handshake_said PlainServer opts heard known = hello_awaited_said opts heard known

said_is : (opts : EngineOpts) (octets : List ℕ) (d : Decoded) → Decodes opts octets d → IsSome d.peer → d.said ≡ whole_said opts.role opts
said_is opts octets d (greeting_unfinished j is) known = absurd (no_some d.peer (ap (λ (e : Decoded). e.peer) is) known)
said_is opts octets d (greeting_refused r j is) known = absurd (no_some d.peer (ap (λ (e : Decoded). e.peer) is) known)
said_is opts octets d (unfinished fs x s cut is) known =
    ap (λ (e : Decoded). e.said) is
    ∙ handshake_said opts.role opts (items_of fs ++ []) (subst (λ (p : Option Peer). IsSome p) (ap (λ (e : Decoded). e.peer) is) known)
said_is opts octets d (refused fs x cause heard s breaks is) known =
    ap (λ (e : Decoded). e.said) is
    ∙ handshake_said opts.role opts (items_of fs ++ heard) (subst (λ (p : Option Peer). IsSome p) (ap (λ (e : Decoded). e.peer) is) known)

-- ---- what is heard of it

-- none of these commands is refused behind these items
abbrev pub NoneRefused : Role → EngineOpts → List Item → List Command → Type 0
NoneRefused role other before [] = Unit {0}
NoneRefused role other before (c ∷ cs) = (stage_refusal (handshake_as role other (before ++ Told c ∷ [])).stage ≡ None) × NoneRefused role other (before ++ Told c ∷ []) cs

-- to a side of this role these commands are a whole handshake of this peer
pub record Accepts (role : Role) (other : EngineOpts) (cs : List Command) (peer : Peer) : Type 0 where
  pub sayable : All IsSayable cs
  pub unrefused : NoneRefused role other [] cs
  pub known : (handshake_as role other (map (λ (c : Command). Told c) cs)).peer ≡ Some peer

called : (name content : List ℕ) → is_called name (command name content) ≡ true
called name content = (bytes_eq-Decides name name).1 refl

-- the awaited metadata is heard
meets : (opts : EngineOpts) (a : Awaited) (name content : List ℕ) (reply : List Command) (peer : Peer) → peer_from opts.kind (decode_meta content) ≡ Ok peer
    → peer_awaited opts a name reply (Told (command name content) ∷ []) ≡ record { said = reply; peer = Some peer; stage = Running }
meets opts a name content reply peer is = rw (called name content, is) refl

one : (c : Command) → IsSayable c → All IsSayable (c ∷ [])
one c h = All-cons IsSayable c [] h (All-nil IsSayable)

two : (c d : Command) → IsSayable c → IsSayable d → All IsSayable (c ∷ d ∷ [])
two c d h k = All-cons IsSayable c (d ∷ []) h (one d k)

-- a WELCOME is heard
pub welcomed : (other : EngineOpts) (heard : List Item) → welcome_awaited other (Told our_welcome ∷ heard) ≡ saying (our_initiate other) (ready_awaited other heard)
welcomed other heard = ap (λ (b : Bool). cond b (saying (our_initiate other) (ready_awaited other heard)) (silent (Refused (misplaced our_welcome)))) (called (codes "WELCOME") [])

-- the HELLO of a login that is accepted is heard
pub greeted : (other : EngineOpts) (content : List ℕ) (heard : List Item) → is_welcome other.logins content ≡ true → hello_awaited other (Told (command (codes "HELLO") content) ∷ heard) ≡ saying our_welcome (initiate_awaited other heard)
greeted other content heard w =
    let refuse : Handshake = silent (Refused (misplaced (command (codes "HELLO") content))) in
    let stranger : Handshake = saying our_error (silent (Refused NotWelcome)) in
    let welcome : Handshake = saying our_welcome (initiate_awaited other heard) in
    ap (λ (b : Bool). cond (not b) refuse (cond (is_welcome other.logins content) welcome stranger)) (called (codes "HELLO") content) ∙ ap (λ (b : Bool). cond b welcome stranger) w

pub accepts : (role theirs : Role) (opts other : EngineOpts) → IsEngineOpts opts → RolesMeet role theirs opts other → peer_from other.kind (decode_meta (encode_meta (own_properties opts))) ≡ Ok (as_told opts)
    → Accepts theirs other (whole_said role opts) (as_told opts)
accepts Null Null opts other h meet is =
    let m = meets other awaited.Ready (codes "READY") (encode_meta (own_properties opts)) [] (as_told opts) is in
    record {
      sayable = one (our_ready opts) (ready_sayable opts h);
      unrefused = (ap (λ (x : Handshake). stage_refusal x.stage) m, tt);
      known = ap (λ (x : Handshake). x.peer) m;
    }
accepts Null PlainClient opts other h meet is = absurd meet
accepts Null PlainServer opts other h meet is = absurd meet
accepts PlainClient Null opts other h meet is = absurd meet
accepts PlainClient PlainClient opts other h meet is = absurd meet
accepts PlainClient PlainServer opts other h meet is =
    let m = meets other awaited.Initiate (codes "INITIATE") (encode_meta (own_properties opts)) (our_ready other ∷ []) (as_told opts) is in
    let content : List ℕ = encode_login (own_login opts.logins) in
    let g = greeted other content [] meet in
    let w = greeted other content (Told (our_initiate opts) ∷ []) meet in
    record {
      sayable = two (our_hello opts) (our_initiate opts) (hello_sayable opts h) (initiate_sayable opts h);
      unrefused = (ap (λ (x : Handshake). stage_refusal x.stage) g, (ap (λ (x : Handshake). stage_refusal x.stage) w ∙ ap (λ (x : Handshake). stage_refusal x.stage) m, tt));
      known = ap (λ (x : Handshake). x.peer) w ∙ ap (λ (x : Handshake). x.peer) m;
    }
accepts PlainServer Null opts other h meet is = absurd meet
accepts PlainServer PlainClient opts other h meet is =
    let m = meets other awaited.Ready (codes "READY") (encode_meta (own_properties opts)) [] (as_told opts) is in
    let g = welcomed other [] in
    let w = welcomed other (Told (our_ready opts) ∷ []) in
    record {
      sayable = two our_welcome (our_ready opts) welcome_sayable (ready_sayable opts h);
      unrefused = (ap (λ (x : Handshake). stage_refusal x.stage) g, (ap (λ (x : Handshake). stage_refusal x.stage) w ∙ ap (λ (x : Handshake). stage_refusal x.stage) m, tt));
      known = ap (λ (x : Handshake). x.peer) w ∙ ap (λ (x : Handshake). x.peer) m;
    }
accepts PlainServer PlainServer opts other h meet is = absurd meet

-- sides whose mechanisms meet take each other's greeting
pub greeting_accepted : (role theirs : Role) (opts other : EngineOpts) → RolesMeet role theirs opts other → judged theirs (greeting_of role) ≡ Good
greeting_accepted Null Null opts other meet = refl
greeting_accepted Null PlainClient opts other meet = absurd meet
greeting_accepted Null PlainServer opts other meet = absurd meet
greeting_accepted PlainClient Null opts other meet = absurd meet
greeting_accepted PlainClient PlainClient opts other meet = absurd meet
greeting_accepted PlainClient PlainServer opts other meet = refl
greeting_accepted PlainServer Null opts other meet = absurd meet
greeting_accepted PlainServer PlainClient opts other meet = refl
greeting_accepted PlainServer PlainServer opts other meet = absurd meet

-- ---- the stream of it

-- a greeting and commands of these items
pub record Spoken (other : EngineOpts) (octets : List ℕ) (items : List Item) : Type 0 where
  frames : List WireFrame
  stream : IsStream other octets frames []
  items_are : items_of frames ≡ items
  nothing : gathered frames ≡ record { whole = []; unfinished = [] }

command_item : (c : Command) → IsSayable c → told (decode_command (encode_command c)) ≡ Told c
command_item c h = ap told (decode_command-encode_command c h.formed)

command_more : (other : EngineOpts) (octets : List ℕ) (items : List Item) (c : Command) → IsSayable c → stage_refusal (handshake other (items ++ Told c ∷ [])).stage ≡ None → Spoken other octets items
    → Spoken other (octets ++ encode_frame kind.Command (encode_command c)) (items ++ Told c ∷ [])
command_more other octets items c h fine r =
    let f : WireFrame = written kind.Command (encode_command c) in
    let more : items_of r.frames ++ told (decode_command (encode_command c)) ∷ [] ≡ items ++ Told c ∷ [] =
    ap (λ (i : Item). items_of r.frames ++ i ∷ []) (command_item c h) ∙ ap (λ (l : List Item). l ++ Told c ∷ []) r.items_are in
    let keeps : Keeps other r.frames f = record {
      frame = record { fits = fits_size (length (encode_command c)) (omega (arith, h.brief)); within = omega (arith, h.brief) };
      in_place = ap (λ (o : Option Flags). flags_refusal other r.frames o) (flags_at-flags_octet kind.Command (ltb 255 (length (encode_command c)))) ∙ ap (λ (g : Gathered). between_refusal g.unfinished) r.nothing;
      heard = ap (λ (l : List Item). stage_refusal (handshake other l).stage) more ∙ fine;
    } in
    record {
      frames = r.frames ++ f ∷ [];
      stream = stream_push other octets r.frames f r.stream keeps;
      items_are = items_of-push r.frames f ∙ more;
      nothing = gathered-push r.frames f ∙ r.nothing;
    }

commands_more : (other : EngineOpts) (octets : List ℕ) (items : List Item) (cs : List Command) → All IsSayable cs → NoneRefused other.role other items cs → Spoken other octets items
    → Spoken other (octets ++ encode_commands cs) (items ++ map (λ (c : Command). Told c) cs)
commands_more other octets items [] all fine r = rw (append-nil octets, append-nil items) r
commands_more other octets items (c ∷ cs) all fine r =
    let first : List ℕ = encode_frame kind.Command (encode_command c) in
    let one = command_more other octets items c (All-head IsSayable c cs all) fine.0 r in
    let rest = commands_more other (octets ++ first) (items ++ Told c ∷ []) cs (All-tail IsSayable c cs all) fine.1 one in
    subst (λ (o : List ℕ). Spoken other o (items ++ Told c ∷ map (λ (c : Command). Told c) cs))
    (append_assoc octets first (encode_commands cs) ∙ ap (λ (x : List ℕ). octets ++ x) (sym (flat_map-cons (λ (c : Command). encode_frame kind.Command (encode_command c)) c cs)))
    (subst (λ (l : List Item). Spoken other ((octets ++ first) ++ encode_commands cs) l) (append_assoc items (Told c ∷ []) (map (λ (c : Command). Told c) cs)) rest)

pub spoken_means : (other : EngineOpts) (octets : List ℕ) (items : List Item) → Spoken other octets items → Decodes other octets (decoded_at other (handshake other items) [])
spoken_means other octets items r =
    runs_mean other octets (handshake other items) [] (record {
      frames = r.frames;
      stream = r.stream;
      shaken = ap (λ (l : List Item). handshake other l) r.items_are;
      whole_is = ap (λ (g : Gathered). g.whole) r.nothing;
      parts_are = sym (ap (λ (g : Gathered). bodies g.unfinished) r.nothing);
    })

-- a greeting that is accepted, and commands behind it
pub spoken : (other : EngineOpts) (greeting : List ℕ) (cs : List Command) → length greeting ≡ 64 → judged other.role greeting ≡ Good → All IsSayable cs → NoneRefused other.role other [] cs
    → Spoken other (greeting ++ encode_commands cs) (map (λ (c : Command). Told c) cs)
spoken other greeting cs len good all fine =
    commands_more other greeting [] cs all fine (record {
      frames = [];
      stream = record { greeting = greeting; whole = len; accepted = good; all = sym (append-nil greeting); keep = tt };
      items_are = refl;
      nothing = refl;
    })

some_is : (p : Option Peer) (q : Peer) → p ≡ Some q → IsSome p
some_is p q e = subst (λ (o : Option Peer). IsSome o) (sym e) refl

-- what a side says is a whole handshake to one that accepts it
whole_heard : (other : EngineOpts) (greeting : List ℕ) (cs : List Command) (peer : Peer) → length greeting ≡ 64 → judged other.role greeting ≡ Good → Accepts other.role other cs peer
    → (heard : Decoded) × IsHandshake other (greeting ++ encode_commands cs) heard × (heard.peer ≡ Some peer)
whole_heard other greeting cs peer len good a =
    let items : List Item = map (λ (c : Command). Told c) cs in
    let means = spoken_means other (greeting ++ encode_commands cs) items (spoken other greeting cs len good a.sayable a.unrefused) in (
      decoded_at other (handshake other items) [],
      record { decodes = means; known = some_is (handshake other items).peer peer a.known; alone = refl; whole = refl },
      a.known,
    )

pub fitting_handshake : (opts other : EngineOpts) (octets : List ℕ) (said : Decoded) → Fitting opts other → Decodes opts octets said → IsSome said.peer → (heard : Decoded) × IsHandshake other (octets_said opts said) heard × (heard.peer ≡ Some (as_told opts))
fitting_handshake opts other octets said f is known =
    let a = accepts opts.role other.role opts other f.ours f.roles (peer_told other.kind opts f.ours f.kinds) in
    subst (λ (o : List ℕ). (heard : Decoded) × IsHandshake other o heard × (heard.peer ≡ Some (as_told opts))) (sym (ap (λ (cs : List Command). greeting_of opts.role ++ encode_commands cs) (said_is opts octets said is known)))
    (whole_heard other (greeting_of opts.role) (whole_said opts.role opts) (as_told opts) (length-greeting_of opts.role) (greeting_accepted opts.role other.role opts other f.roles) a)

pub fitting_decodes : (p : Past) (c : Conversation) (said : Decoded) (other : EngineOpts) → Follows p c → IsCurrent c → unwritten c ≡ [] → All IsSendable (messages_in p.put) → Decodes p.opts p.heard said → IsSome said.peer → Fitting p.opts other
    → (heard : Decoded) × Decodes other p.written heard × (heard.messages ≡ messages_in p.put) × (heard.peer ≡ Some (as_told p.opts)) × (heard.outcome ≡ Unfinished 0)
fitting_decodes p c said other f now none all is known fit =
    let h = fitting_handshake p.opts other p.heard said fit is known in
    let d : Decoded = h.0 in
    (record d { messages = messages_in p.put }, decodes_as_offered p c said other d f now none all is h.1, refl, h.2, h.1.whole)

pub fitting_hears : (p q : Past) (c e : Conversation) (said : Decoded) → Follows p c → IsCurrent c → unwritten c ≡ [] → All IsSendable (messages_in p.put) → Decodes p.opts p.heard said → IsSome said.peer → Follows q e → IsCurrent e → q.heard ≡ p.written
    → Fitting p.opts q.opts → q.given ++ waiting e ≡ messages_in p.put
fitting_hears p q c e said f now none all is known g now' same fit =
    let h = fitting_handshake p.opts q.opts p.heard said fit is known in
    hears_as_offered p q c e said h.0 f now none all is g now' same h.1
