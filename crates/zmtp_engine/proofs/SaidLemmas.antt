-- What a side says in a handshake: few commands, told apart by their octets.
use Rattle.std.proofs.Common.{◌≡◌, ℕ, suc, ◌≤◌, Bool, true, false, cond, ltb, List, [], ◌∷◌, ◌++◌, length, Some, Result, Ok, Err, refl, sym, ap, subst, ◌∙◌, append_assoc, arith}
use Rattle.std.specs.Prelude.{All, codes, not}
use Rattle.std.proofs.lemmas.List.{length-append}
use Rattle.std.proofs.lemmas.List.Elements.{All-nil, All-cons, All-head, All-tail}
use Rattle.zq_base.specs.declared.options.EngineOpts.{EngineOpts}
use Rattle.zq_base.specs.declared.options.Peer.{Peer}
use Rattle.zq_base.specs.declared.options.Role.{Role}
use Rattle.zq_base.specs.declared.options.Role.TheVariants.{Null, PlainClient, PlainServer}
use Rattle.spec_zmtp.specs.declared.cause.Cause.{Cause}
use Rattle.spec_zmtp.specs.declared.cause.Cause.TheVariants.{NotWelcome}
use Rattle.spec_zmtp.specs.declared.command.Command as command
use Rattle.spec_zmtp.specs.declared.flags.FrameKind.TheVariants.{Command}
use Rattle.spec_zmtp.specs.declared.handshake.Awaited.{Awaited}
use Rattle.spec_zmtp.specs.declared.handshake.Awaited.TheVariants as awaited
use Rattle.spec_zmtp.specs.declared.handshake.Stage.TheVariants.{Refused}
use Rattle.spec_zmtp.specs.FrameEncoding.{WireFrame, IsWireFrame, encode_head}
use Rattle.spec_zmtp.specs.FrameRules.{items_of}
use Rattle.spec_zmtp.specs.Metadata.{encode_command, is_called}
use Rattle.spec_zmtp.specs.Decoding.{decode_command, decode_meta}
use Rattle.spec_zmtp.specs.PeerMetadata.{peer_from}
use Rattle.spec_zmtp.specs.OwnCommands.{IsEngineOpts, our_ready, our_initiate, our_hello, our_welcome, our_error}
use Rattle.spec_zmtp.specs.Handshake.{Item, Told, Malformed, MessageFrame, Handshake, silent, saying, misplaced, met, ready_awaited, is_welcome, peer_awaited, welcome_awaited, hello_awaited, initiate_awaited, handshake, handshake_as}
use Rattle.spec_zmtp.specs.Put.{encode_said, encode_commands}
use Rattle.spec_zmtp.specs.DecodedStream.{Decoded, Decodes, greeting_unfinished, greeting_refused, unfinished, refused}
use Rattle.spec_zmtp.proofs.CommandLemmas.{decode_command-encode_command}
use Rattle.spec_zmtp.proofs.FrameLemmas.{one_frame}
use Rattle.spec_zmtp.proofs.SizeLemmas.{length-head, fits_size}
use Rattle.zmtp_mech.specs.Mechanism.{IsSayable}
use Rattle.zmtp_mech.proofs.SayableLemmas.{ready_sayable, initiate_sayable, hello_sayable, welcome_sayable, error_sayable}
use Rattle.zmtp_engine.specs.Speech.{IsModest}

-- ---- few commands

-- at most so many commands, each of which can be said
abbrev Brief : ℕ → List command.Command → Type 0
Brief n cs = (length cs ≤ n) × All IsSayable cs

none_brief : (n : ℕ) → Brief n []
none_brief n = (omega arith, All-nil IsSayable)

one_brief : (c : command.Command) → IsSayable c → Brief 1 (c ∷ [])
one_brief c h = (omega arith, All-cons IsSayable c [] h (All-nil IsSayable))

choice_brief : (n : ℕ) (b : Bool) (x y : Handshake) → Brief n x.said → Brief n y.said → Brief n (cond b x y).said
choice_brief n true x y h k = h
choice_brief n false x y h k = k

saying_brief : (n : ℕ) (c : command.Command) (h : Handshake) → IsSayable c → Brief n h.said → Brief (suc n) (saying c h).said
saying_brief n c h one b = (omega (arith, b.0), All-cons IsSayable c h.said one b.1)

met_brief : (n : ℕ) (reply : List command.Command) (heard : List Item) (r : Result Peer Cause) → Brief n reply → Brief n (met reply heard r).said
met_brief n reply heard (Ok peer) b = b
met_brief n reply heard (Err cause) b = none_brief n

peer_brief : (n : ℕ) (opts : EngineOpts) (a : Awaited) (name : List ℕ) (reply : List command.Command) (heard : List Item) → Brief n reply → Brief n (peer_awaited opts a name reply heard).said
peer_brief n opts a name reply [] b = none_brief n
peer_brief n opts a name reply (MessageFrame ∷ heard) b = none_brief n
peer_brief n opts a name reply (Malformed ∷ heard) b = none_brief n
peer_brief n opts a name reply (Told c ∷ heard) b =
    let r : Result Peer Cause = peer_from opts.kind (decode_meta c.content) in
    choice_brief n (is_called name c) (met reply heard r) (silent (Refused (misplaced c))) (met_brief n reply heard r b) (none_brief n)

welcome_brief : (opts : EngineOpts) (heard : List Item) → IsEngineOpts opts → Brief 1 (welcome_awaited opts heard).said
welcome_brief opts [] h = none_brief 1
welcome_brief opts (MessageFrame ∷ heard) h = none_brief 1
welcome_brief opts (Malformed ∷ heard) h = none_brief 1
welcome_brief opts (Told c ∷ heard) h =
    choice_brief 1 (is_called (codes "WELCOME") c) (saying (our_initiate opts) (ready_awaited opts heard)) (silent (Refused (misplaced c)))
    (saying_brief 0 (our_initiate opts) (ready_awaited opts heard) (initiate_sayable opts h) (peer_brief 0 opts awaited.Ready (codes "READY") [] heard (none_brief 0))) (none_brief 1)

hello_brief : (opts : EngineOpts) (heard : List Item) → IsEngineOpts opts → Brief 2 (hello_awaited opts heard).said
hello_brief opts [] h = none_brief 2
hello_brief opts (MessageFrame ∷ heard) h = none_brief 2
hello_brief opts (Malformed ∷ heard) h = none_brief 2
hello_brief opts (Told c ∷ heard) h =
    let refuse : Handshake = silent (Refused (misplaced c)) in
    let stranger : Handshake = saying our_error (silent (Refused NotWelcome)) in
    let welcome : Handshake = saying our_welcome (initiate_awaited opts heard) in
    choice_brief 2 (not (is_called (codes "HELLO") c)) refuse (cond (is_welcome opts.logins c.content) welcome stranger) (none_brief 2)
    (choice_brief 2 (is_welcome opts.logins c.content) welcome stranger
    (saying_brief 1 our_welcome (initiate_awaited opts heard) welcome_sayable (peer_brief 1 opts awaited.Initiate (codes "INITIATE") (our_ready opts ∷ []) heard (one_brief (our_ready opts) (ready_sayable opts h))))
    (saying_brief 1 our_error (silent (Refused NotWelcome)) error_sayable (none_brief 1)))

handshake_brief : (role : Role) (opts : EngineOpts) (heard : List Item) → IsEngineOpts opts → Brief 2 (handshake_as role opts heard).said
handshake_brief Null opts heard h = saying_brief 1 (our_ready opts) (ready_awaited opts heard) (ready_sayable opts h) (peer_brief 1 opts awaited.Ready (codes "READY") [] heard (none_brief 1))
handshake_brief PlainClient opts heard h = saying_brief 1 (our_hello opts) (welcome_awaited opts heard) (hello_sayable opts h) (welcome_brief opts heard h)
handshake_brief PlainServer opts heard h = hello_brief opts heard h

pub modest : (opts : EngineOpts) (items : List Item) → IsEngineOpts opts → IsModest (handshake opts items).said
modest opts items h = handshake_brief opts.role opts items h

pub none_modest : IsModest []
none_modest = none_brief 2

modest_as : (d e : Decoded) → d ≡ e → IsModest e.said → IsModest d.said
modest_as d e is m = subst (λ (x : Decoded). IsModest x.said) (sym is) m

pub decodes_modest : (opts : EngineOpts) (octets : List ℕ) (d : Decoded) → IsEngineOpts opts → Decodes opts octets d → IsModest d.said
decodes_modest opts octets d h (greeting_unfinished j is) = modest_as d _ is none_modest
decodes_modest opts octets d h (greeting_refused r j is) = modest_as d _ is none_modest
decodes_modest opts octets d h (unfinished fs x s cut is) = modest_as d _ is (modest opts (items_of fs ++ []) h)
decodes_modest opts octets d h (refused fs x cause heard s breaks is) = modest_as d _ is (modest opts (items_of fs ++ heard) h)

-- ---- their octets

-- the frame of a command
abbrev pub said_frame : command.Command → WireFrame
said_frame c = record { kind = Command; long = ltb 255 (length (encode_command c)); body = encode_command c }

pub said_wire : (c : command.Command) → IsSayable c → IsWireFrame (said_frame c)
said_wire c h = record { fits = fits_size (length (encode_command c)) (omega (arith, h.brief)); within = omega (arith, h.brief) }

length-said : (c : command.Command) → IsSayable c → length (encode_said c) ≤ 1009
length-said c h = omega (arith, h.brief, length-append (encode_head Command (length (encode_command c))) (encode_command c), length-head Command (ltb 255 (length (encode_command c))) (length (encode_command c)))

pub length-commands : (cs : List command.Command) → IsModest cs → length (encode_commands cs) ≤ 2018
length-commands [] m = omega arith
length-commands (c ∷ []) m = omega (arith, length-said c (All-head IsSayable c [] m.1), length-append (encode_said c) [])
length-commands (c ∷ d ∷ []) m =
    omega (
      arith,
      length-said c (All-head IsSayable c (d ∷ []) m.1),
      length-said d (All-head IsSayable d [] (All-tail IsSayable c (d ∷ []) m.1)),
      length-append (encode_said c) (encode_said d ++ []),
      length-append (encode_said d) [],
    )
length-commands (c ∷ d ∷ e ∷ cs) m = absurd (omega (arith, m.0))

-- commands told apart by their octets: those of a longer stretch begin with those of a shorter one
pub commands_front : (cs ds : List command.Command) (x : List ℕ) → All IsSayable cs → All IsSayable ds → encode_commands cs ++ x ≡ encode_commands ds
    → (zs : List command.Command) × (ds ≡ cs ++ zs) × (encode_commands zs ≡ x)
commands_front [] ds x h k e = (ds, refl, sym e)
commands_front (c ∷ cs) [] x h k e = absurd (omega (arith, ap (λ (l : List ℕ). length l) e))
commands_front (c ∷ cs) (d ∷ ds) x h k e =
    let one = one_frame (said_frame c) (said_frame d) (encode_commands cs ++ x) (encode_commands ds) (said_wire c (All-head IsSayable c cs h)) (said_wire d (All-head IsSayable d ds k))
    (sym (append_assoc (encode_said c) (encode_commands cs) x) ∙ e) in
    let body : encode_command c ≡ encode_command d = ap (λ (f : WireFrame). f.body) one.frame in
    let both : Some c ≡ Some d = sym (decode_command-encode_command c (All-head IsSayable c cs h).formed) ∙ ap (λ (l : List ℕ). decode_command l) body ∙ decode_command-encode_command d (All-head IsSayable d ds k).formed in
    let same : c ≡ d = cc in
    let rest = commands_front cs ds x (All-tail IsSayable c cs h) (All-tail IsSayable d ds k) one.rest in
    (rest.0, ap (λ (l : List command.Command). d ∷ l) rest.1 ∙ ap (λ (f : command.Command). f ∷ (cs ++ rest.0)) (sym same), rest.2)

-- commands without octets are none
pub no_octets : (cs : List command.Command) → encode_commands cs ≡ [] → cs ≡ []
no_octets [] e = refl
no_octets (c ∷ cs) e = absurd (omega (arith, ap (λ (l : List ℕ). length l) e))
