-- What one item can add to a handshake, and what the answer tells of it.
use Rattle.std.proofs.Common.{◌≡◌, Bool, true, false, cond, [], ◌∷◌, Option, Some, None, Result, Ok, Err, refl, sym, ap, subst, ◌∙◌}
use Rattle.std.specs.Prelude.{not, codes}
use Rattle.std.specs.Option.{option_to_list}
use Rattle.zq_base.specs.declared.options.EngineOpts.{EngineOpts}
use Rattle.zq_base.specs.declared.options.Peer.{Peer}
use Rattle.spec_zmtp.specs.declared.cause.Cause.{Cause}
use Rattle.spec_zmtp.specs.declared.cause.Cause.TheVariants.{BadCommand, BadMeta, OutOfOrder, NotWelcome, PeerError}
use Rattle.spec_zmtp.specs.declared.command.Command.{Command}
use Rattle.spec_zmtp.specs.declared.handshake.Awaited.{Awaited}
use Rattle.spec_zmtp.specs.declared.handshake.Awaited.TheVariants.{Ready, Hello, Welcome, Initiate}
use Rattle.spec_zmtp.specs.declared.handshake.Stage.{Stage}
use Rattle.spec_zmtp.specs.declared.handshake.Stage.TheVariants as stage
use Rattle.spec_zmtp.specs.Metadata.{is_called}
use Rattle.spec_zmtp.specs.Decoding.{decode_meta}
use Rattle.spec_zmtp.specs.PeerMetadata.{peer_from}
use Rattle.spec_zmtp.specs.OwnCommands.{our_ready, our_initiate, our_welcome, our_error}
use Rattle.spec_zmtp.specs.Handshake.{Item, Told, Malformed, MessageFrame, Handshake, silent, saying, met, misplaced, has_bad_meta, is_welcome, next}
use Rattle.zmtp_mech.specs.declared.answer.Answer.{Answer}
use Rattle.zmtp_mech.specs.declared.answer.Answer.TheVariants as answer
use Rattle.zmtp_mech.specs.Mechanism.{answer_of}

-- what was said, learned and become
abbrev pub added : Option Command → Option Peer → Stage → Handshake
added say peer stage = record { said = option_to_list say; peer = peer; stage = stage }

-- what one item can add
pub data Outcome (n : Handshake) : Type 0 where
  says : (c : Command) (w : Awaited) → n ≡ added (Some c) None (stage.Waiting w) → Outcome n
  ready : (p : Peer) (say : Option Command) → n ≡ added say (Some p) stage.Running → Outcome n
  waits : n ≡ silent stage.Running → Outcome n
  refuses : (cause : Cause) (say : Option Command) → n ≡ added say None (stage.Refused cause) → Outcome n

choice : (b : Bool) (x y : Handshake) → Outcome x → Outcome y → Outcome (cond b x y)
choice true x y h k = h
choice false x y h k = k

met_outcome : (say : Option Command) (r : Result Peer Cause) → Outcome (met (option_to_list say) [] r)
met_outcome say (Ok peer) = ready peer say refl
met_outcome say (Err cause) = refuses cause None refl

refusal : (cause : Cause) → Outcome (silent (stage.Refused cause))
refusal cause = refuses cause None refl

running_outcome : (b e : Bool) → Outcome (silent (cond b (stage.Refused BadMeta) (cond e (stage.Refused PeerError) stage.Running)))
running_outcome true e = refusal BadMeta
running_outcome false true = refusal PeerError
running_outcome false false = waits refl

pub outcome : (opts : EngineOpts) (s : Stage) (item : Item) → Outcome (next opts s item)
outcome opts stage.Running MessageFrame = waits refl
outcome opts stage.Running Malformed = refusal BadCommand
outcome opts stage.Running (Told c) = running_outcome (has_bad_meta c) (is_called (codes "ERROR") c)
outcome opts (stage.Refused cause) item = refusal cause
outcome opts (stage.Waiting Ready) MessageFrame = refusal OutOfOrder
outcome opts (stage.Waiting Ready) Malformed = refusal BadCommand
outcome opts (stage.Waiting Ready) (Told c) =
    let r : Result Peer Cause = peer_from opts.kind (decode_meta c.content) in
    choice (is_called (codes "READY") c) (met [] [] r) (silent (stage.Refused (misplaced c))) (met_outcome None r) (refusal (misplaced c))
outcome opts (stage.Waiting Initiate) MessageFrame = refusal OutOfOrder
outcome opts (stage.Waiting Initiate) Malformed = refusal BadCommand
outcome opts (stage.Waiting Initiate) (Told c) =
    let r : Result Peer Cause = peer_from opts.kind (decode_meta c.content) in
    choice (is_called (codes "INITIATE") c) (met (our_ready opts ∷ []) [] r) (silent (stage.Refused (misplaced c))) (met_outcome (Some (our_ready opts)) r) (refusal (misplaced c))
outcome opts (stage.Waiting Welcome) MessageFrame = refusal OutOfOrder
outcome opts (stage.Waiting Welcome) Malformed = refusal BadCommand
outcome opts (stage.Waiting Welcome) (Told c) =
    choice (is_called (codes "WELCOME") c) (saying (our_initiate opts) (silent (stage.Waiting Ready))) (silent (stage.Refused (misplaced c))) (says (our_initiate opts) Ready refl) (refusal (misplaced c))
outcome opts (stage.Waiting Hello) MessageFrame = refusal OutOfOrder
outcome opts (stage.Waiting Hello) Malformed = refusal BadCommand
outcome opts (stage.Waiting Hello) (Told c) =
    let stranger : Handshake = saying our_error (silent (stage.Refused NotWelcome)) in
    let welcome : Handshake = saying our_welcome (silent (stage.Waiting Initiate)) in
    choice (not (is_called (codes "HELLO") c)) (silent (stage.Refused (misplaced c))) (cond (is_welcome opts.logins c.content) welcome stranger) (refusal (misplaced c))
    (choice (is_welcome opts.logins c.content) welcome stranger (says our_welcome Initiate refl) (refuses NotWelcome (Some our_error) refl))

-- ---- the same by the answer

answer_added : (say : Option Command) (cause : Cause) → answer_of (added say None (stage.Refused cause)) ≡ answer.Refused cause say
answer_added None cause = refl
answer_added (Some c) cause = refl

answer_ready : (say : Option Command) (p : Peer) → answer_of (added say (Some p) stage.Running) ≡ answer.Ready p say
answer_ready None p = refl
answer_ready (Some c) p = refl

-- each answer tells what was added
abbrev pub Tells : Answer → Handshake → Type 0
Tells (answer.Say c) n = (w : Awaited) × (n ≡ added (Some c) None (stage.Waiting w))
Tells (answer.Ready p say) n = n ≡ added say (Some p) stage.Running
Tells answer.Wait n = n ≡ silent stage.Running
Tells (answer.Refused cause say) n = n ≡ added say None (stage.Refused cause)

outcome_tells : (n : Handshake) → Outcome n → Tells (answer_of n) n
outcome_tells n (says c w is) = subst (λ (a : Answer). Tells a n) (sym (ap (λ h. answer_of h) is)) (w, is)
outcome_tells n (ready p say is) = subst (λ (a : Answer). Tells a n) (sym (ap (λ h. answer_of h) is ∙ answer_ready say p)) is
outcome_tells n (waits is) = subst (λ (a : Answer). Tells a n) (sym (ap (λ h. answer_of h) is)) is
outcome_tells n (refuses cause say is) = subst (λ (a : Answer). Tells a n) (sym (ap (λ h. answer_of h) is ∙ answer_added say cause)) is

pub answer_tells : (opts : EngineOpts) (s : Stage) (item : Item) (a : Answer) → a ≡ answer_of (next opts s item) → Tells a (next opts s item)
answer_tells opts s item a is = subst (λ (x : Answer). Tells x (next opts s item)) (sym is) (outcome_tells (next opts s item) (outcome opts s item))
