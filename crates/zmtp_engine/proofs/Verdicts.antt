-- A flags octet is refused by what is kept as it is by the whole stream.
use Rattle.std.proofs.Common.{◌≡◌, ℕ, Bool, false, cond, eqb, List, [], ◌∷◌, ◌++◌, length, Option, Some, None, refl, sym, ap, ◌∙◌, arith}
use Rattle.std.proofs.lemmas.Bool.{ne_eqb}
use Rattle.std.proofs.lemmas.List.{length-map}
use Rattle.zq_base.specs.declared.options.EngineOpts.{EngineOpts}
use Rattle.spec_zmtp.specs.declared.cause.Cause.{Cause}
use Rattle.spec_zmtp.specs.declared.cause.Cause.TheVariants.{TooManyParts, OutOfOrder}
use Rattle.spec_zmtp.specs.declared.flags.FrameKind.{FrameKind}
use Rattle.spec_zmtp.specs.declared.flags.FrameKind.TheVariants.{Last, More, Command}
use Rattle.spec_zmtp.specs.declared.flags.Flags.{Flags}
use Rattle.spec_zmtp.specs.declared.handshake.Awaited.{Awaited}
use Rattle.spec_zmtp.specs.declared.handshake.Awaited.TheVariants as awaited
use Rattle.spec_zmtp.specs.declared.handshake.Stage.{Stage}
use Rattle.spec_zmtp.specs.declared.handshake.Stage.TheVariants.{Waiting, Running, Refused}
use Rattle.spec_zmtp.specs.FrameFlags.{flags_at}
use Rattle.spec_zmtp.specs.FrameEncoding.{WireFrame}
use Rattle.spec_zmtp.specs.FrameRules.{gathered, bodies, items_of, item_refusal, count_refusal, between_refusal, first_cause, kind_refusal, flags_refusal, octet_refusal}
use Rattle.spec_zmtp.specs.Handshake.{Item, MessageFrame, Handshake, handshake, next, is_running, stage_refusal}
use Rattle.spec_zmtp.proofs.HandshakeLemmas.{handshake-more}
use Rattle.zmtp_engine.specs.Verdict.{message_verdict, kind_verdict, flags_verdict, octet_verdict}

-- the stage behind one item more
pub stage-more : (opts : EngineOpts) (items : List Item) (item : Item) → (handshake opts (items ++ item ∷ [])).stage ≡ (next opts (handshake opts items).stage item).stage
stage-more opts items item = ap (λ (h : Handshake). h.stage) (handshake-more opts items item)

-- a message frame before the handshake is done
early : (opts : EngineOpts) (a : Awaited) → stage_refusal (next opts (Waiting a) MessageFrame).stage ≡ Some OutOfOrder
early opts awaited.Ready = refl
early opts awaited.Hello = refl
early opts awaited.Welcome = refl
early opts awaited.Initiate = refl

message_item : (opts : EngineOpts) (stage : Stage) (second : Option Cause) → stage_refusal stage ≡ None → first_cause (stage_refusal (next opts stage MessageFrame).stage) second ≡ cond (is_running stage) second (Some OutOfOrder)
message_item opts (Waiting a) second none = ap (λ (c : Option Cause). first_cause c second) (early opts a)
message_item opts Running second none = refl
message_item opts (Refused cause) second none = absurd cc

count_is : (unfinished : List WireFrame) (parts : List (List ℕ)) → parts ≡ bodies unfinished → count_refusal unfinished ≡ cond (eqb (length parts) 1023) (Some TooManyParts) None
count_is unfinished parts e = ap (λ (n : ℕ). cond (eqb n 1023) (Some TooManyParts) None) (sym (ap (λ (l : List (List ℕ)). length l) e ∙ length-map unfinished (λ (f : WireFrame). f.body)))

between_is : (unfinished : List WireFrame) → between_refusal unfinished ≡ cond (eqb (length (bodies unfinished)) 0) None (Some OutOfOrder)
between_is [] = refl
between_is (f ∷ unfinished) =
    let no_zero : eqb (length (bodies (f ∷ unfinished))) 0 ≡ false = ne_eqb (length (bodies (f ∷ unfinished))) 0 (λ e. absurd (omega arith)) in
    ap (λ (b : Bool). cond b None (Some OutOfOrder)) (sym no_zero)

message_is : (opts : EngineOpts) (frames : List WireFrame) (stage : Stage) (parts : List (List ℕ)) → stage ≡ (handshake opts (items_of frames)).stage → stage_refusal stage ≡ None → parts ≡ bodies (gathered frames).unfinished
    → first_cause (item_refusal opts frames MessageFrame) (count_refusal (gathered frames).unfinished) ≡ message_verdict stage parts
message_is opts frames stage parts s none p =
    ap (λ (x : Stage). first_cause (stage_refusal x) (count_refusal (gathered frames).unfinished)) (stage-more opts (items_of frames) MessageFrame ∙ ap (λ (x : Stage). (next opts x MessageFrame).stage) (sym s))
    ∙ ap (λ (c : Option Cause). first_cause (stage_refusal (next opts stage MessageFrame).stage) c) (count_is (gathered frames).unfinished parts p)
    ∙ message_item opts stage (cond (eqb (length parts) 1023) (Some TooManyParts) None) none

pub kind_is : (opts : EngineOpts) (frames : List WireFrame) (stage : Stage) (parts : List (List ℕ)) (kind : FrameKind) → stage ≡ (handshake opts (items_of frames)).stage → stage_refusal stage ≡ None → parts ≡ bodies (gathered frames).unfinished
    → kind_refusal opts frames kind ≡ kind_verdict stage parts kind
kind_is opts frames stage parts Last s none p = message_is opts frames stage parts s none p
kind_is opts frames stage parts More s none p = message_is opts frames stage parts s none p
kind_is opts frames stage parts Command s none p = between_is (gathered frames).unfinished ∙ ap (λ (l : List (List ℕ)). cond (eqb (length l) 0) None (Some OutOfOrder)) (sym p)

flags_is : (opts : EngineOpts) (frames : List WireFrame) (stage : Stage) (parts : List (List ℕ)) (flags : Option Flags) → stage ≡ (handshake opts (items_of frames)).stage → stage_refusal stage ≡ None → parts ≡ bodies (gathered frames).unfinished
    → flags_refusal opts frames flags ≡ flags_verdict stage parts flags
flags_is opts frames stage parts None s none p = refl
flags_is opts frames stage parts (Some flags) s none p = kind_is opts frames stage parts flags.kind s none p

pub octet_is : (opts : EngineOpts) (frames : List WireFrame) (stage : Stage) (parts : List (List ℕ)) (octet : ℕ) → stage ≡ (handshake opts (items_of frames)).stage → stage_refusal stage ≡ None → parts ≡ bodies (gathered frames).unfinished
    → octet_refusal opts frames octet ≡ octet_verdict stage parts octet
octet_is opts frames stage parts octet s none p = flags_is opts frames stage parts (flags_at octet) s none p
