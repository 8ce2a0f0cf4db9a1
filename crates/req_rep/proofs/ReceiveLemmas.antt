-- A receive that drops and gives nothing, by its cause.
use Rattle.std.specs.Prelude.{ℕ, Err}
use Rattle.zq_base.specs.Message.{Frames}
use Rattle.spec_pattern.specs.Results.{MatchRecv}
use Rattle.spec_pattern.specs.declared.answers.RecvRefusal.{RecvRefusal}
use Rattle.spec_pattern.specs.declared.answers.RecvFault.{RecvFault}
use Rattle.spec_pattern.specs.declared.answers.RecvFault.TheVariants as recv
use Rattle.spec_pattern.specs.declared.answers.RecvAnswer.{RecvAnswer}
use Rattle.spec_pattern.specs.declared.answers.RecvAnswer.TheVariants as got
use Rattle.spec_pattern.specs.Dropping.{MatchDropping}

pub MatchRecv-fault : (D memory : Type 0) (P : ℕ → Frames → Type 0) (Q : RecvRefusal → Type 0) (R : RecvAnswer → Type 0) (f : RecvFault)
    → (D → memory) → ((refusal : RecvRefusal) → Q refusal → R (got.Refused refusal)) → MatchDropping (Err f) D P Q → MatchRecv (Err f) memory R
MatchRecv-fault D memory P Q R (recv.Refused refusal) stopped refused h = refused refusal h
MatchRecv-fault D memory P Q R recv.OutOfMemory stopped refused h = stopped h
