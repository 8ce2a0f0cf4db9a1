-- What a script is, and when a line of it is over (own choice).
use Rattle.std.specs.Prelude.{◌+◌, ◌||◌, ℕ, Bool, true, false, not, List, nat_le}
use Rattle.spec_pattern.specs.declared.answers.RecvRefusal.{RecvRefusal}
use Rattle.spec_pattern.specs.declared.answers.RecvRefusal.TheVariants as recv
use Rattle.spec_run.specs.declared.script.ActorScript.{ActorScript}
use Rattle.spec_run.specs.declared.script.Call.{Call}
use Rattle.spec_run.specs.declared.script.Call.TheVariants as call
use Rattle.spec_run.specs.declared.answer.Answer.{Answer}
use Rattle.spec_run.specs.declared.answer.Answer.TheVariants as answer

-- a script: its actors, in the order in which they begin
abbrev pub Script : Type 0
Script = List ActorScript

-- how often a line is tried
abbrev pub line_tries : Call → ℕ
line_tries (call.Recv place tries) = tries
line_tries _ = 1

-- a refusal that may be gone at the next try
abbrev pub is_fleeting : RecvRefusal → Bool
is_fleeting recv.Again = true
is_fleeting recv.Busy = true
is_fleeting _ = false

-- whether a line with this answer is tried again, while it has tries left
abbrev pub is_tried_again : Answer → Bool
is_tried_again (answer.NotReceived refusal) = is_fleeting refusal
is_tried_again _ = false

-- whether a line is over with this answer, where it was tried so often before
abbrev pub line_is_over : (tried : ℕ) → Call → Answer → Bool
line_is_over tried call answer = not (is_tried_again answer) || nat_le (line_tries call) (tried + 1)
