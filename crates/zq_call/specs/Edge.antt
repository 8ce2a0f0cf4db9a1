-- How the program ends, whatever makes the texts of its runs: its exit code, by what was read and written (own choice).
use Rattle.std.specs.Prelude.{◌≡◌, ℕ, List, Option, None, Bool}
use Rattle.zq_outer.specs.Readings.{ClockAt, tick_at}
use Rattle.spec_run.specs.Run.{Schedule}
use Rattle.zq_call.specs.Call.{AnswersCall, outside}
use Rattle.zq_call.specs.ExitCode.{exit_code}
use Rattle.zq_call.specs.declared.status.Status.{Status}

-- The exit code is that of a status, which says what was read and written. The octets left and taken are those that the streams tell, before and after; how often they failed and ended is counted from 0; the clock ticks at each read.
pub record ExitsSo (Prints : Schedule → Bool → List ℕ → List ℕ → List ℕ → Type 0) (Refuses : List ℕ → List ℕ → Type 0)
    (code : ℕ) (words : List (List ℕ)) (left taken left_now taken_now : Option (List ℕ)) : Type 0 where
  pub status : Status
  pub code_is : code ≡ exit_code status
  pub faults : ℕ
  pub ends : ℕ
  pub failures : ℕ
  pub clock : ClockAt
  pub answers : AnswersCall Prints Refuses status words (outside left 0 0 (tick_at None) taken 0) (outside left_now faults ends clock taken_now failures)
