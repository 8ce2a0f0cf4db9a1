-- How the program ends: its exit code, by what was read and written.
use Rattle.std.specs.Prelude.{◌≡◌, ℕ, List, Option, None}
use Rattle.zq_outer.specs.Readings.{ClockAt, tick_at}
use Rattle.zq_call.specs.Call.{IsSound, outside}
use Rattle.zq_call.specs.ExitCode.{exit_code}
use Rattle.zq_call.specs.declared.status.Status.{Status}
use Rattle.zq_top.specs.Headline.{AnswersCall, IsDue}

-- The exit code is that of a status, which says what was read and written; where neither stream failed, it is the one that is due. The octets left and taken are those that the streams tell, before and after; how often they failed and ended is counted from 0; the clock ticks at each read.
pub record Exits (code : ℕ) (words : List (List ℕ)) (left taken left_now taken_now : Option (List ℕ)) : Type 0 where
  pub status : Status
  pub code_is : code ≡ exit_code status
  pub faults : ℕ
  pub ends : ℕ
  pub failures : ℕ
  pub clock : ClockAt
  pub answers : AnswersCall status words (outside left 0 0 (tick_at None) taken 0) (outside left_now faults ends clock taken_now failures)
  pub due : IsSound (outside left 0 0 (tick_at None) taken 0) (outside left_now faults ends clock taken_now failures) → IsDue status words left
