-- The exit codes of the program (own choice).
use Rattle.std.specs.Prelude.{ℕ}
use Rattle.zq_call.specs.declared.status.Status.{Status}
use Rattle.zq_call.specs.declared.status.Status.TheVariants as status

-- the exit code of each status
abbrev pub exit_code : Status → ℕ
exit_code status.Done = 0
exit_code status.Script = 1
exit_code status.Usage = 2
exit_code status.ReadFault = 3
exit_code status.WriteFault = 4
exit_code status.OutOfMemory = 6
exit_code status.Unfinished = 8
exit_code status.Heard = 9
