-- A script without tcp (own choice): its sockets bind and connect over inproc alone.
use Rattle.std.specs.Prelude.{◌≡◌, ℕ, Bool, true, List}
use Rattle.std.specs.List.{list_all}
use Rattle.spec_run.specs.declared.script.Call.{Call}
use Rattle.spec_run.specs.declared.script.Call.TheVariants as call
use Rattle.spec_run.specs.declared.script.Line.{Line}
use Rattle.spec_run.specs.Script.{Script}
use Rattle.spec_run.specs.OwnedRun.{OwnedRun}
use Rattle.spec_run.specs.InTurns.{Turned, IsInTurns, IsOneThread}
use Rattle.replay_laws.specs.Local.{is_inproc, is_local_item}

-- a bind and a connect are over inproc; to strike one over tcp makes nothing
abbrev pub is_local_line : Call → Bool
is_local_line (call.Bind place at) = is_inproc at
is_local_line (call.Connect place to) = is_inproc to
is_local_line _ = true

abbrev pub are_local_lines : List Line → Bool
are_local_lines lines = list_all (λ line. is_local_line line.call) lines

abbrev pub is_local_script : Script → Bool
is_local_script script = list_all (λ actor. are_local_lines actor.lines) script

-- in a run on one thread, whatever the seed and the turns, such a script asks nothing over tcp
abbrev pub LocalScriptsRunLocally : (N S : Type 0) → Type 0
LocalScriptsRunLocally N S = (script : Script) (io limit seed : ℕ) (t : Turned N S) (run : OwnedRun N S) →
    IsInTurns script io limit t run → IsOneThread seed script io t run → is_local_script script ≡ true → list_all is_local_item run.order ≡ true
