-- What a run makes at the most by the lines of its script, and the turns in which it is done (own choice; zmq_socket(3), zmq_connect(3)).
use Rattle.std.specs.Prelude.{◌≡◌, ◌≤◌, ◌+◌, ◌*◌, ℕ, true, sum_by}
use Rattle.spec_run.specs.declared.script.Call.{Call}
use Rattle.spec_run.specs.declared.script.Call.TheVariants as call
use Rattle.control_laws.specs.Bound.{objects_made, pairs_made}
use Rattle.spec_run.specs.Run.{Schedule}
use Rattle.spec_run.specs.declared.journal.Journal.{Journal}
use Rattle.spec_run.specs.declared.script.ActorScript.{ActorScript}
use Rattle.spec_run.specs.Script.{Script}
use Rattle.spec_run.specs.OwnedRun.{control_at_end}
use Rattle.spec_run.specs.Journal.{IsRunJournal}
use Rattle.replay_laws.specs.LocalScript.{is_local_script}
use Rattle.replay_laws.specs.DoneInTime.{script_tries, script_sockets}

-- the pairs that a line may bring: that of its connect, at once or by a later bind
abbrev pub line_connects : Call → ℕ
line_connects (call.Connect place to) = 1
line_connects _ = 0

abbrev pub actor_connects : ActorScript → ℕ
actor_connects actor = sum_by (λ line. line_connects line.call) actor.lines

abbrev pub script_connects : Script → ℕ
script_connects script = sum_by actor_connects script

-- a run has the root and an object for each socket line at the most, and a pair for each connect
abbrev pub ScriptsMakeSoMuch : (N S : Type 0) → Type 0
ScriptsMakeSoMuch N S = (script : Script) (schedule : Schedule) (j : Journal) → (is : IsRunJournal N S script schedule j) → is_local_script script ≡ true →
    (objects_made (control_at_end 1 is.run) ≤ 1 + script_sockets script) × (pairs_made (control_at_end 1 is.run) ≤ script_connects script)

-- a turn for each try of a line, eleven for each socket line, eight for each connect line, and twenty more
abbrev pub script_turns : Script → ℕ
script_turns script = script_tries script + 11 * script_sockets script + 8 * script_connects script + 20

-- a journal of a run that may take so many turns says that it is done
abbrev pub ScriptsAreDoneInTime : (N S : Type 0) → Type 0
ScriptsAreDoneInTime N S = (script : Script) (schedule : Schedule) (j : Journal) → IsRunJournal N S script schedule j → is_local_script script ≡ true →
    script_turns script ≤ schedule.turns → j.done ≡ true
