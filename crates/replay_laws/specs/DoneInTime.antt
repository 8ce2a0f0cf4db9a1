-- That a run is done in time (zmq_ctx_term(3); the count of turns is an own choice): a turn for each try of a line and for each socket, ten for each object and eight for each pair that was made, and ten more.
use Rattle.std.specs.Prelude.{◌≡◌, ◌≤◌, ◌+◌, ◌-◌, ◌*◌, ℕ, true, count_by, length, sum_by}
use Rattle.spec_control.specs.Stage.{has_ended}
use Rattle.spec_control.specs.Row.{is_socket}
use Rattle.spec_control.specs.Rows.{obj}
use Rattle.spec_control.specs.Control.{Control}
use Rattle.control_laws.specs.Bound.{objects_made, pairs_made}
use Rattle.spec_run.specs.Run.{Schedule}
use Rattle.spec_run.specs.declared.journal.Journal.{Journal}
use Rattle.spec_run.specs.declared.script.Call.{Call}
use Rattle.spec_run.specs.declared.script.ActorScript.{ActorScript}
use Rattle.spec_run.specs.Script.{Script, line_tries}
use Rattle.spec_run.specs.OwnedRun.{OwnedRun, IsRun, every_pipe, control_at_end}
use Rattle.spec_run.specs.InTurns.{Turned, IsInTurns, IsOneThread}
use Rattle.spec_run.specs.Journal.{IsRunJournal}
use Rattle.replay_laws.specs.InTime.{line_sockets}
use Rattle.replay_laws.specs.LocalScript.{is_local_script}

-- how often a line may be tried: once at least
abbrev pub most_tries : Call → ℕ
most_tries line = 1 + (line_tries line - 1)

-- the tries of an actor's lines, and the sockets that they may make
abbrev pub actor_tries : ActorScript → ℕ
actor_tries actor = sum_by (λ line. most_tries line.call) actor.lines

abbrev pub actor_sockets : ActorScript → ℕ
actor_sockets actor = sum_by (λ line. line_sockets line.call) actor.lines

-- those of a script
abbrev pub script_tries : Script → ℕ
script_tries script = sum_by actor_tries script

abbrev pub script_sockets : Script → ℕ
script_sockets script = sum_by actor_sockets script

-- the turns in which a run is done, by the control plane at its end, where the root counts as an object
abbrev pub turns_needed : Script → Control → ℕ
turns_needed script c = script_tries script + script_sockets script + 10 * objects_made c + 8 * pairs_made c + 10

-- a run on one thread of a script without tcp, by any seed, that may take so many turns: its root has ended
abbrev pub RunsEndInTime : (N S : Type 0) → Type 0
RunsEndInTime N S = (script : Script) (limit seed : ℕ) (t : Turned N S) (run : OwnedRun N S) →
    IsRun script 1 every_pipe run → IsInTurns script 1 limit t run → IsOneThread seed script 1 t run → is_local_script script ≡ true →
    turns_needed script (control_at_end 1 run) ≤ limit → has_ended (obj (control_at_end 1 run).rows 0).stage ≡ true

-- and its journal says so
abbrev pub RunsAreDoneInTime : (N S : Type 0) → Type 0
RunsAreDoneInTime N S = (script : Script) (schedule : Schedule) (j : Journal) → (is : IsRunJournal N S script schedule j) → is_local_script script ≡ true →
    turns_needed script (control_at_end 1 is.run) ≤ schedule.turns → j.done ≡ true

-- the same by what the journal shows: sockets and objects as they were made, and of each pair the rows of its two pipes
abbrev pub turns_shown : Script → Journal → ℕ
turns_shown script j = script_tries script + count_by (λ o. is_socket o.kind) j.objects + 10 * length j.objects + 4 * length j.pipes + 10

-- a journal of a run that may take so many turns says that it is done
abbrev pub JournalsAreDoneInTime : (N S : Type 0) → Type 0
JournalsAreDoneInTime N S = (script : Script) (schedule : Schedule) (j : Journal) → IsRunJournal N S script schedule j → is_local_script script ≡ true →
    turns_shown script j ≤ schedule.turns → j.done ≡ true
