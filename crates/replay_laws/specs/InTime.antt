-- How long a script's actors take (own choice): each of their steps is a try of a line, or closes a socket that was left.
use Rattle.std.specs.Prelude.{◌≡◌, ◌≤◌, ◌+◌, ◌-◌, ℕ, true, List, length, map, sum_by}
use Rattle.std.specs.List.{list_all, AllByRecursion}
use Rattle.spec_run.specs.declared.script.Call.{Call}
use Rattle.spec_run.specs.declared.script.Call.TheVariants as call
use Rattle.spec_run.specs.declared.script.ActorScript.{ActorScript}
use Rattle.spec_run.specs.Script.{Script, line_tries}
use Rattle.spec_run.specs.Standing.{ActorStanding, standing_before, has_finished}
use Rattle.spec_run.specs.InTurns.{OneTurn, TurnsGo}

-- the sockets that a line may make
abbrev pub line_sockets : Call → ℕ
line_sockets (call.Socket kind options) = 1
line_sockets _ = 0

-- the most steps that a line takes: its tries, of which there is one at least, and one that closes its socket
abbrev pub line_steps : Call → ℕ
line_steps line = (1 + (line_tries line - 1)) + line_sockets line

-- an actor's tries and sockets
abbrev pub actor_steps : ActorScript → ℕ
actor_steps actor = sum_by (λ line. line_steps line.call) actor.lines

-- within as many turns as an actor has tries and sockets it has finished: its lines are over and its sockets closed, whatever others do
abbrev pub ActorsFinishInTime : (N S : Type 0) → Type 0
ActorsFinishInTime N S = (script : Script) (io : ℕ) (turns : List (OneTurn N S)) (standings : List ActorStanding) →
    TurnsGo io (map standing_before script) turns standings → AllByRecursion (λ actor. actor_steps actor ≤ length turns) script → list_all has_finished standings ≡ true
