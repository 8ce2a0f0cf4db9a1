use Rattle.std.proofs.Common.{◌≡◌, true, take}
use Rattle.std.specs.List.{list_all}
use Rattle.spec_run.specs.OpenSocket.{OpenSock}
use Rattle.spec_run.specs.Standing.{has_finished}
use Rattle.zq_world.specs.Turning.{standings}
use Rattle.zq_world.proofs.play.all_finished.Given as goal

-- those so far have finished
abbrev pub invariant-actors : goal.invariant-actors
invariant-actors g l = (as_open : g.row.O.Denot → OpenSock) → list_all has_finished (standings as_open (take l.actor-index l.actors)) ≡ true
