use Rattle.std.proofs.Common.{take}
use Rattle.zq_world.specs.Played.{AreNew}
use Rattle.zq_cases.proofs.drive.actors_of.Given as goal

-- the actors so far
abbrev pub invariant-actors : goal.invariant-actors
invariant-actors g l = AreNew (take l.actor-index l.script) l.actors.items
