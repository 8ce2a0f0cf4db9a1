use Rattle.std.proofs.Common.{◌≡◌, map}
use Rattle.zq_world.specs.Stepping.{lines_of}
use Rattle.zq_world.proofs.script.parts.Given as goal

-- the parts of the actors so far
abbrev pub invariant-actors : goal.invariant-actors
invariant-actors g l = l.parts.items ≡ map lines_of l.yielded
