use Rattle.std.proofs.Common.{◌≡◌, take, false}
use Rattle.std.specs.List.{list_any}
use Rattle.std.specs.Str.{bytes_eq}
use Rattle.zq_script.proofs.known.Known.has_actor.Given as goal

-- no actor so far has this name
abbrev pub invariant-loop-actor : goal.invariant-loop-actor
invariant-loop-actor l = list_any (λ actor. bytes_eq actor l.name) (take l.actor-index l.actor-items) ≡ false
