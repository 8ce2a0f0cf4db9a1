use Rattle.std.specs.Prelude.{List, false}
use Rattle.std.proofs.Common.{sym, subst}
use Rattle.zq_world.specs.declared.event.Event.{Event}
use Rattle.zq_world.specs.ByEvents.{known_of, IsWorld}
use Rattle.zq_world.proofs.WorldLemmas.{world_new}
use Rattle.zq_world.proofs.world.World.new.Goals as goal

pub invariant_of-result : goal.invariant_of-result
invariant_of-result g c =
    subst (λ (done : List (Event × Unit {0})). IsWorld g.W.Sockets.as_open g.W.Sockets.agrees g.W.Sockets.was_made g.W.Sockets.pieces (known_of c.args.script.now done false) c.args.way c.in_ok-actors.actors.items) (sym c.new.ensures)
    (world_new g.W.Sockets.as_open g.W.Sockets.agrees g.W.Sockets.was_made g.W.Sockets.pieces c.args.script.now c.args.way c.in_ok-actors.actors.items c.requires.may c.in_ok-actors.ensures c.requires.new)
