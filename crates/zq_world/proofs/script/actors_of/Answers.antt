use Rattle.std.proofs.Common.{sym, subst, take, ◌+◌}
use Rattle.zq_world.specs.Played.{AreNew}
use Rattle.zq_world.proofs.NewLemmas.{new_more}
use Rattle.zq_world.proofs.script.actors_of.Goals as goal

pub actors-preserved : goal.actors-preserved
actors-preserved g c =
    subst (AreNew (take (c.actors.actor-index + 1) c.args.script.now)) (sym c.in_ok-push.ensures.items)
    (new_more c.args.script.now c.actors.actor-index c.actor-item.result c.actors.actors.items c.new.result c.actors-test.true c.actor-item.is c.actors.invariant c.new.ensures.stands c.new.ensures.says c.new.ensures.seats)
