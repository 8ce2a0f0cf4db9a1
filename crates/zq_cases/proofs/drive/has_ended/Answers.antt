use Rattle.std.proofs.Common.{sym, subst}
use Rattle.zq_world.specs.Turning.{ActorsAgree}
use Rattle.zq_world.proofs.PlayLemmas.{new_agree}
use Rattle.zq_cases.proofs.drive.has_ended.Goals as goal

pub goes-ended-requires-clause-agree : goal.goes-ended-requires-clause-agree
goes-ended-requires-clause-agree g c =
    subst (ActorsAgree g.W.Sockets.as_open g.W.Sockets.agrees g.W.Sockets.was_made c.args.way.now) (sym c.deref_mut.ensures.value)
    (new_agree g.W.Sockets.as_open g.W.Sockets.agrees g.W.Sockets.was_made c.args.way.now c.args.script.now c.in_ok-actors.actors.items c.requires.may c.in_ok-actors.ensures)
