use Rattle.spec_link.specs.TurnParts.{IsTurn}
use Rattle.zq_session.specs.Cuts.{IsCutTurn}
use Rattle.zq_tests_links.proofs.SeatLemmas.{turned_on}
use Rattle.zq_tests_links.proofs.seat.Seat.turn_at.Goals as goal

pub invariant_of-self-clause-lived : goal.invariant_of-self-clause-lived
invariant_of-self-clause-lived g c =
    (turned_on g.P.Pipes.known g.H.L.Link.heard g.H.L.Link.said g.H.L.Link.faults g.H.L.Link.stalls g.H.L.Link.ends IsTurn IsCutTurn c.turn.result c.args.now c.args.self.now.session c.turn.new.self c.args.self.now.link c.turn.new.link c.args.self.now.pipes c.turn.new.pipes c.turn.ensures.did c.turn.ensures.cut c.args.self.now.lived).0

pub returns-in_err-turn : goal.returns-in_err-turn
returns-in_err-turn g c = record {
  paired = (turned_on g.P.Pipes.known g.H.L.Link.heard g.H.L.Link.said g.H.L.Link.faults g.H.L.Link.stalls g.H.L.Link.ends IsTurn IsCutTurn c.turn.result c.args.now c.args.self.now.session c.turn.new.self c.args.self.now.link c.turn.new.link c.args.self.now.pipes c.turn.new.pipes c.turn.ensures.did c.turn.ensures.cut c.args.self.now.lived).1;
}

pub returns : goal.returns
returns g c = record {
  paired = (turned_on g.P.Pipes.known g.H.L.Link.heard g.H.L.Link.said g.H.L.Link.faults g.H.L.Link.stalls g.H.L.Link.ends IsTurn IsCutTurn c.turn.result c.args.now c.args.self.now.session c.turn.new.self c.args.self.now.link c.turn.new.link c.args.self.now.pipes c.turn.new.pipes c.turn.ensures.did c.turn.ensures.cut c.args.self.now.lived).1;
}
