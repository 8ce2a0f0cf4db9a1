use Rattle.shared_pipe.specs.Halves.{name_of_in, name_of_out}
use Rattle.zq_tests_links.proofs.SeatLemmas.{pair_at}
use Rattle.zq_tests_links.proofs.fed.Fed.turn_at.Goals as goal

pub invariant_of-self : goal.invariant_of-self
invariant_of-self c = record {
  paired = c.turn_at.ensures.paired (name_of_out c.args.self.now.feed.out) (pair_at name_of_in (name_of_out c.args.self.now.feed.out) c.args.self.now.seat.session.input c.args.self.now.seat.session.out c.args.self.now.paired);
}
