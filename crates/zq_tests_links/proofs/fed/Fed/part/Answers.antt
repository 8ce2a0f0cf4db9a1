use Rattle.shared_pipe.specs.Halves.{name_of_in, name_of_out}
use Rattle.zq_tests_links.proofs.SeatLemmas.{pair_at}
use Rattle.zq_tests_links.proofs.fed.Fed.part.Goals as goal

pub part-parting-requires-clause-paired : goal.part-parting-requires-clause-paired
part-parting-requires-clause-paired c = pair_at name_of_in (name_of_out c.args.self.feed.out) c.args.self.seat.session.input c.args.self.seat.session.out c.args.self.paired
