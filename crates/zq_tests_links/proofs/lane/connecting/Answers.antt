use Rattle.std.proofs.Common.{[]}
use Rattle.zq_tests_links.proofs.SeatLemmas.{lived_from}
use Rattle.zq_tests_links.proofs.lane.connecting.Goals as goal

pub new-requires-clause-lived : goal.new-requires-clause-lived
new-requires-clause-lived c = lived_from _ [] c.connecting-session.result c.connecting-session.ensures.lived
