use Rattle.std.proofs.Common.{[], ◌∷◌}
use Rattle.spec_link.specs.History.{Given}
use Rattle.zq_tests_links.proofs.SeatLemmas.{lived_from}
use Rattle.zq_tests_links.proofs.lane.receiver_of.Goals as goal

pub new-seat-requires-clause-lived : goal.new-seat-requires-clause-lived
new-seat-requires-clause-lived c = lived_from _ (Given ∷ []) c.in_ok-session.session c.in_ok-session.ensures.lived
