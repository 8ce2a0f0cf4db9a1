use Rattle.std.proofs.Common.{[], ◌∷◌}
use Rattle.spec_link.specs.History.{Given}
use Rattle.zq_tests_links.proofs.SeatLemmas.{lived_from}
use Rattle.zq_tests_links.proofs.breach.unpaired.Goals as goal

pub returns-clause-lived : goal.returns-clause-lived
returns-clause-lived c = lived_from _ (Given ∷ []) c.in_ok-accepted.field-0 c.in_ok-accepted.ensures.lived
