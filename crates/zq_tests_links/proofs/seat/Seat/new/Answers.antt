use Rattle.spec_control.specs.declared.end.EndState.TheVariants.{Active}
use Rattle.spec_link.specs.History.{EndIs}
use Rattle.zq_tests_links.proofs.SeatLemmas.{lived_on}
use Rattle.zq_tests_links.proofs.seat.Seat.new.Goals as goal

pub invariant_of-result-clause-lived : goal.invariant_of-result-clause-lived
invariant_of-result-clause-lived g c = lived_on c.args.session c.attach.new.self (EndIs Active) c.attach.ensures.happens c.requires.lived
