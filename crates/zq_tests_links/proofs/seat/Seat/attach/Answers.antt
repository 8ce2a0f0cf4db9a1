use Rattle.spec_control.specs.declared.end.EndState.TheVariants.{Active}
use Rattle.spec_link.specs.History.{EndIs}
use Rattle.zq_tests_links.proofs.SeatLemmas.{lived_on}
use Rattle.zq_tests_links.proofs.seat.Seat.attach.Goals as goal

pub invariant_of-self-clause-lived : goal.invariant_of-self-clause-lived
invariant_of-self-clause-lived g c = lived_on c.args.self.now.session c.attach.new.self (EndIs Active) c.attach.ensures.happens c.args.self.now.lived
