use Rattle.std.proofs.Common.{rules}
use Rattle.ctl_moves.proofs.hearing.hear_stop.Goals as goal

pub returns-clause-stands : goal.returns-clause-stands
returns-clause-stands g c = assumption

pub returns-clause-next : goal.returns-clause-next
returns-clause-next g c = assumption

pub returns-clause-stays : goal.returns-clause-stays
returns-clause-stays g c = first_of (assumption, search rules)

pub returns-clause-turns : goal.returns-clause-turns
returns-clause-turns g c = first_of (assumption, search rules)

pub returns-clause-heard : goal.returns-clause-heard
returns-clause-heard g c = assumption
