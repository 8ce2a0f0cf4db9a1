use Rattle.ctl_moves.proofs.connecting.hold_joined.Goals as goal

pub returns-clause-stands : goal.returns-clause-stands
returns-clause-stands g c = c.hold.ensures.stands

pub returns-clause-next : goal.returns-clause-next
returns-clause-next g c = c.hold.ensures.next
