use Rattle.std.proofs.Common.{refl}
use Rattle.link_side.proofs.CountLemmas.{linked_counted, stalled_counted, failed_counted}
use Rattle.link_side.proofs.dialler.Dialler.ask.Goals as goal

pub keep-requires : goal.keep-requires
keep-requires g c = record { fresh = c.requires.fresh }

pub keep-requires-in-Failed : goal.keep-requires-in-Failed
keep-requires-in-Failed g c = record { fresh = c.requires.fresh }

pub returns-in-Linked-clause-due : goal.returns-in-Linked-clause-due
returns-in-Linked-clause-due g c = c.requires.moment

pub returns-in-Linked-clause-counts : goal.returns-in-Linked-clause-counts
returns-in-Linked-clause-counts g c = linked_counted _ _ _ _ c.in-Linked.ensures.faults c.in-Linked.ensures.stalls

pub returns-in-NotReady-clause-due : goal.returns-in-NotReady-clause-due
returns-in-NotReady-clause-due g c = c.requires.moment

pub returns-in-NotReady-clause-next : goal.returns-in-NotReady-clause-next
returns-in-NotReady-clause-next g c = c.keep.ensures.keeps

pub returns-in-NotReady-clause-counts : goal.returns-in-NotReady-clause-counts
returns-in-NotReady-clause-counts g c = stalled_counted _ _ _ _ c.in-NotReady.ensures.faults c.in-NotReady.ensures.stalls refl

pub returns-in-Failed-clause-due : goal.returns-in-Failed-clause-due
returns-in-Failed-clause-due g c = c.requires.moment

pub returns-in-Failed-clause-counts : goal.returns-in-Failed-clause-counts
returns-in-Failed-clause-counts g c = failed_counted _ _ _ _ c.in-Failed.ensures.faults c.in-Failed.ensures.stalls refl
