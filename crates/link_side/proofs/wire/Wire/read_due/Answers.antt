use Rattle.std.proofs.Common.{[], Option, refl, ap}
use Rattle.std.specs.Prelude.{is_some}
use Rattle.zq_base.specs.Message.{Frames}
use Rattle.link_side.specs.WireView.{unfed, kept}
use Rattle.link_side.proofs.CountLemmas.{read_uncounted}
use Rattle.link_side.proofs.KeptLemmas.{no_acts}
use Rattle.link_side.proofs.PartLemmas.{adds_none}
use Rattle.link_side.proofs.RestLemmas.{nothing_held, something_held, rest_whole}
use Rattle.link_side.proofs.wire.Wire.read_due.Goals as goal

pub returns-then-self-clause-run : goal.returns-then-self-clause-run
returns-then-self-clause-run g c = ([], no_acts (kept c.args.self.now), adds_none _, refl)

pub returns-in-Some-clause-run : goal.returns-in-Some-clause-run
returns-in-Some-clause-run g c = ([], no_acts (kept c.args.self.now), adds_none _, refl)

pub returns-in-Some-clause-due : goal.returns-in-Some-clause-due
returns-in-Some-clause-due g c = λ rest opts acts r.
    something_held opts acts (kept c.args.self.now) rest.fed rest.current (ap (λ (o : Option Frames). is_some o) c.in-Some.is) r

pub returns-clause-due : goal.returns-clause-due
returns-clause-due g c = λ rest opts acts r.
    nothing_held opts acts (kept c.args.self.now) rest.fed rest.current (rest_whole (kept c.args.self.now) rest c.in-None.is) r

pub returns-then-self-clause-counts : goal.returns-then-self-clause-counts
returns-then-self-clause-counts g c = read_uncounted _ _ _

pub returns-in-Some-clause-counts : goal.returns-in-Some-clause-counts
returns-in-Some-clause-counts g c = read_uncounted _ _ _

pub returns-clause-run : goal.returns-clause-run
returns-clause-run g c = (unfed c.read-answer.new.self, c.read-answer.ensures.run, c.read-answer.ensures.told.1, c.read-answer.ensures.told.0)

pub returns-clause-others : goal.returns-clause-others
returns-clause-others g c = c.read-answer.ensures.others

pub returns-clause-counts : goal.returns-clause-counts
returns-clause-counts g c = c.read-answer.ensures.counts
