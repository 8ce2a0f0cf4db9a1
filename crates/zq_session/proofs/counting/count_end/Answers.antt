use Rattle.std.proofs.Common.{◌≡◌, sym, subst, ◌∙◌}
use Rattle.link_side.specs.Kept.{Side}
use Rattle.link_side.specs.declared.behind.Behind.TheVariants.{Nothing}
use Rattle.zq_session.specs.Counting.{TallyEnds}
use Rattle.zq_session.proofs.NotingLemmas.{ease_at}
use Rattle.zq_session.proofs.CountingLemmas.{no_end, the_end}
use Rattle.zq_session.proofs.counting.count_end.Goals as goal

pub returns-in-None : goal.returns-in-None
returns-in-None c = λ side e. no_end c.args.side.now side c.in-None.is e

pub count_over-requires : goal.count_over-requires
count_over-requires c = record { rest = ease_at (λ (x : Side). x.behind ≡ Nothing) c.args.side.now c.in-Some.stands c.in-Some.is c.requires.rest }

pub returns-in-Some : goal.returns-in-Some
returns-in-Some c = λ side e. subst (λ (x : Side). TallyEnds c.args.life.now x.kept c.args.why c.args.tally.now c.count_over.new.tally) (the_end c.in-Some.stands side (sym c.in-Some.is ∙ e)) c.count_over.ensures
