use Rattle.link_side.specs.WireView.{kept}
use Rattle.link_side.proofs.PartLemmas.{on_err, wants_by}
use Rattle.link_side.proofs.SilentLemmas.{hears_by}
use Rattle.link_side.proofs.wire.Wire.read_only.Goals as goal

pub returns-in_err-catch_up-clause-err : goal.returns-in_err-catch_up-clause-err
returns-in_err-catch_up-clause-err g c =
    let f = c.read_due-got.ensures.run in
    on_err c.from_residual.result _ (wants_by (kept c.args.self.now) (kept c.read_due-got.new.self) (kept c.catch_up.new.self) c.read_due-got.result f.0 _ _ _ f.1 c.catch_up.ensures.run f.2 f.3 c.read_due-got.ensures.due c.read_due-got.ensures.counts)

pub returns-clause-ok : goal.returns-clause-ok
returns-clause-ok g c =
    let f = c.read_due-got.ensures.run in
    hears_by (kept c.args.self.now) (kept c.read_due-got.new.self) (kept c.catch_up.new.self) c.read_due-got.result f.0 _ _ c.requires.rest f.2 f.3 f.1 c.catch_up.ensures.run c.read_due-got.ensures.due
