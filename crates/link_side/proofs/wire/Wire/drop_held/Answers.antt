use Rattle.std.proofs.Common.{refl}
use Rattle.link_side.specs.WireView.{kept}
use Rattle.link_side.proofs.DropLemmas.{drops_one}
use Rattle.link_side.proofs.wire.Wire.drop_held.Goals as goal

pub returns-clause-run : goal.returns-clause-run
returns-clause-run c = drops_one (kept c.args.self.now) _ c.requires.holds refl c.saturating_add-self.ensures refl refl
