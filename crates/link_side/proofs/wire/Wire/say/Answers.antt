use Rattle.std.proofs.Common.{refl}
use Rattle.link_side.specs.declared.wire.Wire.{Wire}
use Rattle.link_side.specs.WireView.{kept}
use Rattle.link_side.proofs.KeptLemmas.{run_fetched}
use Rattle.link_side.proofs.wire.Wire.say.Goals as goal

pub returns-in-Taken-clause-run : goal.returns-in-Taken-clause-run
returns-in-Taken-clause-run c =
    let old : Wire = c.args.self.now in
    λ act o opts acts r. run_fetched opts acts act c.args.message (kept old) (kept (record old { engine = c.offer.new.self })) o.said o.heard o.offered o.put refl refl refl c.in-Taken.ensures.answer r
