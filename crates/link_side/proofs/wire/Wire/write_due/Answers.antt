use Rattle.std.proofs.Common.{eqb-true, sym}
use Rattle.std.proofs.lemmas.List.{nil_from_length}
use Rattle.spec_zmtp.proofs.MetadataLemmas.{not_zero}
use Rattle.link_side.specs.WireView.{kept}
use Rattle.link_side.proofs.RestLemmas.{nothing_to_write, something_to_write, some_left}
use Rattle.link_side.proofs.wire.Wire.write_due.Goals as goal

pub returns-then-is_empty-clause-due : goal.returns-then-is_empty-clause-due
returns-then-is_empty-clause-due g c = λ opts acts r.
    nothing_to_write opts acts (kept c.args.self.now) c.requires.rest.fed c.requires.rest.current (c.out.ensures.empty (nil_from_length _ (eqb-true _ _ (sym c.if-is_empty.ensures)))).unwritten r

pub returns-clause-due : goal.returns-clause-due
returns-clause-due g c = λ opts acts r.
    something_to_write opts acts (kept c.args.self.now) c.requires.rest.fed c.requires.rest.current
    (some_left c.args.self.now.engine c.out.result.now c.out.ensures.prefix (not_zero _ (sym c.if-is_empty.ensures))) r
