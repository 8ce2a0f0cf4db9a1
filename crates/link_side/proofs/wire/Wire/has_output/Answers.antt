use Rattle.std.proofs.Common.{eqb-true, sym}
use Rattle.std.proofs.lemmas.List.{nil_from_length}
use Rattle.spec_zmtp.proofs.MetadataLemmas.{not_zero}
use Rattle.link_side.specs.WireView.{kept}
use Rattle.link_side.proofs.RestLemmas.{some_left}
use Rattle.link_side.proofs.SilentLemmas.{has_output, has_none}
use Rattle.link_side.proofs.wire.Wire.has_output.Goals as goal

pub returns-then-is_empty-clause-no : goal.returns-then-is_empty-clause-no
returns-then-is_empty-clause-no c = λ _. has_none (kept c.args.self.now) c.requires.rest.fed c.requires.rest.current (c.out.ensures.empty (nil_from_length _ (eqb-true _ _ (sym c.if-is_empty.ensures)))).unwritten

pub returns-clause-yes : goal.returns-clause-yes
returns-clause-yes c = λ _. has_output (kept c.args.self.now) c.requires.rest.fed c.requires.rest.current (some_left c.args.self.now.engine c.out.result.now c.out.ensures.prefix (not_zero _ (sym c.if-is_empty.ensures)))
