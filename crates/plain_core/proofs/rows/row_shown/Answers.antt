use Rattle.std.proofs.Common.{true, false, sym}
use Rattle.plain_core.proofs.RowLemmas.{row_is}
use Rattle.plain_core.proofs.rows.row_shown.Goals as goal

pub returns-then-hears : goal.returns-then-hears
returns-then-hears c s counts reason =
    row_is true c.args.hears c.args.pipe c.args.drops s c.heard_counts.result c.args.reason (sym c.if-hears.true) (c.heard_counts.ensures s counts) reason

pub returns : goal.returns
returns c s counts reason =
    row_is false c.args.hears c.args.pipe c.args.drops s c.given_counts.result c.args.reason (sym c.if-hears.false) (c.given_counts.ensures s counts) reason
