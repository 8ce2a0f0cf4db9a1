use Rattle.ctl_plane.specs.Past.{control_of}
use Rattle.plain_core.specs.Settled.{row_in}
use Rattle.plain_core.proofs.PipeLemmas.{pair_rows}
use Rattle.std.proofs.Common.{arith}
use Rattle.plain_core.proofs.pipes.all_rows.Goals as goal

pub pairs-preserved : goal.pairs-preserved
pairs-preserved g c =
    let p = c.args.desk.now.past in
    let first = c.pairs.invariant.first in
    let lt = c.pairs-test.true in
    let many = c.pairs-many.ensures in
    record {
      first = omega (arith, first);
      so_far = pair_rows (row_in (control_of p) c.args.drops.now) (control_of p).rows.pairs c.pairs.number c.pairs.rows.items c.push_rows.new.rows.items first (omega (arith, lt, many)) c.pairs.invariant.so_far c.in_ok-push_rows.ensures;
    }
