use Rattle.std.proofs.Common.{arith}
use Rattle.ctl_plane.specs.Past.{control_of}
use Rattle.plain_core.proofs.DropLemmas.{told_more}
use Rattle.plain_core.proofs.drops.note_drops.Goals as goal

pub skips-preserved : goal.skips-preserved
skips-preserved g c =
    let first = c.skips.invariant.first in
    let test = c.skips-test.true in
    record {
      first = omega (arith, first);
      so_far = told_more (control_of c.args.desk.now.past) c.args.object.0 c.args.told.now c.args.before c.skips.place _ c.args.drops.now.items c.skips.drops.items c.note_drop.new.drops.items
          first (omega (arith, test)) c.skips.invariant.so_far c.in_ok-note_drop.ensures;
    }
