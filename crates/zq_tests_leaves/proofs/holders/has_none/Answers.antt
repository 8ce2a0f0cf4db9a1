use Rattle.std.proofs.Common.{sym, subst}
use Rattle.end_table.specs.Places.{IsOnce}
use Rattle.sock_core.proofs.FindLemmas.{once_of}
use Rattle.sock_core.proofs.FormLemmas.{sound_of}
use Rattle.zq_tests_leaves.proofs.holders.has_none.Goals as goal

pub find-requires : goal.find-requires
find-requires c =
    let s = c.args.socket.now in
    record {
      once = subst (IsOnce c.the_end.result) (sym c.deref.ensures.value)
          (once_of _ s.pipes s.core.ends.rows.items s.core.ends.places.items c.the_end.result (sound_of _ s.pipes s.core.ends.rows.items s.core.ends.places.items s.sound));
    }
