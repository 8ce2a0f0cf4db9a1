use Rattle.std.specs.Prelude.{◌≡◌, length}
use Rattle.spec_control.specs.Control.{Control}
use Rattle.ctl_state.specs.Stands.{Stands}
use Rattle.ctl_moves.specs.Noting.{noted_end}
use Rattle.ctl_moves.proofs.NotedLemmas.{first_mapped}
use Rattle.ctl_moves.proofs.noting.note_ends.Given as goal

-- so many were noted
abbrev pub invariant-each : goal.invariant-each
invariant-each g l = record {
  so_far : (c : Control) → Stands l.state c → l.ends.items ≡ first_mapped (noted_end c) l.place l.fn.ends.items;
  many : length l.ends.items ≡ length l.fn.ends.items;
}
