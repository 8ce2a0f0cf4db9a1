use Rattle.std.specs.Prelude.{◌≡◌, length}
use Rattle.spec_control.specs.Control.{Control}
use Rattle.ctl_state.specs.Stands.{Stands}
use Rattle.ctl_moves.specs.Noting.{noted_join}
use Rattle.ctl_moves.proofs.NotedLemmas.{first_mapped}
use Rattle.ctl_moves.proofs.noting.note_joined.Given as goal

-- so many were noted
abbrev pub invariant-each : goal.invariant-each
invariant-each g l = record {
  so_far : (c : Control) → Stands l.state c → l.joined.items ≡ first_mapped (noted_join c) l.place l.fn.joined.items;
  many : length l.joined.items ≡ length l.fn.joined.items;
}
