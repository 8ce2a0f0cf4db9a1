-- A socket over its own ends as a run tells it (own choice, after libzmq's `socket_base_t`).
use Rattle.std.specs.Prelude.{ℕ, zero, suc, false, List, [], ◌∷◌, Option, Some, None, map}
use Rattle.zq_base.specs.declared.ids.EndId.{EndId}
use Rattle.spec_pattern.specs.Pattern.{Pattern}
use Rattle.spec_pattern.specs.Pattern as by_kind
use Rattle.spec_control.specs.declared.entry.Joining.{Joining}
use Rattle.spec_control.specs.Place.{At}
use Rattle.any_sock.specs.declared.any_sock.AnySock.{AnySock}
use Rattle.any_sock.specs.Over.{over, caught_up}
use Rattle.end_table.specs.declared.table.Place.{Place}
use Rattle.sock_core.specs.declared.sock.SockCore.{SockCore}
use Rattle.sock_core.specs.Has.{state_in}
use Rattle.sock_core.specs.Kinds.{no_ends}
use Rattle.sock_core.specs.Standing.{standing_joins}
use Rattle.spec_run.specs.OpenSocket.{SockEnd, OpenSock}

module _ {N I : Type 0} where
  -- the ends by the places of their attachment
  abbrev pub end_at : List (Place N I) → ℕ → EndId
  end_at [] k = no_ends k
  end_at (p ∷ ps) zero = p.end
  end_at (p ∷ ps) (suc k) = end_at ps k

  -- the ends that joined, in order, and how far each is; one that is not held any more is gone
  abbrev pub ends_told : List (Joining N) → List (Place N I) → List SockEnd
  ends_told js ps = map (λ j. record { end = j.end; place = At (state_in ps j.end) }) js

module _ {W N O I : Type 0} where
  -- the state of its kind, once it obeyed what want of memory left, as it does before each call
  abbrev pub pattern_told : SockCore AnySock W N O I → Pattern
  pattern_told s = over (end_at s.ends.places.items) (caught_up (end_at s.ends.places.items) s.kind)

  -- a socket whose mailbox has this number; one that is not there has no end
  abbrev pub open_view : (slot : ℕ) → Option (SockCore AnySock W N O I) → OpenSock
  open_view slot None = record { object = 0; slot = slot; stopped = false; pattern = by_kind.Push []; ends = [] }
  open_view slot (Some s) = record {
    object = s.number.0;
    slot = slot;
    stopped = s.stopped;
    pattern = pattern_told s;
    ends = ends_told (standing_joins s.joins.items) s.ends.places.items;
  }
