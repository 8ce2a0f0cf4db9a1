-- What the reaper has of closed sockets, as the control plane is told (own choice, after libzmq's `reaper_t`).
use Rattle.std.specs.Prelude.{◌==◌, ◌&&◌, ℕ, Bool, false, List, [], ◌∷◌, Option, Some, None, flat_map, is_some, map, if◌then◌else◌}
use Rattle.std.specs.List.{list_any}
use Rattle.zq_base.specs.declared.ids.EndId.{EndId}
use Rattle.spec_control.specs.declared.end.EndState.{EndState}
use Rattle.spec_control.specs.declared.end.EndState.TheVariants.{Gone}
use Rattle.spec_control.specs.declared.entry.Joining.{Joining}
use Rattle.spec_control.specs.Control.{is_end}
use Rattle.desk.specs.declared.given.Given.{Given}
use Rattle.desk.specs.declared.notice.Notice.{Notice}
use Rattle.desk.specs.Holding.{Holding, held_given}
use Rattle.sock_core.specs.Standing.{standing_joins}
use Rattle.closed_ends.specs.declared.sockets.ClosedSocket.{ClosedSocket}
use Rattle.closed_ends.specs.declared.sockets.ClosedSockets.{ClosedSockets}

-- what was told of closed sockets, and the ends that joined them, in order
pub record Heard (N : Type 0) : Type 0 where
  pub notices : List Notice
  pub joined : List (Joining N)

module _ {N O I : Type 0} where
  -- as their logs have it
  abbrev pub heard_in : ClosedSockets N O I → Heard N
  heard_in c = record { notices = map (λ x. x.0) c.heard.items; joined = standing_joins c.joins.items }

  -- the ends of all closed sockets, in the order in which they came
  abbrev pub all_ends : List (ClosedSocket N O I) → List (Given N O I)
  all_ends ss = flat_map (λ s. s.ends.items) ss

  -- it is the closed socket of this number
  abbrev pub is_socket : ℕ → ClosedSocket N O I → Bool
  is_socket i s = i == s.number.0

  -- the ends of the closed socket of this number
  abbrev pub ends_of : List (ClosedSocket N O I) → ℕ → List (Given N O I)
  ends_of [] i = []
  ends_of (s ∷ ss) i = if is_socket i s then s.ends.items else ends_of ss i

  -- it is this end; and its writing half is there, or its reading half has met its delimiter
  abbrev pub is_of : EndId → Given N O I → Bool
  is_of e g = is_end e g.end

  abbrev pub writes_of : EndId → Given N O I → Bool
  writes_of e g = is_some g.out && is_of e g

  abbrev pub met_of : EndId → Given N O I → Bool
  met_of e g = g.met && is_of e g

  -- the reading half of an end, if it is there
  abbrev pub input_in : List (Given N O I) → EndId → Option I
  input_in [] e = None
  input_in (g ∷ gs) e = if is_of e g then Some g.input else input_in gs e

  -- how far an end is; one that is not there is gone
  abbrev pub state_in : List (Given N O I) → EndId → EndState
  state_in [] e = Gone
  state_in (g ∷ gs) e = if is_of e g then g.state else state_in gs e

module _ {N O I : Type 0} (out_name : O → N) (in_name : I → N) where
  -- closed sockets with their ends, of which this was told; they have no kind
  abbrev pub has : (turns : List (EndId × EndState)) → (sealed : List EndId) → (heard : Heard N) → List (ClosedSocket N O I) → Holding N
  has turns sealed heard ss = record {
    holds = λ i. list_any (is_socket i) ss;
    ends = λ i. map (held_given out_name in_name) (ends_of ss i);
    writes = λ e. list_any (writes_of e) (all_ends ss);
    at_delimiter = λ e. list_any (met_of e) (all_ends ss);
    kind = λ i. None;
    output_left = λ i. false;
    state = state_in (all_ends ss);
    turns = turns;
    sealed = sealed;
    joined = heard.joined;
    heard = heard.notices;
  }

  abbrev pub holding_in : ClosedSockets N O I → Holding N
  holding_in c = has c.turns.items (map (λ x. x.0) c.sealed.items) (heard_in c) c.sockets.items
