-- How an open socket goes on behind an item of it: its caller's moments, its mailbox, and what its holder is told of its ends (own choice, after libzmq's `socket_base_t`).
use Rattle.std.specs.Prelude.{◌≡◌, ℕ, Bool, true, false, List, [], ◌∷◌, ◌++◌, map}
use Rattle.zq_base.specs.declared.ids.EndId.{EndId}
use Rattle.zq_base.specs.declared.kind.Kind.{Kind}
use Rattle.spec_control.specs.declared.entry.Joining.{Joining}
use Rattle.spec_control.specs.declared.entry.Item.{Item}
use Rattle.spec_control.specs.declared.entry.Item.TheVariants.{Event, Seen}
use Rattle.spec_control.specs.Place.{At}
use Rattle.spec_control.specs.Rows.{obj, is_owner}
use Rattle.spec_control.specs.Control.{ends_of}
use Rattle.spec_control.specs.Held.{caller_of}
use Rattle.spec_control.specs.Has.{given_up}
use Rattle.spec_control.specs.Moments.{left_after, left_by}
use Rattle.desk.specs.Holding.{Holding}
use Rattle.desk.specs.Desk.{HasWhatTheySay, came_with}
use Rattle.sock_core.specs.declared.sock.SockCore.{SockCore}
use Rattle.sock_core.specs.Has.{state_in, holding_in}
use Rattle.socket_laws.specs.Open.{ends_at, moments_of, HasOpen, moment_at, left_before, ComesTo}
use Rattle.socket_laws.specs.OpenEnds.{state_held}

module _ {N S : Type 0} where
  -- the item closes this socket
  abbrev pub closes_it : ℕ → Item N S → Bool
  closes_it o (Event entry) = is_owner o (given_up entry.did)
  closes_it o (Seen sight) = false

  -- its caller has it open still, with this moment more, which left its ends as they are, and in the same mailbox
  pub record IsOpenBehind (io : ℕ) (before : List (Item N S)) (item : Item N S) (o : ℕ) : Type 0 where
    pub moments : moments_of io (before ++ item ∷ []) (caller_of item) ≡ moments_of io before (caller_of item) ++ moment_at io before item ∷ []
    pub opens : HasOpen io (before ++ item ∷ []) (caller_of item) o
    pub ends : ends_at o (left_after o (moments_of io (before ++ item ∷ []) (caller_of item))) ≡ ends_at o (left_by (moment_at io before item))
    pub slot : (obj (left_after o (moments_of io (before ++ item ∷ []) (caller_of item))).rows o).slot ≡ (obj (left_before io before item o).rows o).slot

abbrev pub OpenGoesOn : (N S : Type 0) → Type 0
OpenGoesOn N S = (io : ℕ) (before : List (Item N S)) (item : Item N S) (o : ℕ) → ComesTo io before item o → closes_it o item ≡ false → IsOpenBehind io before item o

-- where the ends that joined a holder were those of the socket, they are so with those that join in the item, each told where it is
abbrev pub ToldEndsGoOn : (N S : Type 0) → Type 0
ToldEndsGoOn N S = (io : ℕ) (before : List (Item N S)) (item : Item N S) (o : ℕ) → ComesTo io before item o → closes_it o item ≡ false →
    (js : List (Joining N)) → map (λ j. j.end) js ≡ ends_of o (left_before io before item o) →
    (h : Holding N) → HasWhatTheySay (caller_of item) (moments_of io (before ++ item ∷ []) (caller_of item)) h → h.holds o ≡ true →
    map (λ j. record { end = j.end; place = At (state_held h o j.end) }) (js ++ came_with item) ≡ ends_at o (left_by (moment_at io before item))

-- how far a socket is told that its ends are
abbrev pub StatesAreHeld : (C W N O I : Type 0) → Type 0
StatesAreHeld C W N O I = (kind : Kind) (s : SockCore C W N O I) (e : EndId) → state_held (holding_in kind s) s.number.0 e ≡ state_in s.ends.places.items e
