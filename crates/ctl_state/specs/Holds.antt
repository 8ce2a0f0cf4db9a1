-- What a socket holds of an endpoint, for the control state, and what is sought, struck and joined among its holds (own choice).
use Rattle.std.specs.Prelude.{ℕ, Bool, List, [], ◌∷◌, Option, Some, None, if◌then◌else◌}
use Rattle.zq_base.specs.declared.endpoint.Endpoint.{Endpoint}
use Rattle.zq_base.specs.declared.endpoint.Endpoint.TheVariants.{Inproc}
use Rattle.zq_base.specs.declared.ids.ObjId.{ObjId}
use Rattle.zq_base.specs.declared.ids.PairId.{PairId}
use Rattle.spec_control.specs.EndpointBook.{without_first}
use Rattle.spec_control.specs.Hold.{Hold as HoldSaid, Bound as IsBound, Waits as DoesWait, Joined as IsJoined, is_bind_to, is_connect_to, waits_for}
use Rattle.ctl_state.specs.declared.hold.Held.{Held}
use Rattle.ctl_state.specs.declared.hold.Held.TheVariants.{Bound, Waits, Joined}
use Rattle.ctl_state.specs.declared.hold.Hold.{Hold}
use Rattle.ctl_state.specs.declared.hold.Sought.{Sought}
use Rattle.ctl_state.specs.declared.hold.Sought.TheVariants.{Bind, Connect, Waiting}
use Rattle.ctl_state.specs.Listed.{Listed, with_items}

abbrev pub owner_number : Option ObjId → Option ℕ
owner_number None = None
owner_number (Some owner) = Some owner.0

-- what a socket holds, for the control state
abbrev pub hold_at : Endpoint → Held → HoldSaid
hold_at at (Bound listener) = IsBound at (owner_number listener)
hold_at at Waits = DoesWait at
hold_at at (Joined pair session) = IsJoined at pair.0 (owner_number session)

abbrev pub hold_of : Hold → HoldSaid
hold_of hold = hold_at hold.at hold.held

-- what is held is one of those that are sought, and of this endpoint
abbrev pub is_sought : Sought → Endpoint → HoldSaid → Bool
is_sought Bind to hold = is_bind_to to hold
is_sought Connect to hold = is_connect_to to hold
is_sought Waiting to hold = waits_for to hold

-- what a number that no hold has stands for
abbrev pub no_hold : Hold
no_hold = record { at = Inproc []; held = Waits }

-- the hold is what is sought
abbrev pub seeks : Sought → Endpoint → Hold → Bool
seeks sought to hold = is_sought sought to (hold_of hold)

-- without the first that is sought
abbrev pub without_sought : Sought → Endpoint → Listed Hold → Listed Hold
without_sought sought to list = with_items (without_first (seeks sought to) list.items) list

-- the hold has got this pair
abbrev pub joined : PairId → Hold → Hold
joined pair hold = record hold { held = Joined pair None }

-- the holds, of which the first that waits for the endpoint has got this pair
abbrev pub joined_first : Endpoint → PairId → List Hold → List Hold
joined_first at pair [] = []
joined_first at pair (hold ∷ holds) = if seeks Waiting at hold then joined pair hold ∷ holds else hold ∷ joined_first at pair holds

abbrev pub with_joined : Endpoint → PairId → Listed Hold → Listed Hold
with_joined at pair list = with_items (joined_first at pair list.items) list
