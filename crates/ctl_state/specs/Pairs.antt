-- The pairs as they are kept, and the rows, reasons and struck connects of the control state that they are.
use Rattle.std.specs.Prelude.{◌≡◌, ℕ, Bool, true, false, not, List, Option, Some, None, length, slice_index_or, slice_set}
use Rattle.zq_base.specs.declared.ids.EndId.{EndId}
use Rattle.zq_base.specs.declared.ids.ObjId.{ObjId}
use Rattle.spec_control.specs.declared.end.EndState.{EndState}
use Rattle.spec_control.specs.declared.end.EndState.TheVariants.{Gone}
use Rattle.spec_control.specs.declared.end.EndEvent.{EndEvent}
use Rattle.spec_control.specs.declared.end.EndCommands.{EndCommands}
use Rattle.spec_control.specs.declared.end.EndCommands.TheVariants.{Nothing}
use Rattle.spec_control.specs.declared.end.Reason.{Reason}
use Rattle.spec_control.specs.EndLife.{ReasonFits, new_life, life_after, commands_at, comes}
use Rattle.spec_control.specs.Place.{Place, Unmade as IsUnmade, Away as IsAway, At as IsAt}
use Rattle.spec_control.specs.Rows.{PairRow, no_pair}
use Rattle.ctl_state.specs.declared.pair.Spot.{Spot}
use Rattle.ctl_state.specs.declared.pair.Spot.TheVariants.{Unmade, Away, At, Over}
use Rattle.ctl_state.specs.declared.pair.Entry.{Entry}

-- where an end is, for the control state
abbrev pub place_at : Spot → Place
place_at Unmade = IsUnmade
place_at Away = IsAway
place_at (At life) = IsAt life.state
place_at Over = IsAt Gone

-- how far an end there is in its life, if it was attached
abbrev pub state_in : Place → Option EndState
state_in IsUnmade = None
state_in IsAway = None
state_in (IsAt state) = Some state

-- the reason fits how far an end there is
abbrev pub FitsAt : Place → Option Reason → Type 0
FitsAt IsUnmade reason = Unit {0}
FitsAt IsAway reason = Unit {0}
FitsAt (IsAt state) reason = ReasonFits state reason

-- why it was asked
abbrev pub reason_at : Spot → Option Reason
reason_at Unmade = None
reason_at Away = None
reason_at (At life) = life.reason
reason_at Over = None

-- the event may come to an end there
abbrev pub spot_comes : EndEvent → Spot → Bool
spot_comes event Unmade = false
spot_comes event Away = false
spot_comes event (At life) = comes event life.state
spot_comes event Over = false

-- where the end is then, and what is to be done
abbrev pub spot_after : EndEvent → Spot → Spot
spot_after event Unmade = Unmade
spot_after event Away = Away
spot_after event (At life) = At (life_after event life)
spot_after event Over = Over

abbrev pub spot_commands : EndEvent → Spot → EndCommands
spot_commands event Unmade = Nothing
spot_commands event Away = Nothing
spot_commands event (At life) = commands_at event life
spot_commands event Over = Nothing

-- end a, or end b
abbrev pub spot_in : Entry → Bool → Spot
spot_in p true = p.a
spot_in p false = p.b

abbrev pub struck_in : Entry → Bool → Bool
struck_in p true = p.a_struck
struck_in p false = p.b_struck

abbrev pub owner_in : Entry → Bool → ObjId
owner_in p true = p.a_owner
owner_in p false = p.b_owner

-- the pair with this end there, or struck
abbrev pub entry_with : Bool → Spot → Entry → Entry
entry_with true spot p = record p { a = spot }
entry_with false spot p = record p { b = spot }

abbrev pub entry_struck : Bool → Entry → Entry
entry_struck true p = record p { a_struck = true }
entry_struck false p = record p { b_struck = true }

-- what a number that no pair has stands for
abbrev pub no_entry : Entry
no_entry = record { a_owner = record { 0 = 0 }; b_owner = record { 0 = 0 }; a = Over; b = Over; a_struck = false; b_struck = false }

abbrev pub entry_at : List Entry → ℕ → Entry
entry_at entries k = slice_index_or entries k no_entry

abbrev pub spot_at : List Entry → EndId → Spot
spot_at entries e = spot_in (entry_at entries e.pair.0) e.a

abbrev pub struck_at : List Entry → EndId → Bool
struck_at entries e = struck_in (entry_at entries e.pair.0) e.a

abbrev pub owner_at : List Entry → EndId → ObjId
owner_at entries e = owner_in (entry_at entries e.pair.0) e.a

-- the pairs with this end there
abbrev pub with_spot : EndId → Spot → List Entry → List Entry
with_spot e spot entries = slice_set entries e.pair.0 (entry_with e.a spot (entry_at entries e.pair.0))

-- the pair is made: this end is attached, and the other's bind is on its way
abbrev pub entry_open : Bool → Entry → Entry
entry_open a p = entry_with a (At new_life) (entry_with (not a) Away p)

-- a pair of which the number was drawn
abbrev pub entry_drawn : ObjId → ObjId → Entry
entry_drawn a_owner b_owner = record { a_owner = a_owner; b_owner = b_owner; a = Unmade; b = Unmade; a_struck = false; b_struck = false }

-- the row of the control state that a pair is
abbrev pub pair_row : Entry → PairRow
pair_row p = record { a_owner = p.a_owner.0; b_owner = p.b_owner.0; a = place_at p.a; b = place_at p.b }

-- the rows, the reasons and the struck connects are those of these pairs
pub record ArePairs (entries : List Entry) (rows : List PairRow) (reasons : EndId → Option Reason) (struck : EndId → Bool) : Type 0 where
  pub each : (k : ℕ) → slice_index_or rows k no_pair ≡ pair_row (entry_at entries k)
  pub many : length rows ≡ length entries
  pub reasons_are : (e : EndId) → reasons e ≡ reason_at (spot_at entries e)
  pub struck_are : (e : EndId) → struck e ≡ struck_at entries e
