-- What belongs to the objects as it is kept, and the lists of the control state that it is.
pub use Rattle.ctl_state.specs.Holds.{owner_number, hold_at, hold_of, is_sought, no_hold, seeks, without_sought, joined, joined_first, with_joined}
use Rattle.std.specs.Prelude.{◌≡◌, ◌<◌, ◌==◌, ℕ, List, All, filter, length, map, slice_index_or, slice_set}
use Rattle.zq_base.specs.declared.ids.EndId.{EndId}
use Rattle.spec_control.specs.Hold.{Hold as HoldSaid}
use Rattle.spec_control.specs.Rows.{PairRow, no_pair, end_owner}
use Rattle.ctl_state.specs.declared.hold.Hold.{Hold}
use Rattle.ctl_state.specs.declared.belongings.Belongings.{Belongings}
use Rattle.ctl_state.specs.Listed.{Listed, no_list, with_room}

-- nothing belongs to a number that no object has
abbrev pub no_belongings : Belongings
no_belongings = record { ends = no_list; holds = no_list }

-- nothing belongs to a new object, with room for so many ends
abbrev pub room_for : (ends : ℕ) → Belongings
room_for ends = record { ends = with_room ends no_list; holds = no_list }

abbrev pub belongings_at : List Belongings → ℕ → Belongings
belongings_at lists i = slice_index_or lists i no_belongings

-- the lists with an object's ends changed, or its holds
abbrev pub with_ends : (Listed EndId → Listed EndId) → ℕ → List Belongings → List Belongings
with_ends f i lists = slice_set lists i (record (belongings_at lists i) { ends = f (belongings_at lists i).ends })

abbrev pub with_holds : (Listed Hold → Listed Hold) → ℕ → List Belongings → List Belongings
with_holds f i lists = slice_set lists i (record (belongings_at lists i) { holds = f (belongings_at lists i).holds })

-- the ends of an object among these, by the owners that pairs have
abbrev pub ends_among : ℕ → List PairRow → List EndId → List EndId
ends_among i pairs attached = filter (λ e. end_owner (slice_index_or pairs e.pair.0 no_pair) e.a == i) attached

-- the lists are those of these attached ends and holds
pub record AreListed (lists : List Belongings) (pairs : List PairRow) (attached : List EndId) (holds : ℕ → List HoldSaid) : Type 0 where
  pub ends : (i : ℕ) → (belongings_at lists i).ends.items ≡ ends_among i pairs attached
  pub held : (i : ℕ) → map hold_of (belongings_at lists i).holds.items ≡ holds i
  pub known : All (λ e. e.pair.0 < length pairs) attached
