-- How what a socket has bound and connected is kept: by the marks of the endpoints, the first of each mark and those behind another of theirs (own choice).
use Rattle.std.specs.Prelude.{◌≡◌, ◌+◌, ◌-◌, ◌*◌, ◌%◌, ◌^◌, ℕ, Bool, cond, fold, nat_eq, List, [], ◌∷◌, ◌++◌, filter, option_to_list, None}
use Rattle.std.specs.Map.{lookup}
use Rattle.zq_base.specs.declared.endpoint.Endpoint.{Endpoint}
use Rattle.zq_base.specs.declared.endpoint.Endpoint.TheVariants.{Inproc, Tcp}
use Rattle.spec_control.specs.EndpointBook.{without_first}
use Rattle.ctl_state.specs.declared.hold.Hold.{Hold}
use Rattle.ctl_state.specs.declared.hold_change.Change.{Change}
use Rattle.ctl_state.specs.declared.hold_change.Change.TheVariants.{Comes, Goes, Joins}
use Rattle.ctl_state.specs.Holds.{seeks, joined_first}

-- the mark once one octet more is read
abbrev pub next_mark : ℕ → ℕ → ℕ
next_mark mark octet = (mark * 31 + octet) % 2 ^ 64

-- the number that an endpoint is searched for by: two endpoints may have the same
abbrev pub mark_of : Endpoint → ℕ
mark_of (Inproc name) = fold next_mark 0 name
mark_of (Tcp address) = fold next_mark address.port address.octets

-- the hold is searched for by this mark
abbrev pub has_mark : ℕ → Hold → Bool
has_mark mark hold = nat_eq mark (mark_of hold.at)

-- the first hold of each mark, the others in order, and for how many more there is room
pub record HoldRows : Type 0 where
  pub firsts : List (ℕ × Hold)
  pub others : List Hold
  pub spare : ℕ

-- nothing is held
abbrev pub no_rows : HoldRows
no_rows = record { firsts = []; others = []; spare = 0 }

-- the same rows, with these others
abbrev pub with_others : List Hold → HoldRows → HoldRows
with_others others rows = record rows { others = others }

-- the holds of a mark, in order
abbrev pub at_mark : HoldRows → ℕ → List Hold
at_mark rows mark = option_to_list (lookup (nat_eq mark) rows.firsts) ++ filter (has_mark mark) rows.others

-- where a mark has no first hold, it has no other
abbrev pub HaveFirsts : List (ℕ × Hold) → List Hold → Type 0
HaveFirsts firsts others = (m : ℕ) → lookup (nat_eq m) firsts ≡ None → filter (has_mark m) others ≡ []

-- the holds of one mark are these, those of the others are as before, and so is the room
pub record Puts (mark : ℕ) (holds : List Hold) (old new : HoldRows) : Type 0 where
  pub at : (m : ℕ) → at_mark new m ≡ cond (nat_eq mark m) holds (at_mark old m)
  pub spare : new.spare ≡ old.spare

-- a hold stands behind those of its mark, in room that was kept
pub record Adds (hold : Hold) (old new : HoldRows) : Type 0 where
  pub at : (m : ℕ) → at_mark new m ≡ at_mark old m ++ cond (has_mark m hold) (hold ∷ []) []
  pub spare : new.spare ≡ old.spare - 1

-- these are the holds, each found by its mark
abbrev pub AreMarked : List Hold → HoldRows → Type 0
AreMarked holds rows = (m : ℕ) → at_mark rows m ≡ filter (has_mark m) holds

-- the holds after a change
abbrev pub after_change : Endpoint × Change → List Hold → List Hold
after_change (at, Comes held) holds = holds ++ record { at = at; held = held } ∷ []
after_change (to, Goes sought) holds = without_first (seeks sought to) holds
after_change (at, Joins pair) holds = joined_first at pair holds

-- the holds after these changes of what was held
abbrev pub after_all : List Hold → List (Endpoint × Change) → List Hold
after_all holds [] = holds
after_all holds (c ∷ cs) = after_all (after_change c holds) cs
