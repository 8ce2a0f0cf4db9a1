-- The ends of an owner by the places of their attachment (own choice, after libzmq's `pipe_t`).
use Rattle.std.specs.Prelude.{◌≡◌, ◌≢◌, ◌&&◌, ℕ, zero, suc, Bool, true, false, List, [], ◌∷◌, Option, Some, None, if◌then◌else◌}
use Rattle.std.specs.List.{list_any}
use Rattle.zq_base.specs.declared.ids.EndId.{EndId}
use Rattle.spec_control.specs.Control.{is_end}
use Rattle.spec_control.specs.Held.{Held}
use Rattle.end_table.specs.declared.table.Place.{Place}

module _ {N I : Type 0} where
  -- what stands at a place
  abbrev pub place_at : List (Place N I) → ℕ → Option (Place N I)
  place_at [] k = None
  place_at (p ∷ ps) zero = Some p
  place_at (p ∷ ps) (suc k) = place_at ps k

  -- an end with the names of its two pipes
  abbrev pub held_of : Place N I → Held N
  held_of p = record { end = p.end; written = p.written; read = p.read }

  -- the ends that are held, in the order of their attachment
  abbrev pub held_in : List (Place N I) → List (Held N)
  held_in [] = []
  held_in (p ∷ ps) = if p.held then held_of p ∷ held_in ps else held_in ps

  -- it is the place of this end, which is held
  abbrev pub is_of : EndId → Place N I → Bool
  is_of e p = p.held && is_end e p.end

  -- at one place at most this end is held
  abbrev pub IsOnce : EndId → List (Place N I) → Type 0
  IsOnce e ps = (j k : ℕ) (p q : Place N I) → j ≢ k → place_at ps j ≡ Some p → place_at ps k ≡ Some q → is_of e q ≡ true → is_of e p ≡ false

  -- and its writing half is there, or its reading half has met its delimiter
  abbrev pub writes_of : EndId → Place N I → Bool
  writes_of e p = p.writes && is_of e p

  abbrev pub met_of : EndId → Place N I → Bool
  met_of e p = p.met && is_of e p

  abbrev pub writes_in : List (Place N I) → EndId → Bool
  writes_in ps e = list_any (writes_of e) ps

  abbrev pub met_in : List (Place N I) → EndId → Bool
  met_in ps e = list_any (met_of e) ps

  -- an end that is held stands at this place
  pub record IsHeldAs (ps : List (Place N I)) (k : ℕ) (e : EndId) : Type 0 where
    pub place : Place N I
    pub there : place_at ps k ≡ Some place
    pub is : is_of e place ≡ true
