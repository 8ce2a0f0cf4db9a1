-- Which ends came to a socket's places in a stretch of calls, and at which of them pipes were changed (own choice, after libzmq's `pipe_t`).
use Rattle.std.specs.Prelude.{◌≡◌, ◌≤◌, ◌⊎◌, ℕ, Bool, true, false, List, [], ◌∷◌, ◌++◌, Some}
use Rattle.spec_control.specs.declared.entry.Joining.{Joining}
use Rattle.msg_pipe.specs.Known.{Known, IsThere}
use Rattle.end_table.specs.declared.changes.PipeChange.{PipeChange}
use Rattle.end_table.specs.declared.changes.PipeChange.TheVariants.{Kept, Made, Sealed, SealedAgain, Parted, Settled}
use Rattle.end_table.specs.declared.table.Place.{Place}
use Rattle.end_table.specs.Places.{place_at}
use Rattle.sock_core.specs.Way.{oldest_first}

-- one of these
abbrev pub IsOneOf : {A : Type 0} → List A → A → Type 0
IsOneOf [] a = ⊥
IsOneOf (x ∷ xs) a = (x ≡ a) ⊎ IsOneOf xs a

module _ {N I : Type 0} where
  -- the end at a place is one of these that joined, with the names of its pipes
  pub record HasJoined (js : List (Joining N)) (p : Place N I) : Type 0 where
    pub joining : Joining N
    pub among : IsOneOf js joining
    pub end_is : p.end ≡ joining.end
    pub written_is : p.written ≡ joining.written
    pub read_is : p.read ≡ joining.read

  -- at this place
  pub record JoinedAt (xs : List (Joining N × ℕ)) (k : ℕ) (p : Place N I) : Type 0 where
    pub joining : Joining N
    pub among : IsOneOf xs (joining, k)
    pub end_is : p.end ≡ joining.end
    pub written_is : p.written ≡ joining.written
    pub read_is : p.read ≡ joining.read

  module _ {O : Type 0} (so : ℕ → Place N I → Type 0) (many : ℕ) (ps : List (Place N I)) where
    -- what was changed at a place behind so many was changed at one that is so
    abbrev pub IsChangedAt : PipeChange O I → Type 0
    IsChangedAt Kept = Unit {0}
    IsChangedAt (Made e capacity halves) = Unit {0}
    IsChangedAt (Sealed k e half) = many ≤ k → (p : Place N I) → place_at ps k ≡ Some p → so k p
    IsChangedAt (SealedAgain k e) = many ≤ k → (p : Place N I) → place_at ps k ≡ Some p → so k p
    IsChangedAt (Parted k e half) = many ≤ k → (p : Place N I) → place_at ps k ≡ Some p → so k p
    IsChangedAt (Settled k e) = many ≤ k → (p : Place N I) → place_at ps k ≡ Some p → so k p

    abbrev pub AreChangedAt : {S : Type 0} → List (PipeChange O I × S) → Type 0
    AreChangedAt [] = Unit {0}
    AreChangedAt (x ∷ xs) = IsChangedAt x.0 × AreChangedAt xs

module _ {S O I N : Type 0} (K : Known S O I N) where
  -- the pipes of the end at a place were not there
  pub record IsOfNew (first : S) (p : Place N I) : Type 0 where
    pub written : K.exact ≡ true → IsThere K first p.written → ⊥
    pub read : K.exact ≡ true → IsThere K first p.read → ⊥

  -- The ends that stand at the places behind so many joined since and were not taken back; where an attach may be undone, so may theirs have been, whose pipes were made since. Pipes were changed at places of such as were not taken back.
  pub record HasCome (undoes comes : Bool) (first : S) (many : ℕ) (before : List (Joining N)) (xs : List (Joining N × ℕ)) (now : List (Joining N)) (changes : List (PipeChange O I × S)) (ps : List (Place N I)) : Type 0 where
    pub joins_are : now ≡ before ++ oldest_first xs
    pub held : (k : ℕ) (p : Place N I) → many ≤ k → place_at ps k ≡ Some p → p.held ≡ true → JoinedAt xs k p
    pub each : (k : ℕ) (p : Place N I) → many ≤ k → place_at ps k ≡ Some p → JoinedAt xs k p ⊎ ((undoes ≡ true) × (comes ≡ false → IsOfNew first p))
    pub changed : AreChangedAt (JoinedAt xs) many ps changes
