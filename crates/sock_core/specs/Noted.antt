-- What the logs of a socket say of its ends (own choice).
use Rattle.std.specs.Prelude.{◌≡◌, ◌≤◌, ◌&&◌, ◌||◌, ◌++◌, ℕ, Bool, true, false, List, [], ◌∷◌, Some, All, map}
use Rattle.std.specs.List.{list_any}
use Rattle.zq_base.specs.declared.ids.EndId.{EndId}
use Rattle.spec_control.specs.Control.{is_end}
use Rattle.end_table.specs.declared.table.Place.{Place}
use Rattle.end_table.specs.Places.{place_at}
use Rattle.msg_pipe.specs.Known.{Known}
use Rattle.end_table.specs.declared.changes.PipeChange.{PipeChange}
use Rattle.desk.specs.declared.halves.Halves.{Halves}
use Rattle.end_table.specs.Sound.{Fits}
use Rattle.end_table.specs.Changes.{sealings_in, WereHeld, AreMadeFor, IsMadeAt, DoesChanges}

-- of the ends that were to be sealed behind these, each that was sealed before is one of those that were told before it
abbrev pub were_told : List EndId → List (EndId × Bool) → Bool
were_told es [] = true
were_told es (x ∷ xs) = (x.1 || list_any (is_end x.0) es) && were_told (es ++ x.0 ∷ []) xs

-- a socket was told to seal the pipes of these ends, behind those before
pub record TellsSeals (before : List EndId) (xs : List (EndId × Bool)) (now : List EndId) : Type 0 where
  pub all : now ≡ before ++ map (λ x. x.0) xs
  pub again : were_told before xs ≡ true

module _ {N I : Type 0} where
  -- an end that read the pipe of this name is held no more
  pub record ReadsNoMore (ps : List (Place N I)) (n : N) : Type 0 where
    pub at : ℕ
    pub place : Place N I
    pub there : place_at ps at ≡ Some place
    pub gone : place.held ≡ false
    pub name_is : place.read ≡ n

  -- each pipe that was settled is one that such an end read
  abbrev pub WereRead : List (Place N I) → List (N × Unit {0}) → Type 0
  WereRead ps settled = All (λ x. ∥ ReadsNoMore ps x.0 ∥₁) settled

  -- each end that is held and sealed is among those whose pipes were to be sealed
  abbrev pub AreSealed : List (Place N I) → List EndId → Type 0
  AreSealed ps sealed = (k : ℕ) (p : Place N I) → place_at ps k ≡ Some p → p.held ≡ true → p.sealed ≡ true → list_any (is_end p.end) sealed ≡ true

module _ {N O I S : Type 0} (K : Known S O I N) (may_make : EndId → ℕ → ℕ → Type 0) (changes : List (PipeChange O I × S)) where
  -- each end that is held behind so many places has halves of the pipes that were made for it
  abbrev pub AreMade : ℕ → List (Place N I) → Type 0
  AreMade many ps = (k : ℕ) (p : Place N I) → many ≤ k → place_at ps k ≡ Some p → p.held ≡ true → ∥ IsMadeAt K may_make changes p ∥₁

  -- halves that may join ends as this one; they are those of the pipes that were made for it last, unless ends come with their halves
  abbrev pub FitsFor : (comes : Bool) → S → List (Place N I) → EndId → Halves O I → Type 0
  FitsFor comes pipes ps e h = Fits K pipes ps h × (comes ≡ false → AreMadeFor K may_make changes e (K.out_name h.out) (K.in_name h.input))

-- what was done to the pipes since a stretch of calls began, with these pipes, with these places, and with these ends that the socket had been told to seal
pub record HasDone {N O I S : Type 0} (K : Known S O I N) (first : S) (were : List (Place N I)) (before : List EndId) (changes : List (PipeChange O I × S)) (now : S) (places : List (Place N I)) (sealed : List EndId) : Type 0 where
  pub does : ∥ DoesChanges K places first changes now ∥₁
  pub seals : TellsSeals before (sealings_in changes) sealed
  pub were_held : ∥ WereHeld were changes ∥₁
