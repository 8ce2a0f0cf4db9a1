-- What was done through the way by which actors make, call and close sockets: one piece a call (own choice).
use Rattle.std.specs.Prelude.{◌≡◌, ℕ, Bool, false, List, [], ◌∷◌, ◌++◌, flat_map}
use Rattle.spec_pattern.specs.PipeStep.{PipeStep}
use Rattle.spec_pattern.specs.declared.answers.Skip.{Skip}
use Rattle.spec_control.specs.Held.{caller_of}
use Rattle.spec_run.specs.Act.{Act, Step, Said, Deed, acts_of, all_acts, steps_in}
use Rattle.spec_run.specs.Fate.{skips_of}

-- one call: its caller, whether it took a letter in the place of closed sockets, what it did, and the messages that it dropped
pub record Piece (N S : Type 0) : Type 0 where
  pub by : ℕ
  pub reaps : Bool
  pub acts : List (Act N S)
  pub skips : List Skip

module _ {N S : Type 0} where
  -- a call that did nothing is not told
  abbrev pub piece_of : ℕ → (reaps : Bool) → List (Act N S) → List Skip → List (Piece N S)
  piece_of k reaps [] skips = []
  piece_of k reaps (act ∷ acts) skips = record { by = k; reaps = reaps; acts = act ∷ acts; skips = skips } ∷ []

  -- the pieces of deeds that are one call each
  abbrev pub deed_pieces : ℕ → (reaps : Bool) → List (Deed N S) → List (Piece N S)
  deed_pieces k reaps deeds = flat_map (λ d. piece_of k reaps (acts_of d) (skips_of d)) deeds

  -- all that was done, in order, and its steps at pipes
  abbrev pub acts_in : List (Piece N S) → List (Act N S)
  acts_in pieces = flat_map (λ x. x.acts) pieces

  abbrev pub pipe_steps : List (Piece N S) → List PipeStep
  pipe_steps pieces = steps_in (acts_in pieces)

  -- each item among these acts is by this caller
  abbrev pub AreActsBy : (caller : ℕ) → List (Act N S) → Type 0
  AreActsBy k [] = Unit {0}
  AreActsBy k (Step step ∷ acts) = AreActsBy k acts
  AreActsBy k (Said m ∷ acts) = (caller_of m.item ≡ k) × AreActsBy k acts

  -- a caller did this by one call behind what was done before
  pub record AddsPiece (caller : ℕ) (reaps : Bool) (acts : List (Act N S)) (skips : List Skip) (old new : List (Piece N S)) : Type 0 where
    pub added : new ≡ old ++ piece_of caller reaps acts skips
    pub by : AreActsBy caller acts

  -- and so, for a socket of its own or for the context
  abbrev pub AddsActs : (caller : ℕ) → List (Act N S) → List Skip → (old new : List (Piece N S)) → Type 0
  AddsActs caller acts skips old new = AddsPiece caller false acts skips old new

  -- a caller did these deeds, one call each
  pub record AddsDeeds (caller : ℕ) (reaps : Bool) (deeds : List (Deed N S)) (old new : List (Piece N S)) : Type 0 where
    pub added : new ≡ old ++ deed_pieces caller reaps deeds
    pub by : AreActsBy caller (all_acts deeds)
