-- What calls leave of places, one after another, and the places of a list after a turn.
use Rattle.std.proofs.Common.{ℕ, Bool, List, refl, ◌∙◌, All}
use Rattle.zq_base.specs.Ends.{PipeId}
use Rattle.msg_pipe.specs.Places.{KeepsPlaces}

module _ {S : Type 0} (here : S → ℕ → Type 0) (end_at : S → ℕ → PipeId) (writable : S → ℕ → Bool) where
  pub keeps_none : (s : S) → KeepsPlaces here end_at writable s s
  keeps_none s = record { stay = λ k h. h; ends = refl; states = refl }

  pub keeps_on : (s t u : S) → KeepsPlaces here end_at writable s t → KeepsPlaces here end_at writable t u → KeepsPlaces here end_at writable s u
  keeps_on s t u first then = record {
    stay = λ k h. then.stay k (first.stay k h);
    ends = then.ends ∙ first.ends;
    states = then.states ∙ first.states;
  }

  -- places at which an end is have one still
  pub all_here : (s t : S) (places : List ℕ) → KeepsPlaces here end_at writable s t → All (here s) places → All (here t) places
  all_here s t places keeps all = λ k d within. keeps.stay _ (all k d within)
