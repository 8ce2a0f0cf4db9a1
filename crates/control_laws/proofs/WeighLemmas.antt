-- What an event's moves weigh: each lowers a weight of the rows by its toll, but for what it brings.
use Rattle.std.specs.Prelude.{◌≡◌, ◌≤◌, ◌+◌, ℕ, Bool, true, false, cond, List, [], ◌∷◌, filter, sum_by, refl}
use Rattle.std.proofs.Common.{arith, ap}
use Rattle.std.proofs.lemmas.List.Sums.{sum_by-cons}
use Rattle.spec_control.specs.declared.letter.Letter.{Letter}
use Rattle.spec_control.specs.Rows.{Rows}
use Rattle.spec_control.specs.Control.{Control}
use Rattle.control_laws.specs.Move.{Move, move_rows, move_boxes, MayMove, Leads, is_named, MovesTo}
use Rattle.control_laws.specs.OwnMoves.{having_taken}
use Rattle.control_laws.proofs.SoundLemmas.{Sound, sound_move}
use Rattle.spec_control.specs.declared.entry.Did.{Did}
use Rattle.spec_control.specs.declared.entry.Did.TheVariants.{Asked, Delivered, Delimited}

module _ (weight : Rows → ℕ) (toll gain : Move → ℕ) (none_free : (m : Move) → is_named m ≡ false → gain m ≡ 0)
    (step : (m : Move) (s : Rows) → Sound s → MayMove m s → weight (move_rows m s) + toll m ≤ weight s + gain m) where
  leads_weigh : (ms : List Move) (s : Rows) (boxes : ℕ → List Letter) (d : Control) → Sound s → Leads ms s boxes d → weight d.rows + sum_by toll ms ≤ weight s + sum_by gain ms
  leads_weigh [] s boxes d sound h = let same = ap weight h.0 in omega (arith, same)
  leads_weigh (m ∷ ms) s boxes d sound h =
      let now = step m s sound h.0 in
      let later = leads_weigh ms (move_rows m s) (move_boxes m s boxes) d (sound_move m s sound h.0) h.1 in
      let tolls = sum_by-cons toll m ms in
      let gains = sum_by-cons gain m ms in
      omega (arith, now, later, tolls, gains)

  toll_of_own : (ms : List Move) → sum_by toll (filter is_named ms) ≤ sum_by toll ms
  toll_of_own [] = omega arith
  toll_of_own (m ∷ ms) = by (is_named m) (toll_of_own ms)
    where
      by : (x : Bool) → sum_by toll (filter is_named ms) ≤ sum_by toll ms → sum_by toll (cond x (m ∷ filter is_named ms) (filter is_named ms)) ≤ sum_by toll (m ∷ ms)
      by true c = let a = sum_by-cons toll m (filter is_named ms) in let b = sum_by-cons toll m ms in omega (arith, a, b, c)
      by false c = let b = sum_by-cons toll m ms in omega (arith, b, c)

  pub gain_of_own : (ms : List Move) → sum_by gain (filter is_named ms) ≡ sum_by gain ms
  gain_of_own [] = refl
  gain_of_own (m ∷ ms) = by (is_named m) refl (gain_of_own ms)
    where
      by : (x : Bool) → is_named m ≡ x → sum_by gain (filter is_named ms) ≡ sum_by gain ms → sum_by gain (cond x (m ∷ filter is_named ms) (filter is_named ms)) ≡ sum_by gain (m ∷ ms)
      by true e c = let a = sum_by-cons gain m (filter is_named ms) in let b = sum_by-cons gain m ms in omega (arith, a, b, c)
      by false e c = let b = sum_by-cons gain m ms in let z = none_free m e in omega (arith, b, c, z)

  pub goes_weigh : (own : List Move) (c d : Control) → Sound c.rows → MovesTo own c d → weight d.rows + sum_by toll own ≤ weight c.rows + sum_by gain own
  goes_weigh own c d sound g =
      let all = leads_weigh g.moves c.rows c.boxes d sound g.leads in
      let tolls = toll_of_own g.moves in
      let gains = gain_of_own g.moves in
      let own_tolls = ap (sum_by toll) g.own_are in
      let own_gains = ap (sum_by gain) g.own_are in
      omega (arith, all, tolls, gains, own_tolls, own_gains)

-- a count that each move raises by what it brings
module _ (weight : Rows → ℕ) (gain : Move → ℕ) (none_free : (m : Move) → is_named m ≡ false → gain m ≡ 0) (step : (m : Move) (s : Rows) → MayMove m s → weight (move_rows m s) ≡ weight s + gain m) where
  leads_grow : (ms : List Move) (s : Rows) (boxes : ℕ → List Letter) (d : Control) → Leads ms s boxes d → weight d.rows ≡ weight s + sum_by gain ms
  leads_grow [] s boxes d h = let same = ap weight h.0 in omega (arith, same)
  leads_grow (m ∷ ms) s boxes d h =
      let now = step m s h.0 in
      let later = leads_grow ms (move_rows m s) (move_boxes m s boxes) d h.1 in
      let gains = sum_by-cons gain m ms in
      omega (arith, now, later, gains)

  pub goes_grow : (own : List Move) (c d : Control) → MovesTo own c d → weight d.rows ≡ weight c.rows + sum_by gain own
  goes_grow own c d g =
      let all = leads_grow g.moves c.rows c.boxes d g.leads in
      let gains = gain_of_own (λ s. 0) (λ m. 0) gain none_free (λ m s sound may. omega arith) g.moves in
      let own_gains = ap (sum_by gain) g.own_are in
      omega (arith, all, gains, own_gains)

-- taking a command leaves the rows as they are
pub taken_rows : {N S : Type 0} (did : Did N S) (c : Control) → (having_taken did c).rows ≡ c.rows
taken_rows (Asked req reply h) c = refl
taken_rows (Delivered slot letter h) c = refl
taken_rows (Delimited e h) c = refl

pub sum_of_none : {X : Type 0} (xs : List X) → ◌≡◌ {A = ℕ} (sum_by (λ (x : X). 0) xs) 0
sum_of_none [] = refl
sum_of_none {X} (x ∷ xs) = let a = sum_by-cons (λ (y : X). 0) x xs in let b = sum_of_none xs in omega (arith, a, b)
