-- What comes at most once: a weight that falls each time it comes.
use Rattle.std.specs.Prelude.{◌≡◌, ◌≢◌, ◌≤◌, ◌+◌, ℕ, Bool, cond, List, [], ◌∷◌, count_by, sum_by, refl}
use Rattle.std.proofs.Common.{arith, sym, ap, ◌∙◌}
use Rattle.std.proofs.lemmas.Bool.{eq-eqb, ne_eqb}
use Rattle.std.proofs.lemmas.List.Sums.{sum_by-cons, sum_by-append}
use Rattle.spec_control.specs.declared.letter.Letter.{Letter}
use Rattle.spec_control.specs.declared.entry.Did.{Did}
use Rattle.spec_control.specs.declared.entry.Did.TheVariants.{Asked, Delivered, Delimited}
use Rattle.spec_control.specs.declared.entry.Item.{Item}
use Rattle.spec_control.specs.declared.entry.Item.TheVariants.{Event, Seen}
use Rattle.spec_control.specs.Rows.{Rows}
use Rattle.spec_control.specs.Control.{Control}
use Rattle.spec_control.specs.After.{after}
use Rattle.spec_control.specs.ControlRun.{Fits, after_all, IsControlRun}
use Rattle.control_laws.specs.Mail.{Mark, Link, marks, on_way, queue, slot_of, IsDelivered}
use Rattle.control_laws.specs.Kept.{Kept}
use Rattle.control_laws.proofs.RunLemmas.{after_kept}
use Rattle.control_laws.specs.Move.{Move, move_rows, MayMove}
use Rattle.control_laws.specs.OwnMoves.{own_moves, having_taken}
use Rattle.control_laws.specs.Once.{letters_in, all_taken}
use Rattle.control_laws.proofs.SoundLemmas.{Sound, sound_of}
use Rattle.control_laws.proofs.WeighLemmas.{goes_weigh, taken_rows, sum_of_none}
use Rattle.control_laws.proofs.EventGoLemmas.{event_goes}

-- a weight that no move raises, and that each of these commands lowers by one
module _ {N S : Type 0} (test : Letter → Bool) (weight : Rows → ℕ) (toll : Move → ℕ) (step : (m : Move) (s : Rows) → Sound s → MayMove m s → weight (move_rows m s) + toll m ≤ weight s)
    (tolls : (c : Control) (did : Did N S) → count_by test (letters_in did) ≤ sum_by toll (own_moves c did)) where
  event_once : (c : Control) (did : Did N S) → Kept c → Fits c did → weight (after did c).rows + count_by test (letters_in did) ≤ weight c.rows
  event_once c did kept fits =
      let same = taken_rows did c in
      let sound = sound_of (having_taken did c) in
      let all = goes_weigh weight toll (λ m. 0) (λ m e. refl) (λ m s sound may. let a = step m s sound may in omega (arith, a)) (own_moves c did) (having_taken did c) (after did c) (sound_taken c did kept) (event_goes c did kept fits) in
      let none = sum_of_none (own_moves c did) in
      let paid = tolls c did in
      let rows = ap weight same in
      omega (arith, all, none, paid, rows)
    where
      sound_taken : (c : Control) (did : Did N S) → Kept c → Sound (having_taken did c).rows
      sound_taken c (Asked req reply h) kept = sound_of c kept
      sound_taken c (Delivered slot letter h) kept = sound_of c kept
      sound_taken c (Delimited e h) kept = sound_of c kept

  pub run_once : (items : List (Item N S)) (c : Control) → Kept c → IsControlRun c items → count_by test (all_taken items) + weight (after_all items c).rows ≤ weight c.rows
  run_once [] c kept run = omega arith
  run_once (Event entry ∷ items) c kept run =
      let now = event_once c entry.did kept run.0 in
      let later = run_once items (after entry.did c) (after_kept c entry.did kept run.0) run.1 in
      let split = sum_by-append (λ (l : Letter). cond (test l) 1 0) (letters_in entry.did) (all_taken items) in
      omega (arith, now, later, split)
  run_once (Seen sight ∷ items) c kept run = run_once items c kept run.1

-- what waits in a mailbox is what its link has on its way
module _ (test : Letter → Bool) (link : Link) (sign : Mark → ℕ) (shows : (l : Letter) → ◌≡◌ {A = ℕ} (cond (test l) 1 0) (sum_by sign (marks link l))) where
  counted : (ls : List Letter) → count_by test ls ≡ sum_by sign (on_way link ls)
  counted [] = refl
  counted (l ∷ ls) =
      let a = sum_by-cons (λ (x : Letter). cond (test x) 1 0) l ls in
      let b = sum_by-append sign (marks link l) (on_way link ls) in
      let c = counted ls in
      let d = shows l in
      omega (arith, a, b, c, d)

  pub waits_here : (s : Rows) (boxes : ℕ → List Letter) → IsDelivered s boxes → count_by test (boxes (slot_of s link)) ≡ sum_by sign (queue s link)
  waits_here s boxes all =
      counted (boxes (slot_of s link)) ∙ ap (sum_by sign) (all (slot_of s link) link)
      ∙ ap (λ (b : Bool). sum_by sign (cond b (queue s link) [])) (eq-eqb (slot_of s link) (slot_of s link) refl)

  pub waits_nowhere : (s : Rows) (boxes : ℕ → List Letter) → IsDelivered s boxes → (m : ℕ) → m ≢ slot_of s link → count_by test (boxes m) ≡ 0
  waits_nowhere s boxes all m other =
      counted (boxes m) ∙ ap (sum_by sign) (all m link) ∙ ap (λ (b : Bool). sum_by sign (cond b (queue s link) [])) (ne_eqb (slot_of s link) m (λ e. other (sym e)))
