-- What a call gave of a pipe, and the row of a settled pipe.
use Rattle.std.specs.Prelude.{◌≡◌, ◌≤◌, ◌+◌, ℕ, zero, suc, Bool, true, false, List, [], ◌∷◌, ◌++◌, Option, Some, None, cond, drop, filter, find, flat_map, length, replicate, refl}
use Rattle.std.proofs.Common.{arith, sym, ap, ◌∙◌, subst, length-append}
use Rattle.std.proofs.lemmas.List.Elements.{filter-append, filter_map-append}
use Rattle.std.proofs.lemmas.List.Sums.{sum_by-cons, sum_by-append}
use Rattle.zq_base.specs.Ends.{PipeId, other_end}
use Rattle.spec_pattern.specs.PipeStep.{PipeStep, Commit, FullLook, RoomLook, Take, EmptyLook, DelimiterLook, WaitingLook, Seal, same_pipe, taken_by, committed_to, taken_from}
use Rattle.spec_pattern.specs.declared.answers.Skip.{Skip}
use Rattle.spec_control.specs.declared.end.Reason.{Reason}
use Rattle.spec_control.specs.Control.{Control, Settlement, is_end}
use Rattle.control_laws.proofs.AskLemmas.{same_end}
use Rattle.spec_run.specs.declared.journal.SettledRow.{SettledRow}
use Rattle.spec_run.specs.Act.{steps_in, pipe_step_of}
use Rattle.spec_run.specs.Fate.{Fate, IsLeft, fate_taken, fates_taken, fates_left, reason_left, is_heard_at, is_fate_given, is_fate_heard, is_fate_dropped, is_fate_written, is_fate_lost, is_fate_left, row_of_fates}
use Rattle.spec_run.specs.OwnedRun.{settlement_of, IsCountedBy}
use Rattle.spec_run.specs.Journal.{row_if}
use Rattle.zq_world.specs.Piece.{Piece, acts_in, pipe_steps}
use Rattle.zq_world.specs.Shown.{row_in_pieces}
use Rattle.socket_laws.specs.Given.{pipes_taken, row_counted, given_of_call, given_at, RowsAreCounted, GivenGoesOn}
use Rattle.socket_laws.proofs.CountedLemmas.{other_twice}

none_some : {X : Type 0} {x : X} → None ≡ Some x → ⊥
none_some e = Prim.grind arith

some_is : {X : Type 0} {x y : X} → Some x ≡ Some y → x ≡ y
some_is e = Prim.grind arith

-- how many of these fates are such
abbrev pub counted : (Fate → Bool) → List Fate → ℕ
counted f fs = length (filter f fs)

counted_both : (f : Fate → Bool) (xs ys : List Fate) → counted f (xs ++ ys) ≡ counted f xs + counted f ys
counted_both f xs ys = ap length (filter-append f xs ys) ∙ length-append (filter f xs) (filter f ys)

-- of so many messages taken, how many are heard, and how many not
abbrev heard_of : Bool → ℕ → ℕ
heard_of true n = n
heard_of false n = 0

abbrev unheard_of : Bool → ℕ → ℕ
unheard_of true n = 0
unheard_of false n = n

-- the fates of so many messages taken
record Tally (hears : Bool) (fs : List Fate) (n : ℕ) : Type 0 where
  heard : counted is_fate_heard fs ≡ heard_of hears n
  unheard : counted is_fate_given fs + counted is_fate_dropped fs ≡ unheard_of hears n
  written : counted is_fate_written fs ≡ 0
  lost : counted is_fate_lost fs ≡ 0
  left : counted is_fate_left fs ≡ 0

tally_none : (hears : Bool) → Tally hears [] 0
tally_none true = record { heard = refl; unheard = refl; written = refl; lost = refl; left = refl }
tally_none false = record { heard = refl; unheard = refl; written = refl; lost = refl; left = refl }

tally_next : (hears : Bool) (skips : List Skip) (fs : List Fate) (n : ℕ) → Tally hears fs n → Tally hears (fate_taken hears skips ∷ fs) (suc n)
tally_next true skips fs n t = record { heard = ap suc t.heard; unheard = t.unheard; written = t.written; lost = t.lost; left = t.left }
tally_next false [] fs n t = record { heard = t.heard; unheard = let u = t.unheard in omega (arith, u); written = t.written; lost = t.lost; left = t.left }
tally_next false (skip ∷ skips) fs n t = record {
  heard = t.heard;
  unheard = let u = t.unheard in omega (arith, u);
  written = t.written;
  lost = t.lost;
  left = t.left;
}

heard_both : (hears : Bool) (n m : ℕ) → heard_of hears (n + m) ≡ heard_of hears n + heard_of hears m
heard_both true n m = refl
heard_both false n m = refl

unheard_both : (hears : Bool) (n m : ℕ) → unheard_of hears (n + m) ≡ unheard_of hears n + unheard_of hears m
unheard_both true n m = refl
unheard_both false n m = refl

tally_both : (hears : Bool) (xs ys : List Fate) (n m : ℕ) → Tally hears xs n → Tally hears ys m → Tally hears (xs ++ ys) (n + m)
tally_both hears xs ys n m t u =
    let given = counted_both is_fate_given xs ys in
    let dropped = counted_both is_fate_dropped xs ys in
    let heard = counted_both is_fate_heard xs ys in
    let written = counted_both is_fate_written xs ys in
    let lost = counted_both is_fate_lost xs ys in
    let left = counted_both is_fate_left xs ys in
    record {
      heard = let a = t.heard in let b = u.heard in let c = heard_both hears n m in omega (arith, heard, a, b, c);
      unheard = let a = t.unheard in let b = u.unheard in let c = unheard_both hears n m in omega (arith, given, dropped, a, b, c);
      written = let a = t.written in let b = u.written in omega (arith, written, a, b);
      lost = let a = t.lost in let b = u.lost in omega (arith, lost, a, b);
      left = let a = t.left in let b = u.left in omega (arith, left, a, b);
    }

tally_steps : (hears : Bool) (p : PipeId) (steps : List PipeStep) (skips : List Skip) → Tally hears (fates_taken hears p steps skips) (length (taken_from p steps))
tally_steps hears p [] skips = tally_none hears
tally_steps hears p (Commit q m ∷ steps) skips = tally_steps hears p steps skips
tally_steps hears p (FullLook q ∷ steps) skips = tally_steps hears p steps skips
tally_steps hears p (RoomLook q ∷ steps) skips = tally_steps hears p steps skips
tally_steps hears p (Take q m ∷ steps) skips = by (same_pipe p q) refl (tally_steps hears p steps (drop 1 skips))
  where
    by : (b : Bool) → same_pipe p q ≡ b → Tally hears (fates_taken hears p steps (drop 1 skips)) (length (taken_from p steps))
        → Tally hears (fates_taken hears p (Take q m ∷ steps) skips) (length (taken_from p (Take q m ∷ steps)))
    by true e rest = rw e (tally_next hears skips (fates_taken hears p steps (drop 1 skips)) (length (taken_from p steps)) rest)
    by false e rest = rw e rest
tally_steps hears p (EmptyLook q ∷ steps) skips = tally_steps hears p steps skips
tally_steps hears p (DelimiterLook q ∷ steps) skips = tally_steps hears p steps skips
tally_steps hears p (WaitingLook q ∷ steps) skips = tally_steps hears p steps skips
tally_steps hears p (Seal q ∷ steps) skips = tally_steps hears p steps skips

-- what was given of the messages behind those that were dropped
none_left : (p : PipeId) (n : ℕ) → length (filter (same_pipe p) (drop n [])) ≡ 0
none_left p zero = refl
none_left p (suc n) = refl

pub given_steps : (p : PipeId) (steps : List PipeStep) (skips : List Skip) → counted is_fate_given (fates_taken false p steps skips) ≡ length (filter (same_pipe p) (drop (length skips) (pipes_taken steps)))
given_steps p [] skips = sym (none_left p (length skips))
given_steps p (Commit q m ∷ steps) skips = given_steps p steps skips
given_steps p (FullLook q ∷ steps) skips = given_steps p steps skips
given_steps p (RoomLook q ∷ steps) skips = given_steps p steps skips
given_steps p (Take q m ∷ steps) [] = by (same_pipe p q) refl (given_steps p steps [])
  where
    by : (b : Bool) → same_pipe p q ≡ b → counted is_fate_given (fates_taken false p steps []) ≡ length (filter (same_pipe p) (pipes_taken steps))
        → counted is_fate_given (fates_taken false p (Take q m ∷ steps) []) ≡ length (filter (same_pipe p) (q ∷ pipes_taken steps))
    by true e rest = rw e (ap suc rest)
    by false e rest = rw e rest
given_steps p (Take q m ∷ steps) (skip ∷ skips) = by (same_pipe p q) refl (given_steps p steps skips)
  where
    by : (b : Bool) → same_pipe p q ≡ b → counted is_fate_given (fates_taken false p steps skips) ≡ length (filter (same_pipe p) (drop (length skips) (pipes_taken steps)))
        → counted is_fate_given (fates_taken false p (Take q m ∷ steps) (skip ∷ skips)) ≡ length (filter (same_pipe p) (drop (length skips) (pipes_taken steps)))
    by true e rest = rw e rest
    by false e rest = rw e rest
given_steps p (EmptyLook q ∷ steps) skips = given_steps p steps skips
given_steps p (DelimiterLook q ∷ steps) skips = given_steps p steps skips
given_steps p (WaitingLook q ∷ steps) skips = given_steps p steps skips
given_steps p (Seal q ∷ steps) skips = given_steps p steps skips

-- no more than was taken
pub given_few : (p : PipeId) (steps : List PipeStep) (skips : List Skip) → counted is_fate_given (fates_taken false p steps skips) ≤ length (taken_from p steps)
given_few p steps skips = let t = (tally_steps false p steps skips).unheard in omega (arith, t)

-- what a settlement left
none_such : (f : Fate → Bool) (n : ℕ) (r : Option Reason) → f (IsLeft r) ≡ false → counted f (replicate n (IsLeft r)) ≡ 0
none_such f zero r e = refl
none_such f (suc n) r e = rw e (none_such f n r e)

all_left : (n : ℕ) (r : Option Reason) → counted is_fate_left (replicate n (IsLeft r)) ≡ n
all_left zero r = refl
all_left (suc n) r = ap suc (all_left n r)

module _ {N S : Type 0} where
  -- the fates of what calls took from the pipe
  abbrev fates_by : Bool → PipeId → List (Piece N S) → List Fate
  fates_by hears p pieces = flat_map (λ (x : Piece N S). fates_taken hears p (steps_in x.acts) x.skips) pieces

  pub taken_more : (p : PipeId) (x : Piece N S) (pieces : List (Piece N S)) → length (taken_from p (pipe_steps (x ∷ pieces))) ≡ length (taken_from p (steps_in x.acts)) + length (taken_from p (pipe_steps pieces))
  taken_more p x pieces =
      ap (λ (l : List PipeStep). length (taken_from p l)) (filter_map-append pipe_step_of x.acts (acts_in pieces))
      ∙ ap length (filter_map-append (taken_by p) (steps_in x.acts) (pipe_steps pieces))
      ∙ length-append (taken_from p (steps_in x.acts)) (taken_from p (pipe_steps pieces))

  tally_pieces : (hears : Bool) (p : PipeId) (pieces : List (Piece N S)) → Tally hears (fates_by hears p pieces) (length (taken_from p (pipe_steps pieces)))
  tally_pieces hears p [] = tally_none hears
  tally_pieces hears p (x ∷ pieces) =
      subst (Tally hears (fates_by hears p (x ∷ pieces))) (sym (taken_more p x pieces))
      (tally_both hears (fates_taken hears p (steps_in x.acts) x.skips) (fates_by hears p pieces) _ _ (tally_steps hears p (steps_in x.acts) x.skips) (tally_pieces hears p pieces))

  given_pieces : (p : PipeId) (pieces : List (Piece N S)) → counted is_fate_given (fates_by false p pieces) ≡ given_at p pieces
  given_pieces p [] = refl
  given_pieces p (x ∷ pieces) =
      counted_both is_fate_given (fates_taken false p (steps_in x.acts) x.skips) (fates_by false p pieces)
      ∙ ap (λ (n : ℕ). given_of_call p x + n) (given_pieces p pieces) ∙ sym (sum_by-cons (given_of_call p) x pieces)

  within : (p : PipeId) (pieces : List (Piece N S)) → given_at p pieces ≤ length (taken_from p (pipe_steps pieces))
  within p pieces = let t = (tally_pieces false p pieces).unheard in let g = given_pieces p pieces in omega (arith, t, g)

pub given_goes_on : (N S : Type 0) → GivenGoesOn N S
given_goes_on N S = record {
  more = λ p before after. sum_by-append (given_of_call p) before after;
  one = λ p x. given_steps p (steps_in x.acts) x.skips;
  within = within;
}

-- ---- the row
settled_is : (ss : List Settlement) (p : PipeId) (s : Settlement) → find (λ x. is_end (other_end p) x.end) ss ≡ Some s → is_end (other_end p) s.end ≡ true
settled_is [] p s e = absurd (none_some e)
settled_is (x ∷ ss) p s e = by (is_end (other_end p) x.end) refl e (settled_is ss p s)
  where
    by : (b : Bool) → is_end (other_end p) x.end ≡ b → cond b (Some x) (find (λ y. is_end (other_end p) y.end) ss) ≡ Some s
        → (find (λ y. is_end (other_end p) y.end) ss ≡ Some s → is_end (other_end p) s.end ≡ true) → is_end (other_end p) s.end ≡ true
    by true h f rest = subst (λ (y : Settlement). is_end (other_end p) y.end ≡ true) (some_is f) h
    by false h f rest = rest f

-- a settlement of a pipe is of the end that reads it
pub settled_at : (c : Control) (p : PipeId) (s : Settlement) → settlement_of c p ≡ Some s → other_end s.end ≡ p
settled_at c p s e = ap other_end (sym (same_end (other_end p) s.end (settled_is c.settlements p s e))) ∙ other_twice p

rows_same : (p : PipeId) (reason : Option Reason) (a b c d e f g t u v w x y z : ℕ) → a ≡ t → b ≡ u → c ≡ v → d ≡ w → e ≡ x → f ≡ y → g ≡ z
    → ◌≡◌ {A = SettledRow} (record { counts = record { pipe = p; sent = a; given = b; heard = c; dropped = d; written = e; lost = f; rest = g }; reason = reason })
    (record { counts = record { pipe = p; sent = t; given = u; heard = v; dropped = w; written = x; lost = y; rest = z }; reason = reason })
rows_same p reason a b c d e f g t u v w x y z h i j k l m n = cc

module _ {N S : Type 0} where
  -- how many fates are such, where none that is left is, and how many are left
  counts_taken : (f : Fate → Bool) (hears : Bool) (p : PipeId) (pieces : List (Piece N S)) (s : Settlement) → f (IsLeft s.reason) ≡ false
      → counted f (fates_by hears p pieces ++ fates_left (Some s)) ≡ counted f (fates_by hears p pieces)
  counts_taken f hears p pieces s none =
      let both = counted_both f (fates_by hears p pieces) (fates_left (Some s)) in
      let left = none_such f s.counts.rest s.reason none in
      omega (arith, both, left)

  counts_left : (hears : Bool) (p : PipeId) (pieces : List (Piece N S)) (s : Settlement)
      → counted is_fate_left (fates_by hears p pieces ++ fates_left (Some s)) ≡ s.counts.rest
  counts_left hears p pieces s =
      let both = counted_both is_fate_left (fates_by hears p pieces) (fates_left (Some s)) in
      let left = all_left s.counts.rest s.reason in
      let none = (tally_pieces hears p pieces).left in
      omega (arith, both, left, none)

  row_of : (hears : Bool) (p : PipeId) (pieces : List (Piece N S)) (s : Settlement) (sent : ℕ) → s.counts.sent ≡ sent → s.counts.got ≡ length (taken_from p (pipe_steps pieces))
      → row_of_fates p sent (fates_by hears p pieces ++ fates_left (Some s)) s.reason ≡ row_counted hears p (given_at p pieces) s
  row_of true p pieces s sent sent_is got_is =
      let t = tally_pieces true p pieces in
      let heard = counts_taken is_fate_heard true p pieces s refl in
      let given = counts_taken is_fate_given true p pieces s refl in
      let dropped = counts_taken is_fate_dropped true p pieces s refl in
      let h = t.heard in
      let u = t.unheard in
      rows_same p s.reason _ _ _ _ _ _ _ _ _ _ _ _ _ _ (sym sent_is)
      (omega (arith, given, u)) (omega (arith, heard, h, got_is)) (omega (arith, dropped, u))
      (counts_taken is_fate_written true p pieces s refl ∙ t.written) (counts_taken is_fate_lost true p pieces s refl ∙ t.lost) (counts_left true p pieces s)
  row_of false p pieces s sent sent_is got_is =
      let t = tally_pieces false p pieces in
      let heard = counts_taken is_fate_heard false p pieces s refl in
      let given = counts_taken is_fate_given false p pieces s refl in
      let dropped = counts_taken is_fate_dropped false p pieces s refl in
      let at = given_pieces p pieces in
      let h = t.heard in
      let u = t.unheard in
      rows_same p s.reason _ _ _ _ _ _ _ _ _ _ _ _ _ _ (sym sent_is)
      (omega (arith, given, at)) (omega (arith, heard, h)) (omega (arith, dropped, u, at, got_is))
      (counts_taken is_fate_written false p pieces s refl ∙ t.written) (counts_taken is_fate_lost false p pieces s refl ∙ t.lost) (counts_left false p pieces s)

  settled_row : (c : Control) (pieces : List (Piece N S)) (p : PipeId) (s : Settlement) → settlement_of c p ≡ Some s → IsCountedBy (pipe_steps pieces) s
      → row_in_pieces c pieces p ≡ Some (row_counted (is_heard_at c p) p (given_at p pieces) s)
  settled_row c pieces p s e counts =
      let same = settled_at c p s e in
      let sent : s.counts.sent ≡ length (committed_to p (pipe_steps pieces)) = counts.sent ∙ ap (λ (q : PipeId). length (committed_to q (pipe_steps pieces))) same in
      let got : s.counts.got ≡ length (taken_from p (pipe_steps pieces)) = counts.got ∙ ap (λ (q : PipeId). length (taken_from q (pipe_steps pieces))) same in
      ap (λ (o : Option Settlement). row_if o (row_of_fates p (length (committed_to p (pipe_steps pieces))) (fates_by (is_heard_at c p) p pieces ++ fates_left o) (reason_left o))) e
      ∙ ap Some (row_of (is_heard_at c p) p pieces s (length (committed_to p (pipe_steps pieces))) sent got)

  unsettled_row : (c : Control) (pieces : List (Piece N S)) (p : PipeId) → settlement_of c p ≡ None → row_in_pieces c pieces p ≡ None
  unsettled_row c pieces p e =
      ap (λ (o : Option Settlement). row_if o (row_of_fates p (length (committed_to p (pipe_steps pieces))) (fates_by (is_heard_at c p) p pieces ++ fates_left o) (reason_left o))) e

pub rows_are_counted : (N S : Type 0) → RowsAreCounted N S
rows_are_counted N S = record { settled = settled_row; unsettled = unsettled_row }
