-- The rows of a journal: where they stand, that they add up, and that their pipes keep the order of messages.
use Rattle.std.specs.Prelude.{◌≡◌, ◌<◌, ◌+◌, ◌*◌, ℕ, zero, suc, Bool, true, false, codes, cond, not, List, [], ◌∷◌, ◌++◌, Option, Some, None, IsSome, All, drop, filter, find, flat_map, if◌then◌else◌, length, nat_eq, replicate, slice_get, refl}
use Rattle.std.proofs.Common.{arith, sym, ap, ◌∙◌, subst, length-append}
use Rattle.std.proofs.lemmas.Bool.{eqb-true, eq-eqb}
use Rattle.std.proofs.lemmas.List.Elements.{All-nil, All-cons, filter_map-append}
use Rattle.zq_base.specs.Message.{Frames}
use Rattle.zq_base.specs.Ends.{PipeId, other_end}
use Rattle.zq_base.specs.declared.ids.EndId.{EndId}
use Rattle.spec_pattern.specs.PipeStep.{PipeStep, Commit, FullLook, RoomLook, Take, EmptyLook, DelimiterLook, WaitingLook, Seal, same_pipe, committed_to, taken_from, taken_by}
use Rattle.spec_pattern.specs.declared.answers.Skip.{Skip}
use Rattle.spec_control.specs.declared.end.Reason.{Reason}
use Rattle.spec_control.specs.Rows.{PairRow}
use Rattle.spec_control.specs.Control.{Control, Settlement, is_end, end_of, same_side}
use Rattle.control_laws.proofs.ListLemmas.{never, left, right}
use Rattle.spec_run.specs.declared.journal.SettledRow.{SettledRow}
use Rattle.spec_run.specs.Act.{Deed, acts_of, all_acts, steps_in, pipe_step_of}
use Rattle.spec_run.specs.OwnedRun.{OwnedRun, IsCountedBy, AreCountedBy, all_deeds, all_steps, settlement_of}
use Rattle.spec_run.specs.Fate.{Fate, IsLeft, fate_taken, fates_taken, skips_of, fates_in, fates_left, is_heard_at, reason_left, row_of_fates, count_sent, is_fate_given, is_fate_heard, is_fate_dropped, is_fate_written, is_fate_lost, is_fate_left}
use Rattle.spec_run.specs.Journal.{row_if, row_shown, rows_by}
use Rattle.spec_run.specs.JournalText.{rest_text, why_optional_text}
use Rattle.replay_laws.specs.RowsListed.{IsWholeRow, KeepsOrder}

-- ---- what became of messages that were taken: each was given, heard or dropped

record AreTaken (fs : List Fate) (n : ℕ) : Type 0 where
  sum : length (filter is_fate_given fs) + length (filter is_fate_heard fs) + length (filter is_fate_dropped fs) ≡ n
  written : length (filter is_fate_written fs) ≡ 0
  lost : length (filter is_fate_lost fs) ≡ 0
  left : length (filter is_fate_left fs) ≡ 0

none_taken : AreTaken [] 0
none_taken = record { sum = omega arith; written = refl; lost = refl; left = refl }

one_taken : (hears : Bool) (skips : List Skip) (fs : List Fate) (n : ℕ) → AreTaken fs n → AreTaken (fate_taken hears skips ∷ fs) (suc n)
one_taken true skips fs n t = let sum = t.sum in record { sum = omega (arith, sum); written = t.written; lost = t.lost; left = t.left }
one_taken false [] fs n t = let sum = t.sum in record { sum = omega (arith, sum); written = t.written; lost = t.lost; left = t.left }
one_taken false (skip ∷ skips) fs n t = let sum = t.sum in record { sum = omega (arith, sum); written = t.written; lost = t.lost; left = t.left }

counts_on : (test : Fate → Bool) (xs ys : List Fate) → length (filter test (xs ++ ys)) ≡ length (filter test xs) + length (filter test ys)
counts_on test [] ys = omega arith
counts_on test (x ∷ xs) ys = by (test x) (counts_on test xs ys)
  where
    by : (b : Bool) → length (filter test (xs ++ ys)) ≡ length (filter test xs) + length (filter test ys)
        → length (cond b (x ∷ filter test (xs ++ ys)) (filter test (xs ++ ys))) ≡ length (cond b (x ∷ filter test xs) (filter test xs)) + length (filter test ys)
    by true rest = omega (arith, rest)
    by false rest = rest

both_taken : (xs ys : List Fate) (n m : ℕ) → AreTaken xs n → AreTaken ys m → AreTaken (xs ++ ys) (n + m)
both_taken xs ys n m s t = record {
  sum =
      let given = counts_on is_fate_given xs ys in
      let heard = counts_on is_fate_heard xs ys in
      let dropped = counts_on is_fate_dropped xs ys in
      let first = s.sum in let second = t.sum in omega (arith, given, heard, dropped, first, second);
  written = let all = counts_on is_fate_written xs ys in let first = s.written in let second = t.written in omega (arith, all, first, second);
  lost = let all = counts_on is_fate_lost xs ys in let first = s.lost in let second = t.lost in omega (arith, all, first, second);
  left = let all = counts_on is_fate_left xs ys in let first = s.left in let second = t.left in omega (arith, all, first, second);
}

steps_taken : (hears : Bool) (p : PipeId) (steps : List PipeStep) (skips : List Skip) → AreTaken (fates_taken hears p steps skips) (length (taken_from p steps))
steps_taken hears p [] skips = none_taken
steps_taken hears p (Commit q m ∷ steps) skips = steps_taken hears p steps skips
steps_taken hears p (FullLook q ∷ steps) skips = steps_taken hears p steps skips
steps_taken hears p (RoomLook q ∷ steps) skips = steps_taken hears p steps skips
steps_taken hears p (Take q m ∷ steps) skips = by (same_pipe p q) refl (steps_taken hears p steps (drop 1 skips))
  where
    by : (b : Bool) → same_pipe p q ≡ b → AreTaken (fates_taken hears p steps (drop 1 skips)) (length (taken_from p steps))
        → AreTaken (fates_taken hears p (Take q m ∷ steps) skips) (length (taken_from p (Take q m ∷ steps)))
    by true e rest = rw e (one_taken hears skips (fates_taken hears p steps (drop 1 skips)) (length (taken_from p steps)) rest)
    by false e rest = rw e rest
steps_taken hears p (EmptyLook q ∷ steps) skips = steps_taken hears p steps skips
steps_taken hears p (DelimiterLook q ∷ steps) skips = steps_taken hears p steps skips
steps_taken hears p (WaitingLook q ∷ steps) skips = steps_taken hears p steps skips
steps_taken hears p (Seal q ∷ steps) skips = steps_taken hears p steps skips

deeds_taken : {N S : Type 0} (hears : Bool) (p : PipeId) (ds : List (Deed N S)) → AreTaken (flat_map (fates_in hears p) ds) (length (taken_from p (steps_in (all_acts ds))))
deeds_taken hears p [] = none_taken
deeds_taken hears p (d ∷ ds) =
    rw (filter_map-append pipe_step_of (acts_of d) (all_acts ds), filter_map-append (taken_by p) (steps_in (acts_of d)) (steps_in (all_acts ds)), length-append)
    (both_taken (fates_in hears p d) (flat_map (fates_in hears p) ds) _ _ (steps_taken hears p (steps_in (acts_of d)) (skips_of d)) (deeds_taken hears p ds))

-- ---- and of those that are left

record AreLeft (fs : List Fate) (n : ℕ) : Type 0 where
  given : length (filter is_fate_given fs) ≡ 0
  heard : length (filter is_fate_heard fs) ≡ 0
  dropped : length (filter is_fate_dropped fs) ≡ 0
  written : length (filter is_fate_written fs) ≡ 0
  lost : length (filter is_fate_lost fs) ≡ 0
  left : length (filter is_fate_left fs) ≡ n

are_left : (n : ℕ) (reason : Option Reason) → AreLeft (replicate n (IsLeft reason)) n
are_left zero reason = record { given = refl; heard = refl; dropped = refl; written = refl; lost = refl; left = refl }
are_left (suc n) reason =
    let rest = are_left n reason in
    record { given = rest.given; heard = rest.heard; dropped = rest.dropped; written = rest.written; lost = rest.lost; left = ap suc rest.left }

-- what became of all: so many were taken, and so many are left
record AddUp (fs : List Fate) (n rest : ℕ) : Type 0 where
  taken : length (filter is_fate_given fs) + length (filter is_fate_heard fs) + length (filter is_fate_dropped fs) ≡ n
  written : length (filter is_fate_written fs) ≡ 0
  lost : length (filter is_fate_lost fs) ≡ 0
  left : length (filter is_fate_left fs) ≡ rest

add_up : (xs ys : List Fate) (n rest : ℕ) → AreTaken xs n → AreLeft ys rest → AddUp (xs ++ ys) n rest
add_up xs ys n rest t l = record {
  taken =
      let given = counts_on is_fate_given xs ys in
      let heard = counts_on is_fate_heard xs ys in
      let dropped = counts_on is_fate_dropped xs ys in
      let sum = t.sum in
      let no_given = l.given in
      let no_heard = l.heard in
      let no_dropped = l.dropped in omega (arith, given, heard, dropped, sum, no_given, no_heard, no_dropped);
  written = let all = counts_on is_fate_written xs ys in let first = t.written in let second = l.written in omega (arith, all, first, second);
  lost = let all = counts_on is_fate_lost xs ys in let first = t.lost in let second = l.lost in omega (arith, all, first, second);
  left = let all = counts_on is_fate_left xs ys in let first = t.left in let second = l.left in omega (arith, all, first, second);
}

-- ---- the settlement of a pipe

none_some : {X : Type 0} {x : X} → None ≡ Some x → ⊥
none_some e = Prim.grind arith

some_is : {X : Type 0} {x y : X} → Some x ≡ Some y → x ≡ y
some_is e = Prim.grind arith

side_is : (a b : Bool) → same_side a b ≡ true → a ≡ b
side_is true true h = refl
side_is true false h = absurd (never h)
side_is false true h = absurd (never h)
side_is false false h = refl

not_twice : (a : Bool) → not (not a) ≡ a
not_twice true = refl
not_twice false = refl

-- the end that a settlement is of reads this pipe
pipe_is : (p : PipeId) (e : EndId) → is_end (other_end p) e ≡ true → other_end e ≡ p
pipe_is p e h =
    let number : p.pair.0 ≡ e.pair.0 = eqb-true p.pair.0 e.pair.0 (left _ _ h) in
    let side : not p.a ≡ e.a = side_is (not p.a) e.a (right _ _ h) in
    sym (ap (λ (n : ℕ). end_of n p.a) number ∙ (ap (λ (a : Bool). end_of e.pair.0 a) (sym (not_twice p.a)) ∙ ap (λ (a : Bool). end_of e.pair.0 (not a)) side))

-- what a settlement of the pipe counts
record Counts (steps : List PipeStep) (p : PipeId) (s : Settlement) : Type 0 where
  sent : s.counts.sent ≡ length (committed_to p steps)
  got : s.counts.got ≡ length (taken_from p steps)
  sum : s.counts.sent ≡ s.counts.got + s.counts.rest
  reason : 0 < s.counts.rest → IsSome s.reason

counts_so : (steps : List PipeStep) (p : PipeId) (s : Settlement) → is_end (other_end p) s.end ≡ true → IsCountedBy steps s → Counts steps p s
counts_so steps p s is c =
    let same = pipe_is p s.end is in
    record {
      sent = c.sent ∙ ap (λ (q : PipeId). length (committed_to q steps)) same;
      got = c.got ∙ ap (λ (q : PipeId). length (taken_from q steps)) same;
      sum = c.sum;
      reason = c.reason;
    }

found_so : (steps : List PipeStep) (p : PipeId) (ss : List Settlement) → AreCountedBy steps ss → (s : Settlement) → find (λ x. is_end (other_end p) x.end) ss ≡ Some s → Counts steps p s
found_so steps p [] all s e = absurd (none_some e)
found_so steps p (x ∷ xs) all s e = by (is_end (other_end p) x.end) refl e (found_so steps p xs all.1 s)
  where
    by : (b : Bool) → is_end (other_end p) x.end ≡ b → cond b (Some x) (find (λ y. is_end (other_end p) y.end) xs) ≡ Some s
        → (find (λ y. is_end (other_end p) y.end) xs ≡ Some s → Counts steps p s) → Counts steps p s
    by true h is rest = subst (λ (y : Settlement). Counts steps p y) (some_is is) (counts_so steps p x h all.0)
    by false h is rest = rest is

-- ---- the row of a pipe

-- where there is one
abbrev pub IfRow : (SettledRow → Type 0) → Option SettledRow → Type 0
IfRow P None = Unit {0}
IfRow P (Some row) = P row

pub record IsGood {N S : Type 0} (run : OwnedRun N S) (p : PipeId) (row : SettledRow) : Type 0 where
  pub whole : IsWholeRow row
  pub order : KeepsOrder run row
  pub pipe : row.counts.pipe ≡ p

reason_so : (n : ℕ) (reason : Option Reason) → (0 < n → IsSome reason) → 0 < n → IsSome (if nat_eq n 0 then None else reason)
reason_so n reason h lt = by (nat_eq n 0) refl
  where
    by : (b : Bool) → nat_eq n 0 ≡ b → IsSome (if b then None else reason)
    by true e = let none = eqb-true n 0 e in absurd (omega (arith, lt, none))
    by false e = h lt

no_reason_so : (n : ℕ) (reason : Option Reason) → n ≡ 0 → (if nat_eq n 0 then None else reason) ≡ None
no_reason_so n reason e = ap (λ (b : Bool). if b then None else reason) (eq-eqb n 0 e)

text_so : (n : ℕ) (reason : Option Reason) → rest_text n reason ≡ why_optional_text (if nat_eq n 0 then None else reason)
text_so n reason = by (nat_eq n 0)
  where
    by : (b : Bool) → (if b then codes "-" else why_optional_text reason) ≡ why_optional_text (if b then None else reason)
    by true = refl
    by false = refl

module _ {N S : Type 0} (c : Control) (run : OwnedRun N S) (p : PipeId) where
  abbrev fates_by : Option Settlement → List Fate
  fates_by o = flat_map (fates_in (is_heard_at c p) p) (all_deeds run) ++ fates_left o

  abbrev row_by : Option Settlement → SettledRow
  row_by o = row_of_fates p (count_sent run p) (fates_by o) (reason_left o)

  -- the row that a settlement gives
  row_good : (front : List Frames) → committed_to p (all_steps run) ≡ taken_from p (all_steps run) ++ front → (s : Settlement) → Counts (all_steps run) p s → IsGood run p (row_by (Some s))
  row_good front whole s counts =
      let fates = add_up (flat_map (fates_in (is_heard_at c p) p) (all_deeds run)) (fates_left (Some s)) (length (taken_from p (all_steps run))) s.counts.rest (deeds_taken (is_heard_at c p) p (all_deeds run)) (are_left s.counts.rest s.reason) in
      let all : length (committed_to p (all_steps run)) ≡ length (taken_from p (all_steps run)) + length front = ap length whole ∙ length-append (taken_from p (all_steps run)) front in
      let sent = counts.sent in
      let got = counts.got in
      let sum = counts.sum in
      let taken = fates.taken in
      let rest = fates.left in
      record {
        whole = record {
          sum = omega (arith, sent, got, sum, taken, rest);
          no_link = (fates.written, fates.lost);
          reason = reason_so (row_by (Some s)).counts.rest s.reason (λ above. counts.reason (omega (arith, above, rest)));
          no_reason = no_reason_so (row_by (Some s)).counts.rest s.reason;
          text = text_so (row_by (Some s)).counts.rest s.reason;
        };
        order = record {
          left = front;
          in_order = whole;
          sent = refl;
          taken = taken;
          rest = omega (arith, rest, sent, got, sum, all);
        };
        pipe = refl;
      }

  -- and so the row that is shown
  pub shown_good : (front : List Frames) → committed_to p (all_steps run) ≡ taken_from p (all_steps run) ++ front → AreCountedBy (all_steps run) c.settlements → IfRow (IsGood run p) (row_shown c run p)
  shown_good front whole all = by (settlement_of c p) refl
    where
      by : (o : Option Settlement) → settlement_of c p ≡ o → IfRow (IsGood run p) (row_if o (row_by o))
      by None e = tt
      by (Some s) e = row_good front whole s (found_so (all_steps run) p c.settlements all s e)

-- ---- where rows stand

places_on : (n k : ℕ) → 2 * (suc k) + n ≡ suc (suc (2 * k + n))
places_on n k = omega arith

-- the row of the pair behind so many others
pub row_there : (row : PipeId → Option SettledRow) (n k : ℕ) (a : Bool) (pairs : List PairRow) → k < length pairs → slice_get (rows_by row n pairs) (2 * k + cond a 0 1) ≡ Some (row (end_of (n + k) a))
row_there row n k a [] lt = absurd (below lt)
  where
    below : k < 0 → ⊥
    below g = omega (arith, g)
row_there row n zero true (p ∷ pairs) lt = ap (λ (m : ℕ). Some (row (end_of m true))) (none_more n)
  where
    none_more : (n : ℕ) → n ≡ n + 0
    none_more n = omega arith
row_there row n zero false (p ∷ pairs) lt = ap (λ (m : ℕ). Some (row (end_of m false))) (none_more n)
  where
    none_more : (n : ℕ) → n ≡ n + 0
    none_more n = omega arith
row_there row n (suc k) a (p ∷ pairs) lt =
    ap (slice_get (rows_by row n (p ∷ pairs))) (places_on (cond a 0 1) k)
    ∙ (row_there row (n + 1) k a pairs (omega (arith, lt)) ∙ ap (λ (m : ℕ). Some (row (end_of m a))) (one_on n k))
  where
    one_on : (n k : ℕ) → n + 1 + k ≡ n + suc k
    one_on n k = omega arith

pub rows_counted : (row : PipeId → Option SettledRow) (n : ℕ) (pairs : List PairRow) → length (rows_by row n pairs) ≡ 2 * length pairs
rows_counted row n [] = omega arith
rows_counted row n (p ∷ pairs) = let rest = rows_counted row (n + 1) pairs in omega (arith, rest)

-- what is so of each row
pub each_row : (P : SettledRow → Type 0) (row : PipeId → Option SettledRow) → ((p : PipeId) → IfRow P (row p)) → (n : ℕ) (pairs : List PairRow) → All (IfRow P) (rows_by row n pairs)
each_row P row so n [] = All-nil (IfRow P)
each_row P row so n (p ∷ pairs) =
    All-cons (IfRow P) (row (end_of n true)) (row (end_of n false) ∷ rows_by row (n + 1) pairs) (so (end_of n true))
    (All-cons (IfRow P) (row (end_of n false)) (rows_by row (n + 1) pairs) (so (end_of n false)) (each_row P row so (n + 1) pairs))
