-- What was taken from a pipe was given or dropped.
use Rattle.std.specs.Prelude.{◌≡◌, ◌+◌, ◌-◌, ℕ, zero, suc, Bool, true, false, List, [], ◌∷◌, ◌++◌, Some, drop, filter, length, take, refl}
use Rattle.std.proofs.Common.{arith, sym, ap, ◌∙◌}
use Rattle.std.proofs.lemmas.List.Sums.{sum_by-cons, sum_by-append}
use Rattle.zq_base.specs.Ends.{PipeId}
use Rattle.spec_pattern.specs.PipeStep.{PipeStep, Commit, FullLook, RoomLook, Take, EmptyLook, DelimiterLook, WaitingLook, Seal, same_pipe, taken_from}
use Rattle.spec_pattern.specs.declared.answers.Skip.{Skip}
use Rattle.spec_control.specs.Control.{Control, Settlement}
use Rattle.spec_run.specs.declared.journal.SettledRow.{SettledRow}
use Rattle.spec_run.specs.Act.{Act, steps_in}
use Rattle.spec_run.specs.Fate.{is_heard_at}
use Rattle.spec_run.specs.OwnedRun.{settlement_of, IsCountedBy}
use Rattle.zq_world.specs.Piece.{Piece, piece_of, pipe_steps}
use Rattle.zq_world.specs.Shown.{row_in_pieces}
use Rattle.socket_laws.specs.Given.{pipes_taken, row_counted, given_of_call, given_at}
use Rattle.socket_laws.proofs.GivenLemmas.{given_steps, taken_more, settled_at, rows_are_counted}
use Rattle.core_laws.specs.Drops.{drops_of_call, drops_at, row_dropped, DropsGoOn}

-- how many of these pipes are this one
abbrev pub count_of : PipeId → List PipeId → ℕ
count_of p qs = length (filter (same_pipe p) qs)

-- those at the front and those behind
split_count : (p : PipeId) (n : ℕ) (qs : List PipeId) → count_of p (take n qs) + count_of p (drop n qs) ≡ count_of p qs
split_count p zero qs = omega arith
split_count p (suc n) [] = refl
split_count p (suc n) (q ∷ qs) = by (same_pipe p q) refl (split_count p n qs)
  where
    by : (b : Bool) → same_pipe p q ≡ b → count_of p (take n qs) + count_of p (drop n qs) ≡ count_of p qs
        → count_of p (q ∷ take n qs) + count_of p (drop n qs) ≡ count_of p (q ∷ qs)
    by true e rest = rw e (let one = rest in omega (arith, one))
    by false e rest = rw e rest

-- each message taken is of one pipe
taken_count : (p : PipeId) (steps : List PipeStep) → length (taken_from p steps) ≡ count_of p (pipes_taken steps)
taken_count p [] = refl
taken_count p (Commit q m ∷ steps) = taken_count p steps
taken_count p (FullLook q ∷ steps) = taken_count p steps
taken_count p (RoomLook q ∷ steps) = taken_count p steps
taken_count p (Take q m ∷ steps) = by (same_pipe p q) refl (taken_count p steps)
  where
    by : (b : Bool) → same_pipe p q ≡ b → length (taken_from p steps) ≡ count_of p (pipes_taken steps) → length (taken_from p (Take q m ∷ steps)) ≡ count_of p (q ∷ pipes_taken steps)
    by true e rest = rw e (ap suc rest)
    by false e rest = rw e rest
taken_count p (EmptyLook q ∷ steps) = taken_count p steps
taken_count p (DelimiterLook q ∷ steps) = taken_count p steps
taken_count p (WaitingLook q ∷ steps) = taken_count p steps
taken_count p (Seal q ∷ steps) = taken_count p steps

none_first : (n : ℕ) → ◌≡◌ {A = List PipeId} (take n []) []
none_first zero = refl
none_first (suc n) = refl

module _ {N S : Type 0} where
  call_whole : (p : PipeId) (x : Piece N S) → given_of_call p x + drops_of_call p x ≡ length (taken_from p (steps_in x.acts))
  call_whole p x =
      let given = given_steps p (steps_in x.acts) x.skips in
      let both = split_count p (length x.skips) (pipes_taken (steps_in x.acts)) in
      let all = taken_count p (steps_in x.acts) in
      omega (arith, given, both, all)

  whole : (p : PipeId) (pieces : List (Piece N S)) → given_at p pieces + drops_at p pieces ≡ length (taken_from p (pipe_steps pieces))
  whole p [] = refl
  whole p (x ∷ pieces) =
      let given = sum_by-cons (given_of_call p) x pieces in
      let dropped = sum_by-cons (drops_of_call p) x pieces in
      let one = call_whole p x in
      let rest = whole p pieces in
      let all = taken_more p x pieces in
      omega (arith, given, dropped, one, rest, all)

  -- the drops of one call more
  pub drops_piece : (p : PipeId) (k : ℕ) (reaps : Bool) (acts : List (Act N S)) (skips : List Skip)
      → drops_at p (piece_of k reaps acts skips) ≡ count_of p (take (length skips) (pipes_taken (steps_in acts)))
  drops_piece p k reaps [] skips = sym (ap (count_of p) (none_first (length skips)))
  drops_piece p k reaps (act ∷ acts) skips =
      let x : Piece N S = record { by = k; reaps = reaps; acts = act ∷ acts; skips = skips } in
      let one = sum_by-cons (drops_of_call p) x [] in
      omega (arith, one)

  pub drops_more : (p : PipeId) (pieces : List (Piece N S)) (k : ℕ) (reaps : Bool) (acts : List (Act N S)) (skips : List Skip)
      → drops_at p (pieces ++ piece_of k reaps acts skips) ≡ drops_at p pieces + count_of p (take (length skips) (pipes_taken (steps_in acts)))
  drops_more p pieces k reaps acts skips =
      let both = sum_by-append (drops_of_call p) pieces (piece_of k reaps acts skips) in
      let one = drops_piece p k reaps acts skips in
      omega (arith, both, one)

  none : (p : PipeId) (pieces : List (Piece N S)) (k : ℕ) (reaps : Bool) (acts : List (Act N S)) → drops_at p (pieces ++ piece_of k reaps acts []) ≡ drops_at p pieces
  none p pieces k reaps acts = (let more = drops_more p pieces k reaps acts [] in omega (arith, more))

-- what was given and what was dropped say the same row
rows_by_drops : (hears : Bool) (p : PipeId) (s : Settlement) (given drops : ℕ) → given + drops ≡ s.counts.got → row_counted hears p given s ≡ row_dropped hears p drops s
rows_by_drops true p s given drops sum = refl
rows_by_drops false p s given drops sum =
    let few : given ≡ s.counts.got - drops = omega (arith, sum) in
    let rest : s.counts.got - given ≡ drops = omega (arith, sum) in
    same s given (s.counts.got - drops) (s.counts.got - given) drops few rest
  where
    same : (s : Settlement) (a b c d : ℕ) → a ≡ b → c ≡ d
        → ◌≡◌ {A = SettledRow} (record { counts = record { pipe = p; sent = s.counts.sent; given = a; heard = 0; dropped = c; written = 0; lost = 0; rest = s.counts.rest }; reason = s.reason })
        (record { counts = record { pipe = p; sent = s.counts.sent; given = b; heard = 0; dropped = d; written = 0; lost = 0; rest = s.counts.rest }; reason = s.reason })
    same s a b c d e f = cc

module _ {N S : Type 0} where
  settled : (c : Control) (pieces : List (Piece N S)) (p : PipeId) (s : Settlement) → settlement_of c p ≡ Some s → IsCountedBy (pipe_steps pieces) s
      → row_in_pieces c pieces p ≡ Some (row_dropped (is_heard_at c p) p (drops_at p pieces) s)
  settled c pieces p s e counts =
      let got = counts.got ∙ ap (λ (q : PipeId). length (taken_from q (pipe_steps pieces))) (settled_at c p s e) in
      (rows_are_counted N S).settled c pieces p s e counts ∙ ap Some (rows_by_drops (is_heard_at c p) p s (given_at p pieces) (drops_at p pieces) (whole p pieces ∙ sym got))

pub drops_go_on : (N S : Type 0) → DropsGoOn N S
drops_go_on N S = record {
  whole = whole;
  more = λ p before after. sum_by-append (drops_of_call p) before after;
  none = none;
  settled = settled;
}
