-- An object is told to end at most once.
use Rattle.std.specs.Prelude.{◌≡◌, ◌<◌, ◌≤◌, ◌+◌, ◌==◌, ◌&&◌, ℕ, Bool, true, false, not, cond, List, [], ◌∷◌, ◌++◌, Some, None, map, length, count_by, sum_by, slice_index_or, slice_set, refl}
use Rattle.std.proofs.Common.{arith, sym, ap, ◌∙◌, inl, inr}
use Rattle.std.proofs.lemmas.Bool.{eq-eqb, ne_eqb, cases_eq, cases_order}
use Rattle.std.proofs.lemmas.List.{get_or_default, get_or_past, get_or-set_same, get_or-set_other}
use Rattle.spec_control.specs.declared.letter.Letter.{Letter}
use Rattle.spec_control.specs.declared.letter.Word.{Word}
use Rattle.spec_control.specs.declared.letter.Word.TheVariants.{Own, Plug, TermReq, Term, TermAck, PipeBind, PipeTerm, PipeTermAck, Stop, Reap}
use Rattle.spec_control.specs.declared.stage.Stage.{Stage}
use Rattle.spec_control.specs.declared.stage.Stage.TheVariants.{Alive, Told, Ending, Finished, Cleared}
use Rattle.spec_control.specs.declared.entry.Did.{Did}
use Rattle.spec_control.specs.declared.entry.Did.TheVariants.{Asked, Delivered, Delimited}
use Rattle.spec_control.specs.Stage.{is_alive, is_told, is_coming}
use Rattle.spec_control.specs.Row.{Row, nobody, root_row, LinkEvent, OwnComes, PlugComes, IsTold, TermComes, AsksOver, RequestComes, ReapComes, AckComes, RootAsked, StopPut, StopComes, AsksForLink, AsksForLinger, GetsPlug, GetsStop, GetsTerm, first_if, link_may, link_after}
use Rattle.spec_control.specs.Rows.{Rows, obj, with_object}
use Rattle.spec_control.specs.Control.{Control, id}
use Rattle.control_laws.specs.Mail.{Sign, Mark, OwnSign, RequestSign, ReapSign, AckSign, PlugSign, StopSign, TermSign, BindSign, PipeTermSign, PipeAckSign, DownLink, down_mark, down_marks, marks, queue}
use Rattle.control_laws.proofs.ListLemmas.{never, left, right, is_old, is_new, pushed}
use Rattle.control_laws.proofs.EndLemmas.{may_end_is}
use Rattle.control_laws.specs.Move.{Move, LinkMoves, EndMoves, ObjectEnds, ObjectMade, PairDrawn, LetterPut, move_rows, MayMove}
use Rattle.control_laws.specs.OwnMoves.{word_moves, own_moves}
use Rattle.control_laws.specs.Once.{letters_in, is_term_word, is_term}
use Rattle.control_laws.proofs.SoundLemmas.{Sound, link_there, ending_there}

-- how often an object may still be told
abbrev tell_left : Stage → ℕ
tell_left Alive = 1
tell_left Told = 1
tell_left Ending = 0
tell_left Finished = 0
tell_left Cleared = 0

-- one that is not made yet may be told once
abbrev pub tells_left : ℕ → Rows → ℕ
tells_left i s = tell_left (slice_index_or s.objects i root_row).stage

abbrev link_toll : LinkEvent → ℕ
link_toll OwnComes = 0
link_toll PlugComes = 0
link_toll IsTold = 0
link_toll TermComes = 1
link_toll AsksOver = 0
link_toll RequestComes = 0
link_toll ReapComes = 0
link_toll AckComes = 0
link_toll RootAsked = 0
link_toll StopPut = 0
link_toll StopComes = 0
link_toll AsksForLink = 0
link_toll AsksForLinger = 0

abbrev pub tell_toll : ℕ → Move → ℕ
tell_toll i (LinkMoves j event) = cond (i == j) (link_toll event) 0
tell_toll i (EndMoves e event) = 0
tell_toll i (ObjectEnds j) = 0
tell_toll i (ObjectMade row) = 0
tell_toll i (PairDrawn x y) = 0
tell_toll i (LetterPut to word) = 0

alive_left : (s : Stage) → is_alive s ≡ true → tell_left s ≡ 1
alive_left Alive h = refl
alive_left Told h = absurd (never h)
alive_left Ending h = absurd (never h)
alive_left Finished h = absurd (never h)
alive_left Cleared h = absurd (never h)

told_left : (s : Stage) → is_told s ≡ true → tell_left s ≡ 1
told_left Told h = refl
told_left Alive h = absurd (never h)
told_left Ending h = absurd (never h)
told_left Finished h = absurd (never h)
told_left Cleared h = absurd (never h)

append_none : {X : Type 0} (xs : List X) → xs ++ [] ≡ xs
append_none [] = refl
append_none (x ∷ xs) = ap (λ (l : List _). x ∷ l) (append_none xs)

nothing : (b : Bool) → ◌≡◌ {A = ℕ} (cond b 0 0) 0
nothing true = refl
nothing false = refl

-- of one row
row_told : (e : LinkEvent) (o : Row) → link_may e o ≡ true → tell_left (link_after e o).stage + link_toll e ≤ tell_left o.stage
row_told OwnComes o may = omega arith
row_told PlugComes o may = omega arith
row_told IsTold o may = let a = alive_left o.stage (left _ _ may) in omega (arith, a)
row_told TermComes o may = let a = told_left o.stage (left _ _ may) in omega (arith, a)
row_told AsksOver o may = omega arith
row_told RequestComes o may = omega arith
row_told ReapComes o may = let a = alive_left o.stage (left _ _ (right (is_coming o.request) _ may)) in omega (arith, a)
row_told AckComes o may = omega arith
row_told RootAsked o may = let a = alive_left o.stage (left _ _ may) in omega (arith, a)
row_told StopPut o may = omega arith
row_told StopComes o may = omega arith
row_told AsksForLink o may = omega arith
row_told AsksForLinger o may = omega arith

-- where a row is written
written_told : (i j : ℕ) (s : Rows) (n : Row) (toll : ℕ) → j < length s.objects → tell_left n.stage + toll ≤ tell_left (obj s j).stage → tells_left i (with_object j n s) + cond (i == j) toll 0 ≤ tells_left i s
written_told i j s n toll there less =
    elim (cases_eq i j) [
      | inl at ↦
          let new = ap (λ (k : ℕ). tell_left (slice_index_or (slice_set s.objects j n) k root_row).stage) at in
          let now = ap (λ (o : Row). tell_left o.stage) (get_or-set_same s.objects j n root_row there) in
          let old = ap (λ (k : ℕ). tell_left (slice_index_or s.objects k root_row).stage) at in
          let row = ap (λ (o : Row). tell_left o.stage) (get_or_default s.objects j root_row nobody there) in
          let paid = ap (λ (b : Bool). cond b toll 0) (eq-eqb i j at) in
          omega (arith, new, now, old, row, paid, less)
      | inr other ↦
          let same = ap (λ (o : Row). tell_left o.stage) (get_or-set_other s.objects j i n root_row other) in
          let paid = ap (λ (b : Bool). cond b toll 0) (ne_eqb i j other) in
          omega (arith, same, paid)
    ]

pushed_told : (i : ℕ) (s : Rows) (row : Row) → tells_left i (move_rows (ObjectMade row) s) + 0 ≤ tells_left i s
pushed_told i s row =
    elim (pushed s.objects row root_row i) [
      | is_old e ↦ let same = ap (λ (o : Row). tell_left o.stage) e in omega (arith, same)
      | is_new at e was ↦ let old = ap (λ (o : Row). tell_left o.stage) was in let most = at_most_one (slice_index_or (s.objects ++ row ∷ []) i root_row).stage in omega (arith, old, most)
    ]
  where
    at_most_one : (s : Stage) → tell_left s ≤ 1
    at_most_one Alive = omega arith
    at_most_one Told = omega arith
    at_most_one Ending = omega arith
    at_most_one Finished = omega arith
    at_most_one Cleared = omega arith

pub told_step : (i : ℕ) (m : Move) (s : Rows) → Sound s → MayMove m s → tells_left i (move_rows m s) + tell_toll i m ≤ tells_left i s
told_step i (LinkMoves j event) s sound may = written_told i j s (link_after event (obj s j)) (link_toll event) (link_there s j event may) (row_told event (obj s j) may)
told_step i (EndMoves e event) s sound may = omega arith
told_step i (ObjectEnds j) s sound may =
    let asked = ap tell_left (may_end_is s j may).asked in
    let all = written_told i j s (record (obj s j) { stage = Finished }) 0 (ending_there s j may) (omega (arith, asked)) in
    omega (arith, all)
told_step i (ObjectMade row) s sound may = pushed_told i s row
told_step i (PairDrawn x y) s sound may = omega arith
told_step i (LetterPut to word) s sound may = omega arith

pub told_tolls : {N S : Type 0} (i : ℕ) (c : Control) (did : Did N S) → count_by (is_term i) (letters_in did) ≤ sum_by (tell_toll i) (own_moves c did)
told_tolls i c (Asked req reply h) = omega arith
told_tolls i c (Delivered slot letter h) = let paid = by letter.to.0 letter.word in omega (arith, paid)
  where
    by : (to : ℕ) (word : Word) → cond (is_term_word word && i == to) 1 0 ≤ sum_by (tell_toll i) (word_moves to word)
    by to (Own child) = omega arith
    by to (Plug end) = omega arith
    by to (TermReq child) = omega arith
    by to Term = omega arith
    by to (TermAck child) = omega arith
    by to (PipeBind e peer) = omega arith
    by to (PipeTerm e) = omega arith
    by to (PipeTermAck e) = omega arith
    by to Stop = omega arith
    by to (Reap socket) = omega arith
told_tolls i c (Delimited e h) = omega arith

-- what is on its way
abbrev pub term_sign : Sign → ℕ
term_sign OwnSign = 0
term_sign RequestSign = 0
term_sign ReapSign = 0
term_sign AckSign = 0
term_sign PlugSign = 0
term_sign StopSign = 0
term_sign TermSign = 1
term_sign BindSign = 0
term_sign PipeTermSign = 0
term_sign PipeAckSign = 0

abbrev pub term_mark : Mark → ℕ
term_mark m = term_sign m.sign

pub term_shows : (i : ℕ) (l : Letter) → ◌≡◌ {A = ℕ} (cond (is_term i l) 1 0) (sum_by term_mark (marks (DownLink i) l))
term_shows i l = by l.to.0 l.word
  where
    split : (b : Bool) (m : Mark) (n : ℕ) → term_mark m ≡ n → sum_by term_mark (cond b (m ∷ []) []) ≡ cond b n 0
    split true m n e = omega (arith, e)
    split false m n e = refl

    by : (to : ℕ) (word : Word) → ◌≡◌ {A = ℕ} (cond (is_term_word word && i == to) 1 0) (sum_by term_mark (marks (DownLink i) (record { to = id to; word = word })))
    by to (Own child) = refl
    by to (Plug None) = sym (split (i == to) (record { to = to; sign = PlugSign }) 0 refl ∙ nothing (i == to))
    by to (Plug (Some e)) = sym (ap (λ (q : List Mark). sum_by term_mark q) (append_none (cond (i == to) (record { to = to; sign = PlugSign } ∷ []) [])) ∙ split (i == to) (record { to = to; sign = PlugSign }) 0 refl ∙ nothing (i == to))
    by to (TermReq child) = refl
    by to Term = sym (split (i == to) (record { to = to; sign = TermSign }) 1 refl)
    by to (TermAck child) = refl
    by to (PipeBind e peer) = refl
    by to (PipeTerm e) = refl
    by to (PipeTermAck e) = refl
    by to Stop = sym (split (i == to) (record { to = to; sign = StopSign }) 0 refl ∙ nothing (i == to))
    by to (Reap socket) = refl

pub term_waits : (i : ℕ) (s : Rows) → sum_by term_mark (queue s (DownLink i)) ≤ tells_left i s
term_waits i s =
    elim (cases_order i (length s.objects)) [
      | inl at ↦ past (omega (arith, at))
      | inr (inl below) ↦ let row = ap (λ (o : Row). tell_left o.stage) (get_or_default s.objects i root_row nobody below) in let waits = by (obj s i).plugged (is_coming (obj s i).stop) (obj s i).stage in omega (arith, row, waits)
      | inr (inr above) ↦ past (omega (arith, above))
    ]
  where
    past : length s.objects ≤ i → sum_by term_mark (queue s (DownLink i)) ≤ tells_left i s
    past h = let none = ap (λ (o : Row). sum_by term_mark (down_marks i o)) (get_or_past s.objects i nobody h) in omega (arith, none)

    by : (p t : Bool) (st : Stage) → sum_by term_mark (map (down_mark i) (first_if (not p) GetsPlug (first_if t GetsStop (first_if (is_told st) GetsTerm [])))) ≤ tell_left st
    by true true Told = omega arith
    by true false Told = omega arith
    by false true Told = omega arith
    by false false Told = omega arith
    by true true Alive = omega arith
    by true false Alive = omega arith
    by false true Alive = omega arith
    by false false Alive = omega arith
    by true true Ending = omega arith
    by true false Ending = omega arith
    by false true Ending = omega arith
    by false false Ending = omega arith
    by true true Finished = omega arith
    by true false Finished = omega arith
    by false true Finished = omega arith
    by false false Finished = omega arith
    by true true Cleared = omega arith
    by true false Cleared = omega arith
    by false true Cleared = omega arith
    by false false Cleared = omega arith
