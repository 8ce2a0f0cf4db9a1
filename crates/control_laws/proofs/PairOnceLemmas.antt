-- An end gets at most one PipeTerm, and at most one PipeTermAck.
use Rattle.std.specs.Prelude.{◌≡◌, ◌<◌, ◌≤◌, ◌+◌, ◌&&◌, ℕ, Bool, true, false, not, cond, List, [], ◌∷◌, map, length, count_by, sum_by, slice_index_or, slice_set, refl}
use Rattle.std.proofs.Common.{arith, ap, inl, inr}
use Rattle.std.proofs.lemmas.Bool.{eq-eqb, ne_eqb, cases_eq, cases_order}
use Rattle.std.proofs.lemmas.List.{get_or_default, get_or_past, get_or-set_same, get_or-set_other}
use Rattle.std.proofs.lemmas.List.Sums.{sum_by-cons}
use Rattle.zq_base.specs.declared.ids.EndId.{EndId}
use Rattle.spec_control.specs.declared.end.EndState.TheVariants.{Active, DelimiterGot, WaitDelimiter, AckSent, AskedOnce, AskedTwice, Gone}
use Rattle.spec_control.specs.declared.end.EndEvent.{EndEvent}
use Rattle.spec_control.specs.declared.end.EndEvent.TheVariants.{Asked, TermCame, DelimiterSeen, AckCame}
use Rattle.spec_control.specs.declared.letter.Word.{Word}
use Rattle.spec_control.specs.declared.letter.Word.TheVariants.{Own, Plug, TermReq, Term, TermAck, PipeBind, PipeTerm, PipeTermAck, Stop, Reap}
use Rattle.spec_control.specs.declared.entry.Did.{Did}
use Rattle.spec_control.specs.declared.entry.Did.TheVariants.{Asked as DidAsk, Delivered, Delimited}
use Rattle.spec_control.specs.Place.{Place, Unmade, Away, At, EndWord, Binds, Terms, Acks, is_unmade, waiting}
use Rattle.spec_control.specs.PairPhase.{PairEvent, Opens, BindCame, Happens, may, words_at, place_after, other_after}
use Rattle.spec_control.specs.Rows.{Rows, PairRow, no_pair, pair, end_owner, end_half, pair_after}
use Rattle.spec_control.specs.Control.{Control, same_side, is_end}
use Rattle.control_laws.specs.Mail.{Mark, EndLink, end_mark, end_marks, queue}
use Rattle.control_laws.proofs.ListLemmas.{never, left, right, is_old, is_new, pushed}
use Rattle.control_laws.proofs.RowLemmas.{pair_there}
use Rattle.control_laws.specs.Move.{Move, LinkMoves, EndMoves, ObjectEnds, ObjectMade, PairDrawn, LetterPut, move_rows, MayMove}
use Rattle.control_laws.specs.OwnMoves.{word_moves, own_moves}
use Rattle.control_laws.specs.Once.{letters_in, is_pipe_term_word, is_pipe_term, is_pipe_ack_word, is_pipe_ack}
use Rattle.control_laws.proofs.SoundLemmas.{Sound}
use Rattle.control_laws.proofs.PairWeighLemmas.{word_toll, made_toll, FallsBy, end_weight, mine_falls, theirs_fall, binds_away}

-- ---- which words count, and how many an end there may still put for the other
abbrev pub term_word : EndWord → ℕ
term_word Binds = 0
term_word Terms = 1
term_word Acks = 0

abbrev pub term_to_put : Place → ℕ
term_to_put Unmade = 1
term_to_put Away = 1
term_to_put (At Active) = 1
term_to_put (At DelimiterGot) = 1
term_to_put (At WaitDelimiter) = 0
term_to_put (At AckSent) = 0
term_to_put (At AskedOnce) = 0
term_to_put (At AskedTwice) = 0
term_to_put (At Gone) = 0

abbrev pub ack_word : EndWord → ℕ
ack_word Binds = 0
ack_word Terms = 0
ack_word Acks = 1

abbrev pub ack_to_put : Place → ℕ
ack_to_put Unmade = 1
ack_to_put Away = 1
ack_to_put (At Active) = 1
ack_to_put (At DelimiterGot) = 1
ack_to_put (At WaitDelimiter) = 1
ack_to_put (At AckSent) = 0
ack_to_put (At AskedOnce) = 1
ack_to_put (At AskedTwice) = 0
ack_to_put (At Gone) = 0

term_local : (event : EndEvent) (place : Place) → sum_by term_word (words_at (Happens event) place) + term_to_put (place_after (Happens event) place) ≤ term_to_put place
term_local event Unmade = omega arith
term_local event Away = omega arith
term_local (Asked reason true) (At Active) = omega arith
term_local (Asked reason true) (At DelimiterGot) = omega arith
term_local (Asked reason true) (At WaitDelimiter) = omega arith
term_local (Asked reason true) (At AckSent) = omega arith
term_local (Asked reason true) (At AskedOnce) = omega arith
term_local (Asked reason true) (At AskedTwice) = omega arith
term_local (Asked reason true) (At Gone) = omega arith
term_local (Asked reason false) (At Active) = omega arith
term_local (Asked reason false) (At DelimiterGot) = omega arith
term_local (Asked reason false) (At WaitDelimiter) = omega arith
term_local (Asked reason false) (At AckSent) = omega arith
term_local (Asked reason false) (At AskedOnce) = omega arith
term_local (Asked reason false) (At AskedTwice) = omega arith
term_local (Asked reason false) (At Gone) = omega arith
term_local TermCame (At Active) = omega arith
term_local TermCame (At DelimiterGot) = omega arith
term_local TermCame (At WaitDelimiter) = omega arith
term_local TermCame (At AckSent) = omega arith
term_local TermCame (At AskedOnce) = omega arith
term_local TermCame (At AskedTwice) = omega arith
term_local TermCame (At Gone) = omega arith
term_local DelimiterSeen (At Active) = omega arith
term_local DelimiterSeen (At DelimiterGot) = omega arith
term_local DelimiterSeen (At WaitDelimiter) = omega arith
term_local DelimiterSeen (At AckSent) = omega arith
term_local DelimiterSeen (At AskedOnce) = omega arith
term_local DelimiterSeen (At AskedTwice) = omega arith
term_local DelimiterSeen (At Gone) = omega arith
term_local AckCame (At Active) = omega arith
term_local AckCame (At DelimiterGot) = omega arith
term_local AckCame (At WaitDelimiter) = omega arith
term_local AckCame (At AckSent) = omega arith
term_local AckCame (At AskedOnce) = omega arith
term_local AckCame (At AskedTwice) = omega arith
term_local AckCame (At Gone) = omega arith

unmade_term : (place : Place) → is_unmade place ≡ true → term_to_put place ≡ 1
unmade_term Unmade h = refl
unmade_term Away h = absurd (never h)
unmade_term (At state) h = absurd (never h)

pub term_fall : FallsBy term_word term_to_put 0
term_fall = record { mine = mine; theirs = theirs }
  where
    away : (x : Place) → x ≡ Away → term_to_put x ≡ 1
    away x e = ap term_to_put e

    mine : (e : PairEvent) (x y : Place) (ws : List EndWord) → may e (record { place = x; mail = waiting x y }) (record { place = y; mail = ws }) ≡ true → sum_by term_word (words_at e x) + term_to_put (place_after e x) ≤ term_to_put x
    mine Opens x y ws comes = let one = unmade_term x (left _ _ comes) in omega (arith, one)
    mine BindCame x y ws comes = let one = away x (binds_away x y comes) in omega (arith, one)
    mine (Happens event) x y ws comes = term_local event x

    theirs : (e : PairEvent) (x y : Place) (ws : List EndWord) → may e (record { place = x; mail = waiting x y }) (record { place = y; mail = ws }) ≡ true → term_to_put (other_after e y) + made_toll 0 e ≤ term_to_put y
    theirs Opens x y ws comes = let one = unmade_term y (right (is_unmade x) _ comes) in omega (arith, one)
    theirs BindCame x y ws comes = omega arith
    theirs (Happens event) x y ws comes = omega arith

ack_local : (event : EndEvent) (place : Place) → sum_by ack_word (words_at (Happens event) place) + ack_to_put (place_after (Happens event) place) ≤ ack_to_put place
ack_local event Unmade = omega arith
ack_local event Away = omega arith
ack_local (Asked reason true) (At Active) = omega arith
ack_local (Asked reason true) (At DelimiterGot) = omega arith
ack_local (Asked reason true) (At WaitDelimiter) = omega arith
ack_local (Asked reason true) (At AckSent) = omega arith
ack_local (Asked reason true) (At AskedOnce) = omega arith
ack_local (Asked reason true) (At AskedTwice) = omega arith
ack_local (Asked reason true) (At Gone) = omega arith
ack_local (Asked reason false) (At Active) = omega arith
ack_local (Asked reason false) (At DelimiterGot) = omega arith
ack_local (Asked reason false) (At WaitDelimiter) = omega arith
ack_local (Asked reason false) (At AckSent) = omega arith
ack_local (Asked reason false) (At AskedOnce) = omega arith
ack_local (Asked reason false) (At AskedTwice) = omega arith
ack_local (Asked reason false) (At Gone) = omega arith
ack_local TermCame (At Active) = omega arith
ack_local TermCame (At DelimiterGot) = omega arith
ack_local TermCame (At WaitDelimiter) = omega arith
ack_local TermCame (At AckSent) = omega arith
ack_local TermCame (At AskedOnce) = omega arith
ack_local TermCame (At AskedTwice) = omega arith
ack_local TermCame (At Gone) = omega arith
ack_local DelimiterSeen (At Active) = omega arith
ack_local DelimiterSeen (At DelimiterGot) = omega arith
ack_local DelimiterSeen (At WaitDelimiter) = omega arith
ack_local DelimiterSeen (At AckSent) = omega arith
ack_local DelimiterSeen (At AskedOnce) = omega arith
ack_local DelimiterSeen (At AskedTwice) = omega arith
ack_local DelimiterSeen (At Gone) = omega arith
ack_local AckCame (At Active) = omega arith
ack_local AckCame (At DelimiterGot) = omega arith
ack_local AckCame (At WaitDelimiter) = omega arith
ack_local AckCame (At AckSent) = omega arith
ack_local AckCame (At AskedOnce) = omega arith
ack_local AckCame (At AskedTwice) = omega arith
ack_local AckCame (At Gone) = omega arith

unmade_ack : (place : Place) → is_unmade place ≡ true → ack_to_put place ≡ 1
unmade_ack Unmade h = refl
unmade_ack Away h = absurd (never h)
unmade_ack (At state) h = absurd (never h)

pub ack_fall : FallsBy ack_word ack_to_put 0
ack_fall = record { mine = mine; theirs = theirs }
  where
    away : (x : Place) → x ≡ Away → ack_to_put x ≡ 1
    away x e = ap ack_to_put e

    mine : (e : PairEvent) (x y : Place) (ws : List EndWord) → may e (record { place = x; mail = waiting x y }) (record { place = y; mail = ws }) ≡ true → sum_by ack_word (words_at e x) + ack_to_put (place_after e x) ≤ ack_to_put x
    mine Opens x y ws comes = let one = unmade_ack x (left _ _ comes) in omega (arith, one)
    mine BindCame x y ws comes = let one = away x (binds_away x y comes) in omega (arith, one)
    mine (Happens event) x y ws comes = ack_local event x

    theirs : (e : PairEvent) (x y : Place) (ws : List EndWord) → may e (record { place = x; mail = waiting x y }) (record { place = y; mail = ws }) ≡ true → ack_to_put (other_after e y) + made_toll 0 e ≤ ack_to_put y
    theirs Opens x y ws comes = let one = unmade_ack y (right (is_unmade x) _ comes) in omega (arith, one)
    theirs BindCame x y ws comes = omega arith
    theirs (Happens event) x y ws comes = omega arith

-- ---- the weight of an end in the rows; one of a pair that is not drawn yet may get one
module _ (g : EndWord → ℕ) (h : Place → ℕ) (falls : FallsBy g h 0) (new_is : h Unmade ≡ 1) (most : (p : PairRow) (x : Bool) → p.a ≡ Unmade → p.b ≡ Unmade → end_weight g h p x ≡ 1) (d : EndId) where
  abbrev pub comes_left : Rows → ℕ
  comes_left s = end_weight g h (slice_index_or s.pairs d.pair.0 (record { a_owner = 0; b_owner = 0; a = Unmade; b = Unmade })) d.a

  abbrev pub comes_toll : Move → ℕ
  comes_toll (LinkMoves j event) = 0
  comes_toll (EndMoves e event) = cond (is_end d e) (word_toll g event) 0
  comes_toll (ObjectEnds j) = 0
  comes_toll (ObjectMade row) = 0
  comes_toll (PairDrawn x y) = 0
  comes_toll (LetterPut to word) = 0

  abbrev fresh : PairRow
  fresh = record { a_owner = 0; b_owner = 0; a = Unmade; b = Unmade }

  moved_falls : (s : Rows) (e : EndId) (event : PairEvent) → Sound s → MayMove (EndMoves e event) s → comes_left (move_rows (EndMoves e event) s) + cond (is_end d e) (word_toll g event) 0 ≤ comes_left s
  moved_falls s e event sound may_so =
      elim (cases_eq d.pair.0 e.pair.0) [
        | inl at ↦
            let now = ap (λ (k : ℕ). end_weight g h (slice_index_or (slice_set s.pairs e.pair.0 p) k fresh) d.a) at in
            let set = ap (λ (q : PairRow). end_weight g h q d.a) (get_or-set_same s.pairs e.pair.0 p fresh there) in
            let old = ap (λ (k : ℕ). end_weight g h (slice_index_or s.pairs k fresh) d.a) at in
            let row = ap (λ (q : PairRow). end_weight g h q d.a) (get_or_default s.pairs e.pair.0 fresh no_pair there) in
            let number = ap (λ (b : Bool). cond (b && same_side d.a e.a) (word_toll g event) 0) (eq-eqb d.pair.0 e.pair.0 at) in
            let less = by_side e.a d.a comes in
            omega (arith, now, set, old, row, number, less)
        | inr other ↦
            let same = ap (λ (q : PairRow). end_weight g h q d.a) (get_or-set_other s.pairs e.pair.0 d.pair.0 p fresh other) in
            let number = ap (λ (b : Bool). cond (b && same_side d.a e.a) (word_toll g event) 0) (ne_eqb d.pair.0 e.pair.0 other) in
            omega (arith, same, number)
      ]
    where
      p : PairRow
      p = pair_after event e.a (pair s e.pair.0)

      there : e.pair.0 < length s.pairs
      there = pair_there s e.pair.0 e.a event may_so.comes

      comes : may event (end_half (pair s e.pair.0) e.a) (end_half (pair s e.pair.0) (not e.a)) ≡ true
      comes = may_so.comes

      by_side : (a x : Bool) → may event (end_half (pair s e.pair.0) a) (end_half (pair s e.pair.0) (not a)) ≡ true →
          end_weight g h (pair_after event a (pair s e.pair.0)) x + cond (same_side x a) (word_toll g event) 0 ≤ end_weight g h (pair s e.pair.0) x
      by_side true true c = let a = mine_falls g h 0 falls event true (pair s e.pair.0) (sound.phases e.pair.0) c in omega (arith, a)
      by_side false false c = let a = mine_falls g h 0 falls event false (pair s e.pair.0) (sound.phases e.pair.0) c in omega (arith, a)
      by_side true false c = let a = theirs_fall g h 0 falls event true (pair s e.pair.0) (sound.phases e.pair.0) c in omega (arith, a)
      by_side false true c = let a = theirs_fall g h 0 falls event false (pair s e.pair.0) (sound.phases e.pair.0) c in omega (arith, a)

  pub comes_step : (m : Move) (s : Rows) → Sound s → MayMove m s → comes_left (move_rows m s) + comes_toll m ≤ comes_left s
  comes_step (LinkMoves j event) s sound may_so = omega arith
  comes_step (EndMoves e event) s sound may_so = moved_falls s e event sound may_so
  comes_step (ObjectEnds j) s sound may_so = omega arith
  comes_step (ObjectMade row) s sound may_so = omega arith
  comes_step (PairDrawn x y) s sound may_so =
      elim (pushed s.pairs (record { a_owner = x; b_owner = y; a = Unmade; b = Unmade }) fresh d.pair.0) [
        | is_old e ↦ let same = ap (λ (q : PairRow). end_weight g h q d.a) e in omega (arith, same)
        | is_new at e was ↦
            let new = ap (λ (q : PairRow). end_weight g h q d.a) e in
            let old = ap (λ (q : PairRow). end_weight g h q d.a) was in
            let one = most (record { a_owner = x; b_owner = y; a = Unmade; b = Unmade }) d.a refl refl in
            let two = most fresh d.a refl refl in
            omega (arith, new, old, one, two)
      ]
  comes_step (LetterPut to word) s sound may_so = omega arith

  -- what waits is part of it
  pub comes_waits : (sign : Mark → ℕ) → ((w : ℕ) (word : EndWord) → sign (end_mark w word) ≡ g word) → (s : Rows) → sum_by sign (queue s (EndLink d.pair.0 d.a)) ≤ comes_left s
  comes_waits sign same s =
      elim (cases_order d.pair.0 (length s.pairs)) [
        | inl at ↦ past (omega (arith, at))
        | inr (inl below) ↦
            let row = ap (λ (q : PairRow). end_weight g h q d.a) (get_or_default s.pairs d.pair.0 fresh no_pair below) in
            let all = signs (end_owner (pair s d.pair.0) d.a) (end_half (pair s d.pair.0) d.a).mail in
            omega (arith, row, all)
        | inr (inr above) ↦ past (omega (arith, above))
      ]
    where
      signs : (w : ℕ) (ws : List EndWord) → sum_by sign (map (end_mark w) ws) ≡ sum_by g ws
      signs w [] = refl
      signs w (x ∷ ws) = let a = sum_by-cons sign (end_mark w x) (map (end_mark w) ws) in let b = sum_by-cons g x ws in let c = signs w ws in let e = same w x in omega (arith, a, b, c, e)

      past : length s.pairs ≤ d.pair.0 → sum_by sign (queue s (EndLink d.pair.0 d.a)) ≤ comes_left s
      past far = let none = ap (λ (q : PairRow). sum_by sign (end_marks q d.a)) (get_or_past s.pairs d.pair.0 no_pair far) in let zero_is = empty d.a in omega (arith, none, zero_is)
        where
          empty : (x : Bool) → sum_by sign (end_marks no_pair x) ≡ 0
          empty true = refl
          empty false = refl

-- ---- the commands that are taken
pub pipe_term_tolls : {N S : Type 0} (d : EndId) (toll : Move → ℕ) → ((e : EndId) → toll (EndMoves e (Happens TermCame)) ≡ cond (is_end d e) 1 0) → (c : Control) (did : Did N S) → count_by (is_pipe_term d) (letters_in did) ≤ sum_by toll (own_moves c did)
pipe_term_tolls d toll is c (DidAsk req reply h) = omega arith
pipe_term_tolls d toll is c (Delivered slot letter h) = let paid = by letter.to.0 letter.word in omega (arith, paid)
  where
    by : (to : ℕ) (word : Word) → cond (is_pipe_term_word d word) 1 0 ≤ sum_by toll (word_moves to word)
    by to (Own child) = omega arith
    by to (Plug end) = omega arith
    by to (TermReq child) = omega arith
    by to Term = omega arith
    by to (TermAck child) = omega arith
    by to (PipeBind e peer) = omega arith
    by to (PipeTerm e) = let a = is e in omega (arith, a)
    by to (PipeTermAck e) = omega arith
    by to Stop = omega arith
    by to (Reap socket) = omega arith
pipe_term_tolls d toll is c (Delimited e h) = omega arith

pub pipe_ack_tolls : {N S : Type 0} (d : EndId) (toll : Move → ℕ) → ((e : EndId) → toll (EndMoves e (Happens AckCame)) ≡ cond (is_end d e) 1 0) → (c : Control) (did : Did N S) → count_by (is_pipe_ack d) (letters_in did) ≤ sum_by toll (own_moves c did)
pipe_ack_tolls d toll is c (DidAsk req reply h) = omega arith
pipe_ack_tolls d toll is c (Delivered slot letter h) = let paid = by letter.to.0 letter.word in omega (arith, paid)
  where
    by : (to : ℕ) (word : Word) → cond (is_pipe_ack_word d word) 1 0 ≤ sum_by toll (word_moves to word)
    by to (Own child) = omega arith
    by to (Plug end) = omega arith
    by to (TermReq child) = omega arith
    by to Term = omega arith
    by to (TermAck child) = omega arith
    by to (PipeBind e peer) = omega arith
    by to (PipeTerm e) = omega arith
    by to (PipeTermAck e) = let a = is e in omega (arith, a)
    by to Stop = omega arith
    by to (Reap socket) = omega arith
pipe_ack_tolls d toll is c (Delimited e h) = omega arith
