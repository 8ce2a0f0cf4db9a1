-- That the pairs that a bind has drawn are taken back, last first.
use Rattle.std.specs.Prelude.{◌≡◌, ◌+◌, ◌||◌, ◌++◌, ◌∷◌, [], ℕ, Bool, true, false, List, Some, length, map, refl}
use Rattle.std.proofs.Common.{arith, sym, ap, ◌∙◌, subst}
use Rattle.std.proofs.lemmas.List.{append_assoc, length_push, map-append}
use Rattle.std.proofs.lemmas.List.Folds.{list_any-append}
use Rattle.std.proofs.lemmas.List.Elements.{All-pop}
use Rattle.spec_control.specs.Control.{is_end}
use Rattle.spec_control.specs.Held.{Held}
use Rattle.control_laws.proofs.ListLemmas.{never}
use Rattle.control_laws.proofs.AskLemmas.{end_self}
use Rattle.desk.specs.declared.load.Load.{Load}
use Rattle.desk.specs.Holding.{HearsNone, BeginsNone, Holding, IsLast, Left, TakesBack, has_end}
use Rattle.ctl_state.specs.declared.state.State.{State}
use Rattle.ctl_moves.specs.Joined.{Gets}
use Rattle.ctl_moves.specs.Room.{HasDrawn, HavePlaces}
use Rattle.ctl_moves.specs.declared.batch.Drawn.{Drawn}
use Rattle.ctl_moves.specs.Batch.{drawn_all, first_of, held_of}
use Rattle.ctl_moves.specs.Drawing.{AreTaken, HasJoinedMore, WasTaken}
use Rattle.ctl_moves.proofs.BindCameLemmas.{came_less}
use Rattle.ctl_moves.proofs.TakenLemmas.{all_below, drawn_last, drawn_pairs, drawn_places, gets_less, numbered_first, numbered_last, or_right}

module _ {N O I : Type 0} (s : State (Load N O I)) (k : Holding N) (i : ℕ) (d : Drawn N O I) (w : WasTaken s k i d) where
  abbrev n : ℕ
  n = length w.before.pairs

  gets_all : Gets (length w.before.pairs) i (map held_of w.rest ++ held_of d ∷ []) w.had k
  gets_all = subst (λ (hs : List (Held N)). Gets n i hs w.had k) (map-append held_of w.rest (d ∷ [])) w.taken.gets

  number : d.pair.0 ≡ length w.before.pairs + length w.rest
  number = numbered_last n w.rest d w.taken.numbers

  pub is_last : IsLast (first_of d) (k.ends i)
  is_last = record {
    before = w.had.ends i ++ map held_of w.rest;
    last = held_of d;
    are = gets_all.ends ∙ sym (append_assoc (w.had.ends i) (map held_of w.rest) (held_of d ∷ []));
    end = end_self (first_of d);
  }

  pub writes_it : k.writes (first_of d) ≡ true
  writes_it = (All-pop (λ (y : Held N). k.writes y.end ≡ true) (map held_of w.rest ++ held_of d ∷ []) (map held_of w.rest) (Some (held_of d)) refl gets_all.mine).1

  abbrev pub was_drawn : HasDrawn s false d.o
  was_drawn = record {
    before = drawn_all w.rest w.before;
    places = drawn_places w.rest w.before d.o (All-pop (λ (y : Drawn N O I). HavePlaces w.before y.o) (w.rest ++ d ∷ []) w.rest (Some d) refl w.taken.places).1;
    is = w.taken.is ∙ drawn_last w.rest d w.before;
  }

  pub last_number : d.pair.0 + 1 ≡ length s.pairs
  last_number =
      let all = ap (λ (t : State (Load N O I)). length t.pairs) w.taken.is in
      let drawn = drawn_pairs (w.rest ++ d ∷ []) w.before in
      let push = length_push w.rest d in
      let is = number in
      omega (arith, all, drawn, push, is)

  pub taken_less : (t : State (Load N O I)) (l : Holding N) → t ≡ drawn_all w.rest w.before → Left i (first_of d) k l → BeginsNone k l → TakesBack k l → HearsNone k l → AreTaken i w.rest w.before t w.had l
  taken_less t l is left keeps back heard = record {
    is = is;
    places = (All-pop (λ (y : Drawn N O I). HavePlaces w.before y.o) (w.rest ++ d ∷ []) w.rest (Some d) refl w.taken.places).0;
    numbers = numbered_first n w.rest d w.taken.numbers;
    fresh = w.taken.fresh;
    elsewhere = w.taken.elsewhere;
    gets = gets_then;
    active = λ e here.
        keeps.states i e (ap (has_end e) gets_then.ends ∙ list_any-append (λ (y : Held N). is_end e y.end) (w.had.ends i) (map held_of w.rest) ∙ or_right (has_end e (w.had.ends i)) (has_end e (map held_of w.rest)) here)
        ∙ w.taken.active e
        (ap (has_end e) (map-append held_of w.rest (d ∷ [])) ∙ list_any-append (λ (y : Held N). is_end e y.end) (map held_of w.rest) (held_of d ∷ []) ∙ or_left (has_end e (map held_of w.rest)) (has_end e (held_of d ∷ [])) here);
    turns = keeps.turns ∙ w.taken.turns;
    sealed = keeps.sealed ∙ w.taken.sealed;
    came = came_less w.had k l (length w.rest) (subst (λ (m : ℕ). HasJoinedMore m w.had k) (length_push w.rest d) w.taken.came) back;
    heard = heard ∙ w.taken.heard;
  }
    where
      gets_then : Gets n i (map held_of w.rest) w.had l
      gets_then =
          gets_less n i (map held_of w.rest) (held_of d) w.had k l (let at = number in omega (arith, at))
          (all_below n w.rest (numbered_first n w.rest d w.taken.numbers) d.pair.0 (let at = number in omega (arith, at))) (w.taken.fresh (first_of d) (let at = number in omega (arith, at))) gets_all left keeps

      or_left : (a b : Bool) → a ≡ true → (a || b) ≡ true
      or_left true b is = refl
      or_left false b is = absurd (never is)
