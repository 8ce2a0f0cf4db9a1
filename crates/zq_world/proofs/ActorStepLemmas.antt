-- Lemmas on an actor's step.
use Rattle.std.proofs.Common.{◌≡◌, ◌+◌, ℕ, List, [], ◌∷◌, ◌++◌, Bool, true, false, length, refl, sym, ap, subst, ◌∙◌, append-nil}
use Rattle.std.specs.Prelude.{◌&&◌, not, if◌then◌else◌}
use Rattle.spec_pattern.specs.declared.answers.Skip.{Skip}
use Rattle.spec_control.specs.OwnAsks.{is_none}
use Rattle.spec_run.specs.declared.answer.Answer.{Answer}
use Rattle.spec_run.specs.declared.journal.Entry.{Entry}
use Rattle.spec_run.specs.declared.script.Line.{Line}
use Rattle.spec_run.specs.Script.{line_is_over}
use Rattle.spec_run.specs.Act.{Act, Deed, Tries, Shuts, acts_of}
use Rattle.spec_run.specs.OpenSocket.{OpenSock}
use Rattle.spec_run.specs.Fate.{skips_of}
use Rattle.spec_run.specs.Journal.{entries_shown}
use Rattle.spec_run.specs.Standing.{Sockets, ActorStanding, standing_after}
use Rattle.zq_world.specs.Piece.{Piece, AreActsBy, AddsPiece, AddsDeeds, piece_of}
use Rattle.zq_world.specs.Seats.{has_open, shut_before, socks_in, sockets_of}
use Rattle.zq_world.specs.Stepping.{standing_of, entries_of, at_seats, DoesAsked, ShutsAt, AnswersOne, StepsSo}
use Rattle.zq_world.specs.declared.seats.Seat.{Seat}
use Rattle.zq_world.specs.declared.actor.Actor.{Actor}
use Rattle.zq_world.proofs.SeatLemmas.{none_open, first_sock}

empty_is : {X : Type 0} (xs : List X) → length xs ≡ 0 → xs ≡ []
empty_is [] e = refl
empty_is (x ∷ xs) e = cc

standings_are : (ls ms : List Line) (t u : ℕ) (a b : List Skip) (p q : Sockets) → ls ≡ ms → t ≡ u → a ≡ b → p ≡ q
    → ◌≡◌ {A = ActorStanding} (record { lines = ls; tried = t; told = a; mine = p }) (record { lines = ms; tried = u; told = b; mine = q })
standings_are ls ms t u a b p q e f g h = cc

module _ {N S : Type 0} where
  adds_nothing : (caller : ℕ) (pieces : List (Piece N S)) → AddsDeeds caller false [] pieces pieces
  adds_nothing caller pieces = record { added = sym (append-nil pieces); by = tt }

  pub adds_one : (caller : ℕ) (reaps : Bool) (d : Deed N S) (before after : List (Piece N S)) → AddsPiece caller reaps (acts_of d) (skips_of d) before after → AddsDeeds caller reaps (d ∷ []) before after
  adds_one caller reaps d before after h = record {
    added = h.added ∙ ap (λ l. before ++ l) (sym (append-nil (piece_of caller reaps (acts_of d) (skips_of d))));
    by = subst (AreActsBy caller) (sym (append-nil (acts_of d))) h.by;
  }

module _ {O : Type 0} (as_open : O → OpenSock) where
  finished_here : {X : Type 0} (lines : List X) (seats : List (Seat O)) → lines ≡ [] → has_open seats ≡ false → (is_none lines && is_none (socks_in as_open seats)) ≡ true
  finished_here lines seats none shut = subst (λ l. (is_none l && is_none (socks_in as_open seats)) ≡ true) (sym none) (none_open as_open seats ∙ ap not shut)

  -- how an actor stands behind a try
  stands_after : (over : Bool) (old new : Actor O) (rest : List Line) (told : List Skip) (seats : List (Seat O))
      → new.lines.now ≡ (if over then rest else old.lines.now) → new.tried ≡ (if over then 0 else old.tried + 1) → new.told.items ≡ (if over then [] else told) → new.seats ≡ seats
      → standing_of as_open new ≡ standing_after over rest told (sockets_of as_open seats) (standing_of as_open old)
  stands_after true old new rest told seats lines tried tells same = standings_are _ _ _ _ _ _ _ _ lines tried tells (ap (sockets_of as_open) same)
  stands_after false old new rest told seats lines tried tells same = standings_are _ _ _ _ _ _ _ _ lines tried tells (ap (sockets_of as_open) same)

module _ {O N S : Type 0} (as_open : O → OpenSock) where
  -- an actor that has finished does nothing
  pub steps_not : (number : ℕ) (old : Actor O) (pieces : List (Piece N S)) → length old.lines.now ≡ 0 → has_open old.seats ≡ false → StepsSo as_open number old old pieces pieces
  steps_not number old pieces none shut = record {
    deeds = [];
    step = (finished_here as_open old.lines.now old.seats (empty_is old.lines.now none) shut, refl);
    adds = adds_nothing number pieces;
    says = sym (append-nil (entries_of old));
    name = refl;
  }

  -- it closes its first socket
  pub steps_shut : (number : ℕ) (old : Actor O) (new : List (Seat O)) (before after : List (Piece N S)) → length old.lines.now ≡ 0 → ShutsAt as_open number (shut_before old.seats) old.seats new before after
      → StepsSo as_open number old (record old { seats = new }) before after
  steps_shut number old new before after none h =
      let first = first_sock as_open old.seats h.object h.socket h.here in
      record {
        deeds = Shuts h.acts ∷ [];
        step = record {
          first = as_open h.socket;
          others = first.0;
          mine = sockets_of as_open new;
          no_lines = empty_is old.lines.now none;
          socks_are = first.1;
          closes = h.closes;
          new_is = refl;
        };
        adds = adds_one number false (Shuts h.acts) before after h.adds;
        says = sym (append-nil (entries_of old));
        name = refl;
      }

  says_so : (over : Bool) (line : Line) (pump acts : List (Act N S)) (skips told : List Skip) (said : Answer) (old new : List Entry)
      → new ≡ (if over then old ++ record { line = line.number; answer = said; skips = told } ∷ [] else old)
      → new ≡ old ++ entries_shown {N = N} {S = S} (Tries (record { line = line; pump = pump; call = acts; skips = skips; told = told; answer = said; over = over }) ∷ [])
  says_so true line pump acts skips told said old new h = h
  says_so false line pump acts skips told said old new h = h ∙ sym (append-nil old)

  -- it tries its first line
  pub steps_try : (number : ℕ) (old mid new : Actor O) (line : Line) (rest : List Line) (said : Answer) (before after : List (Piece N S))
      → old.lines.now ≡ line ∷ rest → mid.lines ≡ old.lines → mid.tried ≡ old.tried → mid.entries ≡ old.entries → mid.name ≡ old.name
      → DoesAsked number line.call said (at_seats as_open old.seats old.told.items before) (at_seats as_open mid.seats mid.told.items after)
      → AnswersOne line rest said mid new → new.seats ≡ mid.seats → StepsSo as_open number old new before after
  steps_try number old mid new line rest said before after lines_are lines tried entries name h a seats = record {
    deeds = Tries (record { line = line; pump = h.pump; call = h.acts; skips = h.skips; told = mid.told.items; answer = said; over = a.over }) ∷ [];
    step = record {
      rest = rest;
      mine = sockets_of as_open mid.seats;
      lines_are = lines_are;
      does = h.does line mid.told.items a.over;
      told_is = h.tells;
      over_is = subst (λ n. a.over ≡ line_is_over n line.call said) tried a.over_is;
      new_is = stands_after as_open a.over old new rest mid.told.items mid.seats
          (subst (λ (l : List Line). new.lines.now ≡ (if a.over then rest else l)) (ap (λ l. l.now) lines) a.lines)
          (subst (λ n. new.tried ≡ (if a.over then 0 else n + 1)) tried a.tried) a.told seats;
    };
    adds = adds_one number false (Tries (record { line = line; pump = h.pump; call = h.acts; skips = h.skips; told = mid.told.items; answer = said; over = a.over })) before after h.adds;
    says = says_so a.over line h.pump h.acts h.skips mid.told.items said (entries_of old) (entries_of new)
        (subst (λ (l : List Entry). new.entries.items ≡ (if a.over then l ++ record { line = line.number; answer = said; skips = mid.told.items } ∷ [] else l)) (ap (λ e. e.items) entries) a.says);
    name = a.name ∙ name;
  }
