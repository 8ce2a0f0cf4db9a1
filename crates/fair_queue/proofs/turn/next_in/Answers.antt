use Rattle.std.proofs.Common.{ℕ, List, ◌+◌, ◌++◌, ◌∷◌, [], take, drop, refl, sym, ap, subst, ◌∙◌}
use Rattle.std.proofs.lemmas.List.{take-append-drop, drop_more, take_more}
use Rattle.spec_pattern.specs.PipeStep.{Take, read_through}
use Rattle.fair_queue.proofs.turn.next_in.Goals as goal

-- the place that served stands between those before it and those behind it
pub returns-in-Some-clause-next : goal.returns-in-Some-clause-next
returns-in-Some-clause-next g c =
    let first = c.in-Some.ensures.looks in
    let turns : List ℕ = c.args.turns.now in
    let i = c.in-Some.index in
    let before = take i turns in
    let after = drop (i + 1) turns in
    record {
      steps = first.looks ++ Take (read_through (g.E.Peers.end_at c.args.peers.now c.at-place.result)) c.in-Some.message ∷ [];
      runs_are = subst (λ (k : ℕ). g.E.Peers.runs c.args.peers.now (first.looks ++ Take (read_through (g.E.Peers.end_at c.args.peers.now k)) c.in-Some.message ∷ []) c.first_in.new.peers) (sym c.at-place.ensures) first.runs_are;
      next = record {
        before = before;
        after = after;
        looks = first.looks;
        turns_are = sym (take-append-drop i turns) ∙ ap (λ (l : List ℕ). before ++ l) (drop_more turns i 0 first.within)
            ∙ ap (λ (k : ℕ). before ++ k ∷ after) (sym c.at-place.ensures);
        looks_are = first.looks_are;
        steps_are = refl;
        new_is = c.serve.ensures.turned ∙ ap (λ (l : List ℕ). after ++ l)
            (take_more turns i 0 first.within ∙ ap (λ (k : ℕ). before ++ k ∷ []) (sym c.at-place.ensures));
      };
    }

pub returns-in-Some-clause-whole : goal.returns-in-Some-clause-whole
returns-in-Some-clause-whole g c = c.in-Some.ensures.whole

pub returns-in-Some-clause-places : goal.returns-in-Some-clause-places
returns-in-Some-clause-places g c = c.serve.ensures.same

pub returns-in-Some-clause-keeps : goal.returns-in-Some-clause-keeps
returns-in-Some-clause-keeps g c = c.first_in.ensures.keeps

pub returns-in-None-clause-next : goal.returns-in-None-clause-next
returns-in-None-clause-next g c =
    let none = c.in-None.ensures.looks in
    record {
      steps = none.looks;
      runs_are = none.runs_are;
      next = record { looks_are = none.looks_are; new_is = refl };
    }

pub returns-in-None-clause-keeps : goal.returns-in-None-clause-keeps
returns-in-None-clause-keeps g c = c.first_in.ensures.keeps
