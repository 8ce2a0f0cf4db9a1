-- Messages that a receive drops, one after the other, and how the receive ends.
use Rattle.std.proofs.Common.{◌≡◌, ◌<◌, ◌+◌, ℕ, List, [], ◌∷◌, ◌++◌, map, length, Option, Some, None, refl, sym, ap, subst, ◌∙◌, append_assoc, append-nil, length-append, arith}
use Rattle.std.proofs.lemmas.List.{map-append}
use Rattle.std.proofs.lemmas.List.Elements.{All-append, All-nil, All-cons, Contains-append_left, Contains-append_right}
use Rattle.std.specs.Prelude.{Contains}
use Rattle.zq_base.specs.Message.{Frames}
use Rattle.spec_pattern.specs.PipeStep.{PipeStep}
use Rattle.spec_pattern.specs.TurnList.{End}
use Rattle.spec_pattern.specs.Duty.{Duty}
use Rattle.spec_pattern.specs.Drops.{Round, Given, Comes, ComeByTurn, Drops, skip_of, most_drops, given, again, busy}
use Rattle.spec_pattern.specs.declared.answers.Rule.{Rule}
use Rattle.spec_pattern.specs.declared.answers.Skip.{Skip}
use Rattle.spec_pattern.specs.declared.answers.RecvRefusal.TheVariants as recv
use Rattle.spec_pattern.specs.declared.answers.RecvAnswer.TheVariants as got
use Rattle.fair_queue.specs.FairQueue.{ServesNext, ReceivesByTurn}
use Rattle.fair_queue.specs.declared.turn.NextIn.TheVariants as next
use Rattle.spec_pattern.specs.Dropping.{Receiving, receiving, DropsMore, GivesAt, FindsNone, ReceivesOver, with_duty}
use Rattle.spec_pattern.proofs.AtPlacesLemmas.{ends_around, ends_turned}

-- the place between two parts of a list is in it
pub in_the_middle : (before after turns : List ℕ) (place : ℕ) → turns ≡ before ++ place ∷ after → Contains turns place
in_the_middle before after turns place are =
    subst (λ l. Contains l place) (sym are) (Contains-append_right before (place ∷ after) place (Contains-append_left (place ∷ []) after place (0, omega arith, refl)))

-- messages came by turn, and then others
ComeByTurn-append : (turns mid new : List End) (rs more : List Round) (front last : List PipeStep)
    → ComeByTurn turns rs front mid → ComeByTurn mid more last new → ComeByTurn turns (rs ++ more) (front ++ last) new
ComeByTurn-append turns mid new [] more front last came then =
    subst (λ (s : List PipeStep). ComeByTurn turns more (s ++ last) new) (sym came.0) (subst (λ (t : List End). ComeByTurn t more last new) came.1 then)
ComeByTurn-append turns mid new (r ∷ rs) more front last came then = (
  came.0,
  came.1 ++ last,
  came.2,
  came.3,
  ComeByTurn-append came.2 mid new rs more came.1 last came.4 then,
  ap (λ l. l ++ last) came.5 ∙ append_assoc came.0 came.1 last,
)

-- messages were dropped, and then others
Drops-append : (gives : End → Frames → Option Given) (rule : Rule) (turns mid new : List End) (dropped more : List Round) (front last : List PipeStep) (told others : List Skip)
    → Drops gives rule turns dropped front told mid → Drops gives rule mid more last others new → Drops gives rule turns (dropped ++ more) (front ++ last) (told ++ others) new
Drops-append gives rule turns mid new dropped more front last told others d e = record {
  came = ComeByTurn-append turns mid new dropped more front last d.came e.came;
  none = All-append (λ (r : Round). gives r.peer r.message ≡ None) dropped more d.none e.none;
  skips_are = ap (λ l. l ++ others) d.skips_are ∙ ap (λ l. map (skip_of rule) dropped ++ l) e.skips_are ∙ sym (map-append (skip_of rule) dropped more);
}

-- what a look took, as a message that came by turn
Comes-served : (ends : ℕ → End) (turns new : List ℕ) (steps : List PipeStep) (place : ℕ) (m : Frames) → ServesNext ends turns steps place m new
    → Comes (map ends turns) (record { peer = ends place; message = m }) steps (map ends new)
Comes-served ends turns new steps place m s = record {
  by_turn = record {
    before = map ends s.before;
    peer = ends place;
    after = map ends s.after;
    looks = s.looks;
    turns_are = ends_around ends s.before s.after turns place s.turns_are;
    looks_are = s.looks_are;
    steps_are = s.steps_are;
    from_is = refl;
    new_is = ends_turned ends s.before s.after new place s.new_is;
  };
  peer_is = refl;
}

module _ {S : Type 0} (runs : S → List PipeStep → S → Type 0) (ends : ℕ → End) (gives : End → Frames → Option Given) (rule : Rule) where
  -- a look took a message that gives something
  pub GivesAt-served : (old new : Receiving S) (place : ℕ) (m rest : Frames) (duty : Duty)
      → ReceivesByTurn runs ends old.peers new.peers old.turns (next.Got place m) new.turns → gives (ends place) m ≡ Some (with_duty duty rest) → new.told ≡ old.told
      → GivesAt runs ends gives rule old new place rest duty
  GivesAt-served old new place m rest duty r some same = record {
    steps = r.steps;
    runs_are = r.runs_are;
    one = record {
      round = record { peer = ends place; message = m };
      comes = Comes-served ends old.turns new.turns r.steps place m r.next;
      message = rest;
      gives_it = some;
      answer_is = refl;
    };
    told_are = same;
  }

  -- a look took a message that gives nothing
  pub DropsMore-served : (old new : Receiving S) (place : ℕ) (m : Frames)
      → ReceivesByTurn runs ends old.peers new.peers old.turns (next.Got place m) new.turns → gives (ends place) m ≡ None
      → new.told ≡ old.told ++ record { rule = rule; pair = (ends place).pair } ∷ []
      → DropsMore runs ends gives rule 1 old new
  DropsMore-served old new place m r none told =
      let round : Round = record { peer = ends place; message = m } in
      record {
        steps = r.steps;
        runs_are = r.runs_are;
        dropped = round ∷ [];
        count_is = refl;
        skips = record { rule = rule; pair = (ends place).pair } ∷ [];
        drops = record {
          came = (r.steps, [], map ends new.turns, Comes-served ends old.turns new.turns r.steps place m r.next, (refl, refl), sym (append-nil r.steps));
          none = All-cons (λ (x : Round). gives x.peer x.message ≡ None) round [] none (All-nil (λ (x : Round). gives x.peer x.message ≡ None));
          skips_are = refl;
        };
        told_are = told;
      }

  -- a look found nothing
  pub FindsNone-empty : (old new : Receiving S) → ReceivesByTurn runs ends old.peers new.peers old.turns next.AllEmpty new.turns → new.told ≡ old.told
      → FindsNone runs ends gives rule old new
  FindsNone-empty old new r same = record {
    steps = r.steps;
    runs_are = r.runs_are;
    none = record { looks_are = r.next.looks_are; new_is = ap (map ends) r.next.new_is };
    told_are = same;
  }

  -- nothing was dropped
  pub DropsMore-none : ((s : S) → runs s [] s) → (s : Receiving S) → DropsMore runs ends gives rule 0 s s
  DropsMore-none none s = record {
    steps = [];
    runs_are = none s.peers;
    dropped = [];
    count_is = refl;
    skips = [];
    drops = record {
      came = (refl, refl);
      none = All-nil (λ (x : Round). gives x.peer x.message ≡ None);
      skips_are = refl;
    };
    told_are = sym (append-nil s.told);
  }

  module _ (on : (s t u : S) (before after : List PipeStep) → runs s before t → runs t after u → runs s (before ++ after) u) (old mid new : Receiving S) (n : ℕ) where
    -- messages were dropped, and then one more
    pub DropsMore-more : DropsMore runs ends gives rule n old mid → DropsMore runs ends gives rule 1 mid new → DropsMore runs ends gives rule (n + 1) old new
    DropsMore-more d e = record {
      steps = d.steps ++ e.steps;
      runs_are = on old.peers mid.peers new.peers d.steps e.steps d.runs_are e.runs_are;
      dropped = d.dropped ++ e.dropped;
      count_is = length-append d.dropped e.dropped ∙ ap (λ x. x + length e.dropped) d.count_is ∙ ap (λ x. n + x) e.count_is;
      skips = d.skips ++ e.skips;
      drops = Drops-append gives rule (map ends old.turns) (map ends mid.turns) (map ends new.turns) d.dropped e.dropped d.steps e.steps d.skips e.skips d.drops e.drops;
      told_are = e.told_are ∙ ap (λ l. l ++ e.skips) d.told_are ∙ append_assoc old.told d.skips e.skips;
    }

    -- a receive that gives a message after so many drops
    pub Receives-given : (place : ℕ) (m : Frames) (duty duty' : Duty) → n < most_drops
        → DropsMore runs ends gives rule n old mid → GivesAt runs ends gives rule mid new place m duty'
        → ReceivesOver runs ends gives rule old new (got.Got (ends place).pair m) duty duty'
    Receives-given place m duty duty' few d g = record {
      steps = d.steps ++ g.steps;
      runs_are = on old.peers mid.peers new.peers d.steps g.steps d.runs_are g.runs_are;
      skips = d.skips;
      receives = record {
        dropped = d.dropped;
        front = d.steps;
        last = g.steps;
        mid = map ends mid.turns;
        drops = d.drops;
        ends = given (subst (λ x. x < most_drops) (sym d.count_is) few) g.one;
        steps_are = refl;
      };
      told_are = g.told_are ∙ d.told_are;
    }

    -- a receive that finds nothing more after so many drops
    pub Receives-again : (duty : Duty) → n < most_drops
        → DropsMore runs ends gives rule n old mid → FindsNone runs ends gives rule mid new
        → ReceivesOver runs ends gives rule old new (got.Refused recv.Again) duty duty
    Receives-again duty few d g = record {
      steps = d.steps ++ g.steps;
      runs_are = on old.peers mid.peers new.peers d.steps g.steps d.runs_are g.runs_are;
      skips = d.skips;
      receives = record {
        dropped = d.dropped;
        front = d.steps;
        last = g.steps;
        mid = map ends mid.turns;
        drops = d.drops;
        ends = again (subst (λ x. x < most_drops) (sym d.count_is) few) (g.none, refl) refl;
        steps_are = refl;
      };
      told_are = g.told_are ∙ d.told_are;
    }

  -- a receive that drops no more
  pub Receives-busy : (old new : Receiving S) (duty : Duty) → DropsMore runs ends gives rule most_drops old new
      → ReceivesOver runs ends gives rule old new (got.Refused recv.Busy) duty duty
  Receives-busy old new duty d = record {
    steps = d.steps;
    runs_are = d.runs_are;
    skips = d.skips;
    receives = record {
      dropped = d.dropped;
      front = d.steps;
      last = [];
      mid = map ends new.turns;
      drops = d.drops;
      ends = busy d.count_is refl refl refl refl;
      steps_are = sym (append-nil d.steps);
    };
    told_are = d.told_are;
  }
