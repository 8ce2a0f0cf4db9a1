-- A receive that drops what it doesn't give can be made: it drops at most as many as it may.
use Rattle.std.proofs.Common.{◌≡◌, ◌∙◌, ◌+◌, ◌<◌, inl, inr, ◌⊎◌, ℕ, zero, suc, List, [], ◌∷◌, ◌++◌, Bool, Option, Some, None, All, length, map, refl, sym, subst, ap, arith, append_assoc}
use Rattle.std.proofs.lemmas.List.Elements.{All-nil, All-cons}
use Rattle.zq_base.specs.Message.{Frames}
use Rattle.zq_base.specs.Ends.{PipeId}
use Rattle.spec_pattern.specs.Duty.{Duty}
use Rattle.spec_pattern.specs.PipeStep.{PipeStep}
use Rattle.spec_pattern.specs.TurnList.{End, NoneHasMessage}
use Rattle.spec_pattern.specs.Drops.{most_drops, Round, Given, ComeByTurn, skip_of, given, again, busy}
use Rattle.spec_pattern.specs.declared.answers.Rule.{Rule}
use Rattle.spec_pattern.specs.declared.answers.RecvRefusal.TheVariants as recv
use Rattle.spec_pattern.specs.declared.answers.RecvAnswer.TheVariants as got
use Rattle.spec_pattern.specs.Existence.{IsLive}
use Rattle.spec_pattern.proofs.InLemmas.{ComesBy}
use Rattle.spec_pattern.proofs.DropLemmas.{Ended, Dropped, EndsBy, DropsOn, DropsBy}
use Rattle.spec_pattern.proofs.LiveLemmas.{live_more, Made, made_none, made_two, made_as}
use Rattle.spec_pattern.proofs.MadeTurnLemmas.{comes_made}

module _ (gives : End → Frames → Option Given) (old : Duty) where
  abbrev DropsAlong : ℕ → List End → List PipeStep → Dropped → Type 0
  DropsAlong count turns steps o = DropsOn gives old count turns o.rounds steps o.ended

  -- the drops of a receive, and its end, apart
  record Apart (count : ℕ) (turns : List End) (rs : List Round) (steps : List PipeStep) (e : Ended) : Type 0 where
    front : List PipeStep
    last : List PipeStep
    mid : List End
    came : ComeByTurn turns rs front mid
    none : All (λ (r : Round). gives r.peer r.message ≡ None) rs
    ends : (total : ℕ) → total ≡ count + length rs → EndsBy gives old total mid last e
    steps_are : steps ≡ front ++ last

  apart : (count : ℕ) (turns : List End) (rs : List Round) (steps : List PipeStep) (e : Ended) → DropsOn gives old count turns rs steps e → Apart count turns rs steps e
  apart count turns [] steps e ends = record {
    front = [];
    last = steps;
    mid = turns;
    came = (refl, refl);
    none = All-nil (λ (r : Round). gives r.peer r.message ≡ None);
    ends = λ total is. subst (λ n. EndsBy gives old n turns steps e) (omega (arith, is)) ends;
    steps_are = refl;
  }
  apart count turns (r ∷ rs) steps e (mid, first, rest, comes, none, on, whole) =
      let more = apart (suc count) mid rs rest e on in
      record {
        front = first ++ more.front;
        last = more.last;
        mid = more.mid;
        came = (first, more.front, mid, comes, more.came, refl);
        none = All-cons (λ (s : Round). gives s.peer s.message ≡ None) r rs none more.none;
        ends = λ total is. more.ends total (omega (arith, is));
        steps_are = whole ∙ ap (λ l. first ++ l) more.steps_are ∙ sym (append_assoc first more.front more.last);
      }

  module _ (c : PipeId → ℕ) (w : End → Bool) where
    drops_made : (left count : ℕ) → count + left ≡ most_drops → (turns : List End) (past : List PipeStep) → IsLive c w past → Made c past (DropsAlong count turns)
    drops_made zero count all turns past live =
        made_none c past (DropsAlong count turns) (record { rounds = []; ended = record { answer = got.Refused recv.Busy; turns = turns; duty = old } })
        (busy (omega (arith, all)) refl refl refl refl)
    drops_made (suc left) count all turns past live = next (comes_made c w turns past live) (drops_made left (suc count) (omega (arith, all)))
      where
        less : count < most_drops
        less = omega (arith, all)

        heard : (r : Made c past (ComesBy turns)) → ((t : List End) (p : List PipeStep) → IsLive c w p → Made c p (DropsAlong (suc count) t))
            → (g : Option Given) → gives r.end_.0.peer r.end_.0.message ≡ g → Made c past (DropsAlong count turns)
        heard r rec (Some g) is =
            made_as c past (ComesBy turns) (DropsAlong count turns) r
            (record { rounds = []; ended = record { answer = got.Got r.end_.0.peer.pair g.message; turns = r.end_.1; duty = g.duty } })
            (given less (record { round = r.end_.0; comes = r.holds; message = g.message; gives_it = is; answer_is = refl }))
        heard r rec None is =
            let rest = rec r.end_.1 (past ++ r.steps) (live_more c w past r.steps live r.exact r.unsealing) in
            made_two c past (DropsAlong count turns) (DropsAlong (suc count) r.end_.1) r.steps
            (λ (o : Dropped). record { rounds = r.end_.0 ∷ o.rounds; ended = o.ended }) r.exact r.unsealing rest
            (r.end_.1, r.steps, rest.steps, r.holds, is, rest.holds, refl)

        next : Made c past (ComesBy turns) ⊎ Made c past (NoneHasMessage turns) → ((t : List End) (p : List PipeStep) → IsLive c w p → Made c p (DropsAlong (suc count) t))
            → Made c past (DropsAlong count turns)
        next (inl r) rec = heard r rec (gives r.end_.0.peer r.end_.0.message) refl
        next (inr r) rec =
            made_as c past (NoneHasMessage turns) (DropsAlong count turns) r
            (record { rounds = []; ended = record { answer = got.Refused recv.Again; turns = r.end_; duty = old } })
            (again less (r.holds, refl) refl)

-- a receive that drops can be made
pub dropping_made : (c : PipeId → ℕ) (w : End → Bool) (gives : End → Frames → Option Given) (rule : Rule) (old : Duty) (turns : List End) (past : List PipeStep) → IsLive c w past
    → Made c past (DropsBy gives rule old turns)
dropping_made c w gives rule old turns past live =
    let r = drops_made gives old c w most_drops 0 refl turns past live in
    let a = apart gives old 0 turns r.end_.rounds r.steps r.end_.ended r.holds in
    made_as c past (DropsAlong gives old 0 turns) (DropsBy gives rule old turns) r (map (skip_of rule) r.end_.rounds, r.end_.ended) (record {
      dropped = r.end_.rounds;
      front = a.front;
      last = a.last;
      mid = a.mid;
      drops = record { came = a.came; none = a.none; skips_are = refl };
      ends = a.ends (length r.end_.rounds) (omega arith);
      steps_are = a.steps_are;
    })
