-- What a receive of a ROUTER took, as its step.
use Rattle.std.proofs.Common.{◌≡◌, ℕ, List, ◌∷◌, map, All, Option, None, Some, Result, Ok, Err, refl, sym, ap, subst, ◌∙◌, IsPermutation}
use Rattle.std.specs.Option.{option_map}
use Rattle.std.proofs.lemmas.List.Sorted.{All-permutation, Contains-permutation}
use Rattle.zq_base.specs.Message.{Frames}
use Rattle.zq_base.specs.declared.ids.PairId.{PairId}
use Rattle.spec_pattern.specs.PipeStep.{PipeStep}
use Rattle.spec_pattern.specs.TurnList.{End}
use Rattle.spec_pattern.specs.declared.answers.RecvAnswer.TheVariants as got
use Rattle.spec_pattern.specs.declared.answers.RecvFault.{RecvFault}
use Rattle.spec_pattern.specs.declared.answers.RecvFault.TheVariants as recv
use Rattle.fair_queue.specs.FairQueue.{ReceivesByTurn}
use Rattle.fair_queue.specs.declared.turn.NextIn.TheVariants as next
use Rattle.spec_pattern.proofs.AtPlacesLemmas.{ends_around, ends_turned}
use Rattle.router_dealer.specs.PlaceNames.{AreApart, place_named}
use Rattle.router_dealer.specs.Named.{RouterState, Kept, HasName, AreOwnOrDrawn, GivesHeld, GivesNamed, RouterGot, TakesNamed, ReceivesNamed}
use Rattle.router_dealer.proofs.PlaceNamesLemmas.{named-names_at}
use Rattle.router_dealer.specs.NameTable.{IsReady, HasRoom}

-- a router after a turn
pub IsReady-turned : (r r' : RouterState) (room : ℕ) (back : List (List ℕ)) → IsReady r room back
    → r'.names ≡ r.names → r'.drawn ≡ r.drawn → IsPermutation r.ins r'.ins → IsReady r' room back
IsReady-turned r r' room back ready names drawn same = record {
  router = record {
    apart = subst AreApart (sym names) ready.router.apart;
    named = subst (λ m. All (HasName m) r'.ins) (sym names) (All-permutation (HasName r.names) r.ins r'.ins same ready.router.named);
    have_turns = λ q p h. Contains-permutation r.ins r'.ins p same (ready.router.have_turns q p (ap (λ m. place_named m q) (sym names) ∙ h));
    own_or_drawn = subst (AreOwnOrDrawn r'.drawn) (sym names) (subst (λ n. AreOwnOrDrawn n r.names) (sym drawn) ready.router.own_or_drawn);
  };
  has_room = subst (HasRoom room) (sym names) ready.has_room;
  no_frames = ready.no_frames;
}

-- what is given or kept leaves the turns
pub given_ins : (place : ℕ) (pair : PairId) (m : Frames) (r r' : RouterState) (result : Result (PairId × Frames) RecvFault)
    → GivesNamed place pair m r result r' → r'.ins ≡ r.ins
given_ins place pair m r r' (Ok item) h = ap (λ (s : RouterState). s.ins) h.4
given_ins place pair m r r' (Err (recv.Refused refusal)) h = absurd h
given_ins place pair m r r' (Err recv.OutOfMemory) h = ap (λ (s : RouterState). s.ins) h.2

module _ {S : Type 0} (runs : S → List PipeStep → S → Type 0) (ends : ℕ → End) (old new : S) (r : RouterState) (inside turns' : List ℕ) (view_is : inside ≡ r.ins)
    (place : ℕ) (m : Frames) (took : ReceivesByTurn runs ends old new inside (next.Got place m) turns') (pair : PairId) (pair_is : pair ≡ (ends place).pair) where
  -- a message that was taken by turn, behind its peer's name
  got_named : (name : List ℕ) → place_named r.names name ≡ Some place → RouterGot runs ends old new r (got.Got pair (name ∷ m)) turns'
  got_named name found =
      let s = took.next in
      record {
        steps = took.steps;
        runs_are = took.runs_are;
        step = record {
          body = m;
          by_turn = record {
            before = map ends s.before;
            peer = ends place;
            after = map ends s.after;
            looks = s.looks;
            turns_are = ends_around ends s.before s.after r.ins place (sym view_is ∙ s.turns_are);
            looks_are = s.looks_are;
            steps_are = s.steps_are;
            from_is = pair_is;
            new_is = ends_turned ends s.before s.after turns' place s.new_is;
          };
          name = name;
          name_is = named-names_at ends r.names name ∙ ap (option_map ends) found;
          message_is = refl;
        };
      }

  -- is given, or kept
  pub Takes-given : (between r' : RouterState) (result : Result (PairId × Frames) RecvFault)
      → between.names ≡ r.names → between.kept ≡ None → between.ins ≡ turns' → GivesNamed place pair m between result r'
      → TakesNamed runs ends old new r result r'
  Takes-given between r' (Ok item) names kept ins h =
      let found = ap (λ n. place_named n h.0) (sym names) ∙ h.1 in (
        subst (λ p. RouterGot runs ends old new r (got.Got p item.1) r'.ins) (sym h.2)
            (subst (λ fs. RouterGot runs ends old new r (got.Got pair fs) r'.ins) (sym h.3)
            (subst (RouterGot runs ends old new r (got.Got pair (h.0 ∷ m))) (sym (ap (λ (s : RouterState). s.ins) h.4 ∙ ins)) (got_named h.0 found))),
        ap (λ (s : RouterState). s.kept) h.4 ∙ kept,
      )
  Takes-given between r' (Err (recv.Refused refusal)) names kept ins h = absurd h
  Takes-given between r' (Err recv.OutOfMemory) names kept ins h =
      let found = ap (λ n. place_named n h.0) (sym names) ∙ h.1 in (
        record { pair = pair; message = h.0 ∷ m },
        subst (RouterGot runs ends old new r (got.Got pair (h.0 ∷ m))) (sym (ap (λ (s : RouterState). s.ins) h.2 ∙ ins)) (got_named h.0 found),
        ap (λ (s : RouterState). s.kept) h.2,
      )

-- ---- a message that is kept comes first

abbrev after_giving : RouterState → Option Kept → RouterState
after_giving r k = record r { kept = k }

module _ {S : Type 0} (E : Type 0) (runs : S → List PipeStep → S → Type 0) (ends : ℕ → End) (s : S) (r0 r : RouterState) (view_is : r0 ≡ r) (left : Option Kept) where
  -- it is given
  pub Receives-held : (found : Option (PairId × Frames)) (item : PairId × Frames) → found ≡ Some item → GivesHeld {E = E} r0.kept (Ok found) left
      → ReceivesNamed runs ends s s r r.kept (Ok item) (record r0 { kept = left })
  Receives-held found item is gives =
      subst (λ (q : RouterState). ReceivesNamed runs ends s s q q.kept (Ok item) (after_giving r0 left)) view_is
      (by r0.kept (subst (λ o. GivesHeld {E = E} r0.kept (Ok o) left) is gives))
    where
      by : (k : Option Kept) → GivesHeld {E = E} k (Ok (Some item)) left → ReceivesNamed runs ends s s r0 k (Ok item) (after_giving r0 left)
      by None h = absurd h
      by (Some k) h = (refl, refl, h)

  -- or stays for want of memory
  pub Receives-want : (e : E) → GivesHeld {E = E} r0.kept (Err e) left → ReceivesNamed runs ends s s r r.kept (Err recv.OutOfMemory) (record r0 { kept = left })
  Receives-want e gives =
      subst (λ (q : RouterState). ReceivesNamed runs ends s s q q.kept (Err recv.OutOfMemory) (after_giving r0 left)) view_is (by r0.kept gives)
    where
      by : (k : Option Kept) → GivesHeld {E = E} k (Err e) left → ReceivesNamed runs ends s s r0 k (Err recv.OutOfMemory) (after_giving r0 left)
      by None h = absurd h
      by (Some k) h = (refl, refl, (refl, h))

  -- where none is kept a message is taken
  pub Receives-next : (found : Option (PairId × Frames)) → found ≡ None → GivesHeld {E = E} r0.kept (Ok found) left
      → (new : S) (result : Result (PairId × Frames) RecvFault) (r' : RouterState) → TakesNamed runs ends s new (record r0 { kept = left }) result r'
      → ReceivesNamed runs ends s new r r.kept result r'
  Receives-next found is gives new result r' takes =
      let none = by r0.kept (subst (λ o. GivesHeld {E = E} r0.kept (Ok o) left) is gives) in
      subst (λ k. ReceivesNamed runs ends s new r k result r') (sym (ap (λ (q : RouterState). q.kept) (sym view_is) ∙ none.0))
      (subst (λ q. TakesNamed runs ends s new q result r') (ap (after_giving r0) (none.1 ∙ sym none.0) ∙ view_is) takes)
    where
      by : (k : Option Kept) → GivesHeld {E = E} k (Ok None) left → (k ≡ None) × (left ≡ None)
      by None h = (refl, h)
      by (Some k) h = absurd h
