-- A send to the peers that match, by their places.
use Rattle.std.proofs.Common.{◌≡◌, ◌∙◌, ℕ, ◌<◌, ◌≤◌, Bool, List, [], ◌∷◌, filter, map, nat_eq, length, Some, refl, sym, ap, subst, All}
use Rattle.std.proofs.lemmas.Bool.{le-leb, lt-leb}
use Rattle.std.specs.List.{slice_get}
use Rattle.std.proofs.lemmas.List.Elements.{All-filter}
use Rattle.zq_base.specs.Message.{Frames}
use Rattle.spec_pattern.specs.PipeStep.{PipeStep}
use Rattle.spec_pattern.specs.TurnList.{End}
use Rattle.spec_pattern.specs.Topics.{Subscribers, matching, matches, topics_of}
use Rattle.spec_pattern.specs.Publishing.{SendsToMany, PublishesWhere, takers}
use Rattle.spec_pattern.specs.declared.answers.SendRefusal.TheVariants.{TooLarge}
use Rattle.spec_pattern.specs.declared.answers.SendAnswer.{SendAnswer}
use Rattle.spec_pattern.specs.declared.answers.SendAnswer.TheVariants.{Refused}
use Rattle.pub_sub.specs.Places.{subs_at, AreApart, TellsOf}
use Rattle.pub_sub.specs.Publishers.{PubState, Publishes}
use Rattle.pub_sub.specs.Many.{SendsMany}
use Rattle.pub_sub.proofs.PlaceLemmas.{takers-subs_at}
use Rattle.std.specs.Map.{keys_of}

module _ {S : Type 0} (runs : S → List PipeStep → S → Type 0) (ends : ℕ → End) (writable : ℕ → Bool) where
  -- a message that fits goes to the peers that match
  pub Publishes-many : (m : Frames) (old new : S) (p : PubState) (answer : SendAnswer) (frame : List ℕ) (places : List ℕ) → length m ≤ 1023 → slice_get m 0 ≡ Some frame
      → places ≡ filter writable (matching nat_eq p.subs frame) → SendsMany runs ends m old new places answer → Publishes runs ends writable m old new p answer
  Publishes-many m old new p answer frame places few first are s = record {
    steps = s.steps;
    runs_are = s.runs_are;
    step = λ can_write tells apart.
        subst (λ b. PublishesWhere b can_write (subs_at ends p.subs) m s.steps answer) (sym (le-leb (length m) 1023 few))
        (subst (λ es. SendsToMany m es s.steps answer) (ap (map ends) are ∙ by can_write tells apart m first) s.sends);
  }
    where
      by : (can_write : End → Bool) → TellsOf can_write ends writable (keys_of p.subs) → AreApart ends (keys_of p.subs)
          → (frames : Frames) → slice_get frames 0 ≡ Some frame → map ends (filter writable (matching nat_eq p.subs frame)) ≡ takers can_write (subs_at ends p.subs) frames
      by can_write tells apart [] is = absurd (cc)
      by can_write tells apart (f ∷ fs) is =
          let e : f ≡ frame = cc in
          ap (λ x. map ends (filter writable (matching nat_eq p.subs x))) (sym e) ∙ sym (takers-subs_at ends can_write writable p.subs f fs tells apart)

  -- a message that fits no pipe is refused
  pub Publishes-too_large : (m : Frames) (old : S) (p : PubState) → runs old [] old → 1023 < length m → Publishes runs ends writable m old old p (Refused TooLarge)
  Publishes-too_large m old p none many = record {
    steps = [];
    runs_are = none;
    step = λ can_write tells apart.
        subst (λ b. PublishesWhere b can_write (subs_at ends p.subs) m [] (Refused TooLarge)) (sym (lt-leb (length m) 1023 many)) (refl, refl);
  }

-- what holds at all peers holds at those that match
pub All-matching : (P : ℕ → Type 0) (subs : Subscribers ℕ) (octets : List ℕ) → All P (keys_of subs) → All P (matching nat_eq subs octets)
All-matching P subs octets all = All-filter (λ p. matches (topics_of nat_eq subs p) octets) P (keys_of subs) all
