-- What no event does.
use Rattle.std.proofs.Common.{◌≡◌, ℕ, List, [], ◌∷◌, Bool, true, false, Option, Some, None, length, subst}
use Rattle.std.specs.Prelude.{◌==◌, slice_get}
use Rattle.std.specs.List.{list_any}
use Rattle.spec_control.specs.Control.{Control}
use Rattle.spec_control.specs.Moments.{reaper_slots}
use Rattle.spec_run.specs.Standing.{ActorStanding, has_finished}
use Rattle.spec_run.specs.CoreEvents.{CoreEvent, NextLine, TakeFrom, AskRoot, Tick, Made, may_take, actor_with, StepsUnless, LineDoes, TakenBy, TakeDoes, EventDoes}
use Rattle.zq_world.specs.RefusedEvents.{RefusedEvents}

module _ {N S : Type 0} where
  none_made : (r : Made N S) → ◌≡◌ {A = List (Made N S)} [] (r ∷ []) → ⊥
  none_made r e = cc

  some_made : (m : Made N S) (made : List (Made N S)) → ◌≡◌ {A = List (Made N S)} (m ∷ made) [] → ⊥
  some_made m made e = cc

  two_made : (m n r : Made N S) (made : List (Made N S)) → ◌≡◌ {A = List (Made N S)} (m ∷ n ∷ made) (r ∷ []) → ⊥
  two_made m n r made e = cc

  -- ---- no event makes two deeds

  steps_twice : (finished : Bool) (actor : ℕ) (st : ActorStanding) (old new : List ActorStanding) (m n : Made N S) (made : List (Made N S)) → StepsUnless finished actor st old (m ∷ n ∷ made) new → ⊥
  steps_twice true actor st old new m n made s = some_made m (n ∷ made) s.0
  steps_twice false actor st old new m n made s = two_made m n _ made s.made_is

  line_twice : (actor : ℕ) (found : Option ActorStanding) (old new : List ActorStanding) (m n : Made N S) (made : List (Made N S)) → LineDoes actor found old (m ∷ n ∷ made) new → ⊥
  line_twice actor None old new m n made s = some_made m (n ∷ made) s.0
  line_twice actor (Some st) old new m n made s = steps_twice (has_finished st) actor st old new m n made s

  taken_twice : (found : Option ℕ) (has : Bool) (reaper slot : ℕ) (old new : List ActorStanding) (m n : Made N S) (made : List (Made N S)) → TakenBy found has reaper slot old (m ∷ n ∷ made) new → ⊥
  taken_twice (Some actor) has reaper slot old new m n made t = two_made m n _ made t.made_is
  taken_twice None true reaper slot old new m n made t = two_made m n _ made t.made_is
  taken_twice None false reaper slot old new m n made t = some_made m (n ∷ made) t.0

  take_twice : (may : Bool) (c : Control) (reaper slot : ℕ) (old new : List ActorStanding) (m n : Made N S) (made : List (Made N S)) → TakeDoes may c reaper slot old (m ∷ n ∷ made) new → ⊥
  take_twice true c reaper slot old new m n made t = taken_twice (actor_with slot 0 old) (list_any (λ k. k == slot) (reaper_slots c)) reaper slot old new m n made t
  take_twice false c reaper slot old new m n made t = some_made m (n ∷ made) t.0

  does_twice : (c : Control) (event : CoreEvent) (old new : List ActorStanding) (m n : Made N S) (made : List (Made N S)) → EventDoes 1 c event old (m ∷ n ∷ made) new → ⊥
  does_twice c (NextLine actor) old new m n made d = line_twice actor (slice_get old actor) old new m n made d
  does_twice c (TakeFrom slot) old new m n made d = take_twice (may_take c slot) c (length old) slot old new m n made d
  does_twice c AskRoot old new m n made d = two_made m n _ made d.made_is
  does_twice c (Tick now) old new m n made d = two_made m n _ made d.0

  -- ---- nor one where it may not, nor none where it may

  takes : (c : Control) (slot : ℕ) (b : Bool) (old new : List ActorStanding) (made : List (Made N S)) → may_take c slot ≡ b → EventDoes 1 c (TakeFrom slot) old made new → TakeDoes b c (length old) slot old made new
  takes c slot b old new made may d = subst (λ (p : Bool). TakeDoes p c (length old) slot old made new) may d

  takes_by : (c : Control) (slot : ℕ) (found : Option ℕ) (old new : List ActorStanding) (made : List (Made N S)) → actor_with slot 0 old ≡ found → TakeDoes true c (length old) slot old made new
      → TakenBy found (list_any (λ k. k == slot) (reaper_slots c)) (length old) slot old made new
  takes_by c slot found old new made is d = subst (λ (x : Option ℕ). TakenBy x (list_any (λ k. k == slot) (reaper_slots c)) (length old) slot old made new) is d

  pub refused : RefusedEvents N S
  refused = record {
    left_out = λ c st others new on d. none_made _ ((subst (λ (b : Bool). StepsUnless {N = N} {S = S} b 0 st (st ∷ others) [] new) on d).made_is);
    finished = λ c st others new m made over d. some_made m made ((subst (λ (b : Bool). StepsUnless b 0 st (st ∷ others) (m ∷ made) new) over d).0);
    taken = λ c slot old new m made may d. some_made m made ((takes c slot false old new (m ∷ made) may d).0);
    left_open = λ c slot actor old new may has d. none_made _ ((takes_by c slot (Some actor) old new [] has (takes c slot true old new [] may d)).made_is);
    left_root = λ c old new may none d. none_made _ ((takes_by c 0 None old new [] none (takes c 0 true old new [] may d)).made_is);
    unasked = λ c old new d. none_made _ d.made_is;
    untold = λ c now old new d. none_made _ d.0;
    twice = does_twice;
  }
