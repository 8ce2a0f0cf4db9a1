-- A look, by the history of a session.
use Rattle.std.proofs.Common.{◌≡◌, List, Option, sym, subst}
use Rattle.std.specs.List.{flat_map}
use Rattle.msg_pipe.specs.Known.{Known}
use Rattle.spec_link.specs.History.{Basis, SessionEvent, Standing}
use Rattle.spec_link.specs.Turn.{Looks}
use Rattle.zq_session.specs.declared.life.Asked.{Asked}
use Rattle.zq_session.specs.declared.course.Course.{Course}
use Rattle.zq_session.specs.Lives.{Story, standing_of}
use Rattle.zq_session.specs.Courses.{HasStory}
use Rattle.zq_session.specs.Halves.{step_at}
use Rattle.zq_session.specs.Unlinked.{HalvesDo}
use Rattle.zq_session.specs.Sessions.{SessionState, HasLived}
use Rattle.zq_session.specs.Looking.{LooksOn}
use Rattle.zq_session.proofs.HalfLemmas.{steps_keep}
use Rattle.zq_session.proofs.SessionLemmas.{the_state, lived_step}

module _ {S O I N : Type 0} (K : Known S O I N) where
  looks_on : (old new : Course) (g : Asked) (s s' : S) (i i' : Option I) (o : Option O) → ((p : Story) (q : Option O) → HasStory old p → HalvesDo K Looks old new s i q s' i' p)
      → (b : Basis) (history : List SessionEvent) → HasLived b history (the_state old g i o) → LooksOn K b history (the_state old g i o) (the_state new g i' o) s s'
  looks_on old new g s s' i i' o f b history lived =
      let p = lived.0 in
      let t = f p o lived.3 in
      let events = t.course.events in
      record {
        events = events;
        looks = subst (λ (x : Standing). Looks b x events) (sym lived.2) (subst (λ (x : Basis). Looks x (standing_of old.life p) events) lived.1 t.course.does_is);
        lived = lived_step old new g i i' o o b history events lived t.course.step;
        steps = t.steps;
        there = steps_keep K (flat_map step_at events) s s' i i' o o t.steps;
      }

  pub looks_of : (old new : Course) (g : Asked) (x : SessionState O I) (s s' : S) (i i' : Option I) (o : Option O) → the_state old g i o ≡ x → ((p : Story) (q : Option O) → HasStory old p → HalvesDo K Looks old new s i q s' i' p)
      → (b : Basis) (history : List SessionEvent) → HasLived b history x → LooksOn K b history x (the_state new g i' o) s s'
  looks_of old new g x s s' i i' o e f =
      subst (λ (y : SessionState O I). (b : Basis) (history : List SessionEvent) → HasLived b history y → LooksOn K b history y (the_state new g i' o) s s') e
      (looks_on old new g s s' i i' o f)
