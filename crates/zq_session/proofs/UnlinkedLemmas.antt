-- What a turn without a link does, from its steps.
use Rattle.std.proofs.Common.{◌≡◌, ℕ, ◌≤◌, Bool, true, false, List, [], ◌∷◌, ◌++◌, Option, Some, None, refl, sym, ap, subst, ◌∙◌, inl, inr, arith}
use Rattle.std.specs.Prelude.{◌⊎◌, ◌||◌, Contains, IsSome, OnErr, Result, Ok, Err}
use Rattle.std.specs.List.{flat_map}
use Rattle.std.proofs.lemmas.List.{append-nil}
use Rattle.std.proofs.lemmas.List.Concat.{flat_map-append}
use Rattle.zq_base.specs.Ends.{PipeId}
use Rattle.zq_base.specs.declared.options.EngineOpts.{EngineOpts}
use Rattle.msg_pipe.specs.Known.{Known}
use Rattle.msg_pipe.specs.Told.{front_step}
use Rattle.msg_pipe.specs.declared.pipes.Front.{Front}
use Rattle.msg_pipe.specs.declared.pipes.Front.TheVariants as front
use Rattle.spec_pattern.specs.PipeStep.{PipeStep, DelimiterLook, read_through}
use Rattle.spec_control.specs.declared.end.EndState.{EndState}
use Rattle.spec_link.specs.declared.due.Due.{Due}
use Rattle.spec_link.specs.declared.due.Due.TheVariants.{Delimiter}
use Rattle.spec_link.specs.LinkAct.{HostAnswer, Linked, NotReady, Failed, LinkAct, Step}
use Rattle.spec_link.specs.History.{Basis, SessionEvent, Acted, Dialled, IsDue, Standing, after_all, link_after, dial_at_after}
use Rattle.spec_link.specs.Turn.{DueOnce, Exactly, CanRead, IsTold, DelimiterIsDue, DialIsDue}
use Rattle.spec_link.specs.Moving.{has_moved, host_moves, step_moves}
use Rattle.zq_session.specs.declared.life.Life.{Life}
use Rattle.zq_session.specs.declared.course.Course.{Course}
use Rattle.link_side.specs.Kept.{Side, HasRun}
use Rattle.link_side.specs.declared.dialler.Dial.{Dial}
use Rattle.link_side.specs.Dials.{DiallerState, HostCounts, answer_of}
use Rattle.zq_session.specs.LifeView.{IsReadable}
use Rattle.zq_session.specs.Lives.{Story, AreDue, basis_of, standing_of}
use Rattle.zq_session.specs.Courses.{IsOfLink, IsOfDials, HasStory}
use Rattle.zq_session.specs.LifeSteps.{IsSame, LifeStep, LifeDoes, with_dues}
use Rattle.zq_session.specs.Halves.{StepsRun, step_at}
use Rattle.zq_session.specs.Unlinked.{DialsBy, IsDialDue, LooksAt, LooksBy, HalvesDo, UnlinkedBy, dial_events}
use Rattle.link_side.specs.Says.{IsFree}
use Rattle.zq_session.specs.Noting.{AreTopics, unsaid_of}
use Rattle.zq_session.proofs.NotingLemmas.{topics_as}
use Rattle.zq_session.proofs.HalfLemmas.{one_step, no_steps, steps_on}
use Rattle.zq_session.proofs.ListLemmas.{in_either, in_one, in_none, the_one}
use Rattle.zq_session.proofs.CourseLemmas.{after_on, due_adds, no_due_steps, dials_on, once_as, same_on, basis_is, link_none, link_is, peer_on}
use Rattle.zq_session.proofs.UnputLemmas.{of_nothing}
use Rattle.zq_session.proofs.LookLemmas.{is_look}
use Rattle.zq_session.proofs.MovedLemmas.{moved_on, moved_once, front_moved}
use Rattle.zq_session.proofs.TallyLemmas.{tally_as}
use Rattle.zq_session.specs.Tallies.{HasTally}

pub link_gone : (opts : EngineOpts) (link : Option (List LinkAct)) (side : Option Side) → side ≡ None → IsOfLink opts link side → link ≡ None
link_gone opts None side e k = refl
link_gone opts (Some acts) None e k = absurd k
link_gone opts (Some acts) (Some x) e k = absurd cc

by_none : (C : Story → Type 0) (p : Story) → p.link ≡ None → C (record p { link = None }) → C p
by_none C p e k = subst (λ (l : Option (List LinkAct)). C (record p { link = l })) (sym e) k

pub exactly_as : (P Q : Type 0) (f g : List SessionEvent → Type 0) (e : List SessionEvent) → (P → Q) → (Q → P) → (f e → g e) → Exactly P f e → Exactly Q g e
exactly_as P Q f g e to back on (inl k) = inl (to k.0, on k.1)
exactly_as P Q f g e to back on (inr k) = inr ((λ q. k.0 (back q)), k.1)

-- nothing becomes due where nothing was met
none_due : (s : Standing) (P : Type 0) (x : Due) (e : List SessionEvent) → (P → ⊥) → DueOnce s P x e → e ≡ []
none_due s P x e never (inl k) = absurd (never k.0.0)
none_due s P x e never (inr k) = k.1

due_not_acted : (x : Due) (act : LinkAct) → IsDue x ≡ Acted act → ⊥
due_not_acted x act e = absurd cc

no_act_due : (s : Standing) (P : Type 0) (x : Due) (e : List SessionEvent) (act : LinkAct) → DueOnce s P x e → Contains e (Acted act) → ⊥
no_act_due s P x e act (inl k) c = (let i = subst (λ (l : List SessionEvent). Contains l (Acted act)) k.1 c in due_not_acted x act (in_one (IsDue x) (Acted act) i.0 i.1 i.2))
no_act_due s P x e act (inr k) c = in_none (Acted act) (subst (λ (l : List SessionEvent). Contains l (Acted act)) k.1 c)

pub found_by : (pipe : PipeId) (f : Front) → Step (front_step pipe f) ≡ Step (DelimiterLook pipe) → f ≡ front.Delimiter
found_by pipe front.Message e = absurd cc
found_by pipe front.Empty e = absurd cc
found_by pipe front.Delimiter e = refl

acted_step : (x y : LinkAct) → Acted x ≡ Acted y → x ≡ y
acted_step x y e = cc

false_by : (b : Bool) → (b ≡ true → ⊥) → b ≡ false
false_by true never = absurd (never refl)
false_by false never = refl

no_front : {f : Front} → None ≡ Some f → ⊥
no_front e = absurd cc

pub true_by : (b : Bool) → (b ≡ false → ⊥) → b ≡ true
true_by true never = refl
true_by false never = absurd (never refl)

found_act : (pipe : PipeId) (f : Front) → Some f ≡ Some front.Delimiter → Step (front_step pipe f) ≡ Step (DelimiterLook pipe)
found_act pipe front.Message e = absurd cc
found_act pipe front.Empty e = absurd cc
found_act pipe front.Delimiter e = refl

pub found_one : (pipe : PipeId) (f : Front) → Some f ≡ Some front.Delimiter → Contains (Step (front_step pipe f) ∷ []) (Step (DelimiterLook pipe))
found_one pipe f e = subst (λ (x : LinkAct). Contains (Step (front_step pipe f) ∷ []) x) (found_act pipe f e) (the_one (Step (front_step pipe f)))

acted_in : (act : LinkAct) (dues : List SessionEvent) (other : LinkAct) → act ≡ other → Contains (Acted act ∷ dues) (Acted other)
acted_in act dues other e = (0, omega arith, ap (λ (x : LinkAct). Acted x) e)

not_in : (s : Standing) (P : Type 0) (x : Due) (act other : LinkAct) (dues : List SessionEvent) → DueOnce s P x dues → (act ≡ other → ⊥) → Contains (Acted act ∷ dues) (Acted other) → ⊥
not_in s P x act other dues once never c =
    elim (in_either (Acted act ∷ []) dues (Acted other) c) as (λ _. ⊥) [
      | inl k ↦ never (acted_step act other (in_one (Acted act) (Acted other) k.0 k.1 k.2))
      | inr k ↦ no_act_due s P x dues other once k
    ]

-- a look, without a link, changes nothing but what became due
look_step : (old new : Life) (p : Story) (act : LinkAct) (dues : List SessionEvent) → p.link ≡ None → LifeStep old new p dues → LifeStep old new p (Acted act ∷ dues)
look_step old new p act dues e step =
    by_none (λ q. LifeStep old new q dues → LifeStep old new q (Acted act ∷ dues)) p e
    (λ k. record { dues = k.dues; after_is = k.after_is; due = k.due; same = k.same; grows = k.grows; shaken_is = k.shaken_is }) step

dial_steps : (now : ℕ) (answer : Option HostAnswer) → flat_map step_at (dial_events now answer) ≡ []
dial_steps now None = refl
dial_steps now (Some a) = refl

differs : (m : Bool) → m ≡ false → m ≡ true → ⊥
differs m e f = absurd cc

can_read_as : (o q : Option EndState) → q ≡ o → IsReadable q → IsReadable o
can_read_as o q e k = subst (λ (x : Option EndState). IsReadable x) e k

-- a dial is due by the look, or by what it met
module _ (b c : Basis) (s t : Standing) (looks : List SessionEvent) (met : Bool) (now : ℕ) where
  wants : c.dials ≡ b.dials → t.dial_at ≡ s.dial_at → t.told ≡ s.told → t.state ≡ s.state
      → (met ≡ true → Contains looks (Acted (Step (DelimiterLook (read_through b.end))))) → (Contains looks (Acted (Step (DelimiterLook (read_through b.end)))) → met ≡ true)
      → IsDialDue c t met now → DialIsDue b s looks now
  wants ed em et es there back d = record {
    dials = sym ed ∙ d.dials;
    moment = subst (λ (n : ℕ). n ≤ now) em d.moment;
    wanted = elim d.wanted as (λ _. (IsTold s → ⊥) ⊎ (CanRead s × (Contains looks (Acted (Step (DelimiterLook (read_through b.end)))) → ⊥))) [
      | inl k ↦ inl (λ x. k (subst (λ (o : Option ℕ). IsSome o) (sym et) x))
      | inr k ↦ inr (can_read_as s.state t.state es k.0, λ x. differs met k.1 (back x))
    ];
  }

  wants_not : c.dials ≡ b.dials → t.dial_at ≡ s.dial_at → t.told ≡ s.told → t.state ≡ s.state
      → (met ≡ true → Contains looks (Acted (Step (DelimiterLook (read_through b.end)))))
      → DialIsDue b s looks now → IsDialDue c t met now
  wants_not ed em et es there d = record {
    dials = ed ∙ d.dials;
    moment = subst (λ (n : ℕ). n ≤ now) (sym em) d.moment;
    wanted = elim d.wanted as (λ _. (IsTold t → ⊥) ⊎ (CanRead t × (met ≡ false))) [
      | inl k ↦ inl (λ x. k (subst (λ (o : Option ℕ). IsSome o) et x))
      | inr k ↦ inr (can_read_as t.state s.state (sym es) k.0, false_by met (λ x. k.1 (there x)))
    ];
  }

module _ {S O I N : Type 0} (K : Known S O I N) where
  dialled : (now : ℕ) (old mid new : Course) (met moved : Bool) (faults faults' stalls stalls' : ℕ) (s s' : S) (i i' : Option I) (o : Option O) → old.side ≡ None → mid.side ≡ None → mid.dialler ≡ old.dialler → mid.peer ≡ old.peer → mid.topics ≡ old.topics → mid.tally ≡ old.tally
      → (looks : List SessionEvent) (p : Story) → p.link ≡ None → HasStory old p → (step : LifeStep old.life mid.life p looks)
      → LooksAt (basis_of old.life p) (standing_of old.life p) looks
      → (met ≡ true → Contains looks (Acted (Step (DelimiterLook (read_through old.life.end))))) → (Contains looks (Acted (Step (DelimiterLook (read_through old.life.end)))) → met ≡ true) → met ≡ has_moved looks
      → StepsRun K (flat_map step_at looks) s i o s' i' o → DialsBy now met moved mid new faults faults' stalls stalls' → UnlinkedBy K now (met || moved) old new s i o s' i' p
  dialled now old mid new met moved faults faults' stalls stalls' s s' i i' o eo em ed ep et ey looks p pl keeps step looked there back moves runs dials =
      let q = with_dues p step.dues in
      let b = basis_of old.life p in
      let mid_keeps : HasStory mid q = record {
        due = step.due;
        link = link_none p.opts p.link mid.side em pl;
        dial = dials_on old.life mid.life p q old.dialler mid.dialler step.same ed refl refl refl keeps.dial;
        kind_is = keeps.kind_is ∙ sym step.same.kind_is;
        topics = topics_as old.life.dials mid.life.dials p.opts p.link p.closed old.side mid.side old.topics mid.topics step.same.dials_is (em ∙ sym eo) et keeps.topics;
        tally = tally_as old.life.dials mid.life.dials p.opts p.link p.closed old.tally mid.tally step.same.dials_is ey keeps.tally;
      } in
      let d = dials.does q mid_keeps pl in
      let basis : basis_of mid.life q ≡ b = basis_is old.life mid.life p q step.same refl refl in
      let events = dial_events now dials.answer in
      record {
        course = record {
          events = looks ++ events;
          does_is = (
            record {
              looks = looks;
              dial = events;
              all = refl;
              looked = looked;
              dialled = exactly_as (IsDialDue (basis_of mid.life q) (standing_of mid.life q) met now) (DialIsDue b (standing_of old.life p) looks now) (λ e. (a : HostAnswer) × (e ≡ Dialled now a ∷ [])) (λ e. (a : HostAnswer) × (e ≡ Dialled now a ∷ [])) events
                  (wants b (basis_of mid.life q) (standing_of old.life p) (standing_of mid.life q) looks met now step.same.dials_is refl step.same.told_is step.same.state_is there back)
                  (wants_not b (basis_of mid.life q) (standing_of old.life p) (standing_of mid.life q) looks met now step.same.dials_is refl step.same.told_is step.same.state_is there)
                  (λ x. x) d.0;
            },
            moved_on looks events met moved moves dials.moved_is,
          );
          step = record {
            story = d.1.story;
            after_is = after_on b (standing_of old.life p) (standing_of mid.life q) (standing_of new.life d.1.story) looks events step.after_is
                (subst (λ (x : Basis). after_all x (standing_of mid.life q) events ≡ standing_of new.life d.1.story) basis d.1.after_is);
            same = same_on old.life mid.life new.life step.same d.1.same;
            opts_is = d.1.opts_is;
            interval_is = d.1.interval_is;
            handed_is = d.1.handed_is;
            grows = λ x c. d.1.grows x (step.grows x c);
            peer_is = peer_on old mid new step.dues d.1.story.dues step.same.object_is d.1.grows (inl (step.shaken_is, ep)) d.1.peer_is;
            keeps = d.1.keeps;
          };
        };
        steps = subst (λ (l : List PipeStep). StepsRun K l s i o s' i' o) (sym (flat_map-append step_at looks events ∙ ap (λ (l : List PipeStep). flat_map step_at looks ++ l) (dial_steps now dials.answer) ∙ append-nil (flat_map step_at looks))) runs;
      }

  -- a look, and what comes behind it
  looked_at : (R : Type 0) (old mid : Course) (can_read met : Bool) (found : Option Front) (s s' : S) (i i' : Option I) (o : Option O)
      → (can_read ≡ true → IsReadable old.life.state) → (can_read ≡ false → IsReadable old.life.state → ⊥)
      → (met ≡ true → found ≡ Some front.Delimiter) → (met ≡ false → found ≡ Some front.Delimiter → ⊥)
      → LooksBy K can_read found s i s' i' → LifeDoes old.life mid.life (λ b s. DueOnce s (met ≡ true) (Delimiter b.end))
      → (p : Story) → p.link ≡ None → HasStory old p
      → ((looks : List SessionEvent) (step : LifeStep old.life mid.life p looks)
      → LooksAt (basis_of old.life p) (standing_of old.life p) looks
      → (met ≡ true → Contains looks (Acted (Step (DelimiterLook (read_through old.life.end))))) → (Contains looks (Acted (Step (DelimiterLook (read_through old.life.end)))) → met ≡ true) → met ≡ has_moved looks
      → StepsRun K (flat_map step_at looks) s i o s' i' o → R) → R
  looked_at R old mid can_read met None s s' i i' o sure never my mn looks marks p pl keeps finish =
      let d = marks p keeps.due in
      let none : d.0 ≡ [] = none_due (standing_of old.life p) (met ≡ true) (Delimiter old.life.end) d.0 (λ e. no_front (my e)) d.2 in
      let step : LifeStep old.life mid.life p [] = subst (λ (l : List SessionEvent). LifeStep old.life mid.life p l) none d.1 in
      finish [] step (inr (never looks.0, refl))
      (λ e. absurd (no_front (my e))) (λ c. in_none (Acted (Step (DelimiterLook (read_through old.life.end)))) c) (false_by met (λ e. no_front (my e))) (looks.1.0, (looks.1.1, refl))
  looked_at R old mid can_read met (Some f) s s' i i' o sure never my mn looks marks p pl keeps finish =
      let d = marks p keeps.due in
      let inward = read_through old.life.end in
      let b = basis_of old.life p in
      let st = standing_of old.life p in
      let act = Step (front_step inward f) in
      let delim = Step (DelimiterLook inward) in
      let met_in : met ≡ true → Contains (act ∷ []) delim = λ e. found_one inward f (my e) in
      let in_met : Contains (act ∷ []) delim → met ≡ true = λ c. true_by met (λ e. mn e (ap (λ (x : Front). Some x) (found_by inward f (in_one act delim c.0 c.1 c.2)))) in
      let dues : DelimiterIsDue b st (act ∷ []) d.0 = once_as st (met ≡ true) (Contains (act ∷ []) delim) (Delimiter old.life.end) d.0 met_in in_met d.2 in
      let step : LifeStep old.life mid.life p (Acted act ∷ d.0) = look_step old.life mid.life p act d.0 pl d.1 in
      finish (Acted act ∷ d.0) step
      (inl (sure looks.0, (front_step inward f, is_look inward f, d.0, refl, dues)))
      (λ e. acted_in act d.0 delim (found_act inward f (my e)))
      (λ c. true_by met (λ e. not_in st (met ≡ true) (Delimiter old.life.end) act delim d.0 d.2 (λ x. mn e (ap (λ (y : Front). Some y) (found_by inward f x))) c))
      (moved_once st met (Delimiter old.life.end) (step_moves (front_step inward f)) d.0 (front_moved inward f met (λ e. my e) (λ e. mn e)) d.2)
      (steps_on K (front_step inward f ∷ []) (flat_map step_at d.0) s s' s' i i' i' o o o
      (one_step K (front_step inward f) s s' i i' o o (looks.1 inward o))
      (subst (λ (l : List PipeStep). StepsRun K l s' i' o s' i' o) (sym (due_adds step_at no_due_steps st (met ≡ true) (Delimiter old.life.end) d.0 d.2)) (no_steps K s' i' o)))

  pub unlinked_by : (now : ℕ) (old mid new : Course) (can_read met moved both : Bool) (found : Option Front) (faults faults' stalls stalls' : ℕ) (s s' : S) (i i' : Option I) (o : Option O)
      → old.side ≡ None → mid.side ≡ None → mid.dialler ≡ old.dialler → mid.peer ≡ old.peer → mid.topics ≡ old.topics → mid.tally ≡ old.tally
      → (can_read ≡ true → IsReadable old.life.state) → (can_read ≡ false → IsReadable old.life.state → ⊥)
      → (met ≡ true → found ≡ Some front.Delimiter) → (met ≡ false → found ≡ Some front.Delimiter → ⊥)
      → LooksBy K can_read found s i s' i' → LifeDoes old.life mid.life (λ b s. DueOnce s (met ≡ true) (Delimiter b.end))
      → DialsBy now met moved mid new faults faults' stalls stalls'
      → both ≡ (met || moved) → (p : Story) → HasStory old p → UnlinkedBy K now both old new s i o s' i' p
  unlinked_by now old mid new can_read met moved both found faults faults' stalls stalls' s s' i i' o eo em ed ep et ey sure never my mn looks marks dials eb p keeps =
      subst (λ (m : Bool). UnlinkedBy K now m old new s i o s' i' p) (sym eb)
      (by_none (λ q. HasStory old q → UnlinkedBy K now (met || moved) old new s i o s' i' q) p (link_gone p.opts p.link old.side eo keeps.link)
      (λ k. (let q = record p { link = None } in
      looked_at (UnlinkedBy K now (met || moved) old new s i o s' i' q) old mid can_read met found s s' i i' o sure never my mn looks marks q refl k (λ l step looked there back moves runs.
      dialled now old mid new met moved faults faults' stalls stalls' s s' i i' o eo em ed ep et ey l q refl k step looked there back moves runs dials))) keeps)

  -- memory wanted behind the look
  pub cut_unlinked : (old mid new : Course) (can_read met : Bool) (found : Option Front) (s s' : S) (i i' : Option I)
      → old.side ≡ None → mid.side ≡ None → mid.dialler ≡ old.dialler → mid.peer ≡ old.peer → mid.topics ≡ old.topics → mid.tally ≡ old.tally → new ≡ mid
      → (can_read ≡ true → IsReadable old.life.state) → (can_read ≡ false → IsReadable old.life.state → ⊥)
      → (met ≡ true → found ≡ Some front.Delimiter) → (met ≡ false → found ≡ Some front.Delimiter → ⊥)
      → LooksBy K can_read found s i s' i' → LifeDoes old.life mid.life (λ b s. DueOnce s (met ≡ true) (Delimiter b.end))
      → (p : Story) (o : Option O) → HasStory old p → HalvesDo K LooksAt old new s i o s' i' p
  cut_unlinked old mid new can_read met found s s' i i' eo em ed ep et ey same sure never my mn looks marks p o keeps =
      subst (λ (c : Course). HalvesDo K LooksAt old c s i o s' i' p) (sym same)
      (by_none (λ q. HasStory old q → HalvesDo K LooksAt old mid s i o s' i' q) p (link_gone p.opts p.link old.side eo keeps.link)
      (λ k. (let q = record p { link = None } in
      looked_at (HalvesDo K LooksAt old mid s i o s' i' q) old mid can_read met found s s' i i' o sure never my mn looks marks q refl k (λ l step looked there back moves runs.
      record {
        course = record {
          events = l;
          does_is = looked;
          step = record {
            story = with_dues q step.dues;
            after_is = step.after_is;
            same = step.same;
            opts_is = refl;
            interval_is = refl;
            handed_is = refl;
            grows = step.grows;
            peer_is = inl (step.shaken_is, ep);
            keeps = record {
              due = step.due;
              link = link_none p.opts None mid.side em refl;
              dial = dials_on old.life mid.life q (with_dues q step.dues) old.dialler mid.dialler step.same ed refl refl refl k.dial;
              kind_is = k.kind_is ∙ sym step.same.kind_is;
              topics = topics_as old.life.dials mid.life.dials p.opts None p.closed old.side mid.side old.topics mid.topics step.same.dials_is (em ∙ sym eo) et k.topics;
              tally = tally_as old.life.dials mid.life.dials p.opts None p.closed old.tally mid.tally step.same.dials_is ey k.tally;
            };
          };
        };
        steps = runs;
      }))) keeps)

-- ---- the dial

pub same_by : (old new : Life) → new ≡ old → IsSame old new
same_by old new e = record {
  object_is = ap (λ (l : Life). l.object) e;
  end_is = ap (λ (l : Life). l.end) e;
  kind_is = ap (λ (l : Life). l.kind) e;
  dials_is = ap (λ (l : Life). l.dials) e;
  linger_is = ap (λ (l : Life). l.linger) e;
  state_is = ap (λ (l : Life). l.state) e;
  told_is = ap (λ (l : Life). l.told) e;
  waits_is = ap (λ (l : Life). l.waits) e;
}

dial_moves : (now : ℕ) (a : HostAnswer) → has_moved (dial_events now (Some a)) ≡ host_moves a
dial_moves now Linked = refl
dial_moves now NotReady = refl
dial_moves now Failed = refl

dials_true : (b : Bool) (p : Story) (d : DiallerState) → IsOfDials b p (Some d) → (b ≡ true) × ((d.opts ≡ p.opts) × ((d.interval ≡ p.interval) × (d.dial_at ≡ p.dial_at)))
dials_true true p d k = (refl, k)
dials_true false p d k = absurd k

is_dialled : (b : Bool) (p : Story) (d : DiallerState) → b ≡ true → d.opts ≡ p.opts → d.interval ≡ p.interval → d.dial_at ≡ p.dial_at → IsOfDials b p (Some d)
is_dialled true p d e o i m = (o, (i, m))
is_dialled false p d e o i m = absurd cc

pub dials_by : (now : ℕ) (met moved : Bool) (old new : Course) (d d' : DiallerState) (a : HostAnswer) (faults faults' stalls stalls' : ℕ) → HostCounts (Some a) faults faults' stalls stalls'
    → new.life ≡ old.life → new.peer ≡ old.peer → old.dialler ≡ Some d → new.dialler ≡ Some d' → d.dial_at ≤ now → d' ≡ record d { dial_at = dial_at_after d.interval now a d.dial_at }
    → ((IsSome old.life.told → ⊥) ⊎ (IsReadable old.life.state × (met ≡ false)))
    → ((p : Story) → d.opts ≡ p.opts → p.link ≡ None → IsOfLink p.opts (link_after a p.link) new.side)
    → ((p : Story) → p.link ≡ None → AreTopics old.life.dials p.opts p.link p.closed (unsaid_of old.side) old.topics → AreTopics old.life.dials p.opts (link_after a p.link) p.closed (unsaid_of new.side) new.topics)
    → ((p : Story) → p.link ≡ None → HasTally old.life.dials p.opts p.link p.closed old.tally → HasTally old.life.dials p.opts (link_after a p.link) p.closed new.tally) → (IsSome new.side → Some a ≡ Some Linked) → moved ≡ host_moves a
    → DialsBy now met moved old new faults faults' stalls stalls'
dials_by now met moved old new d d' a faults faults' stalls stalls' counts el epeer eo en moment next wanted links tops counted linked moves = record {
  answer = Some a;
  counts = counts;
  does = λ p keeps none.
      let k = dials_true old.life.dials p d (subst (λ (o : Option DiallerState). IsOfDials old.life.dials p o) eo keeps.dial) in
      let q = record p { link = link_after a p.link; dial_at = dial_at_after p.interval now a p.dial_at } in
      let same = same_by old.life new.life el in (
        inl (record { dials = k.0; moment = subst (λ (n : ℕ). n ≤ now) k.1.1.1 moment; wanted = wanted }, (a, refl)),
        record {
          story = q;
          after_is = ap (λ (l : Life). standing_of l q) (sym el);
          same = same;
          opts_is = refl;
          interval_is = refl;
          handed_is = refl;
          grows = λ x c. c;
          peer_is = inl (ap (λ (l : Life). l.asked.shaken) el, epeer);
          keeps = record {
            due = subst (λ (l : Life). AreDue l l.asked p.dues) (sym el) keeps.due;
            link = links p k.1.0 none;
            dial = subst (λ (o : Option DiallerState). IsOfDials new.life.dials q o) (sym en) (is_dialled new.life.dials q d' (same.dials_is ∙ k.0)
                (ap (λ (x : DiallerState). x.opts) next ∙ k.1.0) (ap (λ (x : DiallerState). x.interval) next ∙ k.1.1.0)
                (ap (λ (x : DiallerState). x.dial_at) next ∙ ap (λ (n : ℕ). dial_at_after n now a d.dial_at) k.1.1.0 ∙ ap (λ (n : ℕ). dial_at_after p.interval now a n) k.1.1.1));
            kind_is = keeps.kind_is ∙ sym same.kind_is;
            topics = subst (λ (x : Bool). AreTopics x p.opts (link_after a p.link) p.closed (unsaid_of new.side) new.topics) (sym same.dials_is) (tops p none keeps.topics);
            tally = tally_as old.life.dials new.life.dials p.opts (link_after a p.link) p.closed new.tally new.tally same.dials_is refl (counted p none keeps.tally);
          };
        },
      );
  linked = linked;
  moved_is = moves ∙ sym (dial_moves now a);
}

pub links_fresh : (opts : EngineOpts) (link : Option (List LinkAct)) (side : Option Side) (sd : Side) (other : EngineOpts) → other ≡ opts → side ≡ Some sd → link ≡ Some [] → IsFree sd.behind → HasRun other [] sd.kept → IsOfLink opts link side
links_fresh opts link side sd other e es el free r = link_is opts link side sd [] es el free (of_nothing opts sd.kept (subst (λ (x : EngineOpts). HasRun x [] sd.kept) e r))

some_never : (side : Option Side) (a : HostAnswer) → side ≡ None → IsSome side → Some a ≡ Some Linked
some_never None a e k = absurd cc
some_never (Some x) a e k = absurd cc

pub no_side : (side : Option Side) (a : HostAnswer) → side ≡ None → IsSome side → Some a ≡ Some Linked
no_side side a e k = some_never side a e k

pub on_errs : {T E : Type 0} (r : Result T E) (X Y : Type 0) → (X → Y) → OnErr r X → OnErr r Y
on_errs (Ok x) X Y f k = tt
on_errs (Err e) X Y f k = f k

-- the counts of an answer, by another name of it
pub counts_as : {L : Type 0} (x y : Dial L) (faults faults' stalls stalls' : ℕ) → x ≡ y → HostCounts (answer_of x) faults faults' stalls stalls' → HostCounts (answer_of y) faults faults' stalls stalls'
counts_as x y faults faults' stalls stalls' e k = subst (λ (d : Dial _). HostCounts (answer_of d) faults faults' stalls stalls') e k
