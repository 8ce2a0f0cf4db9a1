-- What a part without a link does, and a look, from their steps.
use Rattle.std.proofs.Common.{◌≡◌, ℕ, Bool, true, false, List, [], ◌∷◌, ◌++◌, Option, Some, None, refl, sym, ap, subst, ◌∙◌, inl, inr}
use Rattle.std.specs.Prelude.{◌||◌, Contains}
use Rattle.std.specs.List.{flat_map}
use Rattle.msg_pipe.specs.Known.{Known}
use Rattle.msg_pipe.specs.Told.{front_step}
use Rattle.msg_pipe.specs.declared.pipes.Front.{Front}
use Rattle.msg_pipe.specs.declared.pipes.Front.TheVariants as front
use Rattle.spec_pattern.specs.PipeStep.{PipeStep, DelimiterLook, read_through}
use Rattle.spec_link.specs.declared.due.Due.TheVariants.{Delimiter}
use Rattle.spec_link.specs.LinkAct.{LinkAct, Step}
use Rattle.spec_link.specs.History.{Basis, SessionEvent, Acted, Standing}
use Rattle.spec_link.specs.Turn.{DueOnce, DelimiterIsDue, Looks, IsUnlinkedTurn}
use Rattle.spec_link.specs.TurnParts.{Works, BeginsAnd, DialsAt}
use Rattle.spec_link.specs.Moving.{has_moved}
use Rattle.zq_session.specs.declared.course.Course.{Course}
use Rattle.zq_session.specs.Lives.{Story, basis_of, standing_of}
use Rattle.zq_session.specs.LifeSteps.{LifeDoes, GivesUpAt, with_dues}
use Rattle.zq_session.specs.Halves.{StepsRun, step_at}
use Rattle.zq_session.specs.Courses.{HasStory, CourseStep}
use Rattle.zq_session.specs.Beginning.{CourseDoes, BeginsBy}
use Rattle.zq_session.specs.Unlinked.{LooksBy, LooksAt, IsCutDial, HalvesDo, UnlinkedBy, DialPartBy}
use Rattle.zq_session.specs.Noting.{AreLooks, unsaid_of}
use Rattle.zq_session.proofs.ListLemmas.{in_one}
use Rattle.zq_session.proofs.HalfLemmas.{one_step, no_steps, steps_on}
use Rattle.zq_session.proofs.NotingLemmas.{topics_as}
use Rattle.zq_session.proofs.CourseLemmas.{due_adds, more_of, no_due_steps, dials_on, once_as, basis_is}
use Rattle.zq_session.proofs.UnlinkedLemmas.{link_gone, found_by, found_one, true_by}
use Rattle.zq_session.proofs.MovedLemmas.{moved_on, or_none}
use Rattle.zq_session.proofs.LookLemmas.{is_look, link_looked, topics_looked, with_act}
use Rattle.zq_session.proofs.StepLemmas.{link_same, course_on, course_same}
use Rattle.zq_session.proofs.BeginLemmas.{gives_none, begins_none}
use Rattle.zq_session.proofs.TallyLemmas.{tally_as}
use Rattle.zq_session.proofs.CountingLemmas.{tally_looked}

dials_unlinked : (b : Basis) (s : Standing) (link : Option (List LinkAct)) (now : ℕ) (events : List SessionEvent) → link ≡ None → BeginsAnd b s now (λ t works. IsUnlinkedTurn b t now works) events → DialsAt b s link now events
dials_unlinked b s link now events e k = subst (λ (l : Option (List LinkAct)). DialsAt b s l now events) (sym e) k

module _ {S O I N : Type 0} (K : Known S O I N) where
  -- what begins it, and then these works
  dials_with : (now : ℕ) (begun done : Bool) (old mid new : Course) (s s' : S) (i i' : Option I) (o : Option O) (p : Story) → p.link ≡ None → (begins : BeginsBy now begun old mid p) (works : List SessionEvent)
      → Works (λ t w. IsUnlinkedTurn (basis_of mid.life begins.step.story) t now w) (standing_of mid.life begins.step.story) works → done ≡ has_moved works → CourseStep mid new begins.step.story works
      → StepsRun K (flat_map step_at works) s i o s' i' o → DialPartBy K now (begun || done) old new s i o s' i' p
  dials_with now begun done old mid new s s' i i' o p none begins works does moves step steps =
      let b = basis_of old.life p in
      let st = standing_of old.life p in
      let first = begins.events in
      let q = begins.step.story in
      let basis = basis_is old.life mid.life p q begins.step.same begins.step.opts_is begins.step.interval_is in
      record {
        course = record {
          events = first ++ works;
          does_is = (
            dials_unlinked b st p.link now (first ++ works) none (record {
              first = first;
              works = works;
              all = refl;
              begins = begins.does_is.0;
              works_as = subst (λ (x : Standing). Works (λ t w. IsUnlinkedTurn b t now w) x works) (sym begins.step.after_is)
                  (subst (λ (x : Basis). Works (λ t w. IsUnlinkedTurn x t now w) (standing_of mid.life q) works) basis does);
            }),
            moved_on first works begun done begins.does_is.1 moves,
          );
          step = course_on old mid new p first works begins.step step;
        };
        steps = subst (λ (l : List PipeStep). StepsRun K l s i o s' i' o) (sym (more_of step_at first works [] (flat_map step_at works) (begins_none step_at no_due_steps refl b st now first begins.does_is.0) refl)) steps;
      }

  -- it gave up
  pub dials_given_up : (now : ℕ) (begun : Bool) (old new : Course) (s : S) (i : Option I) (o : Option O) (p : Story) → old.side ≡ None → HasStory old p → new.life.gave_up ≡ true → BeginsBy now begun old new p
      → DialPartBy K now begun old new s i o s i p
  dials_given_up now begun old new s i o p none keeps up begins =
      subst (λ (m : Bool). DialPartBy K now m old new s i o s i p) (sym (or_none begun))
      (dials_with now begun false old new new s s i i o p (link_gone p.opts p.link old.side none keeps.link) begins [] (inl (up, refl)) refl (course_same new new begins.step.story refl refl begins.step.keeps) (no_steps K s i o))

  -- or it works
  pub dials_part : (now : ℕ) (begun done either : Bool) (old mid new : Course) (s s' : S) (i i' : Option I) (o : Option O) (p : Story) → old.side ≡ None → HasStory old p → mid.life.gave_up ≡ false → either ≡ (begun || done)
      → (begins : BeginsBy now begun old mid p) → UnlinkedBy K now done mid new s i o s' i' begins.step.story → DialPartBy K now either old new s i o s' i' p
  dials_part now begun done either old mid new s s' i i' o p none keeps up e begins w =
      subst (λ (m : Bool). DialPartBy K now m old new s i o s' i' p) (sym e)
      (dials_with now begun done old mid new s s' i i' o p (link_gone p.opts p.link old.side none keeps.link) begins w.course.events (inr (up, w.course.does_is.0)) w.course.does_is.1 w.course.step w.steps)

  -- memory cut it short as it began
  pub dials_cut : (now : ℕ) (old new : Course) (s : S) (i : Option I) → ((p : Story) → HasStory old p → CourseDoes (GivesUpAt now) old new p) → (p : Story) (o : Option O) → HasStory old p → HalvesDo K (IsCutDial now) old new s i o s i p
  dials_cut now old new s i f p o keeps = (let k = f p keeps in record {
    course = record { events = k.events; does_is = inl k.does_is; step = k.step };
    steps = subst (λ (l : List PipeStep). StepsRun K l s i o s i o) (sym (gives_none step_at no_due_steps refl now (basis_of old.life p) (standing_of old.life p) k.events k.does_is)) (no_steps K s i o);
  })

  -- or behind its look
  pub dials_cut_behind : (now : ℕ) (begun : Bool) (old mid new : Course) (s s' : S) (i i' : Option I) → mid.life.gave_up ≡ false → ((p : Story) → HasStory old p → BeginsBy now begun old mid p)
      → ((p : Story) (o : Option O) → HasStory mid p → HalvesDo K LooksAt mid new s i o s' i' p) → (p : Story) (o : Option O) → HasStory old p → HalvesDo K (IsCutDial now) old new s i o s' i' p
  dials_cut_behind now begun old mid new s s' i i' up f cut p o keeps =
      let begins = f p keeps in
      let w = cut begins.step.story o begins.step.keeps in
      let b = basis_of old.life p in
      let st = standing_of old.life p in
      let first = begins.events in
      let works = w.course.events in
      let q = begins.step.story in
      let basis = basis_is old.life mid.life p q begins.step.same begins.step.opts_is begins.step.interval_is in
      record {
        course = record {
          events = first ++ works;
          does_is = inr (record {
            first = first;
            works = works;
            all = refl;
            begins = begins.does_is.0;
            up = ap (λ (x : Standing). x.gave_up) begins.step.after_is ∙ up;
            works_as = subst (λ (x : Standing). LooksAt b x works) (sym begins.step.after_is)
                (subst (λ (x : Basis). LooksAt x (standing_of mid.life q) works) basis w.course.does_is);
          });
          step = course_on old mid new p first works begins.step w.course.step;
        };
        steps = subst (λ (l : List PipeStep). StepsRun K l s i o s' i' o) (sym (more_of step_at first works [] (flat_map step_at works) (begins_none step_at no_due_steps refl b st now first begins.does_is.0) refl)) w.steps;
      }

  -- ---- a look, with a link or without one

  pub looks_by : (old new : Course) (met : Bool) (found : Option Front) (s s' : S) (i i' : Option I) (o : Option O) → new.side ≡ old.side → new.dialler ≡ old.dialler → new.peer ≡ old.peer → new.topics ≡ old.topics → new.tally ≡ old.tally
      → (met ≡ true → found ≡ Some front.Delimiter) → (met ≡ false → found ≡ Some front.Delimiter → ⊥)
      → LooksBy K true found s i s' i' → LifeDoes old.life new.life (λ b s. DueOnce s (met ≡ true) (Delimiter b.end))
      → (p : Story) → HasStory old p → HalvesDo K Looks old new s i o s' i' p
  looks_by old new met None s s' i i' o es ed ep et ey my mn looks marks p keeps = (let e = looks.0 in absurd cc)
  looks_by old new met (Some f) s s' i i' o es ed ep et ey my mn looks marks p keeps =
      let inward = read_through old.life.end in
      let act = Step (front_step inward f) in
      let delim = Step (DelimiterLook inward) in
      let one : AreLooks (act ∷ []) = ((inward, front_step inward f, is_look inward f, refl), tt) in
      let q = record p { link = with_act act p.link } in
      let d = marks q keeps.due in
      let b = basis_of old.life p in
      let st = standing_of old.life p in
      let met_in : met ≡ true → Contains (act ∷ []) delim = λ e. found_one inward f (my e) in
      let in_met : Contains (act ∷ []) delim → met ≡ true = λ c. true_by met (λ e. mn e (ap (λ (x : Front). Some x) (found_by inward f (in_one act delim c.0 c.1 c.2)))) in
      let dues : DelimiterIsDue b st (act ∷ []) d.0 = once_as st (met ≡ true) (Contains (act ∷ []) delim) (Delimiter old.life.end) d.0 met_in in_met d.2 in
      record {
        course = record {
          events = Acted act ∷ d.0;
          does_is = (front_step inward f, is_look inward f, d.0, refl, dues);
          step = record {
            story = with_dues q d.1.dues;
            after_is = d.1.after_is;
            same = d.1.same;
            opts_is = refl;
            interval_is = refl;
            handed_is = refl;
            grows = d.1.grows;
            peer_is = inl (d.1.shaken_is, ep);
            keeps = record {
              due = d.1.due;
              link = link_same p.opts p.opts (with_act act p.link) (with_act act p.link) old.side new.side refl refl es (link_looked p.opts p.link old.side act one keeps.link);
              dial = dials_on old.life new.life p (with_dues q d.1.dues) old.dialler new.dialler d.1.same ed refl refl refl keeps.dial;
              kind_is = keeps.kind_is ∙ sym d.1.same.kind_is;
              topics = topics_as old.life.dials new.life.dials p.opts (with_act act p.link) p.closed old.side new.side old.topics new.topics d.1.same.dials_is es et
                  (topics_looked old.life.dials p.opts p.link p.closed (unsaid_of old.side) old.topics act one keeps.topics);
              tally = tally_as old.life.dials new.life.dials p.opts (with_act act p.link) p.closed old.tally new.tally d.1.same.dials_is ey (tally_looked old.life.dials p.opts p.closed old.tally p.link act one keeps.tally);
            };
          };
        };
        steps = steps_on K (front_step inward f ∷ []) (flat_map step_at d.0) s s' s' i i' i' o o o
            (one_step K (front_step inward f) s s' i i' o o (looks.1 inward o))
            (subst (λ (l : List PipeStep). StepsRun K l s' i' o s' i' o) (sym (due_adds step_at no_due_steps st (met ≡ true) (Delimiter old.life.end) d.0 d.2)) (no_steps K s' i' o));
      }
