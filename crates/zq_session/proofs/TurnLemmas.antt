-- The parts of a turn with a link, from what begins them and what is done at the link.
use Rattle.std.proofs.Common.{◌≡◌, ℕ, Bool, true, false, List, [], ◌++◌, Option, Some, None, refl, sym, ap, subst, ◌∙◌, inl, inr}
use Rattle.std.specs.Prelude.{◌⊎◌, ◌||◌, is_some}
use Rattle.std.specs.List.{flat_map}
use Rattle.std.proofs.lemmas.List.Sums.{fold-append}
use Rattle.msg_pipe.specs.Known.{Known}
use Rattle.spec_pattern.specs.PipeStep.{PipeStep}
use Rattle.spec_control.specs.declared.end.EndState.TheVariants.{Gone, WaitDelimiter}
use Rattle.spec_control.specs.declared.end.Reason.TheVariants.{Linger}
use Rattle.spec_control.specs.declared.request.Req.TheVariants.{AskEnd, AskOver, OutputOver}
use Rattle.spec_link.specs.declared.due.Due.{Due}
use Rattle.spec_link.specs.declared.due.Due.TheVariants.{Request}
use Rattle.spec_link.specs.LinkAct.{LinkAct}
use Rattle.spec_link.specs.History.{Basis, SessionEvent, GaveUp, Standing, after, after_all}
use Rattle.spec_link.specs.Moving.{has_moved}
use Rattle.spec_link.specs.Turn.{DueOnce, Exactly, GivesUp, LingerIsOver, HasNoOutput, IsTold}
use Rattle.spec_link.specs.TurnParts.{GivesUpBy, Begins, BeginsAnd, Works, WritesAtLink, ReadsAtLink, LinkWritesAt, LinkReadsAt, IsLinkWrite, IsLinkRead}
use Rattle.zq_session.specs.declared.life.Life.{Life}
use Rattle.zq_session.specs.declared.course.Course.{Course}
use Rattle.link_side.specs.Kept.{Side}
use Rattle.link_side.proofs.PartLemmas.{adds_none}
use Rattle.zq_session.specs.Lives.{Story, basis_of, standing_of}
use Rattle.zq_session.specs.Courses.{HasStory, CourseStep, AtLinkBy, act_at}
use Rattle.zq_session.specs.Halves.{StepsRun, step_at}
use Rattle.zq_session.specs.Shown.{ShownBy}
use Rattle.zq_session.specs.Beginning.{CourseDoes, BeginsBy, IsCutPart}
use Rattle.zq_session.specs.LifeSteps.{GivesUpAt}
use Rattle.zq_session.specs.Moved.{MovesAt, MovesBy}
use Rattle.zq_session.specs.Turns.{TellsBy, IsToldBy, DoesBy}
use Rattle.zq_session.specs.Cuts.{WritesCut, ReadsCut, IsCutWriteAt, IsCutWrite, IsCutReadAt, IsCutRead}
use Rattle.zq_session.proofs.ShownLemmas.{shown_none}
use Rattle.zq_session.proofs.HalfLemmas.{no_steps}
use Rattle.zq_session.proofs.CourseLemmas.{more_of, no_due_acts, no_due_steps, basis_is, link_held}
use Rattle.zq_session.proofs.UnlinkedLemmas.{link_gone}
use Rattle.zq_session.proofs.StepLemmas.{course_on, course_same}
use Rattle.zq_session.proofs.BeginLemmas.{gives_none, begins_none}
use Rattle.zq_session.proofs.MovedLemmas.{moved_on, or_none}

-- ---- what begins a part leaves the link alone

due_link : (b : Basis) (s t : Standing) (P : Type 0) (x : Due) (events : List SessionEvent) → DueOnce s P x events → (after_all b t events).link ≡ t.link
due_link b s t P x events (inl e) = ap (λ (l : List SessionEvent). (after_all b t l).link) e.1
due_link b s t P x events (inr e) = ap (λ (l : List SessionEvent). (after_all b t l).link) e.1

gives_link : (b : Basis) (s : Standing) (P : Type 0) (events : List SessionEvent) → Exactly P (GivesUp b s) events → (after_all b s events).link ≡ s.link
gives_link b s P events (inl k) =
    ap (λ (l : List SessionEvent). (after_all b s l).link) k.1.1 ∙ due_link b s (after b s GaveUp) (s.state ≡ Some WaitDelimiter) (Request (AskEnd b.end Linger)) k.1.0 k.1.2
gives_link b s P events (inr k) = ap (λ (l : List SessionEvent). (after_all b s l).link) k.1

after_both : (b : Basis) (s : Standing) (xs ys : List SessionEvent) → after_all b s (xs ++ ys) ≡ after_all b (after_all b s xs) ys
after_both b s xs ys = fold-append (after b) s xs ys

gives_by_link : (b : Basis) (s : Standing) (now : ℕ) (events : List SessionEvent) → GivesUpBy b s now events → (after_all b s events).link ≡ s.link
gives_by_link b s now events (inl k) = gives_link b s (LingerIsOver b.linger s.told now) events k.1
gives_by_link b s now events (inr k) = due_link b s s (s.state ≡ Some WaitDelimiter) (Request (AskEnd b.end Linger)) events k.1

begins_link : (b : Basis) (s : Standing) (now : ℕ) (events : List SessionEvent) → Begins b s now events → (after_all b s events).link ≡ s.link
begins_link b s now events k =
    ap (λ (l : List SessionEvent). (after_all b s l).link) k.all
    ∙ ap (λ (x : Standing). x.link) (after_both b s k.gives (k.output ++ k.over) ∙ after_both b (after_all b s k.gives) k.output k.over)
    ∙ due_link b (after_all b s (k.gives ++ k.output)) (after_all b (after_all b s k.gives) k.output) ((IsTold s → ⊥) × (s.state ≡ Some Gone)) (Request (AskOver b.object)) k.over k.over_is
    ∙ due_link b (after_all b s k.gives) (after_all b s k.gives) (IsTold s × ((s.waits ≡ true) × HasNoOutput b (after_all b s k.gives))) (Request (OutputOver b.object)) k.output k.output_is
    ∙ gives_by_link b s now k.gives k.gives_up

writes_linked : (b : Basis) (s : Standing) (link : Option (List LinkAct)) (acts : List LinkAct) (now : ℕ) (events : List SessionEvent) → link ≡ Some acts → BeginsAnd b s now (WritesAtLink b now acts) events → LinkWritesAt b s link now events
writes_linked b s link acts now events e k = subst (λ (l : Option (List LinkAct)). LinkWritesAt b s l now events) (sym e) k

writes_none : (b : Basis) (s : Standing) (link : Option (List LinkAct)) (now : ℕ) → link ≡ None → LinkWritesAt b s link now []
writes_none b s link now e = subst (λ (l : Option (List LinkAct)). LinkWritesAt b s l now []) (sym e) refl

reads_linked : (b : Basis) (s : Standing) (link : Option (List LinkAct)) (acts : List LinkAct) (now : ℕ) (events : List SessionEvent) → link ≡ Some acts → Works (ReadsAtLink b now acts) s events → LinkReadsAt b s link now events
reads_linked b s link acts now events e k = subst (λ (l : Option (List LinkAct)). LinkReadsAt b s l now events) (sym e) k

reads_none : (b : Basis) (s : Standing) (link : Option (List LinkAct)) (now : ℕ) → link ≡ None → LinkReadsAt b s link now []
reads_none b s link now e = subst (λ (l : Option (List LinkAct)). LinkReadsAt b s l now []) (sym e) refl

cut_writes_linked : (b : Basis) (s : Standing) (link : Option (List LinkAct)) (acts : List LinkAct) (now : ℕ) (events : List SessionEvent) → link ≡ Some acts → IsCutPart b s now (WritesCut b acts) events → IsCutWriteAt b s link now events
cut_writes_linked b s link acts now events e k = subst (λ (l : Option (List LinkAct)). IsCutWriteAt b s l now events) (sym e) k

cut_reads_linked : (behind : Type 0) (b : Basis) (s : Standing) (link : Option (List LinkAct)) (acts : List LinkAct) (events : List SessionEvent) → link ≡ Some acts → (s.gave_up ≡ false) × ((behind × (events ≡ [])) ⊎ ReadsCut b acts s events)
    → IsCutReadAt behind b s link events
cut_reads_linked behind b s link acts events e k = subst (λ (l : Option (List LinkAct)). IsCutReadAt behind b s l events) (sym e) k

pub side_is : (o : Option Side) → is_some o ≡ true → (sd : Side) × (o ≡ Some sd)
side_is None e = absurd cc
side_is (Some sd) e = (sd, refl)

pub none_is : {T : Type 0} (o : Option T) → is_some o ≡ false → o ≡ None
none_is None e = refl
none_is (Some x) e = absurd cc

module _ {S O I N L : Type 0} (K : Known S O I N) (heard said : L → Option (List ℕ)) (faults stalls ends : L → ℕ) where
  pub told_same : (link : Option L) → IsToldBy heard said faults stalls ends link [] link
  told_same None = tt
  told_same (Some l) = record { said_is = adds_none (said l); heard_is = adds_none (heard l); shown_is = shown_none (faults l) (stalls l) (ends l) }

  told_at : (l l' : L) (link' : Option L) (acts : List LinkAct) → TellsBy heard said faults stalls ends l acts l' → (link' ≡ None) ⊎ (link' ≡ Some l') → IsToldBy heard said faults stalls ends (Some l) acts link'
  told_at l l' link' acts tells (inl none) = subst (λ (x : Option L). IsToldBy heard said faults stalls ends (Some l) acts x) (sym none) (l', tells)
  told_at l l' link' acts tells (inr some) = subst (λ (x : Option L). IsToldBy heard said faults stalls ends (Some l) acts x) (sym some) tells

  -- nothing is done
  does_none : (does : Basis → Standing → ℕ → List SessionEvent → Type 0) (now : ℕ) (c : Course) (link : Option L) (s : S) (i : Option I) (o : Option O) (p : Story) → HasStory c p → does (basis_of c.life p) (standing_of c.life p) now []
      → DoesBy K heard said faults stalls ends does now c c link link s i o s i o p
  does_none does now c link s i o p keeps did = record { events = []; did = did; step = course_same c c p refl refl keeps; steps = no_steps K s i o; told = told_same link }

  -- the same, by what the link is taken for
  link_as : (does : Basis → Standing → ℕ → List SessionEvent → Type 0) (now : ℕ) (old new : Course) (link link' : Option L) (s s' : S) (i i' : Option I) (o o' : Option O) (p : Story) → link' ≡ link
      → DoesBy K heard said faults stalls ends does now old new link link s i o s' i' o' p → DoesBy K heard said faults stalls ends does now old new link link' s i o s' i' o' p
  link_as does now old new link link' s s' i i' o o' p e d = subst (λ (x : Option L). DoesBy K heard said faults stalls ends does now old new link x s i o s' i' o' p) (sym e) d

  -- ---- with a link: what begins the writing part, and these works

  writes_with : (now : ℕ) (begun done moved : Bool) (old mid new : Course) (link link' : Option L) (s s' : S) (i i' : Option I) (o o' : Option O) (p : Story) (acts : List LinkAct) (begins : BeginsBy now begun old mid p) (works : List SessionEvent) → p.link ≡ Some acts
      → Works (λ t w. WritesAtLink (basis_of mid.life begins.step.story) now acts t w) (standing_of mid.life begins.step.story) works → done ≡ has_moved works → moved ≡ (begun || done) → CourseStep mid new begins.step.story works
      → StepsRun K (flat_map step_at works) s i o s' i' o' → IsToldBy heard said faults stalls ends link (flat_map act_at works) link'
      → DoesBy K heard said faults stalls ends (MovesBy moved IsLinkWrite) now old new link link' s i o s' i' o' p
  writes_with now begun done moved old mid new link link' s s' i i' o o' p acts begins works is does moves em step steps told =
      let b = basis_of old.life p in
      let st = standing_of old.life p in
      let first = begins.events in
      let q = begins.step.story in
      let basis = basis_is old.life mid.life p q begins.step.same begins.step.opts_is begins.step.interval_is in
      record {
        events = first ++ works;
        did = (
          writes_linked b st p.link acts now (first ++ works) is (record {
            first = first;
            works = works;
            all = refl;
            begins = begins.does_is.0;
            works_as = subst (λ (x : Standing). Works (WritesAtLink b now acts) x works) (sym begins.step.after_is)
                (subst (λ (x : Basis). Works (WritesAtLink x now acts) (standing_of mid.life q) works) basis does);
          }),
          em ∙ moved_on first works begun done begins.does_is.1 moves,
        );
        step = course_on old mid new p first works begins.step step;
        steps = subst (λ (l : List PipeStep). StepsRun K l s i o s' i' o') (sym (more_of step_at first works [] (flat_map step_at works) (begins_none step_at no_due_steps refl b st now first begins.does_is.0) refl)) steps;
        told = subst (λ (l : List LinkAct). IsToldBy heard said faults stalls ends link l link') (sym (more_of act_at first works [] (flat_map act_at works) (begins_none act_at no_due_acts refl b st now first begins.does_is.0) refl)) told;
      }

  -- it gave up
  pub writes_given_up : (now : ℕ) (begun : Bool) (old new : Course) (link link' : Option L) (s : S) (i : Option I) (o : Option O) (p : Story) → link' ≡ link → is_some old.side ≡ true → HasStory old p → new.life.gave_up ≡ true → BeginsBy now begun old new p
      → DoesBy K heard said faults stalls ends (MovesBy begun IsLinkWrite) now old new link link' s i o s i o p
  writes_given_up now begun old new link link' s i o p is some keeps up begins =
      let sd = side_is old.side some in
      let l = link_held p.opts p.link old.side sd.0 sd.1 keeps.link in
      link_as (MovesBy begun IsLinkWrite) now old new link link' s s i i o o p is
      (writes_with now begun false begun old new new link link s s i i o o p l.0 begins [] l.1 (inl (up, refl)) refl (or_none begun) (course_same new new begins.step.story refl refl begins.step.keeps) (no_steps K s i o) (told_same link))

  -- or it works at its link
  pub writes_part : (now : ℕ) (begun done moved : Bool) (old mid new : Course) (link link' : Option L) (l l' : L) (s s' : S) (i i' : Option I) (o o' : Option O) (p : Story) → mid.life.gave_up ≡ false → (begins : BeginsBy now begun old mid p)
      → AtLinkBy K (MovesAt done (λ b. WritesAtLink b now)) mid new (said l) (said l') (heard l) (heard l') (ShownBy faults stalls ends l l') s i o s' i' o' begins.step.story → moved ≡ (begun || done) → (link' ≡ None) ⊎ (link' ≡ Some l') → link ≡ Some l
      → DoesBy K heard said faults stalls ends (MovesBy moved IsLinkWrite) now old new link link' s i o s' i' o' p
  writes_part now begun done moved old mid new link link' l l' s s' i i' o o' p up begins w em is was =
      let b = basis_of old.life p in
      let st = standing_of old.life p in
      let q = begins.step.story in
      let same : p.link ≡ q.link = sym (begins_link b st now begins.events begins.does_is.0) ∙ ap (λ (x : Standing). x.link) begins.step.after_is in
      subst (λ (x : Option L). DoesBy K heard said faults stalls ends (MovesBy moved IsLinkWrite) now old new x link' s i o s' i' o' p) (sym was)
      (writes_with now begun done moved old mid new (Some l) link' s s' i i' o o' p w.acts begins w.events (same ∙ w.is) (inr (up, w.did.0)) w.did.1 em w.step w.steps
      (told_at l l' link' (flat_map act_at w.events) (record { said_is = w.said_is; heard_is = w.heard_is; shown_is = w.shown_is }) is))

  -- memory cut it short as it began
  pub writes_cut : (now : ℕ) (old new : Course) (link link' : Option L) (s : S) (i : Option I) (o : Option O) → link' ≡ link → is_some old.side ≡ true → ((p : Story) → HasStory old p → CourseDoes (GivesUpAt now) old new p)
      → (p : Story) → HasStory old p → DoesBy K heard said faults stalls ends IsCutWrite now old new link link' s i o s i o p
  writes_cut now old new link link' s i o is some f p keeps =
      let k = f p keeps in
      let b = basis_of old.life p in
      let st = standing_of old.life p in
      let sd = side_is old.side some in
      let l = link_held p.opts p.link old.side sd.0 sd.1 keeps.link in
      link_as IsCutWrite now old new link link' s s i i o o p is
      (record {
        events = k.events;
        did = cut_writes_linked b st p.link l.0 now k.events l.1 (inl k.does_is);
        step = k.step;
        steps = subst (λ (l : List PipeStep). StepsRun K l s i o s i o) (sym (gives_none step_at no_due_steps refl now b st k.events k.does_is)) (no_steps K s i o);
        told = subst (λ (l : List LinkAct). IsToldBy heard said faults stalls ends link l link) (sym (gives_none act_at no_due_acts refl now b st k.events k.does_is)) (told_same link);
      })

  -- or at its link
  pub writes_cut_at : (now : ℕ) (begun : Bool) (old mid new : Course) (link : Option L) (l l' : L) (s s' : S) (i i' : Option I) (o o' : Option O) → mid.life.gave_up ≡ false → ((p : Story) → HasStory old p → BeginsBy now begun old mid p)
      → ((p : Story) → HasStory mid p → AtLinkBy K WritesCut mid new (said l) (said l') (heard l) (heard l') (ShownBy faults stalls ends l l') s i o s' i' o' p) → link ≡ Some l
      → (p : Story) → HasStory old p → DoesBy K heard said faults stalls ends IsCutWrite now old new link (Some l') s i o s' i' o' p
  writes_cut_at now begun old mid new link l l' s s' i i' o o' up f g was p keeps =
      let begins = f p keeps in
      let w = g begins.step.story begins.step.keeps in
      let b = basis_of old.life p in
      let st = standing_of old.life p in
      let first = begins.events in
      let works = w.events in
      let q = begins.step.story in
      let basis = basis_is old.life mid.life p q begins.step.same begins.step.opts_is begins.step.interval_is in
      let same : p.link ≡ q.link = sym (begins_link b st now first begins.does_is.0) ∙ ap (λ (x : Standing). x.link) begins.step.after_is in
      subst (λ (x : Option L). DoesBy K heard said faults stalls ends IsCutWrite now old new x (Some l') s i o s' i' o' p) (sym was)
      (record {
        events = first ++ works;
        did = cut_writes_linked b st p.link w.acts now (first ++ works) (same ∙ w.is) (inr (record {
          first = first;
          works = works;
          all = refl;
          begins = begins.does_is.0;
          up = ap (λ (x : Standing). x.gave_up) begins.step.after_is ∙ up;
          works_as = subst (λ (x : Standing). WritesCut b w.acts x works) (sym begins.step.after_is)
              (subst (λ (x : Basis). WritesCut x w.acts (standing_of mid.life q) works) basis w.did);
        }));
        step = course_on old mid new p first works begins.step w.step;
        steps = subst (λ (l : List PipeStep). StepsRun K l s i o s' i' o') (sym (more_of step_at first works [] (flat_map step_at works) (begins_none step_at no_due_steps refl b st now first begins.does_is.0) refl)) w.steps;
        told = subst (λ (x : List LinkAct). IsToldBy heard said faults stalls ends (Some l) x (Some l')) (sym (more_of act_at first works [] (flat_map act_at works) (begins_none act_at no_due_acts refl b st now first begins.does_is.0) refl))
            (record { said_is = w.said_is; heard_is = w.heard_is; shown_is = w.shown_is });
      })

  pub writes_not : (moved : Bool) (now : ℕ) (c : Course) (link : Option L) (s : S) (i : Option I) (o : Option O) (p : Story) → moved ≡ false → is_some c.side ≡ false → HasStory c p
      → DoesBy K heard said faults stalls ends (MovesBy moved IsLinkWrite) now c c link link s i o s i o p
  writes_not moved now c link s i o p em none keeps =
      does_none (MovesBy moved IsLinkWrite) now c link s i o p keeps (writes_none (basis_of c.life p) (standing_of c.life p) p.link now (link_gone p.opts p.link c.side (none_is c.side none) keeps.link), em)

  -- ---- the reading part

  pub reads_not : (moved : Bool) (now : ℕ) (c : Course) (link : Option L) (s : S) (i : Option I) (o : Option O) (p : Story) → moved ≡ false → is_some c.side ≡ false → HasStory c p
      → DoesBy K heard said faults stalls ends (MovesBy moved IsLinkRead) now c c link link s i o s i o p
  reads_not moved now c link s i o p em none keeps =
      does_none (MovesBy moved IsLinkRead) now c link s i o p keeps (reads_none (basis_of c.life p) (standing_of c.life p) p.link now (link_gone p.opts p.link c.side (none_is c.side none) keeps.link), em)

  pub reads_given_up : (moved : Bool) (now : ℕ) (c : Course) (link link' : Option L) (s : S) (i : Option I) (o : Option O) (p : Story) → link' ≡ link → moved ≡ false → is_some c.side ≡ true → c.life.gave_up ≡ true → HasStory c p
      → DoesBy K heard said faults stalls ends (MovesBy moved IsLinkRead) now c c link link' s i o s i o p
  reads_given_up moved now c link link' s i o p is em some up keeps =
      let sd = side_is c.side some in
      let l = link_held p.opts p.link c.side sd.0 sd.1 keeps.link in
      link_as (MovesBy moved IsLinkRead) now c c link link' s s i i o o p is
      (does_none (MovesBy moved IsLinkRead) now c link s i o p keeps (reads_linked (basis_of c.life p) (standing_of c.life p) p.link l.0 now [] l.1 (inl (up, refl)), em))

  -- behind what was left undone, which is no act
  caught_up : (old mid new : Course) (p : Story) (events : List SessionEvent) → mid.life ≡ old.life → mid.peer ≡ old.peer → HasStory mid p → CourseStep mid new p events → CourseStep old new p events
  caught_up old mid new p events el ep keeps step = course_on old mid new p [] events (course_same old mid p el ep keeps) step

  module _ (now : ℕ) (old mid new : Course) (el : mid.life ≡ old.life) (ep : mid.peer ≡ old.peer) (up : old.life.gave_up ≡ false) (heeds : (p : Story) → HasStory old p → HasStory mid p) where
    pub reads_part : (moved : Bool) (link link' : Option L) (l l' : L) (s s' : S) (o o' : Option O)
        → ((p : Story) (i : Option I) → HasStory mid p → AtLinkBy K (MovesAt moved (λ b. ReadsAtLink b now)) mid new (said l) (said l') (heard l) (heard l') (ShownBy faults stalls ends l l') s i o s' i o' p) → (link' ≡ None) ⊎ (link' ≡ Some l') → link ≡ Some l
        → (p : Story) (i : Option I) → HasStory old p → DoesBy K heard said faults stalls ends (MovesBy moved IsLinkRead) now old new link link' s i o s' i o' p
    reads_part moved link link' l l' s s' o o' f is was p i keeps =
        let keeps' = heeds p keeps in
        let w = f p i keeps' in
        subst (λ (x : Option L). DoesBy K heard said faults stalls ends (MovesBy moved IsLinkRead) now old new x link' s i o s' i o' p) (sym was)
        (record {
          events = w.events;
          did = (
            reads_linked (basis_of old.life p) (standing_of old.life p) p.link w.acts now w.events w.is
                (inr (up, subst (λ (x : Life). ReadsAtLink (basis_of x p) now w.acts (standing_of x p) w.events) el w.did.0)),
            w.did.1,
          );
          step = caught_up old mid new p w.events el ep keeps' w.step;
          steps = w.steps;
          told = told_at l l' link' (flat_map act_at w.events) (record { said_is = w.said_is; heard_is = w.heard_is; shown_is = w.shown_is }) is;
        })

    pub reads_cut_at : (behind : Type 0) (link : Option L) (l l' : L) (s s' : S) (o o' : Option O)
        → ((p : Story) (i : Option I) → HasStory mid p → AtLinkBy K ReadsCut mid new (said l) (said l') (heard l) (heard l') (ShownBy faults stalls ends l l') s i o s' i o' p) → link ≡ Some l
        → (p : Story) (i : Option I) → HasStory old p → DoesBy K heard said faults stalls ends (IsCutRead behind) now old new link (Some l') s i o s' i o' p
    reads_cut_at behind link l l' s s' o o' f was p i keeps =
        let keeps' = heeds p keeps in
        let w = f p i keeps' in
        subst (λ (x : Option L). DoesBy K heard said faults stalls ends (IsCutRead behind) now old new x (Some l') s i o s' i o' p) (sym was)
        (record {
          events = w.events;
          did = cut_reads_linked behind (basis_of old.life p) (standing_of old.life p) p.link w.acts w.events w.is
              (up, inr (subst (λ (x : Life). ReadsCut (basis_of x p) w.acts (standing_of x p) w.events) el w.did));
          step = caught_up old mid new p w.events el ep keeps' w.step;
          steps = w.steps;
          told = record { said_is = w.said_is; heard_is = w.heard_is; shown_is = w.shown_is };
        })

  -- memory left it undone still
  pub reads_cut : (behind : Type 0) (now : ℕ) (old new : Course) (link link' : Option L) (s : S) (o : Option O) → link' ≡ link → behind → is_some old.side ≡ true → old.life.gave_up ≡ false → new.life ≡ old.life → new.peer ≡ old.peer → ((p : Story) → HasStory old p → HasStory new p)
      → (p : Story) (i : Option I) → HasStory old p → DoesBy K heard said faults stalls ends (IsCutRead behind) now old new link link' s i o s i o p
  reads_cut behind now old new link link' s o is left some up el ep heeds p i keeps =
      let sd = side_is old.side some in
      let l = link_held p.opts p.link old.side sd.0 sd.1 keeps.link in
      link_as (IsCutRead behind) now old new link link' s s i i o o p is
      (record {
        events = [];
        did = cut_reads_linked behind (basis_of old.life p) (standing_of old.life p) p.link l.0 [] l.1 (up, inl (left, refl));
        step = course_same old new p el ep (heeds p keeps);
        steps = no_steps K s i o;
        told = told_same link;
      })
