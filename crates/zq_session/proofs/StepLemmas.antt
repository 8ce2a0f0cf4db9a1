-- Steps of what a session keeps, of one story.
use Rattle.std.proofs.Common.{◌≡◌, List, [], ◌∷◌, ◌++◌, Bool, Option, Some, None, refl, sym, ap, subst, ◌∙◌, inl, inr, append_assoc}
use Rattle.std.specs.Prelude.{◌⊎◌, option_map}
use Rattle.std.proofs.lemmas.List.{append-nil}
use Rattle.zq_base.specs.Message.{Frames}
use Rattle.zq_base.specs.declared.options.EngineOpts.{EngineOpts}
use Rattle.spec_pattern.specs.PipeStep.{Take}
use Rattle.spec_link.specs.Rows.{ClosedLink}
use Rattle.spec_link.specs.LinkAct.{LinkAct, Step}
use Rattle.spec_link.specs.History.{Basis, SessionEvent, after_all}
use Rattle.spec_link.specs.Topics.{Topics, with_again}
use Rattle.zq_session.specs.declared.life.Life.{Life}
use Rattle.zq_session.specs.declared.course.Course.{Course}
use Rattle.link_side.specs.declared.behind.Behind.{Behind}
use Rattle.link_side.specs.declared.behind.Behind.TheVariants.{Nothing, Octets, Unsaid}
use Rattle.link_side.specs.Kept.{Kept, Side, Acts, IsKeptOf}
use Rattle.link_side.specs.Says.{IsFree}
use Rattle.zq_session.specs.Lives.{Story, basis_of, standing_of}
use Rattle.zq_session.specs.Courses.{IsOfLink, HasStory, CourseStep}
use Rattle.zq_session.specs.LifeSteps.{LifeStep, with_dues}
use Rattle.zq_session.specs.Noting.{PassesOn, IsHeldOf, AreTopics, unsaid_by, unsaid_of}
use Rattle.zq_session.proofs.NotingLemmas.{free_by, none_waits, held_free, topics_as, topics_passed, topics_ready}
use Rattle.zq_session.proofs.CourseLemmas.{after_on, dials_on, same_on, basis_is, link_held, link_some, link_waits, link_is, peer_on}
use Rattle.zq_session.proofs.UnlinkedLemmas.{link_gone}
use Rattle.zq_session.proofs.UnputLemmas.{does_these}
use Rattle.zq_session.proofs.LookLemmas.{does_looks}
use Rattle.zq_session.proofs.TallyLemmas.{tally_as}

-- ---- a step of a session's life alone

-- the same link
pub link_same : (opts opts' : EngineOpts) (link link' : Option (List LinkAct)) (side side' : Option Side) → opts' ≡ opts → link' ≡ link → side' ≡ side → IsOfLink opts link side → IsOfLink opts' link' side'
link_same opts opts' link link' side side' eo el es k =
    subst (λ (x : EngineOpts). IsOfLink x link' side') (sym eo)
    (subst (λ (x : Option (List LinkAct)). IsOfLink opts x side') (sym el) (subst (λ (x : Option Side). IsOfLink opts link x) (sym es) k))

abbrev pub course_step : (old new : Course) (p : Story) (events : List SessionEvent) → new.side ≡ old.side → new.dialler ≡ old.dialler → new.peer ≡ old.peer → new.topics ≡ old.topics → new.tally ≡ old.tally → LifeStep old.life new.life p events → HasStory old p → CourseStep old new p events
course_step old new p events es ed ep et ey step keeps = record {
  story = with_dues p step.dues;
  after_is = step.after_is;
  same = step.same;
  opts_is = refl;
  interval_is = refl;
  handed_is = refl;
  grows = step.grows;
  peer_is = inl (step.shaken_is, ep);
  keeps = record {
    due = step.due;
    link = link_same p.opts p.opts p.link p.link old.side new.side refl refl es keeps.link;
    dial = dials_on old.life new.life p (with_dues p step.dues) old.dialler new.dialler step.same ed refl refl refl keeps.dial;
    kind_is = keeps.kind_is ∙ sym step.same.kind_is;
    topics = topics_as old.life.dials new.life.dials p.opts p.link p.closed old.side new.side old.topics new.topics step.same.dials_is es et keeps.topics;
    tally = tally_as old.life.dials new.life.dials p.opts p.link p.closed old.tally new.tally step.same.dials_is ey keeps.tally;
  };
}

-- hearing what was read before is no act
pub story_heard : (c : Course) (sd sd' : Side) → c.side ≡ Some sd → IsFree sd.behind → IsFree sd'.behind → Acts sd.kept [] sd'.kept → (p : Story) → HasStory c p → HasStory (record c { side = Some sd' }) p
story_heard c sd sd' e free free' f p k =
    let l = link_some p.opts p.link c.side sd e free k.link in
    record {
      due = k.due;
      link = link_is p.opts p.link (Some sd') sd' l.0 refl l.1 free' (subst (λ (x : List LinkAct). IsKeptOf p.opts x sd'.kept) (append-nil l.0) (does_these p.opts sd.kept sd'.kept [] refl f l.0 l.2));
      dial = k.dial;
      kind_is = k.kind_is;
      topics = subst (λ (x : List Frames). AreTopics c.life.dials p.opts p.link p.closed x c.topics) (sym (none_waits sd'.behind free'))
          (subst (λ (x : List Frames). AreTopics c.life.dials p.opts p.link p.closed x c.topics) (none_waits sd.behind free) (subst (λ (x : Option Side). AreTopics c.life.dials p.opts p.link p.closed (unsaid_of x) c.topics) e k.topics));
      tally = k.tally;
    }

-- offering what was taken before is no act either
passed : (opts : EngineOpts) (acts : List LinkAct) (dials : Bool) (link : Option (List LinkAct)) (closed : List ClosedLink) (b : Behind) (k : Kept) (t t' : Option Topics) (new : Side) → PassesOn b k t new t' → IsHeldOf opts acts b k → AreTopics dials opts link closed (unsaid_by b) t
    → (IsHeldOf opts acts new.behind new.kept × IsFree new.behind) × AreTopics dials opts link closed (unsaid_by new.behind) t'
passed opts acts dials link closed Nothing k t t' new p held topics = (
  (subst (λ (x : Side). IsHeldOf opts acts x.behind x.kept) (sym p.0) held, subst (λ (x : Side). IsFree x.behind) (sym p.0) tt),
  subst (λ (x : Side). AreTopics dials opts link closed (unsaid_by x.behind) t') (sym p.0) (subst (λ (x : Option Topics). AreTopics dials opts link closed [] x) (sym p.1) topics),
)
passed opts acts dials link closed Octets k t t' new p held topics = (
  (subst (λ (x : Side). IsHeldOf opts acts x.behind x.kept) (sym p.0) held, subst (λ (x : Side). IsFree x.behind) (sym p.0) tt),
  subst (λ (x : Side). AreTopics dials opts link closed (unsaid_by x.behind) t') (sym p.0) (subst (λ (x : Option Topics). AreTopics dials opts link closed [] x) (sym p.1) topics),
)
passed opts acts dials link closed (Unsaid m) k t t' new p held topics =
    let free = free_by new.behind p.0 in
    let take = Step (Take held.1 m) in
    let taken = does_these opts k new.kept (take ∷ []) refl (p.1.0 take (record { said = refl; heard = refl; offered = refl; put = refl })) held.0 held.5 in (
      (
        held_free opts acts new.behind new.kept free (subst (λ (x : List LinkAct). IsKeptOf opts x new.kept) (append_assoc held.0 (take ∷ []) held.2 ∙ sym held.3)
            (does_looks opts new.kept held.2 held.4 (held.0 ++ take ∷ []) taken)),
        free,
      ),
      subst (λ (l : List Frames). AreTopics dials opts link closed l t') (sym (none_waits new.behind free)) (subst (λ (x : Option Topics). AreTopics dials opts link closed [] x) (sym p.1.1) (topics_passed dials opts link closed m t topics)),
    )

pub story_passed : (c : Course) (sd sd' : Side) (t : Option Topics) → c.side ≡ Some sd → PassesOn sd.behind sd.kept c.topics sd' t → (p : Story) → HasStory c p → HasStory (record c { side = Some sd'; topics = t }) p
story_passed c sd sd' t e passes p k =
    let l = link_held p.opts p.link c.side sd e k.link in
    let x = passed p.opts l.0 c.life.dials p.link p.closed sd.behind sd.kept c.topics t sd' passes l.2 (subst (λ (o : Option Side). AreTopics c.life.dials p.opts p.link p.closed (unsaid_of o) c.topics) e k.topics) in
    record {
      due = k.due;
      link = link_waits p.opts p.link (Some sd') sd' l.0 refl l.1 x.0.0;
      dial = k.dial;
      kind_is = k.kind_is;
      topics = x.1;
      tally = k.tally;
    }

-- the messages for the next link are made
pub story_ready : (c : Course) (t : Option Topics) → c.side ≡ None → t ≡ option_map (λ x. with_again x) c.topics → (p : Story) → HasStory c p → HasStory (record c { topics = t }) p
story_ready c t none e p k =
    let gone = link_gone p.opts p.link c.side none k.link in
    record {
      due = k.due;
      link = k.link;
      dial = k.dial;
      kind_is = k.kind_is;
      topics = subst (λ (x : Option Topics). AreTopics c.life.dials p.opts p.link p.closed (unsaid_of c.side) x) (sym e)
          (subst (λ (o : Option Side). AreTopics c.life.dials p.opts p.link p.closed (unsaid_of o) (option_map (λ x. with_again x) c.topics)) (sym none)
          (subst (λ (l : Option (List LinkAct)). AreTopics c.life.dials p.opts l p.closed [] (option_map (λ x. with_again x) c.topics)) (sym gone)
          (topics_ready c.life.dials p.opts p.closed c.topics
          (subst (λ (l : Option (List LinkAct)). AreTopics c.life.dials p.opts l p.closed [] c.topics) gone
          (subst (λ (o : Option Side). AreTopics c.life.dials p.opts p.link p.closed (unsaid_of o) c.topics) none k.topics)))));
      tally = k.tally;
    }

-- nothing was done, or they were made
pub story_kept : (c : Course) (sd sd' : Side) (t : Option Topics) → c.side ≡ Some sd → sd' ≡ sd → t ≡ c.topics → (p : Story) → HasStory c p → HasStory (record c { side = Some sd'; topics = t }) p
story_kept c sd sd' t e same et p k = record {
  due = k.due;
  link = link_same p.opts p.opts p.link p.link c.side (Some sd') refl refl (ap (λ (x : Side). Some x) same ∙ sym e) k.link;
  dial = k.dial;
  kind_is = k.kind_is;
  topics = topics_as c.life.dials c.life.dials p.opts p.link p.closed c.side (Some sd') c.topics t refl (ap (λ (x : Side). Some x) same ∙ sym e) et k.topics;
  tally = k.tally;
}

pub story_prepared : (c : Course) (t : Option Topics) → c.side ≡ None → (t ≡ c.topics) ⊎ (t ≡ option_map (λ x. with_again x) c.topics) → (p : Story) → HasStory c p → HasStory (record c { topics = t }) p
story_prepared c t none (inr e) p k = story_ready c t none e p k
story_prepared c t none (inl e) p k = record {
  due = k.due;
  link = k.link;
  dial = k.dial;
  kind_is = k.kind_is;
  topics = topics_as c.life.dials c.life.dials p.opts p.link p.closed c.side c.side c.topics t refl refl e k.topics;
  tally = k.tally;
}

-- steps behind steps
abbrev pub course_on : (a b c : Course) (p : Story) (xs ys : List SessionEvent) (x : CourseStep a b p xs) → CourseStep b c x.story ys → CourseStep a c p (xs ++ ys)
course_on a b c p xs ys x y =
    let basis = basis_is a.life b.life p x.story x.same x.opts_is x.interval_is in
    record {
      story = y.story;
      after_is = after_on (basis_of a.life p) (standing_of a.life p) (standing_of b.life x.story) (standing_of c.life y.story) xs ys x.after_is
          (subst (λ (k : Basis). after_all k (standing_of b.life x.story) ys ≡ standing_of c.life y.story) basis y.after_is);
      same = same_on a.life b.life c.life x.same y.same;
      opts_is = y.opts_is ∙ x.opts_is;
      interval_is = y.interval_is ∙ x.interval_is;
      handed_is = y.handed_is ∙ x.handed_is;
      grows = λ d k. y.grows d (x.grows d k);
      peer_is = peer_on a b c x.story.dues y.story.dues x.same.object_is y.grows x.peer_is y.peer_is;
      keeps = y.keeps;
    }

-- what is kept is kept still, of the same story
abbrev pub course_same : (old new : Course) (p : Story) → new.life ≡ old.life → new.peer ≡ old.peer → HasStory new p → CourseStep old new p []
course_same old new p e ep keeps = record {
  story = p;
  after_is = ap (λ (l : Life). standing_of l p) (sym e);
  same = record {
    object_is = ap (λ (l : Life). l.object) e;
    end_is = ap (λ (l : Life). l.end) e;
    kind_is = ap (λ (l : Life). l.kind) e;
    dials_is = ap (λ (l : Life). l.dials) e;
    linger_is = ap (λ (l : Life). l.linger) e;
    state_is = ap (λ (l : Life). l.state) e;
    told_is = ap (λ (l : Life). l.told) e;
    waits_is = ap (λ (l : Life). l.waits) e;
  };
  opts_is = refl;
  interval_is = refl;
  handed_is = refl;
  grows = λ d k. k;
  peer_is = inl (ap (λ (l : Life). l.asked.shaken) e, ep);
  keeps = keeps;
}
