-- What is done at a link, step by step.
use Rattle.std.proofs.Common.{◌≡◌, ℕ, Bool, false, List, [], ◌∷◌, ◌++◌, Option, Some, None, refl, sym, ap, subst, ◌∙◌, inl, inr}
use Rattle.std.specs.Prelude.{◌⊎◌, IsSome}
use Rattle.std.specs.List.{flat_map}
use Rattle.std.proofs.lemmas.List.Concat.{flat_map-append}
use Rattle.zq_base.specs.declared.options.Peer.{Peer}
use Rattle.msg_pipe.specs.Known.{Known}
use Rattle.spec_pattern.specs.PipeStep.{PipeStep}
use Rattle.spec_control.specs.declared.end.EndState.TheVariants.{Gone}
use Rattle.spec_control.specs.declared.end.Reason.TheVariants.{Link}
use Rattle.spec_control.specs.declared.request.Req.TheVariants.{AskEnd, AskOver}
use Rattle.spec_link.specs.declared.due.Due.{Due}
use Rattle.spec_link.specs.declared.due.Due.TheVariants.{Request}
use Rattle.spec_link.specs.declared.row.LinkEnd.{LinkEnd}
use Rattle.spec_link.specs.LinkAct.{LinkAct, said_of, heard_of}
use Rattle.spec_link.specs.History.{Basis, SessionEvent, Closed, Standing, after_all, later}
use Rattle.spec_link.specs.Turn.{DueOnce, PutsLast, IsWriteOnly, ShakenIsDue, ClosesLink}
use Rattle.link_side.specs.Kept.{Side, IsKeptOf}
use Rattle.link_side.specs.Calls.{Adds}
use Rattle.link_side.specs.Says.{IsFree}
use Rattle.spec_link.specs.Topics.{Topics}
use Rattle.zq_session.specs.declared.life.Life.{Life}
use Rattle.zq_session.specs.declared.course.Course.{Course}
use Rattle.zq_session.specs.Lives.{Story, AreDue, basis_of, standing_of}
use Rattle.zq_session.specs.LifeSteps.{with_dues}
use Rattle.zq_session.specs.Courses.{IsOfDials, HasStory, CourseStep, ShakeStep, AtLinkBy, act_at}
use Rattle.zq_session.specs.Ending.{AsksBy, DialsLater}
use Rattle.zq_session.specs.Halves.{StepsRun, step_in, step_at}
use Rattle.zq_session.specs.Noting.{behind_acts}
use Rattle.zq_session.specs.TopicSteps.{over_link}
use Rattle.zq_session.proofs.NotingLemmas.{topics_worked, topics_over}
use Rattle.zq_session.proofs.UnlinkedLemmas.{same_by}
use Rattle.zq_session.proofs.CourseLemmas.{acted, after_acts, steps_of_acts, acts_of_acts, more_of, dials_same, dials_on, link_is, link_none, once_by, dues_by}
use Rattle.zq_session.proofs.StepLemmas.{link_same}
use Rattle.zq_session.proofs.NotingLemmas.{topics_as}
use Rattle.zq_session.proofs.TallyLemmas.{tally_as}
use Rattle.zq_session.specs.Tallies.{HasTally}
use Rattle.zq_session.specs.declared.tally.Tally.{Tally}

-- ---- the acts among events

-- among these events stand these acts
pub record Adding (events : List SessionEvent) (acts : List LinkAct) : Type 0 where
  pub steps_are : flat_map step_at events ≡ flat_map step_in acts
  pub acts_are : flat_map act_at events ≡ acts

pub adding_acts : (acts : List LinkAct) → Adding (acted acts) acts
adding_acts acts = record { steps_are = steps_of_acts acts; acts_are = acts_of_acts acts }

pub adding_on : (xs ys : List SessionEvent) (a b : List LinkAct) → Adding xs a → Adding ys b → Adding (xs ++ ys) (a ++ b)
adding_on xs ys a b x y = record {
  steps_are = more_of step_at xs ys (flat_map step_in a) (flat_map step_in b) x.steps_are y.steps_are ∙ sym (flat_map-append step_in a b);
  acts_are = more_of act_at xs ys a b x.acts_are y.acts_are;
}

adding_nothing : Adding [] []
adding_nothing = record { steps_are = refl; acts_are = refl }

pub adding_due : (s : Standing) (P : Type 0) (x : Due) (events : List SessionEvent) → DueOnce s P x events → Adding events []
adding_due s P x events (inl e) = subst (λ (l : List SessionEvent). Adding l []) (sym e.1) (record { steps_are = refl; acts_are = refl })
adding_due s P x events (inr e) = subst (λ (l : List SessionEvent). Adding l []) (sym e.1) adding_nothing

pub adding_shaken : (b : Basis) (s : Standing) (acts : List LinkAct) (events : List SessionEvent) → ShakenIsDue b s acts events → Adding events []
adding_shaken b s acts events (inl e) = subst (λ (l : List SessionEvent). Adding l []) (sym e.3) (record { steps_are = refl; acts_are = refl })
adding_shaken b s acts events (inr e) = subst (λ (l : List SessionEvent). Adding l []) (sym e.1) adding_nothing

adding_closed : (now : ℕ) (cause : LinkEnd) (old new : Life) (p : Story) (a : AsksBy old new p) → Adding (Closed now cause ∷ (a.asks ++ a.over)) []
adding_closed now cause old new p a =
    let x = adding_due (standing_of old p) ((old.dials ≡ false) × (IsSome old.state × (old.state ≡ Some Gone → ⊥))) (Request (AskEnd old.end Link)) a.asks a.asks_are in
    let y = adding_due (after_all (basis_of old p) (standing_of old p) a.asks) (old.dials ≡ false) (Request (AskOver old.object)) a.over a.over_is in
    let z = adding_on a.asks a.over [] [] x y in
    record { steps_are = z.steps_are; acts_are = z.acts_are }

-- ---- steps

-- a session at its link
abbrev pub at_side : Course → Life → Option Peer → Side → Option Topics → Tally → Course
at_side c life peer side topics tally = record { life = life; side = Some side; topics = topics; dialler = c.dialler; peer = peer; tally = tally }

-- acts at its link
abbrev pub course_acts : (old new : Course) (sd sd' : Side) (p : Story) (acts more : List LinkAct) → old.side ≡ Some sd → new.side ≡ Some sd' → new.dialler ≡ old.dialler → new.life ≡ old.life → new.peer ≡ old.peer → IsFree sd.behind → IsFree sd'.behind
    → new.topics ≡ behind_acts more old.topics → IsKeptOf p.opts (acts ++ more) sd'.kept → HasTally old.life.dials p.opts (Some (acts ++ more)) p.closed new.tally → HasStory old (record p { link = Some acts }) → CourseStep old new (record p { link = Some acts }) (acted more)
course_acts old new sd sd' p acts more es en ed el ep fr fr1 et run ey k =
    let q = record p { link = Some acts } in
    let r = record p { link = Some (acts ++ more) } in
    let same = same_by old.life new.life el in
    record {
      story = r;
      after_is = after_acts (basis_of old.life q) (standing_of old.life q) acts more ∙ ap (λ (l : Life). standing_of l r) (sym el);
      same = same;
      opts_is = refl;
      interval_is = refl;
      handed_is = refl;
      grows = λ x d. d;
      peer_is = inl (ap (λ (l : Life). l.asked.shaken) el, ep);
      keeps = record {
        due = subst (λ (l : Life). AreDue l l.asked p.dues) (sym el) k.due;
        link = link_is p.opts (Some (acts ++ more)) new.side sd' (acts ++ more) en refl fr1 run;
        dial = dials_on old.life new.life q r old.dialler new.dialler same ed refl refl refl k.dial;
        kind_is = k.kind_is ∙ sym same.kind_is;
        topics = topics_worked old.life.dials new.life.dials p.opts acts more p.closed old.side new.side sd sd' old.topics new.topics es en same.dials_is fr fr1 et k.topics;
        tally = tally_as old.life.dials new.life.dials p.opts (Some (acts ++ more)) p.closed new.tally new.tally same.dials_is refl ey;
      };
    }

-- the handshake is said to be done, where that is due
abbrev pub course_shakes : (old new : Course) (p : Story) (events : List SessionEvent) → new.side ≡ old.side → new.dialler ≡ old.dialler → new.topics ≡ old.topics → new.tally ≡ old.tally → ShakeStep old.life new.life old.peer new.peer p events → HasStory old p → CourseStep old new p events
course_shakes old new p events es ed et ey step keeps = record {
  story = with_dues p step.dues;
  after_is = step.after_is;
  same = step.same;
  opts_is = refl;
  interval_is = refl;
  handed_is = refl;
  grows = step.grows;
  peer_is = step.peer_is;
  keeps = record {
    due = step.due;
    link = link_same p.opts p.opts p.link p.link old.side new.side refl refl es keeps.link;
    dial = dials_on old.life new.life p (with_dues p step.dues) old.dialler new.dialler step.same ed refl refl refl keeps.dial;
    kind_is = keeps.kind_is ∙ sym step.same.kind_is;
    topics = topics_as old.life.dials new.life.dials p.opts p.link p.closed old.side new.side old.topics new.topics step.same.dials_is es et keeps.topics;
    tally = tally_as old.life.dials new.life.dials p.opts p.link p.closed old.tally new.tally step.same.dials_is ey keeps.tally;
  };
}

-- its link is over
abbrev pub closed_story : ℕ → Story → List LinkAct → LinkEnd → Story
closed_story now p acts cause = record p { link = None; closed = p.closed ++ record { acts = acts; why = cause } ∷ []; dial_at = later now p.interval }

abbrev pub course_closes : (now : ℕ) (old new : Course) (sd : Side) (p : Story) (acts : List LinkAct) (cause : LinkEnd) → old.side ≡ Some sd → new.side ≡ None → IsFree sd.behind → new.peer ≡ old.peer → new.topics ≡ over_link old.topics → DialsLater now old new
    → HasTally old.life.dials p.opts None (p.closed ++ record { acts = acts; why = cause } ∷ []) new.tally → (a : AsksBy old.life new.life (closed_story now p acts cause)) → HasStory old (record p { link = Some acts }) → CourseStep old new (record p { link = Some acts }) (Closed now cause ∷ (a.asks ++ a.over))
course_closes now old new sd p acts cause es en fr ep et dials ey a k =
    let q = record p { link = Some acts } in
    let r = closed_story now p acts cause in
    record {
      story = with_dues r a.dues;
      after_is = a.after_is;
      same = a.same;
      opts_is = refl;
      interval_is = refl;
      handed_is = refl;
      grows = a.grows;
      peer_is = inl (a.shaken_is, ep);
      keeps = record {
        due = a.due;
        link = link_none p.opts None new.side en refl;
        dial = dials_same new.life.dials (record q { dial_at = later now p.interval }) (with_dues r a.dues) new.dialler refl refl refl
            (subst (λ (x : Bool). IsOfDials x (record q { dial_at = later now p.interval }) new.dialler) (sym a.same.dials_is) (dials old.life.dials q k.dial));
        kind_is = k.kind_is ∙ sym a.same.kind_is;
        topics = topics_over old.life.dials new.life.dials p.opts acts p.closed cause old.side new.side sd old.topics new.topics es en a.same.dials_is fr et k.topics;
        tally = tally_as old.life.dials new.life.dials p.opts None (p.closed ++ record { acts = acts; why = cause } ∷ []) new.tally new.tally a.same.dials_is refl ey;
      };
    }

-- and so it is let go, behind these last acts
abbrev pub close_events : ℕ → LinkEnd → (last asks over : List SessionEvent) → List SessionEvent
close_events now cause last asks over = last ++ (Closed now cause ∷ (asks ++ over))

pub closing_by : (now : ℕ) (l l' : Life) (q : Story) (acts puts last : List LinkAct) (cause : LinkEnd) (unread answered : Type 0) (a : AsksBy l l' (closed_story now q (acts ++ (puts ++ last)) cause))
    → (unread × PutsLast (basis_of l q) (standing_of l q) acts puts) ⊎ ((unread → ⊥) × (puts ≡ [])) → answered ⊎ IsWriteOnly (basis_of l q) (acts ++ puts) last → (answered → last ≡ [])
    → ClosesLink (basis_of l q) (standing_of l q) unread answered acts cause now (close_events now cause (acted (puts ++ last)) a.asks a.over)
closing_by now l l' q acts puts last cause unread answered a puts_are refused silent =
    let b = basis_of l q in
    let s = standing_of l q in
    let r = closed_story now q (acts ++ (puts ++ last)) cause in
    record {
      puts = puts;
      last = last;
      asks = a.asks;
      over = a.over;
      all = refl;
      puts_are = puts_are;
      refused = refused;
      silent = silent;
      asks_are = a.asks_are;
      over_is = once_by (after_all (basis_of l r) (standing_of l r) a.asks) (after_all b s a.asks) (l.dials ≡ false) (Request (AskOver l.object)) a.over
          (dues_by b (basis_of l r) (standing_of l r) s (standing_of l r) ((l.dials ≡ false) × (IsSome l.state × (l.state ≡ Some Gone → ⊥))) (Request (AskEnd l.end Link)) a.asks refl a.asks_are) a.over_is;
    }

pub adding_close : (now : ℕ) (cause : LinkEnd) (last : List LinkAct) (old new : Life) (p : Story) (a : AsksBy old new p) → Adding (close_events now cause (acted last) a.asks a.over) (last ++ [])
adding_close now cause last old new p a = adding_on (acted last) (Closed now cause ∷ (a.asks ++ a.over)) last [] (adding_acts last) (adding_closed now cause old new p a)

-- ---- a part at a link

module _ {S O I N : Type 0} (K : Known S O I N) where
  pub at_link_by : (does : Basis → List LinkAct → Standing → List SessionEvent → Type 0) (old new : Course) (said said' heard heard' : Option (List ℕ)) (shown : List LinkAct → Type 0) (s s' : S) (i i' : Option I) (o o' : Option O) (p : Story) (acts done : List LinkAct) (events : List SessionEvent)
      → p.link ≡ Some acts → does (basis_of old.life p) acts (standing_of old.life p) events → CourseStep old new p events → Adding events done
      → StepsRun K (flat_map step_in done) s i o s' i' o' → Adds said (said_of done) said' → Adds heard (heard_of done) heard' → shown done
      → AtLinkBy K does old new said said' heard heard' shown s i o s' i' o' p
  at_link_by does old new said said' heard heard' shown s s' i i' o o' p acts done events is did step adds steps said_is heard_is shown_is = record {
    acts = acts;
    is = is;
    events = events;
    did = did;
    step = step;
    steps = subst (λ (x : List PipeStep). StepsRun K x s i o s' i' o') (sym adds.steps_are) steps;
    said_is = subst (λ (x : List LinkAct). Adds said (said_of x) said') (sym adds.acts_are) said_is;
    heard_is = subst (λ (x : List LinkAct). Adds heard (heard_of x) heard') (sym adds.acts_are) heard_is;
    shown_is = subst (λ (x : List LinkAct). shown x) (sym adds.acts_are) shown_is;
  }
