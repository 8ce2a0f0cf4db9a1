-- A session by its history.
use Rattle.std.proofs.Common.{◌≡◌, ℕ, Bool, true, false, List, [], ◌∷◌, ◌++◌, Option, Some, None, refl, sym, ap, subst, ◌∙◌, inl, inr}
use Rattle.std.specs.Prelude.{◌⊎◌, Contains}
use Rattle.std.proofs.lemmas.List.Sums.{fold-append}
use Rattle.zq_base.specs.declared.ids.EndId.{EndId}
use Rattle.zq_base.specs.declared.ids.ObjId.{ObjId}
use Rattle.zq_base.specs.declared.options.Peer.{Peer}
use Rattle.spec_control.specs.declared.end.EndState.{EndState}
use Rattle.msg_pipe.specs.Known.{Known}
use Rattle.spec_link.specs.declared.due.Due.{Due}
use Rattle.spec_link.specs.History.{Basis, SessionEvent, EndIs, Told, Tried, Handed, Standing, standing, unborn, after, after_all, gives_up_at_once, after_term}
use Rattle.spec_link.specs.Handing.{MayHand, IsAllHanded}
use Rattle.spec_link.specs.declared.due.Due.TheVariants.{Request, Delimiter}
use Rattle.spec_control.specs.declared.end.Reason.TheVariants.{Linger, Link}
use Rattle.spec_control.specs.declared.request.Req.TheVariants.{Shaken, AskEnd, AskOver, OutputOver}
use Rattle.zq_session.specs.declared.life.Asked.{Asked}
use Rattle.zq_session.specs.declared.life.Life.{Life}
use Rattle.zq_session.specs.declared.course.Course.{Course}
use Rattle.link_side.specs.Kept.{Side}
use Rattle.link_side.specs.Dials.{DiallerState}
use Rattle.zq_session.specs.Lives.{Story, AreDue, Tells, basis_of, standing_of}
use Rattle.zq_session.specs.LifeSteps.{behind_term}
use Rattle.zq_session.specs.Courses.{IsOfLink, IsOfDials, HasStory, PeerStep, CourseStep, IsAtEase}
use Rattle.zq_session.proofs.NotingLemmas.{topics_as}
use Rattle.zq_session.specs.Dues.{IsAllGiven}
use Rattle.zq_session.specs.Turns.{DoesBy}
use Rattle.zq_session.specs.Cuts.{IsCutRead}
use Rattle.zq_session.specs.Halves.{step_at}
use Rattle.zq_session.proofs.HalfLemmas.{steps_keep}
use Rattle.std.specs.List.{flat_map}
use Rattle.zq_session.specs.Sessions.{SessionState, IsHanded, HasLived, Happens, Did}
use Rattle.zq_session.proofs.ListLemmas.{in_none}
use Rattle.zq_session.proofs.CourseLemmas.{basis_is, dials_same}
use Rattle.zq_session.proofs.TallyLemmas.{tally_as}

-- events behind a history
pub lived_on : (b : Basis) (history events : List SessionEvent) (s : Standing) → after_all b (standing b history) events ≡ s → standing b (history ++ events) ≡ s
lived_on b history events s e = fold-append (after b) unborn history events ∙ e

abbrev pub the_state : {O I : Type 0} → Course → Asked → Option I → Option O → SessionState O I
the_state c g i o = record { course = c; given = g; input = i; out = o }

-- the same flags of a life that differs in how it stands
due_on : (l m : Life) (flags : Asked) (dues : List Due) → m.object ≡ l.object → m.end ≡ l.end → AreDue l flags dues → AreDue m flags dues
due_on l m flags dues eo ee k = record {
  linger = subst (λ (x : EndId). Tells flags.linger (Contains dues (Request (AskEnd x Linger)))) (sym ee) k.linger;
  link = subst (λ (x : EndId). Tells flags.link (Contains dues (Request (AskEnd x Link)))) (sym ee) k.link;
  over = subst (λ (x : ObjId). Tells flags.over (Contains dues (Request (AskOver x)))) (sym eo) k.over;
  output = subst (λ (x : ObjId). Tells flags.output (Contains dues (Request (OutputOver x)))) (sym eo) k.output;
  delimiter = subst (λ (x : EndId). Tells flags.delimiter (Contains dues (Delimiter x))) (sym ee) k.delimiter;
  shaken = subst (λ (x : ObjId). Tells flags.shaken ((peer : Peer) × Contains dues (Request (Shaken x peer)))) (sym eo) k.shaken;
}

-- what was handed out, behind a turn
peer_kept : (old new : Course) (g : Asked) (p q : Story) → new.life.object ≡ old.life.object → ((x : Due) → Contains p.dues x → Contains q.dues x) → PeerStep old new q.dues → IsHanded old g p
    → new.life.asked.shaken ≡ true → g.shaken ≡ false → (peer : Peer) × (new.peer ≡ Some peer) × Contains q.dues (Request (Shaken new.life.object peer))
peer_kept old new g p q eo grows (inl k) h asked once =
    let was = h.peer (sym k.0 ∙ asked) once in
    (was.0, k.1 ∙ was.1, subst (λ (x : ObjId). Contains q.dues (Request (Shaken x was.0))) (sym eo) (grows (Request (Shaken old.life.object was.0)) was.2))
peer_kept old new g p q eo grows (inr k) h asked once = (k.0, k.1, subst (λ (x : ObjId). Contains q.dues (Request (Shaken x k.0))) (sym eo) k.2)

handed_on : (old new : Course) (g : Asked) (p : Story) (events : List SessionEvent) (step : CourseStep old new p events) → IsHanded old g p → IsHanded new g step.story
handed_on old new g p events step h = record {
  given_is = subst (λ (l : List Due). AreDue new.life g l) (sym step.handed_is) (due_on old.life new.life g p.handed step.same.object_is step.same.end_is h.given_is);
  peer = peer_kept old new g p step.story step.same.object_is step.grows step.peer_is h;
}

-- what is kept is of the history with these events
pub lived_step : {O I : Type 0} (old new : Course) (g : Asked) (i j : Option I) (o q : Option O) (b : Basis) (history events : List SessionEvent) (lived : HasLived b history (the_state old g i o)) → CourseStep old new lived.0 events
    → HasLived b (history ++ events) (the_state new g j q)
lived_step old new g i j o q b history events lived step =
    let p = lived.0 in (
      step.story,
      basis_is old.life new.life p step.story step.same step.opts_is step.interval_is ∙ lived.1,
      lived_on b history events (standing_of new.life step.story)
          (ap (λ (x : Standing). after_all b x events) lived.2 ∙ ap (λ (x : Basis). after_all x (standing_of old.life p) events) (sym lived.1) ∙ step.after_is),
      step.keeps,
      handed_on old new g p events step lived.4,
    )

module _ {S O I N L : Type 0} (K : Known S O I N) (heard said : L → Option (List ℕ)) (faults stalls ends : L → ℕ) (does : Basis → Standing → ℕ → List SessionEvent → Type 0) where
  -- what a part did, behind a history
  did_on : (now : ℕ) (old new : Course) (g : Asked) (link link' : Option L) (s s' : S) (i i' : Option I) (o o' : Option O)
      → ((p : Story) → HasStory old p → DoesBy K heard said faults stalls ends does now old new link link' s i o s' i' o' p)
      → (b : Basis) (history : List SessionEvent) → HasLived b history (the_state old g i o)
      → Did K heard said faults stalls ends does b history now (the_state old g i o) (the_state new g i' o') link link' s s'
  did_on now old new g link link' s s' i i' o o' f b history lived =
      let p = lived.0 in
      let t = f p lived.3 in
      let eb = lived.1 in
      let es = lived.2 in
      record {
        events = t.events;
        did = subst (λ (x : Standing). does b x now t.events) (sym es) (subst (λ (x : Basis). does x (standing_of old.life p) now t.events) eb t.did);
        lived = lived_step old new g i i' o o' b history t.events lived t.step;
        steps = t.steps;
        told = t.told;
        there = steps_keep K (flat_map step_at t.events) s s' i i' o o' t.steps;
      }

  -- the same of a session that is seen as its value
  pub did_of : (now : ℕ) (old new : Course) (g : Asked) (x : SessionState O I) (link link' : Option L) (s s' : S) (i i' : Option I) (o o' : Option O) → the_state old g i o ≡ x
      → ((p : Story) → HasStory old p → DoesBy K heard said faults stalls ends does now old new link link' s i o s' i' o' p)
      → (b : Basis) (history : List SessionEvent) → HasLived b history x → Did K heard said faults stalls ends does b history now x (the_state new g i' o') link link' s s'
  did_of now old new g x link link' s s' i i' o o' e f =
      subst (λ (y : SessionState O I). (b : Basis) (history : List SessionEvent) → HasLived b history y → Did K heard said faults stalls ends does b history now y (the_state new g i' o') link link' s s') e
      (did_on now old new g link link' s s' i i' o o' f)

module _ {S O I N L : Type 0} (K : Known S O I N) (heard said : L → Option (List ℕ)) (faults stalls ends : L → ℕ) where
  -- a reading part that memory cut short, by what was left undone before
  pub cut_read_of : (now : ℕ) (old new : Course) (g : Asked) (x : SessionState O I) (link link' : Option L) (s s' : S) (i i' : Option I) (o o' : Option O) → the_state old g i o ≡ x
      → ((p : Story) → HasStory old p → DoesBy K heard said faults stalls ends (IsCutRead (IsAtEase old → ⊥)) now old new link link' s i o s' i' o' p)
      → (b : Basis) (history : List SessionEvent) → HasLived b history x → Did K heard said faults stalls ends (IsCutRead (IsAtEase x.course → ⊥)) b history now x (the_state new g i' o') link link' s s'
  cut_read_of now old new g x link link' s s' i i' o o' e f =
      subst (λ (y : SessionState O I). (b : Basis) (history : List SessionEvent) → HasLived b history y → Did K heard said faults stalls ends (IsCutRead (IsAtEase y.course → ⊥)) b history now y (the_state new g i' o') link link' s s') e
      (did_on K heard said faults stalls ends (IsCutRead (IsAtEase old → ⊥)) now old new g link link' s s' i i' o o' f)

-- nothing became due yet
pub nothing_due : (l : Life) (asked : Asked) → asked ≡ record { linger = false; link = false; over = false; output = false; delimiter = false; shaken = false } → AreDue l asked []
nothing_due l asked e = subst (λ (a : Asked). AreDue l a []) (sym e) (record {
  linger = λ c. in_none (Request (AskEnd l.end Linger)) c;
  link = λ c. in_none (Request (AskEnd l.end Link)) c;
  over = λ c. in_none (Request (AskOver l.object)) c;
  output = λ c. in_none (Request (OutputOver l.object)) c;
  delimiter = λ c. in_none (Delimiter l.end) c;
  shaken = λ c. in_none (Request (Shaken l.object c.0)) c.1;
})

pub shaken_none : (asked : Asked) → asked ≡ record { linger = false; link = false; over = false; output = false; delimiter = false; shaken = false } → asked.shaken ≡ true → ⊥
shaken_none asked e d = (let f = sym (ap (λ (a : Asked). a.shaken) e) ∙ d in absurd cc)

-- ---- what is told of a session

-- its end came into a state, and it was tried
pub state_is : {O I : Type 0} (c : Course) (state : EndState) (g : Asked) (i j : Option I) (o q : Option O) → Happens (the_state c g i o) (EndIs state) (the_state (record c { life = record c.life { state = Some state } }) g j q)
state_is c state g i j o q = λ b history lived.
    let p = lived.0 in
    let l = record c.life { state = Some state } in (
      p,
      lived.1,
      lived_on b history (EndIs state ∷ []) (standing_of l p) (ap (λ (x : Standing). after_all b x (EndIs state ∷ [])) lived.2),
      record { due = due_on c.life l l.asked p.dues refl refl lived.3.due; link = lived.3.link; dial = lived.3.dial; kind_is = lived.3.kind_is; topics = lived.3.topics; tally = lived.3.tally },
      record { given_is = due_on c.life l g p.handed refl refl lived.4.given_is; peer = lived.4.peer },
    )

-- it was told, and where it doesn't linger at all it gave up
term_is : {O I : Type 0} (c : Course) (at_once : Bool) (now : ℕ) (g : Asked) (i : Option I) (o : Option O) (b : Basis) (history : List SessionEvent) → gives_up_at_once b.linger ≡ at_once → HasLived b history (the_state c g i o)
    → HasLived b (history ++ Told now ∷ []) (the_state (record c { life = behind_term now at_once c.life }) g i o)
term_is c true now g i o b history e lived =
    let p = lived.0 in
    let l = record c.life { told = Some now; gave_up = true } in (
      p,
      lived.1,
      lived_on b history (Told now ∷ []) (standing_of l p) (ap (λ (x : Standing). after_all b x (Told now ∷ [])) lived.2 ∙ ap (λ (x : Bool). after_term now x (standing_of c.life p)) e),
      record { due = due_on c.life l l.asked p.dues refl refl lived.3.due; link = lived.3.link; dial = lived.3.dial; kind_is = lived.3.kind_is; topics = lived.3.topics; tally = lived.3.tally },
      record { given_is = due_on c.life l g p.handed refl refl lived.4.given_is; peer = lived.4.peer },
    )
term_is c false now g i o b history e lived =
    let p = lived.0 in
    let l = record c.life { told = Some now } in (
      p,
      lived.1,
      lived_on b history (Told now ∷ []) (standing_of l p) (ap (λ (x : Standing). after_all b x (Told now ∷ [])) lived.2 ∙ ap (λ (x : Bool). after_term now x (standing_of c.life p)) e),
      record { due = due_on c.life l l.asked p.dues refl refl lived.3.due; link = lived.3.link; dial = lived.3.dial; kind_is = lived.3.kind_is; topics = lived.3.topics; tally = lived.3.tally },
      record { given_is = due_on c.life l g p.handed refl refl lived.4.given_is; peer = lived.4.peer },
    )

pub told_is : {O I : Type 0} (c : Course) (l : Life) (now : ℕ) (g : Asked) (i : Option I) (o : Option O) → l ≡ behind_term now (gives_up_at_once c.life.linger) c.life
    → Happens (the_state c g i o) (Told now) (the_state (record c { life = l }) g i o)
told_is c l now g i o e = λ b history lived.
    subst (λ (x : Life). HasLived b (history ++ Told now ∷ []) (the_state (record c { life = x }) g i o)) (sym e)
    (term_is c (gives_up_at_once c.life.linger) now g i o b history (ap (λ (x : Basis). gives_up_at_once x.linger) (sym lived.1)) lived)

pub tried_is : {O I : Type 0} (c : Course) (left : Bool) (g : Asked) (i : Option I) (o : Option O) → Happens (the_state c g i o) (Tried left) (the_state (record c { life = record c.life { waits = left } }) g i o)
tried_is c left g i o = λ b history lived.
    let p = lived.0 in
    let l = record c.life { waits = left } in (
      p,
      lived.1,
      lived_on b history (Tried left ∷ []) (standing_of l p) (ap (λ (x : Standing). after_all b x (Tried left ∷ [])) lived.2),
      record { due = due_on c.life l l.asked p.dues refl refl lived.3.due; link = lived.3.link; dial = lived.3.dial; kind_is = lived.3.kind_is; topics = lived.3.topics; tally = lived.3.tally },
      record { given_is = due_on c.life l g p.handed refl refl lived.4.given_is; peer = lived.4.peer },
    )

-- ---- what is handed out

handed_all : (a g : Bool) (X Y : Type 0) → Tells a X → Tells g Y → (a ≡ true → g ≡ true) → X → Y
handed_all true true X Y x y f k = y
handed_all true false X Y x y f k = (let e = f refl in absurd cc)
handed_all false g X Y x y f k = absurd (x k)

waits_or_not : (a g : Bool) → ((a ≡ true) × (g ≡ false)) ⊎ (a ≡ true → g ≡ true)
waits_or_not true true = inr (λ _. refl)
waits_or_not true false = inl (refl, refl)
waits_or_not false g = inr (λ e. absurd cc)

none_some : (o : Option Peer) (q : Peer) → o ≡ None → o ≡ Some q → ⊥
none_some o q e d = absurd cc

-- where no flag waits, all was handed out
pub all_handed : {O I : Type 0} (c : Course) (g : Asked) (i : Option I) (o : Option O) → IsAllGiven c.life.asked g → (c.life.asked.shaken ≡ true → g.shaken ≡ false → c.peer ≡ None)
    → (b : Basis) (history : List SessionEvent) → HasLived b history (the_state c g i o) → IsAllHanded b (standing b history)
all_handed c g i o all none b history lived =
    let p = lived.0 in
    let a = lived.3.due in
    let h = lived.4.given_is in
    let l = c.life in
    let shaken : l.asked.shaken ≡ true → g.shaken ≡ true = elim (waits_or_not l.asked.shaken g.shaken) as (λ _. l.asked.shaken ≡ true → g.shaken ≡ true) [
      | inl k ↦ (let q = lived.4.peer k.0 k.1 in absurd (none_some c.peer q.0 (none k.0 k.1) q.1))
      | inr f ↦ f
    ] in
    let these : IsAllHanded (basis_of l p) (standing_of l p) = record {
      linger = handed_all l.asked.linger g.linger (Contains p.dues (Request (AskEnd l.end Linger))) (Contains p.handed (Request (AskEnd l.end Linger))) a.linger h.linger all.linger;
      link = handed_all l.asked.link g.link (Contains p.dues (Request (AskEnd l.end Link))) (Contains p.handed (Request (AskEnd l.end Link))) a.link h.link all.link;
      over = handed_all l.asked.over g.over (Contains p.dues (Request (AskOver l.object))) (Contains p.handed (Request (AskOver l.object))) a.over h.over all.over;
      output = handed_all l.asked.output g.output (Contains p.dues (Request (OutputOver l.object))) (Contains p.handed (Request (OutputOver l.object))) a.output h.output all.output;
      delimiter = handed_all l.asked.delimiter g.delimiter (Contains p.dues (Delimiter l.end)) (Contains p.handed (Delimiter l.end)) a.delimiter h.delimiter all.delimiter;
      shaken = handed_all l.asked.shaken g.shaken ((q : Peer) × Contains p.dues (Request (Shaken l.object q))) ((q : Peer) × Contains p.handed (Request (Shaken l.object q))) a.shaken h.shaken shaken;
    } in
    subst (λ (x : Standing). IsAllHanded b x) (sym lived.2) (subst (λ (x : Basis). IsAllHanded x (standing_of l p)) lived.1 these)

dial_as : (l m : Life) (p : Story) (d d' : Option DiallerState) → m ≡ l → d' ≡ d → IsOfDials l.dials p d → IsOfDials m.dials p d'
dial_as l m p d d' el ed k = subst (λ (x : Life). IsOfDials x.dials p d') (sym el) (subst (λ (x : Option DiallerState). IsOfDials l.dials p x) (sym ed) k)

-- the same of what is kept but for the peer
story_as : (c d : Course) (p : Story) → d.life ≡ c.life → d.side ≡ c.side → d.dialler ≡ c.dialler → d.topics ≡ c.topics → d.tally ≡ c.tally → HasStory c p → HasStory d p
story_as c d p el es ed et ey k = record {
  due = subst (λ (l : Life). AreDue l l.asked p.dues) (sym el) k.due;
  link = subst (λ (x : Option Side). IsOfLink p.opts p.link x) (sym es) k.link;
  dial = dial_as c.life d.life p c.dialler d.dialler el ed k.dial;
  kind_is = k.kind_is ∙ ap (λ (l : Life). l.kind) (sym el);
  topics = topics_as c.life.dials d.life.dials p.opts p.link p.closed c.side d.side c.topics d.topics (ap (λ (l : Life). l.dials) el) es et k.topics;
  tally = tally_as c.life.dials d.life.dials p.opts p.link p.closed c.tally d.tally (ap (λ (l : Life). l.dials) el) ey k.tally;
}

-- one thing is handed out
pub hands_one : {O I : Type 0} (c d : Course) (g g' : Asked) (i : Option I) (o : Option O) (due : Due) → d.life ≡ c.life → d.side ≡ c.side → d.dialler ≡ c.dialler → d.topics ≡ c.topics → d.tally ≡ c.tally
    → ((p : Story) → HasStory c p → IsHanded c g p → (Contains p.dues due × (Contains p.handed due → ⊥)) × (AreDue c.life g' (p.handed ++ due ∷ []) × (c.life.asked.shaken ≡ true → g'.shaken ≡ false → (g.shaken ≡ false) × (d.peer ≡ c.peer))))
    → (b : Basis) (history : List SessionEvent) → HasLived b history (the_state c g i o) → MayHand (standing b history) due × HasLived b (history ++ Handed due ∷ []) (the_state d g' i o)
hands_one c d g g' i o due el es ed et ey f b history lived =
    let p = lived.0 in
    let k = f p lived.3 lived.4 in
    let q = record p { handed = p.handed ++ due ∷ [] } in
    let may : MayHand (standing_of c.life p) due = record { due_is = k.0.0; once = k.0.1 } in (
      subst (λ (x : Standing). MayHand x due) (sym lived.2) may,
      (
        q,
        ap (λ (l : Life). basis_of l p) el ∙ lived.1,
        lived_on b history (Handed due ∷ []) (standing_of d.life q) (ap (λ (x : Standing). after_all b x (Handed due ∷ [])) lived.2 ∙ ap (λ (l : Life). standing_of l q) (sym el)),
        story_as c d q el es ed et ey (record { due = lived.3.due; link = lived.3.link; dial = dials_same c.life.dials p q c.dialler refl refl refl lived.3.dial; kind_is = lived.3.kind_is; topics = lived.3.topics; tally = lived.3.tally }),
        record {
          given_is = subst (λ (l : Life). AreDue l g' (p.handed ++ due ∷ [])) (sym el) k.1.0;
          peer = λ asked once.
              let e = k.1.1 (ap (λ (l : Life). l.asked.shaken) (sym el) ∙ asked) once in
              let was = lived.4.peer (ap (λ (l : Life). l.asked.shaken) (sym el) ∙ asked) e.0 in
              (was.0, e.1 ∙ was.1, subst (λ (l : Life). Contains p.dues (Request (Shaken l.object was.0))) (sym el) was.2);
        },
      ),
    )
