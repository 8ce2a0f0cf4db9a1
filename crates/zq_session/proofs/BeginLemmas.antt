-- What begins a part, from its steps.
use Rattle.std.proofs.Common.{◌≡◌, ℕ, Bool, true, false, List, [], ◌∷◌, ◌++◌, Option, Some, refl, sym, ap, subst, ◌∙◌, inl, inr}
use Rattle.std.specs.Prelude.{◌||◌, IsSome}
use Rattle.std.specs.List.{flat_map}
use Rattle.std.proofs.lemmas.List.{append-nil}
use Rattle.zq_base.specs.declared.ids.ObjId.{ObjId}
use Rattle.zq_base.specs.declared.options.EngineOpts.{EngineOpts}
use Rattle.spec_control.specs.declared.end.EndState.{EndState}
use Rattle.spec_control.specs.declared.end.EndState.TheVariants.{Gone, WaitDelimiter}
use Rattle.spec_control.specs.declared.request.Req.TheVariants.{AskEnd, AskOver, OutputOver}
use Rattle.spec_control.specs.declared.end.Reason.TheVariants.{Linger}
use Rattle.spec_link.specs.declared.due.Due.{Due}
use Rattle.spec_link.specs.declared.due.Due.TheVariants.{Request}
use Rattle.spec_link.specs.LinkAct.{LinkAct}
use Rattle.spec_link.specs.Parts.{SomethingToWrite}
use Rattle.spec_link.specs.History.{Basis, SessionEvent, GaveUp, IsDue, Standing, after_all}
use Rattle.spec_link.specs.Turn.{DueOnce, Exactly, GivesUp, LingerIsOver, HasNoOutput, IsTold}
use Rattle.spec_link.specs.TurnParts.{Begins}
use Rattle.zq_session.specs.declared.life.Life.{Life}
use Rattle.zq_session.specs.declared.course.Course.{Course}
use Rattle.link_side.specs.Kept.{Side}
use Rattle.link_side.specs.Silent.{HasOutput, HasNone}
use Rattle.link_side.specs.Says.{IsFree}
use Rattle.zq_session.specs.Lives.{Story, basis_of, standing_of}
use Rattle.zq_session.specs.LifeSteps.{LifeDoes, GivesUpAt, AndMoved, with_dues}
use Rattle.zq_session.specs.Courses.{IsOfLink, HasStory, CourseStep}
use Rattle.zq_session.specs.Beginning.{IsOutputGone, CourseDoes, OutputBy, BeginsBy}
use Rattle.zq_session.proofs.LifeLemmas.{no_step, due_step, due_output, not_due, was_due, is_due}
use Rattle.zq_session.proofs.CourseLemmas.{due_adds, more_of, same_on, basis_is, link_some}
use Rattle.zq_session.proofs.StepLemmas.{course_step, course_on, course_same}
use Rattle.zq_session.proofs.UnputLemmas.{output_of, none_of}
use Rattle.zq_session.proofs.MovedLemmas.{moved_on}

-- ---- no output left

acts_eq : (x y : List LinkAct) → Some x ≡ Some y → x ≡ y
acts_eq x y e = cc

pub gone_written : (link : Option (List LinkAct)) (opts : EngineOpts) (side : Option Side) (sd : Side) → side ≡ Some sd → IsFree sd.behind → HasNone sd.kept → IsOfLink opts link side → (acts : List LinkAct) → link ≡ Some acts → SomethingToWrite opts acts → ⊥
gone_written link opts side sd e free none k acts d some =
    let l = link_some opts link side sd e free k in
    none_of opts l.0 sd.kept l.2 none (subst (λ (a : List LinkAct). SomethingToWrite opts a) (acts_eq acts l.0 (sym d ∙ l.1)) some)

pub not_gone : (b : Basis) (s : Standing) (side : Option Side) (sd : Side) → side ≡ Some sd → IsFree sd.behind → HasOutput sd.kept → (s.gave_up ≡ false) → (b.linger ≡ Some 0 → ⊥) → IsOfLink b.opts s.link side → IsOutputGone b s → ⊥
not_gone b s side sd e free some up linger k (inl g) = (let u = up in absurd cc)
not_gone b s side sd e free some up linger k (inr (inl g)) = linger g
not_gone b s side sd e free some up linger k (inr (inr g)) =
    let l = link_some b.opts s.link side sd e free k in
    g l.0 l.1 (output_of b.opts l.0 sd.kept l.2 some)

-- ---- the first answers

-- that its output is over, and that it asks to end, by what they are told of
abbrev pub OutputIs : Basis → Standing → (told : Option ℕ) (waits : Bool) → ObjId → List SessionEvent → Type 0
OutputIs b s told waits object events = DueOnce s (IsSome told × ((waits ≡ true) × HasNoOutput b s)) (Request (OutputOver object)) events

abbrev pub OverIs : Standing → (told : Option ℕ) (state : Option EndState) → ObjId → List SessionEvent → Type 0
OverIs s told state object events = DueOnce s ((IsSome told → ⊥) × (state ≡ Some Gone)) (Request (AskOver object)) events

output_as : (b c : Basis) (s t : Standing) (told told' : Option ℕ) (waits waits' : Bool) (object object' : ObjId) (events : List SessionEvent) → c ≡ b → t ≡ s → told' ≡ told → waits' ≡ waits → object' ≡ object
    → OutputIs c t told' waits' object' events → OutputIs b s told waits object events
output_as b c s t told told' waits waits' object object' events eb es et ew eo k =
    subst (λ (x : Basis). OutputIs x s told waits object events) eb
    (subst (λ (x : Standing). OutputIs c x told waits object events) es
    (subst (λ (x : Option ℕ). OutputIs c t x waits object events) et
    (subst (λ (x : Bool). OutputIs c t told' x object events) ew
    (subst (λ (x : ObjId). OutputIs c t told' waits' x events) eo k))))

over_as : (s t : Standing) (told told' : Option ℕ) (state state' : Option EndState) (object object' : ObjId) (events : List SessionEvent) → t ≡ s → told' ≡ told → state' ≡ state → object' ≡ object
    → OverIs t told' state' object' events → OverIs s told state object events
over_as s t told told' state state' object object' events es et ew eo k =
    subst (λ (x : Standing). OverIs x told state object events) es
    (subst (λ (x : Option ℕ). OverIs t x state object events) et
    (subst (λ (x : Option EndState). OverIs t told' x object events) ew
    (subst (λ (x : ObjId). OverIs t told' state' x events) eo k)))

pub begins_by : (now : ℕ) (gives output over moved : Bool) (old mid1 mid2 mid3 new : Course) → mid1.side ≡ old.side → mid1.dialler ≡ old.dialler → mid1.peer ≡ old.peer → mid1.topics ≡ old.topics → mid1.tally ≡ old.tally
    → LifeDoes old.life mid1.life (AndMoved gives (GivesUpAt now))
    → ((p : Story) → HasStory mid1 p → HasStory mid2 p) → mid2.life ≡ mid1.life → mid2.peer ≡ mid1.peer → OutputBy output mid2 mid3
    → new.side ≡ mid3.side → new.dialler ≡ mid3.dialler → new.peer ≡ mid3.peer → new.topics ≡ mid3.topics → new.tally ≡ mid3.tally
    → LifeDoes mid3.life new.life (AndMoved over (λ b s. DueOnce s ((IsTold s → ⊥) × (s.state ≡ Some Gone)) (Request (AskOver b.object))))
    → moved ≡ (gives || (output || over))
    → (p : Story) → HasStory old p → BeginsBy now moved old new p
begins_by now gives output over moved old mid1 mid2 mid3 new e1 d1 p1 t1 y1 f1 f2 e2 p2 f3 e4 d4 p4 t4 y4 f4 em p keeps =
    let a = f1 p keeps.due in
    let b = basis_of old.life p in
    let s = standing_of old.life p in
    let q = with_dues p a.1.dues in
    let c1 = course_step old mid1 p a.0 e1 d1 p1 t1 y1 a.1 keeps in
    let keeps2 = f2 q c1.keeps in
    let o = f3 q keeps2 in
    let c2 = course_same mid1 mid2 q e2 p2 keeps2 in
    let c12 = course_on old mid1 mid2 p a.0 [] c1 c2 in
    let c3 = o.step in
    let q3 = c3.story in
    let v = f4 q3 c3.keeps.due in
    let c4 = course_step mid3 new q3 v.0 e4 d4 p4 t4 y4 v.1 c3.keeps in
    let same2 = same_on old.life mid1.life mid2.life a.1.same c2.same in
    let basis2 = basis_is old.life mid2.life p q same2 refl refl in
    let standing2 : standing_of mid2.life q ≡ after_all b s a.0 = ap (λ (l : Life). standing_of l q) e2 ∙ sym a.1.after_is in
    let c23 = course_on mid1 mid2 mid3 q [] o.events c2 c3 in
    let c13 = course_on old mid1 mid3 p a.0 o.events c1 c23 in
    let c34 = course_on mid2 mid3 new q o.events v.0 c3 c4 in
    let c24 = course_on mid1 mid2 new q [] (o.events ++ v.0) c2 c34 in
    record {
      events = a.0 ++ (o.events ++ v.0);
      does_is = (
        record {
          gives = a.0;
          output = o.events;
          over = v.0;
          all = refl;
          gives_up = a.2.0;
          output_is = output_as b (basis_of mid2.life q) (after_all b s a.0) (standing_of mid2.life q) old.life.told mid2.life.told old.life.waits mid2.life.waits old.life.object mid2.life.object o.events
              basis2 standing2 same2.told_is same2.waits_is same2.object_is o.does_is.0;
          over_is = over_as (after_all b s (a.0 ++ o.events)) (standing_of mid3.life q3) old.life.told mid3.life.told old.life.state mid3.life.state old.life.object mid3.life.object v.0
              (sym c13.after_is) c13.same.told_is c13.same.state_is c13.same.object_is v.2.0;
        },
        em ∙ moved_on a.0 (o.events ++ v.0) gives (output || over) a.2.1 (moved_on o.events v.0 output over o.does_is.1 v.2.1),
      );
      step = course_on old mid1 new p a.0 (o.events ++ v.0) c1 c24;
    }

-- memory cut the first answers short: it may have given up
pub begins_cut : (now : ℕ) (gives : Bool) (old mid1 mid2 : Course) → mid1.side ≡ old.side → mid1.dialler ≡ old.dialler → mid1.peer ≡ old.peer → mid1.topics ≡ old.topics → mid1.tally ≡ old.tally
    → LifeDoes old.life mid1.life (AndMoved gives (GivesUpAt now))
    → ((p : Story) → HasStory mid1 p → HasStory mid2 p) → mid2.life ≡ mid1.life → mid2.peer ≡ mid1.peer
    → (p : Story) → HasStory old p → CourseDoes (GivesUpAt now) old mid2 p
begins_cut now gives old mid1 mid2 e1 d1 p1 t1 y1 f1 f2 e2 p2 p keeps =
    let a = f1 p keeps.due in
    let q = with_dues p a.1.dues in
    let c1 = course_step old mid1 p a.0 e1 d1 p1 t1 y1 a.1 keeps in
    let c2 = course_same mid1 mid2 q e2 p2 (f2 q c1.keeps) in
    record { events = a.0; does_is = a.2.0; step = subst (λ (l : List SessionEvent). CourseStep old mid2 p l) (append-nil a.0) (course_on old mid1 mid2 p a.0 [] c1 c2) }

-- ---- that its output is over

-- it waits for its output alone, and none is left
abbrev pub OutputGone : Course → Story → Type 0
OutputGone c p = IsTold (standing_of c.life p) × ((c.life.waits ≡ true) × HasNoOutput (basis_of c.life p) (standing_of c.life p))

pub output_none : (c : Course) → ((p : Story) → HasStory c p → OutputGone c p → ⊥) → OutputBy false c c
output_none c never = λ p keeps. record {
  events = [];
  does_is = (not_due (standing_of c.life p) (OutputGone c p) (Request (OutputOver c.life.object)) (never p keeps), refl);
  step = course_step c c p [] refl refl refl refl refl (no_step c.life p keeps.due) keeps;
}

pub output_again : (c : Course) → c.life.asked.output ≡ true → OutputBy false c c
output_again c e = λ p keeps. record {
  events = [];
  does_is = (was_due (standing_of c.life p) (OutputGone c p) (Request (OutputOver c.life.object)) c.life.asked.output e keeps.due.output, refl);
  step = course_step c c p [] refl refl refl refl refl (no_step c.life p keeps.due) keeps;
}

pub output_now : (c : Course) → c.life.asked.output ≡ false → ((p : Story) → HasStory c p → OutputGone c p) → OutputBy true c (record c { life = record c.life { asked = record c.life.asked { output = true } } })
output_now c e gone = λ p keeps.
    let l2 = record c.life { asked = record c.life.asked { output = true } } in
    let x = Request (OutputOver c.life.object) in
    record {
      events = IsDue x ∷ [];
      does_is = (is_due (standing_of c.life p) (OutputGone c p) x c.life.asked.output e keeps.due.output (gone p keeps), refl);
      step = course_step c (record c { life = l2 }) p (IsDue x ∷ []) refl refl refl refl refl (due_step c.life (record c.life.asked { output = true }) p x refl (due_output c.life c.life.asked p.dues keeps.due)) keeps;
    }

-- ---- what begins a part does nothing at a link or a pipe

-- nor does giving up
gives_these : {A : Type 0} (f : SessionEvent → List A) → ((x : Due) → f (IsDue x) ≡ []) → f GaveUp ≡ [] → (b : Basis) (s : Standing) (P : Type 0) (events : List SessionEvent) → Exactly P (GivesUp b s) events → flat_map f events ≡ []
gives_these f dues none b s P events (inl k) =
    ap (λ (l : List SessionEvent). flat_map f l) k.1.1 ∙ ap (λ (l : List _). l ++ flat_map f k.1.0) none ∙ due_adds f dues s (s.state ≡ Some WaitDelimiter) (Request (AskEnd b.end Linger)) k.1.0 k.1.2
gives_these f dues none b s P events (inr k) = ap (λ (l : List SessionEvent). flat_map f l) k.1

pub gives_none : {A : Type 0} (f : SessionEvent → List A) → ((x : Due) → f (IsDue x) ≡ []) → f GaveUp ≡ [] → (now : ℕ) (b : Basis) (s : Standing) (events : List SessionEvent) → GivesUpAt now b s events → flat_map f events ≡ []
gives_none f dues none now b s events (inl k) = gives_these f dues none b s (LingerIsOver b.linger s.told now) events k.1
gives_none f dues none now b s events (inr k) = due_adds f dues s (s.state ≡ Some WaitDelimiter) (Request (AskEnd b.end Linger)) events k.1

pub begins_none : {A : Type 0} (f : SessionEvent → List A) → ((x : Due) → f (IsDue x) ≡ []) → f GaveUp ≡ [] → (b : Basis) (s : Standing) (now : ℕ) (events : List SessionEvent) → Begins b s now events → flat_map f events ≡ []
begins_none f dues none b s now events k =
    ap (λ (l : List SessionEvent). flat_map f l) k.all
    ∙ more_of f k.gives (k.output ++ k.over) [] [] (gives_none f dues none now b s k.gives k.gives_up)
    (more_of f k.output k.over [] []
    (due_adds f dues (after_all b s k.gives) (IsTold s × ((s.waits ≡ true) × HasNoOutput b (after_all b s k.gives))) (Request (OutputOver b.object)) k.output k.output_is)
    (due_adds f dues (after_all b s (k.gives ++ k.output)) ((IsTold s → ⊥) × (s.state ≡ Some Gone)) (Request (AskOver b.object)) k.over k.over_is))
