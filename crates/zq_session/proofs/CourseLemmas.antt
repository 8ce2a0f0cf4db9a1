-- What the steps of a session do, one behind the other.
use Rattle.std.proofs.Common.{◌≡◌, ℕ, Bool, true, false, List, [], ◌∷◌, ◌++◌, Option, Some, None, refl, sym, ap, subst, ◌∙◌, inl, inr, append_assoc}
use Rattle.std.specs.Prelude.{Contains, IsSome, map}
use Rattle.std.specs.List.{flat_map}
use Rattle.std.proofs.lemmas.List.{append-nil}
use Rattle.std.proofs.lemmas.List.Sums.{fold-append}
use Rattle.std.proofs.lemmas.List.Elements.{Contains-push}
use Rattle.std.proofs.lemmas.List.Concat.{flat_map-append}
use Rattle.zq_base.specs.declared.ids.EndId.{EndId}
use Rattle.zq_base.specs.declared.ids.ObjId.{ObjId}
use Rattle.zq_base.specs.declared.options.EngineOpts.{EngineOpts}
use Rattle.zq_base.specs.declared.options.Peer.{Peer}
use Rattle.spec_pattern.specs.PipeStep.{PipeStep}
use Rattle.spec_link.specs.declared.due.Due.{Due}
use Rattle.spec_link.specs.declared.due.Due.TheVariants.{Request}
use Rattle.spec_control.specs.declared.end.EndState.TheVariants.{Gone}
use Rattle.spec_control.specs.declared.end.Reason.TheVariants.{Link}
use Rattle.spec_control.specs.declared.request.Req.TheVariants.{Shaken, AskEnd, AskOver}
use Rattle.spec_link.specs.LinkAct.{LinkAct}
use Rattle.spec_link.specs.History.{Basis, SessionEvent, Acted, IsDue, Standing, after, after_all, later}
use Rattle.spec_link.specs.Turn.{DueOnce, Exactly}
use Rattle.zq_session.specs.declared.life.Life.{Life}
use Rattle.zq_session.specs.declared.course.Course.{Course}
use Rattle.link_side.specs.Kept.{Kept, Side, IsKeptOf}
use Rattle.link_side.specs.Calls.{Adds}
use Rattle.link_side.specs.Dials.{DiallerState}
use Rattle.link_side.specs.Silent.{IsShaken, IsUnshaken}
use Rattle.zq_session.specs.Lives.{Story, Tells, basis_of, standing_of}
use Rattle.zq_session.specs.Courses.{IsOfLink, IsOfDials, PeerStep, ShakeStep, ShakesBy, act_at}
use Rattle.zq_session.specs.LifeSteps.{IsSame, LifeStep, LifeDoes, with_dues}
use Rattle.zq_session.specs.Halves.{step_in, step_at}
use Rattle.link_side.specs.Says.{IsFree}
use Rattle.zq_session.specs.Noting.{IsHeldOf}
use Rattle.zq_session.proofs.NotingLemmas.{kept_free, held_free}
use Rattle.zq_session.specs.Ending.{Asks}
use Rattle.zq_session.proofs.UnputLemmas.{shaken_of, unshaken_of}
use Rattle.zq_session.proofs.LifeLemmas.{no_step, due_shaken, contains_on}

-- ---- events

-- events behind events
pub after_on : (b : Basis) (s t u : Standing) (xs ys : List SessionEvent) → after_all b s xs ≡ t → after_all b t ys ≡ u → after_all b s (xs ++ ys) ≡ u
after_on b s t u xs ys e d = fold-append (after b) s xs ys ∙ ap (λ (x : Standing). after_all b x ys) e ∙ d

abbrev pub acted : List LinkAct → List SessionEvent
acted acts = map (λ a. Acted a) acts

-- acts at a link
pub after_acts : (b : Basis) (s : Standing) (before acts : List LinkAct) → after_all b (record s { link = Some before }) (acted acts) ≡ record s { link = Some (before ++ acts) }
after_acts b s before [] = ap (λ (l : List LinkAct). record s { link = Some l }) (sym (append-nil before))
after_acts b s before (a ∷ acts) =
    after_acts b s (before ++ a ∷ []) acts ∙ ap (λ (l : List LinkAct). record s { link = Some l }) (append_assoc before (a ∷ []) acts)

pub steps_of_acts : (acts : List LinkAct) → flat_map step_at (acted acts) ≡ flat_map step_in acts
steps_of_acts [] = refl
steps_of_acts (a ∷ acts) = ap (λ (l : List PipeStep). step_in a ++ l) (steps_of_acts acts)

pub acts_of_acts : (acts : List LinkAct) → flat_map act_at (acted acts) ≡ acts
acts_of_acts [] = refl
acts_of_acts (a ∷ acts) = ap (λ (l : List LinkAct). a ∷ l) (acts_of_acts acts)

-- the same of those of a turn with a link
module _ {A : Type 0} (f : SessionEvent → List A) (none : (x : Due) → f (IsDue x) ≡ []) where
  pub due_adds : (s : Standing) (premise : Type 0) (x : Due) (events : List SessionEvent) → DueOnce s premise x events → flat_map f events ≡ []
  due_adds s premise x events (inl e) = ap (λ (l : List SessionEvent). flat_map f l) e.1 ∙ append-nil (f (IsDue x)) ∙ none x
  due_adds s premise x events (inr e) = ap (λ (l : List SessionEvent). flat_map f l) e.1

pub no_due_acts : (x : Due) → act_at (IsDue x) ≡ []
no_due_acts x = refl

pub no_due_steps : (x : Due) → step_at (IsDue x) ≡ []
no_due_steps x = refl

pub more_of : {A : Type 0} (f : SessionEvent → List A) (xs ys : List SessionEvent) (m n : List A) → flat_map f xs ≡ m → flat_map f ys ≡ n → flat_map f (xs ++ ys) ≡ m ++ n
more_of f xs ys m n e d = flat_map-append f xs ys ∙ ap (λ (l : List _). l ++ flat_map f ys) e ∙ ap (λ (l : List _). m ++ l) d

-- ---- what stays

pub same_on : (a b c : Life) → IsSame a b → IsSame b c → IsSame a c
same_on a b c x y = record {
  object_is = y.object_is ∙ x.object_is;
  end_is = y.end_is ∙ x.end_is;
  kind_is = y.kind_is ∙ x.kind_is;
  dials_is = y.dials_is ∙ x.dials_is;
  linger_is = y.linger_is ∙ x.linger_is;
  state_is = y.state_is ∙ x.state_is;
  told_is = y.told_is ∙ x.told_is;
  waits_is = y.waits_is ∙ x.waits_is;
}

-- the peer behind one step and another
pub peer_on : (a b c : Course) (dues more : List Due) → b.life.object ≡ a.life.object → ((x : Due) → Contains dues x → Contains more x) → PeerStep a b dues → PeerStep b c more → PeerStep a c more
peer_on a b c dues more e grows x (inr y) = inr (y.0, y.1, subst (λ (o : ObjId). Contains more (Request (Shaken o y.0))) e y.2)
peer_on a b c dues more e grows (inl x) (inl y) = inl (y.0 ∙ x.0, y.1 ∙ x.1)
peer_on a b c dues more e grows (inr x) (inl y) = inr (x.0, y.1 ∙ x.1, grows (Request (Shaken a.life.object x.0)) x.2)

-- the basis is the same
abbrev basis_from : ObjId → EndId → EngineOpts → Bool → ℕ → Option ℕ → Basis
basis_from object end opts dials interval linger = record { object = object; end = end; opts = opts; dials = dials; interval = interval; linger = linger }

pub basis_is : (old new : Life) (p q : Story) → IsSame old new → q.opts ≡ p.opts → q.interval ≡ p.interval → basis_of new q ≡ basis_of old p
basis_is old new p q same o i =
    ap (λ (x : ObjId). basis_from x new.end q.opts new.dials q.interval new.linger) same.object_is
    ∙ ap (λ (x : EndId). basis_from old.object x q.opts new.dials q.interval new.linger) same.end_is
    ∙ ap (λ (x : EngineOpts). basis_from old.object old.end x new.dials q.interval new.linger) o
    ∙ ap (λ (x : Bool). basis_from old.object old.end p.opts x q.interval new.linger) same.dials_is
    ∙ ap (λ (x : ℕ). basis_from old.object old.end p.opts old.dials x new.linger) i
    ∙ ap (λ (x : Option ℕ). basis_from old.object old.end p.opts old.dials p.interval x) same.linger_is

pub dials_same : (dials : Bool) (p q : Story) (d : Option DiallerState) → q.opts ≡ p.opts → q.interval ≡ p.interval → q.dial_at ≡ p.dial_at → IsOfDials dials p d → IsOfDials dials q d
dials_same true p q None o i m k = absurd k
dials_same true p q (Some d) o i m k = (k.0 ∙ sym o, (k.1.0 ∙ sym i, k.1.1 ∙ sym m))
dials_same false p q None o i m k = tt
dials_same false p q (Some d) o i m k = absurd k

-- what dials is of the story with other acts and dues
pub dials_on : (old new : Life) (p q : Story) (d d' : Option DiallerState) → IsSame old new → d' ≡ d → q.opts ≡ p.opts → q.interval ≡ p.interval → q.dial_at ≡ p.dial_at
    → IsOfDials old.dials p d → IsOfDials new.dials q d'
dials_on old new p q d d' same e o i m k =
    subst (λ (b : Bool). IsOfDials b q d') (sym same.dials_is) (subst (λ (x : Option DiallerState). IsOfDials old.dials q x) (sym e) (dials_same old.dials p q d o i m k))

-- what holds with these acts at the link holds where they are those of the story
pub by_link : (C : Story → Type 0) (p : Story) (acts : List LinkAct) → p.link ≡ Some acts → C (record p { link = Some acts }) → C p
by_link C p acts e k = subst (λ (l : Option (List LinkAct)). C (record p { link = l })) (sym e) k

the_side : (x y : Side) → Some x ≡ Some y → x ≡ y
the_side x y e = cc

pub link_held : (opts : EngineOpts) (link : Option (List LinkAct)) (side : Option Side) (sd : Side) → side ≡ Some sd → IsOfLink opts link side
    → (acts : List LinkAct) × (link ≡ Some acts) × IsHeldOf opts acts sd.behind sd.kept
link_held opts None None sd e k = absurd cc
link_held opts None (Some x) sd e k = absurd k
link_held opts (Some acts) None sd e k = absurd k
link_held opts (Some acts) (Some x) sd e k = (acts, refl, subst (λ (y : Side). IsHeldOf opts acts y.behind y.kept) (the_side x sd e) k)

pub link_some : (opts : EngineOpts) (link : Option (List LinkAct)) (side : Option Side) (sd : Side) → side ≡ Some sd → IsFree sd.behind → IsOfLink opts link side
    → (acts : List LinkAct) × (link ≡ Some acts) × IsKeptOf opts acts sd.kept
link_some opts link side sd e free k = (let l = link_held opts link side sd e k in (l.0, l.1, kept_free opts l.0 sd.behind sd.kept free l.2))

pub link_waits : (opts : EngineOpts) (link : Option (List LinkAct)) (side : Option Side) (sd : Side) (acts : List LinkAct) → side ≡ Some sd → link ≡ Some acts → IsHeldOf opts acts sd.behind sd.kept
    → IsOfLink opts link side
link_waits opts link side sd acts e d r =
    subst (λ (x : Option Side). IsOfLink opts link x) (sym e) (subst (λ (x : Option (List LinkAct)). IsOfLink opts x (Some sd)) (sym d) r)

pub link_is : (opts : EngineOpts) (link : Option (List LinkAct)) (side : Option Side) (sd : Side) (acts : List LinkAct) → side ≡ Some sd → link ≡ Some acts → IsFree sd.behind → IsKeptOf opts acts sd.kept
    → IsOfLink opts link side
link_is opts link side sd acts e d free r = link_waits opts link side sd acts e d (held_free opts acts sd.behind sd.kept free r)

pub link_none : (opts : EngineOpts) (link : Option (List LinkAct)) (side : Option Side) → side ≡ None → link ≡ None → IsOfLink opts link side
link_none opts link side e d =
    subst (λ (x : Option Side). IsOfLink opts link x) (sym e) (subst (λ (x : Option (List LinkAct)). IsOfLink opts x None) (sym d) tt)

-- one thing due is another by the same premise
pub once_as : (s : Standing) (P Q : Type 0) (x : Due) (events : List SessionEvent) → (P → Q) → (Q → P) → DueOnce s P x events → DueOnce s Q x events
once_as s P Q x events f g (inl e) = inl ((f e.0.0, e.0.1), e.1)
once_as s P Q x events f g (inr e) = inr ((λ q. e.0 (g q.0, q.1)), e.1)

-- once by what was due so far
pub once_by : (s t : Standing) (P : Type 0) (x : Due) (events : List SessionEvent) → t.dues ≡ s.dues → DueOnce s P x events → DueOnce t P x events
once_by s t P x events e d = subst (λ (l : List Due). Exactly (P × (Contains l x → ⊥)) (λ e. e ≡ IsDue x ∷ []) events) (sym e) d

-- what one due adds to those so far
pub dues_by : (b c : Basis) (s t u : Standing) (P : Type 0) (x : Due) (events : List SessionEvent) → t.dues ≡ s.dues → DueOnce u P x events → (after_all b t events).dues ≡ (after_all c s events).dues
dues_by b c s t u P x events e (inl k) =
    subst (λ (l : List SessionEvent). (after_all b t l).dues ≡ (after_all c s l).dues) (sym k.1) (ap (λ (l : List Due). l ++ x ∷ []) e)
dues_by b c s t u P x events e (inr k) =
    subst (λ (l : List SessionEvent). (after_all b t l).dues ≡ (after_all c s l).dues) (sym k.1) e

pub met_is : (met : Bool) (X : Type 0) → (met ≡ false → X → ⊥) → X → met ≡ true
met_is true X never x = refl
met_is false X never x = absurd (never refl x)

-- octets behind octets
pub adds_on : (told told' told'' : Option (List ℕ)) (xs ys : List ℕ) → Adds told xs told' → Adds told' ys told'' → Adds told (xs ++ ys) told''
adds_on None told' told'' xs ys a b = subst (λ (t : Option (List ℕ)). Adds t ys told'') a b
adds_on (Some l) told' told'' xs ys a b = subst (λ (t : Option (List ℕ)). Adds t ys told'') a b ∙ ap (λ (x : List ℕ). Some x) (append_assoc l xs ys)

-- the handshake isn't to be told
shake_none : (l : Life) (peer : Option Peer) (p : Story) → LifeStep l l p [] → ShakeStep l l peer peer p []
shake_none l peer p s = record { dues = s.dues; after_is = s.after_is; due = s.due; same = s.same; grows = s.grows; peer_is = inl (refl, refl) }

pub shakes_not : (l : Life) (peer : Option Peer) (k : Kept) → ((l.dials ≡ false) → (IsSome l.told → ⊥) → l.asked.shaken ≡ true) → ShakesBy l l peer peer k false
shakes_not l peer k never = λ p acts due r. (
  [],
  shake_none l peer p (no_step l p due),
  inr ((λ q is may. may.1.1 (subst (λ (b : Bool). Tells b ((q : Peer) × Contains p.dues (Request (Shaken l.object q)))) (never may.0 may.1.0) due.shaken)), refl),
  refl,
)

-- it isn't done
pub shakes_none : (l : Life) (peer : Option Peer) (k : Kept) → IsUnshaken k → ShakesBy l l peer peer k false
shakes_none l peer k un = λ p acts due r. ([], shake_none l peer p (no_step l p due), inr ((λ q is may. unshaken_of p.opts acts k r un q is), refl), refl)

-- it is told
pub shakes_now : (l : Life) (was : Option Peer) (k : Kept) (peer : Peer) → IsShaken peer k → l.dials ≡ false → (IsSome l.told → ⊥) → l.asked.shaken ≡ false
    → ShakesBy l (record l { asked = record l.asked { shaken = true } }) was (Some peer) k true
shakes_now l was k peer is dials told before = λ p acts due r. (
  IsDue (Request (Shaken l.object peer)) ∷ [],
  (let x = Request (Shaken l.object peer) in
      let d = due_shaken l l.asked p.dues due peer in
      record {
        dues = p.dues ++ x ∷ [];
        after_is = refl;
        due = record { linger = d.linger; link = d.link; over = d.over; output = d.output; delimiter = d.delimiter; shaken = d.shaken };
        same = record { object_is = refl; end_is = refl; kind_is = refl; dials_is = refl; linger_is = refl; state_is = refl; told_is = refl; waits_is = refl };
        grows = λ y c. contains_on p.dues x y c;
        peer_is = inr (peer, refl, Contains-push p.dues x);
      }),
  inl (
    peer,
    (λ d decodes. shaken_of p.opts acts k r peer is d decodes),
    (dials, (told, subst (λ (b : Bool). Tells b ((q : Peer) × Contains p.dues (Request (Shaken l.object q)))) before due.shaken)),
    refl,
  ),
  refl,
)

-- an accepted session asks, one after another
asks_as : (s t : Standing) (dials dials' : Bool) (object object' : ObjId) (events : List SessionEvent) → t ≡ s → dials' ≡ dials → object' ≡ object
    → DueOnce t (dials' ≡ false) (Request (AskOver object')) events → DueOnce s (dials ≡ false) (Request (AskOver object)) events
asks_as s t dials dials' object object' events es ed eo k =
    subst (λ (x : Standing). DueOnce x (dials ≡ false) (Request (AskOver object)) events) es
    (subst (λ (x : Bool). DueOnce t (x ≡ false) (Request (AskOver object)) events) ed
    (subst (λ (x : ObjId). DueOnce t (dials' ≡ false) (Request (AskOver x)) events) eo k))

pub asks_by : (l l1 l2 : Life) → LifeDoes l l1 (λ b s. DueOnce s ((b.dials ≡ false) × (IsSome s.state × (s.state ≡ Some Gone → ⊥))) (Request (AskEnd b.end Link)))
    → LifeDoes l1 l2 (λ b s. DueOnce s (b.dials ≡ false) (Request (AskOver b.object))) → Asks l l2
asks_by l l1 l2 f g = λ p due.
    let d = f p due in
    let q = with_dues p d.1.dues in
    let e = g q d.1.due in
    let basis = basis_is l l1 p q d.1.same refl refl in
    record {
      asks = d.0;
      over = e.0;
      dues = e.1.dues;
      asks_are = d.2;
      over_is = asks_as (after_all (basis_of l p) (standing_of l p) d.0) (standing_of l1 q) l.dials l1.dials l.object l1.object e.0 (sym d.1.after_is) d.1.same.dials_is d.1.same.object_is e.2;
      after_is = after_on (basis_of l p) (standing_of l p) (standing_of l1 q) (standing_of l2 (with_dues q e.1.dues)) d.0 e.0 d.1.after_is
          (subst (λ (x : Basis). after_all x (standing_of l1 q) e.0 ≡ standing_of l2 (with_dues q e.1.dues)) basis e.1.after_is);
      due = e.1.due;
      same = same_on l l1 l2 d.1.same e.1.same;
      grows = λ x c. e.1.grows x (d.1.grows x c);
      shaken_is = e.1.shaken_is ∙ d.1.shaken_is;
    }

-- the next dial comes after the interval
pub dials_after : (now : ℕ) (dials : Bool) (p : Story) (d d' : DiallerState) → d' ≡ record d { dial_at = later now d.interval } → IsOfDials dials p (Some d) → IsOfDials dials (record p { dial_at = later now p.interval }) (Some d')
dials_after now true p d d' e k = (
  ap (λ (x : DiallerState). x.opts) e ∙ k.0,
  (ap (λ (x : DiallerState). x.interval) e ∙ k.1.0, ap (λ (x : DiallerState). x.dial_at) e ∙ ap (λ (n : ℕ). later now n) k.1.0),
)
dials_after now false p d d' e k = absurd k
