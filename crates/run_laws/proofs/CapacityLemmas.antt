-- The owners of a pair, and what an object is, stay in each step of the rows, and with them the capacities of pipes and what is exact there.
use Rattle.std.specs.Prelude.{◌≡◌, ◌≤◌, ◌<◌, ◌+◌, ◌⊎◌, ℕ, zero, suc, Bool, true, false, not, List, [], ◌∷◌, ◌++◌, Option, Some, None, length, slice_index_or, slice_set, refl}
use Rattle.std.proofs.Common.{arith, sym, ap, ◌∙◌, subst, inl, inr, length-append, length-set}
use Rattle.std.specs.List.{AllByRecursion}
use Rattle.std.proofs.Math.ListN.{get_or-append}
use Rattle.zq_base.specs.declared.options.Options.{Options}
use Rattle.zq_base.specs.Ends.{PipeId, other_end}
use Rattle.spec_pattern.specs.PipeStep.{PipeStep, Commit, FullLook, RoomLook, Take, EmptyLook, DelimiterLook, WaitingLook, Seal, committed_to, taken_from, sealed_in, most_commits, HasRoomAfter, IsFullAfter, Follows, AreExact}
use Rattle.spec_control.specs.declared.stage.Stage.TheVariants.{Finished}
use Rattle.spec_control.specs.declared.entry.Item.{Item}
use Rattle.spec_control.specs.declared.entry.Item.TheVariants.{Event, Seen}
use Rattle.spec_control.specs.Row.{Row, nobody, is_session, LinkEvent, OwnComes, PlugComes, IsTold, TermComes, AsksOver, RequestComes, ReapComes, AckComes, RootAsked, StopPut, StopComes, AsksForLink, AsksForLinger, link_after}
use Rattle.spec_control.specs.Rows.{Rows, PairRow, no_pair, root_alone, obj, pair, end_owner, with_object, with_pair, Step, makes_object, draws_pair, opens_pair, link_moves, pair_moves, object_ends}
use Rattle.spec_control.specs.Control.{Control, begun, next_pair, owner_of}
use Rattle.spec_control.specs.After.{after}
use Rattle.spec_control.specs.ControlRun.{FitsItem, after_item, after_all, IsControlRun}
use Rattle.control_laws.specs.Prompt.{HasShape}
use Rattle.control_laws.proofs.ListLemmas.{placed}
use Rattle.control_laws.proofs.RootLemmas.{runs_are_kept}
use Rattle.control_laws.specs.Steps.{Steps, no_step, one_more}
use Rattle.control_laws.proofs.StepsLemmas.{events_are_steps}
use Rattle.spec_run.specs.OwnedRun.{marks_by_sort, pipe_capacity}
use Rattle.run_laws.specs.CapacitiesStay.{pipe_at}
use Rattle.run_laws.proofs.OrderLemmas.{more_run, more_state}

-- what stays of objects and pairs that are there
record Stay (s t : Rows) : Type 0 where
  objects : length s.objects ≤ length t.objects
  pairs : length s.pairs ≤ length t.pairs
  kinds : (i : ℕ) → i < length s.objects → (obj t i).kind ≡ (obj s i).kind
  options : (i : ℕ) → i < length s.objects → (obj t i).options ≡ (obj s i).options
  owners : (k : ℕ) (a : Bool) → k < length s.pairs → end_owner (pair t k) a ≡ end_owner (pair s k) a

itself : (s : Rows) → Stay s s
itself s = record { objects = omega arith; pairs = omega arith; kinds = λ i lt. refl; options = λ i lt. refl; owners = λ k a lt. refl }

stay_more : (s t u : Rows) → Stay s t → Stay t u → Stay s u
stay_more s t u f g = record {
  objects = let a = f.objects in let b = g.objects in omega (arith, a, b);
  pairs = let a = f.pairs in let b = g.pairs in omega (arith, a, b);
  kinds = λ i lt. g.kinds i (let a = f.objects in omega (arith, a, lt)) ∙ f.kinds i lt;
  options = λ i lt. g.options i (let a = f.objects in omega (arith, a, lt)) ∙ f.options i lt;
  owners = λ k a lt. g.owners k a (let b = f.pairs in omega (arith, b, lt)) ∙ f.owners k a lt;
}

-- an element of a list in which one was set
data IsSet {X : Type 0} (xs : List X) (i : ℕ) (y d : X) (x : ℕ) : Type 0 where
  here : x ≡ i → slice_index_or (slice_set xs i y) x d ≡ y → IsSet xs i y d x
  as_before : slice_index_or (slice_set xs i y) x d ≡ slice_index_or xs x d → IsSet xs i y d x

is_set : {X : Type 0} (xs : List X) (i : ℕ) (y d : X) (x : ℕ) → IsSet xs i y d x
is_set [] i y d x = as_before refl
is_set (z ∷ xs) zero y d zero = here refl refl
is_set (z ∷ xs) zero y d (suc x) = as_before refl
is_set (z ∷ xs) (suc i) y d zero = as_before refl
is_set {X} (z ∷ xs) (suc i) y d (suc x) = more (is_set xs i y d x)
  where
    more : IsSet xs i y d x → IsSet (z ∷ xs) (suc i) y d (suc x)
    more (here e f) = here (ap suc e) f
    more (as_before f) = as_before f

set_length : {X : Type 0} (xs : List X) (i : ℕ) (y : X) → length xs ≤ length (slice_set xs i y)
set_length xs i y = let l = length-set xs i y in omega (arith, l)

push_length : {X : Type 0} (xs : List X) (y : X) → length xs ≤ length (xs ++ y ∷ [])
push_length xs y = let l = length-append xs (y ∷ []) in omega (arith, l)

-- a row is written that is the same object's
writes_row : (s : Rows) (i : ℕ) (o : Row) → o.kind ≡ (obj s i).kind → o.options ≡ (obj s i).options → Stay s (with_object i o s)
writes_row s i o kind options = record {
  objects = set_length s.objects i o;
  pairs = omega arith;
  kinds = λ x lt. kinds x (is_set s.objects i o nobody x);
  options = λ x lt. options_then x (is_set s.objects i o nobody x);
  owners = λ k a lt. refl;
}
  where
    kinds : (x : ℕ) → IsSet s.objects i o nobody x → (slice_index_or (slice_set s.objects i o) x nobody).kind ≡ (obj s x).kind
    kinds x (here at now) = ap (λ (r : Row). r.kind) now ∙ kind ∙ ap (λ (n : ℕ). (obj s n).kind) (sym at)
    kinds x (as_before same) = ap (λ (r : Row). r.kind) same

    options_then : (x : ℕ) → IsSet s.objects i o nobody x → (slice_index_or (slice_set s.objects i o) x nobody).options ≡ (obj s x).options
    options_then x (here at now) = ap (λ (r : Row). r.options) now ∙ options ∙ ap (λ (n : ℕ). (obj s n).options) (sym at)
    options_then x (as_before same) = ap (λ (r : Row). r.options) same

same_ends : (p q : PairRow) (a : Bool) → p.a_owner ≡ q.a_owner → p.b_owner ≡ q.b_owner → end_owner p a ≡ end_owner q a
same_ends p q true e f = e
same_ends p q false e f = f

-- and a pair of the same owners
writes_pair : (s : Rows) (i : ℕ) (p : PairRow) → p.a_owner ≡ (pair s i).a_owner → p.b_owner ≡ (pair s i).b_owner → Stay s (with_pair i p s)
writes_pair s i p first last = record {
  objects = omega arith;
  pairs = set_length s.pairs i p;
  kinds = λ x lt. refl;
  options = λ x lt. refl;
  owners = λ k a lt. owners k a (is_set s.pairs i p no_pair k);
}
  where
    owners : (k : ℕ) (a : Bool) → IsSet s.pairs i p no_pair k → end_owner (slice_index_or (slice_set s.pairs i p) k no_pair) a ≡ end_owner (pair s k) a
    owners k a (here at now) = ap (λ (r : PairRow). end_owner r a) now ∙ same_ends p (pair s i) a first last ∙ ap (λ (n : ℕ). end_owner (pair s n) a) (sym at)
    owners k a (as_before same) = ap (λ (r : PairRow). end_owner r a) same

-- a link's event leaves what the object is
same_marks : (e : LinkEvent) (o : Row) → ((link_after e o).kind ≡ o.kind) × ((link_after e o).options ≡ o.options)
same_marks OwnComes o = (refl, refl)
same_marks PlugComes o = (refl, refl)
same_marks IsTold o = (refl, refl)
same_marks TermComes o = (refl, refl)
same_marks AsksOver o = (refl, refl)
same_marks RequestComes o = (refl, refl)
same_marks ReapComes o = (refl, refl)
same_marks AckComes o = (refl, refl)
same_marks RootAsked o = (refl, refl)
same_marks StopPut o = (refl, refl)
same_marks StopComes o = (refl, refl)
same_marks AsksForLink o = (refl, refl)
same_marks AsksForLinger o = (refl, refl)

step_stays : (old new : Rows) → Step old new → Stay old new
step_stays old new (makes_object w o unended owner alive fits e) =
    subst (Stay old) (sym e) (record {
      objects = push_length old.objects o;
      pairs = omega arith;
      kinds = λ i lt. ap (λ (r : Row). r.kind) (get_or-append old.objects (o ∷ []) nobody i lt);
      options = λ i lt. ap (λ (r : Row). r.options) (get_or-append old.objects (o ∷ []) nobody i lt);
      owners = λ k a lt. refl;
    })
step_stays old new (draws_pair p a b e) =
    subst (Stay old) (sym e) (record {
      objects = omega arith;
      pairs = push_length old.pairs p;
      kinds = λ i lt. refl;
      options = λ i lt. refl;
      owners = λ k x lt. ap (λ (r : PairRow). end_owner r x) (get_or-append old.pairs (p ∷ []) no_pair k lt);
    })
step_stays old new (opens_pair k a p moves u v e) = subst (Stay old) (sym e) (writes_pair old k p moves.a_owner moves.b_owner)
step_stays old new (link_moves c event may e) =
    let same = same_marks event (obj old c) in subst (Stay old) (sym e) (writes_row old c (link_after event (obj old c)) same.0 same.1)
step_stays old new (pair_moves k a event p other moves e) = subst (Stay old) (sym e) (writes_pair old k p moves.a_owner moves.b_owner)
step_stays old new (object_ends c may e) = subst (Stay old) (sym e) (writes_row old c (record (obj old c) { stage = Finished }) refl refl)

steps_stay : (s t : Rows) → Steps s t → Stay s t
steps_stay s t no_step = itself s
steps_stay s t (one_more m u steps step) = stay_more s m t (steps_stay s m steps) (step_stays m t step)

item_stays : {N S : Type 0} (io : ℕ) (past : List (Item N S)) (item : Item N S) → IsControlRun (begun io) past → FitsItem (after_all past (begun io)) item
    → Stay (after_all past (begun io)).rows (after_item item (after_all past (begun io))).rows
item_stays io past (Event entry) run fits = steps_stay (after_all past (begun io)).rows (after entry.did (after_all past (begun io))).rows (events_are_steps _ _ io past run entry.did fits)
item_stays io past (Seen sight) run fits = itself (after_all past (begun io)).rows

run_stays : {N S : Type 0} (io : ℕ) (items past : List (Item N S)) → IsControlRun (begun io) past → IsControlRun (after_all past (begun io)) items
    → Stay (after_all past (begun io)).rows (after_all items (after_all past (begun io))).rows
run_stays io [] past before run = itself (after_all past (begun io)).rows
run_stays io (item ∷ items) past before run =
    let same = more_state past item (begun io) in
    stay_more (after_all past (begun io)).rows (after_item item (after_all past (begun io))).rows (after_all items (after_item item (after_all past (begun io)))).rows (item_stays io past item before run.0)
    (subst (λ (c : Control). Stay c.rows (after_all items c).rows) same
    (run_stays io items (past ++ item ∷ []) (more_run past item (begun io) before run.0) (subst (λ (c : Control). IsControlRun c items) (sym same) run.1)))

-- ---- owners are there

abbrev is_unowned : Option ℕ → Bool
is_unowned None = true
is_unowned (Some w) = false

-- an end's owner is an object that is there
owner_there : (s : Rows) → HasShape s → 0 < length s.objects → (k : ℕ) (a : Bool) → end_owner (pair s k) a < length s.objects
owner_there s shape some k a = by (shape.ends k a)
  where
    first : (b : Bool) → end_owner no_pair b ≡ 0
    first true = refl
    first false = refl

    by : ((w : ℕ) × ((obj s (end_owner (pair s k) a)).owner ≡ Some w)) ⊎ (pair s k ≡ no_pair) → end_owner (pair s k) a < length s.objects
    by (inl owned) = placed (λ (r : Row). is_unowned r.owner) s.objects nobody (end_owner (pair s k) a) refl (ap is_unowned owned.1)
    by (inr none) = let at = ap (λ (r : PairRow). end_owner r a) none ∙ first a in omega (arith, at, some)

-- ---- capacities

marks_same : (a b c d : Bool) (v w x y : Options) → a ≡ c → b ≡ d → v ≡ x → w ≡ y → marks_by_sort a b v w ≡ marks_by_sort c d x y
marks_same a b c d v w x y e f g h = cc

same_capacity : (c d : Control) → Stay c.rows d.rows → HasShape c.rows → 0 < length c.rows.objects → (p : PipeId) → p.pair.0 < next_pair c → pipe_capacity d p ≡ pipe_capacity c p
same_capacity c d stay shape some p made =
    let here = owner_there c.rows shape some p.pair.0 p.a in
    let there = owner_there c.rows shape some p.pair.0 (not p.a) in
    let writer = stay.owners p.pair.0 p.a made in
    let reader = stay.owners p.pair.0 (not p.a) made in
    marks_same (is_session (obj d.rows (owner_of d p)).kind) (is_session (obj d.rows (owner_of d (other_end p))).kind)
    (is_session (obj c.rows (owner_of c p)).kind) (is_session (obj c.rows (owner_of c (other_end p))).kind)
    (obj d.rows (owner_of d p)).options (obj d.rows (owner_of d (other_end p))).options (obj c.rows (owner_of c p)).options (obj c.rows (owner_of c (other_end p))).options
    (ap (λ (n : ℕ). is_session (obj d.rows n).kind) writer ∙ ap is_session (stay.kinds (owner_of c p) here))
    (ap (λ (n : ℕ). is_session (obj d.rows n).kind) reader ∙ ap is_session (stay.kinds (owner_of c (other_end p)) there))
    (ap (λ (n : ℕ). (obj d.rows n).options) writer ∙ stay.options (owner_of c p) here)
    (ap (λ (n : ℕ). (obj d.rows n).options) reader ∙ stay.options (owner_of c (other_end p)) there)

pub capacities_stay : {N S : Type 0} (io : ℕ) (items more : List (Item N S)) → IsControlRun (begun io) items → IsControlRun (after_all items (begun io)) more → (p : PipeId) → p.pair.0 < next_pair (after_all items (begun io))
    → pipe_capacity (after_all more (after_all items (begun io))) p ≡ pipe_capacity (after_all items (begun io)) p
capacities_stay io items more run rest p made =
    same_capacity (after_all items (begun io)) (after_all more (after_all items (begun io))) (run_stays io more items run rest) (runs_are_kept _ _ io items run).shape
    (let l = (run_stays io items [] tt run).objects in let one : length root_alone.objects ≡ 1 = refl in omega (arith, l, one)) p made

-- ---- exact steps

-- a step follows as well where its pipe has the same capacity
follows_as : (c d : PipeId → ℕ) (past : List PipeStep) (s : PipeStep) → d (pipe_at s) ≡ c (pipe_at s) → Follows c past s → Follows d past s
follows_as c d past (Commit p m) same now = subst (λ n. HasRoomAfter n p past) (sym same) now
follows_as c d past (FullLook p) same now = subst (λ n. IsFullAfter n p past) (sym same) now
follows_as c d past (RoomLook p) same now = subst (λ n. HasRoomAfter n p past) (sym same) now
follows_as c d past (Take p m) same now = now
follows_as c d past (EmptyLook p) same now = now
follows_as c d past (DelimiterLook p) same now = now
follows_as c d past (WaitingLook p) same now = now
follows_as c d past (Seal p) same now = now

exact_as : (c d : PipeId → ℕ) (past steps : List PipeStep) → AllByRecursion (λ s. d (pipe_at s) ≡ c (pipe_at s)) steps → AreExact c past steps → AreExact d past steps
exact_as c d past [] same exact = tt
exact_as c d past (s ∷ steps) same exact = (follows_as c d past s same.0 exact.0, exact_as c d (past ++ s ∷ []) steps same.1 exact.1)

all_as : {X : Type 0} (P Q : X → Type 0) → ((x : X) → P x → Q x) → (xs : List X) → AllByRecursion P xs → AllByRecursion Q xs
all_as P Q f [] all = tt
all_as P Q f (x ∷ xs) all = (f x all.0, all_as P Q f xs all.1)

pub steps_stay_exact : {N S : Type 0} (io : ℕ) (items more : List (Item N S)) → IsControlRun (begun io) items → IsControlRun (after_all items (begun io)) more
    → (steps : List PipeStep) → AllByRecursion (λ s. (pipe_at s).pair.0 < next_pair (after_all items (begun io))) steps
    → AreExact (pipe_capacity (after_all items (begun io))) [] steps → AreExact (pipe_capacity (after_all more (after_all items (begun io)))) [] steps
steps_stay_exact io items more run rest steps made exact =
    exact_as (pipe_capacity (after_all items (begun io))) (pipe_capacity (after_all more (after_all items (begun io)))) [] steps
    (all_as (λ s. (pipe_at s).pair.0 < next_pair (after_all items (begun io))) (λ s. pipe_capacity (after_all more (after_all items (begun io))) (pipe_at s) ≡ pipe_capacity (after_all items (begun io)) (pipe_at s))
    (λ s lt. capacities_stay io items more run rest (pipe_at s) lt) steps made)
    exact
