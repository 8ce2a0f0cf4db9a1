-- What a worker does in a turn is what its event does.
use Rattle.std.specs.Prelude.{◌≡◌, ◌≢◌, ◌<◌, ◌≤◌, ◌==◌, ◌&&◌, ◌||◌, ℕ, zero, suc, Bool, true, false, not, List, [], ◌∷◌, ◌++◌, Option, Some, None, find, if◌then◌else◌, length, nat_lt, slice_get, slice_set, refl}
use Rattle.std.specs.List.{list_any}
use Rattle.std.proofs.Common.{arith, sym, ap, ◌∙◌, subst, append-nil, append_assoc, length-set}
use Rattle.std.proofs.lemmas.Bool.{eq-eqb, lt-ltb, ltb-true}
use Rattle.zq_base.specs.Ends.{PipeId}
use Rattle.spec_pattern.specs.PipeStep.{PipeStep}
use Rattle.spec_control.specs.declared.letter.Letter.{Letter}
use Rattle.spec_control.specs.declared.entry.Did.TheVariants.{Delivered}
use Rattle.spec_control.specs.declared.entry.Item.{Item}
use Rattle.spec_control.specs.Control.{Control}
use Rattle.spec_control.specs.ControlRun.{is_between, MayDeliver, Fits, FitsItem, after_item}
use Rattle.control_laws.proofs.ListLemmas.{never, and}
use Rattle.spec_control.specs.OwnAsks.{is_none}
use Rattle.spec_control.specs.Moments.{reaper_slots, first_waiting}
use Rattle.spec_run.specs.Act.{Act, Deed, Tries, Shuts, Fetches, Idles, Works, Looks, AsksRoot, Reads, all_acts}
use Rattle.spec_run.specs.Standing.{ActorStanding, has_finished}
use Rattle.spec_run.specs.InTurns.{ActorStep, TakesFirstWaiting, ReaperStep}
use Rattle.spec_run.specs.CoreEvents.{CoreEvent, NextLine, TakeFrom, Made, deeds_made, control_behind, may_take, StepsUnless, LineDoes, TakenBy, TakeDoes, EventDoes, EventsGo}
use Rattle.run_laws.proofs.GoesLemmas.{made_acts}
use Rattle.zq_world.proofs.AskedLemmas.{finished_step}
use Rattle.replay_laws.proofs.WalkLemmas.{leaves, Walks, leaves_on, Reached}
use Rattle.replay_laws.proofs.TurnLemmas.{at_place, WorksSo, acts_so, reaps_so, serves_so}
use Rattle.replay_laws.specs.TurnsAreEvents.{fetched, step_events}
use Rattle.replay_laws.proofs.DeedLemmas.{is_told, made_of}
use Rattle.replay_laws.proofs.ThinLemmas.{after_of_walk}
use Rattle.replay_laws.proofs.CloseLemmas.{closed_by, letter_spares}
use Rattle.replay_laws.proofs.OpenLemmas.{AllOpen, open_aside, open_step, reapers_alone}

-- what is found is there
found_has : (test : ℕ → Bool) (xs : List ℕ) (k : ℕ) → find test xs ≡ Some k → list_any (λ x. x == k) xs ≡ true
found_has test [] k e = absurd (nope e)
  where
    nope : ◌≡◌ {A = Option ℕ} None (Some k) → ⊥
    nope f = cc
found_has test (x ∷ xs) k e = by (test x) e (found_has test xs k)
  where
    by : (b : Bool) → (if b then Some x else find test xs) ≡ Some k → (find test xs ≡ Some k → list_any (λ y. y == k) xs ≡ true) → ((x == k) || list_any (λ y. y == k) xs) ≡ true
    by true f rest = ap (λ (b : Bool). b || list_any (λ y. y == k) xs) (eq-eqb x k (let same : x ≡ k = cc in same))
    by false f rest = later (x == k) (rest f)
      where
        later : (a : Bool) → list_any (λ y. y == k) xs ≡ true → (a || list_any (λ y. y == k) xs) ≡ true
        later true g = refl
        later false g = g

-- ---- standings
pub place_get : (sts : List ActorStanding) (w : ℕ) → w < length sts → slice_get sts w ≡ Some (at_place sts w)
place_get [] w lt = absurd (omega (arith, lt))
place_get (x ∷ sts) zero lt = refl
place_get (x ∷ sts) (suc w) lt = place_get sts w (omega (arith, lt))

pub place_here : (sts : List ActorStanding) (w : ℕ) (new : ActorStanding) → w < length sts → at_place (slice_set sts w new) w ≡ new
place_here [] w new lt = absurd (omega (arith, lt))
place_here (x ∷ sts) zero new lt = refl
place_here (x ∷ sts) (suc w) new lt = place_here sts w new (omega (arith, lt))

pub place_else : (sts : List ActorStanding) (w v : ℕ) (new : ActorStanding) → v ≢ w → at_place (slice_set sts w new) v ≡ at_place sts v
place_else [] w v new other = refl
place_else (x ∷ sts) zero zero new other = absurd (other refl)
place_else (x ∷ sts) zero (suc v) new other = refl
place_else (x ∷ sts) (suc w) zero new other = refl
place_else (x ∷ sts) (suc w) (suc v) new other = place_else sts w v new (λ e. other (ap suc e))

module _ {N S : Type 0} where
  -- ---- events, one after others
  pub behind_is : (made : List (Made N S)) (c : Control) → control_behind made c ≡ leaves c (all_acts (deeds_made made))
  behind_is made c = after_of_walk (all_acts (deeds_made made)) c

  behind_both : (xs ys : List (Made N S)) (c : Control) → control_behind (xs ++ ys) c ≡ control_behind ys (control_behind xs c)
  behind_both xs ys c =
      behind_is (xs ++ ys) c ∙ ap (leaves c) (made_acts xs ys) ∙ leaves_on (all_acts (deeds_made xs)) (all_acts (deeds_made ys)) c
      ∙ ap (λ (x : Control). leaves x (all_acts (deeds_made ys))) (sym (behind_is xs c)) ∙ sym (behind_is ys (control_behind xs c))

  pub events_on : (io : ℕ) (es fs : List CoreEvent) (c : Control) (old mid new : List ActorStanding) (made more : List (Made N S)) → EventsGo io c es old made mid → EventsGo io (control_behind made c) fs mid more new
      → EventsGo io c (es ++ fs) old (made ++ more) new
  events_on io [] fs c old mid new made more go on =
      subst (λ (l : List (Made N S)). EventsGo io c fs old (l ++ more) new) (sym go.0)
      (subst (λ (sts : List ActorStanding). EventsGo io c fs sts more new) go.1 (subst (λ (l : List (Made N S)). EventsGo io (control_behind l c) fs mid more new) go.0 on))
  events_on io (e ∷ es) fs c old mid new made more go on =
      let next = go.0 in let first = go.1 in let rest = go.2 in (
        next,
        first,
        rest ++ more,
        go.3,
        events_on io es fs (control_behind first c) next mid new rest more go.4
            (subst (λ (d : Control). EventsGo io d fs mid more new) (ap (λ (l : List (Made N S)). control_behind l c) go.5 ∙ behind_both first rest c) on),
        ap (λ (l : List (Made N S)). l ++ more) go.5 ∙ append_assoc first rest more,
      )

  pub one_goes : (io : ℕ) (e : CoreEvent) (c : Control) (old new : List ActorStanding) (made : List (Made N S)) → EventDoes io c e old made new → EventsGo io c (e ∷ []) old made new
  one_goes io e c old new made does = (new, made, [], does, (refl, refl), sym (append-nil made))

  -- ---- a worker's step
  -- its event was made, and of all standings its own alone is another
  pub record Stepped (c : Control) (w : ℕ) (next : ActorStanding) (ds : List (Deed N S)) (sts : List ActorStanding) (n : ℕ) : Type 0 where
    pub new : List ActorStanding
    pub go : EventsGo 1 c (step_events n w ds) sts (made_of w ds) new
    pub count : length new ≡ length sts
    pub here : w < n → at_place new w ≡ next
    pub others : (v : ℕ) → v ≢ w → at_place new v ≡ at_place sts v
    pub open_still : AllOpen (leaves c (all_acts ds)) new

  -- an actor's event
  line_events : (n w : ℕ) (ds : List (Deed N S)) → w < n → step_events n w ds ≡ NextLine w ∷ []
  line_events n w ds lt = ap (λ (b : Bool). if b then NextLine w ∷ [] else fetched ds) (lt-ltb w n lt)

  other_events : (n w : ℕ) (ds : List (Deed N S)) → n ≤ w → step_events n w ds ≡ fetched ds
  other_events n w ds le = ap (λ (b : Bool). if b then NextLine w ∷ [] else fetched ds) (not_lt (nat_lt w n) refl)
    where
      not_lt : (b : Bool) → nat_lt w n ≡ b → b ≡ false
      not_lt true e = let lt = ltb-true w n e in absurd (omega (arith, lt, le))
      not_lt false e = refl

  never_none : {A : Type 0} (d : Deed N S) (ds : List (Deed N S)) → d ∷ ds ≡ [] → A
  never_none d ds e = absurd (nope e)
    where
      nope : d ∷ ds ≡ [] → ⊥
      nope f = cc

  -- one deed of an actor, that tells
  one_told : (old new : ActorStanding) (d : Deed N S) → ActorStep old (d ∷ []) new → is_told d ≡ true
  one_told old new (Tries t) s = refl
  one_told old new (Shuts acts) s = refl
  one_told old new (Fetches slot acts) s = refl
  one_told old new (Idles m) s = absurd s
  one_told old new (Works acts) s = refl
  one_told old new (Looks m) s = absurd s
  one_told old new (AsksRoot acts) s = refl
  one_told old new (Reads now) s = refl

  lines_go : (n w : ℕ) (c : Control) (sts : List ActorStanding) (made : List (Made N S)) (new : List ActorStanding) (finished : Bool) → w < length sts → has_finished (at_place sts w) ≡ finished → StepsUnless finished w (at_place sts w) sts made new
      → EventsGo 1 c (NextLine w ∷ []) sts made new
  lines_go n w c sts made new finished lt is does =
      one_goes 1 (NextLine w) c sts new made
      (subst (λ (found : Option ActorStanding). LineDoes w found sts made new) (sym (place_get sts w lt))
      (subst (λ (b : Bool). StepsUnless b w (at_place sts w) sts made new) (sym is) does))

  module _ (cap : PipeId → ℕ) (c : Control) (past : List PipeStep) (n w : ℕ) (sts : List ActorStanding) (next : ActorStanding) (r : Reached N S c) (many : length sts ≡ n) (all : AllOpen c sts) where
    idles : (ds : List (Deed N S)) → w < n → ds ≡ [] → has_finished (at_place sts w) ≡ true → next ≡ at_place sts w → Stepped c w next ds sts n
    idles ds lt none done same = record {
      new = sts;
      go = subst (λ l. EventsGo 1 c l sts (made_of w ds) sts) (sym (line_events n w ds lt))
          (subst (λ l. EventsGo 1 c (NextLine w ∷ []) sts (made_of w l) sts) (sym none) (lines_go n w c sts [] sts true (omega (arith, lt, many)) done (refl, refl)));
      count = refl;
      here = λ x. sym same;
      others = λ v other. refl;
      open_still = subst (λ l. AllOpen (leaves c (all_acts l)) sts) (sym none) all;
    }

    acts_once : (d : Deed N S) → w < n → has_finished (at_place sts w) ≡ false → ActorStep (at_place sts w) (d ∷ []) next → Walks cap c past (all_acts (d ∷ [])) → Stepped c w next (d ∷ []) sts n
    acts_once d lt undone step walk =
        let within : w < length sts = omega (arith, lt, many) in
        let here = place_here sts w next within in
        record {
          new = slice_set sts w next;
          go = subst (λ l. EventsGo 1 c l sts (made_of w (d ∷ [])) (slice_set sts w next)) (sym (line_events n w (d ∷ []) lt))
              (subst (λ (l : List (Made N S)). EventsGo 1 c (NextLine w ∷ []) sts l (slice_set sts w next)) (sym (made_one d (one_told (at_place sts w) next d step)))
              (lines_go n w c sts (record { worker = w; deed = d } ∷ []) (slice_set sts w next) false within undone
              (record { deed = d; next = next; step = step; made_is = refl; new_is = refl })));
          count = length-set sts w next;
          here = λ x. here;
          others = λ v other. place_else sts w v next other;
          open_still = open_step cap c past sts (slice_set sts w next) w (d ∷ []) r walk all (subst (ActorStep (at_place sts w) (d ∷ [])) (sym here) step) (λ v other. place_else sts w v next other);
        }
      where
        made_one : (e : Deed N S) → is_told e ≡ true → made_of w (e ∷ []) ≡ record { worker = w; deed = e } ∷ []
        made_one (Tries t) is = refl
        made_one (Shuts acts) is = refl
        made_one (Fetches slot acts) is = refl
        made_one (Idles m) is = absurd (never is)
        made_one (Works acts) is = refl
        made_one (Looks m) is = absurd (never is)
        made_one (AsksRoot acts) is = refl
        made_one (Reads now) is = refl

    actor_goes : (ds : List (Deed N S)) → w < n → ActorStep (at_place sts w) ds next → Walks cap c past (all_acts ds) → Stepped c w next ds sts n
    actor_goes [] lt step walk = idles [] lt refl step.0 step.1
    actor_goes (d ∷ []) lt step walk = by (has_finished (at_place sts w)) refl
      where
        by : (b : Bool) → has_finished (at_place sts w) ≡ b → Stepped c w next (d ∷ []) sts n
        by true e = never_none d [] (finished_step (at_place sts w) next (d ∷ []) e step).0
        by false e = acts_once d lt e step walk
    actor_goes (d ∷ e ∷ ds) lt step walk = elim step [ ]

    -- the reaper's letter
    may_be_taken : (slot : ℕ) (letter : Letter) → MayDeliver c slot letter → may_take c slot ≡ true
    may_be_taken slot letter may =
        and (not (is_none (c.boxes slot))) (not (list_any (λ o. is_between o && o.slot == slot) c.rows.objects)) (ap (λ l. not (is_none l)) may.oldest) (ap not may.held)

    reaps : (slot : ℕ) (acts : List (Act N S)) → w ≡ n → TakesFirstWaiting slot acts → Walks cap c past (all_acts (Fetches slot acts ∷ [])) → EventDoes 1 c (TakeFrom slot) sts (record { worker = w; deed = Fetches slot acts } ∷ []) sts
    reaps slot acts at f walk =
        let t = f.takes in
        let on = subst (Walks cap c past) (append-nil acts ∙ t.acts_are) walk in
        let fits : Fits c (Delivered (record { 0 = slot }) t.letter t.delivery.answered) = subst (FitsItem c) t.delivery.item_is on.1 in
        let first : first_waiting c ≡ Some slot = ap first_waiting (sym on.0) ∙ f.first in
        let may = may_be_taken slot t.letter fits.may in
        let alone = reapers_alone c slot sts r all first in
        let mine = found_has (λ k. not (is_none (c.boxes k))) (reaper_slots c) slot first in
        let made : List (Made N S) = record { worker = w; deed = Fetches slot acts } ∷ [] in
        subst (λ (b : Bool). TakeDoes b c (length sts) slot sts made sts) (sym may)
        (subst (λ (found : Option ℕ). TakenBy found (list_any (λ k. k == slot) (reaper_slots c)) (length sts) slot sts made sts) (sym alone)
        (subst (λ (b : Bool). TakenBy None b (length sts) slot sts made sts) (sym mine)
        (record { acts = acts; takes = t; made_is = ap (λ (k : ℕ). record { worker = k; deed = Fetches slot acts } ∷ []) (at ∙ sym many); new_is = refl })))

    reaper_goes : (ds : List (Deed N S)) → w ≡ n → ReaperStep ds → Walks cap c past (all_acts ds) → Stepped c w next ds sts n
    reaper_goes (Fetches slot acts ∷ []) at f walk = record {
      new = sts;
      go = subst (λ l. EventsGo 1 c l sts (record { worker = w; deed = Fetches slot acts } ∷ []) sts) (sym (other_events n w (Fetches slot acts ∷ []) (omega (arith, at))))
          (one_goes 1 (TakeFrom slot) c sts sts (record { worker = w; deed = Fetches slot acts } ∷ []) (reaps slot acts at f walk));
      count = refl;
      here = λ lt. absurd (omega (arith, lt, at));
      others = λ v other. refl;
      open_still = open_aside cap (all_acts (Fetches slot acts ∷ [])) c past sts r walk (λ i. ap (closed_by i) (append-nil acts) ∙ letter_spares slot acts f.takes i) all;
    }
    reaper_goes (Idles m ∷ []) at f walk = record {
      new = sts;
      go = subst (λ l. EventsGo {N = N} {S = S} 1 c l sts [] sts) (sym (other_events n w (Idles m ∷ []) (omega (arith, at)))) (refl, refl);
      count = refl;
      here = λ lt. absurd (omega (arith, lt, at));
      others = λ v other. refl;
      open_still = subst (λ (x : Control). AllOpen x sts) (sym (ap (λ (item : Item N S). after_item item c) f.item_is)) all;
    }
    reaper_goes [] at f walk = absurd f
    reaper_goes (Tries t ∷ []) at f walk = absurd f
    reaper_goes (Shuts acts ∷ []) at f walk = absurd f
    reaper_goes (Works acts ∷ []) at f walk = absurd f
    reaper_goes (Looks m ∷ []) at f walk = absurd f
    reaper_goes (AsksRoot acts ∷ []) at f walk = absurd f
    reaper_goes (Reads now ∷ []) at f walk = absurd f
    reaper_goes (d ∷ e ∷ ds) at f walk = elim f [ ]

    pub worker_goes : (ds : List (Deed N S)) → WorksSo n (at_place sts w) next w ds → Walks cap c past (all_acts ds) → Stepped c w next ds sts n
    worker_goes ds (acts_so lt f) walk = actor_goes ds lt f walk
    worker_goes ds (reaps_so at f) walk = reaper_goes ds at f walk
    worker_goes ds (serves_so gt none) walk = record {
      new = sts;
      go = subst (λ l. EventsGo 1 c (step_events n w l) sts (made_of w l) sts) (sym none) (subst (λ l. EventsGo {N = N} {S = S} 1 c l sts [] sts) (sym (other_events n w [] (omega (arith, gt)))) (refl, refl));
      count = refl;
      here = λ lt. absurd (omega (arith, lt, gt));
      others = λ v other. refl;
      open_still = subst (λ l. AllOpen (leaves c (all_acts l)) sts) (sym none) all;
    }
