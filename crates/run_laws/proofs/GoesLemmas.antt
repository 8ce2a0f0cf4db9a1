-- Where a run goes by events, each worker does what its role asks.
use Rattle.std.specs.Prelude.{◌≡◌, ◌≢◌, ◌⊎◌, ◌≤◌, ◌<◌, ◌+◌, ◌==◌, ℕ, zero, suc, Bool, true, false, List, [], ◌∷◌, ◌++◌, Option, Some, None, length, map, replicate, slice_get, slice_set, refl}
use Rattle.std.specs.List.{list_any, range_with_len, AllByRecursion}
use Rattle.std.proofs.Common.{arith, sym, ap, ◌∙◌, subst, inl, inr, append-nil, append_assoc, length-set}
use Rattle.std.proofs.lemmas.Bool.{eq-eqb, ne_eqb, eqb-true, eqb-false}
use Rattle.std.proofs.lemmas.Grind.{flat_map-append}
use Rattle.std.proofs.lemmas.List.{map-append}
use Rattle.std.proofs.lemmas.List.Elements.{filter-append, filter_map-append}
use Rattle.std.proofs.lemmas.List.FromFn.{map-range_with_len_more}
use Rattle.std.proofs.lemmas.Option.{slice_get_within}
use Rattle.spec_control.specs.declared.entry.Item.{Item}
use Rattle.spec_control.specs.Control.{Control, begun}
use Rattle.spec_control.specs.ControlRun.{after_item, after_all}
use Rattle.spec_control.specs.Moments.{Moment, moments_from, reaper_slots}
use Rattle.spec_run.specs.declared.script.ActorScript.{ActorScript}
use Rattle.spec_run.specs.Script.{Script}
use Rattle.spec_run.specs.Act.{Act, Deed, Tries, Shuts, Fetches, Idles, Works, Looks, AsksRoot, Reads, acts_of, all_acts, moment_of, moments_in}
use Rattle.spec_run.specs.Event.{TakesLetter}
use Rattle.spec_run.specs.Standing.{ActorStanding, standing_before, has_finished, DoesDeed, LocalRun}
use Rattle.spec_run.specs.Worker.{Serves, Conducts, Reaps, roles, ReapsSo, ConductsSo, EachDoes}
use Rattle.spec_run.specs.OwnedRun.{OwnedRun, deeds_in, AllWork}
use Rattle.spec_run.specs.InTurns.{ActorStep, worker_count}
use Rattle.spec_run.specs.CoreEvents.{CoreEvent, NextLine, TakeFrom, AskRoot, Tick, Made, deeds_made, made_by_worker, control_behind, may_take, actor_with, StepsUnless, LineDoes, ReapsWhere, TakenBy, TakeDoes, EventDoes, EventsGo, IsOfEvents}
use Rattle.run_laws.proofs.TurnLemmas.{some_is, none_some, before_at, map_length, local_more, each_more, acts_all, serves_all}

-- a list after one of its elements was set
pub get_set_here : {X : Type 0} (xs : List X) (i : ℕ) (x y : X) → slice_get xs i ≡ Some x → slice_get (slice_set xs i y) i ≡ Some y
get_set_here [] i x y e = absurd (none_some e)
get_set_here (z ∷ xs) zero x y e = refl
get_set_here (z ∷ xs) (suc i) x y e = get_set_here xs i x y e

pub get_set_else : {X : Type 0} (xs : List X) (i j : ℕ) (y : X) → j ≢ i → slice_get (slice_set xs i y) j ≡ slice_get xs j
get_set_else [] i j y ne = refl
get_set_else (z ∷ xs) zero zero y ne = absurd (ne refl)
get_set_else (z ∷ xs) zero (suc j) y ne = refl
get_set_else (z ∷ xs) (suc i) zero y ne = refl
get_set_else (z ∷ xs) (suc i) (suc j) y ne = get_set_else xs i j y (λ e. ne (ap suc e))

module _ {N S : Type 0} where
  -- the deeds of a worker, and these by steps
  abbrev pub deeds_by : ℕ → List (Made N S) → List (Deed N S)
  deeds_by w made = deeds_made (made_by_worker w made)

  abbrev pub steps_by : List (Made N S) → ℕ → List (List (Deed N S))
  steps_by made w = map (λ m. m.deed ∷ []) (made_by_worker w made)

  one_step_each : (made : List (Made N S)) → deeds_in (map (λ m. m.deed ∷ []) made) ≡ deeds_made made
  one_step_each [] = refl
  one_step_each (m ∷ made) = ap (λ (l : List (Deed N S)). m.deed ∷ l) (one_step_each made)

  pub steps_are : (w : ℕ) (made : List (Made N S)) → deeds_in (steps_by made w) ≡ deeds_by w made
  steps_are w made = one_step_each (made_by_worker w made)

  pub by-append : (w : ℕ) (xs ys : List (Made N S)) → deeds_by w (xs ++ ys) ≡ deeds_by w xs ++ deeds_by w ys
  by-append w xs ys = ap deeds_made (filter-append (λ (m : Made N S). m.worker == w) xs ys) ∙ map-append (λ (m : Made N S). m.deed) (made_by_worker w xs) (made_by_worker w ys)

  pub by_own : (w v : ℕ) (d : Deed N S) → v ≡ w → deeds_by w (record { worker = v; deed = d } ∷ []) ≡ d ∷ []
  by_own w v d same = rw (eq-eqb v w same) refl

  pub by_other : (w v : ℕ) (d : Deed N S) → v ≢ w → deeds_by w (record { worker = v; deed = d } ∷ []) ≡ []
  by_other w v d ne = rw (ne_eqb v w ne) refl

  -- ---- what an event is: nothing, a deed of an actor, a letter that the reaper takes, or a deed of the conductor

  pub data OneEvent (io : ℕ) (c : Control) (old : List ActorStanding) (made : List (Made N S)) (new : List ActorStanding) : Type 0 where
    did_none : made ≡ [] → new ≡ old → OneEvent io c old made new
    did_act : (w : ℕ) (d : Deed N S) (st next : ActorStanding) → slice_get old w ≡ Some st → DoesDeed st d next → made ≡ record { worker = w; deed = d } ∷ [] → new ≡ slice_set old w next → OneEvent io c old made new
    did_reap : (slot : ℕ) (acts : List (Act N S)) → TakesLetter slot acts → list_any (λ k. k == slot) (reaper_slots c) ≡ true → made ≡ record { worker = length old; deed = Fetches slot acts } ∷ [] → new ≡ old → OneEvent io c old made new
    did_conduct : (d : Deed N S) → ConductsSo d → made ≡ record { worker = length old + 1 + io; deed = d } ∷ [] → new ≡ old → OneEvent io c old made new

  step_deed : (old new : ActorStanding) (d : Deed N S) → ActorStep old (d ∷ []) new → DoesDeed old d new
  step_deed old new (Tries t) s = s
  step_deed old new (Shuts acts) s = s
  step_deed old new (Fetches slot acts) s = absurd s
  step_deed old new (Idles m) s = absurd s
  step_deed old new (Works acts) s = absurd s
  step_deed old new (Looks m) s = absurd s
  step_deed old new (AsksRoot acts) s = absurd s
  step_deed old new (Reads now) s = absurd s

  line_is : (io : ℕ) (c : Control) (actor : ℕ) (old : List ActorStanding) (made : List (Made N S)) (new : List ActorStanding) (found : Option ActorStanding) → slice_get old actor ≡ found → LineDoes actor found old made new
      → OneEvent io c old made new
  line_is io c actor old made new None e h = did_none h.0 h.1
  line_is io c actor old made new (Some st) e h = by (has_finished st) h
    where
      by : (b : Bool) → StepsUnless b actor st old made new → OneEvent io c old made new
      by true k = did_none k.0 k.1
      by false k = did_act actor k.deed st k.next e (step_deed st k.next k.deed k.step) k.made_is k.new_is

  taken_is : (io : ℕ) (c : Control) (slot : ℕ) (old : List ActorStanding) (made : List (Made N S)) (new : List ActorStanding) (found : Option ℕ)
      → TakenBy found (list_any (λ k. k == slot) (reaper_slots c)) (length old) slot old made new → OneEvent io c old made new
  taken_is io c slot old made new (Some actor) h = did_act actor (Fetches slot h.acts) h.st h.next h.there h.fetches h.made_is h.new_is
  taken_is io c slot old made new None h = by (list_any (λ k. k == slot) (reaper_slots c)) refl h
    where
      by : (b : Bool) → list_any (λ k. k == slot) (reaper_slots c) ≡ b → ReapsWhere b (length old) slot old made new → OneEvent io c old made new
      by true e k = did_reap slot k.acts k.takes e k.made_is k.new_is
      by false e k = did_none k.0 k.1

  pub one_event : (io : ℕ) (c : Control) (event : CoreEvent) (old : List ActorStanding) (made : List (Made N S)) (new : List ActorStanding) → EventDoes io c event old made new → OneEvent io c old made new
  one_event io c (NextLine actor) old made new h = line_is io c actor old made new (slice_get old actor) refl h
  one_event io c (TakeFrom slot) old made new h = by (may_take c slot) h
    where
      by : (b : Bool) → TakeDoes b c (length old) slot old made new → OneEvent io c old made new
      by true k = taken_is io c slot old made new (actor_with slot 0 old) k
      by false k = did_none k.0 k.1
  one_event io c AskRoot old made new h = did_conduct (AsksRoot h.acts) h.asks h.made_is h.new_is
  one_event io c (Tick now) old made new h = did_conduct (Reads now) tt h.0 h.1

  pub same_count : (io : ℕ) (c : Control) (old : List ActorStanding) (made : List (Made N S)) (new : List ActorStanding) → OneEvent io c old made new → length new ≡ length old
  same_count io c old made new (did_none none same) = ap length same
  same_count io c old made new (did_act w d st next here does is set) = ap length set ∙ length-set old w next
  same_count io c old made new (did_reap slot acts takes has is same) = ap length same
  same_count io c old made new (did_conduct d so is same) = ap length same

  -- ---- the deeds of all, one event behind another

  pub made_acts : (xs ys : List (Made N S)) → all_acts (deeds_made (xs ++ ys)) ≡ all_acts (deeds_made xs) ++ all_acts (deeds_made ys)
  made_acts xs ys = ap all_acts (map-append (λ (m : Made N S). m.deed) xs ys) ∙ flat_map-append acts_of (deeds_made xs) (deeds_made ys)

  abbrev pub made_moments : List (Made N S) → List (Moment N S)
  made_moments made = moments_in (all_acts (deeds_made made))

  moments_made : (xs ys : List (Made N S)) → made_moments (xs ++ ys) ≡ made_moments xs ++ made_moments ys
  moments_made xs ys = ap moments_in (made_acts xs ys) ∙ filter_map-append moment_of (all_acts (deeds_made xs)) (all_acts (deeds_made ys))

  after-append : (xs ys : List (Item N S)) (c : Control) → after_all (xs ++ ys) c ≡ after_all ys (after_all xs c)
  after-append [] ys c = refl
  after-append (x ∷ xs) ys c = after-append xs ys (after_item x c)

  behind-append : (xs ys : List (Made N S)) (c : Control) → control_behind (xs ++ ys) c ≡ control_behind ys (control_behind xs c)
  behind-append xs ys c =
      ap (λ (l : List (Item N S)). after_all l c) (ap (map (λ m. m.item)) (moments_made xs ys) ∙ map-append (λ (m : Moment N S). m.item) (made_moments xs) (made_moments ys))
      ∙ after-append (map (λ m. m.item) (made_moments xs)) (map (λ m. m.item) (made_moments ys)) c

  -- one event more
  pub events_more : (io : ℕ) (c : Control) (events : List CoreEvent) (event : CoreEvent) (old mid new : List ActorStanding) (made more : List (Made N S)) → EventsGo io c events old made mid
      → EventDoes io (control_behind made c) event mid more new → EventsGo io c (events ++ event ∷ []) old (made ++ more) new
  events_more io c [] event old mid new made more go does = (
    new,
    more,
    [],
    subst (λ (st : List ActorStanding). EventDoes io c event st more new) go.1 (subst (λ (l : List (Made N S)). EventDoes io (control_behind l c) event mid more new) go.0 does),
    (refl, refl),
    ap (λ (l : List (Made N S)). l ++ more) go.0 ∙ sym (append-nil more),
  )
  events_more io c (e ∷ events) event old mid new made more go does =
      let next = go.0 in let first = go.1 in let rest = go.2 in (
        next,
        first,
        rest ++ more,
        go.3,
        events_more io (control_behind first c) events event next mid new rest more go.4
            (subst (λ (d : Control). EventDoes io d event mid more new) (ap (λ (l : List (Made N S)). control_behind l c) go.5 ∙ behind-append first rest c) does),
        ap (λ (l : List (Made N S)). l ++ more) go.5 ∙ append_assoc first rest more,
      )

  -- ---- an actor

  pub record ActorAt (i : ℕ) (st : ActorStanding) (ds : List (Deed N S)) (new : List ActorStanding) : Type 0 where
    pub next : ActorStanding
    pub there : slice_get new i ≡ Some next
    pub runs : LocalRun st ds next

  idle_at : (i : ℕ) (st : ActorStanding) (ds : List (Deed N S)) (new : List ActorStanding) → slice_get new i ≡ Some st → ds ≡ [] → ActorAt i st ds new
  idle_at i st ds new here none = record { next = st; there = here; runs = subst (λ (l : List (Deed N S)). LocalRun st l st) (sym none) refl }

  actor_event : (io : ℕ) (c : Control) (old : List ActorStanding) (made : List (Made N S)) (new : List ActorStanding) → OneEvent io c old made new
      → (i : ℕ) (st : ActorStanding) → slice_get old i ≡ Some st → ActorAt i st (deeds_by i made) new
  actor_event io c old made new (did_none none same) i st here =
      idle_at i st (deeds_by i made) new (ap (λ (l : List ActorStanding). slice_get l i) same ∙ here) (ap (deeds_by i) none)
  actor_event io c old made new (did_act w d before next there does is set) i st here = by (w == i) refl
    where
      by : (b : Bool) → (w == i) ≡ b → ActorAt i st (deeds_by i made) new
      by true e =
          let same : w ≡ i = eqb-true w i e in
          let at : before ≡ st = some_is (sym (subst (λ (n : ℕ). slice_get old n ≡ Some before) same there) ∙ here) in
          record {
            next = next;
            there = ap (λ (l : List ActorStanding). slice_get l i) set ∙ ap (λ (n : ℕ). slice_get (slice_set old n next) i) same ∙ get_set_here old i st next here;
            runs = subst (λ (l : List (Deed N S)). LocalRun st l next) (sym (ap (deeds_by i) is ∙ by_own i w d same)) (next, subst (λ (s : ActorStanding). DoesDeed s d next) at does, refl);
          }
      by false e =
          let ne : w ≢ i = eqb-false w i e in
          idle_at i st (deeds_by i made) new (ap (λ (l : List ActorStanding). slice_get l i) set ∙ get_set_else old w i next (λ same. ne (sym same)) ∙ here) (ap (deeds_by i) is ∙ by_other i w d ne)
  actor_event io c old made new (did_reap slot acts takes has is same) i st here =
      let lt = slice_get_within old i st here in
      idle_at i st (deeds_by i made) new (ap (λ (l : List ActorStanding). slice_get l i) same ∙ here) (ap (deeds_by i) is ∙ by_other i (length old) (Fetches slot acts) (λ e. omega (arith, e, lt)))
  actor_event io c old made new (did_conduct d so is same) i st here =
      let lt = slice_get_within old i st here in
      idle_at i st (deeds_by i made) new (ap (λ (l : List ActorStanding). slice_get l i) same ∙ here) (ap (deeds_by i) is ∙ by_other i (length old + 1 + io) d (λ e. omega (arith, e, lt)))

  actor_run : (io : ℕ) (c : Control) (events : List CoreEvent) (old : List ActorStanding) (made : List (Made N S)) (new : List ActorStanding) → EventsGo io c events old made new
      → (i : ℕ) (st : ActorStanding) → slice_get old i ≡ Some st → ActorAt i st (deeds_by i made) new
  actor_run io c [] old made new go i st here = idle_at i st (deeds_by i made) new (ap (λ (l : List ActorStanding). slice_get l i) go.1 ∙ here) (ap (deeds_by i) go.0)
  actor_run io c (event ∷ events) old made new go i st here =
      let mid = go.0 in let first = go.1 in let rest = go.2 in
      let one = actor_event io c old first mid (one_event io c event old first mid go.3) i st here in
      let more = actor_run io (control_behind first c) events mid rest new go.4 i one.next one.there in
      record {
        next = more.next;
        there = more.there;
        runs = subst (λ (l : List (Deed N S)). LocalRun st l more.next) (sym (ap (deeds_by i) go.5 ∙ by-append i first rest))
            (local_more st one.next more.next (deeds_by i first) (deeds_by i rest) one.runs more.runs);
      }

  -- ---- what moments of an order find

  from_head : (c : Control) (order : List (Item N S)) (m : Moment N S) (ms : List (Moment N S)) → m ∷ ms ≡ moments_from c order → m.found ≡ c
  from_head c [] m ms e = cc
  from_head c (item ∷ order) m ms e =
      let same : m ≡ record { found = c; item = item } = cc in
      ap (λ (x : Moment N S). x.found) same

  from_rest : (c : Control) (order : List (Item N S)) (ms more : List (Moment N S)) → ms ++ more ≡ moments_from c order → (others : List (Item N S)) × (more ≡ moments_from (after_all (map (λ m. m.item) ms) c) others)
  from_rest c order [] more e = (order, e)
  from_rest c [] (m ∷ ms) more e = cc
  from_rest c (item ∷ order) (m ∷ ms) more e =
      let same : m ≡ record { found = c; item = item } = cc in
      let rest : ms ++ more ≡ moments_from (after_item item c) order = cc in
      from_rest (after_item m.item c) order ms more (subst (λ (i : Item N S). ms ++ more ≡ moments_from (after_item i c) order) (sym (ap (λ (x : Moment N S). x.item) same)) rest)

  -- ---- the reaper

  reaps_here : (c : Control) (order : List (Item N S)) (more : List (Moment N S)) (slot : ℕ) (acts : List (Act N S)) → TakesLetter slot acts → list_any (λ k. k == slot) (reaper_slots c) ≡ true
      → made_moments (record { worker = 0; deed = Fetches slot acts } ∷ []) ++ more ≡ moments_from c order → ReapsSo (Fetches slot acts)
  reaps_here c order more slot acts takes has e =
      let found : takes.taken.found ≡ c = from_head c order takes.taken _ (subst (λ (l : List (Act N S)). made_moments (record { worker = 0; deed = Fetches slot l } ∷ []) ++ more ≡ moments_from c order) takes.acts_are e) in
      record { takes = takes; has = subst (λ (d : Control). list_any (λ k. k == slot) (reaper_slots d) ≡ true) (sym found) has }

  reaper_event : (io : ℕ) (c : Control) (order : List (Item N S)) (more : List (Moment N S)) (old : List ActorStanding) (made : List (Made N S)) (new : List ActorStanding) → OneEvent io c old made new
      → made_moments made ++ more ≡ moments_from c order → (n : ℕ) → n ≡ length old → EachDoes ReapsSo (deeds_by n made)
  reaper_event io c order more old made new (did_none none same) e n at = subst (EachDoes ReapsSo) (sym (ap (deeds_by n) none)) tt
  reaper_event io c order more old made new (did_act w d st next there does is set) e n at =
      let lt = slice_get_within old w st there in
      subst (EachDoes ReapsSo) (sym (ap (deeds_by n) is ∙ by_other n w d (λ f. omega (arith, f, at, lt)))) tt
  reaper_event io c order more old made new (did_reap slot acts takes has is same) e n at =
      subst (EachDoes ReapsSo) (sym (ap (deeds_by n) is ∙ by_own n (length old) (Fetches slot acts) (sym at)))
      (reaps_here c order more slot acts takes has (subst (λ (l : List (Made N S)). made_moments l ++ more ≡ moments_from c order) is e), tt)
  reaper_event io c order more old made new (did_conduct d so is same) e n at =
      subst (EachDoes ReapsSo) (sym (ap (deeds_by n) is ∙ by_other n (length old + 1 + io) d (λ f. omega (arith, f, at)))) tt

  reaper_run : (io : ℕ) (c : Control) (order : List (Item N S)) (events : List CoreEvent) (old : List ActorStanding) (made : List (Made N S)) (new : List ActorStanding) → EventsGo io c events old made new
      → made_moments made ≡ moments_from c order → (n : ℕ) → n ≡ length old → EachDoes ReapsSo (deeds_by n made)
  reaper_run io c order [] old made new go e n at = subst (EachDoes ReapsSo) (sym (ap (deeds_by n) go.0)) tt
  reaper_run io c order (event ∷ events) old made new go e n at =
      let mid = go.0 in let first = go.1 in let rest = go.2 in
      let one = one_event io c event old first mid go.3 in
      let whole : made_moments first ++ made_moments rest ≡ moments_from c order = sym (ap made_moments go.5 ∙ moments_made first rest) ∙ e in
      let others = from_rest c order (made_moments first) (made_moments rest) whole in
      subst (EachDoes ReapsSo) (sym (ap (deeds_by n) go.5 ∙ by-append n first rest))
      (each_more ReapsSo (deeds_by n first) (deeds_by n rest) (reaper_event io c order (made_moments rest) old first mid one whole n at)
      (reaper_run io (control_behind first c) others.0 events mid rest new go.4 others.1 n (at ∙ sym (same_count io c old first mid one))))

  -- ---- an I/O worker

  serve_event : (io : ℕ) (c : Control) (old : List ActorStanding) (made : List (Made N S)) (new : List ActorStanding) → OneEvent io c old made new → (j m : ℕ) → m ≡ length old + 1 + j → j < io → deeds_by m made ≡ []
  serve_event io c old made new (did_none none same) j m at lt = ap (deeds_by m) none
  serve_event io c old made new (did_act w d st next there does is set) j m at lt = let few = slice_get_within old w st there in ap (deeds_by m) is ∙ by_other m w d (λ f. omega (arith, f, at, few))
  serve_event io c old made new (did_reap slot acts takes has is same) j m at lt = ap (deeds_by m) is ∙ by_other m (length old) (Fetches slot acts) (λ f. omega (arith, f, at))
  serve_event io c old made new (did_conduct d so is same) j m at lt = ap (deeds_by m) is ∙ by_other m (length old + 1 + io) d (λ f. omega (arith, f, at, lt))

  serve_run : (io : ℕ) (c : Control) (events : List CoreEvent) (old : List ActorStanding) (made : List (Made N S)) (new : List ActorStanding) → EventsGo io c events old made new
      → (j m : ℕ) → m ≡ length old + 1 + j → j < io → deeds_by m made ≡ []
  serve_run io c [] old made new go j m at lt = ap (deeds_by m) go.0
  serve_run io c (event ∷ events) old made new go j m at lt =
      let mid = go.0 in let first = go.1 in let rest = go.2 in
      let one = one_event io c event old first mid go.3 in
      let count = same_count io c old first mid one in
      ap (deeds_by m) go.5 ∙ by-append m first rest ∙ ap (λ (l : List (Deed N S)). l ++ deeds_by m rest) (serve_event io c old first mid one j m at lt)
      ∙ serve_run io (control_behind first c) events mid rest new go.4 j m (omega (arith, at, count)) lt

  -- ---- the conductor

  conduct_event : (io : ℕ) (c : Control) (old : List ActorStanding) (made : List (Made N S)) (new : List ActorStanding) → OneEvent io c old made new → (m : ℕ) → m ≡ length old + 1 + io → EachDoes ConductsSo (deeds_by m made)
  conduct_event io c old made new (did_none none same) m at = subst (EachDoes ConductsSo) (sym (ap (deeds_by m) none)) tt
  conduct_event io c old made new (did_act w d st next there does is set) m at =
      let few = slice_get_within old w st there in
      subst (EachDoes ConductsSo) (sym (ap (deeds_by m) is ∙ by_other m w d (λ f. omega (arith, f, at, few)))) tt
  conduct_event io c old made new (did_reap slot acts takes has is same) m at =
      subst (EachDoes ConductsSo) (sym (ap (deeds_by m) is ∙ by_other m (length old) (Fetches slot acts) (λ f. omega (arith, f, at)))) tt
  conduct_event io c old made new (did_conduct d so is same) m at =
      subst (EachDoes ConductsSo) (sym (ap (deeds_by m) is ∙ by_own m (length old + 1 + io) d (sym at))) (so, tt)

  conduct_run : (io : ℕ) (c : Control) (events : List CoreEvent) (old : List ActorStanding) (made : List (Made N S)) (new : List ActorStanding) → EventsGo io c events old made new
      → (m : ℕ) → m ≡ length old + 1 + io → EachDoes ConductsSo (deeds_by m made)
  conduct_run io c [] old made new go m at = subst (EachDoes ConductsSo) (sym (ap (deeds_by m) go.0)) tt
  conduct_run io c (event ∷ events) old made new go m at =
      let mid = go.0 in let first = go.1 in let rest = go.2 in
      let one = one_event io c event old first mid go.3 in
      let count = same_count io c old first mid one in
      subst (EachDoes ConductsSo) (sym (ap (deeds_by m) go.5 ∙ by-append m first rest))
      (each_more ConductsSo (deeds_by m first) (deeds_by m rest) (conduct_event io c old first mid one m at)
      (conduct_run io (control_behind first c) events mid rest new go.4 m (omega (arith, at, count))))

  -- ---- all of them

  pub go_local : (script : Script) (io : ℕ) (order : List (Item N S)) (events : List CoreEvent) (made : List (Made N S)) (new : List ActorStanding) → EventsGo io (begun io) events (map standing_before script) made new
      → made_moments made ≡ moments_from (begun io) order
      → AllWork (roles script io) (map (steps_by made) (range_with_len 0 (worker_count script io)) ++ steps_by made (worker_count script io) ∷ [])
  go_local script io order events made new go e =
      let lengths = map_length script in
      let olds = map standing_before script in
      acts_all (steps_by made) (steps_by made (worker_count script io)) script (Reaps ∷ (replicate io Serves ++ Conducts ∷ [])) (suc io) 0 (worker_count script io) (omega arith)
      (λ i n actor f h. acted n actor (actor_run io (begun io) events olds made new go n (standing_before actor)
      (subst (λ (x : ℕ). slice_get olds x ≡ Some (standing_before actor)) (sym (f ∙ plain i)) (before_at script i actor h))))
      (λ j f. (
        subst (EachDoes ReapsSo) (sym (steps_are j made)) (reaper_run io (begun io) order events olds made new go e j (omega (arith, f, lengths))),
        serves_all (steps_by made) (steps_by made (worker_count script io)) io (j + 1)
            (λ i m g lt. steps_are m made ∙ serve_run io (begun io) events olds made new go i m (omega (arith, g, f, lengths)) lt)
            (subst (EachDoes ConductsSo) (sym (steps_are (worker_count script io) made)) (conduct_run io (begun io) events olds made new go (worker_count script io) (omega (arith, lengths)))),
      ))
    where
      plain : (i : ℕ) → 0 + i ≡ i
      plain i = omega arith

      acted : (n : ℕ) (actor : ActorScript) → ActorAt n (standing_before actor) (deeds_by n made) new → (end : ActorStanding) × LocalRun (standing_before actor) (deeds_in (steps_by made n)) end
      acted n actor at = (at.next, subst (λ (l : List (Deed N S)). LocalRun (standing_before actor) l at.next) (sym (steps_are n made)) at.runs)

  pub events_local : (script : Script) (io : ℕ) (events : List CoreEvent) (run : OwnedRun N S) → IsOfEvents script io events run → AllWork (roles script io) run.workers
  events_local script io events run is =
      subst (AllWork (roles script io)) (sym (is.workers_are ∙ map-range_with_len_more (steps_by is.made) 0 (worker_count script io) (worker_count script io) (omega arith)))
      (go_local script io run.order events is.made is.standings is.go is.one_order)

  -- ---- whose deeds there are

  -- a deed is an actor's or the reaper's, or else the conductor's
  abbrev pub IsPlaced : (n io : ℕ) → Made N S → Type 0
  IsPlaced n io m = (m.worker ≤ n) ⊎ ((m.worker ≡ n + 1 + io) × ConductsSo m.deed)

  placed_event : (io : ℕ) (c : Control) (old : List ActorStanding) (made : List (Made N S)) (new : List ActorStanding) → OneEvent io c old made new → (n : ℕ) → n ≡ length old → AllByRecursion (IsPlaced n io) made
  placed_event io c old made new (did_none none same) n at = subst (AllByRecursion (IsPlaced n io)) (sym none) tt
  placed_event io c old made new (did_act w d st next there does is set) n at =
      let few = slice_get_within old w st there in
      subst (AllByRecursion (IsPlaced n io)) (sym is) (inl (omega (arith, at, few)), tt)
  placed_event io c old made new (did_reap slot acts takes has is same) n at = subst (AllByRecursion (IsPlaced n io)) (sym is) (inl (omega (arith, at)), tt)
  placed_event io c old made new (did_conduct d so is same) n at = subst (AllByRecursion (IsPlaced n io)) (sym is) (inr (omega (arith, at), so), tt)

  pub placed_both : (P : Made N S → Type 0) (xs ys : List (Made N S)) → AllByRecursion P xs → AllByRecursion P ys → AllByRecursion P (xs ++ ys)
  placed_both P [] ys one two = two
  placed_both P (x ∷ xs) ys one two = (one.0, placed_both P xs ys one.1 two)

  pub placed_run : (io : ℕ) (c : Control) (events : List CoreEvent) (old : List ActorStanding) (made : List (Made N S)) (new : List ActorStanding) → EventsGo io c events old made new
      → (n : ℕ) → n ≡ length old → AllByRecursion (IsPlaced n io) made
  placed_run io c [] old made new go n at = subst (AllByRecursion (IsPlaced n io)) (sym go.0) tt
  placed_run io c (event ∷ events) old made new go n at =
      let mid = go.0 in let first = go.1 in let rest = go.2 in
      let one = one_event io c event old first mid go.3 in
      subst (AllByRecursion (IsPlaced n io)) (sym go.5)
      (placed_both (IsPlaced n io) first rest (placed_event io c old first mid one n at) (placed_run io (control_behind first c) events mid rest new go.4 n (at ∙ sym (same_count io c old first mid one))))
