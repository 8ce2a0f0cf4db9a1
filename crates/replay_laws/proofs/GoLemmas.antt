-- The turns of a run go by the events that they choose.
use Rattle.std.specs.Prelude.{◌≡◌, ◌≢◌, ◌<◌, ◌≤◌, ◌==◌, ◌+◌, ℕ, Bool, true, false, List, [], ◌∷◌, ◌++◌, flat_map, length, nat_lt, refl}
use Rattle.std.specs.List.{range_with_len}
use Rattle.std.proofs.Common.{arith, sym, ap, ◌∙◌, subst, append-nil}
use Rattle.std.proofs.lemmas.Bool.{eqb-true, eqb-false, ltb-true, ltb-false}
use Rattle.zq_base.specs.Ends.{PipeId}
use Rattle.spec_pattern.specs.PipeStep.{PipeStep}
use Rattle.spec_control.specs.Control.{Control}
use Rattle.spec_run.specs.Turn.{IsOrder}
use Rattle.spec_run.specs.Act.{Act, Deed, Reads, steps_in, all_acts}
use Rattle.spec_run.specs.Standing.{ActorStanding}
use Rattle.spec_run.specs.InTurns.{OneTurn, Begins, AllStep, TurnsGo, Draws, turn_step, turn_sequence, turns_sequence}
use Rattle.spec_run.specs.Worker.{EachDoes}
use Rattle.spec_run.specs.CoreEvents.{CoreEvent, Tick, Made, control_behind, EventsGo}
use Rattle.zq_world.specs.Turning.{times}
use Rattle.zq_world.proofs.OrderLemmas.{times_it, times_not, each_once, at_most_once}
use Rattle.replay_laws.proofs.WalkLemmas.{leaves, Walks, leaves_on, walks_front, walks_behind, Reached, reached_on}
use Rattle.replay_laws.proofs.TurnLemmas.{at_place, WorksSo, works_of, as_many, acts_on}
use Rattle.replay_laws.proofs.RunLemmas.{past_end, turn_acts}
use Rattle.replay_laws.specs.TurnsAreEvents.{asked, step_events, turn_events, turns_events}
use Rattle.replay_laws.proofs.DeedLemmas.{made_of, one_made, steps_made, turn_made, turn_deeds, turns_made}
use Rattle.replay_laws.proofs.ThinLemmas.{SeesSo, thin_leaves}
use Rattle.replay_laws.proofs.OpenLemmas.{AllOpen, open_aside}
use Rattle.replay_laws.proofs.EventLemmas.{behind_is, events_on, one_goes, worker_goes}
use Rattle.replay_laws.proofs.BeginLemmas.{worker_sees, turn_begun, begins_see, turns_see}

once_never : {A : Type 0} (w : ℕ) → times w [] ≡ 1 → A
once_never w e = absurd (let z : times w [] ≡ 0 = refl in omega (arith, e, z))

none_first : (w v : ℕ) (ws : List ℕ) → times w (v ∷ ws) ≡ 0 → v ≢ w
none_first w v ws none same = let it = times_it w v ws same in omega (arith, it, none)

module _ {N S : Type 0} where
  -- a worker's deeds but for looks lead where its deeds lead
  behind_deeds : (w : ℕ) (ds : List (Deed N S)) (c : Control) → EachDoes SeesSo ds → control_behind (made_of w ds) c ≡ leaves c (all_acts ds)
  behind_deeds w ds c so = behind_is (made_of w ds) c ∙ ap (λ l. leaves c (all_acts l)) (one_made w ds) ∙ thin_leaves ds c so

  -- ---- the workers' steps of a turn
  pub record AllStepped (c : Control) (n : ℕ) (sts news : List ActorStanding) (step : ℕ → List (Deed N S)) (ws : List ℕ) : Type 0 where
    pub new : List ActorStanding
    pub go : EventsGo 1 c (flat_map (λ w. step_events n w (step w)) ws) sts (steps_made step ws) new
    pub count : length new ≡ length sts
    pub done : (w : ℕ) → times w ws ≡ 1 → w < n → at_place new w ≡ at_place news w
    pub not_yet : (w : ℕ) → times w ws ≡ 0 → at_place new w ≡ at_place sts w
    pub open_still : AllOpen (leaves c (all_acts (flat_map step ws))) new

  workers_go : (cap : PipeId → ℕ) (ws : List ℕ) (c : Control) (past : List PipeStep) (n : ℕ) (sts olds news : List ActorStanding) (step : ℕ → List (Deed N S)) → Reached N S c → length sts ≡ n → AllOpen c sts
      → ((w : ℕ) → times w ws ≤ 1) → ((w : ℕ) → times w ws ≡ 1 → at_place sts w ≡ at_place olds w)
      → ((w : ℕ) → WorksSo n (at_place olds w) (at_place news w) w (step w)) → Walks cap c past (all_acts (flat_map step ws)) → AllStepped c n sts news step ws
  workers_go cap [] c past n sts olds news step r many all once begun works walk =
      record { new = sts; go = (refl, refl); count = refl; done = λ w e lt. once_never w e; not_yet = λ w e. refl; open_still = all }
  workers_go cap (v ∷ ws) c past n sts olds news step r many all once begun works walk =
      let xs = all_acts (step v) in
      let us = all_acts (flat_map step ws) in
      let is = acts_on (step v) (flat_map step ws) in
      let w1 = subst (Walks cap c past) is walk in
      let front = walks_front cap xs us c past w1 in
      let behind = walks_behind cap xs us c past w1 in
      let here = times_it v v ws refl in
      let v_once : times v (v ∷ ws) ≡ 1 = (let le = once v in omega (arith, here, le)) in
      let v_gone : times v ws ≡ 0 = omega (arith, here, v_once) in
      let other : (w : ℕ) → times w ws ≡ 1 → v ≢ w = λ w e same. (let z = ap (λ n. times n ws) same in omega (arith, z, e, v_gone)) in
      let so = subst (λ (old : ActorStanding). WorksSo n old (at_place news v) v (step v)) (sym (begun v v_once)) (works v) in
      let one = worker_goes cap c past n v sts (at_place news v) r many all (step v) so front in
      let sees = worker_sees n (at_place sts v) (at_place news v) v (step v) so in
      let rest = workers_go cap ws (leaves c xs) (past ++ steps_in xs) n one.new olds news step (reached_on cap xs c past r front) (one.count ∙ many) one.open_still
      (λ w. tail_once w (once w)) (λ w e. one.others w (λ same. other w e (sym same)) ∙ begun w (times_not w v ws (other w e) ∙ e)) works behind in
      record {
        new = rest.new;
        go = events_on 1 (step_events n v (step v)) (flat_map (λ w. step_events n w (step w)) ws) c sts one.new rest.new (made_of v (step v)) (steps_made step ws) one.go
            (subst (λ (x : Control). EventsGo 1 x (flat_map (λ w. step_events n w (step w)) ws) one.new (steps_made step ws) rest.new) (sym (behind_deeds v (step v) c sees)) rest.go);
        count = ◌∙◌ {a = length rest.new} rest.count one.count;
        done = λ w e lt. done_at one.new rest.new w (v == w) refl e lt one.here rest.done (rest.not_yet v v_gone);
        not_yet = λ w e.
            let ne = none_first w v ws e in
            ◌∙◌ {a = at_place rest.new w} (rest.not_yet w (sym (times_not w v ws ne) ∙ e)) (one.others w (λ same. ne (sym same)));
        open_still = subst (λ (x : Control). AllOpen x rest.new) (sym (ap (leaves c) is ∙ leaves_on xs us c)) rest.open_still;
      }
    where
      tail_once : (w : ℕ) → times w (v ∷ ws) ≤ 1 → times w ws ≤ 1
      tail_once w le = by (v == w) refl
        where
          by : (b : Bool) → (v == w) ≡ b → times w ws ≤ 1
          by true e = let h = times_it w v ws (eqb-true v w e) in omega (arith, h, le)
          by false e = let h = times_not w v ws (eqb-false v w e) in omega (arith, h, le)

      done_at : (mid new : List ActorStanding) (w : ℕ) (b : Bool) → (v == w) ≡ b → times w (v ∷ ws) ≡ 1 → w < n → (v < n → at_place mid v ≡ at_place news v) → ((k : ℕ) → times k ws ≡ 1 → k < n → at_place new k ≡ at_place news k)
          → at_place new v ≡ at_place mid v → at_place new w ≡ at_place news w
      done_at mid new w true e is lt first later stays =
          let same : v ≡ w = eqb-true v w e in
          subst (λ (k : ℕ). at_place new k ≡ at_place news k) same (stays ∙ first (omega (arith, same, lt)))
      done_at mid new w false e is lt first later stays = later w (sym (times_not w v ws (eqb-false v w e)) ∙ is) lt

  -- ---- a turn, and turns
  -- they go by their events, to where their deeds lead
  pub record Gone (c : Control) (es : List CoreEvent) (sts news : List ActorStanding) (made : List (Made N S)) (acts : List (Act N S)) : Type 0 where
    pub new : List ActorStanding
    pub go : EventsGo 1 c es sts made new
    pub count : length new ≡ length sts
    pub same : (w : ℕ) → at_place new w ≡ at_place news w
    pub open_still : AllOpen (leaves c acts) new

  turn_goes : (cap : PipeId → ℕ) (seed x after : ℕ) (order : List ℕ) (c : Control) (past : List PipeStep) (n : ℕ) (sts olds news : List ActorStanding) (t : OneTurn N S) → Reached N S c → length sts ≡ n → length olds ≡ n → AllOpen c sts
      → ((w : ℕ) → at_place sts w ≡ at_place olds w) → IsOrder seed x (range_with_len 0 (n + 1 + 1)) order after → Begins olds t.begins → AllStep 1 olds t.steps news
      → Walks cap c past (all_acts (turn_sequence order t)) → Gone c (turn_events n order t) sts news (turn_made n order t) (all_acts (turn_sequence order t))
  turn_goes cap seed x after order c past n sts olds news t r many count all begun drawn begins go walk =
      let step : ℕ → List (Deed N S) = λ w. turn_step w t in
      let is = turn_acts order t in
      let xs = all_acts t.begins in
      let us = all_acts (flat_map step order) in
      let w1 = subst (Walks cap c past) is walk in
      let front = walks_front cap xs us c past w1 in
      let behind = walks_behind cap xs us c past w1 in
      let first = turn_begun c (n + 1 + 1) olds sts t.begins (ap (λ k. k + 1 + 1) (sym many)) begins in
      let sees = begins_see olds t.begins begins in
      let works : (w : ℕ) → WorksSo n (at_place olds w) (at_place news w) w (step w) = λ w. subst (λ k. WorksSo k (at_place olds w) (at_place news w) w (step w)) count (works_of 1 olds t.steps news go w) in
      let rest = workers_go cap order (leaves c xs) (past ++ steps_in xs) n sts olds news step (reached_on cap xs c past r front) many (open_aside cap xs c past sts r front first.spares all)
      (λ w. at_most_once w (n + 1 + 1) seed x order after drawn) (λ w e. begun w) works behind in
      let last : List (Made N S) = record { worker = n + 1 + 1; deed = Reads t.reading } ∷ [] in
      let tick : EventsGo 1 (control_behind (steps_made step order) (leaves c xs)) (Tick t.reading ∷ []) rest.new last rest.new =
      one_goes 1 (Tick t.reading) (control_behind (steps_made step order) (leaves c xs)) rest.new rest.new last (ap (λ (k : ℕ). record { worker = k + 1 + 1; deed = Reads t.reading } ∷ []) (sym (rest.count ∙ many)), refl) in
      let on = events_on 1 (flat_map (λ w. step_events n w (step w)) order) (Tick t.reading ∷ []) (leaves c xs) sts rest.new rest.new (steps_made step order) last rest.go tick in
      let news_many : length news ≡ n = as_many 1 olds t.steps news go ∙ count in
      record {
        new = rest.new;
        go = events_on 1 (asked t.begins) (flat_map (λ w. step_events n w (step w)) order ++ Tick t.reading ∷ []) c sts sts rest.new (made_of (n + 1 + 1) t.begins) (steps_made step order ++ last) first.go
            (subst (λ (z : Control). EventsGo 1 z (flat_map (λ w. step_events n w (step w)) order ++ Tick t.reading ∷ []) sts (steps_made step order ++ last) rest.new) (sym (behind_deeds (n + 1 + 1) t.begins c sees)) on);
        count = rest.count;
        same = λ w. at rest.new w (nat_lt w n) refl rest.done (rest.count ∙ many) news_many;
        open_still = subst (λ (z : Control). AllOpen z rest.new) (sym (ap (leaves c) is ∙ leaves_on xs us c)) rest.open_still;
      }
    where
      at : (new : List ActorStanding) (w : ℕ) (b : Bool) → nat_lt w n ≡ b → ((k : ℕ) → times k order ≡ 1 → k < n → at_place new k ≡ at_place news k) → length new ≡ n → length news ≡ n → at_place new w ≡ at_place news w
      at new w true e done new_count news_count = let lt = ltb-true w n e in done w (each_once w (n + 1 + 1) seed x order after drawn (omega (arith, lt))) lt
      at new w false e done new_count news_count =
          let le = ltb-false w n e in
          past_end new w (omega (arith, le, new_count)) ∙ sym (past_end news w (omega (arith, le, news_count)))

  -- a turn's deeds but for looks lead where its deeds lead
  behind_turn : (n : ℕ) (order : List ℕ) (t : OneTurn N S) (c : Control) → EachDoes SeesSo (turn_sequence order t) → control_behind (turn_made n order t) c ≡ leaves c (all_acts (turn_sequence order t))
  behind_turn n order t c so = behind_is (turn_made n order t) c ∙ ap (λ l. leaves c (all_acts l)) (turn_deeds n order t) ∙ thin_leaves (turn_sequence order t) c so

  pub turns_go : (cap : PipeId → ℕ) (seed x : ℕ) (ts : List (OneTurn N S)) (orders : List (List ℕ)) (c : Control) (past : List PipeStep) (n : ℕ) (sts olds news : List ActorStanding) → Reached N S c → length sts ≡ n → length olds ≡ n → AllOpen c sts
      → ((w : ℕ) → at_place sts w ≡ at_place olds w) → Draws seed (range_with_len 0 (n + 1 + 1)) x ts orders → TurnsGo 1 olds ts news
      → Walks cap c past (all_acts (turns_sequence orders ts)) → (new : List ActorStanding) × EventsGo 1 c (turns_events n orders ts) sts (turns_made n orders ts) new
  turns_go cap seed x [] [] c past n sts olds news r many count all begun drawn go walk = (sts, (refl, refl))
  turns_go cap seed x [] (order ∷ orders) c past n sts olds news r many count all begun drawn go walk = (sts, (refl, refl))
  turns_go cap seed x (t ∷ ts) [] c past n sts olds news r many count all begun drawn go walk = absurd drawn
  turns_go cap seed x (t ∷ ts) (order ∷ orders) c past n sts olds news r many count all begun drawn go walk =
      let xs = all_acts (turn_sequence order t) in
      let us = all_acts (turns_sequence orders ts) in
      let w1 = subst (Walks cap c past) (acts_on (turn_sequence order t) (turns_sequence orders ts)) walk in
      let front = walks_front cap xs us c past w1 in
      let one = turn_goes cap seed x drawn.0 order c past n sts olds go.1.0 t r many count all begun drawn.1 go.0 go.1.1 front in
      let mid_count : length go.1.0 ≡ n = as_many 1 olds t.steps go.1.0 go.1.1 ∙ count in
      let sees = turns_see 1 olds go.1.0 (t ∷ []) (order ∷ []) (go.0, (go.1.0, go.1.1, refl)) in
      let rest = turns_go cap seed drawn.0 ts orders (leaves c xs) (past ++ steps_in xs) n one.new go.1.0 news (reached_on cap xs c past r front) (one.count ∙ many) mid_count one.open_still one.same drawn.2 go.1.2
      (walks_behind cap xs us c past w1) in (
        rest.0,
        events_on 1 (turn_events n order t) (turns_events n orders ts) c sts one.new rest.0 (turn_made n order t) (turns_made n orders ts) one.go
            (subst (λ (z : Control). EventsGo 1 z (turns_events n orders ts) one.new (turns_made n orders ts) rest.0) (sym (behind_turn n order t c (turn_sees order t sees))) rest.1),
      )
    where
      turn_sees : (o : List ℕ) (u : OneTurn N S) → EachDoes SeesSo (turn_sequence o u ++ []) → EachDoes SeesSo (turn_sequence o u)
      turn_sees o u f = subst (EachDoes SeesSo) (append-nil (turn_sequence o u)) f
