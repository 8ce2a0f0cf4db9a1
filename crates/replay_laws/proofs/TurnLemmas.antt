-- What the turns of a run do is settled by the script, the seed and the limit of turns.
use Rattle.std.specs.Prelude.{◌≡◌, ◌<◌, ◌≤◌, ◌==◌, ℕ, zero, suc, Bool, true, false, List, [], ◌∷◌, ◌++◌, Option, Some, flat_map, length, map, replicate, slice_get, slice_set, slice_index_or, refl}
use Rattle.std.proofs.Common.{arith, sym, ap, ◌∙◌, subst}
use Rattle.std.proofs.lemmas.Bool.{eqb-true, eqb-false}
use Rattle.std.proofs.lemmas.Grind.{flat_map-append}
use Rattle.zq_base.specs.Ends.{PipeId}
use Rattle.spec_pattern.specs.PipeStep.{PipeStep}
use Rattle.spec_control.specs.Control.{Control}
use Rattle.spec_run.specs.Act.{Deed, steps_in, acts_of, all_acts}
use Rattle.spec_run.specs.Standing.{ActorStanding}
use Rattle.spec_run.specs.InTurns.{ActorStep, ReaperStep, AllStep}
use Rattle.run_laws.proofs.GoesLemmas.{get_set_here, get_set_else}
use Rattle.zq_world.specs.Turning.{times}
use Rattle.zq_world.proofs.OrderLemmas.{times_it, times_not}
use Rattle.replay_laws.specs.Blank.{blank}
use Rattle.replay_laws.proofs.WalkLemmas.{leaves, Walks, leaves_on, walks_front, walks_behind, Reached, reached_on, Same, same_none, same_both, same_as}
use Rattle.replay_laws.proofs.LookLemmas.{behind_walks}
use Rattle.replay_laws.proofs.TryLemmas.{Ahead, ahead_before}
use Rattle.replay_laws.proofs.LineLemmas.{EachStands}
use Rattle.replay_laws.proofs.KeepLemmas.{each_aside}
use Rattle.replay_laws.proofs.StepLemmas.{bare, StepSame, reaper_same}
use Rattle.replay_laws.proofs.ActorLemmas.{actor_same, actor_stands}

-- how a number stands that is no actor's
abbrev pub no_actor : ActorStanding
no_actor = record { lines = []; tried = 0; told = []; mine = record { names = []; socks = [] } }

abbrev pub at_place : List ActorStanding → ℕ → ActorStanding
at_place standings w = slice_index_or standings w no_actor

-- what holds at each place holds where one was changed
pub set_holds : {X : Type 0} (P : X → Type 0) (xs : List X) (w : ℕ) (x y : X) → ((k : ℕ) (z : X) → slice_get xs k ≡ Some z → P z) → slice_get xs w ≡ Some x → P y → (k : ℕ) (z : X) → slice_get (slice_set xs w y) k ≡ Some z → P z
set_holds {X} P xs w x y all here holds k z at = by (k == w) refl
  where
    same_one : ◌≡◌ {A = Option X} (Some z) (Some y) → z ≡ y
    same_one e = cc

    by : (b : Bool) → (k == w) ≡ b → P z
    by true e =
        let same : z ≡ y = same_one (sym at ∙ subst (λ (n : ℕ). slice_get (slice_set xs w y) n ≡ Some y) (sym (eqb-true k w e)) (get_set_here xs w x y here)) in
        subst P (sym same) holds
    by false e = all k z (sym (get_set_else xs w k y (eqb-false k w e)) ∙ at)

no_both : {A : Type 0} {a b : ℕ} → a < b → a ≡ b → A
no_both lt e = absurd (omega (arith, lt, e))

no_sides : {A : Type 0} {a b : ℕ} → a < b → b < a → A
no_sides lt gt = absurd (omega (arith, lt, gt))

none_once : {A : Type 0} (w : ℕ) → times w [] ≡ 1 → A
none_once w e = absurd (let z : times w [] ≡ 0 = refl in omega (arith, e, z))

module _ {N S : Type 0} where
  -- a worker's step, beside so many actors
  pub data WorksSo (count : ℕ) (old new : ActorStanding) (w : ℕ) (ds : List (Deed N S)) : Type 0 where
    acts_so : w < count → ActorStep old ds new → WorksSo count old new w ds
    reaps_so : w ≡ count → ReaperStep ds → WorksSo count old new w ds
    serves_so : count < w → ds ≡ [] → WorksSo count old new w ds

  none_served : (io k : ℕ) → ◌≡◌ {A = List (Deed N S)} (slice_index_or (replicate io []) k []) []
  none_served zero k = refl
  none_served (suc io) zero = refl
  none_served (suc io) (suc k) = none_served io k

  pub works_of : (io : ℕ) (olds : List ActorStanding) (steps : List (List (Deed N S))) (news : List ActorStanding) → AllStep io olds steps news → (w : ℕ) → WorksSo (length olds) (at_place olds w) (at_place news w) w (slice_index_or steps w [])
  works_of io [] [] news h w = absurd h
  works_of io [] (reaper ∷ serving) news h zero = reaps_so refl h.0
  works_of io [] (reaper ∷ serving) news h (suc k) = serves_so (omega arith) (ap (λ l. slice_index_or l k []) h.1 ∙ none_served io k)
  works_of io (old ∷ olds) [] news h w = absurd h
  works_of io (old ∷ olds) (step ∷ steps) [] h w = absurd h
  works_of io (old ∷ olds) (step ∷ steps) (new ∷ news) h zero = acts_so (omega arith) h.0
  works_of io (old ∷ olds) (step ∷ steps) (new ∷ news) h (suc k) = shift (works_of io olds steps news h.1 k)
    where
      shift : WorksSo (length olds) (at_place olds k) (at_place news k) k (slice_index_or steps k []) → WorksSo (suc (length olds)) (at_place olds k) (at_place news k) (suc k) (slice_index_or steps k [])
      shift (acts_so lt f) = acts_so (omega (arith, lt)) f
      shift (reaps_so e f) = reaps_so (ap suc e) f
      shift (serves_so lt f) = serves_so (omega (arith, lt)) f

  pub as_many : (io : ℕ) (olds : List ActorStanding) (steps : List (List (Deed N S))) (news : List ActorStanding) → AllStep io olds steps news → length news ≡ length olds
  as_many io [] [] news h = absurd h
  as_many io [] (reaper ∷ serving) news h = ap length h.2
  as_many io (old ∷ olds) [] news h = absurd h
  as_many io (old ∷ olds) (step ∷ steps) [] h = absurd h
  as_many io (old ∷ olds) (step ∷ steps) (new ∷ news) h = ap suc (as_many io olds steps news h.1)

  -- ---- one worker
  pub record OneWorker (c d : Control) (count : ℕ) (u v : ActorStanding) (w : ℕ) (ds es : List (Deed N S)) : Type 0 where
    pub step : StepSame c d ds es
    pub standing : w < count → u ≡ v
    pub each : w < count → EachStands (leaves c (all_acts ds)) u.mine.socks
    pub each_too : w < count → EachStands (leaves d (all_acts es)) u.mine.socks

  one_worker : (cap cup : PipeId → ℕ) (c d : Control) (past : List PipeStep) (count w : ℕ) (old u v : ActorStanding) (ds es : List (Deed N S)) → Reached N S c → Reached N S d → blank c ≡ blank d
      → EachStands c old.mine.socks → EachStands d old.mine.socks → Walks cap c past (all_acts ds) → Walks cup d past (all_acts es) → Ahead N S cap (leaves c (all_acts ds)) → Ahead N S cup (leaves d (all_acts es))
      → WorksSo count old u w ds → WorksSo count old v w es → OneWorker c d count u v w ds es
  one_worker cap cup c d past count w old u v ds es r q p each each_too walk walk_too ahead ahead_too (acts_so lt f) (acts_so lt2 g) =
      let one = actor_same cap cup c d past old u v ds es r q p each each_too walk walk_too ahead ahead_too f g in
      record {
        step = one.step;
        standing = λ x. one.standing;
        each = λ x. actor_stands cap c past old u ds r each walk f;
        each_too = λ x. subst (λ (z : ActorStanding). EachStands (leaves d (all_acts es)) z.mine.socks) (sym one.standing) (actor_stands cup d past old v es q each_too walk_too g);
      }
  one_worker cap cup c d past count w old u v ds es r q p each each_too walk walk_too ahead ahead_too (reaps_so e f) (reaps_so e2 g) =
      record { step = reaper_same cap cup c d past ds es r q p walk walk_too f g; standing = λ lt. no_both lt e; each = λ lt. no_both lt e; each_too = λ lt. no_both lt e }
  one_worker cap cup c d past count w old u v ds es r q p each each_too walk walk_too ahead ahead_too (serves_so lt f) (serves_so lt2 g) =
      record {
        step = record { same = same_as c d (all_acts ds) (all_acts es) [] [] (ap all_acts f) (ap all_acts g) (same_none c d p); bares = ap (map bare) f ∙ sym (ap (map bare) g) };
        standing = λ x. no_sides x lt;
        each = λ x. no_sides x lt;
        each_too = λ x. no_sides x lt;
      }
  one_worker cap cup c d past count w old u v ds es r q p each each_too walk walk_too ahead ahead_too (acts_so lt f) (reaps_so e g) = no_both lt e
  one_worker cap cup c d past count w old u v ds es r q p each each_too walk walk_too ahead ahead_too (acts_so lt f) (serves_so gt g) = no_sides lt gt
  one_worker cap cup c d past count w old u v ds es r q p each each_too walk walk_too ahead ahead_too (reaps_so e f) (acts_so lt g) = no_both lt e
  one_worker cap cup c d past count w old u v ds es r q p each each_too walk walk_too ahead ahead_too (reaps_so e f) (serves_so gt g) = no_both gt (sym e)
  one_worker cap cup c d past count w old u v ds es r q p each each_too walk walk_too ahead ahead_too (serves_so gt f) (acts_so lt g) = no_sides lt gt
  one_worker cap cup c d past count w old u v ds es r q p each each_too walk walk_too ahead ahead_too (serves_so gt f) (reaps_so e g) = no_both gt (sym e)

  -- ---- the workers of a turn
  pub record Locked (c d : Control) (count : ℕ) (news news2 : List ActorStanding) (ws : List ℕ) (step step2 : ℕ → List (Deed N S)) : Type 0 where
    pub same : Same c d (all_acts (flat_map step ws)) (all_acts (flat_map step2 ws))
    pub bares : (w : ℕ) → times w ws ≡ 1 → map bare (step w) ≡ map bare (step2 w)
    pub news_are : (w : ℕ) → times w ws ≡ 1 → w < count → at_place news w ≡ at_place news2 w
    pub each : (w : ℕ) → times w ws ≡ 1 → w < count → EachStands (leaves c (all_acts (flat_map step ws))) (at_place news w).mine.socks
    pub each_too : (w : ℕ) → times w ws ≡ 1 → w < count → EachStands (leaves d (all_acts (flat_map step2 ws))) (at_place news w).mine.socks

  pub acts_on : (ds es : List (Deed N S)) → all_acts (ds ++ es) ≡ all_acts ds ++ all_acts es
  acts_on ds es = flat_map-append acts_of ds es

  pub workers_lock : (cap cup : PipeId → ℕ) (ws : List ℕ) (c d : Control) (past : List PipeStep) (olds news news2 : List ActorStanding) (step step2 : ℕ → List (Deed N S)) → Reached N S c → Reached N S d → blank c ≡ blank d
      → ((w : ℕ) → times w ws ≤ 1) → ((w : ℕ) → times w ws ≡ 1 → EachStands c (at_place olds w).mine.socks) → ((w : ℕ) → times w ws ≡ 1 → EachStands d (at_place olds w).mine.socks)
      → Walks cap c past (all_acts (flat_map step ws)) → Walks cup d past (all_acts (flat_map step2 ws)) → Ahead N S cap (leaves c (all_acts (flat_map step ws))) → Ahead N S cup (leaves d (all_acts (flat_map step2 ws)))
      → ((w : ℕ) → WorksSo (length olds) (at_place olds w) (at_place news w) w (step w)) → ((w : ℕ) → WorksSo (length olds) (at_place olds w) (at_place news2 w) w (step2 w))
      → Locked c d (length olds) news news2 ws step step2
  workers_lock cap cup [] c d past olds news news2 step step2 r q p once each each_too walk walk_too ahead ahead_too f g =
      record { same = same_none c d p; bares = λ w e. none_once w e; news_are = λ w e lt. none_once w e; each = λ w e lt. none_once w e; each_too = λ w e lt. none_once w e }
  workers_lock cap cup (v ∷ ws) c d past olds news news2 step step2 r q p once each each_too walk walk_too ahead ahead_too f g =
      let is = acts_on (step v) (flat_map step ws) in
      let is2 = acts_on (step2 v) (flat_map step2 ws) in
      let xs = all_acts (step v) in
      let ys = all_acts (step2 v) in
      let rest_acts = all_acts (flat_map step ws) in
      let rest_acts2 = all_acts (flat_map step2 ws) in
      let w1 = subst (Walks cap c past) is walk in
      let w2 = subst (Walks cup d past) is2 walk_too in
      let front = walks_front cap xs rest_acts c past w1 in
      let front2 = walks_front cup ys rest_acts2 d past w2 in
      let behind = walks_behind cap xs rest_acts c past w1 in
      let r1 = reached_on cap xs c past r front in
      let q1 = reached_on cup ys d past q front2 in
      let ahead_end = subst (Ahead N S cap) (ap (leaves c) is ∙ leaves_on xs rest_acts c) ahead in
      let ahead1 = ahead_before cap cap rest_acts (leaves c xs) (past ++ steps_in xs) behind ahead_end in
      let ahead_end2 = subst (Ahead N S cup) (ap (leaves d) is2 ∙ leaves_on ys rest_acts2 d) ahead_too in
      let ahead2 = ahead_before cup cup rest_acts2 (leaves d ys) (past ++ steps_in ys) (walks_behind cup ys rest_acts2 d past w2) ahead_end2 in
      let here = times_it v v ws refl in
      let v_once : times v (v ∷ ws) ≡ 1 = (let le = once v in omega (arith, here, le)) in
      let v_gone : times v ws ≡ 0 = omega (arith, here, v_once) in
      let one = one_worker cap cup c d past (length olds) v (at_place olds v) (at_place news v) (at_place news2 v) (step v) (step2 v) r q p (each v v_once) (each_too v v_once) front front2 ahead1 ahead2 (f v) (g v) in
      let other : (w : ℕ) → times w ws ≡ 1 → times w (v ∷ ws) ≡ 1 = λ w e. times_not w v ws (λ same. let z = ap (λ n. times n ws) same in omega (arith, z, e, v_gone)) ∙ e in
      let behind2 = behind_walks cup c d past xs ys rest_acts2 one.step.same w2 in
      let rest = workers_lock cap cup ws (leaves c xs) (leaves d ys) (past ++ steps_in xs) olds news news2 step step2 r1 q1 one.step.same.states
      (λ w. tail_once w (once w))
      (λ w e. each_aside cap xs c past r front (at_place olds w).mine.socks (each w (other w e)))
      (λ w e. each_aside cup ys d past q front2 (at_place olds w).mine.socks (each_too w (other w e)))
      behind behind2 ahead_end ahead_end2 f g in
      record {
        same = same_as c d _ _ (xs ++ rest_acts) (ys ++ rest_acts2) is is2 (same_both c d xs ys rest_acts rest_acts2 one.step.same rest.same);
        bares = λ w e. by_first w (v == w) refl (map bare (step w) ≡ map bare (step2 w)) e (λ same. subst (λ n. map bare (step n) ≡ map bare (step2 n)) same one.step.bares) (rest.bares w);
        news_are = λ w e lt. by_first w (v == w) refl (at_place news w ≡ at_place news2 w) e
            (λ same. subst (λ n. n < length olds → at_place news n ≡ at_place news2 n) same one.standing lt) (λ h. rest.news_are w h lt);
        each = λ w e lt. subst (λ (x : Control). EachStands x (at_place news w).mine.socks) (sym (ap (leaves c) is ∙ leaves_on xs rest_acts c))
            (by_first w (v == w) refl (EachStands (leaves (leaves c xs) rest_acts) (at_place news w).mine.socks) e
            (λ same. each_aside cap rest_acts (leaves c xs) (past ++ steps_in xs) r1 behind (at_place news w).mine.socks (subst (λ n. n < length olds → EachStands (leaves c xs) (at_place news n).mine.socks) same one.each lt))
            (λ h. rest.each w h lt));
        each_too = λ w e lt. subst (λ (x : Control). EachStands x (at_place news w).mine.socks) (sym (ap (leaves d) is2 ∙ leaves_on ys rest_acts2 d))
            (by_first w (v == w) refl (EachStands (leaves (leaves d ys) rest_acts2) (at_place news w).mine.socks) e
            (λ same. each_aside cup rest_acts2 (leaves d ys) (past ++ steps_in xs) q1 behind2 (at_place news w).mine.socks (subst (λ n. n < length olds → EachStands (leaves d ys) (at_place news n).mine.socks) same one.each_too lt))
            (λ h. rest.each_too w h lt));
      }
    where
      tail_once : (w : ℕ) → times w (v ∷ ws) ≤ 1 → times w ws ≤ 1
      tail_once w le = by (v == w) refl
        where
          by : (b : Bool) → (v == w) ≡ b → times w ws ≤ 1
          by true e = let h = times_it w v ws (eqb-true v w e) in omega (arith, h, le)
          by false e = let h = times_not w v ws (eqb-false v w e) in omega (arith, h, le)

      by_first : (w : ℕ) (b : Bool) → (v == w) ≡ b → (A : Type 0) → times w (v ∷ ws) ≡ 1 → (v ≡ w → A) → (times w ws ≡ 1 → A) → A
      by_first w true e A once_is first later = first (eqb-true v w e)
      by_first w false e A once_is first later = later (sym (times_not w v ws (eqb-false v w e)) ∙ once_is)
