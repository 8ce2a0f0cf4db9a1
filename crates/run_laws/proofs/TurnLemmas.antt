-- Where a run goes in turns, each worker does what its role asks.
use Rattle.std.specs.Prelude.{◌≡◌, ◌<◌, ◌+◌, ◌==◌, ◌||◌, ℕ, zero, suc, Bool, true, false, not, cond, List, [], ◌∷◌, ◌++◌, Some, None, find, length, map, replicate, slice_get, slice_index_or, refl}
use Rattle.std.specs.List.{list_any, range_with_len}
use Rattle.std.proofs.Common.{arith, sym, ap, ◌∙◌, subst}
use Rattle.std.proofs.lemmas.Bool.{eq-eqb}
use Rattle.spec_control.specs.OwnAsks.{is_none}
use Rattle.spec_control.specs.Moments.{Moment, reaper_slots}
use Rattle.spec_run.specs.declared.script.ActorScript.{ActorScript}
use Rattle.spec_run.specs.Script.{Script}
use Rattle.spec_run.specs.Act.{Deed, Tries, Shuts, Fetches, Idles, Works, Looks, AsksRoot, Reads}
use Rattle.spec_run.specs.Standing.{ActorStanding, standing_before, LocalRun}
use Rattle.spec_run.specs.Worker.{Role, ActsBy, Reaps, Serves, Conducts, roles, ReapsSo, ConductsSo, EachDoes, IsWorkOf}
use Rattle.spec_run.specs.OwnedRun.{OwnedRun, deeds_in, AllWork}
use Rattle.spec_run.specs.InTurns.{OneTurn, Turned, AsksIf, Begins, ActorStep, ReaperStep, AllStep, TurnsGo, turn_step, conductor_steps, worker_count, IsInTurns}

pub some_is : {X : Type 0} {x y : X} → Some x ≡ Some y → x ≡ y
some_is e = Prim.grind arith

pub none_some : {X : Type 0} {x : X} → None ≡ Some x → ⊥
none_some e = Prim.grind arith

or_true : (a b : Bool) → b ≡ true → (a || b) ≡ true
or_true true b h = refl
or_true false b h = h

found_has : (p : ℕ → Bool) (xs : List ℕ) (k : ℕ) → find p xs ≡ Some k → list_any (λ x. x == k) xs ≡ true
found_has p [] k e = absurd (none_some e)
found_has p (x ∷ xs) k e = by (p x) refl (λ h. found_has p xs k h)
  where
    by : (b : Bool) → p x ≡ b → (find p xs ≡ Some k → list_any (λ y. y == k) xs ≡ true) → list_any (λ y. y == k) (x ∷ xs) ≡ true
    by true h rest =
        let same : x ≡ k = some_is (subst (λ (b : Bool). cond b (Some x) (find p xs) ≡ Some k) h e) in
        ap (λ (b : Bool). b || list_any (λ y. y == k) xs) (eq-eqb x k same)
    by false h rest = or_true (x == k) _ (rest (subst (λ (b : Bool). cond b (Some x) (find p xs) ≡ Some k) h e))

pub before_at : (script : Script) (i : ℕ) (actor : ActorScript) → slice_get script i ≡ Some actor → slice_get (map standing_before script) i ≡ Some (standing_before actor)
before_at [] i actor e = absurd (none_some e)
before_at (a ∷ others) zero actor e = ap (λ (x : ActorScript). Some (standing_before x)) (some_is e)
before_at (a ∷ others) (suc i) actor e = before_at others i actor e

pub map_length : (script : Script) → length (map standing_before script) ≡ length script
map_length [] = refl
map_length (a ∷ others) = ap suc (map_length others)

module _ {N S : Type 0} where
  -- ---- an actor

  step_local : (old new : ActorStanding) (step : List (Deed N S)) → ActorStep old step new → LocalRun old step new
  step_local old new [] s = s.1
  step_local old new (Tries t ∷ []) s = (new, s, refl)
  step_local old new (Shuts acts ∷ []) s = (new, s, refl)
  step_local old new (Fetches slot acts ∷ []) s = absurd s
  step_local old new (Idles m ∷ []) s = absurd s
  step_local old new (Works acts ∷ []) s = absurd s
  step_local old new (Looks m ∷ []) s = absurd s
  step_local old new (AsksRoot acts ∷ []) s = absurd s
  step_local old new (Reads now ∷ []) s = absurd s
  step_local old new (Tries t ∷ e ∷ ds) s = absurd s
  step_local old new (Shuts acts ∷ e ∷ ds) s = absurd s
  step_local old new (Fetches slot acts ∷ e ∷ ds) s = absurd s
  step_local old new (Idles m ∷ e ∷ ds) s = absurd s
  step_local old new (Works acts ∷ e ∷ ds) s = absurd s
  step_local old new (Looks m ∷ e ∷ ds) s = absurd s
  step_local old new (AsksRoot acts ∷ e ∷ ds) s = absurd s
  step_local old new (Reads now ∷ e ∷ ds) s = absurd s

  pub local_more : (a b c : ActorStanding) (xs ys : List (Deed N S)) → LocalRun a xs b → LocalRun b ys c → LocalRun a (xs ++ ys) c
  local_more a b c [] ys e r = subst (λ (s : ActorStanding). LocalRun s ys c) e r
  local_more a b c (x ∷ xs) ys q r = (q.0, q.1, local_more q.0 b c xs ys q.2 r)

  record StepAt (n : ℕ) (steps : List (List (Deed N S))) (news : List ActorStanding) (old : ActorStanding) : Type 0 where
    next : ActorStanding
    there : slice_get news n ≡ Some next
    step : ActorStep old (slice_index_or steps n []) next

  all_step_at : (io : ℕ) (olds : List ActorStanding) (steps : List (List (Deed N S))) (news : List ActorStanding) → AllStep io olds steps news
      → (n : ℕ) (old : ActorStanding) → slice_get olds n ≡ Some old → StepAt n steps news old
  all_step_at io [] steps news all n old e = absurd (none_some e)
  all_step_at io (o ∷ os) [] news all n old e = absurd all
  all_step_at io (o ∷ os) (s ∷ ss) [] all n old e = absurd all
  all_step_at io (o ∷ os) (s ∷ ss) (w ∷ ws) all zero old e = record { next = w; there = refl; step = subst (λ (x : ActorStanding). ActorStep x s w) (some_is e) all.0 }
  all_step_at io (o ∷ os) (s ∷ ss) (w ∷ ws) all (suc n) old e = let f = all_step_at io os ss ws all.1 n old e in record { next = f.next; there = f.there; step = f.step }

  turns_at : (io : ℕ) (olds : List ActorStanding) (turns : List (OneTurn N S)) (news : List ActorStanding) → TurnsGo io olds turns news
      → (n : ℕ) (old : ActorStanding) → slice_get olds n ≡ Some old → (end : ActorStanding) × LocalRun old (deeds_in (map (turn_step n) turns)) end
  turns_at io olds [] news go n old e = (old, refl)
  turns_at io olds (turn ∷ turns) news go n old e =
      let f = all_step_at io olds turn.steps go.1.0 go.1.1 n old e in
      let r = turns_at io go.1.0 turns news go.1.2 n f.next f.there in
      (r.0, local_more old f.next r.0 (turn_step n turn) (deeds_in (map (turn_step n) turns)) (step_local old f.next (turn_step n turn) f.step) r.1)

  -- ---- the reaper

  reaps_step : (step : List (Deed N S)) → ReaperStep step → EachDoes ReapsSo step
  reaps_step [] s = absurd s
  reaps_step (Fetches slot acts ∷ []) s = (record { takes = s.takes; has = found_has (λ k. not (is_none (s.takes.taken.found.boxes k))) (reaper_slots s.takes.taken.found) slot s.first }, tt)
  reaps_step (Idles m ∷ []) s = (s, tt)
  reaps_step (Tries t ∷ []) s = absurd s
  reaps_step (Shuts acts ∷ []) s = absurd s
  reaps_step (Works acts ∷ []) s = absurd s
  reaps_step (Looks m ∷ []) s = absurd s
  reaps_step (AsksRoot acts ∷ []) s = absurd s
  reaps_step (Reads now ∷ []) s = absurd s
  reaps_step (Tries t ∷ e ∷ ds) s = absurd s
  reaps_step (Shuts acts ∷ e ∷ ds) s = absurd s
  reaps_step (Fetches slot acts ∷ e ∷ ds) s = absurd s
  reaps_step (Idles m ∷ e ∷ ds) s = absurd s
  reaps_step (Works acts ∷ e ∷ ds) s = absurd s
  reaps_step (Looks m ∷ e ∷ ds) s = absurd s
  reaps_step (AsksRoot acts ∷ e ∷ ds) s = absurd s
  reaps_step (Reads now ∷ e ∷ ds) s = absurd s

  pub each_more : (Does : Deed N S → Type 0) (xs ys : List (Deed N S)) → EachDoes Does xs → EachDoes Does ys → EachDoes Does (xs ++ ys)
  each_more Does [] ys q r = r
  each_more Does (x ∷ xs) ys q r = (q.0, each_more Does xs ys q.1 r)

  all_reap : (io : ℕ) (olds : List ActorStanding) (steps : List (List (Deed N S))) (news : List ActorStanding) → AllStep io olds steps news → (k : ℕ) → k ≡ length olds → ReaperStep (slice_index_or steps k [])
  all_reap io [] [] news all k e = absurd all
  all_reap io [] (reaper ∷ serving) news all zero e = all.0
  all_reap io [] (reaper ∷ serving) news all (suc k) e = absurd (above e)
    where
      above : suc k ≡ 0 → ⊥
      above h = omega (arith, h)
  all_reap io (o ∷ os) [] news all k e = absurd all
  all_reap io (o ∷ os) (s ∷ ss) [] all k e = absurd all
  all_reap io (o ∷ os) (s ∷ ss) (w ∷ ws) all zero e = absurd (above e)
    where
      above : 0 ≡ length (o ∷ os) → ⊥
      above h = omega (arith, h)
  all_reap io (o ∷ os) (s ∷ ss) (w ∷ ws) all (suc k) e = all_reap io os ss ws all.1 k (omega (arith, e))

  same_length : (io : ℕ) (olds : List ActorStanding) (steps : List (List (Deed N S))) (news : List ActorStanding) → AllStep io olds steps news → length news ≡ length olds
  same_length io [] [] news all = absurd all
  same_length io [] (reaper ∷ serving) news all = ap length all.2
  same_length io (o ∷ os) [] news all = absurd all
  same_length io (o ∷ os) (s ∷ ss) [] all = absurd all
  same_length io (o ∷ os) (s ∷ ss) (w ∷ ws) all = ap suc (same_length io os ss ws all.1)

  reaper_at : (io : ℕ) (olds : List ActorStanding) (turns : List (OneTurn N S)) (news : List ActorStanding) → TurnsGo io olds turns news → (k : ℕ) → k ≡ length olds → EachDoes ReapsSo (deeds_in (map (turn_step k) turns))
  reaper_at io olds [] news go k e = tt
  reaper_at io olds (turn ∷ turns) news go k e =
      each_more ReapsSo (turn_step k turn) (deeds_in (map (turn_step k) turns)) (reaps_step (turn_step k turn) (all_reap io olds turn.steps go.1.0 go.1.1 k e))
      (reaper_at io go.1.0 turns news go.1.2 k (e ∙ sym (same_length io olds turn.steps go.1.0 go.1.1)))

  -- ---- an I/O worker

  nil_at : (n m : ℕ) → ◌≡◌ {A = List (Deed N S)} (slice_index_or (replicate n []) m []) []
  nil_at zero m = refl
  nil_at (suc n) zero = refl
  nil_at (suc n) (suc m) = nil_at n m

  all_serve : (io : ℕ) (olds : List ActorStanding) (steps : List (List (Deed N S))) (news : List ActorStanding) → AllStep io olds steps news → (j m : ℕ) → m ≡ length olds + 1 + j → slice_index_or steps m [] ≡ []
  all_serve io [] [] news all j m e = absurd all
  all_serve io [] (reaper ∷ serving) news all j zero e = absurd (above e)
    where
      above : 0 ≡ 0 + 1 + j → ⊥
      above h = omega (arith, h)
  all_serve io [] (reaper ∷ serving) news all j (suc m) e = ap (λ (xs : List (List (Deed N S))). slice_index_or xs m []) all.1 ∙ nil_at io m
  all_serve io (o ∷ os) [] news all j m e = absurd all
  all_serve io (o ∷ os) (s ∷ ss) [] all j m e = absurd all
  all_serve io (o ∷ os) (s ∷ ss) (w ∷ ws) all j zero e = absurd (above e)
    where
      above : 0 ≡ length (o ∷ os) + 1 + j → ⊥
      above h = omega (arith, h)
  all_serve io (o ∷ os) (s ∷ ss) (w ∷ ws) all j (suc m) e = all_serve io os ss ws all.1 j m (omega (arith, e))

  serve_at : (io : ℕ) (olds : List ActorStanding) (turns : List (OneTurn N S)) (news : List ActorStanding) → TurnsGo io olds turns news → (j m : ℕ) → m ≡ length olds + 1 + j → deeds_in (map (turn_step m) turns) ≡ []
  serve_at io olds [] news go j m e = refl
  serve_at io olds (turn ∷ turns) news go j m e =
      let same = same_length io olds turn.steps go.1.0 go.1.1 in
      ap (λ (xs : List (Deed N S)). xs ++ deeds_in (map (turn_step m) turns)) (all_serve io olds turn.steps go.1.0 go.1.1 j m e)
      ∙ serve_at io go.1.0 turns news go.1.2 j m (omega (arith, e, same))

  -- ---- the conductor

  asks_so : (b : Bool) (asks : List (Deed N S)) → AsksIf b asks → EachDoes ConductsSo asks
  asks_so true asks a = subst (EachDoes ConductsSo) (sym a.2) (a.1, tt)
  asks_so false asks a = subst (EachDoes ConductsSo) (sym a) tt

  begins_so : (standings : List ActorStanding) (begins : List (Deed N S)) → Begins standings begins → EachDoes ConductsSo begins
  begins_so sts [] b = absurd b
  begins_so sts (Looks m ∷ asks) b = (b.look, asks_so _ asks b.asks_if)
  begins_so sts (Tries t ∷ asks) b = absurd b
  begins_so sts (Shuts acts ∷ asks) b = absurd b
  begins_so sts (Fetches slot acts ∷ asks) b = absurd b
  begins_so sts (Idles m ∷ asks) b = absurd b
  begins_so sts (Works acts ∷ asks) b = absurd b
  begins_so sts (AsksRoot acts ∷ asks) b = absurd b
  begins_so sts (Reads now ∷ asks) b = absurd b

  conduct_turns : (io : ℕ) (olds : List ActorStanding) (turns : List (OneTurn N S)) (news : List ActorStanding) → TurnsGo io olds turns news → (last : Moment N S) → ConductsSo (Looks last)
      → EachDoes ConductsSo (deeds_in (map (λ turn. turn.begins ++ Reads turn.reading ∷ []) turns ++ (Looks last ∷ []) ∷ []))
  conduct_turns io olds [] news go last look = (look, tt)
  conduct_turns io olds (turn ∷ turns) news go last look =
      each_more ConductsSo (turn.begins ++ Reads turn.reading ∷ []) _ (each_more ConductsSo turn.begins (Reads turn.reading ∷ []) (begins_so olds turn.begins go.0) (tt, tt))
      (conduct_turns io go.1.0 turns news go.1.2 last look)

  -- ---- all of them

  module _ (col : ℕ → List (List (Deed N S))) (conductor : List (List (Deed N S))) where
    pub serves_all : (n k : ℕ) → ((i m : ℕ) → m ≡ k + i → i < n → deeds_in (col m) ≡ []) → EachDoes ConductsSo (deeds_in conductor)
        → AllWork (replicate n Serves ++ Conducts ∷ []) (map col (range_with_len k n) ++ conductor ∷ [])
    serves_all zero k none so = (so, tt)
    serves_all (suc n) k none so = (none 0 k (omega arith) (omega arith), serves_all n (k + 1) (λ i m e lt. none (i + 1) m (omega (arith, e)) (omega (arith, lt))) so)

    pub acts_all : (script : Script) (rest : List Role) (m k count : ℕ) → count ≡ length script + m
        → ((i n : ℕ) (actor : ActorScript) → n ≡ k + i → slice_get script i ≡ Some actor → IsWorkOf (ActsBy actor) (deeds_in (col n)))
        → ((j : ℕ) → j ≡ k + length script → AllWork rest (map col (range_with_len j m) ++ conductor ∷ []))
        → AllWork (map (λ actor. ActsBy actor) script ++ rest) (map col (range_with_len k count) ++ conductor ∷ [])
    acts_all [] rest m k count e does last =
        let same : count ≡ m = omega (arith, e) in
        subst (λ (n : ℕ). AllWork rest (map col (range_with_len k n) ++ conductor ∷ [])) (sym same) (last k (omega arith))
    acts_all (a ∷ others) rest m k zero e does last = absurd (above e)
      where
        above : 0 ≡ length (a ∷ others) + m → ⊥
        above h = omega (arith, h)
    acts_all (a ∷ others) rest m k (suc count) e does last =
        (does 0 k a (omega arith) refl, acts_all others rest m (k + 1) count (omega (arith, e)) (λ i n actor f h. does (suc i) n actor (omega (arith, f)) h) (λ j f. last j (omega (arith, f))))

  pub turns_local : (script : Script) (io limit : ℕ) (t : Turned N S) (run : OwnedRun N S) → IsInTurns script io limit t run → AllWork (roles script io) run.workers
  turns_local script io limit t run is =
      let lengths = map_length script in
      let olds = map standing_before script in
      subst (AllWork (roles script io)) (sym is.workers_are)
      (acts_all (λ w. map (turn_step w) t.turns) (conductor_steps t) script (Reaps ∷ (replicate io Serves ++ Conducts ∷ [])) (suc io) 0 (worker_count script io) (omega arith)
      (λ i n actor f h. turns_at io olds t.turns is.standings is.go n (standing_before actor)
      (subst (λ (x : ℕ). slice_get olds x ≡ Some (standing_before actor)) (sym (f ∙ plain i)) (before_at script i actor h)))
      (λ j f. (
        reaper_at io olds t.turns is.standings is.go j (omega (arith, f, lengths)),
        serves_all (λ w. map (turn_step w) t.turns) (conductor_steps t) io (j + 1)
            (λ i m e lt. serve_at io olds t.turns is.standings is.go i m (omega (arith, e, f, lengths)))
            (tt, conduct_turns io olds t.turns is.standings is.go t.last is.last),
      )))
    where
      plain : (i : ℕ) → 0 + i ≡ i
      plain i = omega arith
