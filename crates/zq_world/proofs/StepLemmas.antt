-- How the workers' steps of a turn go on, one worker behind another.
use Rattle.std.proofs.Common.{◌≡◌, ◌≢◌, ◌<◌, ◌+◌, ℕ, List, [], ◌∷◌, ◌++◌, Bool, true, false, Option, Some, length, refl, sym, ap, subst, ◌∙◌, arith, append-nil, append_assoc, length-set}
use Rattle.std.specs.Prelude.{◌==◌, flat_map, slice_get, slice_set, slice_index_or, if◌then◌else◌}
use Rattle.std.proofs.lemmas.Bool.{eq-eqb, ne_eqb, eqb-true, eqb-false}
use Rattle.std.proofs.lemmas.Grind.{flat_map-append}
use Rattle.std.proofs.lemmas.Option.{slice_get_read}
use Rattle.spec_run.specs.Act.{Deed, Tries, Shuts, Fetches, Idles, Works, Looks, AsksRoot, Reads, acts_of, all_acts}
use Rattle.spec_run.specs.Fate.{skips_of}
use Rattle.spec_run.specs.InTurns.{ReaperStep}
use Rattle.spec_run.specs.OpenSocket.{OpenSock}
use Rattle.run_laws.proofs.GoesLemmas.{get_set_here, get_set_else}
use Rattle.zq_world.specs.Piece.{Piece, AreActsBy, AddsPiece, AddsDeeds, deed_pieces}
use Rattle.zq_world.specs.Way.{KeepsAll}
use Rattle.zq_world.specs.Stepping.{ActorAgrees, StepsSo, LeavesOthers}
use Rattle.zq_world.specs.declared.actor.Actor.{Actor}
use Rattle.zq_world.proofs.SeatLemmas.{all_kept, all_left}
use Rattle.zq_world.proofs.ActorStepLemmas.{adds_one}
use Rattle.zq_world.specs.CoreCalls.{ReapsOne}
use Rattle.zq_world.specs.Turning.{times, ActorsAgree, WorkerDoes, acts_so, reaps_so, serves_so, WorkerSteps, HasStepped, acted, reaped, served, HaveStepped}
use Rattle.zq_world.proofs.OrderLemmas.{times-append, times_it, times_not}
use Rattle.zq_world.proofs.TurnLemmas.{flat_same}

pub read_here : {X : Type 0} (xs : List X) (i : ℕ) (x : X) → i < length xs → x ≡ slice_index_or xs i x → slice_get xs i ≡ Some x
read_here xs i x lt is = slice_get_read xs (length xs) i x refl lt is

times_here : (w : ℕ) (done : List ℕ) → times w (done ++ w ∷ []) ≡ times w done + 1
times_here w done = let h = times-append w done (w ∷ []) in let one = times_it w w [] refl in let none : times w [] ≡ 0 = refl in omega (arith, h, one, none)

times_else : (w v : ℕ) (done : List ℕ) → w ≢ v → times v (done ++ w ∷ []) ≡ times v done
times_else w v done ne = let h = times-append v done (w ∷ []) in let one = times_not v w [] ne in let none : times v [] ≡ 0 = refl in omega (arith, h, one, none)

-- a function that has another value for one number
abbrev put_for : {X : Type 0} → (ℕ → X) → ℕ → X → ℕ → X
put_for f w x v = if v == w then x else f v

put_here : {X : Type 0} (f : ℕ → X) (w : ℕ) (x : X) → put_for f w x w ≡ x
put_here f w x = ap (λ (b : Bool). if b then x else f w) (eq-eqb w w refl)

put_else : {X : Type 0} (f : ℕ → X) (w : ℕ) (x : X) (v : ℕ) → v ≢ w → put_for f w x v ≡ f v
put_else f w x v ne = ap (λ (b : Bool). if b then x else f v) (ne_eqb v w ne)

module _ {N S : Type 0} where
  pub all_acts-append : (ds es : List (Deed N S)) → all_acts (ds ++ es) ≡ all_acts ds ++ all_acts es
  all_acts-append ds es = flat_map-append acts_of ds es

  -- the reaper drops no message
  reaps_whole : (d : Deed N S) → ReaperStep (d ∷ []) → skips_of d ≡ []
  reaps_whole (Tries t) step = elim step [ ]
  reaps_whole (Shuts acts) step = refl
  reaps_whole (Fetches slot acts) step = refl
  reaps_whole (Idles m) step = refl
  reaps_whole (Works acts) step = refl
  reaps_whole (Looks m) step = refl
  reaps_whole (AsksRoot acts) step = refl
  reaps_whole (Reads now) step = refl

module _ {O N S : Type 0} (as_open : O → OpenSock) where
  -- a worker steps behind these
  stepped_now : (w : ℕ) (old mid new : List (Actor O)) (deeds : List (Deed N S)) → slice_get mid w ≡ slice_get old w → length mid ≡ length old → WorkerDoes as_open w mid new deeds → HasStepped as_open w old new deeds
  stepped_now w old mid new deeds same count (acts_so a b here is does) =
      acted a b (sym same ∙ here) (ap (λ l. slice_get l w) is ∙ get_set_here mid w a b here) does
  stepped_now w old mid new deeds same count (reaps_so at is step) = reaped (at ∙ count) step
  stepped_now w old mid new deeds same count (serves_so past is none) = served (subst (λ n. n < w) count past) none

  else_stays : (w v : ℕ) (mid new : List (Actor O)) (deeds : List (Deed N S)) → v ≢ w → WorkerDoes as_open w mid new deeds → slice_get new v ≡ slice_get mid v
  else_stays w v mid new deeds ne (acts_so a b here is does) = ap (λ l. slice_get l v) is ∙ get_set_else mid w v b ne
  else_stays w v mid new deeds ne (reaps_so at is step) = ap (λ l. slice_get l v) is
  else_stays w v mid new deeds ne (serves_so past is none) = ap (λ l. slice_get l v) is

  as_many : (w : ℕ) (mid new : List (Actor O)) (deeds : List (Deed N S)) → WorkerDoes as_open w mid new deeds → length new ≡ length mid
  as_many w mid new deeds (acts_so a b here is does) = ap length is ∙ length-set mid w b
  as_many w mid new deeds (reaps_so at is step) = ap length is
  as_many w mid new deeds (serves_so past is none) = ap length is

  stays_stepped : (v : ℕ) (old mid new : List (Actor O)) (deeds : List (Deed N S)) → slice_get new v ≡ slice_get mid v → HasStepped as_open v old mid deeds → HasStepped as_open v old new deeds
  stays_stepped v old mid new deeds same (acted a b was now does) = acted a b was (same ∙ now) does
  stays_stepped v old mid new deeds same (reaped at step) = reaped at step
  stays_stepped v old mid new deeds same (served past none) = served past none

  pub have_none : (old : List (Actor O)) (pieces : List (Piece N S)) → HaveStepped as_open [] old old pieces pieces
  have_none old pieces = record {
    steps = λ w. [];
    count = refl;
    not_yet = λ w none. refl;
    stepped = λ w e. elim (never e) [ ];
    by = λ w. tt;
    adds = sym (append-nil pieces);
  }
    where
      never : ◌≡◌ {A = ℕ} 0 1 → ⊥
      never e = omega (arith, e)

  pub have_more : (w : ℕ) (done : List ℕ) (old mid new : List (Actor O)) (before between after : List (Piece N S)) → times w done ≡ 0
      → HaveStepped as_open done old mid before between → WorkerSteps as_open w mid new between after → HaveStepped as_open (done ++ w ∷ []) old new before after
  have_more w done old mid new before between after fresh h one = record {
    steps = put_for h.steps w one.deeds;
    count = as_many w mid new one.deeds one.does ∙ h.count;
    not_yet = λ v none. not_yet_then v none;
    stepped = λ v once. stepped_then v once;
    by = λ v. by_then v (v == w) refl;
    adds = one.adds.added ∙ ap (λ l. l ++ deed_pieces w (w == length mid) one.deeds) h.adds ∙ append_assoc before (flat_map (told h.steps) done) (deed_pieces w (w == length mid) one.deeds)
        ∙ ap (λ l. before ++ l) (ap (λ n. flat_map (told h.steps) done ++ deed_pieces w (w == n) one.deeds) h.count ∙ sym told_then);
  }
    where
      told : (ℕ → List (Deed N S)) → ℕ → List (Piece N S)
      told steps v = deed_pieces v (v == length old) (steps v)

      earlier : (v : ℕ) → (times v done ≡ 0 → ⊥) → told (put_for h.steps w one.deeds) v ≡ told h.steps v
      earlier v some = ap (deed_pieces v (v == length old)) (put_else h.steps w one.deeds v (λ same. some (ap (λ u. times u done) same ∙ fresh)))

      told_then : flat_map (told (put_for h.steps w one.deeds)) (done ++ w ∷ []) ≡ flat_map (told h.steps) done ++ deed_pieces w (w == length old) one.deeds
      told_then = flat_map-append (told (put_for h.steps w one.deeds)) done (w ∷ [])
          ∙ ap (λ l. l ++ (told (put_for h.steps w one.deeds) w ++ [])) (flat_same (told (put_for h.steps w one.deeds)) (told h.steps) done earlier)
          ∙ ap (λ l. flat_map (told h.steps) done ++ l) (append-nil (told (put_for h.steps w one.deeds) w) ∙ ap (deed_pieces w (w == length old)) (put_here h.steps w one.deeds))

      other : (v : ℕ) → times v (done ++ w ∷ []) ≡ 0 → v ≢ w
      other v none same = (let e = subst (λ (u : ℕ). times u (done ++ w ∷ []) ≡ 0) same none in let f = times_here w done in omega (arith, e, f))

      not_yet_then : (v : ℕ) → times v (done ++ w ∷ []) ≡ 0 → slice_get new v ≡ slice_get old v
      not_yet_then v none = else_stays w v mid new one.deeds (other v none) one.does
          ∙ h.not_yet v (sym (times_else w v done (λ e. other v none (sym e))) ∙ none)

      stepped_by : (v : ℕ) → times v (done ++ w ∷ []) ≡ 1 → (b : Bool) → (v == w) ≡ b → HasStepped as_open v old new (put_for h.steps w one.deeds v)
      stepped_by v once true e =
          subst (λ (u : ℕ). HasStepped as_open u old new (put_for h.steps w one.deeds u)) (sym (eqb-true v w e))
          (subst (λ (ds : List (Deed N S)). HasStepped as_open w old new ds) (sym (put_here h.steps w one.deeds)) (stepped_now w old mid new one.deeds (h.not_yet w fresh) h.count one.does))
      stepped_by v once false e =
          let ne : v ≢ w = eqb-false v w e in
          subst (λ (ds : List (Deed N S)). HasStepped as_open v old new ds) (sym (put_else h.steps w one.deeds v ne))
          (stays_stepped v old mid new (h.steps v) (else_stays w v mid new one.deeds ne one.does) (h.stepped v (sym (times_else w v done (λ f. ne (sym f))) ∙ once)))

      stepped_then : (v : ℕ) → times v (done ++ w ∷ []) ≡ 1 → HasStepped as_open v old new (put_for h.steps w one.deeds v)
      stepped_then v once = stepped_by v once (v == w) refl

      by_then : (v : ℕ) (b : Bool) → (v == w) ≡ b → AreActsBy v (all_acts (put_for h.steps w one.deeds v))
      by_then v true e = subst (λ (u : ℕ). AreActsBy u (all_acts (put_for h.steps w one.deeds u))) (sym (eqb-true v w e))
          (subst (λ (ds : List (Deed N S)). AreActsBy w (all_acts ds)) (sym (put_here h.steps w one.deeds)) one.adds.by)
      by_then v false e = subst (λ (ds : List (Deed N S)). AreActsBy v (all_acts ds)) (sym (put_else h.steps w one.deeds v (eqb-false v w e))) (h.by v)

  -- an actor's step is a worker's
  pub actor_is : (w : ℕ) (actors : List (Actor O)) (a b : Actor O) (before after : List (Piece N S)) → w < length actors → a ≡ slice_index_or actors w a → StepsSo as_open w a b before after
      → WorkerSteps as_open w actors (slice_set actors w b) before after
  actor_is w actors a b before after lt is h = record {
    deeds = h.deeds;
    does = acts_so a b (slice_get_read actors (length actors) w a refl lt is) refl (record { step = h.step; says = h.says; name = h.name });
    adds = subst (λ b. AddsDeeds w b h.deeds before after) (sym (ne_eqb w (length actors) (λ e. omega (arith, e, lt)))) h.adds;
  }

  pub reaper_is : (w : ℕ) (actors : List (Actor O)) (before after : List (Piece N S)) → w ≡ length actors → ReapsOne w before after → WorkerSteps as_open w actors actors before after
  reaper_is w actors before after at h = record {
    deeds = h.deed ∷ [];
    does = reaps_so at refl h.step;
    adds = subst (λ b. AddsDeeds w b (h.deed ∷ []) before after) (sym (eq-eqb w (length actors) at))
        (adds_one w true h.deed before after (subst (λ skips. AddsPiece w true (acts_of h.deed) skips before after) (sym (reaps_whole h.deed h.step)) h.adds));
  }

  pub server_is : (w : ℕ) (actors : List (Actor O)) (pieces : List (Piece N S)) → length actors < w → WorkerSteps as_open w actors actors pieces pieces
  server_is w actors pieces past = record { deeds = []; does = serves_so past refl refl; adds = record { added = sym (append-nil pieces); by = tt } }

module _ {W O : Type 0} (as_open : O → OpenSock) (agrees : W → ℕ → O → Type 0) (was_made : W → ℕ → Type 0) where
  -- all actors' sockets agree behind one actor's step
  pub agree_then : (old new : W) (actors : List (Actor O)) (w : ℕ) (a b : Actor O) → slice_get actors w ≡ Some a → ActorsAgree as_open agrees was_made old actors
      → ActorAgrees as_open agrees was_made new w b → LeavesOthers agrees was_made w old new → ActorsAgree as_open agrees was_made new (slice_set actors w b)
  agree_then old new actors w a b here all now others i x at = by (i == w) refl
    where
      by : (c : Bool) → (i == w) ≡ c → ActorAgrees as_open agrees was_made new i x
      by true e =
          let same : i ≡ w = eqb-true i w e in
          let is : slice_get (slice_set actors w b) w ≡ Some x = subst (λ (u : ℕ). slice_get (slice_set actors w b) u ≡ Some x) same at in
          subst (λ (u : ℕ). ActorAgrees as_open agrees was_made new u x) (sym same)
          (subst (ActorAgrees as_open agrees was_made new w) (one_is b x (sym (get_set_here actors w a b here) ∙ is)) now)
        where
          one_is : (y z : Actor O) → ◌≡◌ {A = Option (Actor O)} (Some y) (Some z) → y ≡ z
          one_is y z f = cc
      by false e =
          let ne : i ≢ w = eqb-false i w e in
          let before : ActorAgrees as_open agrees was_made old i x = all i x (sym (get_set_else actors w i b ne) ∙ at) in
          record { sockets = all_left as_open agrees was_made w i old new x.seats ne others before.sockets; may = before.may }

  pub agree_still : (old new : W) (actors : List (Actor O)) → KeepsAll agrees was_made old new → ActorsAgree as_open agrees was_made old actors → ActorsAgree as_open agrees was_made new actors
  agree_still old new actors keeps all i x at =
      record { sockets = all_kept as_open agrees was_made i old new x.seats keeps (all i x at).sockets; may = (all i x at).may }
