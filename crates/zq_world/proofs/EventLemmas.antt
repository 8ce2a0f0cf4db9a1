-- What each event does to the actors over a core, and events one after another.
use Rattle.std.proofs.Common.{◌≡◌, ◌≤◌, ◌+◌, ℕ, zero, suc, List, [], ◌∷◌, ◌++◌, Bool, true, false, Option, Some, None, length, map, drop, refl, sym, ap, subst, ◌∙◌, arith, append-nil, append_assoc, length-set}
use Rattle.std.specs.Prelude.{◌==◌, slice_get, slice_set, slice_index_or, option_map, if◌then◌else◌}
use Rattle.std.proofs.lemmas.Bool.{eqb-true, eqb-false, eq-eqb, ne_eqb}
use Rattle.std.proofs.lemmas.List.{map-set, length-map, drop_all}
use Rattle.std.proofs.lemmas.Option.{slice_get-map, slice_get_within, slice_get-get_or}
use Rattle.spec_control.specs.Control.{Control, begun}
use Rattle.spec_run.specs.declared.journal.Entry.{Entry}
use Rattle.spec_run.specs.Script.{Script}
use Rattle.spec_run.specs.Act.{Deed, Tries, Shuts, Fetches, Idles, Works, Looks, AsksRoot, Reads, acts_of, all_acts}
use Rattle.spec_run.specs.Fate.{skips_of}
use Rattle.spec_run.specs.OpenSocket.{OpenSock}
use Rattle.spec_run.specs.Standing.{ActorStanding, standing_before, has_finished}
use Rattle.spec_run.specs.InTurns.{ActorStep}
use Rattle.spec_run.specs.CoreEvents.{CoreEvent, NextLine, TakeFrom, AskRoot, Tick, Made, may_take, actor_with, StepsUnless, LineDoes, TakenBy, TakeDoes, EventDoes}
use Rattle.spec_run.specs.Journal.{entries_shown}
use Rattle.run_laws.proofs.GoesLemmas.{deeds_by, by_own, by_other, by-append, events_more, placed_both, get_set_here, get_set_else}
use Rattle.zq_world.specs.Piece.{Piece, AreActsBy, AddsPiece, piece_of, deed_pieces}
use Rattle.zq_world.specs.Stepping.{standing_of, entries_of, StepsSo}
use Rattle.zq_world.specs.Taking.{control_told, has_slot, FetchesSo}
use Rattle.zq_world.specs.declared.actor.Actor.{Actor}
use Rattle.zq_world.proofs.FetchLemmas.{drop_here}
use Rattle.zq_world.specs.CoreCalls.{AsksOnce, IsReaper}
use Rattle.zq_world.specs.Turning.{standings}
use Rattle.zq_world.specs.Played.{AreNew}
use Rattle.zq_world.specs.Taken.{is_reapers, ReapsAt}
use Rattle.zq_world.specs.ByEvents.{piece_made, made_pieces, HasToldIn, HoldsFirst, DoesEvent, HasRun}
use Rattle.zq_world.proofs.AskedLemmas.{finished_step, as_scripted}
use Rattle.zq_world.proofs.MadeLemmas.{made-append, control_made, alone_made}
use Rattle.zq_world.proofs.RunLemmas.{shown_more}

some_is : {X : Type 0} (x y : X) → ◌≡◌ {A = Option X} (Some x) (Some y) → x ≡ y
some_is x y e = cc

never_none : {X : Type 0} (x : X) (xs : List X) → ◌≡◌ {A = List X} (x ∷ xs) [] → ⊥
never_none x xs e = cc

-- a list whose element is set to one that looks the same
set_alike : {X Y : Type 0} (f : X → Y) (xs : List X) (i : ℕ) (x y : X) → slice_get xs i ≡ Some x → f y ≡ f x → map f (slice_set xs i y) ≡ map f xs
set_alike f [] i x y here same = refl
set_alike f (z ∷ xs) zero x y here same = ap (λ w. w ∷ map f xs) (same ∙ ap f (sym (some_is z x here)))
set_alike f (z ∷ xs) (suc i) x y here same = ap (λ l. f z ∷ l) (set_alike f xs i x y here same)

module _ {N S : Type 0} where
  not_two : (old new : ActorStanding) (d e : Deed N S) (ds : List (Deed N S)) → ActorStep old (d ∷ e ∷ ds) new → ⊥
  not_two old new (Tries t) e ds s = s
  not_two old new (Shuts acts) e ds s = s
  not_two old new (Fetches slot acts) e ds s = s
  not_two old new (Idles m) e ds s = s
  not_two old new (Works acts) e ds s = s
  not_two old new (Looks m) e ds s = s
  not_two old new (AsksRoot acts) e ds s = s
  not_two old new (Reads now) e ds s = s

  -- one deed of a worker that does not reap, and of the reaper
  one_piece : (n w : ℕ) (d : Deed N S) (b : Bool) → (w == n) ≡ b → made_pieces n (record { worker = w; deed = d } ∷ []) ≡ piece_of w b (acts_of d) (skips_of d)
  one_piece n w d b e = append-nil (piece_made n (record { worker = w; deed = d })) ∙ ap (λ (r : Bool). piece_of w r (acts_of d) (skips_of d)) e

module _ {O N S : Type 0} where
  told_same : (i : ℕ) (made : List (Made N S)) (a b : Actor O) → a ≡ b → deeds_by i made ≡ [] → HasToldIn i made a b
  told_same i made a b same none = record {
    says = ap entries_of (sym same) ∙ sym (append-nil (entries_of a)) ∙ ap (λ (ds : List (Deed N S)). entries_of a ++ entries_shown ds) (sym none);
    name = ap (λ (x : Actor O). x.name) (sym same);
  }

  -- where the actors stay, and the worker is none of them
  said_by_none : (w : ℕ) (d : Deed N S) (actors : List (Actor O)) → length actors ≤ w → (i : ℕ) (a b : Actor O) → slice_get actors i ≡ Some a → slice_get actors i ≡ Some b → HasToldIn i (record { worker = w; deed = d } ∷ []) a b
  said_by_none w d actors le i a b was now =
      let lt = slice_get_within actors i a was in
      told_same i (record { worker = w; deed = d } ∷ []) a b (some_is a b (sym was ∙ now)) (by_other i w d (λ e. omega (arith, e, le, lt)))

  -- where one actor changes by its deed
  said_by_one : (w : ℕ) (d : Deed N S) (actors : List (Actor O)) (a b : Actor O) → slice_get actors w ≡ Some a → entries_of b ≡ entries_of a ++ entries_shown (d ∷ []) → b.name ≡ a.name
      → (i : ℕ) (x y : Actor O) → slice_get actors i ≡ Some x → slice_get (slice_set actors w b) i ≡ Some y → HasToldIn i (record { worker = w; deed = d } ∷ []) x y
  said_by_one w d actors a b here says «name» i x y was now = by (i == w) refl
    where
      by : (c : Bool) → (i == w) ≡ c → HasToldIn i (record { worker = w; deed = d } ∷ []) x y
      by true e =
          let same = eqb-true i w e in
          let old : x ≡ a = some_is x a (sym was ∙ subst (λ (k : ℕ). slice_get actors k ≡ Some a) (sym same) here) in
          let new : y ≡ b = some_is y b (sym now ∙ subst (λ (k : ℕ). slice_get (slice_set actors w b) k ≡ Some b) (sym same) (get_set_here actors w a b here)) in
          record {
            says = ap entries_of new ∙ says ∙ ap (λ (z : Actor O). entries_of z ++ entries_shown (d ∷ [])) (sym old) ∙ ap (λ (ds : List (Deed N S)). entries_of x ++ entries_shown ds) (sym (by_own i w d (sym same)));
            name = ap (λ (z : Actor O). z.name) new ∙ «name» ∙ ap (λ (z : Actor O). z.name) (sym old);
          }
      by false e =
          let ne = eqb-false i w e in
          told_same i (record { worker = w; deed = d } ∷ []) x y (some_is x y (sym was ∙ sym (get_set_else actors w i b ne) ∙ now)) (by_other i w d (λ same. ne (sym same)))

module _ {O : Type 0} (as_open : O → OpenSock) where
  many : (actors : List (Actor O)) → length (standings as_open actors) ≡ length actors
  many actors = length-map actors (standing_of as_open)

  -- an actor that is there has a standing
  line_stands : (w : ℕ) (actors : List (Actor O)) (a : Actor O) → slice_get actors w ≡ Some a → slice_get (standings as_open actors) w ≡ Some (standing_of as_open a)
  line_stands w actors a here = slice_get-map (standing_of as_open) actors w ∙ ap (option_map (standing_of as_open)) here

  -- no actor before this number has a socket with the mailbox
  abbrev pub IsPassedBy : (slot number : ℕ) → List (Actor O) → Type 0
  IsPassedBy slot number actors = actor_with slot number (drop number (standings as_open actors)) ≡ actor_with slot 0 (standings as_open actors)

  from_here : (slot number : ℕ) (actors : List (Actor O)) (a : Actor O) (b : Bool) → slice_get actors number ≡ Some a → has_slot slot (standing_of as_open a).mine.socks ≡ b
      → actor_with slot number (drop number (standings as_open actors)) ≡ (if b then Some number else actor_with slot (number + 1) (drop (suc number) (standings as_open actors)))
  from_here slot number actors a b here has =
      ap (actor_with slot number) (drop_here (standings as_open actors) number (standing_of as_open a) (line_stands number actors a here))
      ∙ ap (λ (c : Bool). if c then Some number else actor_with slot (number + 1) (drop (suc number) (standings as_open actors))) has

  pub pass_by : (slot number : ℕ) (actors : List (Actor O)) (a : Actor O) → IsPassedBy slot number actors → slice_get actors number ≡ Some a → has_slot slot (standing_of as_open a).mine.socks ≡ false → IsPassedBy slot (number + 1) actors
  pass_by slot number actors a passed here not =
      let next : suc number ≡ number + 1 = omega arith in
      subst (λ (n : ℕ). actor_with slot (number + 1) (drop n (standings as_open actors)) ≡ actor_with slot 0 (standings as_open actors)) next (sym (from_here slot number actors a false here not) ∙ passed)

  pub holds_here : (slot number : ℕ) (actors : List (Actor O)) (a : Actor O) → IsPassedBy slot number actors → slice_get actors number ≡ Some a → has_slot slot (standing_of as_open a).mine.socks ≡ true → HoldsFirst as_open slot number actors
  holds_here slot number actors a passed here has = record { actor = a; here = here; has = has; first = sym passed ∙ from_here slot number actors a true here has }

  pub nobody_holds : (slot number : ℕ) (actors : List (Actor O)) → IsPassedBy slot number actors → length actors ≤ number → actor_with slot 0 (standings as_open actors) ≡ None
  nobody_holds slot number actors passed le =
      sym passed ∙ ap (actor_with slot number) (drop_all number (standings as_open actors) (let n = many actors in omega (arith, le, n)))

  -- the conductor's number
  conductor_at : (actors : List (Actor O)) (k : ℕ) → k ≡ length actors + 2 → k ≡ length (standings as_open actors) + 1 + 1
  conductor_at actors k e = let n = many actors in omega (arith, e, n)

module _ {O N S : Type 0} (as_open : O → OpenSock) where
  -- nothing is done
  pub one_idle : (event : CoreEvent) (actors : List (Actor O)) (pieces : List (Piece N S))
      → EventDoes {N = N} {S = S} 1 (control_told pieces) event (standings as_open actors) [] (standings as_open actors) → DoesEvent as_open event actors actors pieces pieces
  one_idle event actors pieces does = record {
    made = [];
    does = does;
    by = tt;
    count = refl;
    says = λ i a b was now. told_same i [] a b (some_is a b (sym was ∙ now)) refl;
    pieces_are = sym (append-nil pieces);
  }

  -- an actor changes by its deed
  one_acted : (event : CoreEvent) (w : ℕ) (d : Deed N S) (actors : List (Actor O)) (a b : Actor O) (before after : List (Piece N S)) → slice_get actors w ≡ Some a
      → EventDoes 1 (control_told before) event (standings as_open actors) (record { worker = w; deed = d } ∷ []) (standings as_open (slice_set actors w b))
      → entries_of b ≡ entries_of a ++ entries_shown (d ∷ []) → b.name ≡ a.name → AddsPiece w false (acts_of d) (skips_of d) before after
      → DoesEvent as_open event actors (slice_set actors w b) before after
  one_acted event w d actors a b before after here does says «name» adds =
      let lt = slice_get_within actors w a here in
      record {
        made = record { worker = w; deed = d } ∷ [];
        does = does;
        by = (adds.by, tt);
        count = length-set actors w b;
        says = said_by_one w d actors a b here says «name»;
        pieces_are = adds.added ∙ ap (λ l. before ++ l) (sym (one_piece (length actors) w d false (ne_eqb w (length actors) (λ e. omega (arith, e, lt)))));
      }

  -- an actor's next step
  pub one_more_line : (w : ℕ) (actors : List (Actor O)) (a b : Actor O) (before after : List (Piece N S)) → slice_get actors w ≡ Some a → StepsSo as_open w a b before after
      → DoesEvent as_open (NextLine w) actors (slice_set actors w b) before after
  one_more_line w actors a b before after here h = by h.deeds h.step h.adds.added h.adds.by h.says
    where
      steps : (finished : Bool) → has_finished (standing_of as_open a) ≡ finished → (made : List (Made N S)) → StepsUnless finished w (standing_of as_open a) (standings as_open actors) made (standings as_open (slice_set actors w b))
          → EventDoes 1 (control_told before) (NextLine w) (standings as_open actors) made (standings as_open (slice_set actors w b))
      steps finished e made s =
          subst (λ (found : Option ActorStanding). LineDoes w found (standings as_open actors) made (standings as_open (slice_set actors w b))) (sym (line_stands as_open w actors a here))
          (subst (λ (c : Bool). StepsUnless c w (standing_of as_open a) (standings as_open actors) made (standings as_open (slice_set actors w b))) (sym e) s)

      unfinished : (d : Deed N S) → ActorStep (standing_of as_open a) (d ∷ []) (standing_of as_open b) → (c : Bool) → has_finished (standing_of as_open a) ≡ c
          → EventDoes 1 (control_told before) (NextLine w) (standings as_open actors) (record { worker = w; deed = d } ∷ []) (standings as_open (slice_set actors w b))
      unfinished d s true e = absurd (never_none d [] (finished_step (standing_of as_open a) (standing_of as_open b) (d ∷ []) e s).0)
      unfinished d s false e = steps false e (record { worker = w; deed = d } ∷ [])
          (record { deed = d; next = standing_of as_open b; step = s; made_is = refl; new_is = map-set (standing_of as_open) actors w b })

      by : (ds : List (Deed N S)) → ActorStep (standing_of as_open a) ds (standing_of as_open b) → after ≡ before ++ deed_pieces w false ds → AreActsBy w (all_acts ds) → entries_of b ≡ entries_of a ++ entries_shown ds
          → DoesEvent as_open (NextLine w) actors (slice_set actors w b) before after
      by [] s added acts says = record {
        made = [];
        does = steps true s.0 [] (refl, set_alike (standing_of as_open) actors w a b here s.1);
        by = tt;
        count = length-set actors w b;
        says = said;
        pieces_are = added;
      }
        where
          said : (i : ℕ) (x y : Actor O) → slice_get actors i ≡ Some x → slice_get (slice_set actors w b) i ≡ Some y → HasToldIn {N = N} {S = S} i [] x y
          said i x y was now = one (i == w) refl
            where
              one : (c : Bool) → (i == w) ≡ c → HasToldIn {N = N} {S = S} i [] x y
              one true e =
                  let same = eqb-true i w e in
                  let old : x ≡ a = some_is x a (sym was ∙ subst (λ (k : ℕ). slice_get actors k ≡ Some a) (sym same) here) in
                  let new : y ≡ b = some_is y b (sym now ∙ subst (λ (k : ℕ). slice_get (slice_set actors w b) k ≡ Some b) (sym same) (get_set_here actors w a b here)) in
                  record {
                    says = ap entries_of new ∙ says ∙ ap (λ (z : Actor O). entries_of z ++ []) (sym old);
                    name = ap (λ (z : Actor O). z.name) new ∙ h.name ∙ ap (λ (z : Actor O). z.name) (sym old);
                  }
              one false e = told_same i [] x y (some_is x y (sym was ∙ sym (get_set_else actors w i b (eqb-false i w e)) ∙ now)) refl
      by (d ∷ []) s added acts says =
          one_acted (NextLine w) w d actors a b before after here (unfinished d s (has_finished (standing_of as_open a)) refl) says h.name
          (record { added = added ∙ ap (λ l. before ++ l) (append-nil (piece_of w false (acts_of d) (skips_of d))); by = subst (AreActsBy w) (append-nil (acts_of d)) acts })
      by (d ∷ e ∷ ds) s added acts says = absurd (not_two (standing_of as_open a) (standing_of as_open b) d e ds s)

  -- there is no such actor
  pub one_no_line : (w : ℕ) (actors : List (Actor O)) (pieces : List (Piece N S)) → slice_get actors w ≡ None → DoesEvent as_open (NextLine w) actors actors pieces pieces
  one_no_line w actors pieces none = one_idle (NextLine w) actors pieces
      (subst (λ (found : Option ActorStanding). LineDoes {N = N} {S = S} w found (standings as_open actors) [] (standings as_open actors)) (sym (slice_get-map (standing_of as_open) actors w ∙ ap (option_map (standing_of as_open)) none)) (refl, refl))

  -- a letter may be taken or not
  takes_if : (slot : ℕ) (b : Bool) (actors new : List (Actor O)) (made : List (Made N S)) (pieces : List (Piece N S)) → may_take (control_told pieces) slot ≡ b
      → TakeDoes b (control_told pieces) (length (standings as_open actors)) slot (standings as_open actors) made (standings as_open new)
      → EventDoes 1 (control_told pieces) (TakeFrom slot) (standings as_open actors) made (standings as_open new)
  takes_if slot b actors new made pieces e h =
      subst (λ (c : Bool). TakeDoes c (control_told pieces) (length (standings as_open actors)) slot (standings as_open actors) made (standings as_open new)) (sym e) h

  taken_by : (slot : ℕ) (found : Option ℕ) (actors new : List (Actor O)) (made : List (Made N S)) (pieces : List (Piece N S)) → may_take (control_told pieces) slot ≡ true → actor_with slot 0 (standings as_open actors) ≡ found
      → TakenBy found (is_reapers (control_told pieces) slot) (length (standings as_open actors)) slot (standings as_open actors) made (standings as_open new)
      → EventDoes 1 (control_told pieces) (TakeFrom slot) (standings as_open actors) made (standings as_open new)
  taken_by slot found actors new made pieces may is h =
      takes_if slot true actors new made pieces may
      (subst (λ (f : Option ℕ). TakenBy f (is_reapers (control_told pieces) slot) (length (standings as_open actors)) slot (standings as_open actors) made (standings as_open new)) (sym is) h)

  pub one_not_taken : (slot : ℕ) (actors : List (Actor O)) (pieces : List (Piece N S)) → may_take (control_told pieces) slot ≡ false → DoesEvent as_open (TakeFrom slot) actors actors pieces pieces
  one_not_taken slot actors pieces not = one_idle (TakeFrom slot) actors pieces (takes_if slot false actors actors [] pieces not (refl, refl))

  -- by the actor whose socket has it
  pub one_more_fetched : (w slot : ℕ) (actors : List (Actor O)) (a b : Actor O) (before after : List (Piece N S)) → slice_get actors w ≡ Some a → may_take (control_told before) slot ≡ true
      → actor_with slot 0 (standings as_open actors) ≡ Some w → FetchesSo as_open w slot a b before after → DoesEvent as_open (TakeFrom slot) actors (slice_set actors w b) before after
  one_more_fetched w slot actors a b before after here may is h =
      one_acted (TakeFrom slot) w (Fetches slot h.acts) actors a b before after here
      (taken_by slot (Some w) actors (slice_set actors w b) (record { worker = w; deed = Fetches slot h.acts } ∷ []) before may is
      (record {
        st = standing_of as_open a;
        next = standing_of as_open b;
        acts = h.acts;
        there = line_stands as_open w actors a here;
        fetches = h.fetches;
        made_is = refl;
        new_is = map-set (standing_of as_open) actors w b;
      }))
      (h.says ∙ sym (append-nil (entries_of a))) h.name h.adds

  -- by the reaper
  pub one_more_reaped : (slot : ℕ) (actors : List (Actor O)) (before after : List (Piece N S)) → may_take (control_told before) slot ≡ true → actor_with slot 0 (standings as_open actors) ≡ None
      → is_reapers (control_told before) slot ≡ true → ReapsAt (length actors) slot before after → DoesEvent as_open (TakeFrom slot) actors actors before after
  one_more_reaped slot actors before after may is mine h = record {
    made = record { worker = length actors; deed = Fetches slot h.acts } ∷ [];
    does = taken_by slot None actors actors (record { worker = length actors; deed = Fetches slot h.acts } ∷ []) before may is
        (subst (λ (c : Bool). TakenBy {N = N} {S = S} None c (length (standings as_open actors)) slot (standings as_open actors) (record { worker = length actors; deed = Fetches slot h.acts } ∷ []) (standings as_open actors)) (sym mine)
        (record { acts = h.acts; takes = h.takes; made_is = ap (λ (k : ℕ). record { worker = k; deed = Fetches slot h.acts } ∷ []) (sym (many as_open actors)); new_is = refl }));
    by = (h.adds.by, tt);
    count = refl;
    says = said_by_none (length actors) (Fetches slot h.acts) actors (omega arith);
    pieces_are = h.adds.added ∙ ap (λ l. before ++ l) (sym (one_piece (length actors) (length actors) (Fetches slot h.acts) true (eq-eqb (length actors) (length actors) refl)));
  }

  -- or by nobody, since it is an I/O worker's
  pub one_not_reaped : (slot : ℕ) (actors : List (Actor O)) (pieces : List (Piece N S)) → may_take (control_told pieces) slot ≡ true → actor_with slot 0 (standings as_open actors) ≡ None
      → is_reapers (control_told pieces) slot ≡ false → DoesEvent as_open (TakeFrom slot) actors actors pieces pieces
  one_not_reaped slot actors pieces may is mine = one_idle (TakeFrom slot) actors pieces
      (taken_by slot None actors actors [] pieces may is
      (subst (λ (c : Bool). TakenBy {N = N} {S = S} None c (length (standings as_open actors)) slot (standings as_open actors) [] (standings as_open actors)) (sym mine) (refl, refl)))

  -- the conductor asks the root, and reads the clock
  pub one_more_ask : (k : ℕ) (actors : List (Actor O)) (before after : List (Piece N S)) → k ≡ length actors + 2 → AsksOnce k before after → DoesEvent as_open AskRoot actors actors before after
  one_more_ask k actors before after at h = record {
    made = record { worker = k; deed = AsksRoot h.acts } ∷ [];
    does = record { acts = h.acts; asks = h.asks; made_is = ap (λ (n : ℕ). record { worker = n; deed = AsksRoot h.acts } ∷ []) (conductor_at as_open actors k at); new_is = refl };
    by = (h.adds.by, tt);
    count = refl;
    says = said_by_none k (AsksRoot h.acts) actors (omega (arith, at));
    pieces_are = h.adds.added ∙ ap (λ l. before ++ l) (sym (one_piece (length actors) k (AsksRoot h.acts) false (ne_eqb k (length actors) (λ e. omega (arith, e, at)))));
  }

  pub one_more_tick : (now : ℕ) (actors : List (Actor O)) (pieces : List (Piece N S)) → DoesEvent as_open (Tick now) actors actors pieces pieces
  one_more_tick now actors pieces = record {
    made = record { worker = length actors + 2; deed = Reads now } ∷ [];
    does = (ap (λ (n : ℕ). record { worker = n; deed = Reads now } ∷ []) (conductor_at as_open actors (length actors + 2) refl), refl);
    by = (tt, tt);
    count = refl;
    says = said_by_none (length actors + 2) (Reads now) actors (omega arith);
    pieces_are = sym (append-nil pieces);
  }

  -- ---- events, one after another

  pub has_none : (script : Script) (actors : List (Actor O)) (pieces : List (Piece N S)) → AreNew script actors → pieces ≡ [] → HasRun as_open script [] actors pieces
  has_none script actors pieces new none = record {
    start = actors;
    is_new = new;
    made = [];
    go = (refl, new.stand as_open);
    by = tt;
    count = refl;
    says = λ i a b was now. told_same i [] a b (some_is a b (sym was ∙ now)) refl;
    pieces_are = none;
  }

  pub has_more : (script : Script) (events : List CoreEvent) (event : CoreEvent) (mid new : List (Actor O)) (before after : List (Piece N S)) → HasRun as_open script events mid before
      → DoesEvent as_open event mid new before after → HasRun as_open script (events ++ event ∷ []) new after
  has_more script events event mid new before after ran one = record {
    start = ran.start;
    is_new = ran.is_new;
    made = ran.made ++ one.made;
    go = events_more 1 (begun 1) events event (map standing_before script) (standings as_open mid) (standings as_open new) ran.made one.made ran.go
        (subst (λ (c : Control). EventDoes 1 c event (standings as_open mid) one.made (standings as_open new)) (ap control_told ran.pieces_are ∙ control_made (length script) ran.made) one.does);
    by = placed_both (λ (m : Made N S). AreActsBy m.worker (acts_of m.deed)) ran.made one.made ran.by one.by;
    count = one.count ∙ ran.count;
    says = said;
    pieces_are = one.pieces_are ∙ ap (λ l. l ++ made_pieces (length mid) one.made) ran.pieces_are
        ∙ ap (λ (n : ℕ). made_pieces (length script) ran.made ++ made_pieces n one.made) (ran.count ∙ as_scripted as_open script ran.start (ran.is_new.stand as_open))
        ∙ sym (made-append (length script) ran.made one.made);
  }
    where
      said : (i : ℕ) (a b : Actor O) → slice_get ran.start i ≡ Some a → slice_get new i ≡ Some b → HasToldIn i (ran.made ++ one.made) a b
      said i a b was now =
          let lt_new = slice_get_within new i b now in
          let count = one.count in
          let m = slice_index_or mid i b in
          let there : slice_get mid i ≡ Some m = slice_get-get_or mid i b (omega (arith, lt_new, count)) in
          let first = ran.says i a m was there in
          let behind = one.says i m b there now in
          record {
            says = behind.says ∙ ap (λ (l : List Entry). l ++ entries_shown (deeds_by i one.made)) first.says
                ∙ append_assoc (entries_of a) (entries_shown (deeds_by i ran.made)) (entries_shown (deeds_by i one.made))
                ∙ ap (λ (l : List Entry). entries_of a ++ l) (sym (shown_more (deeds_by i ran.made) (deeds_by i one.made)) ∙ ap entries_shown (sym (by-append i ran.made one.made)));
            name = behind.name ∙ first.name;
          }

  -- the reaper's number reaps alone
  pub alone_run : (script : Script) (events : List CoreEvent) (now : List (Actor O)) (pieces : List (Piece N S)) → HasRun as_open script events now pieces → IsReaper (length now) pieces
  alone_run script events now pieces ran =
      subst (λ (n : ℕ). IsReaper n pieces) (sym (ran.count ∙ as_scripted as_open script ran.start (ran.is_new.stand as_open)))
      (subst (IsReaper (length script)) (sym ran.pieces_are) (alone_made (length script) ran.made))
