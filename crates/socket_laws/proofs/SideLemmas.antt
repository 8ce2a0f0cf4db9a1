-- A further call at a side of a pipe follows those before it.
use Rattle.std.specs.Prelude.{◌≡◌, ◌≢◌, ◌≤◌, ◌<◌, ◌||◌, ◌&&◌, ◌==◌, ℕ, suc, Bool, true, false, not, List, [], ◌∷◌, ◌++◌, Option, Some, None, All, map, filter, refl}
use Rattle.std.specs.List.{list_any, AllByRecursion}
use Rattle.std.proofs.Common.{arith, sym, ap, ◌∙◌, subst, inl, inr, append-nil, true≢false}
use Rattle.std.proofs.lemmas.Bool.{eqb-true}
use Rattle.std.proofs.lemmas.List.Elements.{All-nil, All-head, All-tail, filter_map-append}
use Rattle.zq_base.specs.declared.ids.EndId.{EndId}
use Rattle.zq_base.specs.Ends.{PipeId, other_end}
use Rattle.spec_pattern.specs.PipeStep.{PipeStep, Commit, FullLook, RoomLook, Take, EmptyLook, DelimiterLook, WaitingLook, Seal}
use Rattle.spec_pattern.specs.declared.answers.Skip.{Skip}
use Rattle.spec_pattern.proofs.Exact.{same_pipes}
use Rattle.end_table.specs.Runs.{is_seal}
use Rattle.spec_control.specs.declared.entry.Item.{Item}
use Rattle.spec_control.specs.declared.entry.Item.TheVariants.{Event, Seen}
use Rattle.spec_control.specs.Control.{Control, begun, next_object, next_pair, owner_of, place_of}
use Rattle.spec_control.specs.After.{after}
use Rattle.spec_control.specs.ControlRun.{after_all, IsControlRun}
use Rattle.control_laws.specs.Kept.{Kept}
use Rattle.control_laws.proofs.RootLemmas.{begun_kept}
use Rattle.control_laws.proofs.RunLemmas.{run_kept}
use Rattle.control_laws.proofs.SoundLemmas.{sound_of}
use Rattle.control_laws.specs.Spared.{Known, Spared, touched_in}
use Rattle.control_laws.proofs.EventLemmas.{others_spared}
use Rattle.spec_control.specs.Moments.{left_by}
use Rattle.spec_run.specs.Act.{Act, Step, steps_in, pipe_step_of}
use Rattle.spec_run.specs.Event.{acts_said, is_asked_once}
use Rattle.run_laws.specs.CapacitiesStay.{pipe_at}
use Rattle.zq_world.specs.Piece.{Piece, piece_of, acts_in, pipe_steps}
use Rattle.zq_world.specs.CoreCalls.{IsOnlyReaper}
use Rattle.zq_world.specs.OneSided.{OneSided, MayFollow, makes, is_written, is_read}
use Rattle.zq_world.proofs.RiseLemmas.{all_both, sides_go_on}
use Rattle.socket_laws.specs.Sides.{step_end, IsDoneAt, OpenSockets, OpensGoOn, is_shut, AreDoneAt, SideStands, SidesStand, CallMayCome, by_owner, by_reaper, at_no_end, SidesStandOn}

some_is : {X : Type 0} {x y : X} → Some x ≡ Some y → x ≡ y
some_is e = Prim.grind arith

none_some : {X : Type 0} {x : X} → None ≡ Some x → ⊥
none_some e = Prim.grind arith

-- ---- pairs that have their numbers keep their owners

-- what stays of pairs from one state to another
pub record Grows (c d : Control) : Type 0 where
  pub pairs : next_pair c ≤ next_pair d
  pub owners : (e : EndId) → e.pair.0 < next_pair c → owner_of d e ≡ owner_of c e

-- some object is none of those that an event touches
abbrev number_or : Option ℕ → ℕ
number_or None = 0
number_or (Some n) = n

untouched : (t : Option ℕ) → t ≢ Some (suc (number_or t))
untouched None h = Prim.grind arith
untouched (Some n) h = (let same : n ≡ suc n = ap number_or h in omega (arith, same))

-- a state that a run leads to
pub record IsKept (c : Control) : Type 0 where
  pub kept : Kept c
  pub known : Known c

pub begun_is : (io : ℕ) → IsKept (begun io)
begun_is io = record { kept = begun_kept io; known = All-nil (λ x. x.pair.0 < next_pair (begun io)) }

module _ {N S : Type 0} where
  pub grows : (items : List (Item N S)) (c : Control) → IsKept c → IsControlRun c items → Grows c (after_all items c) × IsKept (after_all items c)
  grows [] c is run = (record { pairs = omega arith; owners = λ e lt. refl }, is)
  grows (Event entry ∷ items) c is run =
      let t = touched_in c entry.did in
      let one : Spared (suc (number_or t)) c (after entry.did c) = others_spared (suc (number_or t)) c is.kept is.known entry.did run.0 (untouched t) in
      let rest = grows items (after entry.did c) (record { kept = run_kept (Event entry ∷ []) c is.kept (run.0, tt); known = one.known }) run.1 in (
        record {
          pairs = let a = one.grows in let b = rest.0.pairs in omega (arith, a, b);
          owners = λ e lt. rest.0.owners e (let a = one.grows in omega (arith, a, lt)) ∙ one.owners e lt;
        },
        rest.1,
      )
  grows (Seen sight ∷ items) c is run = grows items c is run.1

  reached : (io : ℕ) (items : List (Item N S)) → IsControlRun (begun io) items → IsKept (after_all items (begun io))
  reached io items run = (grows items (begun io) (begun_is io) run).1

-- ---- steps at an end

same_done : (c d : Control) (may : ℕ → Type 0) (s : PipeStep) → Grows c d → IsDoneAt c may s → IsDoneAt d may s
same_done c d may s g done = record {
  made = let a = done.made in let b = g.pairs in omega (arith, a, b);
  owner = λ plain. subst may (sym (g.owners (step_end s) done.made)) (done.owner plain);
}

done_as : (c : Control) (may might : ℕ → Type 0) (s : PipeStep) → ((o : ℕ) → o < next_object c → may o → might o) → ((e : EndId) → owner_of c e < next_object c) → IsDoneAt c may s → IsDoneAt c might s
done_as c may might s f there done = record { made = done.made; owner = λ plain. f (owner_of c (step_end s)) (there (step_end s)) (done.owner plain) }

all_as : {X : Type 0} (P Q : X → Type 0) → ((x : X) → P x → Q x) → (xs : List X) → AllByRecursion P xs → AllByRecursion Q xs
all_as P Q f [] all = tt
all_as P Q f (x ∷ xs) all = (f x all.0, all_as P Q f xs all.1)

-- the side of a pipe, by the end that it is at
record IsSide (side : PipeStep → Bool) (e : EndId) : Type 0 where
  here : (s : PipeStep) → side s ≡ true → (step_end s ≡ e) × (is_seal s ≡ false)

never : {X : Type 0} → false ≡ true → X
never e = absurd (true≢false (sym e))

written_side : (p : PipeId) → IsSide (is_written p) p
written_side p = record { here = here }
  where
    here : (s : PipeStep) → is_written p s ≡ true → (step_end s ≡ p) × (is_seal s ≡ false)
    here (Commit q m) h = (sym (same_pipes p q h), refl)
    here (FullLook q) h = (sym (same_pipes p q h), refl)
    here (RoomLook q) h = (sym (same_pipes p q h), refl)
    here (Take q m) h = never h
    here (EmptyLook q) h = never h
    here (DelimiterLook q) h = never h
    here (WaitingLook q) h = never h
    here (Seal q) h = never h

read_side : (p : PipeId) → IsSide (is_read p) (other_end p)
read_side p = record { here = here }
  where
    here : (s : PipeStep) → is_read p s ≡ true → (step_end s ≡ other_end p) × (is_seal s ≡ false)
    here (Commit q m) h = never h
    here (FullLook q) h = never h
    here (RoomLook q) h = never h
    here (Take q m) h = (ap other_end (sym (same_pipes p q h)), refl)
    here (EmptyLook q) h = (ap other_end (sym (same_pipes p q h)), refl)
    here (DelimiterLook q) h = (ap other_end (sym (same_pipes p q h)), refl)
    here (WaitingLook q) h = (ap other_end (sym (same_pipes p q h)), refl)
    here (Seal q) h = never h

-- the end of a side where a step was made
at_side : (side : PipeStep → Bool) (e : EndId) → IsSide side e → (c : Control) (may : ℕ → Type 0) (steps : List PipeStep) → list_any side steps ≡ true → AllByRecursion (IsDoneAt c may) steps
    → (e.pair.0 < next_pair c) × may (owner_of c e)
at_side side e is c may [] any all = never any
at_side side e is c may (s ∷ steps) any all = by (side s) refl any (λ h. at_side side e is c may steps h all.1)
  where
    by : (b : Bool) → side s ≡ b → (b || list_any side steps) ≡ true → (list_any side steps ≡ true → (e.pair.0 < next_pair c) × may (owner_of c e)) → (e.pair.0 < next_pair c) × may (owner_of c e)
    by true h any_so rest =
        let at = is.here s h in
        (subst (λ (d : EndId). d.pair.0 < next_pair c) at.0 all.0.made, subst (λ (d : EndId). may (owner_of c d)) at.0 (all.0.owner at.1))
    by false h any_so rest = rest any_so

-- the delimiters of ends that are attached
seals_done : (N S : Type 0) (c : Control) (may : ℕ → Type 0) (f : EndId → Bool) (es : List EndId) → All (λ e. e.pair.0 < next_pair c) es
    → AreDoneAt {N = N} {S = S} c may (map (λ e. Step (Seal e)) (filter f es))
seals_done N S c may f [] all = tt
seals_done N S c may f (e ∷ es) all = by (f e) refl (seals_done N S c may f es (All-tail (λ x. x.pair.0 < next_pair c) e es all))
  where
    by : (b : Bool) → f e ≡ b → AreDoneAt {N = N} {S = S} c may (map (λ x. Step (Seal x)) (filter f es)) → AreDoneAt {N = N} {S = S} c may (map (λ x. Step (Seal x)) (filter f (e ∷ es)))
    by true h rest = rw h (record { made = All-head (λ x. x.pair.0 < next_pair c) e es all; owner = λ plain. never (sym plain) }, rest)
    by false h rest = rw h rest

-- ---- calls

shut_is : (o : Option ℕ) → is_shut o ≡ true → o ≡ None
shut_is None e = refl
shut_is (Some k) e = never e

none_then : (o : ℕ) (opens now : OpenSockets) → ((k : ℕ) → now o ≡ Some k → opens o ≡ Some k) → opens o ≡ None → now o ≡ None
none_then o opens now go none = by (now o) refl
  where
    by : (x : Option ℕ) → now o ≡ x → x ≡ None
    by None e = refl
    by (Some k) e = absurd (none_some (sym none ∙ go k e))

module _ {N S : Type 0} where
  stands_on : (opens now : OpenSockets) (y : Piece N S) (o : ℕ) → ((k : ℕ) → now o ≡ Some k → opens o ≡ Some k) → SideStands opens y o → SideStands now y o
  stands_on opens now y o go stands = record {
    own = λ r k e. stands.own r k (go k e);
    shut = λ r. none_then o opens now go (stands.shut r);
  }

  module _ (c d : Control) (g : Grows c d) (there : (e : EndId) → owner_of c e < next_object c) (opens now : OpenSockets) (go : OpensGoOn c opens now) where
    -- what was done stands still
    sides_on : (pieces : List (Piece N S)) → SidesStand c opens pieces → SidesStand d now pieces
    sides_on [] all = tt
    sides_on (y ∷ pieces) all = (
      all_as (IsDoneAt c (SideStands opens y)) (IsDoneAt d (SideStands now y))
          (λ s done. same_done c d (SideStands now y) s g (done_as c (SideStands opens y) (SideStands now y) s (λ o lt stands. stands_on opens now y o (λ k e. go o k lt e) stands) there done))
          (steps_in y.acts) all.0,
      sides_on pieces all.1,
    )

    module _ (pieces : List (Piece N S)) (stand : SidesStand c opens pieces) (x : Piece N S) where
      -- the further call stands
      stands_new : CallMayCome c d opens now pieces x.by x.reaps x.acts → AreDoneAt d (SideStands now x) x.acts
      stands_new (by_owner o plain lt has done) =
          all_as (IsDoneAt d (λ i. (i == o) ≡ true)) (IsDoneAt d (SideStands now x))
          (λ s at. record {
            made = at.made;
            owner = λ no_seal. subst (SideStands now x) (sym (eqb-true _ o (at.owner no_seal))) (record { own = λ r k e. some_is (sym has ∙ go o k lt e); shut = λ r. never (sym plain ∙ r) });
          })
          (steps_in x.acts) done
      stands_new (by_reaper reaping only done) =
          all_as (IsDoneAt d (λ i. is_shut (now i) ≡ true)) (IsDoneAt d (SideStands now x))
          (λ s at. record { made = at.made; owner = λ no_seal. record { own = λ r. never (sym r ∙ reaping); shut = λ r. shut_is _ (at.owner no_seal) } })
          (steps_in x.acts) done
      stands_new (at_no_end done) =
          all_as (IsDoneAt d (λ i. false ≡ true)) (IsDoneAt d (SideStands now x))
          (λ s at. record { made = at.made; owner = λ no_seal. never (at.owner no_seal) })
          (steps_in x.acts) done

      module _ (side : PipeStep → Bool) (e : EndId) (is : IsSide side e) where
        -- it follows an earlier one at the same side
        follows_owner : (o : ℕ) → x.reaps ≡ false → opens o ≡ Some x.by → owner_of d e ≡ o → (y : Piece N S) → AreDoneAt c (SideStands opens y) y.acts → makes side y ≡ true → MayFollow y x
        follows_owner o plain has own y done at =
            let there_is = at_side side e is c (SideStands opens y) (steps_in y.acts) at done in
            let same : owner_of c e ≡ o = sym (g.owners e there_is.0) ∙ own in
            by y.reaps refl (subst (SideStands opens y) same there_is.1)
          where
            by : (b : Bool) → y.reaps ≡ b → SideStands opens y o → MayFollow y x
            by false r stands = inl (stands.own r x.by has)
            by true r stands = absurd (none_some (sym (stands.shut r) ∙ has))

        all_owner : (o : ℕ) → x.reaps ≡ false → opens o ≡ Some x.by → owner_of d e ≡ o → (ys : List (Piece N S)) → SidesStand c opens ys → AllByRecursion (λ y. makes side y ≡ true → MayFollow y x) ys
        all_owner o plain has own [] all = tt
        all_owner o plain has own (y ∷ ys) all = (follows_owner o plain has own y all.0, all_owner o plain has own ys all.1)

        all_reaper : x.reaps ≡ true → (ys : List (Piece N S)) → IsOnlyReaper x.by ys → AllByRecursion (λ y. makes side y ≡ true → MayFollow y x) ys
        all_reaper reaping [] only = tt
        all_reaper reaping (y ∷ ys) only = (λ at. by y.reaps refl, all_reaper reaping ys only.1)
          where
            by : (b : Bool) → y.reaps ≡ b → MayFollow y x
            by true r = inl (only.0 r)
            by false r = inr (r, reaping)

        all_follow : CallMayCome c d opens now pieces x.by x.reaps x.acts → makes side x ≡ true → AllByRecursion (λ y. makes side y ≡ true → MayFollow y x) pieces
        all_follow (by_owner o plain lt has done) at = all_owner o plain has (eqb-true _ o (at_side side e is d (λ i. (i == o) ≡ true) (steps_in x.acts) at done).1) pieces stand
        all_follow (by_reaper reaping only done) at = all_reaper reaping pieces only
        all_follow (at_no_end done) at = never (at_side side e is d (λ i. false ≡ true) (steps_in x.acts) at done).1

      one_sided : OneSided pieces → CallMayCome c d opens now pieces x.by x.reaps x.acts → OneSided (pieces ++ x ∷ [])
      one_sided sided may = record {
        written = λ p. sides_go_on (is_written p) [] pieces x (sided.written p) (all_follow (is_written p) p (written_side p) may);
        read = λ p. sides_go_on (is_read p) [] pieces x (sided.read p) (all_follow (is_read p) (other_end p) (read_side p) may);
      }

    a_call : (pieces : List (Piece N S)) (caller : ℕ) (reaps : Bool) (acts : List (Act N S)) (skips : List Skip) → OneSided pieces → SidesStand c opens pieces → CallMayCome c d opens now pieces caller reaps acts
        → OneSided (pieces ++ piece_of caller reaps acts skips) × SidesStand d now (pieces ++ piece_of caller reaps acts skips)
    a_call pieces caller reaps [] skips sided stand may =
        subst (λ (l : List (Piece N S)). OneSided l × SidesStand d now l) (sym (append-nil pieces)) (sided, sides_on pieces stand)
    a_call pieces caller reaps (act ∷ acts) skips sided stand may =
        let x : Piece N S = record { by = caller; reaps = reaps; acts = act ∷ acts; skips = skips } in
        (one_sided pieces stand x sided may, all_both (λ y. AreDoneAt d (SideStands now y) y.acts) pieces (x ∷ []) (sides_on pieces stand) (stands_new pieces stand x may, tt))

  -- ---- an item, and acts behind acts

  done_both : (c : Control) (may : ℕ → Type 0) (first then : List (Act N S)) → AreDoneAt c may first → AreDoneAt c may then → AreDoneAt c may (first ++ then)
  done_both c may first then one two =
      subst (AllByRecursion (IsDoneAt c may)) (sym (filter_map-append pipe_step_of first then)) (all_both (IsDoneAt c may) (steps_in first) (steps_in then) one two)

  pieces_made : (c : Control) (opens : OpenSockets) (pieces : List (Piece N S)) → SidesStand c opens pieces → AllByRecursion (λ s. (pipe_at s).pair.0 < next_pair c) (pipe_steps pieces)
  pieces_made c opens [] all = tt
  pieces_made c opens (y ∷ pieces) all =
      subst (AllByRecursion (λ s. (pipe_at s).pair.0 < next_pair c)) (sym (filter_map-append pipe_step_of y.acts (acts_in pieces)))
      (all_both (λ s. (pipe_at s).pair.0 < next_pair c) (steps_in y.acts) (pipe_steps pieces) (all_as (IsDoneAt c (SideStands opens y)) (λ s. (pipe_at s).pair.0 < next_pair c) made_at (steps_in y.acts) all.0) (pieces_made c opens pieces all.1))
    where
      made_at : (s : PipeStep) → IsDoneAt c (SideStands opens y) s → (pipe_at s).pair.0 < next_pair c
      made_at (Commit q m) done = done.made
      made_at (FullLook q) done = done.made
      made_at (RoomLook q) done = done.made
      made_at (Take q m) done = done.made
      made_at (EmptyLook q) done = done.made
      made_at (DelimiterLook q) done = done.made
      made_at (WaitingLook q) done = done.made
      made_at (Seal q) done = done.made

pub sides_stand_on : (N S : Type 0) → SidesStandOn N S
sides_stand_on N S = record {
  calls = λ io items more run on opens now pieces caller reaps acts skips sided stand go may.
      let is = reached io items run in
      let c = after_all items (begun io) in
      a_call c (after_all more c) (grows more c is on).0 (λ e. (sound_of c is.kept).ends e.pair.0 e.a) opens now go pieces caller reaps acts skips sided stand may;
  stay = λ io items more run on may acts done.
      let c = after_all items (begun io) in
      let g = (grows more c (reached io items run) on).0 in
      all_as (IsDoneAt c (λ i. may i ≡ true)) (IsDoneAt (after_all more c) (λ i. may i ≡ true)) (λ s at. same_done c (after_all more c) (λ i. may i ≡ true) s g at) (steps_in acts) done;
  said = λ io items run m left may. subst (λ (c : Control). AreDoneAt c (λ i. may i ≡ true) (acts_said m)) left
      (seals_done N S (left_by m) (λ i. may i ≡ true) (λ e. is_asked_once (place_of (left_by m) e) && not (is_asked_once (place_of m.found e))) (left_by m).attached (subst Known (sym left) (reached io items run).known));
  both = λ c may. done_both c (λ i. may i ≡ true);
  made = pieces_made;
}
