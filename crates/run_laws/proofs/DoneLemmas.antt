-- Where the root has ended, nothing is left.
use Rattle.std.specs.Prelude.{◌≡◌, ◌⊎◌, ◌<◌, ◌==◌, ◌&&◌, ◌||◌, ℕ, zero, suc, Bool, true, false, List, [], ◌∷◌, ◌++◌, Option, Some, None, length, map, slice_index_or, slice_set, refl}
use Rattle.std.specs.List.{list_all}
use Rattle.std.proofs.Common.{arith, sym, ap, ◌∙◌, subst, inl, inr}
use Rattle.spec_control.specs.declared.end.EndState.TheVariants.{Active, DelimiterGot, WaitDelimiter, AckSent, AskedOnce, AskedTwice, Gone}
use Rattle.spec_control.specs.declared.stage.Stage.{Stage}
use Rattle.spec_control.specs.declared.stage.Stage.TheVariants.{Alive, Told, Ending, Finished, Cleared}
use Rattle.spec_control.specs.declared.entry.Item.{Item}
use Rattle.spec_control.specs.Stage.{has_ended, is_alive, is_used, is_unused}
use Rattle.spec_control.specs.Place.{Place, Unmade, Away, At, is_gone, is_unmade}
use Rattle.spec_control.specs.Row.{Row, nobody, root_row, link_fits, is_socket, is_unowned, stage_fits, socket_fits, owner_fits, root_fits}
use Rattle.spec_control.specs.Rows.{Rows, obj, pair, end_owner, Step, makes_object, draws_pair, opens_pair, link_moves, pair_moves, object_ends}
use Rattle.spec_control.specs.Control.{Control, begun, place_of}
use Rattle.spec_control.specs.ControlRun.{after_all, IsControlRun}
use Rattle.spec_control.specs.Reply.{state_of, root_state}
use Rattle.control_laws.specs.Reached.{IsReached, begins, goes_on}
use Rattle.control_laws.proofs.ListLemmas.{never}
use Rattle.control_laws.proofs.ClosedLemmas.{Inv}
use Rattle.control_laws.proofs.RowLemmas.{all_is_over}
use Rattle.control_laws.proofs.QuietLemmas.{socket_owner}
use Rattle.control_laws.proofs.StepLemmas.{inv_of}
use Rattle.control_laws.specs.Kept.{Kept}
use Rattle.control_laws.proofs.TellLemmas.{rows_of}
use Rattle.control_laws.proofs.EndLemmas.{kept_but}
use Rattle.control_laws.proofs.RootLemmas.{runs_are_kept}
use Rattle.control_laws.proofs.OrderlyLemmas.{commands_come_once}
use Rattle.spec_run.specs.declared.journal.ObjectRow.{ObjectRow}
use Rattle.spec_run.specs.InTurns.{is_ended}
use Rattle.spec_run.specs.Journal.{object_shown}
use Rattle.run_laws.specs.DoneRuns.{NothingIsLeft}
use Rattle.run_laws.proofs.OverLemmas.{row_in, Wrote, here, as_before, wrote, same_owner, set_length, there_row}

none_some : {n : ℕ} → ◌≡◌ {A = Option ℕ} None (Some n) → ⊥
none_some e = Prim.grind arith

-- ---- the root alone has no owner

record RootAlone (s : Rows) : Type 0 where
  unowned : (x : ℕ) → x < length s.objects → (row_in s.objects x).owner ≡ None → x ≡ 0

pushed_owned : (rows : List Row) (o : Row) (w x : ℕ) → o.owner ≡ Some w → x < length (rows ++ o ∷ []) → (row_in (rows ++ o ∷ []) x).owner ≡ None
    → (x < length rows) × ((row_in rows x).owner ≡ None)
pushed_owned [] o w zero e lt h = absurd (none_some (sym h ∙ e))
pushed_owned [] o w (suc x) e lt h = absurd (below lt)
  where
    below : suc x < 1 → ⊥
    below g = omega (arith, g)
pushed_owned (r ∷ rows) o w zero e lt h = (omega arith, h)
pushed_owned (r ∷ rows) o w (suc x) e lt h = let more = pushed_owned rows o w x e (omega (arith, lt)) h in (up more.0, more.1)
  where
    up : x < length rows → suc x < length (r ∷ rows)
    up g = omega (arith, g)

wrote_owner : (s : Rows) (c : ℕ) (o : Row) → o.owner ≡ (obj s c).owner → RootAlone s → (x : ℕ) → x < length (slice_set s.objects c o) → Wrote s.objects c o x → (row_in (slice_set s.objects c o) x).owner ≡ None → x ≡ 0
wrote_owner s c o same alone x lt (here at now before) h =
    alone.unowned x (subst (λ (n : ℕ). x < n) (set_length s.objects c o) lt)
    (ap (λ (r : Row). r.owner) before ∙ (sym same ∙ (ap (λ (r : Row). r.owner) (sym now) ∙ h)))
wrote_owner s c o same alone x lt (as_before is) h = alone.unowned x (subst (λ (n : ℕ). x < n) (set_length s.objects c o) lt) (ap (λ (r : Row). r.owner) (sym is) ∙ h)

step_alone : (old new : Rows) → Step old new → RootAlone old → RootAlone new
step_alone old new (makes_object w o unended owner alive fits e) alone = subst RootAlone (sym e) (record {
  unowned = λ x lt h. let p = pushed_owned old.objects o w x owner lt h in alone.unowned x p.0 p.1;
})
step_alone old new (draws_pair p a b e) alone = subst RootAlone (sym e) (record { unowned = alone.unowned })
step_alone old new (opens_pair k a p moves u v e) alone = subst RootAlone (sym e) (record { unowned = alone.unowned })
step_alone old new (link_moves c event may e) alone =
    subst RootAlone (sym e) (record { unowned = λ x lt h. wrote_owner old c _ (same_owner event (obj old c)) alone x lt (wrote old.objects c _ x) h })
step_alone old new (pair_moves k a event p other moves e) alone = subst RootAlone (sym e) (record { unowned = alone.unowned })
step_alone old new (object_ends c may e) alone =
    subst RootAlone (sym e) (record { unowned = λ x lt h. wrote_owner old c (record (obj old c) { stage = Finished }) refl alone x lt (wrote old.objects c _ x) h })

reached_alone : (s : Rows) → IsReached s → RootAlone s
reached_alone s begins = record { unowned = first }
  where
    first : (x : ℕ) → x < 1 → (row_in (root_row ∷ []) x).owner ≡ None → x ≡ 0
    first zero lt h = refl
    first (suc x) lt h = absurd (below lt)
      where
        below : suc x < 1 → ⊥
        below g = omega (arith, g)
reached_alone s (goes_on old new reached step) = step_alone old new step (reached_alone old reached)

-- ---- each object

third_of : (a b c d : Bool) → (a && (b && (c && d))) ≡ true → c ≡ true
third_of true true true d h = refl
third_of true true false d h = absurd (never h)
third_of true false c d h = absurd (never h)
third_of false b c d h = absurd (never h)

owner_fits_in : (o : Row) → link_fits o ≡ true → owner_fits o.kind o.owner ≡ true
owner_fits_in o h =
    third_of (stage_fits o.stage o.noted o.plugged o.request o.stop) (socket_fits (is_socket o.kind) (is_alive o.stage) (is_used o.request) (is_unused o.stop))
    (owner_fits o.kind o.owner) (root_fits (is_unowned o.owner) (o.noted && (o.plugged && is_used o.request))) h

some_is : {x y : ℕ} → Some x ≡ Some y → x ≡ y
some_is e = Prim.grind arith

-- no object owns itself
pub not_its_own : (c : Control) → Kept c → (i : ℕ) → (obj c.rows i).owner ≡ Some i → ⊥
not_its_own c kept zero e = none_some (sym kept.shape.root ∙ e)
not_its_own c kept (suc i) e =
    let socket = kept.shape.owners (suc i) (suc i) e (λ h. no_zero h) in
    let owned : (obj c.rows (suc i)).owner ≡ Some 0 = socket_owner (obj c.rows (suc i)).kind (obj c.rows (suc i)).owner
    (owner_fits_in (obj c.rows (suc i)) (inv.fits (suc i))) socket in
    no_zero (sym (some_is (sym owned ∙ e)))
  where
    inv : Inv c.rows
    inv = inv_of (rows_of (kept_but 0 c kept))

    no_zero : suc i ≡ 0 → ⊥
    no_zero h = omega (arith, h)

beyond : (rows : List Row) (x : ℕ) → (has_ended (slice_index_or rows x nobody).stage ≡ true) ⊎ (x < length rows)
beyond [] x = inl refl
beyond (r ∷ rows) zero = inr (omega arith)
beyond (r ∷ rows) (suc x) = more (beyond rows x)
  where
    more : (has_ended (slice_index_or rows x nobody).stage ≡ true) ⊎ (x < length rows) → (has_ended (slice_index_or (r ∷ rows) (suc x) nobody).stage ≡ true) ⊎ (suc x < length (r ∷ rows))
    more (inl h) = inl h
    more (inr lt) = inr (omega (arith, lt))

all_ended : (c : Control) → Kept c → has_ended (obj c.rows 0).stage ≡ true → (i : ℕ) → has_ended (obj c.rows i).stage ≡ true
all_ended c kept root i = by (beyond c.rows.objects i)
  where
    inv : Inv c.rows
    inv = inv_of (rows_of (kept_but 0 c kept))

    of_owner : (w : ℕ) → (obj c.rows i).owner ≡ Some w → (v : Bool) → (w == 0) ≡ v → has_ended (obj c.rows i).stage ≡ true
    of_owner zero e v same = (all_is_over c.rows 0 kept.reached root).children i e
    of_owner (suc w) e v same =
        let socket = kept.shape.owners i (suc w) e (λ h. no_zero h) in
        let owned : (obj c.rows (suc w)).owner ≡ Some 0 = socket_owner (obj c.rows (suc w)).kind (obj c.rows (suc w)).owner
        (owner_fits_in (obj c.rows (suc w)) (inv.fits (suc w))) socket in
        let ended = (all_is_over c.rows 0 kept.reached root).children (suc w) owned in
        (all_is_over c.rows (suc w) kept.reached ended).children i e
      where
        no_zero : suc w ≡ 0 → ⊥
        no_zero h = omega (arith, h)

    there : i < length c.rows.objects → (o : Option ℕ) → (obj c.rows i).owner ≡ o → has_ended (obj c.rows i).stage ≡ true
    there lt None e =
        let first : i ≡ 0 = (reached_alone c.rows kept.reached).unowned i lt (ap (λ (r : Row). r.owner) (there_row c.rows.objects i lt) ∙ e) in
        subst (λ (n : ℕ). has_ended (obj c.rows n).stage ≡ true) (sym first) root
    there lt (Some w) e = of_owner w e (w == 0) refl

    by : (has_ended (obj c.rows i).stage ≡ true) ⊎ (i < length c.rows.objects) → has_ended (obj c.rows i).stage ≡ true
    by (inl h) = h
    by (inr lt) = there lt (obj c.rows i).owner refl

gone_or : (place : Place) → (is_gone place || is_unmade place) ≡ true → is_unmade place ≡ false → place ≡ At Gone
gone_or Unmade h k = absurd (never (sym k))
gone_or Away h k = absurd (never h)
gone_or (At Active) h k = absurd (never h)
gone_or (At DelimiterGot) h k = absurd (never h)
gone_or (At WaitDelimiter) h k = absurd (never h)
gone_or (At AckSent) h k = absurd (never h)
gone_or (At AskedOnce) h k = absurd (never h)
gone_or (At AskedTwice) h k = absurd (never h)
gone_or (At Gone) h k = refl

stage_ended : (s : Stage) → is_ended (state_of s) ≡ true → has_ended s ≡ true
stage_ended Alive h = absurd (never h)
stage_ended Told h = absurd (never h)
stage_ended Ending h = absurd (never h)
stage_ended Finished h = refl
stage_ended Cleared h = refl

pub nothing_left : {N S : Type 0} (workers : ℕ) (items : List (Item N S)) → IsControlRun (begun workers) items → is_ended (root_state (after_all items (begun workers))) ≡ true → NothingIsLeft (after_all items (begun workers))
nothing_left workers items run done =
    let c = after_all items (begun workers) in
    let kept = runs_are_kept _ _ workers items run in
    let ended = all_ended c kept (stage_ended (obj c.rows 0).stage done) in
    record {
      objects = ended;
      pipes = λ e above within made.
          ((commands_come_once _ _ workers items run).gone e above within
          (gone_or (place_of c e) ((all_is_over c.rows (end_owner (pair c.rows e.pair.0) e.a) kept.reached (ended (end_owner (pair c.rows e.pair.0) e.a))).ends e.pair.0 e.a refl) made)).settled;
    }

-- ---- what is shown as living

pub none_living : (rows : List Row) → ((i : ℕ) → has_ended (slice_index_or rows i nobody).stage ≡ true) → list_all (λ (o : ObjectRow). o.ended) (map object_shown rows) ≡ true
none_living [] all = refl
none_living (o ∷ rows) all = ap (λ (b : Bool). b && list_all (λ (r : ObjectRow). r.ended) (map object_shown rows)) (all 0) ∙ none_living rows (λ i. all (suc i))
