-- What was done to the pipes of a socket's ends was done to such as may be.
use Rattle.std.specs.Prelude.{◌≡◌, ◌≤◌, ◌<◌, ◌&&◌, ◌++◌, ℕ, Bool, true, false, not, cond, List, [], ◌∷◌, Option, Some, None, filter, is_some, length, map, refl}
use Rattle.std.specs.List.{AllByRecursion}
use Rattle.std.specs.Coded.{codes, ×_prop}
use Rattle.std.proofs.Common.{arith, sym, ap, ◌∙◌, subst, inl, inr, append-nil, true≢false}
use Rattle.std.proofs.lemmas.Bool.{cases_order}
use Rattle.zq_base.specs.declared.ids.EndId.{EndId}
use Rattle.msg_pipe.specs.Known.{Known}
use Rattle.spec_pattern.specs.PipeStep.{read_through}
use Rattle.spec_control.specs.declared.end.EndState.TheVariants.{Active, DelimiterGot, WaitDelimiter, AckSent, AskedOnce, AskedTwice, Gone}
use Rattle.spec_control.specs.declared.entry.Item.{Item}
use Rattle.spec_control.specs.Place.{Place as Where, Unmade, Away, At, is_here, is_gone}
use Rattle.spec_control.specs.Control.{Control, Settlement, begun, next_pair, place_of}
use Rattle.spec_control.specs.ControlRun.{after_all, after_item, IsControlRun}
use Rattle.spec_control.specs.Moments.{Moment, moments_from, left_by}
use Rattle.desk.specs.Lent.{has_writer}
use Rattle.desk.specs.Turns.{turned_in}
use Rattle.desk.proofs.TurnsLemmas.{seal_append}
use Rattle.end_table.specs.declared.table.Place.{Place}
use Rattle.end_table.specs.Places.{place_at}
use Rattle.run_laws.specs.SealsTold.{SealsAreTold}
use Rattle.spec_run.specs.Event.{is_asked_once}
use Rattle.spec_run.specs.OwnedRun.{settlement_of}
use Rattle.end_table.specs.declared.changes.PipeChange.{PipeChange}
use Rattle.end_table.specs.declared.changes.PipeChange.TheVariants.{Kept, Made, Sealed, SealedAgain, Parted, Settled}
use Rattle.end_table.specs.Changes.{IsPlaced, PartedBy, sealings_in, DoesChanges, WereHeld}
use Rattle.socket_laws.specs.Changes.{IsOfPipes}
use Rattle.socket_laws.specs.Ends.{is_new, PlacesGoOn}
use Rattle.socket_laws.proofs.PlaceLemmas.{run_on, led_on}
use Rattle.socket_laws.specs.OfPipes.{AreHeldSince, ChangesAreOfPipes}
use Rattle.socket_laws.specs.Said.{sealed_with}
use Rattle.socket_laws.specs.Settled.{writes_on, PipesAreSettled}
use Rattle.socket_laws.proofs.ChangeLemmas.{Stood, stood}
use Rattle.socket_laws.proofs.SealLemmas.{same_behind}

-- ---- where an end is

asked_writes : (p : Where) → is_asked_once p ≡ true → writes_on p ≡ true
asked_writes (At AskedOnce) h = refl
asked_writes Unmade h = absurd (true≢false (sym h))
asked_writes Away h = absurd (true≢false (sym h))
asked_writes (At Active) h = absurd (true≢false (sym h))
asked_writes (At DelimiterGot) h = absurd (true≢false (sym h))
asked_writes (At WaitDelimiter) h = absurd (true≢false (sym h))
asked_writes (At AckSent) h = absurd (true≢false (sym h))
asked_writes (At AskedTwice) h = absurd (true≢false (sym h))
asked_writes (At Gone) h = absurd (true≢false (sym h))

pub has_writes : (p : Where) → has_writer p ≡ true → writes_on p ≡ true
has_writes (At Active) h = refl
has_writes (At DelimiterGot) h = refl
has_writes (At WaitDelimiter) h = refl
has_writes (At AskedOnce) h = refl
has_writes Unmade h = absurd (true≢false (sym h))
has_writes Away h = absurd (true≢false (sym h))
has_writes (At AckSent) h = absurd (true≢false (sym h))
has_writes (At AskedTwice) h = absurd (true≢false (sym h))
has_writes (At Gone) h = absurd (true≢false (sym h))

pub here_not_gone : (p : Where) → is_here p ≡ true → is_gone p ≡ false
here_not_gone (At Active) h = refl
here_not_gone (At DelimiterGot) h = refl
here_not_gone (At WaitDelimiter) h = refl
here_not_gone (At AckSent) h = refl
here_not_gone (At AskedOnce) h = refl
here_not_gone (At AskedTwice) h = refl
here_not_gone Unmade h = absurd (true≢false (sym h))
here_not_gone Away h = absurd (true≢false (sym h))
here_not_gone (At Gone) h = absurd (true≢false (sym h))

new_writes : (p : Where) → is_new p ≡ true → writes_on p ≡ true
new_writes Unmade h = refl
new_writes Away h = refl
new_writes (At state) h = absurd (true≢false (sym h))

new_not_gone : (p : Where) → is_new p ≡ true → is_gone p ≡ false
new_not_gone Unmade h = refl
new_not_gone Away h = refl
new_not_gone (At state) h = absurd (true≢false (sym h))

-- ---- what changes are of is so in one way

settlement_set : IsSet (Option Settlement)
settlement_set = Prim.hlevel codes

bool_set : IsSet Bool
bool_set = Prim.hlevel codes

unit_prop : IsProp (Unit {0})
unit_prop = Prim.hlevel

pub of_prop : {S O I : Type 0} (c now : Control) (xs : List (PipeChange O I × S)) → IsProp (AllByRecursion (λ x. IsOfPipes c now x.0) xs)
of_prop c now [] = unit_prop
of_prop c now ((Kept, s) ∷ xs) = ×_prop unit_prop (of_prop c now xs)
of_prop c now ((Made e capacity halves, s) ∷ xs) = ×_prop unit_prop (of_prop c now xs)
of_prop c now ((Sealed k e half, s) ∷ xs) = ×_prop (settlement_set (settlement_of now e) None) (of_prop c now xs)
of_prop c now ((SealedAgain k e, s) ∷ xs) = ×_prop unit_prop (of_prop c now xs)
of_prop c now ((Parted k e half, s) ∷ xs) = ×_prop (settlement_set (settlement_of c e) None) (of_prop c now xs)
of_prop c now ((Settled k e, s) ∷ xs) = ×_prop (×_prop (settlement_set (settlement_of c (read_through e)) None) (bool_set (is_some (settlement_of now (read_through e))) true)) (of_prop c now xs)

-- ---- which ends are told

both : (a b : Bool) → (a && b) ≡ true → a ≡ true
both true b h = refl
both false b h = absurd (true≢false (sym h))

asked_in : (f : EndId → Where) (g : EndId → Bool) (es : List EndId) → AllByRecursion (λ e. is_asked_once (f e) ≡ true) (filter (λ e. is_asked_once (f e) && g e) es)
asked_in f g [] = tt
asked_in f g (e ∷ es) = by (is_asked_once (f e) && g e) refl (asked_in f g es)
  where
    by : (b : Bool) → (is_asked_once (f e) && g e) ≡ b → AllByRecursion (λ d. is_asked_once (f d) ≡ true) (filter (λ d. is_asked_once (f d) && g d) es)
        → AllByRecursion (λ d. is_asked_once (f d) ≡ true) (cond b (e ∷ filter (λ d. is_asked_once (f d) && g d) es) (filter (λ d. is_asked_once (f d) && g d) es))
    by true h rest = (both (is_asked_once (f e)) (g e) h, rest)
    by false h rest = rest

module _ {N T : Type 0} (told : SealsAreTold N T) where
  -- the ends that are told in one item at the most were asked once in it
  told_asked : (more : List (Item N T)) (c : Control) → length more ≤ 1 → AllByRecursion (λ e. is_asked_once (place_of (after_all more c) e) ≡ true) (sealed_with (moments_from c more))
  told_asked [] c le = tt
  told_asked (item ∷ []) c le =
      let m : Moment N T = record { found = c; item = item } in
      subst (AllByRecursion (λ e. is_asked_once (place_of (after_item item c) e) ≡ true)) (sym (seal_append (turned_in m.found (left_by m)) [] ∙ append-nil _ ∙ told m))
      (asked_in (place_of (after_item item c)) (λ e. not (is_asked_once (place_of c e))) (after_item item c).attached)
  told_asked (x ∷ y ∷ more) c le = absurd (omega (arith, le))

-- ---- change by change

module _ {S O I N : Type 0} (K : Known S O I N) (ps : List (Place N I)) where
  parted_at : (k : ℕ) (e : EndId) (items : List (O × Unit {0})) (old new : S) → PartedBy K ps k e items old new → IsPlaced ps k e
  parted_at k e (lent ∷ back ∷ []) old new puts = puts.placed
  parted_at k e [] old new puts = absurd puts
  parted_at k e (x ∷ []) old new puts = absurd puts
  parted_at k e (x ∷ y ∷ z ∷ zs) old new puts = absurd puts

  module _ (c now : Control) (was : List (Place N I)) (go : PlacesGoOn c now was ps) where
    -- what is so of an end that was held at a place, and of one that is new, is so of an end at a place
    at_place : (P : EndId → Type 0) (held : Place N I → Type 0) (k : ℕ) (e : EndId) → IsPlaced ps k e → ((p : Place N I) → place_at was k ≡ Some p → held p) → (length was ≤ k → (p : Place N I) → place_at ps k ≡ Some p → p.held ≡ true)
        → ((p : Place N I) → place_at was k ≡ Some p → held p → P p.end) → ((d : EndId) → (d.pair.0 < next_pair c → is_new (place_of c d) ≡ true) → P d) → P e
    at_place P held k e at were since old new = elim (cases_order k (length was)) [
      | inl same ↦ came (omega (arith, same))
      | inr (inl below) ↦ (let w = stood was k below in subst P (sym (go.stay k w.place s.place w.there s.there) ∙ is_e) (old w.place w.there (were w.place w.there)))
      | inr (inr above) ↦ came (omega (arith, above))
    ]
      where
        s : Stood ps k
        s = stood ps k at.within

        is_e : s.place.end ≡ e
        is_e = at.end_is s.place s.there

        came : length was ≤ k → P e
        came le = subst P is_e (new s.place.end (go.came k s.place le s.there (since le s.place s.there)))

pub changes_are_of_pipes : {S O I N : Type 0} (K : Known S O I N) (T : Type 0) → SealsAreTold N T → PipesAreSettled N T → ChangesAreOfPipes K T
changes_are_of_pipes {S} {O} {I} {N} K T told settled io items more run on few was ps go changes old new held since does before sealed tells grown = walk changes old held since does asked
  where
    c : Control
    c = after_all items (begun io)

    now : Control
    now = after_all more c

    asked : AllByRecursion (λ e. is_asked_once (place_of now e) ≡ true) (map (λ x. x.0) (sealings_in changes))
    asked = subst (AllByRecursion (λ e. is_asked_once (place_of now e) ≡ true)) (sym (same_behind before (map (λ x. x.0) (sealings_in changes)) (sealed_with (moments_from c more)) (sym tells.all ∙ grown))) (told_asked told more c few)

    goes : IsControlRun (begun io) (items ++ more)
    goes = run_on items more (begun io) run on

    state : after_all (items ++ more) (begun io) ≡ now
    state = led_on items more (begun io)

    unsettled : (e : EndId) → is_asked_once (place_of now e) ≡ true → settlement_of now e ≡ None
    unsettled e h = subst (λ (d : Control). settlement_of d e ≡ None) state (settled.written io (items ++ more) goes e (ap (λ (d : Control). writes_on (place_of d e)) state ∙ asked_writes (place_of now e) h))

    gone_now : (k : ℕ) (e : EndId) → IsPlaced ps k e → ((p : Place N I) → place_at ps k ≡ Some p → p.held ≡ false) → ((p : Place N I) → place_at was k ≡ Some p → p.held ≡ true)
        → (length was ≤ k → (p : Place N I) → place_at ps k ≡ Some p → p.held ≡ true) → is_some (settlement_of now (read_through e)) ≡ true
    gone_now k e at free were since = elim (cases_order k (length was)) [
      | inl same ↦ absurd (never (omega (arith, same)))
      | inr (inl below) ↦ by_gone below
      | inr (inr above) ↦ absurd (never (omega (arith, above)))
    ]
      where
        s : Stood ps k
        s = stood ps k at.within

        never : length was ≤ k → ⊥
        never le = true≢false (sym (since le s.place s.there) ∙ free s.place s.there)

        by_gone : k < length was → is_some (settlement_of now (read_through e)) ≡ true
        by_gone below =
            let w = stood was k below in
            let is = go.gone k w.place s.place w.there (were w.place w.there) s.there (free s.place s.there) in
            let e_is = at.end_is s.place s.there in
            let gone : place_of now e ≡ At Gone = subst (λ (d : EndId). place_of now d ≡ At Gone) e_is is.gone in
            subst (λ (d : Control). is_some (settlement_of d (read_through e)) ≡ true) state
            (settled.gone io (items ++ more) goes e (subst (λ (d : EndId). 0 < d.pair.0) e_is is.above) (subst (λ (d : Control). e.pair.0 < next_pair d) (sym state) (subst (λ (d : EndId). d.pair.0 < next_pair now) e_is is.numbered)) (ap (λ (d : Control). place_of d e) state ∙ gone))

    -- of an end that is new neither pipe was settled
    new_written : (d : EndId) → (d.pair.0 < next_pair c → is_new (place_of c d) ≡ true) → settlement_of c d ≡ None
    new_written d new = elim (cases_order d.pair.0 (next_pair c)) [
      | inl same ↦ settled.unnumbered io items run d (omega (arith, same))
      | inr (inl below) ↦ settled.written io items run d (new_writes (place_of c d) (new below))
      | inr (inr above) ↦ settled.unnumbered io items run d (omega (arith, above))
    ]

    new_read : (d : EndId) → (d.pair.0 < next_pair c → is_new (place_of c d) ≡ true) → settlement_of c (read_through d) ≡ None
    new_read d new = elim (cases_order d.pair.0 (next_pair c)) [
      | inl same ↦ settled.unnumbered io items run (read_through d) (omega (arith, same))
      | inr (inl below) ↦ settled.read io items run d (new_not_gone (place_of c d) (new below))
      | inr (inr above) ↦ settled.unnumbered io items run (read_through d) (omega (arith, above))
    ]

    walk : (xs : List (PipeChange O I × S)) (old : S) → WereHeld was xs → AreHeldSince (length was) ps xs → DoesChanges K ps old xs new → AllByRecursion (λ e. is_asked_once (place_of now e) ≡ true) (map (λ x. x.0) (sealings_in xs)) → AllByRecursion (λ x. IsOfPipes c now x.0) xs
    walk [] old held since does all = tt
    walk ((Kept, s) ∷ xs) old held since does all = (tt, walk xs s held.1 since.1 does.1 all)
    walk ((Made e capacity halves, s) ∷ xs) old held since does all = (tt, walk xs s held.1 since.1 does.1 all)
    walk ((Sealed k e half, s) ∷ xs) old held since does all = (unsettled e all.0, walk xs s held.1 since.1 does.1 all.1)
    walk ((SealedAgain k e, s) ∷ xs) old held since does all = (tt, walk xs s held.1 since.1 does.1 all.1)
    walk ((Parted k e half, s) ∷ xs) old held since does all = (
      at_place K ps c now was go (λ d. settlement_of c d ≡ None) (λ p. (p.held ≡ true) × (p.writes ≡ true)) k e (parted_at K ps k e half.items old s does.0) held.0 since.0
          (λ p at h. settled.written io items run p.end (has_writes (place_of c p.end) ((go.held k p at h.0).writes h.1))) new_written,
      walk xs s held.1 since.1 does.1 all,
    )
    walk ((Settled k e, s) ∷ xs) old held since does all = (
      (
        at_place K ps c now was go (λ d. settlement_of c (read_through d) ≡ None) (λ p. p.held ≡ true) k e does.0.placed held.0 since.0
            (λ p at h. settled.read io items run p.end (here_not_gone (place_of c p.end) (go.held k p at h).here)) new_read,
        gone_now k e does.0.placed does.0.gone held.0 since.0,
      ),
      walk xs s held.1 since.1 does.1 all,
    )
