-- What was done to the pipes of closed sockets' ends was done to such as may be.
use Rattle.std.proofs.Common.{◌≡◌, ◌++◌, ◌∙◌, ◌||◌, ◌≤◌, ◌<◌, ℕ, Bool, true, false, List, [], ◌∷◌, Some, drop, length, map, refl, sym, ap, subst, arith, true≢false, if◌then◌else◌}
use Rattle.std.specs.Prelude.{suc, zero}
use Rattle.std.specs.List.{AllByRecursion, list_any}
use Rattle.std.proofs.Math.Logic.{∥∥₁_elim}
use Rattle.zq_base.specs.declared.ids.EndId.{EndId}
use Rattle.msg_pipe.specs.Known.{Known}
use Rattle.spec_control.specs.declared.entry.Item.{Item}
use Rattle.spec_control.specs.Control.{Control, begun, is_end, next_pair, place_of}
use Rattle.spec_control.specs.ControlRun.{after_all, IsControlRun}
use Rattle.spec_control.specs.Moments.{moments_from}
use Rattle.desk.specs.declared.given.Given.{Given}
use Rattle.end_table.specs.declared.changes.PipeChange.{PipeChange}
use Rattle.end_table.specs.declared.changes.PipeChange.TheVariants.{Kept, Made, Sealed, SealedAgain, Parted, Settled}
use Rattle.end_table.specs.declared.table.Place.{Place}
use Rattle.end_table.specs.Places.{held_of, place_at}
use Rattle.end_table.specs.Changes.{WereHeld}
use Rattle.end_table.specs.Others.{KeepsPlaces}
use Rattle.end_table.proofs.EndsLemmas.{some_place}
use Rattle.end_table.proofs.PlaceLemmas.{place_within}
use Rattle.end_table.proofs.SoundLemmas.{one_some}
use Rattle.sock_core.proofs.FindLemmas.{same_end}
use Rattle.socket_laws.specs.Changes.{IsOfPipes}
use Rattle.socket_laws.specs.Ends.{IsGoneFrom, is_new}
use Rattle.socket_laws.specs.OfPipes.{ChangesAreOfPipes}
use Rattle.socket_laws.specs.Said.{sealed_with}
use Rattle.socket_laws.proofs.OfPipesLemmas.{of_prop}
use Rattle.sock_core.specs.Came.{AreChangedAt}
use Rattle.spec_control.specs.Held.{Held}
use Rattle.closed_ends.specs.Mixed.{AreMixed}
use Rattle.closed_ends.proofs.MixedLemmas.{mixed_any}
use Rattle.closed_ends.proofs.NotedLemmas.{place_front}
use Rattle.closed_ends.specs.declared.sockets.ClosedSockets.{ClosedSockets}
use Rattle.closed_ends.specs.Has.{all_ends, is_of}
use Rattle.closed_ends.specs.Noted.{unplaced, standing_in, sealed_ends, StoodFirst, standing_of, first_places, HasDoneTo}
use Rattle.core_laws.specs.ReaperCalls.{came_since, told_since}
use Rattle.core_laws.specs.Moves.{EndsGoOn, ReaperChangesAreOfPipes}
use Rattle.core_laws.proofs.ReaperCallLemmas.{behind, as_long}

-- which pipes changes are of does not depend on places
of_unplaced : {S O I : Type 0} (c now : Control) (xs : List (PipeChange O I × S)) → AllByRecursion (λ x. IsOfPipes c now x.0) xs → AllByRecursion (λ x. IsOfPipes c now x.0) (unplaced xs)
of_unplaced c now [] all = tt
of_unplaced c now ((Kept, s) ∷ xs) all = (all.0, of_unplaced c now xs all.1)
of_unplaced c now ((Made e capacity halves, s) ∷ xs) all = (all.0, of_unplaced c now xs all.1)
of_unplaced c now ((Sealed k e half, s) ∷ xs) all = (all.0, of_unplaced c now xs all.1)
of_unplaced c now ((SealedAgain k e, s) ∷ xs) all = (all.0, of_unplaced c now xs all.1)
of_unplaced c now ((Parted k e half, s) ∷ xs) all = (all.0, of_unplaced c now xs all.1)
of_unplaced c now ((Settled k e, s) ∷ xs) all = (all.0, of_unplaced c now xs all.1)

module _ {N I : Type 0} where
  same_place : (ps : List (Place N I)) (k : ℕ) (p q : Place N I) → place_at ps k ≡ Some p → place_at ps k ≡ Some q → p ≡ q
  same_place ps k p q a b = one_some p q (sym a ∙ b)

  -- what was done was done to ends that stood there
  were_held : {S O : Type 0} (fs : List (Place N I)) (xs : List (PipeChange O I × S)) → AllByRecursion (λ x. StoodFirst fs x.0) xs → WereHeld fs xs
  were_held fs [] all = tt
  were_held fs ((Kept, s) ∷ xs) all = (tt, were_held fs xs all.1)
  were_held fs ((Made e capacity halves, s) ∷ xs) all = absurd all.0
  were_held fs ((Sealed k e half, s) ∷ xs) all =
      (λ p at. let same = same_place fs k all.0.place p all.0.there at in (ap (λ (x : Place N I). x.held) (sym same) ∙ all.0.held, ap (λ (x : Place N I). x.writes) (sym same) ∙ all.0.writes), were_held fs xs all.1)
  were_held fs ((SealedAgain k e, s) ∷ xs) all =
      (λ p at. let same = same_place fs k all.0.place p all.0.there at in (ap (λ (x : Place N I). x.held) (sym same) ∙ all.0.held, ap (λ (x : Place N I). x.writes) (sym same) ∙ all.0.writes), were_held fs xs all.1)
  were_held fs ((Parted k e half, s) ∷ xs) all =
      (λ p at. let same = same_place fs k all.0.place p all.0.there at in (ap (λ (x : Place N I). x.held) (sym same) ∙ all.0.held, ap (λ (x : Place N I). x.writes) (sym same) ∙ all.0.writes), were_held fs xs all.1)
  were_held fs ((Settled k e, s) ∷ xs) all = (λ p at. ap (λ (x : Place N I). x.held) (sym (same_place fs k all.0.place p all.0.there at)) ∙ all.0.held, were_held fs xs all.1)

  place_back : (ps qs : List (Place N I)) (k : ℕ) (p : Place N I) → length ps ≤ k → place_at (ps ++ qs) k ≡ Some p → (j : ℕ) × (place_at qs j ≡ Some p)
  place_back [] qs k p le at = (k, at)
  place_back (x ∷ xs) qs zero p le at = absurd (omega (arith, le))
  place_back (x ∷ xs) qs (suc k) p le at = place_back xs qs k p (omega (arith, le)) at

  -- so to those of fewer places
  were_fewer : {S O : Type 0} (was fs : List (Place N I)) → ((k : ℕ) (p : Place N I) → place_at was k ≡ Some p → place_at fs k ≡ Some p) → (xs : List (PipeChange O I × S)) → WereHeld fs xs → WereHeld was xs
  were_fewer was fs at [] all = tt
  were_fewer was fs at ((Kept, s) ∷ xs) all = (all.0, were_fewer was fs at xs all.1)
  were_fewer was fs at ((Made e capacity halves, s) ∷ xs) all = (all.0, were_fewer was fs at xs all.1)
  were_fewer was fs at ((Sealed k e half, s) ∷ xs) all = (λ p there. all.0 p (at k p there), were_fewer was fs at xs all.1)
  were_fewer was fs at ((SealedAgain k e, s) ∷ xs) all = (λ p there. all.0 p (at k p there), were_fewer was fs at xs all.1)
  were_fewer was fs at ((Parted k e half, s) ∷ xs) all = (λ p there. all.0 p (at k p there), were_fewer was fs at xs all.1)
  were_fewer was fs at ((Settled k e, s) ∷ xs) all = (λ p there. all.0 p (at k p there), were_fewer was fs at xs all.1)

  -- what was changed behind so many places
  all_behind : {S O : Type 0} (so : ℕ → Place N I → Type 0) (many : ℕ) (ps : List (Place N I)) → ((k : ℕ) → many ≤ k → (p : Place N I) → place_at ps k ≡ Some p → so k p) → (xs : List (PipeChange O I × S)) → AreChangedAt so many ps xs
  all_behind so many ps all [] = tt
  all_behind so many ps all ((Kept, s) ∷ xs) = (tt, all_behind so many ps all xs)
  all_behind so many ps all ((Made e capacity halves, s) ∷ xs) = (tt, all_behind so many ps all xs)
  all_behind so many ps all ((Sealed k e half, s) ∷ xs) = (all k, all_behind so many ps all xs)
  all_behind so many ps all ((SealedAgain k e, s) ∷ xs) = (all k, all_behind so many ps all xs)
  all_behind so many ps all ((Parted k e half, s) ∷ xs) = (all k, all_behind so many ps all xs)
  all_behind so many ps all ((Settled k e, s) ∷ xs) = (all k, all_behind so many ps all xs)

  -- an end that is among those that stand has a place at which it is held
  record StandsThere (ps : List (Place N I)) (e : EndId) : Type 0 where
    at : ℕ
    place : Place N I
    there : place_at ps at ≡ Some place
    held : place.held ≡ true
    end_is : place.end ≡ e

  later : (p : Place N I) (ps : List (Place N I)) (e : EndId) → StandsThere ps e → StandsThere (p ∷ ps) e
  later p ps e s = record { at = suc s.at; place = s.place; there = s.there; held = s.held; end_is = s.end_is }

  any_standing : (e : EndId) (ps : List (Place N I)) → list_any (λ x. is_end e x.0.end) (standing_in ps) ≡ true → StandsThere ps e
  any_standing e [] h = absurd (true≢false (sym h))
  any_standing e (p ∷ ps) h = by (any_standing e ps) p.held refl h
    where
      here : (b : Bool) → is_end e p.end ≡ b → p.held ≡ true → (list_any (λ x. is_end e x.0.end) (standing_in ps) ≡ true → StandsThere ps e) → (b || list_any (λ x. is_end e x.0.end) (standing_in ps)) ≡ true → StandsThere (p ∷ ps) e
      here true is held rest k = record { at = 0; place = p; there = refl; held = held; end_is = sym (same_end e p.end is) }
      here false is held rest k = later p ps e (rest k)

      by : (list_any (λ x. is_end e x.0.end) (standing_in ps) ≡ true → StandsThere ps e) → (b : Bool) → p.held ≡ b → list_any (λ x. is_end e x.0.end) (if b then (held_of p, p.writes) ∷ standing_in ps else standing_in ps) ≡ true → StandsThere (p ∷ ps) e
      by rest true held k = here (is_end e p.end) refl held rest k
      by rest false held k = later p ps e (rest k)

any_given : {N O I : Type 0} (in_name : I → N) (e : EndId) (gs : List (Given N O I)) → list_any (λ x. is_end e x.0.end) (map (standing_of in_name) gs) ≡ list_any (is_of e) gs
any_given in_name e [] = refl
any_given in_name e (g ∷ gs) = ap (λ (b : Bool). is_end e g.end || b) (any_given in_name e gs)

module _ {S O I N : Type 0} (K : Known S O I N) (c now : Control) (from to : ClosedSockets N O I) (go : EndsGoOn K.in_name c now from to) where
  module _ (ps : List (Place N I)) (count : length ps ≡ length (first_places K.in_name from (came_since from to))) (keeps : KeepsPlaces (first_places K.in_name from (came_since from to)) ps) (standing : AreMixed (standing_in ps) (map (standing_of K.in_name) (all_ends to.sockets.items))) where
    module _ (k : ℕ) (q : Place N I) (at : place_at ps k ≡ Some q) where
      pub its : (p : Place N I) × (place_at (first_places K.in_name from (came_since from to)) k ≡ Some p)
      its = some_place (first_places K.in_name from (came_since from to)) k (let w = place_within ps k q at in omega (arith, w, count))

      pub same : q.end ≡ its.0.end
      same = (keeps.each k its.0 q its.1 at).end_is

      -- an end that the reaper has is held at its place
      pub is_held : list_any (is_of its.0.end) (all_ends to.sockets.items) ≡ true → q.held ≡ true
      is_held some =
          let t = any_standing its.0.end ps (mixed_any (λ (x : Held N × Bool). is_end its.0.end x.0.end) (standing_in ps) (map (standing_of K.in_name) (all_ends to.sockets.items)) standing ∙ any_given K.in_name its.0.end (all_ends to.sockets.items) ∙ some) in
          let x = some_place (first_places K.in_name from (came_since from to)) t.at (let w = place_within ps t.at t.place t.there in omega (arith, w, count)) in
          let one = go.different t.at k x.0 its.0 x.1 its.1 (sym (keeps.each t.at x.0 t.place x.1 t.there).end_is ∙ t.end_is) in
          let p_is = one_some t.place q (sym t.there ∙ ap (place_at ps) one ∙ at) in
          ap (λ (y : Place N I). y.held) (sym p_is) ∙ t.held

      -- one whose place is held no more is gone
      pub is_gone : q.held ≡ false → IsGoneFrom now q
      is_gone off = by (list_any (is_of its.0.end) (all_ends to.sockets.items)) refl
        where
          by : (b : Bool) → list_any (is_of its.0.end) (all_ends to.sockets.items) ≡ b → IsGoneFrom now q
          by false none =
              let gone = go.gone k its.0 its.1 none in
              record {
                above = subst (λ (e : EndId). 0 < e.pair.0) (sym same) gone.above;
                numbered = subst (λ (e : EndId). e.pair.0 < next_pair now) (sym same) gone.numbered;
                gone = ap (place_of now) same ∙ gone.gone;
              }
          by true some = absurd (true≢false (sym (is_held some) ∙ off))

      -- one that joined since
      module _ (behind : length go.was ≤ k) where
        joined : (j : ℕ) × (place_at go.since j ≡ Some its.0)
        joined = place_back go.was go.since k its.0 behind (sym (ap (λ (l : List (Place N I)). place_at l k) go.are) ∙ its.1)

        pub is_new_there : q.end.pair.0 < next_pair c → is_new (place_of c q.end) ≡ true
        is_new_there made = ap (λ (e : EndId). is_new (place_of c e)) same ∙ go.new joined.0 its.0 joined.1 (subst (λ (e : EndId). e.pair.0 < next_pair c) same made)

        pub is_held_there : q.held ≡ true
        is_held_there = is_held (go.stand joined.0 its.0 joined.1)

module _ {S O I N : Type 0} (K : Known S O I N) (T : Type 0) (law : ChangesAreOfPipes K T) (io : ℕ) (items more : List (Item N T)) (run : IsControlRun (begun io) items) (on : IsControlRun (after_all items (begun io)) more) (few : length more ≤ 1)
    (from to : ClosedSockets N O I) (old new : S) (changes : List (PipeChange O I × S)) (go : EndsGoOn K.in_name (after_all items (begun io)) (after_all more (after_all items (begun io))) from to)
    (grown : told_since from to ≡ sealed_with (moments_from (after_all items (begun io)) more)) where
  abbrev c : Control
  c = after_all items (begun io)

  abbrev now : Control
  now = after_all more c

  abbrev first : List (Place N I)
  first = first_places K.in_name from (came_since from to)

  at_first : (k : ℕ) (p : Place N I) → place_at go.was k ≡ Some p → place_at first k ≡ Some p
  at_first k p at = ap (λ (l : List (Place N I)). place_at l k) go.are ∙ place_front go.was go.since k p at

  of_pipes : HasDoneTo K old from changes new to → AllByRecursion (λ x. IsOfPipes c now x.0) changes
  of_pipes done =
      let same : done.came ≡ came_since from to = sym (behind from.came.items done.came to.came.items done.came_are) in
      let told : told_since from to ≡ done.told =
      ap (λ n. drop n (map (λ x. x.0) to.sealed.items)) (sym (as_long (λ x. x.0) from.sealed.items)) ∙ behind (map (λ x. x.0) from.sealed.items) done.told (map (λ x. x.0) to.sealed.items) done.told_are in
      let count = subst (λ x. length done.places ≡ length (first_places K.in_name from x)) same done.count in
      let keeps = subst (λ x. KeepsPlaces (first_places K.in_name from x) done.places) same done.keeps in
      let known = sealed_ends (first_places K.in_name from done.came) in
      let placed = law io items more run on few go.was done.places
      (record {
        held = λ k p at held. go.held k p at;
        stay = λ k p q at there. (keeps.each k p q (at_first k p at) there).end_is;
        came = λ k q le at held made. is_new_there K (after_all items (begun io)) (after_all more (after_all items (begun io))) from to go done.places count keeps done.standing k q at le made;
        gone = λ k p q at held there off. is_gone K (after_all items (begun io)) (after_all more (after_all items (begun io))) from to go done.places count keeps done.standing k q there off;
      })
      done.placed old new (were_fewer go.was first at_first done.placed (were_held first done.placed (subst (λ x. AllByRecursion (λ y. StoodFirst (first_places K.in_name from x) y.0) done.placed) same done.wrote)))
      (all_behind (λ k q. q.held ≡ true) (length go.was) done.places (λ k le q at. is_held_there K (after_all items (begun io)) (after_all more (after_all items (begun io))) from to go done.places count keeps done.standing k q at le) done.placed) done.does
      known (known ++ done.told) (record { all = ap (λ (l : List EndId). known ++ l) done.seals; again = done.again }) (ap (λ (l : List EndId). known ++ l) (sym told ∙ grown)) in
      subst (AllByRecursion (λ x. IsOfPipes c now x.0)) done.noted (of_unplaced c now done.placed placed)

pub reaper_changes_are_of_pipes : {S O I N : Type 0} (K : Known S O I N) (T : Type 0) → ChangesAreOfPipes K T → ReaperChangesAreOfPipes K T
reaper_changes_are_of_pipes K T law io items more run on few from to old new changes go done grown =
    ∥∥₁_elim done (of_prop (after_all items (begun io)) (after_all more (after_all items (begun io))) changes) (of_pipes K T law io items more run on few from to old new changes go grown)
