-- The steps past go on over calls of the reaper, by what they did at the places of its ends.
use Rattle.std.proofs.Common.{◌≡◌, ◌++◌, ◌∙◌, ℕ, List, [], ◌∷◌, Option, Some, None, drop, length, map, refl, sym, ap, subst, arith}
use Rattle.std.specs.Prelude.{flat_map, suc}
use Rattle.std.specs.List.{AllByRecursion}
use Rattle.std.proofs.Math.Logic.{∥∥₁_map}
use Rattle.zq_base.specs.declared.ids.EndId.{EndId}
use Rattle.zq_base.specs.Ends.{PipeId}
use Rattle.msg_pipe.specs.Known.{Known}
use Rattle.spec_pattern.specs.PipeStep.{PipeStep, Seal, read_through}
use Rattle.spec_control.specs.declared.entry.Item.{Item}
use Rattle.spec_control.specs.Control.{Control, begun}
use Rattle.spec_control.specs.ControlRun.{after_all, IsControlRun}
use Rattle.spec_control.specs.Moments.{moments_from}
use Rattle.spec_run.specs.Event.{seals_in}
use Rattle.end_table.specs.declared.changes.PipeChange.{PipeChange}
use Rattle.end_table.specs.declared.changes.PipeChange.TheVariants.{Kept, Made, Sealed, SealedAgain, Parted, Settled}
use Rattle.end_table.specs.declared.table.Place.{Place}
use Rattle.end_table.specs.Others.{KeepsPlaces}
use Rattle.end_table.proofs.EndsLemmas.{some_place}
use Rattle.end_table.proofs.PlaceLemmas.{place_within}
use Rattle.socket_laws.specs.Past.{PastStaysOver}
use Rattle.socket_laws.specs.Standing.{PastStands, goes_in, unless_settled}
use Rattle.socket_laws.specs.Asked.{WereAsked, EndsAreSealedOnce}
use Rattle.socket_laws.specs.Calls.{SocketCallsGoOn}
use Rattle.socket_laws.specs.Changes.{ArePlacesNamed, IsOfPipes}
use Rattle.socket_laws.proofs.ChangeLemmas.{changes_named, goes_said}
use Rattle.socket_laws.proofs.SettledLemmas.{settled_stay}
use Rattle.closed_ends.specs.declared.sockets.ClosedSockets.{ClosedSockets}
use Rattle.closed_ends.specs.Noted.{unplaced, sealed_ends, first_places, HasDoneTo}
use Rattle.core_laws.specs.ReaperCalls.{came_since, told_since, ReaperChanges, ReaperCallsGoOn}
use Rattle.core_laws.proofs.StillLemmas.{only_seals, still_stands}

-- what is behind a front
pub behind : {X : Type 0} (xs more ys : List X) → ys ≡ xs ++ more → drop (length xs) ys ≡ more
behind xs more ys e = ap (λ (l : List _). drop (length xs) l) e ∙ dropped xs
  where
    dropped : (zs : List _) → drop (length zs) (zs ++ more) ≡ more
    dropped [] = refl
    dropped (z ∷ zs) = dropped zs

pub as_long : {A B : Type 0} (f : A → B) (xs : List A) → length (map f xs) ≡ length xs
as_long f [] = refl
as_long f (x ∷ xs) = ap suc (as_long f xs)

-- places keep the names of their pipes
still_named : {N I : Type 0} (names : PipeId → Option N) (fs ps : List (Place N I)) → length ps ≡ length fs → KeepsPlaces fs ps → ArePlacesNamed names fs → ArePlacesNamed names ps
still_named names fs ps count keeps named k p at =
    let f = some_place fs k (let w = place_within ps k p at in omega (arith, w, count)) in
    let less = keeps.each k f.0 p f.1 at in
    let was = named k f.0 f.1 in (
      ap names less.end_is ∙ was.0 ∙ ap Some (sym less.written_is),
      ap (λ (e : EndId). names (read_through e)) less.end_is ∙ was.1 ∙ ap Some (sym less.read_is),
    )

named_same : {N I : Type 0} (names said : PipeId → Option N) → ((p : PipeId) → said p ≡ names p) → (ps : List (Place N I)) → ArePlacesNamed names ps → ArePlacesNamed said ps
named_same names said same ps named k p at = let was = named k p at in (same p.end ∙ was.0, same (read_through p.end) ∙ was.1)

none_some : {X : Type 0} {x : X} → None ≡ Some x → ⊥
none_some e = Prim.grind arith

-- which pipes changes are of does not depend on places
of_placed : {S O I : Type 0} (c now : Control) (xs : List (PipeChange O I × S)) → AllByRecursion (λ x. IsOfPipes c now x.0) (unplaced xs) → AllByRecursion (λ x. IsOfPipes c now x.0) xs
of_placed c now [] all = tt
of_placed c now ((Kept, s) ∷ xs) all = (all.0, of_placed c now xs all.1)
of_placed c now ((Made e capacity halves, s) ∷ xs) all = (all.0, of_placed c now xs all.1)
of_placed c now ((Sealed k e half, s) ∷ xs) all = (all.0, of_placed c now xs all.1)
of_placed c now ((SealedAgain k e, s) ∷ xs) all = (all.0, of_placed c now xs all.1)
of_placed c now ((Parted k e half, s) ∷ xs) all = (all.0, of_placed c now xs all.1)
of_placed c now ((Settled k e, s) ∷ xs) all = (all.0, of_placed c now xs all.1)

module _ {S O I N : Type 0} (K : Known S O I N) (T : Type 0) (law : SocketCallsGoOn K T) (io : ℕ) (items more : List (Item N T)) (run : IsControlRun (begun io) items) (on : IsControlRun (after_all items (begun io)) more)
    (names said : PipeId → Option N) (from to : ClosedSockets N O I) (old new : S) (past : List PipeStep) (r : ReaperChanges K (after_all items (begun io)) (after_all more (after_all items (begun io))) names said (moments_from (after_all items (begun io)) more) from to old new)
    (asked : WereAsked (after_all items (begun io)) (sealed_ends (first_places K.in_name from (came_since from to)))) (stands : PastStands K (after_all items (begun io)) names old past) where
  abbrev c : Control
  c = after_all items (begun io)

  abbrev now : Control
  now = after_all more c

  still : (p : PipeId) (n : N) → goes_in now said p ≡ Some n → goes_in c names p ≡ Some n
  still p n e = let s = goes_said now said p n e in ap (λ x. unless_settled x (names p)) (settled_stay more c p s.0) ∙ (sym (r.names_same p) ∙ s.1)

  -- with the places of the ends
  by_places : HasDoneTo K old from r.changes new to → PastStands K now said new (past ++ map Seal (flat_map seals_in (moments_from c more)))
  by_places done =
      let same : came_since from to ≡ done.came = behind from.came.items done.came to.came.items done.came_are in
      let told : told_since from to ≡ done.told =
      ap (λ n. drop n (map (λ x. x.0) to.sealed.items)) (sym (as_long (λ x. x.0) from.sealed.items)) ∙ behind (map (λ x. x.0) from.sealed.items) done.told (map (λ x. x.0) to.sealed.items) done.told_are in
      let first = first_places K.in_name from done.came in
      let sealed = sealed_ends first in
      let result = law io items more run on names said done.places sealed (sealed ++ done.told) old new past
      (record {
        names_made = r.names_made;
        changes = done.placed;
        named = changes_named said done.places (still_named said first done.places done.count done.keeps (named_same names said r.names_same first (subst (λ x. ArePlacesNamed names (first_places K.in_name from x)) same r.named))) done.placed;
        names_go = record { kept = λ p n is. r.names_same p ∙ is; more = λ p n none is. absurd (none_some (sym none ∙ sym (r.names_same p) ∙ is)) };
        of_pipes = of_placed c now done.placed (subst (AllByRecursion (λ x. IsOfPipes c now x.0)) (sym done.noted) r.of_pipes);
        does = done.does;
        seals = record { all = ap (λ (l : List EndId). sealed ++ l) done.seals; again = done.again };
        grown = ap (λ (l : List EndId). sealed ++ l) (sym told ∙ r.grown);
      }) (subst (λ x. WereAsked c (sealed_ends (first_places K.in_name from x))) same asked) stands in
      subst (λ (l : List PipeStep). PastStands K now said new (past ++ l)) (only_seals (moments_from c more)) result.0

pub reaper_calls_go_on : {S O I N : Type 0} (K : Known S O I N) (T : Type 0) → ((s : S) (o p : O) → K.out_name o ≡ K.out_name p → K.writing s o ≡ K.writing s p)
    → ((s : S) (i j : I) → K.in_name i ≡ K.in_name j → K.reading s i ≡ K.reading s j) → SocketCallsGoOn K T → EndsAreSealedOnce N T → PastStaysOver K N T → ReaperCallsGoOn K T
reaper_calls_go_on K T one_out one_in law once over io items more run on names said from to old new past r asked stands =
    let c = after_all items (begun io) in
    let now = after_all more c in
    let ms = moments_from c more in (
      subst (λ (l : List PipeStep). PastStands K now said new (past ++ l)) (sym (only_seals ms))
          (still_stands K one_out one_in c now names said old new past (flat_map seals_in ms) (still K T law io items more run on names said from to old new past r asked stands) stands
          (over io items more run on (goes_in c names) old past (λ p n g. r.names_made p n (goes_said c names p n g).1) stands.made stands.past_is).exact
          (∥∥₁_map r.done (by_places K T law io items more run on names said from to old new past r asked stands))),
      (once io items more run on (sealed_ends (first_places K.in_name from (came_since from to))) asked).1,
    )
