-- Each end whose pipe is told to be sealed was asked.
use Rattle.std.proofs.Common.{◌≡◌, ◌++◌, ◌∙◌, ◌||◌, ℕ, Bool, true, false, List, [], ◌∷◌, drop, map, refl, sym, ap, subst}
use Rattle.std.specs.Prelude.{if◌then◌else◌}
use Rattle.std.specs.List.{list_any}
use Rattle.std.proofs.lemmas.List.Elements.{All-head, All-tail}
use Rattle.std.proofs.Math.Logic.{∥∥₁_elim}
use Rattle.std.specs.Coded.{×_prop}
use Rattle.zq_base.specs.declared.ids.EndId.{EndId}
use Rattle.msg_pipe.specs.Known.{Known}
use Rattle.spec_control.specs.declared.entry.Item.{Item}
use Rattle.spec_control.specs.Control.{Control, begun, is_end}
use Rattle.spec_control.specs.ControlRun.{after_all, IsControlRun}
use Rattle.spec_control.specs.Moments.{moments_from}
use Rattle.desk.specs.declared.given.Given.{Given}
use Rattle.desk.specs.Holding.{AllSealed}
use Rattle.end_table.specs.declared.changes.PipeChange.{PipeChange}
use Rattle.end_table.specs.declared.table.Place.{Place}
use Rattle.sock_core.proofs.FindLemmas.{same_end}
use Rattle.socket_laws.specs.Asked.{WereAsked, EndsAreSealedOnce}
use Rattle.socket_laws.specs.Said.{sealed_with}
use Rattle.closed_ends.specs.declared.sockets.ClosedSockets.{ClosedSockets}
use Rattle.closed_ends.specs.Finding.{came_given, place_given}
use Rattle.closed_ends.specs.Has.{all_ends}
use Rattle.closed_ends.specs.Noted.{sealed_ends, first_places, HasDoneTo}
use Rattle.closed_ends.proofs.NotedLemmas.{came_places, sealed_more}
use Rattle.core_laws.specs.ReaperCalls.{told_since}
use Rattle.core_laws.specs.Sealed.{AllAsked, AskedGoOn, ReaperEndsWereAsked}
use Rattle.core_laws.proofs.ReaperCallLemmas.{as_long, behind}
use native.Mathlib.Bridge.{le_prop}

-- an end among those that were asked was
asked_in : (c : Control) (told : List EndId) → WereAsked c told → (e : EndId) → list_any (is_end e) told ≡ true → WereAsked c (e ∷ [])
asked_in c [] all e some = absurd (none some)
  where
    none : false ≡ true → ⊥
    none is = cc
asked_in c (d ∷ ds) all e some = by (is_end e d) refl some (asked_in c ds all.1 e)
  where
    by : (b : Bool) → is_end e d ≡ b → (b || list_any (is_end e) ds) ≡ true → (list_any (is_end e) ds ≡ true → WereAsked c (e ∷ [])) → WereAsked c (e ∷ [])
    by true is more rest = subst (λ x. WereAsked c (x ∷ [])) (sym (same_end e d is)) (all.0, tt)
    by false is more rest = rest more

module _ {N O I : Type 0} where
  -- what a close tells is so of its ends, where each of those told was asked
  pub all_asked_told : (c : Control) (told : List EndId) → WereAsked c told → (gs : List (Given N O I)) → AllSealed told gs → AllAsked c gs
  all_asked_told c told asked gs all k d lt sealed = asked_in c told asked _ (all k d lt sealed)

  module _ (in_name : I → N) where
    -- the places of ends that were asked have no others that are sealed
    sealed_given : (c : Control) (gs : List (Given N O I)) → AllAsked c gs → WereAsked c (sealed_ends (map (place_given in_name) gs))
    sealed_given c [] all = tt
    sealed_given c (g ∷ gs) all = by g.sealed refl (sealed_given c gs (All-tail (λ (x : Given N O I). x.sealed ≡ true → WereAsked c (x.end ∷ [])) g gs all))
      where
        by : (b : Bool) → g.sealed ≡ b → WereAsked c (sealed_ends (map (place_given in_name) gs)) → WereAsked c (if b then g.end ∷ sealed_ends (map (place_given in_name) gs) else sealed_ends (map (place_given in_name) gs))
        by true is rest = ((All-head (λ (x : Given N O I). x.sealed ≡ true → WereAsked c (x.end ∷ [])) g gs all is).0, rest)
        by false is rest = rest

were_both : (c : Control) (ds es : List EndId) → WereAsked c ds → WereAsked c es → WereAsked c (ds ++ es)
were_both c [] es a b = b
were_both c (d ∷ ds) es a b = (a.0, were_both c ds es a.1 b)

module _ (N T : Type 0) (once : EndsAreSealedOnce N T) (io : ℕ) (items more : List (Item N T)) (run : IsControlRun (begun io) items) (on : IsControlRun (after_all items (begun io)) more) where
  abbrev c : Control
  c = after_all items (begun io)

  abbrev now : Control
  now = after_all more c

  end_goes_on : (e : EndId) → WereAsked c (e ∷ []) → WereAsked now (e ∷ [])
  end_goes_on e was = let x = (once io items more run on (e ∷ []) was).1 in (x.0, tt)

  module _ {S O I : Type 0} (K : Known S O I N) (from to : ClosedSockets N O I) (old new : S) (changes : List (PipeChange O I × S)) (gs : List (Given N O I)) (came : to.came.items ≡ from.came.items ++ map (came_given K.in_name) gs)
      (grown : told_since from to ≡ sealed_with (moments_from c more)) (had : AllAsked c (all_ends from.sockets.items)) (brought : AllAsked c gs) where
    abbrev first : List (Place N I)
    first = first_places K.in_name from (map (came_given K.in_name) gs)

    at_first : WereAsked c (sealed_ends first)
    at_first =
        let ps = map (place_given K.in_name) (all_ends from.sockets.items) in
        let qs = map (place_given K.in_name) gs in
        subst (λ (l : List (Place N I)). WereAsked c (sealed_ends (ps ++ l))) (sym (came_places K.in_name gs))
        (subst (WereAsked c) (sym (sealed_more ps qs)) (were_both c (sealed_ends ps) (sealed_ends qs) (sealed_given K.in_name c (all_ends from.sockets.items) had) (sealed_given K.in_name c gs brought)))

    behind_it : HasDoneTo K old from changes new to → AllAsked now (all_ends to.sockets.items)
    behind_it done =
        let same : done.came ≡ map (came_given K.in_name) gs = sym (behind from.came.items done.came to.came.items done.came_are) ∙ behind from.came.items (map (came_given K.in_name) gs) to.came.items came in
        let told : told_since from to ≡ done.told =
        ap (λ n. drop n (map (λ x. x.0) to.sealed.items)) (sym (as_long (λ x. x.0) from.sealed.items)) ∙ behind (map (λ x. x.0) from.sealed.items) done.told (map (λ x. x.0) to.sealed.items) done.told_are in
        let asked = (once io items more run on (sealed_ends first) at_first).1 in
        all_asked_told now (sealed_ends first ++ sealed_with (moments_from c more)) asked (all_ends to.sockets.items)
        (subst (λ (l : List (Place N I × Unit {0})). AllSealed (sealed_ends (first_places K.in_name from l) ++ sealed_with (moments_from c more)) (all_ends to.sockets.items)) same
        (subst (λ (l : List EndId). AllSealed (sealed_ends (first_places K.in_name from done.came) ++ l) (all_ends to.sockets.items)) (sym told ∙ grown) done.sealed))

pub asked_go_on : (N T O I : Type 0) → EndsAreSealedOnce N T → AskedGoOn N T O I
asked_go_on N T O I once io items more run on gs all k d lt sealed = end_goes_on N T once io items more run on _ (all k d lt sealed)

pub asked_prop : (c : Control) (e : EndId) → IsProp (WereAsked c (e ∷ []))
asked_prop c e = ×_prop (×_prop (Prim.hlevel le_prop) (Prim.hlevel le_prop)) unit_prop
  where
    unit_prop : IsProp (Unit {0})
    unit_prop = Prim.hlevel

pub reaper_ends_were_asked : {S O I N : Type 0} (K : Known S O I N) (T : Type 0) → EndsAreSealedOnce N T → ReaperEndsWereAsked K T
reaper_ends_were_asked {N = N} K T once io items more run on from to old new changes gs done came grown had brought = (
  at_first N T once io items more run on K from to old new changes gs came grown had brought,
  λ k d lt sealed. ∥∥₁_elim done (asked_prop (after_all more (after_all items (begun io))) _) (λ d0. behind_it N T once io items more run on K from to old new changes gs came grown had brought d0 k d lt sealed),
)
