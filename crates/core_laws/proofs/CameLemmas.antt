-- Which ends came to the reaper in a call, by its moments.
use Rattle.std.proofs.Common.{◌≡◌, ◌++◌, ◌∙◌, ℕ, List, [], ◌∷◌, Option, Some, None, drop, map, refl, sym, ap, subst}
use Rattle.std.specs.Prelude.{All, flat_map}
use Rattle.std.specs.List.{AllByRecursion}
use Rattle.zq_base.specs.declared.ids.ObjId.{ObjId}
use Rattle.msg_pipe.specs.Known.{Known}
use Rattle.spec_control.specs.declared.entry.Joining.{Joining}
use Rattle.spec_control.specs.Moments.{Moment}
use Rattle.desk.specs.declared.given.Given.{Given}
use Rattle.desk.specs.Desk.{came_with}
use Rattle.end_table.proofs.SoundLemmas.{one_some}
use Rattle.end_table.specs.declared.table.Place.{Place}
use Rattle.socket_laws.specs.Said.{sealed_with}
use Rattle.sock_core.specs.Standing.{standing_joins}
use Rattle.closed_ends.specs.declared.sockets.ClosedSockets.{ClosedSockets}
use Rattle.closed_ends.specs.Coming.{Way, CameAlone, CameClosed, IsAsJoined, IsBrought, IsWay, ends_by, joins_by, sockets_by}
use Rattle.closed_ends.specs.Finding.{came_given}
use Rattle.core_laws.specs.Came.{CameOne, CameAll, SocketsCame, ReaperEndsCame}
use Rattle.core_laws.proofs.ReaperCallLemmas.{as_long, behind}

-- what is behind a front is one thing
same_behind : {X : Type 0} (xs ys zs : List X) → xs ++ ys ≡ xs ++ zs → ys ≡ zs
same_behind [] ys zs e = e
same_behind (x ∷ xs) ys zs e = same_behind xs ys zs (ap (drop 1) e)

abbrev first : {X : Type 0} → List X → Option X
first [] = None
first (x ∷ xs) = Some x

module _ {S O I N : Type 0} (K : Known S O I N) (brings : ℕ → Given N O I → Type 0) where
  no_way : (ways : List (Way N O I)) → flat_map joins_by ways ≡ [] → flat_map sockets_by ways ≡ [] → flat_map ends_by ways ≡ []
  no_way [] a b = refl
  no_way (CameAlone j g ∷ ways) a b = cc
  no_way (CameClosed number gs ∷ ways) a b = cc

  all_ways : (from to : ClosedSockets N O I) (ways : List (Way N O I)) → AllByRecursion (IsWay K brings) ways → flat_map joins_by ways ≡ [] → (o : ObjId) → flat_map sockets_by ways ≡ o ∷ []
      → to.came.items ≡ from.came.items ++ map (came_given K.in_name) (flat_map ends_by ways) → CameAll K brings o.0 from to
  all_ways from to [] fit a o b came = cc
  all_ways from to (CameAlone j g ∷ ways) fit a o b came = cc
  all_ways from to (CameClosed number gs ∷ ways) fit a o b came = record {
    ends = gs;
    two = fit.0.0;
    brought = subst (λ (p : ObjId). All (brings p.0) gs) (one_some number o (ap first b)) fit.0.1;
    came = came ∙ ap (λ (l : List (Given N O I)). from.came.items ++ map (came_given K.in_name) l) rest;
  }
    where
      rest : flat_map ends_by (CameClosed number gs ∷ ways) ≡ gs
      rest = ap (λ (l : List (Given N O I)). gs ++ l) (no_way ways a (ap (drop 1) b)) ∙ nothing gs
        where
          nothing : (xs : List (Given N O I)) → xs ++ [] ≡ xs
          nothing [] = refl
          nothing (x ∷ xs) = ap (λ (l : List (Given N O I)). x ∷ l) (nothing xs)

  one_way : (from to : ClosedSockets N O I) (ways : List (Way N O I)) → AllByRecursion (IsWay K brings) ways → (j : Joining N) → flat_map joins_by ways ≡ j ∷ [] → flat_map sockets_by ways ≡ []
      → to.came.items ≡ from.came.items ++ map (came_given K.in_name) (flat_map ends_by ways) → CameOne K j from to
  one_way from to [] fit j a b came = cc
  one_way from to (CameClosed number gs ∷ ways) fit j a b came = cc
  one_way from to (CameAlone i g ∷ ways) fit j a b came = record {
    end = g;
    joined = subst (λ (x : Joining N). IsAsJoined K.in_name x g) (one_some i j (ap first a)) fit.0;
    came = came ∙ ap (λ (l : List (Given N O I)). from.came.items ++ came_given K.in_name g ∷ map (came_given K.in_name) l) (no_way ways (ap (drop 1) a) b);
  }

pub reaper_ends_came : {S O I N : Type 0} (K : Known S O I N) (T : Type 0) → ReaperEndsCame K T
reaper_ends_came {S} {O} {I} {N} K T old new more found given from to is = (
  λ joins has.
      let js : flat_map joins_by has.ways ≡ flat_map (λ (m : Moment N T). came_with m.item) more = same_behind (standing_joins from.joins.items) _ _ (sym has.joins ∙ joins more is) in
      let os : (ss : List ObjId) → SocketsCame K from to ss → flat_map sockets_by has.ways ≡ ss = λ ss came. same_behind (map (λ s. s.number) from.sockets.items) _ ss (sym has.sockets ∙ came) in
      record {
        none = λ a b. has.came ∙ ap (λ (l : List (Given N O I)). from.came.items ++ map (came_given K.in_name) l) (no_way K (IsBrought found given) has.ways (js ∙ a) (os [] b)) ∙ nothing from.came.items;
        one = λ j a b. one_way K (IsBrought found given) from to has.ways has.fit j (js ∙ a) (os [] b) has.came;
        all = λ o a b. all_ways K (IsBrought found given) from to has.ways has.fit (js ∙ a) o (os (o ∷ []) b) has.came;
      },
  λ turns. ap (λ n. drop n (map (λ x. x.0) to.sealed.items)) (sym (as_long (λ x. x.0) from.sealed.items)) ∙ behind (map (λ x. x.0) from.sealed.items) (sealed_with more) (map (λ x. x.0) to.sealed.items) (turns more is).sealed,
)
  where
    nothing : (xs : List (Place N I × Unit {0})) → xs ++ [] ≡ xs
    nothing [] = refl
    nothing (x ∷ xs) = ap (λ (l : List (Place N I × Unit {0})). x ∷ l) (nothing xs)
