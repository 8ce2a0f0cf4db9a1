-- The ends that the reaper had and those that came in a call are where such ends may be.
use Rattle.std.proofs.Common.{◌≡◌, ◌≢◌, ◌++◌, ◌∙◌, ◌⊎◌, inl, inr, ℕ, zero, suc, true, false, List, [], ◌∷◌, All, Option, Some, map, refl, sym, ap, subst, arith}
use Rattle.std.specs.List.{list_any}
use Rattle.zq_base.specs.declared.ids.EndId.{EndId}
use Rattle.zq_base.specs.Ends.{PipeId}
use Rattle.msg_pipe.specs.Known.{Known}
use Rattle.spec_pattern.specs.PipeStep.{read_through}
use Rattle.spec_control.specs.declared.entry.Joining.{Joining}
use Rattle.spec_control.specs.Place.{Place as Where, Unmade, Away, At, is_here}
use Rattle.spec_control.specs.Rows.{obj}
use Rattle.spec_control.specs.Control.{Control, owner_of, place_of}
use Rattle.spec_control.specs.ControlRun.{is_between}
use Rattle.desk.specs.declared.given.Given.{Given}
use Rattle.ctl_plane.specs.Giving.{AreOnTheirWay, IsOnItsWay}
use Rattle.end_table.specs.declared.table.Place.{Place}
use Rattle.end_table.specs.Places.{place_at}
use Rattle.end_table.proofs.SoundLemmas.{one_some}
use Rattle.socket_laws.specs.Ends.{IsHeldWhere, is_new}
use Rattle.socket_laws.specs.Changes.{ArePlacesNamed}
use Rattle.closed_ends.specs.declared.sockets.ClosedSockets.{ClosedSockets}
use Rattle.closed_ends.specs.Coming.{IsBrought}
use Rattle.closed_ends.specs.Finding.{came_given, place_given}
use Rattle.closed_ends.specs.Has.{all_ends, is_of}
use Rattle.closed_ends.specs.Noted.{first_places}
use Rattle.closed_ends.proofs.NotedLemmas.{came_places}
use Rattle.core_laws.specs.ReaperCalls.{came_since}
use Rattle.core_laws.specs.Came.{CameAll, CameOne}
use Rattle.core_laws.specs.Goes.{AreTaken, StandsNew, NamedGoOn, ReaperEndsGoOn}
use Rattle.core_laws.proofs.ReaperCallLemmas.{behind}
use Rattle.core_laws.proofs.HereLemmas.{at_its_place, one_place}

module _ {N I : Type 0} where
  -- a place is in front or behind
  pub split_at : (ps qs : List (Place N I)) (k : ℕ) (q : Place N I) → place_at (ps ++ qs) k ≡ Some q → (place_at ps k ≡ Some q) ⊎ ((i : ℕ) × (place_at qs i ≡ Some q))
  split_at [] qs k q at = inr (k, at)
  split_at (x ∷ xs) qs zero q at = inl at
  split_at (x ∷ xs) qs (suc k) q at = split_at xs qs k q at

  -- ends at places of their own
  abbrev Apart : List (Place N I) → Type 0
  Apart ps = (j k : ℕ) (p q : Place N I) → place_at ps j ≡ Some p → place_at ps k ≡ Some q → p.end ≡ q.end → j ≡ k

  apart_rest : (x : Place N I) (xs : List (Place N I)) → Apart (x ∷ xs) → Apart xs
  apart_rest x xs a j k p q m n same = let e = a (suc j) (suc k) p q m n same in omega (arith, e)

  -- two lists of which no end is in both
  both_apart : (ps qs : List (Place N I)) → Apart ps → Apart qs → ((j k : ℕ) (p q : Place N I) → place_at ps j ≡ Some p → place_at qs k ≡ Some q → p.end ≢ q.end) → Apart (ps ++ qs)
  both_apart [] qs a b cross = b
  both_apart (x ∷ xs) qs a b cross = walk (both_apart xs qs (apart_rest x xs a) b (λ j k p q m n. cross (suc j) k p q m n))
    where
      later : (k : ℕ) (q : Place N I) → place_at (xs ++ qs) k ≡ Some q → x.end ≢ q.end
      later k q at same =
          elim (split_at xs qs k q at) [
            | inl front ↦ absurd (let e = a 0 (suc k) x q refl front same in omega (arith, e))
            | inr back ↦ cross 0 back.0 x q refl back.1 same
          ]

      walk : Apart (xs ++ qs) → Apart ((x ∷ xs) ++ qs)
      walk rest zero zero p q m n same = refl
      walk rest zero (suc k) p q m n same = absurd (later k q n (ap (λ (y : Place N I). y.end) (one_some x p m) ∙ same))
      walk rest (suc j) zero p q m n same = absurd (later j p m (ap (λ (y : Place N I). y.end) (one_some x q n) ∙ sym same))
      walk rest (suc j) (suc k) p q m n same = ap suc (rest j k p q m n same)

  one_apart : (x : Place N I) → Apart (x ∷ [])
  one_apart x zero zero p q m n same = refl
  one_apart x zero (suc k) p q m n same = cc
  one_apart x (suc j) k p q m n same = cc

-- what is new is not here
new_not_here : (x : Where) → is_new x ≡ true → is_here x ≡ true → ⊥
new_not_here Unmade n h = cc
new_not_here Away n h = cc
new_not_here (At s) n h = cc

module _ {S O I N : Type 0} (K : Known S O I N) (c now : Control) (names : PipeId → Option N) (from to : ClosedSockets N O I) (t : AreTaken K c now names from to) where
  abbrev had : List (Place N I)
  had = map (place_given K.in_name) (all_ends from.sockets.items)

  -- the places of the ends that it had, and of those that came
  module _ (gs : List (Given N O I)) (came : to.came.items ≡ from.came.items ++ map (came_given K.in_name) gs) where
    abbrev brought : List (Place N I)
    brought = map (place_given K.in_name) gs

    firsts_are : first_places K.in_name from (came_since from to) ≡ had ++ brought
    firsts_are = ap (first_places K.in_name from) (behind from.came.items (map (came_given K.in_name) gs) to.came.items came) ∙ ap (λ (l : List (Place N I)). had ++ l) (came_places K.in_name gs)

    named_by : ((k : ℕ) (p : Place N I) → place_at brought k ≡ Some p → (names p.end ≡ Some p.written) × (names (read_through p.end) ≡ Some p.read)) → ArePlacesNamed names (first_places K.in_name from (came_since from to))
    named_by its = subst (ArePlacesNamed names) (sym firsts_are) (λ k p at.
        elim (split_at had brought k p at) [
          | inl front ↦ t.here.named k p front
          | inr back ↦ its back.0 p back.1
        ])

    apart_by : ((j k : ℕ) (p q : Place N I) → place_at brought j ≡ Some p → place_at brought k ≡ Some q → p.end ≡ q.end → j ≡ k)
        → ((j k : ℕ) (p q : Place N I) → place_at had j ≡ Some p → place_at brought k ≡ Some q → p.end ≢ q.end)
        → (j k : ℕ) (p q : Place N I) → place_at (first_places K.in_name from (came_since from to)) j ≡ Some p → place_at (first_places K.in_name from (came_since from to)) k ≡ Some q → p.end ≡ q.end → j ≡ k
    apart_by own cross = subst (λ (ps : List (Place N I)). (j k : ℕ) (p q : Place N I) → place_at ps j ≡ Some p → place_at ps k ≡ Some q → p.end ≡ q.end → j ≡ k) (sym firsts_are) (both_apart had brought t.here.different own cross)

  nothing : (ps : List (Place N I)) → ps ++ [] ≡ ps
  nothing [] = refl
  nothing (p ∷ ps) = ap (λ (l : List (Place N I)). p ∷ l) (nothing ps)

  -- of ends that were on their way
  all_go : (given : List (Given N O I)) (o : ℕ) → CameAll K (IsBrought c given) o from to → AreOnTheirWay K.in_name c names given → NamedGoOn K c now names from to
  all_go given o a way = record {
    goes = record {
      different = apart_by a.ends a.came (one_place K.in_name K.out_name K.exact a.ends a.two) (λ j k p q m n same. let x = its k q n in
          absurd (true_false (sym (subst (λ (e : EndId). is_between (obj c.rows (owner_of c e)) ≡ true) (sym (same ∙ ap (λ (y : Place N I). y.end) x.1)) x.2.between) ∙ t.taken j p m)));
      was = had ++ brought a.ends a.came;
      since = [];
      are = firsts_are a.ends a.came ∙ sym (nothing (had ++ brought a.ends a.came));
      held = λ k p at.
          elim (split_at had (brought a.ends a.came) k p at) [
            | inl front ↦ t.here.held k p front
            | inr back ↦ (let x = its back.0 p back.1 in subst (IsHeldWhere c) (sym x.1) (record { here = x.2.here; writes = λ w. sym x.2.writes ∙ w }))
          ];
      new = λ k p at. cc;
      stand = λ k p at. cc;
      gone = t.gone;
    };
    named = named_by a.ends a.came (λ k p at. let x = its k p at in
        (ap (λ (y : Place N I). names y.end) x.1 ∙ x.2.written ∙ ap (λ (y : Place N I). Some y.written) (sym x.1), ap (λ (y : Place N I). names (read_through y.end)) x.1 ∙ x.2.read ∙ ap (λ (y : Place N I). Some y.read) (sym x.1)));
  }
    where
      true_false : true ≡ false → ⊥
      true_false e = cc

      on_way : All (IsOnItsWay K.in_name c names) a.ends
      on_way k d lt = let x = (a.brought k d lt).one in subst (IsOnItsWay K.in_name c names) x.2 (way x.0 _ x.1)

      its : (k : ℕ) (p : Place N I) → place_at (map (place_given K.in_name) a.ends) k ≡ Some p → (g : Given N O I) × (p ≡ place_given K.in_name g) × IsOnItsWay K.in_name c names g
      its k p at = at_its_place K.in_name (IsOnItsWay K.in_name c names) a.ends on_way k p at

  -- of one that joined
  one_goes : (j : Joining N) → CameOne K j from to → StandsNew K c now names from to j → NamedGoOn K c now names from to
  one_goes j o s = record {
    goes = record {
      different = apart_by (o.end ∷ []) o.came (one_apart it) (λ i k p q m n same. not_here p q (t.here.held i p m).here same (its k q n));
      was = had;
      since = it ∷ [];
      are = firsts_are (o.end ∷ []) o.came;
      held = t.here.held;
      new = λ k p at made. subst (λ (x : Place N I). is_new (place_of c x.end) ≡ true) (its k p at) (subst (λ (e : EndId). is_new (place_of c e) ≡ true) (sym o.joined.end) s.fresh);
      stand = λ k p at. subst (λ (x : Place N I). list_any (is_of x.end) (all_ends to.sockets.items) ≡ true) (its k p at) (subst (λ (e : EndId). list_any (is_of e) (all_ends to.sockets.items) ≡ true) (sym o.joined.end) s.stands);
      gone = t.gone;
    };
    named = named_by (o.end ∷ []) o.came (λ k p at. subst (λ (x : Place N I). (names x.end ≡ Some x.written) × (names (read_through x.end) ≡ Some x.read)) (its k p at)
        (ap names o.joined.end ∙ s.written ∙ ap Some (sym o.joined.written), ap (λ (e : EndId). names (read_through e)) o.joined.end ∙ s.read ∙ ap Some (sym o.joined.read)));
  }
    where
      it : Place N I
      it = place_given K.in_name o.end

      its : (k : ℕ) (p : Place N I) → place_at (place_given K.in_name o.end ∷ []) k ≡ Some p → place_given K.in_name o.end ≡ p
      its zero p at = one_some (place_given K.in_name o.end) p at
      its (suc k) p at = cc

      not_here : (p q : Place N I) → is_here (place_of c p.end) ≡ true → p.end ≡ q.end → place_given K.in_name o.end ≡ q → ⊥
      not_here p q here same is = new_not_here (place_of c p.end) (subst (λ (e : EndId). is_new (place_of c e) ≡ true) (sym (same ∙ sym (ap (λ (y : Place N I). y.end) is) ∙ o.joined.end)) s.fresh) here

  -- of none
  none_go : to.came.items ≡ from.came.items → NamedGoOn K c now names from to
  none_go same = record {
    goes = record {
      different = subst (λ (ps : List (Place N I)). (j k : ℕ) (p q : Place N I) → place_at ps j ≡ Some p → place_at ps k ≡ Some q → p.end ≡ q.end → j ≡ k) (sym firsts) t.here.different;
      was = had;
      since = [];
      are = firsts ∙ sym (nothing had);
      held = t.here.held;
      new = λ k p at. cc;
      stand = λ k p at. cc;
      gone = t.gone;
    };
    named = subst (ArePlacesNamed names) (sym firsts) t.here.named;
  }
    where
      firsts : first_places K.in_name from (came_since from to) ≡ map (place_given K.in_name) (all_ends from.sockets.items)
      firsts = firsts_are [] (same ∙ sym (keep from.came.items)) ∙ nothing (map (place_given K.in_name) (all_ends from.sockets.items))
        where
          keep : (xs : List (Place N I × Unit {0})) → xs ++ [] ≡ xs
          keep [] = refl
          keep (x ∷ xs) = ap (λ (l : List (Place N I × Unit {0})). x ∷ l) (keep xs)

pub reaper_ends_go_on : {S O I N : Type 0} (K : Known S O I N) → ReaperEndsGoOn K
reaper_ends_go_on K c now names from to given t = record {
  none = none_go K c now names from to t;
  one = one_goes K c now names from to t;
  all = all_go K c now names from to t given;
}
