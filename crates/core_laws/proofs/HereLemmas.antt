-- Where the ends of closed sockets are that the reaper has.
use Rattle.std.proofs.Common.{◌≡◌, ◌≢◌, ◌==◌, ◌∙◌, ◌||◌, ℕ, zero, suc, Bool, true, false, List, [], ◌∷◌, All, Option, Some, map, is_some, refl, sym, ap, subst}
use Rattle.std.specs.Prelude.{filter}
use Rattle.std.specs.List.{list_any}
use Rattle.std.proofs.lemmas.List.Elements.{All-nil, All-cons, All-head, All-tail, filter_passes}
use Rattle.zq_base.specs.Ends.{PipeId}
use Rattle.msg_pipe.specs.Known.{Known}
use Rattle.spec_pattern.specs.PipeStep.{read_through}
use Rattle.spec_control.specs.Place.{is_here}
use Rattle.spec_control.specs.Control.{Control, is_end, place_of}
use Rattle.spec_control.specs.Held.{Held}
use Rattle.desk.specs.declared.given.Given.{Given}
use Rattle.desk.specs.Holding.{has_end, held_given}
use Rattle.desk.specs.Lent.{has_writer, owner_by, place_by, HasBothNames, HasAll}
use Rattle.desk.specs.TakingOver.{AreTwo, AllTwo}
use Rattle.end_table.specs.declared.table.Place.{Place}
use Rattle.end_table.specs.Places.{place_at}
use Rattle.end_table.proofs.SoundLemmas.{one_some}
use Rattle.sock_core.proofs.FindLemmas.{end_self}
use Rattle.socket_laws.specs.Ends.{IsHeldWhere}
use Rattle.closed_ends.specs.declared.sockets.ClosedSockets.{ClosedSockets}
use Rattle.closed_ends.specs.Finding.{place_given}
use Rattle.closed_ends.specs.Has.{all_ends, ends_of, is_socket, writes_of, holding_in}
use Rattle.closed_ends.specs.Sound.{AreSound}
use Rattle.closed_ends.proofs.FormLemmas.{sound_of}
use Rattle.closed_ends.proofs.ChangeLemmas.{all_in, among}
use Rattle.closed_ends.proofs.AddLemmas.{from_map, self_writes}
use Rattle.core_laws.specs.Here.{ReaperEndsAreHere}

module _ {N O I : Type 0} (in_name : I → N) where
  -- what is said of an end by the control state
  pub record IsHere (c : Control) (names : PipeId → Option N) (g : Given N O I) : Type 0 where
    pub written : names g.end ≡ Some g.written
    pub read : names (read_through g.end) ≡ Some (in_name g.input)
    pub here : is_here (place_of c g.end) ≡ true
    pub writes : is_some g.out ≡ true → has_writer (place_of c g.end) ≡ true

  -- and so of each by its place
  pub at_its_place : (P : Given N O I → Type 0) (gs : List (Given N O I)) → All P gs → (k : ℕ) (p : Place N I) → place_at (map (place_given in_name) gs) k ≡ Some p → (g : Given N O I) × (p ≡ place_given in_name g) × P g
  at_its_place P [] all k p at = absurd (none at)
    where
      none : place_at {N = N} {I = I} [] k ≡ Some p → ⊥
      none e = cc
  at_its_place P (g ∷ gs) all zero p at = (g, sym (one_some (place_given in_name g) p at), All-head P g gs all)
  at_its_place P (g ∷ gs) all (suc k) p at = at_its_place P gs (All-tail P g gs all) k p at

  -- ends are two by two different
  module _ (out_name : O → N) (exact : Bool) where
    apart_at : (g : Given N O I) (gs : List (Given N O I)) → All (AreTwo exact (held_given out_name in_name g)) (map (held_given out_name in_name) gs) → (k : ℕ) (p : Place N I) → place_at (map (place_given in_name) gs) k ≡ Some p → g.end ≢ p.end
    apart_at g gs all k p at same =
        let x = at_its_place (λ y. AreTwo exact (held_given out_name in_name g) (held_given out_name in_name y)) gs (from_map (AreTwo exact (held_given out_name in_name g)) (held_given out_name in_name) gs all) k p at in
        x.2.ends (same ∙ ap (λ (y : Place N I). y.end) x.1)

    pub one_place : (gs : List (Given N O I)) → AllTwo exact (map (held_given out_name in_name) gs) → (j k : ℕ) (p q : Place N I) → place_at (map (place_given in_name) gs) j ≡ Some p → place_at (map (place_given in_name) gs) k ≡ Some q → p.end ≡ q.end → j ≡ k
    one_place [] two j k p q a b same = absurd (none a)
      where
        none : place_at {N = N} {I = I} [] j ≡ Some p → ⊥
        none e = cc
    one_place (g ∷ gs) two zero zero p q a b same = refl
    one_place (g ∷ gs) two zero (suc k) p q a b same = absurd (apart_at g gs two.0 k q b (ap (λ (x : Place N I). x.end) (one_some (place_given in_name g) p a) ∙ same))
    one_place (g ∷ gs) two (suc j) zero p q a b same = absurd (apart_at g gs two.0 j p a (ap (λ (x : Place N I). x.end) (one_some (place_given in_name g) q b) ∙ sym same))
    one_place (g ∷ gs) two (suc j) (suc k) p q a b same = ap suc (one_place gs two.1 j k p q a b same)

  -- each of these is among them
  self_held : (out_name : O → N) (xs : List (Given N O I)) → All (λ x. has_end x.end (map (held_given out_name in_name) xs) ≡ true) xs
  self_held out_name [] = All-nil (λ (x : Given N O I). has_end {N = N} x.end [] ≡ true)
  self_held out_name (x ∷ xs) =
      All-cons (λ y. has_end y.end (map (held_given out_name in_name) (x ∷ xs)) ≡ true) x xs
      (ap (λ (b : Bool). b || has_end x.end (map (held_given out_name in_name) xs)) (end_self x.end))
      (λ k d lt. later (is_end _ x.end) (self_held out_name xs k d lt))
    where
      later : {c : Bool} (b : Bool) → c ≡ true → (b || c) ≡ true
      later true is = refl
      later false is = is

module _ {S O I N : Type 0} (K : Known S O I N) (c : Control) (names : PipeId → Option N) (pipes : S) (closed : ClosedSockets N O I) (sound : AreSound K pipes closed.sockets.items) (has : HasAll names c (holding_in K.out_name K.in_name closed)) where
  abbrev hold : List (Given N O I) → List (Held N)
  hold gs = map (held_given K.out_name K.in_name) gs

  pub of_socket : (i : ℕ) → list_any (is_socket i) closed.sockets.items ≡ true → All (IsHere K.in_name c names) (ends_of closed.sockets.items i)
  of_socket i there = λ k d lt. record {
    written = (named k d lt).written;
    read = (named k d lt).read;
    here = here k d lt;
    writes = λ w. sym ((has i there).writes _ (self_held K.in_name K.out_name (ends_of closed.sockets.items i) k d lt)) ∙ among (writes_of _) i closed.sockets.items (self_writes (ends_of closed.sockets.items i) k d lt w);
  }
    where
      named : All (λ g. HasBothNames names (held_given K.out_name K.in_name g)) (ends_of closed.sockets.items i)
      named = from_map (HasBothNames names) (held_given K.out_name K.in_name) (ends_of closed.sockets.items i) (has i there).named

      here : All (λ g. is_here (place_by c.rows.pairs g.end) ≡ true) (ends_of closed.sockets.items i)
      here = from_map (λ (x : Held N). is_here (place_by c.rows.pairs x.end) ≡ true) (held_given K.out_name K.in_name) (ends_of closed.sockets.items i)
          (from_map (λ e. is_here (place_by c.rows.pairs e) ≡ true) (λ (x : Held N). x.end) (hold (ends_of closed.sockets.items i))
          (subst (All (λ e. is_here (place_by c.rows.pairs e) ≡ true)) (sym (has i there).ends) (filter_passes (λ e. is_here (place_by c.rows.pairs e)) (filter (λ e. owner_by c.rows.pairs e == i) c.attached))))

  pub all_here : All (IsHere K.in_name c names) (all_ends closed.sockets.items)
  all_here = all_in (IsHere K.in_name c names) closed.sockets.items (sound_of K pipes closed.sockets.items sound).alone of_socket

  find : (k : ℕ) (p : Place N I) → place_at (map (place_given K.in_name) (all_ends closed.sockets.items)) k ≡ Some p → (g : Given N O I) × (p ≡ place_given K.in_name g) × IsHere K.in_name c names g
  find k p at = at_its_place K.in_name (IsHere K.in_name c names) (all_ends closed.sockets.items) all_here k p at

pub reaper_ends_are_here : {S O I N : Type 0} (K : Known S O I N) → ReaperEndsAreHere K
reaper_ends_are_here K c names pipes closed sound has = record {
  named = λ k p at.
      let x = find K c names pipes closed sound has k p at in
      (ap (λ (y : Place _ _). names y.end) x.1 ∙ x.2.written ∙ ap (λ (y : Place _ _). Some y.written) (sym x.1), ap (λ (y : Place _ _). names (read_through y.end)) x.1 ∙ x.2.read ∙ ap (λ (y : Place _ _). Some y.read) (sym x.1));
  held = λ k p at. let x = find K c names pipes closed sound has k p at in subst (IsHeldWhere c) (sym x.1) (record { here = x.2.here; writes = x.2.writes });
  different = one_place K.in_name K.out_name K.exact (all_ends closed.sockets.items) (sound_of K pipes closed.sockets.items sound).apart;
}
