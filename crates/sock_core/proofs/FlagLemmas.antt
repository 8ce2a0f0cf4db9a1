-- Each end that a socket's kind took is among its peers, and in use.
use Rattle.std.proofs.Common.{◌≡◌, ◌∙◌, ℕ, zero, suc, Bool, true, false, List, [], ◌∷◌, ◌++◌, Contains, length, set, Some, refl, sym, ap, subst, nat_eq, eqb-true, true≢false, ◌||◌}
use Rattle.std.specs.Cmp.{nat_eq_equiv}
use Rattle.std.proofs.lemmas.Bool.{eq-eqb}
use Rattle.std.proofs.lemmas.List.Elements.{All-contains, Contains-append_left, Contains-push}
use Rattle.std.proofs.lemmas.Map.Views.{list_any-from_Contains, Contains-from_any}
use Rattle.zq_base.specs.declared.attached.Attached.{Attached}
use Rattle.zq_base.specs.declared.attached.Attached.TheVariants.{Yes, BadId, Second}
use Rattle.spec_control.specs.Place.{At}
use Rattle.spec_run.specs.OpenSocket.{is_out, awaits_delimiter}
use Rattle.pub_sub.specs.Places.{is_place}
use Rattle.end_table.specs.declared.table.Place.{Place}
use Rattle.end_table.specs.Places.{place_at}
use Rattle.end_table.specs.Giving.{AreGone}
use Rattle.end_table.proofs.SoundLemmas.{one_some}
use Rattle.end_table.proofs.PlaceLemmas.{place_there, place_else}
use Rattle.sock_core.specs.Peers.{AddsPeer, OthersStay, AreFlagged, AreInUse, IsInUse, is_taken}
use Rattle.sock_core.proofs.GoneLemmas.{gone_at}

module _ {N I : Type 0} where
  -- what stands at a place of a list of which one place changed: that one, or another as before
  pub at_set : {X : Type 0} (ps : List (Place N I)) (k j : ℕ) (p q r : Place N I) → place_at ps k ≡ Some p → place_at (set ps k q) j ≡ Some r
      → (k ≡ j → r ≡ q → X) → (nat_eq k j ≡ false → place_at ps j ≡ Some r → X) → X
  at_set {X} ps k j p q r there at mine other = by (nat_eq k j) refl
    where
      by : (b : Bool) → nat_eq k j ≡ b → X
      by true same =
          let e = eqb-true k j same in
          mine e (sym (one_some q r (sym (place_there ps k p q there) ∙ ap (place_at (set ps k q)) e ∙ at)))
      by false off = other off (sym (place_else ps k j q (λ e. true≢false (sym (eq-eqb k j (sym e)) ∙ off))) ∙ at)

  -- what stands at a place of a list with one more
  pub at_more : {X : Type 0} (ps : List (Place N I)) (q r : Place N I) (j : ℕ) → place_at (ps ++ q ∷ []) j ≡ Some r → (j ≡ length ps → r ≡ q → X) → (place_at ps j ≡ Some r → X) → X
  at_more [] q r zero at last before = last refl (sym (one_some q r at))
  at_more [] q r (suc j) at last before = cc
  at_more (x ∷ xs) q r zero at last before = before at
  at_more (x ∷ xs) q r (suc j) at last before = at_more xs q r j at (λ e. last (ap suc e)) before

  pub flagged_set : (ps : List (Place N I)) (was now : List ℕ) (k : ℕ) (p q : Place N I) → AreFlagged ps was → place_at ps k ≡ Some p → OthersStay k was now
      → (q.held ≡ true → q.peer ≡ true → is_place now k ≡ true) → AreFlagged (set ps k q) now
  flagged_set ps was now k p q flagged there stay here = λ j r at held peer.
      at_set ps k j p q r there at
      (λ e same. subst (λ (n : ℕ). is_place now n ≡ true) e (here (ap (λ (x : Place N I). x.held) (sym same) ∙ held) (ap (λ (x : Place N I). x.peer) (sym same) ∙ peer)))
      (λ off was_at. stay j off (flagged j r was_at held peer))

  pub in_use_set : (reads : Bool) (ps : List (Place N I)) (k : ℕ) (p q : Place N I) → AreInUse reads ps → place_at ps k ≡ Some p → (q.held ≡ true → IsInUse reads q) → AreInUse reads (set ps k q)
  in_use_set reads ps k p q used there here = λ j r at held.
      at_set ps k j p q r there at
      (λ e same. subst (λ (x : Place N I). IsInUse reads x) (sym same) (here (ap (λ (x : Place N I). x.held) (sym same) ∙ held)))
      (λ off was_at. used j r was_at held)

  -- an end comes to a state
  pub in_use_stated : (was now : Bool) (ps : List (Place N I)) (k : ℕ) (p q : Place N I) → now ≡ (was || awaits_delimiter (At q.state)) → AreInUse was ps → place_at ps k ≡ Some p → (q.peer ≡ true → is_out (At q.state) ≡ false) → AreInUse now (set ps k q)
  in_use_stated was now ps k p q is used there here = in_use_set now ps k p q (λ j r at held. let u = used j r at held in (u.0, λ none. u.1 (both none).0)) there (λ held. (here, λ none. (both none).1)) where
    neither : (b c : Bool) → (b || c) ≡ false → (b ≡ false) × (c ≡ false)
    neither true c h = absurd (true≢false h)
    neither false c h = (refl, h)

    both : now ≡ false → (was ≡ false) × (awaits_delimiter (At q.state) ≡ false)
    both none = neither was (awaits_delimiter (At q.state)) (sym is ∙ none)

  pub flagged_more : (ps : List (Place N I)) (was now : List ℕ) (q : Place N I) (a : Attached) → AreFlagged ps was → q.peer ≡ is_taken a → AddsPeer a (length ps) was now → AreFlagged (ps ++ q ∷ []) now
  flagged_more ps was now q a flagged taken adds = λ j r at held peer. by a taken adds j r at held peer
    where
      by : (b : Attached) → q.peer ≡ is_taken b → AddsPeer b (length ps) was now → (j : ℕ) (r : Place N I) → place_at (ps ++ q ∷ []) j ≡ Some r → r.held ≡ true → r.peer ≡ true → is_place now j ≡ true
      by Yes taken adds j r at held peer =
          at_more ps q r j at
          (λ e same. subst (λ (n : ℕ). is_place now n ≡ true) (sym e)
          (list_any-from_Contains nat_eq_equiv (length ps) now (All-contains (Contains now) (was ++ length ps ∷ []) (length ps) adds.none_gone (Contains-push was (length ps)))))
          (λ was_at. list_any-from_Contains nat_eq_equiv j now
          (All-contains (Contains now) (was ++ length ps ∷ []) j adds.none_gone
          (Contains-append_left was (length ps ∷ []) j (Contains-from_any (λ x y t. eqb-true x y t) j was (flagged j r was_at held peer)))))
      by BadId taken same j r at held peer =
          at_more ps q r j at
          (λ e is. absurd (true≢false (sym peer ∙ ap (λ (x : Place N I). x.peer) is ∙ taken)))
          (λ was_at. ap (λ (l : List ℕ). is_place l j) same ∙ flagged j r was_at held peer)
      by Second taken same j r at held peer =
          at_more ps q r j at
          (λ e is. absurd (true≢false (sym peer ∙ ap (λ (x : Place N I). x.peer) is ∙ taken)))
          (λ was_at. ap (λ (l : List ℕ). is_place l j) same ∙ flagged j r was_at held peer)

  pub in_use_more : (reads : Bool) (ps : List (Place N I)) (q : Place N I) → AreInUse reads ps → IsInUse reads q → AreInUse reads (ps ++ q ∷ [])
  in_use_more reads ps q used here = λ j r at held.
      at_more ps q r j at
      (λ e same. subst (λ (x : Place N I). IsInUse reads x) (sym same) here)
      (λ was_at. used j r was_at held)

  -- where none is held there is none
  pub flagged_gone : (ps : List (Place N I)) (peers : List ℕ) → AreGone ps → AreFlagged ps peers
  flagged_gone ps peers gone = λ k p at held peer. absurd (true≢false (sym held ∙ gone_at ps k p gone at))

  pub in_use_gone : (reads : Bool) (ps : List (Place N I)) → AreGone ps → AreInUse reads ps
  in_use_gone reads ps gone = λ k p at held. absurd (true≢false (sym held ∙ gone_at ps k p gone at))
