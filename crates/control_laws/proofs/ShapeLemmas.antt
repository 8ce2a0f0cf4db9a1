-- What is kept of who owns what.
use Rattle.std.specs.Prelude.{◌≡◌, ◌≢◌, ◌⊎◌, ◌<◌, ℕ, Bool, true, false, not, [], ◌∷◌, ◌++◌, length, Some, None}
use Rattle.std.proofs.Common.{arith, sym, ap, ◌∙◌, subst, inl, inr}
use Rattle.spec_control.specs.PairPhase.{PairEvent, may}
use Rattle.spec_control.specs.Row.{Row, nobody, is_socket}
use Rattle.spec_control.specs.Rows.{PairRow, Rows, no_pair, obj, pair, with_object, with_pair, end_owner, end_half, PairMoves}
use Rattle.control_laws.specs.Prompt.{HasShape}
use Rattle.control_laws.proofs.ListLemmas.{never, clash, is_old, is_new, pushed, is_here as here_is, is_elsewhere, written}
use Rattle.control_laws.proofs.LinkLemmas.{some_is}
use Rattle.control_laws.proofs.ClosedLemmas.{none_is_some}
use Rattle.control_laws.proofs.RowLemmas.{pair_there, none_moves}

-- a row of the same owner and kind is written
pub shape_row : (s : Rows) (c : ℕ) (n : Row) → c < length s.objects → n.owner ≡ (obj s c).owner → n.kind ≡ (obj s c).kind → HasShape s → HasShape (with_object c n s)
shape_row s c n there owner kind shape = record { root = owners_same 0 ∙ shape.root; owners = owners; ends = ends }
  where
    t : Rows
    t = with_object c n s

    owners_same : (i : ℕ) → (obj t i).owner ≡ (obj s i).owner
    owners_same i =
        elim (written s.objects n nobody c i there) [
          | here_is here same ↦ ap (λ (o : Row). o.owner) same ∙ owner ∙ ap (λ (j : ℕ). (obj s j).owner) (sym here)
          | is_elsewhere same ↦ ap (λ (o : Row). o.owner) same
        ]

    kinds_same : (i : ℕ) → (obj t i).kind ≡ (obj s i).kind
    kinds_same i =
        elim (written s.objects n nobody c i there) [
          | here_is here same ↦ ap (λ (o : Row). o.kind) same ∙ kind ∙ ap (λ (j : ℕ). (obj s j).kind) (sym here)
          | is_elsewhere same ↦ ap (λ (o : Row). o.kind) same
        ]

    owners : (d w : ℕ) → (obj t d).owner ≡ Some w → w ≢ 0 → is_socket (obj t w).kind ≡ true
    owners d w owned below = ap is_socket (kinds_same w) ∙ shape.owners d w (sym (owners_same d) ∙ owned) below

    ends : (k : ℕ) (a : Bool) → ((w : ℕ) × ((obj t (end_owner (pair t k) a)).owner ≡ Some w)) ⊎ (pair t k ≡ no_pair)
    ends k a =
        elim (shape.ends k a) [
          | inl w ↦ inl (w.0, owners_same (end_owner (pair s k) a) ∙ w.1)
          | inr none ↦ inr none
        ]

-- an object is added under the root or a socket
pub shape_push : (s : Rows) (w : ℕ) (o : Row) → o.owner ≡ Some w → (w ≢ 0 → is_socket (obj s w).kind ≡ true) → 0 < length s.objects → HasShape s → HasShape (record s { objects = s.objects ++ o ∷ [] })
shape_push s w o owner socket some shape = record { root = root; owners = owners; ends = ends }
  where
    t : Rows
    t = record s { objects = s.objects ++ o ∷ [] }

    root : (obj t 0).owner ≡ None
    root =
        elim (pushed s.objects o nobody 0) [
          | is_old same ↦ ap (λ (v : Row). v.owner) same ∙ shape.root
          | is_new at same was ↦ absurd (none_below (subst (λ (n : ℕ). 0 < n) (sym at) some))
        ]
      where
        none_below : 0 < 0 → ⊥
        none_below h = omega arith

    keeps : (i : ℕ) → is_socket (obj s i).kind ≡ true → is_socket (obj t i).kind ≡ true
    keeps i h =
        elim (pushed s.objects o nobody i) [
          | is_old same ↦ ap (λ (v : Row). is_socket v.kind) same ∙ h
          | is_new at same was ↦ absurd (never (sym (ap (λ (v : Row). is_socket v.kind) was) ∙ h))
        ]

    owners : (d v : ℕ) → (obj t d).owner ≡ Some v → v ≢ 0 → is_socket (obj t v).kind ≡ true
    owners d v owned below =
        elim (pushed s.objects o nobody d) [
          | is_old same ↦ keeps v (shape.owners d v (sym (ap (λ (x : Row). x.owner) same) ∙ owned) below)
          | is_new at same was ↦
              let v_is = some_is v w (sym owned ∙ ap (λ (x : Row). x.owner) same ∙ owner) in
              keeps v (subst (λ (n : ℕ). is_socket (obj s n).kind ≡ true) (sym v_is) (socket (λ z. below (v_is ∙ z))))
        ]

    ends : (k : ℕ) (a : Bool) → ((v : ℕ) × ((obj t (end_owner (pair t k) a)).owner ≡ Some v)) ⊎ (pair t k ≡ no_pair)
    ends k a =
        elim (shape.ends k a) [
          | inl v ↦
              elim (pushed s.objects o nobody (end_owner (pair s k) a)) [
                | is_old same ↦ inl (v.0, ap (λ (x : Row). x.owner) same ∙ v.1)
                | is_new at same was ↦ absurd (none_is_some v.0 (sym (ap (λ (x : Row). x.owner) was) ∙ v.1))
              ]
          | inr none ↦ inr none
        ]

-- a pair's number is drawn for two objects that are owned
pub shape_draw : (s : Rows) (p : PairRow) → ((x : Bool) → (w : ℕ) × ((obj s (end_owner p x)).owner ≡ Some w)) → HasShape s → HasShape (record s { pairs = s.pairs ++ p ∷ [] })
shape_draw s p owned shape = record { root = shape.root; owners = shape.owners; ends = ends }
  where
    t : Rows
    t = record s { pairs = s.pairs ++ p ∷ [] }

    ends : (k : ℕ) (a : Bool) → ((v : ℕ) × ((obj t (end_owner (pair t k) a)).owner ≡ Some v)) ⊎ (pair t k ≡ no_pair)
    ends k a =
        elim (pushed s.pairs p no_pair k) [
          | is_old same ↦
              elim (shape.ends k a) [
                | inl v ↦ inl (v.0, ap (λ (q : PairRow). (obj s (end_owner q a)).owner) same ∙ v.1)
                | inr none ↦ inr (same ∙ none)
              ]
          | is_new at same was ↦ inl ((owned a).0, ap (λ (q : PairRow). (obj s (end_owner q a)).owner) same ∙ (owned a).1)
        ]

-- an event of an end
pub shape_pair : (s : Rows) (k : ℕ) (a : Bool) (e : PairEvent) (p : PairRow) → PairMoves e a (pair s k) p → HasShape s → HasShape (with_pair k p s)
shape_pair s k a e p m shape = record { root = shape.root; owners = shape.owners; ends = ends }
  where
    t : Rows
    t = with_pair k p s

    same_owner : (x : Bool) → end_owner p x ≡ end_owner (pair s k) x
    same_owner true = m.a_owner
    same_owner false = m.b_owner

    ends : (j : ℕ) (x : Bool) → ((v : ℕ) × ((obj t (end_owner (pair t j) x)).owner ≡ Some v)) ⊎ (pair t j ≡ no_pair)
    ends j x =
        elim (written s.pairs p no_pair k j (pair_there s k a e m.comes)) [
          | here_is here same ↦
              elim (shape.ends k x) [
                | inl v ↦ inl (v.0, ap (λ (q : PairRow). (obj s (end_owner q x)).owner) same ∙ ap (λ (i : ℕ). (obj s i).owner) (same_owner x) ∙ v.1)
                | inr none ↦ absurd (clash _ (subst (λ (q : PairRow). may e (end_half q a) (end_half q (not a)) ≡ true) none m.comes) (none_moves e a))
              ]
          | is_elsewhere same ↦
              elim (shape.ends j x) [
                | inl v ↦ inl (v.0, ap (λ (q : PairRow). (obj s (end_owner q x)).owner) same ∙ v.1)
                | inr none ↦ inr (same ∙ none)
              ]
        ]
