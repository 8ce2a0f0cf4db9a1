-- A holder that has what the control state of the whole order says has what its caller's moments say.
use Rattle.std.specs.Prelude.{◌≡◌, ◌≢◌, ℕ, Bool, true, false, List, [], ◌∷◌, Option, Some, None, All, map, refl}
use Rattle.std.proofs.Common.{arith, sym, ap, ◌∙◌, subst}
use Rattle.std.proofs.lemmas.List.Elements.{All-nil, All-weaker, All-filter, All-head, All-tail}
use Rattle.zq_base.specs.Ends.{other_end}
use Rattle.zq_base.specs.declared.ids.EndId.{EndId}
use Rattle.spec_control.specs.declared.entry.Item.{Item}
use Rattle.spec_control.specs.Place.{Place, At, is_here}
use Rattle.spec_control.specs.Rows.{obj}
use Rattle.spec_control.specs.Control.{Control, begun, met_in, place_of, ends_of}
use Rattle.spec_control.specs.ControlRun.{after_all, is_between, IsControlRun}
use Rattle.spec_control.specs.Names.{name_of, AreNamed}
use Rattle.spec_control.specs.Held.{Held, ends_after, items_by}
use Rattle.spec_control.specs.Has.{has_after, AreBy}
use Rattle.spec_control.specs.HeldLaws.{HasNames}
use Rattle.spec_control.specs.Moments.{moments_from, moments_by, items_in, left_after}
use Rattle.spec_control.proofs.NamedLemmas.{held_ends_are_named}
use Rattle.spec_control.proofs.OwnLemmas.{own_items_are_whole}
use Rattle.control_laws.proofs.ListLemmas.{never}
use Rattle.control_laws.proofs.RootLemmas.{begun_kept}
use Rattle.desk.specs.Holding.{Holding, has_end}
use Rattle.desk.specs.Lent.{has_writer, HasBothNames, HasEnds}
use Rattle.desk.specs.Kinds.{kind_after}
use Rattle.control_laws.specs.HeldLaws.{HoldersHaveWhatIsSaid}
use Rattle.control_laws.proofs.AttachedOnceLemmas.{IsOld}
use Rattle.control_laws.proofs.MomentLemmas.{AsLeft, own_moments, left_snoc}
use Rattle.control_laws.proofs.NobodyLemmas.{nobody_over}
use Rattle.control_laws.proofs.HeldOthersLemmas.{among}
use Rattle.control_laws.proofs.HeldStepLemmas.{ends_are_here}

none_some : {y : ℕ} → None ≡ Some y → ⊥
none_some f = Prim.grind arith

some_is : {X : Type 0} {x y : X} → Some x ≡ Some y → x ≡ y
some_is f = Prim.grind arith

head_is : {X : Type 0} {x y : X} {xs ys : List X} → x ∷ xs ≡ y ∷ ys → x ≡ y
head_is f = Prim.grind arith

tail_is : {X : Type 0} {x y : X} {xs ys : List X} → x ∷ xs ≡ y ∷ ys → xs ≡ ys
tail_is f = Prim.grind arith

no_cons : {X : Type 0} {x : X} {xs : List X} → [] ≡ x ∷ xs → ⊥
no_cons f = Prim.grind arith

-- ends that have the names which the pipes were given are told by their ids
module _ {N : Type 0} (names : EndId → Option N) where
  one_held : (x y : Held N) → x.end ≡ y.end → HasBothNames names x → HasBothNames names y → x ≡ y
  one_held x y same of_x of_y =
      let written = some_is (sym of_x.written ∙ ap names same ∙ of_y.written) in
      let read = some_is (sym of_x.read ∙ ap (λ (e : EndId). names (other_end e)) same ∙ of_y.read) in
      ap (λ (e : EndId). let z : Held N = record { end = e; written = x.written; read = x.read } in z) same
      ∙ ap (λ (n : N). let z : Held N = record { end = y.end; written = n; read = x.read } in z) written
      ∙ ap (λ (n : N). let z : Held N = record { end = y.end; written = y.written; read = n } in z) read

  same_held : (xs ys : List (Held N)) → map (λ x. x.end) xs ≡ map (λ x. x.end) ys → All (HasBothNames names) xs → All (HasBothNames names) ys → xs ≡ ys
  same_held [] [] same of_xs of_ys = refl
  same_held [] (y ∷ ys) same of_xs of_ys = absurd (no_cons same)
  same_held (x ∷ xs) [] same of_xs of_ys = absurd (no_cons (sym same))
  same_held (x ∷ xs) (y ∷ ys) same of_xs of_ys =
      ap (λ (z : Held N). z ∷ xs) (one_held x y (head_is same) (All-head (HasBothNames names) x xs of_xs) (All-head (HasBothNames names) y ys of_ys))
      ∙ ap (λ (zs : List (Held N)). y ∷ zs) (same_held xs ys (tail_is same) (All-tail (HasBothNames names) x xs of_xs) (All-tail (HasBothNames names) y ys of_ys))

module _ {N S : Type 0} (workers : ℕ) (items : List (Item N S)) (run : IsControlRun (begun workers) items) (named : AreNamed [] items) (may : AreBy [] (begun workers) items) (k : ℕ) (h : Holding N) (i : ℕ) (other : i ≢ 0)
    (has : has_after i items ≡ Some k) (ends : HasEnds (name_of items) (after_all items (begun workers)).rows.pairs (after_all items (begun workers)).attached (after_all items (begun workers)).reasons h i) where
  abbrev c : Control
  c = after_all items (begun workers)

  abbrev left_at : Control
  left_at = left_after i (moments_by k (moments_from (begun workers) items))

  own : items_in (moments_by k (moments_from (begun workers) items)) ≡ items_by k items
  own = own_moments k items (begun workers)

  free : is_between (obj c.rows i) ≡ false
  free = by (is_between (obj c.rows i)) refl
    where
      by : (b : Bool) → is_between (obj c.rows i) ≡ b → b ≡ false
      by true e = absurd (none_some (sym (nobody_over i items (begun workers) None (begun_kept workers) run (λ x. refl) e) ∙ has))
      by false e = refl

  named_so : (x : Held N) → HasNames items x → HasBothNames (name_of items) x
  named_so x is = record { written = is.written; read = is.read }

  pub said_ends : h.ends i ≡ ends_after i (items_in (moments_by k (moments_from (begun workers) items)))
  said_ends =
      same_held (name_of items) (h.ends i) (ends_after i items) (ends.ends ∙ sym (ends_are_here N S workers items run i free)) ends.named
      (All-weaker (HasNames items) (HasBothNames (name_of items)) named_so (ends_after i items) (held_ends_are_named N S items named i))
      ∙ sym (ap (ends_after i) own ∙ (own_items_are_whole N S (begun workers) items may i k other has).ends)

  pub said_object : has_after i (items_in (moments_by k (moments_from (begun workers) items))) ≡ Some k
  said_object = ap (has_after i) own ∙ (own_items_are_whole N S (begun workers) items may i k other has).has

  left : (e : EndId) → has_end e (h.ends i) ≡ true → AsLeft left_at c e
  left e is =
      among (AsLeft left_at c) (h.ends i)
      (subst (λ (es : List EndId). All (AsLeft left_at c) es) (sym ends.ends)
      (All-filter (λ d. is_here (place_of c d)) (AsLeft left_at c) (ends_of i c)
      (left_snoc k i other items [] (begun workers) (begun 0) (begun_kept workers) (All-nil (IsOld (begun workers))) run may (λ e. absurd (none_some e)) has).each)) e is

  pub said_writes : (e : EndId) → has_end e (h.ends i) ≡ true → h.writes e ≡ has_writer (place_of left_at e)
  said_writes e is = ends.writes e is ∙ ap has_writer (sym (left e is).place)

  pub said_met : (e : EndId) → has_end e (h.ends i) ≡ true → met_in (place_of left_at e) (left_at.reasons e) ≡ true → h.at_delimiter e ≡ true
  said_met e is met = ends.delimiters e is (sym (ap (λ (p : Place). met_in p (left_at.reasons e)) (left e is).place ∙ ap (met_in (place_of c e)) (left e is).reason) ∙ met)

  pub said_states : (e : EndId) → has_end e (h.ends i) ≡ true → place_of left_at e ≡ At (h.state e)
  said_states e is = (left e is).place ∙ ends.states e is

pub holders_have_what_is_said : (N S : Type 0) → HoldersHaveWhatIsSaid N S
holders_have_what_is_said N S workers items run named may k h no_root has kinds all = record {
  objects = λ i holds. said_object workers items run named may k h i (above i holds) (has i holds) (all i holds);
  no_root = no_root;
  ends = λ i holds. said_ends workers items run named may k h i (above i holds) (has i holds) (all i holds);
  writes = λ i e holds is. said_writes workers items run named may k h i (above i holds) (has i holds) (all i holds) e is;
  delimiters = λ i e holds is met. said_met workers items run named may k h i (above i holds) (has i holds) (all i holds) e is met;
  states = λ i e holds is. said_states workers items run named may k h i (above i holds) (has i holds) (all i holds) e is;
  kinds = λ i holds. kinds i holds ∙ ap (kind_after i) (sym (own_moments k items (begun workers)));
}
  where
    above : (i : ℕ) → h.holds i ≡ true → i ≢ 0
    above i holds e = never (sym no_root ∙ ap h.holds (sym e) ∙ holds)
