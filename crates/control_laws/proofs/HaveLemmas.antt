-- A holder that has what its caller's moments say has what the control state of the whole order says.
use Rattle.std.specs.Prelude.{◌≡◌, ◌≢◌, ℕ, Bool, true, false, List, [], Some, None, All, map, refl}
use Rattle.std.proofs.Common.{arith, sym, ap, ◌∙◌, subst}
use Rattle.std.proofs.lemmas.List.Elements.{All-nil, All-weaker, All-filter}
use Rattle.zq_base.specs.declared.ids.EndId.{EndId}
use Rattle.spec_control.specs.declared.entry.Item.{Item}
use Rattle.spec_control.specs.Place.{Place, is_here}
use Rattle.spec_control.specs.Rows.{obj}
use Rattle.spec_control.specs.Control.{Control, begun, met_in, place_of, ends_of}
use Rattle.spec_control.specs.ControlRun.{after_all, is_between, IsControlRun}
use Rattle.spec_control.specs.Names.{name_of, AreNamed}
use Rattle.spec_control.specs.Held.{Held, ends_after, items_by}
use Rattle.spec_control.specs.Has.{has_after, AreBy}
use Rattle.spec_control.specs.HeldLaws.{HasNames}
use Rattle.spec_control.specs.Moments.{moments_from, moments_by, items_in, left_after}
use Rattle.spec_control.proofs.NamedLemmas.{held_ends_are_named}
use Rattle.spec_control.proofs.OwnLemmas.{own_items_are_whole, own_has}
use Rattle.control_laws.proofs.ListLemmas.{never}
use Rattle.control_laws.proofs.RootLemmas.{begun_kept}
use Rattle.desk.specs.Holding.{Holding, has_end}
use Rattle.desk.specs.Lent.{has_writer, here_ends, HasBothNames, HasEnds}
use Rattle.desk.specs.Desk.{HasWhatTheySay}
use Rattle.control_laws.specs.HeldLaws.{LentHoldersHaveIt}
use Rattle.control_laws.proofs.AttachedOnceLemmas.{IsOld}
use Rattle.control_laws.proofs.MomentLemmas.{AsLeft, own_moments, left_snoc}
use Rattle.control_laws.proofs.NobodyLemmas.{nobody_over}
use Rattle.control_laws.proofs.HeldOthersLemmas.{among}
use Rattle.control_laws.proofs.HeldStepLemmas.{ends_are_here}

none_some : {y : ℕ} → None ≡ Some y → ⊥
none_some f = Prim.grind arith

module _ {N S : Type 0} (workers : ℕ) (items : List (Item N S)) (run : IsControlRun (begun workers) items) (named : AreNamed [] items) (may : AreBy [] (begun workers) items) (k : ℕ) (h : Holding N)
    (say : HasWhatTheySay k (moments_by k (moments_from (begun workers) items)) h) (i : ℕ) (holds : h.holds i ≡ true) where
  abbrev c : Control
  c = after_all items (begun workers)

  no_root : i ≢ 0
  no_root e = never (sym say.no_root ∙ ap h.holds (sym e) ∙ holds)

  own : items_in (moments_by k (moments_from (begun workers) items)) ≡ items_by k items
  own = own_moments k items (begun workers)

  has : has_after i items ≡ Some k
  has = own_has (begun workers) items may i k no_root (ap (has_after i) (sym own) ∙ say.objects i holds)

  free : is_between (obj c.rows i) ≡ false
  free = by (is_between (obj c.rows i)) refl
    where
      by : (b : Bool) → is_between (obj c.rows i) ≡ b → b ≡ false
      by true e = absurd (none_some (sym (nobody_over i items (begun workers) None (begun_kept workers) run (λ x. refl) e) ∙ has))
      by false e = refl

  ends_are : h.ends i ≡ ends_after i items
  ends_are = say.ends i holds ∙ ap (ends_after i) own ∙ (own_items_are_whole N S (begun workers) items may i k no_root has).ends

  here : map (λ x. x.end) (h.ends i) ≡ here_ends c.rows.pairs c.attached i
  here = ap (λ (hs : List (Held N)). map (λ x. x.end) hs) ends_are ∙ ends_are_here N S workers items run i free

  left : (e : EndId) → has_end e (h.ends i) ≡ true → AsLeft (left_after i (moments_by k (moments_from (begun workers) items))) c e
  left e is =
      among (AsLeft (left_after i (moments_by k (moments_from (begun workers) items))) c) (h.ends i)
      (subst (λ (es : List EndId). All (AsLeft (left_after i (moments_by k (moments_from (begun workers) items))) c) es) (sym here)
      (All-filter (λ d. is_here (place_of c d)) (AsLeft (left_after i (moments_by k (moments_from (begun workers) items))) c) (ends_of i c)
      (left_snoc k i no_root items [] (begun workers) (begun 0) (begun_kept workers) (All-nil (IsOld (begun workers))) run may (λ e. absurd (none_some e)) has).each)) e is

  named_so : (x : Held N) → HasNames items x → HasBothNames (name_of items) x
  named_so x is = record { written = is.written; read = is.read }

  pub has_ends : HasEnds (name_of items) c.rows.pairs c.attached c.reasons h i
  has_ends = record {
    ends = here;
    named = subst (λ (hs : List (Held N)). All (HasBothNames (name_of items)) hs) (sym ends_are) (All-weaker (HasNames items) (HasBothNames (name_of items)) named_so (ends_after i items) (held_ends_are_named N S items named i));
    writes = λ e is. say.writes i e holds is ∙ ap has_writer (left e is).place;
    delimiters = λ e is met. say.delimiters i e holds is
        (ap (λ (p : Place). met_in p ((left_after i (moments_by k (moments_from (begun workers) items))).reasons e)) (left e is).place ∙ ap (met_in (place_of c e)) (left e is).reason ∙ met);
    states = λ e is. sym (left e is).place ∙ say.states i e holds is;
  }

pub lent_holders_have_it : (N S : Type 0) → LentHoldersHaveIt N S
lent_holders_have_it N S workers items run named may k h say i holds = has_ends workers items run named may k h say i holds
