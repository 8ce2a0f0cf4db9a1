-- What is asked of an object at the end of its event, but of one child.
use Rattle.std.specs.Prelude.{◌≡◌, ◌≢◌, ◌<◌, ◌&&◌, ℕ, Bool, true, false, not, Option, Some, None, length, if◌then◌else◌, refl}
use Rattle.std.proofs.Common.{sym, ap, ◌∙◌, subst, inl, inr}
use Rattle.std.proofs.lemmas.List.{get_or-set_same, get_or-set_other}
use Rattle.std.proofs.lemmas.Bool.{cases_eq}
use Rattle.spec_control.specs.declared.letter.Word.TheVariants.{Term}
use Rattle.spec_control.specs.declared.stage.Stage.{Stage}
use Rattle.spec_control.specs.declared.stage.Stage.TheVariants.{Alive, Told, Ending, Finished, Cleared}
use Rattle.spec_control.specs.declared.stage.Use.{Use}
use Rattle.spec_control.specs.declared.stage.Use.TheVariants.{Unused, OnItsWay, Used}
use Rattle.spec_control.specs.Stage.{is_alive, is_told, is_finished, is_cleared, was_asked, is_coming, is_used}
use Rattle.spec_control.specs.Place.{was_ended}
use Rattle.spec_control.specs.Row.{Row, nobody, is_socket, is_unowned, root_fits, stage_fits, socket_fits, reads_on, is_over, link_fits, IsTold, link_may, link_after}
use Rattle.spec_control.specs.Rows.{Rows, obj, pair, with_object, end_place, end_owner}
use Rattle.spec_control.specs.Control.{Control, put, link, tell_where}
use Rattle.spec_control.specs.After.{owner_or_root}
use Rattle.control_laws.specs.Prompt.{HasShape}
use Rattle.control_laws.proofs.ListLemmas.{never, clash, left, right, is_false}
use Rattle.control_laws.proofs.LinkLemmas.{at_owner, at_root, some_is}
use Rattle.control_laws.proofs.ClosedLemmas.{Inv, none_is_some}
use Rattle.control_laws.proofs.QuietLemmas.{socket_owner}
use Rattle.control_laws.proofs.EndLemmas.{AtOnce}

-- ---- what is asked of b at the end of its event, but of one child
pub record AtOnceBut (b d : ℕ) (s : Rows) : Type 0 where
  pub ends : (k : ℕ) (a : Bool) → end_owner (pair s k) a ≡ b → was_asked (obj s b).stage ≡ true → was_ended (reads_on (obj s b)) (end_place (pair s k) a) ≡ true
  pub children : (c : ℕ) → c ≢ d → b ≢ 0 → (obj s c).owner ≡ Some b → was_asked (obj s b).stage ≡ true → (obj s c).noted ≡ true → is_alive (obj s c).stage ≡ false

pub but_child : (b d : ℕ) (s : Rows) → AtOnce b s → AtOnceBut b d s
but_child b d s n = record { ends = n.ends; children = λ c other. n.children c }

pub but_write : (b d : ℕ) (s : Rows) (n : Row) → d ≢ b → AtOnceBut b d s → AtOnceBut b d (with_object d n s)
but_write b d s n other now = record {
  ends = λ k a of h.
      ap (λ (o : Row). was_ended (reads_on o) (end_place (pair s k) a)) row_b
      ∙ now.ends k a of (sym (ap (λ (o : Row). was_asked o.stage) row_b) ∙ h);
  children = λ c not_d below of h noted.
      let row_c = get_or-set_other s.objects d c n nobody not_d in
      ap (λ (o : Row). is_alive o.stage) row_c
      ∙ now.children c not_d below (sym (ap (λ (o : Row). o.owner) row_c) ∙ of) (sym (ap (λ (o : Row). was_asked o.stage) row_b) ∙ h) (sym (ap (λ (o : Row). o.noted) row_c) ∙ noted);
}
  where
    row_b : obj (with_object d n s) b ≡ obj s b
    row_b = get_or-set_other s.objects d b n nobody (λ e. other (sym e))

pub and_child : (b d : ℕ) (s : Rows) → AtOnceBut b d s → (b ≢ 0 → (obj s d).owner ≡ Some b → was_asked (obj s b).stage ≡ true → (obj s d).noted ≡ true → is_alive (obj s d).stage ≡ false) → AtOnce b s
and_child b d s now at = record { ends = now.ends; children = children }
  where
    children : (c : ℕ) → b ≢ 0 → (obj s c).owner ≡ Some b → was_asked (obj s b).stage ≡ true → (obj s c).noted ≡ true → is_alive (obj s c).stage ≡ false
    children c below of h noted =
        elim (cases_eq c d) [
          | inl same ↦
              ap (λ (i : ℕ). is_alive (obj s i).stage) same
              ∙ at below (subst (λ (i : ℕ). (obj s i).owner ≡ Some b) same of) h (subst (λ (i : ℕ). (obj s i).noted ≡ true) same noted)
          | inr other ↦ now.children c other below of h noted
        ]

pub but_tell : (b d : ℕ) (wanted : Bool) (c : Control) → d ≢ b → AtOnceBut b d c.rows → AtOnceBut b d (tell_where wanted d c).rows
but_tell b d wanted c other now = by (wanted && link_may IsTold (obj c.rows d))
  where
    by : (x : Bool) → AtOnceBut b d (if x then put d Term (link IsTold d c) else c).rows
    by true = but_write b d c.rows (link_after IsTold (obj c.rows d)) other now
    by false = now

-- b's own row is written, and was not asked by that
pub at_once_self : (b : ℕ) (s : Rows) (n : Row) → b < length s.objects → (was_asked n.stage ≡ true → was_asked (obj s b).stage ≡ true) → reads_on n ≡ reads_on (obj s b) →
    ((obj s b).owner ≡ Some b → ⊥) → n.owner ≡ (obj s b).owner → AtOnce b s → AtOnce b (with_object b n s)
at_once_self b s n there asked reads not_own owner now = record { ends = ends; children = children }
  where
    row_b : obj (with_object b n s) b ≡ n
    row_b = get_or-set_same s.objects b n nobody there

    ends : (k : ℕ) (a : Bool) → end_owner (pair s k) a ≡ b → was_asked (obj (with_object b n s) b).stage ≡ true → was_ended (reads_on (obj (with_object b n s) b)) (end_place (pair s k) a) ≡ true
    ends k a of h =
        ap (λ (o : Row). was_ended (reads_on o) (end_place (pair s k) a)) row_b ∙ ap (λ (r : Bool). was_ended r (end_place (pair s k) a)) reads
        ∙ now.ends k a of (asked (sym (ap (λ (o : Row). was_asked o.stage) row_b) ∙ h))

    children : (c : ℕ) → b ≢ 0 → (obj (with_object b n s) c).owner ≡ Some b → was_asked (obj (with_object b n s) b).stage ≡ true → (obj (with_object b n s) c).noted ≡ true → is_alive (obj (with_object b n s) c).stage ≡ false
    children c below of h noted =
        elim (cases_eq c b) [
          | inl same ↦ absurd (not_own (sym owner ∙ sym (ap (λ (o : Row). o.owner) row_b) ∙ subst (λ (i : ℕ). (obj (with_object b n s) i).owner ≡ Some b) same of))
          | inr other ↦
              let row_c = get_or-set_other s.objects b c n nobody other in
              ap (λ (o : Row). is_alive o.stage) row_c
              ∙ now.children c below (sym (ap (λ (o : Row). o.owner) row_c) ∙ of) (asked (sym (ap (λ (o : Row). was_asked o.stage) row_b) ∙ h)) (sym (ap (λ (o : Row). o.noted) row_c) ∙ noted)
        ]

-- nobody owns itself
pub not_own : (s : Rows) (c w : ℕ) → Inv s → HasShape s → (obj s c).owner ≡ Some w → c ≢ w
not_own s c w inv shape owned same =
    elim (cases_eq w 0) [
      | inl root ↦ none_is_some w (sym shape.root ∙ subst (λ (i : ℕ). (obj s i).owner ≡ Some w) (same ∙ root) owned)
      | inr below ↦
          let socket = socket_owner (obj s w).kind (obj s w).owner (at_owner (obj s w) (inv.fits w)) (shape.owners c w owned below) in
          below (some_is w 0 (sym (subst (λ (i : ℕ). (obj s i).owner ≡ Some w) same owned) ∙ socket))
    ]

-- a child of another object than the root is no socket
pub no_socket : (s : Rows) (c w : ℕ) → Inv s → (obj s c).owner ≡ Some w → w ≢ 0 → is_socket (obj s c).kind ≡ false
no_socket s c w inv owned below = by (is_socket (obj s c).kind) refl
  where
    by : (x : Bool) → is_socket (obj s c).kind ≡ x → is_socket (obj s c).kind ≡ false
    by false e = e
    by true e = absurd (below (some_is w 0 (sym owned ∙ socket_owner (obj s c).kind (obj s c).owner (at_owner (obj s c) (inv.fits c)) e)))

-- the owner of an object that something is on its way about
pub owner_some : (o : Row) (w : ℕ) → link_fits o ≡ true → (o.noted && (o.plugged && is_used o.request)) ≡ false → owner_or_root o.owner ≡ w → o.owner ≡ Some w
owner_some o w fits busy is = by o.owner refl (at_root o fits) is
  where
    by : (v : Option ℕ) → o.owner ≡ v → root_fits (is_unowned v) (o.noted && (o.plugged && is_used o.request)) ≡ true → owner_or_root v ≡ w → v ≡ Some w
    by None e f i = absurd (clash _ f busy)
    by (Some v) e f i = ap (λ (n : ℕ). Some n) i

-- where a child was told, or could not be
pub told_now : (wanted : Bool) (d : ℕ) (c : Control) → wanted ≡ true → d < length c.rows.objects → is_socket (obj c.rows d).kind ≡ false → is_alive (obj (tell_where wanted d c).rows d).stage ≡ false
told_now wanted d c want there k = by (wanted && link_may IsTold (obj c.rows d)) refl
  where
    by : (x : Bool) → (wanted && link_may IsTold (obj c.rows d)) ≡ x → is_alive (obj (if x then put d Term (link IsTold d c) else c).rows d).stage ≡ false
    by true e = ap (λ (o : Row). is_alive o.stage) (get_or-set_same c.rows.objects d (link_after IsTold (obj c.rows d)) nobody there)
    by false e = is_not (is_alive (obj c.rows d).stage) (is_socket (obj c.rows d).kind) k (sym (ap (λ (z : Bool). z && link_may IsTold (obj c.rows d)) want) ∙ e)
      where
        is_not : (a s : Bool) → s ≡ false → (a && not s) ≡ false → a ≡ false
        is_not false s k h = refl
        is_not true false k h = absurd (never (sym h))
        is_not true true k h = absurd (never (sym k))

-- a tell leaves other rows, and of this one all but the stage; an object that is not cleared is not cleared by it
pub record TellLeaves (d : ℕ) (c t : Control) : Type 0 where
  pub rest : (i : ℕ) → i ≢ d → obj t.rows i ≡ obj c.rows i
  pub owner : (obj t.rows d).owner ≡ (obj c.rows d).owner
  pub noted : (obj t.rows d).noted ≡ (obj c.rows d).noted
  pub uncleared : is_cleared (obj c.rows d).stage ≡ false → is_cleared (obj t.rows d).stage ≡ false
  pub pairs : t.rows.pairs ≡ c.rows.pairs

pub tell_leaves : (wanted : Bool) (d : ℕ) (c : Control) → d < length c.rows.objects → TellLeaves d c (tell_where wanted d c)
tell_leaves wanted d c there = by (wanted && link_may IsTold (obj c.rows d))
  where
    row : obj (with_object d (link_after IsTold (obj c.rows d)) c.rows) d ≡ link_after IsTold (obj c.rows d)
    row = get_or-set_same c.rows.objects d (link_after IsTold (obj c.rows d)) nobody there

    by : (x : Bool) → TellLeaves d c (if x then put d Term (link IsTold d c) else c)
    by true = record {
      rest = λ i other. get_or-set_other c.rows.objects d i (link_after IsTold (obj c.rows d)) nobody other;
      owner = ap (λ (o : Row). o.owner) row;
      noted = ap (λ (o : Row). o.noted) row;
      uncleared = λ h. ap (λ (o : Row). is_cleared o.stage) row;
      pairs = refl;
    }
    by false = record { rest = λ i other. refl; owner = refl; noted = refl; uncleared = λ h. h; pairs = refl }

pub uncleared_over : (o : Row) → is_cleared o.stage ≡ false → is_over o ≡ false
uncleared_over o h = ap (λ (b : Bool). b && (o.noted && not (is_coming o.request))) h

pub uncleared_unnoted : (s : Stage) (n p : Bool) (r t : Use) → stage_fits s n p r t ≡ true → n ≡ false → is_cleared s ≡ false
uncleared_unnoted Alive n p r t h e = refl
uncleared_unnoted Told n p r t h e = refl
uncleared_unnoted Ending n p r t h e = refl
uncleared_unnoted Finished n p r t h e = refl
uncleared_unnoted Cleared n p r t h e = absurd (clash n (left n _ (right (not (is_coming t)) _ (right p _ h))) e)

pub coming_is : (r : Use) → is_coming r ≡ true → is_used r ≡ false
coming_is OnItsWay h = refl
coming_is Unused h = absurd (never h)
coming_is Used h = absurd (never h)

pub and_false : (a b c : Bool) → c ≡ false → (a && (b && c)) ≡ false
and_false true true c h = h
and_false true false c h = refl
and_false false b c h = refl

pub uncleared_coming : (s : Stage) (n p : Bool) (r t : Use) → stage_fits s n p r t ≡ true → is_coming r ≡ true → is_cleared s ≡ false
uncleared_coming Alive n p r t h e = refl
uncleared_coming Told n p r t h e = refl
uncleared_coming Ending n p r t h e = refl
uncleared_coming Finished n p r t h e = refl
uncleared_coming Cleared n p r t h e = absurd (clash (is_coming r) e (is_false _ (right n _ (right (not (is_coming t)) _ (right p _ h)))))

pub unplugged_unasked : (s : Stage) (n p : Bool) (r t : Use) → stage_fits s n p r t ≡ true → p ≡ false → was_asked s ≡ false
unplugged_unasked Alive n p r t h e = refl
unplugged_unasked Told n p r t h e = refl
unplugged_unasked Ending n p r t h e = absurd (clash p (left p _ h) e)
unplugged_unasked Finished n p r t h e = absurd (clash p (left p _ h) e)
unplugged_unasked Cleared n p r t h e = absurd (clash p (left p _ h) e)

pub stopping_unasked : (s : Stage) (n p : Bool) (r t : Use) → stage_fits s n p r t ≡ true → is_coming t ≡ true → was_asked s ≡ false
stopping_unasked Alive n p r t h e = refl
stopping_unasked Told n p r t h e = refl
stopping_unasked Ending n p r t h e = absurd (clash (is_coming t) e (is_false _ (right p _ h)))
stopping_unasked Finished n p r t h e = absurd (clash (is_coming t) e (is_false _ (right p _ h)))
stopping_unasked Cleared n p r t h e = absurd (clash (is_coming t) e (is_false _ (left _ _ (right p _ h))))

pub finished_untold : (s : Stage) → is_finished s ≡ true → is_told s ≡ false
finished_untold Finished h = refl
finished_untold Alive h = absurd (never h)
finished_untold Told h = absurd (never h)
finished_untold Ending h = absurd (never h)
finished_untold Cleared h = absurd (never h)

pub closing_alive : (k a u t : Bool) → socket_fits k a u t ≡ true → k ≡ true → u ≡ false → a ≡ true
closing_alive true true u t h e f = refl
closing_alive true false u t h e f = absurd (clash u h f)
closing_alive false a u t h e f = absurd (never e)

pub tell_off : (d : ℕ) (c : Control) (wanted : Bool) → wanted ≡ false → tell_where wanted d c ≡ c
tell_off d c true h = absurd (never (sym h))
tell_off d c false h = refl
