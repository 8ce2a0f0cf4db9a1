-- What is kept where an object is made.
use Rattle.std.specs.Prelude.{◌≡◌, ◌≢◌, ◌⊎◌, ◌<◌, ℕ, Bool, true, false, List, [], ◌∷◌, ◌++◌, map, Option, Some, None, length, refl}
use Rattle.std.proofs.Common.{arith, sym, ap, ◌∙◌, inl, inr}
use Rattle.std.proofs.lemmas.List.{get_or_push, get_or_past}
use Rattle.std.proofs.lemmas.Bool.{cases_eq}
use Rattle.zq_base.specs.declared.kind.Kind.{Kind}
use Rattle.zq_base.specs.declared.options.Options.{Options}
use Rattle.spec_control.specs.Register.{Register}
use Rattle.spec_control.specs.declared.letter.Letter.{Letter}
use Rattle.spec_control.specs.declared.request.Req.TheVariants.{Socket}
use Rattle.spec_control.specs.declared.stage.Stage.{Stage}
use Rattle.spec_control.specs.declared.stage.Stage.TheVariants.{Alive, Told, Ending, Finished, Cleared}
use Rattle.spec_control.specs.Stage.{is_alive, has_ended, was_asked}
use Rattle.spec_control.specs.Row.{Row, nobody, is_socket, link_fits}
use Rattle.spec_control.specs.Rows.{Rows, PairRow, obj, pair, end_owner, end_half, makes_object}
use Rattle.spec_control.specs.Control.{Control, next_object}
use Rattle.spec_control.specs.After.{Answers, owner_or_root, pair_or_none, socket_row, requested}
use Rattle.control_laws.specs.Reached.{IsReached, goes_on}
use Rattle.control_laws.specs.Prompt.{IsPromptBut, HasShape, HaveTheirPairs}
use Rattle.control_laws.specs.Mail.{Mark, Link, UpLink, DownLink, EndLink, up_mark, end_mark, up_marks, down_marks, queue, slot_of, Delivers, IsDelivered}
use Rattle.control_laws.specs.Kept.{IsUnasked, NamesAreOpen, KeptBut, Kept}
use Rattle.control_laws.proofs.ListLemmas.{never, clash, is_old, is_new, pushed}
use Rattle.control_laws.proofs.ClosedLemmas.{Inv}
use Rattle.control_laws.proofs.RowLemmas.{up_of_over, mail_of_past}
use Rattle.control_laws.proofs.ShapeLemmas.{shape_push}
use Rattle.control_laws.proofs.PromptLemmas.{object_prompt}
use Rattle.control_laws.proofs.MailLemmas.{agree, resort}
use Rattle.control_laws.proofs.StepLemmas.{RowsKept, inv_of, some_object}
use Rattle.control_laws.proofs.TellLemmas.{rows_of, names_same}
use Rattle.control_laws.proofs.EndLemmas.{kept_but, kept_unasked}

-- ---- a row is added
module _ (s : Rows) (o : Row) (fits : Inv s) (shape : HasShape s) (some : 0 < length s.objects) where
  abbrev n : ℕ
  n = length s.objects

  abbrev t : Rows
  t = record s { objects = s.objects ++ o ∷ [] }

  pub new_row : obj (record s { objects = s.objects ++ o ∷ [] }) (length s.objects) ≡ o
  new_row = get_or_push s.objects o nobody (length s.objects) refl

  pub no_row : obj s (length s.objects) ≡ nobody
  no_row = get_or_past s.objects (length s.objects) nobody (omega arith)

  pub old_row : (i : ℕ) → i ≢ length s.objects → obj (record s { objects = s.objects ++ o ∷ [] }) i ≡ obj s i
  old_row i other =
      elim (pushed s.objects o nobody i) [
        | is_old same ↦ same
        | is_new at same was ↦ absurd (other at)
      ]

  -- what is on its way for links of a number that no object has: nothing
  unknown : (w : ℕ) → w ≡ length s.objects → has_ended (obj s w).stage ≡ true
  unknown w at = ap (λ (i : ℕ). has_ended (obj s i).stage) at ∙ ap (λ (x : Row). has_ended x.stage) no_row

  slots : (link : Link) → (slot_of s link ≡ slot_of (record s { objects = s.objects ++ o ∷ [] }) link) ⊎ (queue s link ≡ [])
  slots (DownLink d) =
      elim (cases_eq d (length s.objects)) [
        | inl at ↦ inr (ap (λ (i : ℕ). down_marks d (obj s i)) at ∙ ap (down_marks d) no_row)
        | inr other ↦ inl (ap (λ (x : Row). x.slot) (sym (old_row d other)))
      ]
  slots (UpLink d) =
      elim (cases_eq d (length s.objects)) [
        | inl at ↦ inr (ap (λ (i : ℕ). up_marks (obj s i)) at ∙ ap up_marks no_row)
        | inr other ↦ of_owner (obj s d).owner refl (ap (λ (x : Row). x.owner) (old_row d other))
      ]
    where
      of_owner : (w : Option ℕ) → (obj s d).owner ≡ w → (obj (record s { objects = s.objects ++ o ∷ [] }) d).owner ≡ (obj s d).owner →
          (slot_of s (UpLink d) ≡ slot_of (record s { objects = s.objects ++ o ∷ [] }) (UpLink d)) ⊎ (queue s (UpLink d) ≡ [])
      of_owner w e same =
          elim (cases_eq (owner_or_root (obj s d).owner) (length s.objects)) [
            | inr other ↦ inl (ap (λ (x : Row). x.slot) (sym (old_row (owner_or_root (obj s d).owner) other)) ∙ ap (λ (v : Option ℕ). (obj (record s { objects = s.objects ++ o ∷ [] }) (owner_or_root v)).slot) (sym same))
            | inl at ↦ inr (by w e at)
          ]
        where
          nothing : (v : ℕ) → (obj s d).owner ≡ Some v → v ≡ length s.objects → queue s (UpLink d) ≡ []
          nothing v e at = ap (map (up_mark (is_socket (obj s d).kind) (owner_or_root (obj s d).owner))) (up_of_over (obj s d) ((fits.closed v (unknown v at)).children d e))

          no_zero : 0 ≡ length s.objects → ⊥
          no_zero at = omega (arith, at, some)

          by : (w : Option ℕ) → (obj s d).owner ≡ w → owner_or_root (obj s d).owner ≡ length s.objects → queue s (UpLink d) ≡ []
          by None e at = absurd (no_zero (ap owner_or_root (sym e) ∙ at))
          by (Some v) e at = nothing v e (ap owner_or_root (sym e) ∙ at)
  slots (EndLink k a) =
      elim (cases_eq (end_owner (pair s k) a) (length s.objects)) [
        | inr other ↦ inl (ap (λ (x : Row). x.slot) (sym (old_row (end_owner (pair s k) a) other)))
        | inl at ↦ inr (ap (map (end_mark (end_owner (pair s k) a))) (mail_of_past (end_half (pair s k) a) ((fits.closed (end_owner (pair s k) a) (unknown (end_owner (pair s k) a) at)).ends k a refl)))
      ]

  pub push_slots : (boxes : ℕ → List Letter) → IsDelivered s boxes → Delivers (slot_of (record s { objects = s.objects ++ o ∷ [] })) (queue s) boxes
  push_slots boxes all = resort _ _ _ _ all slots

  pub push_queue : (queues : Link → List Mark) → queues (UpLink (length s.objects)) ≡ up_marks o → queues (DownLink (length s.objects)) ≡ down_marks (length s.objects) o →
      ((link : Link) → link ≢ UpLink (length s.objects) → link ≢ DownLink (length s.objects) → queues link ≡ queue s link) → (link : Link) → queues link ≡ queue (record s { objects = s.objects ++ o ∷ [] }) link
  push_queue queues up down rest = by
    where
      not_up : (d : ℕ) → d ≢ length s.objects → UpLink d ≢ UpLink (length s.objects)
      not_up d other h = other (up_is d (length s.objects) h)
        where
          up_is : (x y : ℕ) → UpLink x ≡ UpLink y → x ≡ y
          up_is x y e = Prim.grind arith

      not_down : (d : ℕ) → d ≢ length s.objects → DownLink d ≢ DownLink (length s.objects)
      not_down d other h = other (down_is d (length s.objects) h)
        where
          down_is : (x y : ℕ) → DownLink x ≡ DownLink y → x ≡ y
          down_is x y e = Prim.grind arith

      by : (link : Link) → queues link ≡ queue (record s { objects = s.objects ++ o ∷ [] }) link
      by (UpLink d) =
          elim (cases_eq d (length s.objects)) [
            | inl at ↦ ap (λ (i : ℕ). queues (UpLink i)) at ∙ up ∙ sym (ap (λ (i : ℕ). up_marks (obj (record s { objects = s.objects ++ o ∷ [] }) i)) at ∙ ap up_marks new_row)
            | inr other ↦ rest (UpLink d) (not_up d other) (λ e. Prim.grind (arith, e)) ∙ ap up_marks (sym (old_row d other))
          ]
      by (DownLink d) =
          elim (cases_eq d (length s.objects)) [
            | inl at ↦ ap (λ (i : ℕ). queues (DownLink i)) at ∙ down ∙ sym (ap (λ (i : ℕ). down_marks i (obj (record s { objects = s.objects ++ o ∷ [] }) i)) at ∙ ap (down_marks (length s.objects)) new_row)
            | inr other ↦ rest (DownLink d) (λ e. Prim.grind (arith, e)) (not_down d other) ∙ ap (down_marks d) (sym (old_row d other))
          ]
      by (EndLink k a) = rest (EndLink k a) (λ e. Prim.grind (arith, e)) (λ e. Prim.grind (arith, e))

  -- before anything is put for it, nothing is on its way
  pub nothing_yet : (queue s (UpLink (length s.objects)) ≡ []) × (queue s (DownLink (length s.objects)) ≡ [])
  nothing_yet = (ap up_marks no_row, ap (down_marks (length s.objects)) no_row)

  pub push_names : (names : Register) → NamesAreOpen s names → NamesAreOpen (record s { objects = s.objects ++ o ∷ [] }) names
  push_names names = names_same s (record s { objects = s.objects ++ o ∷ [] }) names keeps
    where
      keeps : (i : ℕ) → IsUnasked s i → IsUnasked (record s { objects = s.objects ++ o ∷ [] }) i
      keeps i u =
          elim (cases_eq i (length s.objects)) [
            | inl at ↦ absurd (never (sym (ap (λ (j : ℕ). is_socket (obj s j).kind) at ∙ ap (λ (x : Row). is_socket x.kind) no_row) ∙ u.socket))
            | inr other ↦ record { socket = ap (λ (x : Row). is_socket x.kind) (old_row i other) ∙ u.socket; unasked = ap (λ (x : Row). was_asked x.stage) (old_row i other) ∙ u.unasked }
          ]

-- what is kept of the rows where an object is made
pub record IsMade (b : ℕ) (s : Rows) (o : Row) (out : ℕ → Bool) : Type 0 where
  pub reached : IsReached (record s { objects = s.objects ++ o ∷ [] })
  pub shape : HasShape (record s { objects = s.objects ++ o ∷ [] })
  pub prompt : IsPromptBut b (record s { objects = s.objects ++ o ∷ [] }) out

pub made : (b : ℕ) (s : Rows) (out : ℕ → Bool) (w : ℕ) (o : Row) → RowsKept b s out → has_ended (obj s w).stage ≡ false → o.owner ≡ Some w → o.stage ≡ Alive → link_fits o ≡ true →
    (w ≢ 0 → is_socket (obj s w).kind ≡ true) → (w ≢ 0 → o.noted ≡ true → was_asked (obj s w).stage ≡ false) → IsMade b s o out
made b s out w o kept unended owner alive fits socket known = record {
  reached = goes_on s _ kept.reached (makes_object w o unended owner alive fits refl);
  shape = shape_push s w o owner socket (some_object s kept.reached) kept.shape;
  prompt = object_prompt s out b w o owner alive known kept.prompt;
}

pub pairs_push : (s : Rows) (o : Row) → Inv s → HasShape s → 0 < length s.objects → o.accepted ≡ false → HaveTheirPairs s → HaveTheirPairs (record s { objects = s.objects ++ o ∷ [] })
pairs_push s o fits shape some plain have i h =
    elim (cases_eq i (length s.objects)) [
      | inl at ↦ absurd (clash _ h (ap (λ (j : ℕ). (obj (record s { objects = s.objects ++ o ∷ [] }) j).accepted) at ∙ ap (λ (x : Row). x.accepted) (new_row s o fits shape some) ∙ plain))
      | inr other ↦
          let row = old_row s o fits shape some i other in
          let was = have i (sym (ap (λ (x : Row). x.accepted) row) ∙ h) in
          let pair_is = ap (λ (x : Row). pair s (pair_or_none x.pair)) row in
          (ap (λ (p : PairRow). p.a_owner) pair_is ∙ was.0, ap (λ (x : Row). x.owner) row ∙ was.1 ∙ ap (λ (p : PairRow). Some p.b_owner) (sym pair_is))
    ]

-- ---- a socket
pub socket_kept : (c : Control) (kind : Kind) (options : Options) (h : Answers) → Kept c → is_alive (obj c.rows 0).stage ≡ true → Kept (requested (Socket kind options) h c)
socket_kept c kind options h kept alive =
    kept_unasked (next_object c) (requested (Socket kind options) h c) all (ap (λ (x : Row). was_asked x.stage) (new_row c.rows (socket_row kind options c) fits kept.shape some))
  where
    k : RowsKept (next_object c) c.rows c.output_left
    k = rows_of (kept_but (next_object c) c kept)

    fits : Inv c.rows
    fits = inv_of (rows_of (kept_but (next_object c) c kept))

    some : 0 < length c.rows.objects
    some = some_object c.rows kept.reached

    lives : (st : Stage) → is_alive st ≡ true → has_ended st ≡ false
    lives Alive e = refl
    lives Told e = absurd (never e)
    lives Ending e = absurd (never e)
    lives Finished e = absurd (never e)
    lives Cleared e = absurd (never e)

    so : IsMade (next_object c) c.rows (socket_row kind options c) c.output_left
    so = made (next_object c) c.rows c.output_left 0 (socket_row kind options c) k (lives (obj c.rows 0).stage alive) refl refl refl (λ below. absurd (below refl)) (λ below. absurd (below refl))

    all : KeptBut (next_object c) (requested (Socket kind options) h c)
    all = record {
      reached = so.reached;
      shape = so.shape;
      prompt = so.prompt;
      delivered = agree _ _ _ _ (push_slots c.rows (socket_row kind options c) fits kept.shape some c.boxes kept.delivered)
          (push_queue c.rows (socket_row kind options c) fits kept.shape some (queue c.rows) (nothing_yet c.rows (socket_row kind options c) fits kept.shape some).0 (nothing_yet c.rows (socket_row kind options c) fits kept.shape some).1 (λ link x y. refl));
      listed = kept.listed;
      names = push_names c.rows (socket_row kind options c) fits kept.shape some c.names kept.names;
      pairs = pairs_push c.rows (socket_row kind options c) fits kept.shape some refl kept.pairs;
    }
