-- What is so of an open socket, and of an item of it.
use Rattle.std.specs.Prelude.{◌≡◌, ◌≢◌, ℕ, true, List, [], ◌∷◌, ◌++◌, Option, Some, None, is_some, refl}
use Rattle.std.proofs.Common.{arith, sym, ap, ◌∙◌}
use Rattle.std.proofs.lemmas.Bool.{eq-eqb, eqb-true}
use Rattle.zq_base.specs.declared.kind.Kind.{Kind}
use Rattle.spec_control.specs.declared.entry.Item.{Item}
use Rattle.spec_control.specs.Stage.{is_alive, is_used, is_unused}
use Rattle.spec_control.specs.Row.{is_socket, owner_fits, socket_fits, stage_fits}
use Rattle.spec_control.specs.Rows.{obj, is_owner}
use Rattle.spec_control.specs.Control.{Control, begun}
use Rattle.spec_control.specs.ControlRun.{FitsItem, after_item, after_all, IsControlRun}
use Rattle.spec_control.specs.Held.{items_by}
use Rattle.spec_control.specs.Has.{AreBy}
use Rattle.spec_control.specs.OwnAsks.{known_after}
use Rattle.control_laws.proofs.ListLemmas.{never, left, right}
use Rattle.control_laws.proofs.QuietLemmas.{socket_owner}
use Rattle.control_laws.proofs.StepLemmas.{inv_of}
use Rattle.control_laws.specs.Kept.{Kept}
use Rattle.control_laws.proofs.TellLemmas.{rows_of}
use Rattle.control_laws.proofs.EndLemmas.{kept_but}
use Rattle.control_laws.proofs.RootLemmas.{runs_are_kept}
use Rattle.desk.specs.Kinds.{kind_after}
use Rattle.control_laws.proofs.MomentLemmas.{own_moments}
use Rattle.control_laws.specs.SocketLaws.{HasOpen as IsHad}
use Rattle.control_laws.proofs.KnownLemmas.{known_sockets_have_kinds}
use Rattle.control_laws.proofs.HeldOpenLemmas.{sockets_are_open}
use Rattle.socket_laws.specs.Open.{HasOpen}

pub none_some : {y : ℕ} → None ≡ Some y → ⊥
none_some f = Prim.grind arith

pub some_is : {x y : ℕ} → Some x ≡ Some y → x ≡ y
some_is f = Prim.grind arith

pub owns : (i : ℕ) (w : Option ℕ) → w ≡ Some i → is_owner i w ≡ true
owns i w e = ap (is_owner i) e ∙ eq-eqb i i refl

pub owned_by : (i : ℕ) (w : Option ℕ) → is_owner i w ≡ true → w ≡ Some i
owned_by i None e = absurd (never e)
owned_by i (Some w) e = ap (λ (n : ℕ). Some n) (eqb-true w i e)

-- ---- an open socket
-- a socket is not the root
socket_above : (c : Control) → Kept c → (o : ℕ) → is_socket (obj c.rows o).kind ≡ true → o ≢ 0
socket_above c kept o socket root =
    let r = obj c.rows o in
    let row = (inv_of (rows_of (kept_but 0 c kept))).fits o in
    let owner = socket_owner r.kind r.owner (left (owner_fits r.kind r.owner) _ (right (socket_fits (is_socket r.kind) (is_alive r.stage) (is_used r.request) (is_unused r.stop)) _ (right (stage_fits r.stage r.noted r.plugged r.request r.stop) _ row))) socket in
    none_some (sym kept.shape.root ∙ ap (λ (n : ℕ). (obj c.rows n).owner) (sym root) ∙ owner)

-- some kind is known
pub record IsOfKind (kind : Option Kind) : Type 0 where
  pub which : Kind
  pub are : kind ≡ Some which

of_kind : (kind : Option Kind) → is_some kind ≡ true → IsOfKind kind
of_kind None h = absurd (never h)
of_kind (Some kind) h = record { which = kind; are = refl }

module _ {N S : Type 0} (io : ℕ) (items : List (Item N S)) (by o : ℕ) (open_so : HasOpen io items by o) where
  pub own_kind : IsOfKind (kind_after o (items_by by items))
  own_kind =
      of_kind (kind_after o (items_by by items))
      (sym (known_sockets_have_kinds N S (items_by by items) o) ∙ ap (λ (xs : List (Item N S)). (known_after o xs).open_socket) (sym (own_moments by items (begun io))) ∙ open_so.is_open)

  pub had : IsHad io items by o own_kind.which
  had = sockets_are_open N S io items open_so.run open_so.callers by o own_kind.which own_kind.are

  pub all_kept : Kept (after_all items (begun io))
  all_kept = runs_are_kept N S io items open_so.run

  pub above : o ≢ 0
  above = socket_above (after_all items (begun io)) all_kept o had.open_socket.socket

-- ---- the items before one
module _ {N S : Type 0} where
  pub after_more : (items : List (Item N S)) (item : Item N S) (c : Control) → after_all (items ++ item ∷ []) c ≡ after_item item (after_all items c)
  after_more [] item c = refl
  after_more (x ∷ items) item c = after_more items item (after_item x c)

  pub run_before : (items : List (Item N S)) (item : Item N S) (c : Control) → IsControlRun c (items ++ item ∷ []) → IsControlRun c items
  run_before [] item c run = tt
  run_before (x ∷ items) item c run = (run.0, run_before items item (after_item x c) run.1)

  pub run_last : (items : List (Item N S)) (item : Item N S) (c : Control) → IsControlRun c (items ++ item ∷ []) → FitsItem (after_all items c) item
  run_last [] item c run = run.0
  run_last (x ∷ items) item c run = run_last items item (after_item x c) run.1

  pub callers_before : (past items : List (Item N S)) (item : Item N S) (c : Control) → AreBy past c (items ++ item ∷ []) → AreBy past c items
  callers_before past [] item c may = tt
  callers_before past (x ∷ items) item c may = (may.0, callers_before (past ++ x ∷ []) items item (after_item x c) may.1)
