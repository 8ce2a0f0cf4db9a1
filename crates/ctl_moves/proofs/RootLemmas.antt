-- What asking the root needs, and what it does.
use Rattle.std.specs.Prelude.{◌≡◌, ◌≢◌, IsTrue, ◌≤◌, ◌+◌, ◌==◌, ◌&&◌, ℕ, zero, suc, Bool, true, false, cond, List, Option, Some, None, if◌then◌else◌, sum_by, refl}
use Rattle.std.proofs.Common.{arith, sym, ap, ◌∙◌, subst}
use Rattle.std.proofs.lemmas.List.{get_or-set_same}
use Rattle.std.proofs.lemmas.List.Sums.{sum_by-set, sum_by-le-sum_by}
use Rattle.zq_base.specs.declared.ids.ObjId.{ObjId}
use Rattle.spec_control.specs.declared.object.ObjState.TheVariants.{Ended}
use Rattle.spec_control.specs.declared.stage.Stage.{Stage}
use Rattle.spec_control.specs.declared.stage.Stage.TheVariants.{Alive, Told, Ending, Finished, Cleared}
use Rattle.spec_control.specs.Stage.{is_alive, has_ended, is_unused}
use Rattle.spec_control.specs.Row.{Row, nobody, RootAsked, StopPut, link_may, link_after, owner_fits, is_socket}
use Rattle.spec_control.specs.Rows.{Rows, obj}
use Rattle.spec_control.specs.declared.letter.Word.TheVariants.{Stop}
use Rattle.spec_control.specs.Control.{Control, link, put, stop_sockets}
use Rattle.spec_control.specs.After.{owner_or_root}
use Rattle.control_laws.specs.Reached.{IsReached}
use Rattle.control_laws.proofs.ListLemmas.{never, left, right}
use Rattle.control_laws.proofs.ClosedLemmas.{none_is_some}
use Rattle.control_laws.proofs.RowLemmas.{holds}
use Rattle.control_laws.proofs.StepLemmas.{some_object, same_owner, same_kind}
use Rattle.control_laws.specs.Kept.{Kept}
use Rattle.control_laws.specs.Room.{up_to_come, row_to_come, for_slot, slots_of, to_come}
use Rattle.own_tree.specs.Rows.{state_at, may_be_asked, asked_from, children_of, tree_of}
use Rattle.ctl_state.specs.declared.state.State.{State}
use Rattle.mailbox.specs.Mail.{Mail}
use Rattle.spec_control.specs.declared.object.ObjKind.{ObjKind}
use Rattle.ctl_state.specs.declared.command.Command.{Command}
use Rattle.ctl_state.specs.Lists.{owner_number}
use Rattle.ctl_state.specs.Boxes.{mail_at}
use Rattle.ctl_state.specs.Children.{may_stop, HaveRoom}
use Rattle.ctl_state.specs.Needs.{AreMet}
use Rattle.ctl_state.specs.Objects.{tree_row, RootOwnsSockets}
use Rattle.ctl_state.specs.Stands.{Stands, HasRoomForAck}
use Rattle.ctl_state.proofs.ReadLemmas.{read_kept}
use Rattle.ctl_moves.specs.Bare.{MayAskRoot}

-- ---- each row fits
pub all_fit : (s : Rows) → IsReached s → (i : ℕ) → owner_fits (obj s i).kind (obj s i).owner ≡ true
all_fit s reached i = left _ _ (right _ _ (right _ _ ((holds s reached).fits i)))

-- ---- Stops leave all but the sockets' stops
pub stops_keep : {X : Type 0} (g : Row → X) → ((o : Row) → g (link_after StopPut o) ≡ g o) → (n : ℕ) (c : Control) (j : ℕ) → g (obj (stop_sockets n c).rows j) ≡ g (obj c.rows j)
stops_keep g same zero c j = refl
stops_keep g same (suc n) c j = by (link_may StopPut (obj before.rows n)) ∙ stops_keep g same n c j
  where
    before : Control
    before = stop_sockets n c

    by : (b : Bool) → g (obj (if b then put n Stop (link StopPut n before) else before).rows j) ≡ g (obj before.rows j)
    by true = read_kept g before.rows.objects n j (link_after StopPut (obj before.rows n)) nobody (same (obj before.rows n))
    by false = refl

-- ---- the room for the Stops
abbrev stop_at : ℕ → Row → ℕ
stop_at k o = cond (may_stop o && o.slot == k) 1 0

stop_part : (a b : Bool) (x y : ℕ) → cond (a && b) 1 0 ≤ cond b (x + cond a 1 0) 0 + y
stop_part true true x y = omega arith
stop_part true false x y = omega arith
stop_part false true x y = omega arith
stop_part false false x y = omega arith

no_stop : (u r k b : Bool) → ◌≡◌ {A = ℕ} (cond ((u && (r && (k && false))) && b) 1 0) 0
no_stop true true true b = refl
no_stop true true false b = refl
no_stop true false k b = refl
no_stop false r k b = refl

pub stops_to_come : (c : Control) → Kept c → (k : ℕ) → sum_by (stop_at k) (link RootAsked 0 c).rows.objects ≤ to_come c k
stops_to_come c kept k =
    let o = obj c.rows 0 in
    let asked = link_after RootAsked o in
    let set = sum_by-set (stop_at k) c.rows.objects 0 asked nobody (some_object c.rows kept.reached) in
    let none = no_stop (is_unused asked.stop) (is_unused asked.request) (is_socket asked.kind) (asked.slot == k) in
    let parts = sum_by-le-sum_by (stop_at k) (row_to_come (slots_of c.rows) k) c.rows.objects (λ x. stop_part (may_stop x) (x.slot == k) (cond (is_alive x.stage) 1 0) (for_slot (slots_of c.rows) k (owner_or_root x.owner) (up_to_come x))) in
    omega (arith, set, none, parts)

-- ---- the steps
owner_none : (w : Option ObjId) → owner_number w ≡ None → w ≡ None
owner_none None e = refl
owner_none (Some w) e = absurd (none_is_some w.0 (sym e))

alive_is : (t : Stage) → is_alive t ≡ true → t ≡ Alive
alive_is Alive h = refl
alive_is Told h = absurd (never h)
alive_is Ending h = absurd (never h)
alive_is Finished h = absurd (never h)
alive_is Cleared h = absurd (never h)

asked_root : (t : Stage) (w : Option ObjId) → t ≡ Alive → w ≡ None → IsTrue (asked_from t w)
asked_root t w alive none = subst (λ (x : Stage). IsTrue (asked_from x w)) (sym alive) (subst (λ (x : Option ObjId). IsTrue (asked_from Alive x)) (sym none) refl)

module _ {L : Type 0} (s : State L) (c : Control) (h : MayAskRoot s c) (stands : Stands s c) where
  root_owner : (obj c.rows 0).owner ≡ None
  root_owner = h.kept.shape.root

  pub root_may : IsTrue (may_be_asked (tree_row s.objects 0))
  root_may =
      asked_root (tree_row s.objects 0).stage (tree_row s.objects 0).owner
      (alive_is _ (ap (λ (o : Row). is_alive o.stage) (sym (stands.objects.each 0)) ∙ h.alive))
      (owner_none (tree_row s.objects 0).owner (ap (λ (o : Row). o.owner) (sym (stands.objects.each 0)) ∙ root_owner))

  -- behind the asking
  module _ (t : State L) (met : AreMet t (link RootAsked 0 c)) (boxes : t.boxes ≡ s.boxes) where
    pub root_sockets : RootOwnsSockets t.objects
    root_sockets = met.sockets (λ i.
        (ap (λ (k : ObjKind). owner_fits k (obj (link RootAsked 0 c).rows i).owner) (kept_at (λ (o : Row). o.kind) (same_kind RootAsked (obj c.rows 0)) i)
        ∙ ap (λ (w : Option ℕ). owner_fits (obj c.rows i).kind w) (kept_at (λ (o : Row). o.owner) (same_owner RootAsked (obj c.rows 0)) i)
        ∙ all_fit c.rows h.kept.reached i))
      where
        kept_at : {X : Type 0} (g : Row → X) → g (link_after RootAsked (obj c.rows 0)) ≡ g (obj c.rows 0) → (i : ℕ) → g (obj (link RootAsked 0 c).rows i) ≡ g (obj c.rows i)
        kept_at g same i = read_kept g c.rows.objects 0 i (link_after RootAsked (obj c.rows 0)) nobody same

    pub root_room : HaveRoom may_stop t (children_of (tree_of t.objects.tree) (record { 0 = 0 }))
    root_room = met.children may_stop (record { 0 = 0 }) (λ k.
        (let some = stops_to_come c h.kept k in let most = h.room k in let same = ap (λ (b : List (Mail (Command L))). (mail_at b k).spare) boxes in omega (arith, some, most, same)))

  -- behind the Stops
  abbrev stopped : ℕ → Control
  stopped n = stop_sockets n (link RootAsked 0 c)

  row_there : obj (link RootAsked 0 c).rows 0 ≡ link_after RootAsked (obj c.rows 0)
  row_there = get_or-set_same c.rows.objects 0 (link_after RootAsked (obj c.rows 0)) nobody (some_object c.rows h.kept.reached)

  pub root_unended : (n : ℕ) (t : State L) → AreMet t (stopped n) → state_at t.objects.tree (record { 0 = 0 }) ≢ Ended
  root_unended n t met =
      met.unended (record { 0 = 0 }) (ap has_ended (stops_keep (λ (o : Row). o.stage) (λ o. refl) n (link RootAsked 0 c) 0) ∙ ap (λ (o : Row). has_ended o.stage) row_there)

  pub root_tells_nobody : (n : ℕ) (t : State L) → Stands t (stopped n) → HasRoomForAck t 0
  root_tells_nobody n t now w of =
      absurd (none_is_some w (sym root_owner ∙ sym (ap (λ (o : Row). o.owner) row_there)
      ∙ sym (stops_keep (λ (o : Row). o.owner) (λ o. refl) n (link RootAsked 0 c) 0) ∙ ap (λ (o : Row). o.owner) (now.objects.each 0) ∙ of))
