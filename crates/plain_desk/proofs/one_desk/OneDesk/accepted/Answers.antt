use Rattle.std.specs.Prelude.{◌+◌, List, [], ◌∷◌, length, map, refl}
use Rattle.std.proofs.Common.{arith, sym, ap, ◌∙◌, subst}
use Rattle.std.proofs.lemmas.List.{map-append}
use Rattle.spec_control.specs.declared.request.Req.TheVariants.{Accepted}
use Rattle.spec_control.specs.After.{accepted_row, answers_in}
use Rattle.spec_control.specs.Stage.{has_ended}
use Rattle.spec_control.specs.Row.{Row, nobody}
use Rattle.spec_control.specs.Rows.{obj}
use Rattle.spec_control.specs.Control.{begun}
use Rattle.spec_control.specs.ControlRun.{MayAsk}
use Rattle.spec_control.specs.Reply.{reply_of}
use Rattle.control_laws.proofs.ListLemmas.{placed}
use Rattle.ctl_state.proofs.KeptLemmas.{so_on_err}
use Rattle.ctl_plane.specs.Past.{IsPast, Past, control_of}
use Rattle.desk.specs.declared.given.Given.{Given}
use Rattle.plain_desk.specs.declared.mark.Mark.{Mark}
use Rattle.plain_desk.specs.Lent.{lent_to, made_at_most, Asks, IsLent, Lent}
use Rattle.plain_desk.specs.Reaping.{IsReaping}
use Rattle.plain_desk.proofs.AsideLemmas.{desk_accepted, desk_same}
use Rattle.plain_desk.proofs.BoxLemmas.{accepted_gets, listener_above, listener_no_socket, slot_there}
use Rattle.plain_desk.proofs.FitLemmas.{last_fits}
use Rattle.plain_desk.proofs.HoldLemmas.{desk_had}
use Rattle.plain_desk.proofs.LentLemmas.{accepted_by, asks_more, kept_of, lent_one}
use Rattle.plain_desk.proofs.MakeLemmas.{accepted_made, marks_of}
use Rattle.plain_desk.proofs.ReapingLemmas.{reaps_one}
use Rattle.plain_desk.proofs.one_desk.OneDesk.accepted.Goals as goal

pub accepted-requires-clause-may : goal.accepted-requires-clause-may
accepted-requires-clause-may g c = (subst (λ (l : Lent (Given g.row.P-Name.Denot g.row.P-Out.Denot g.row.P-In.Denot) g.row.P-Name.Denot g.row.P-Story.Denot). MayAsk (control_of l.past) (Accepted c.args.listener)) (sym c.self.view_is) c.requires.may)

pub accepted-requires-clause-mailbox : goal.accepted-requires-clause-mailbox
accepted-requires-clause-mailbox g c = slot_there c.self.inside.history.workers (control_of c.self.inside.history) c.self.invariant.0.boxes c.args.listener.0 (placed (λ (r : Row). has_ended r.stage) (control_of c.self.inside.history).rows.objects nobody c.args.listener.0 refl (subst (λ (l : Lent (Given g.row.P-Name.Denot g.row.P-Out.Denot g.row.P-In.Denot) g.row.P-Name.Denot g.row.P-Story.Denot). MayAsk (control_of l.past) (Accepted c.args.listener)) (sym c.self.view_is) c.requires.may).1.lives)

pub invariant_of-self : goal.invariant_of-self
invariant_of-self g c = (subst (λ (ws : List g.row.P-Waker.Denot). IsLent (map (λ (m : Mark × Unit {0}). m.0) c.self.inside.order.items) c.self.inside.history (length ws)) (sym c.reserve.ensures.items) c.self.invariant.0, c.self.invariant.1)

pub invariant_of-self-in-Ok : goal.invariant_of-self-in-Ok
invariant_of-self-in-Ok g c = (
  lent_one _ _ c.self.inside.caller (length c.self.inside.wakers.items) c.self.inside.history c.accepted.new.self _ (ap (λ (xs : List (Mark × Unit {0})). map (λ x. x.0) xs) c.and-self-inside.ensures ∙ map-append (λ x. x.0) c.self.inside.order.items (_ ∷ []))
      c.in-Ok.ensures.ok (length c.add_waker.new.wakers.items) (Accepted c.args.listener) c.in-Ok.reply _ (accepted_row c.args.listener.0 (control_of c.self.inside.history)) refl
      (accepted_made (answers_in c.silent.result) (control_of c.self.inside.history) c.args.listener)
      (accepted_gets c.self.inside.history.workers (control_of c.self.inside.history) c.self.invariant.0.boxes c.args.listener.0 (listener_above (control_of c.self.inside.history) (kept_of (map (λ x. x.0) c.self.inside.order.items) c.self.inside.history (length c.self.inside.wakers.items) c.self.invariant.0) c.args.listener.0 (subst (λ (l : Lent (Given g.row.P-Name.Denot g.row.P-Out.Denot g.row.P-In.Denot) g.row.P-Name.Denot g.row.P-Story.Denot). MayAsk (control_of l.past) (Accepted c.args.listener)) (sym c.self.view_is) c.requires.may).0) (placed (λ (r : Row). has_ended r.stage) (control_of c.self.inside.history).rows.objects nobody c.args.listener.0 refl (subst (λ (l : Lent (Given g.row.P-Name.Denot g.row.P-Out.Denot g.row.P-In.Denot) g.row.P-Name.Denot g.row.P-Story.Denot). MayAsk (control_of l.past) (Accepted c.args.listener)) (sym c.self.view_is) c.requires.may).1.lives) (listener_no_socket (obj (control_of c.self.inside.history).rows c.args.listener.0).kind (subst (λ (l : Lent (Given g.row.P-Name.Denot g.row.P-Out.Denot g.row.P-In.Denot) g.row.P-Name.Denot g.row.P-Story.Denot). MayAsk (control_of l.past) (Accepted c.args.listener)) (sym c.self.view_is) c.requires.may).0))
      (marks_of (obj (control_of c.self.inside.history).rows c.args.listener.0) (accepted_row c.args.listener.0 (control_of c.self.inside.history)) refl (c.self.invariant.0.options c.args.listener.0 (listener_above (control_of c.self.inside.history) (kept_of (map (λ x. x.0) c.self.inside.order.items) c.self.inside.history (length c.self.inside.wakers.items) c.self.invariant.0) c.args.listener.0 (subst (λ (l : Lent (Given g.row.P-Name.Denot g.row.P-Out.Denot g.row.P-In.Denot) g.row.P-Name.Denot g.row.P-Story.Denot). MayAsk (control_of l.past) (Accepted c.args.listener)) (sym c.self.view_is) c.requires.may).0) (placed (λ (r : Row). has_ended r.stage) (control_of c.self.inside.history).rows.objects nobody c.args.listener.0 refl (subst (λ (l : Lent (Given g.row.P-Name.Denot g.row.P-Out.Denot g.row.P-In.Denot) g.row.P-Name.Denot g.row.P-Story.Denot). MayAsk (control_of l.past) (Accepted c.args.listener)) (sym c.self.view_is) c.requires.may).1.lives))) c.self.invariant.0 c.is_run.ensures.run c.is_run.ensures.named
      (accepted_by _ (length c.self.inside.wakers.items) c.self.inside.caller c.self.inside.history c.args.listener c.in-Ok.reply _ c.self.invariant.0 (last_fits c.self.inside.history.events _ (begun c.self.inside.history.workers) (subst (λ (p : Past (Given g.row.P-Name.Denot g.row.P-Out.Denot g.row.P-In.Denot) g.row.P-Name.Denot g.row.P-Story.Denot). IsPast p) c.in-Ok.ensures.ok c.is_run.ensures.run)) (desk_had (map (λ x. x.0) c.self.inside.order.items) c.self.inside.history (length c.self.inside.wakers.items) c.self.inside.caller c.args.self.now c.self.view_is c.self.invariant.0 (g.H.Holder.holding c.args.holder.now) c.requires.has c.args.listener.0 c.requires.lent))
      (c.add_waker.ensures ∙ ap (λ (ws : List g.row.P-Waker.Denot). length ws + made_at_most c.in-Ok.reply) c.reserve.ensures.items),
  reaps_one c.self.inside.history c.accepted.new.self c.self.inside.closed c.self.inside.closed c.self.invariant.1 (Accepted c.args.listener) c.in-Ok.reply _ c.in-Ok.ensures.ok (accepted_row c.args.listener.0 (control_of c.self.inside.history))
      (accepted_made (answers_in c.silent.result) (control_of c.self.inside.history) c.args.listener) refl (omega arith) (λ some. omega arith),
)

pub invariant_of-self-in-Err : goal.invariant_of-self-in-Err
invariant_of-self-in-Err g c = (
  subst (λ (ws : List g.row.P-Waker.Denot). IsLent (map (λ (m : Mark × Unit {0}). m.0) c.self.inside.order.items) c.accepted.new.self (length ws)) (sym c.reserve.ensures.items)
      (subst (λ (p : Past (Given g.row.P-Name.Denot g.row.P-Out.Denot g.row.P-In.Denot) g.row.P-Name.Denot g.row.P-Story.Denot). IsLent (map (λ (m : Mark × Unit {0}). m.0) c.self.inside.order.items) p (length c.self.inside.wakers.items)) (sym c.in-Err.ensures.err) c.self.invariant.0),
  subst (λ (p : Past (Given g.row.P-Name.Denot g.row.P-Out.Denot g.row.P-In.Denot) g.row.P-Name.Denot g.row.P-Story.Denot). IsReaping (control_of p) c.self.inside.closed) (sym c.in-Err.ensures.err) c.self.invariant.1,
)

pub returns-in_err-reserve-clause-err : goal.returns-in_err-reserve-clause-err
returns-in_err-reserve-clause-err g c = so_on_err _ _ c.self.view_is

pub returns-in-Err-clause-err : goal.returns-in-Err-clause-err
returns-in-Err-clause-err g c = ap (λ (p : Past (Given g.row.P-Name.Denot g.row.P-Out.Denot g.row.P-In.Denot) g.row.P-Name.Denot g.row.P-Story.Denot). lent_to c.self.inside.caller (map (λ x. x.0) c.self.inside.order.items) p) c.in-Err.ensures.err ∙ c.self.view_is

pub returns-in-Ok-clause-reply : goal.returns-in-Ok-clause-reply
returns-in-Ok-clause-reply g c = c.in-Ok.ensures.reply ∙ ap (λ (l : Lent (Given g.row.P-Name.Denot g.row.P-Out.Denot g.row.P-In.Denot) g.row.P-Name.Denot g.row.P-Story.Denot). reply_of (control_of l.past) (Accepted c.args.listener)) c.self.view_is

pub returns-in-Ok-clause-ok : goal.returns-in-Ok-clause-ok
returns-in-Ok-clause-ok g c =
    subst (λ (l : Lent (Given g.row.P-Name.Denot g.row.P-Out.Denot g.row.P-In.Denot) g.row.P-Name.Denot g.row.P-Story.Denot). Asks (Accepted c.args.listener) c.in-Ok.reply l (lent_to c.self.inside.caller (map (λ x. x.0) c.and-self-inside.result.items) c.accepted.new.self)) c.self.view_is
    (asks_more _ _ c.self.inside.caller _ _ _ _ _ (ap (λ (xs : List (Mark × Unit {0})). map (λ x. x.0) xs) c.and-self-inside.ensures ∙ map-append (λ x. x.0) c.self.inside.order.items (_ ∷ [])) c.in-Ok.ensures.ok c.self.invariant.0.marked)

pub returns-in_err-reserve-clause-keeps : goal.returns-in_err-reserve-clause-keeps
returns-in_err-reserve-clause-keeps g c = (desk_same (map (λ x. x.0) c.self.inside.order.items) c.self.inside.history (length c.self.inside.wakers.items) c.self.inside.caller c.args.self.now c.self.view_is c.self.invariant.0 _ refl) (g.H.Holder.holding c.args.holder.now) c.requires.has

pub returns-in-Err-clause-keeps : goal.returns-in-Err-clause-keeps
returns-in-Err-clause-keeps g c = (desk_same (map (λ x. x.0) c.self.inside.order.items) c.self.inside.history (length c.self.inside.wakers.items) c.self.inside.caller c.args.self.now c.self.view_is c.self.invariant.0 _ c.in-Err.ensures.err) (g.H.Holder.holding c.args.holder.now) c.requires.has

pub returns-in-Ok-clause-keeps : goal.returns-in-Ok-clause-keeps
returns-in-Ok-clause-keeps g c =
    desk_accepted (map (λ x. x.0) c.self.inside.order.items) c.self.inside.history (length c.self.inside.wakers.items) c.self.inside.caller c.args.self.now c.self.view_is c.self.invariant.0 _ _ _ c.args.listener c.in-Ok.reply _ (ap (λ (xs : List (Mark × Unit {0})). map (λ x. x.0) xs) c.and-self-inside.ensures ∙ map-append (λ x. x.0) c.self.inside.order.items (_ ∷ [])) c.in-Ok.ensures.ok
    (lent_one _ _ c.self.inside.caller (length c.self.inside.wakers.items) c.self.inside.history c.accepted.new.self _ (ap (λ (xs : List (Mark × Unit {0})). map (λ x. x.0) xs) c.and-self-inside.ensures ∙ map-append (λ x. x.0) c.self.inside.order.items (_ ∷ []))
    c.in-Ok.ensures.ok (length c.add_waker.new.wakers.items) (Accepted c.args.listener) c.in-Ok.reply _ (accepted_row c.args.listener.0 (control_of c.self.inside.history)) refl
    (accepted_made (answers_in c.silent.result) (control_of c.self.inside.history) c.args.listener)
    (accepted_gets c.self.inside.history.workers (control_of c.self.inside.history) c.self.invariant.0.boxes c.args.listener.0 (listener_above (control_of c.self.inside.history) (kept_of (map (λ x. x.0) c.self.inside.order.items) c.self.inside.history (length c.self.inside.wakers.items) c.self.invariant.0) c.args.listener.0 (subst (λ (l : Lent (Given g.row.P-Name.Denot g.row.P-Out.Denot g.row.P-In.Denot) g.row.P-Name.Denot g.row.P-Story.Denot). MayAsk (control_of l.past) (Accepted c.args.listener)) (sym c.self.view_is) c.requires.may).0) (placed (λ (r : Row). has_ended r.stage) (control_of c.self.inside.history).rows.objects nobody c.args.listener.0 refl (subst (λ (l : Lent (Given g.row.P-Name.Denot g.row.P-Out.Denot g.row.P-In.Denot) g.row.P-Name.Denot g.row.P-Story.Denot). MayAsk (control_of l.past) (Accepted c.args.listener)) (sym c.self.view_is) c.requires.may).1.lives) (listener_no_socket (obj (control_of c.self.inside.history).rows c.args.listener.0).kind (subst (λ (l : Lent (Given g.row.P-Name.Denot g.row.P-Out.Denot g.row.P-In.Denot) g.row.P-Name.Denot g.row.P-Story.Denot). MayAsk (control_of l.past) (Accepted c.args.listener)) (sym c.self.view_is) c.requires.may).0))
    (marks_of (obj (control_of c.self.inside.history).rows c.args.listener.0) (accepted_row c.args.listener.0 (control_of c.self.inside.history)) refl (c.self.invariant.0.options c.args.listener.0 (listener_above (control_of c.self.inside.history) (kept_of (map (λ x. x.0) c.self.inside.order.items) c.self.inside.history (length c.self.inside.wakers.items) c.self.invariant.0) c.args.listener.0 (subst (λ (l : Lent (Given g.row.P-Name.Denot g.row.P-Out.Denot g.row.P-In.Denot) g.row.P-Name.Denot g.row.P-Story.Denot). MayAsk (control_of l.past) (Accepted c.args.listener)) (sym c.self.view_is) c.requires.may).0) (placed (λ (r : Row). has_ended r.stage) (control_of c.self.inside.history).rows.objects nobody c.args.listener.0 refl (subst (λ (l : Lent (Given g.row.P-Name.Denot g.row.P-Out.Denot g.row.P-In.Denot) g.row.P-Name.Denot g.row.P-Story.Denot). MayAsk (control_of l.past) (Accepted c.args.listener)) (sym c.self.view_is) c.requires.may).1.lives))) c.self.invariant.0 c.is_run.ensures.run c.is_run.ensures.named
    (accepted_by _ (length c.self.inside.wakers.items) c.self.inside.caller c.self.inside.history c.args.listener c.in-Ok.reply _ c.self.invariant.0 (last_fits c.self.inside.history.events _ (begun c.self.inside.history.workers) (subst (λ (p : Past (Given g.row.P-Name.Denot g.row.P-Out.Denot g.row.P-In.Denot) g.row.P-Name.Denot g.row.P-Story.Denot). IsPast p) c.in-Ok.ensures.ok c.is_run.ensures.run)) (desk_had (map (λ x. x.0) c.self.inside.order.items) c.self.inside.history (length c.self.inside.wakers.items) c.self.inside.caller c.args.self.now c.self.view_is c.self.invariant.0 (g.H.Holder.holding c.args.holder.now) c.requires.has c.args.listener.0 c.requires.lent))
    (c.add_waker.ensures ∙ ap (λ (ws : List g.row.P-Waker.Denot). length ws + made_at_most c.in-Ok.reply) c.reserve.ensures.items))
    c.silent.ensures (g.H.Holder.holding c.args.holder.now) c.requires.has
