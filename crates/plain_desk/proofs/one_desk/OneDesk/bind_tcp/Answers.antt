use Rattle.std.specs.Prelude.{◌+◌, List, [], ◌∷◌, length, map, refl}
use Rattle.std.proofs.Common.{arith, sym, ap, ◌∙◌, subst}
use Rattle.std.proofs.lemmas.List.{map-append}
use Rattle.zq_base.specs.declared.endpoint.Endpoint.TheVariants.{Tcp}
use Rattle.spec_control.specs.declared.request.Req.TheVariants.{Bind}
use Rattle.spec_control.specs.After.{answers_in, listener_row}
use Rattle.spec_control.specs.Reply.{reply_of}
use Rattle.spec_control.specs.Rows.{obj}
use Rattle.control_laws.proofs.SoundLemmas.{socket_there}
use Rattle.ctl_state.proofs.KeptLemmas.{so_on_err}
use Rattle.ctl_plane.specs.Past.{Past, control_of}
use Rattle.desk.specs.declared.given.Given.{Given}
use Rattle.plain_desk.specs.declared.mark.Mark.{Mark}
use Rattle.plain_desk.specs.Lent.{lent_to, made_at_most, Asks, IsLent, Lent}
use Rattle.plain_desk.specs.Reaping.{IsReaping}
use Rattle.plain_desk.proofs.AsideLemmas.{desk_listened, desk_same}
use Rattle.plain_desk.proofs.BoxLemmas.{has_workers, listener_gets, socket_above}
use Rattle.plain_desk.proofs.LentLemmas.{asks_more, kept_of, lent_one, lent_open, socket_by}
use Rattle.plain_desk.proofs.MakeLemmas.{listener_made, marks_of}
use Rattle.plain_desk.proofs.ReapingLemmas.{reaps_one}
use Rattle.plain_desk.proofs.one_desk.OneDesk.bind_tcp.Goals as goal

pub bind_tcp-requires-clause-open : goal.bind_tcp-requires-clause-open
bind_tcp-requires-clause-open g c = (lent_open (map (λ x. x.0) c.self.inside.order.items) c.self.inside.history (length c.self.inside.wakers.items) c.self.inside.caller c.args.socket.0 c.args.self.now c.self.view_is c.self.invariant.0 c.requires.open).open_now

pub bind_tcp-requires-clause-workers : goal.bind_tcp-requires-clause-workers
bind_tcp-requires-clause-workers g c = has_workers c.self.inside.history.workers (control_of c.self.inside.history) (kept_of (map (λ x. x.0) c.self.inside.order.items) c.self.inside.history (length c.self.inside.wakers.items) c.self.invariant.0) c.self.invariant.0.boxes

pub invariant_of-self : goal.invariant_of-self
invariant_of-self g c = (subst (λ (ws : List g.row.P-Waker.Denot). IsLent (map (λ (m : Mark × Unit {0}). m.0) c.self.inside.order.items) c.self.inside.history (length ws)) (sym c.reserve.ensures.items) c.self.invariant.0, c.self.invariant.1)

pub invariant_of-self-in-Ok : goal.invariant_of-self-in-Ok
invariant_of-self-in-Ok g c = (
  lent_one _ _ c.self.inside.caller (length c.self.inside.wakers.items) c.self.inside.history c.bind_tcp.new.self _ (ap (λ (xs : List (Mark × Unit {0})). map (λ x. x.0) xs) c.and-self-inside.ensures ∙ map-append (λ x. x.0) c.self.inside.order.items (_ ∷ []))
      c.in-Ok.ensures.ok (length c.add_waker.new.wakers.items) (Bind c.args.socket (Tcp c.args.at)) c.in-Ok.reply _ (listener_row c.args.socket.0 (control_of c.self.inside.history)) refl
      (listener_made (answers_in c.silent.result) (control_of c.self.inside.history) c.args.socket c.args.at)
      (listener_gets c.self.inside.history.workers (control_of c.self.inside.history) c.self.invariant.0.boxes c.args.socket.0)
      (marks_of (obj (control_of c.self.inside.history).rows c.args.socket.0) (listener_row c.args.socket.0 (control_of c.self.inside.history)) refl
      (c.self.invariant.0.options c.args.socket.0 (socket_above c.self.inside.history.workers (control_of c.self.inside.history) c.self.invariant.0.boxes c.args.socket.0 (lent_open (map (λ x. x.0) c.self.inside.order.items) c.self.inside.history (length c.self.inside.wakers.items) c.self.inside.caller c.args.socket.0 c.args.self.now c.self.view_is c.self.invariant.0 c.requires.open).open_now.socket) (socket_there (control_of c.self.inside.history).rows c.args.socket.0 (lent_open (map (λ x. x.0) c.self.inside.order.items) c.self.inside.history (length c.self.inside.wakers.items) c.self.inside.caller c.args.socket.0 c.args.self.now c.self.view_is c.self.invariant.0 c.requires.open).open_now.socket))) c.self.invariant.0 c.is_run.ensures.run c.is_run.ensures.named
      (socket_by _ _ _ c.args.socket.0 c.self.inside.caller refl refl (lent_open (map (λ x. x.0) c.self.inside.order.items) c.self.inside.history (length c.self.inside.wakers.items) c.self.inside.caller c.args.socket.0 c.args.self.now c.self.view_is c.self.invariant.0 c.requires.open).has)
      (c.add_waker.ensures ∙ ap (λ (ws : List g.row.P-Waker.Denot). length ws + made_at_most c.in-Ok.reply) c.reserve.ensures.items),
  reaps_one c.self.inside.history c.bind_tcp.new.self c.self.inside.closed c.self.inside.closed c.self.invariant.1 (Bind c.args.socket (Tcp c.args.at)) c.in-Ok.reply _ c.in-Ok.ensures.ok (listener_row c.args.socket.0 (control_of c.self.inside.history))
      (listener_made (answers_in c.silent.result) (control_of c.self.inside.history) c.args.socket c.args.at) refl (omega arith) (λ some. omega arith),
)

pub invariant_of-self-in-Err : goal.invariant_of-self-in-Err
invariant_of-self-in-Err g c = (
  subst (λ (ws : List g.row.P-Waker.Denot). IsLent (map (λ (m : Mark × Unit {0}). m.0) c.self.inside.order.items) c.bind_tcp.new.self (length ws)) (sym c.reserve.ensures.items)
      (subst (λ (p : Past (Given g.row.P-Name.Denot g.row.P-Out.Denot g.row.P-In.Denot) g.row.P-Name.Denot g.row.P-Story.Denot). IsLent (map (λ (m : Mark × Unit {0}). m.0) c.self.inside.order.items) p (length c.self.inside.wakers.items)) (sym c.in-Err.ensures.err) c.self.invariant.0),
  subst (λ (p : Past (Given g.row.P-Name.Denot g.row.P-Out.Denot g.row.P-In.Denot) g.row.P-Name.Denot g.row.P-Story.Denot). IsReaping (control_of p) c.self.inside.closed) (sym c.in-Err.ensures.err) c.self.invariant.1,
)

pub returns-in_err-reserve-clause-err : goal.returns-in_err-reserve-clause-err
returns-in_err-reserve-clause-err g c = so_on_err _ _ c.self.view_is

pub returns-in-Err-clause-err : goal.returns-in-Err-clause-err
returns-in-Err-clause-err g c = ap (λ (p : Past (Given g.row.P-Name.Denot g.row.P-Out.Denot g.row.P-In.Denot) g.row.P-Name.Denot g.row.P-Story.Denot). lent_to c.self.inside.caller (map (λ x. x.0) c.self.inside.order.items) p) c.in-Err.ensures.err ∙ c.self.view_is

pub returns-in-Ok-clause-reply : goal.returns-in-Ok-clause-reply
returns-in-Ok-clause-reply g c = c.in-Ok.ensures.reply ∙ ap (λ (l : Lent (Given g.row.P-Name.Denot g.row.P-Out.Denot g.row.P-In.Denot) g.row.P-Name.Denot g.row.P-Story.Denot). reply_of (control_of l.past) (Bind c.args.socket (Tcp c.args.at))) c.self.view_is

pub returns-in-Ok-clause-ok : goal.returns-in-Ok-clause-ok
returns-in-Ok-clause-ok g c =
    subst (λ (l : Lent (Given g.row.P-Name.Denot g.row.P-Out.Denot g.row.P-In.Denot) g.row.P-Name.Denot g.row.P-Story.Denot). Asks (Bind c.args.socket (Tcp c.args.at)) c.in-Ok.reply l (lent_to c.self.inside.caller (map (λ x. x.0) c.and-self-inside.result.items) c.bind_tcp.new.self)) c.self.view_is
    (asks_more _ _ c.self.inside.caller _ _ _ _ _ (ap (λ (xs : List (Mark × Unit {0})). map (λ x. x.0) xs) c.and-self-inside.ensures ∙ map-append (λ x. x.0) c.self.inside.order.items (_ ∷ [])) c.in-Ok.ensures.ok c.self.invariant.0.marked)

pub returns-in_err-reserve-clause-keeps : goal.returns-in_err-reserve-clause-keeps
returns-in_err-reserve-clause-keeps g c = desk_same (map (λ x. x.0) c.self.inside.order.items) c.self.inside.history (length c.self.inside.wakers.items) c.self.inside.caller c.args.self.now c.self.view_is c.self.invariant.0 _ refl

pub returns-in-Err-clause-keeps : goal.returns-in-Err-clause-keeps
returns-in-Err-clause-keeps g c = desk_same (map (λ x. x.0) c.self.inside.order.items) c.self.inside.history (length c.self.inside.wakers.items) c.self.inside.caller c.args.self.now c.self.view_is c.self.invariant.0 _ c.in-Err.ensures.err

pub returns-in-Ok-clause-keeps : goal.returns-in-Ok-clause-keeps
returns-in-Ok-clause-keeps g c =
    desk_listened (map (λ x. x.0) c.self.inside.order.items) c.self.inside.history (length c.self.inside.wakers.items) c.self.inside.caller c.args.self.now c.self.view_is c.self.invariant.0 _ _ _ c.args.socket c.args.at c.in-Ok.reply _ (ap (λ (xs : List (Mark × Unit {0})). map (λ x. x.0) xs) c.and-self-inside.ensures ∙ map-append (λ x. x.0) c.self.inside.order.items (_ ∷ [])) c.in-Ok.ensures.ok
    (lent_one _ _ c.self.inside.caller (length c.self.inside.wakers.items) c.self.inside.history c.bind_tcp.new.self _ (ap (λ (xs : List (Mark × Unit {0})). map (λ x. x.0) xs) c.and-self-inside.ensures ∙ map-append (λ x. x.0) c.self.inside.order.items (_ ∷ []))
    c.in-Ok.ensures.ok (length c.add_waker.new.wakers.items) (Bind c.args.socket (Tcp c.args.at)) c.in-Ok.reply _ (listener_row c.args.socket.0 (control_of c.self.inside.history)) refl
    (listener_made (answers_in c.silent.result) (control_of c.self.inside.history) c.args.socket c.args.at)
    (listener_gets c.self.inside.history.workers (control_of c.self.inside.history) c.self.invariant.0.boxes c.args.socket.0)
    (marks_of (obj (control_of c.self.inside.history).rows c.args.socket.0) (listener_row c.args.socket.0 (control_of c.self.inside.history)) refl
    (c.self.invariant.0.options c.args.socket.0 (socket_above c.self.inside.history.workers (control_of c.self.inside.history) c.self.invariant.0.boxes c.args.socket.0 (lent_open (map (λ x. x.0) c.self.inside.order.items) c.self.inside.history (length c.self.inside.wakers.items) c.self.inside.caller c.args.socket.0 c.args.self.now c.self.view_is c.self.invariant.0 c.requires.open).open_now.socket) (socket_there (control_of c.self.inside.history).rows c.args.socket.0 (lent_open (map (λ x. x.0) c.self.inside.order.items) c.self.inside.history (length c.self.inside.wakers.items) c.self.inside.caller c.args.socket.0 c.args.self.now c.self.view_is c.self.invariant.0 c.requires.open).open_now.socket))) c.self.invariant.0 c.is_run.ensures.run c.is_run.ensures.named
    (socket_by _ _ _ c.args.socket.0 c.self.inside.caller refl refl (lent_open (map (λ x. x.0) c.self.inside.order.items) c.self.inside.history (length c.self.inside.wakers.items) c.self.inside.caller c.args.socket.0 c.args.self.now c.self.view_is c.self.invariant.0 c.requires.open).has)
    (c.add_waker.ensures ∙ ap (λ (ws : List g.row.P-Waker.Denot). length ws + made_at_most c.in-Ok.reply) c.reserve.ensures.items))
    c.silent.ensures
