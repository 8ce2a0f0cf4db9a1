use Rattle.std.specs.Prelude.{◌+◌, ◌-◌, List, [], ◌∷◌, length, map, refl}
use Rattle.std.proofs.Common.{sym, ap, ◌∙◌, subst}
use Rattle.std.proofs.lemmas.List.{map-append}
use Rattle.zq_base.specs.declared.ids.ObjId.{ObjId}
use Rattle.spec_control.specs.declared.request.Req.TheVariants.{Socket as MakeSocket}
use Rattle.desk.specs.declared.given.Given.{Given}
use Rattle.ctl_state.specs.Listed.{Listed, without_room}
use Rattle.plain_desk.specs.declared.mark.Mark.{Mark}
use Rattle.plain_desk.specs.Lent.{lent_to, made_at_most, Asks, IsLent, Lent}
use Rattle.plain_desk.proofs.AsideLemmas.{desk_made, desk_same}
use Rattle.plain_desk.proofs.LentLemmas.{asks_more, lent_socket}
use Rattle.plain_desk.proofs.ReapingLemmas.{reaps_back, reaps_making, room_more}
use Rattle.spec_control.specs.Reply.{reply_of}
use Rattle.ctl_plane.specs.Past.{Past, control_of}
use Rattle.ctl_state.proofs.KeptLemmas.{so_on_err}
use Rattle.plain_desk.specs.Reaping.{IsReaping}
use Rattle.plain_desk.proofs.one_desk.OneDesk.make_socket.Goals as goal

pub keep_room-requires : goal.keep_room-requires
keep_room-requires g c = record { one = room_more c.self.inside.closed c.reserve-2.new.self c.in_ok-reserve-2.ensures.ok }

pub release-requires : goal.release-requires
release-requires g c = record { kept = room_more c.self.inside.closed c.reserve-2.new.self c.in_ok-reserve-2.ensures.ok }

pub invariant_of-self-in-Ok : goal.invariant_of-self-in-Ok
invariant_of-self-in-Ok g c = (
  lent_socket _ _ c.self.inside.caller (length c.self.inside.wakers.items) _ _ _ _ _ _ _
      (ap (λ (xs : List (Mark × Unit {0})). map (λ x. x.0) xs) c.and-self-inside.ensures ∙ map-append (λ x. x.0) c.self.inside.order.items (_ ∷ []))
      c.in-Ok.ensures.ok c.requires.options c.self.invariant.0 c.is_run.ensures.run c.is_run.ensures.named
      (c.add_waker.ensures ∙ ap (λ (ws : List g.row.P-Waker.Denot). length ws + made_at_most c.in-Ok.reply) c.reserve.ensures.items),
  reaps_making c.self.inside.history c.make_socket.new.self c.self.inside.closed c.keep_room.new.closed c.self.invariant.1 c.args.kind c.args.options c.in-Ok.reply _ c.in-Ok.ensures.ok
      (c.keep_room.ensures ∙ ap (λ (l : Listed ObjId). without_room (1 - made_at_most c.in-Ok.reply) l) c.in_ok-reserve-2.ensures.ok),
)

pub invariant_of-self-in-Err : goal.invariant_of-self-in-Err
invariant_of-self-in-Err g c =
    let x = reaps_back (map (λ x. x.0) c.self.inside.order.items) (length c.self.inside.wakers.items) c.self.inside.history c.make_socket.new.self c.self.inside.closed c.reserve-2.new.self c.release.new.self c.self.invariant.0 c.self.invariant.1 c.in-Err.ensures.err c.in_ok-reserve-2.ensures.ok c.release.ensures in (
      subst (λ (ws : List g.row.P-Waker.Denot). IsLent (map (λ (m : Mark × Unit {0}). m.0) c.self.inside.order.items) c.make_socket.new.self (length ws)) (sym c.reserve.ensures.items) x.0,
      x.1,
    )

pub returns-in_err-reserve-clause-keeps : goal.returns-in_err-reserve-clause-keeps
returns-in_err-reserve-clause-keeps g c =
    desk_same (map (λ x. x.0) c.self.inside.order.items) c.self.inside.history (length c.self.inside.wakers.items) c.self.inside.caller c.args.self.now c.self.view_is c.self.invariant.0 _ refl

pub returns-in_err-reserve-2-clause-keeps : goal.returns-in_err-reserve-2-clause-keeps
returns-in_err-reserve-2-clause-keeps g c =
    desk_same (map (λ x. x.0) c.self.inside.order.items) c.self.inside.history (length c.self.inside.wakers.items) c.self.inside.caller c.args.self.now c.self.view_is c.self.invariant.0 _ refl

pub returns-in-Err-clause-keeps : goal.returns-in-Err-clause-keeps
returns-in-Err-clause-keeps g c =
    desk_same (map (λ x. x.0) c.self.inside.order.items) c.self.inside.history (length c.self.inside.wakers.items) c.self.inside.caller c.args.self.now c.self.view_is c.self.invariant.0 _ c.in-Err.ensures.err

pub returns-in-Ok-clause-ok : goal.returns-in-Ok-clause-ok
returns-in-Ok-clause-ok g c =
    subst (λ (l : Lent (Given g.row.P-Name.Denot g.row.P-Out.Denot g.row.P-In.Denot) g.row.P-Name.Denot g.row.P-Story.Denot). Asks (MakeSocket c.args.kind c.args.options) c.in-Ok.reply l (lent_to c.self.inside.caller (map (λ x. x.0) c.and-self-inside.result.items) c.make_socket.new.self)) c.self.view_is
    (asks_more _ _ c.self.inside.caller _ _ _ _ _
    (ap (λ (xs : List (Mark × Unit {0})). map (λ x. x.0) xs) c.and-self-inside.ensures ∙ map-append (λ x. x.0) c.self.inside.order.items (_ ∷ []))
    c.in-Ok.ensures.ok c.self.invariant.0.marked)

pub returns-in-Ok-clause-keeps : goal.returns-in-Ok-clause-keeps
returns-in-Ok-clause-keeps g c =
    let marks = ap (λ (xs : List (Mark × Unit {0})). map (λ x. x.0) xs) c.and-self-inside.ensures ∙ map-append (λ x. x.0) c.self.inside.order.items (_ ∷ []) in
    desk_made (map (λ x. x.0) c.self.inside.order.items) c.self.inside.history (length c.self.inside.wakers.items) c.self.inside.caller c.args.self.now c.self.view_is c.self.invariant.0 _ _ _ c.args.kind c.args.options c.in-Ok.reply _ marks c.in-Ok.ensures.ok c.is_run.ensures.run
    (lent_socket _ _ c.self.inside.caller (length c.self.inside.wakers.items) _ _ _ _ _ _ _ marks c.in-Ok.ensures.ok c.requires.options c.self.invariant.0 c.is_run.ensures.run c.is_run.ensures.named
    (c.add_waker.ensures ∙ ap (λ (ws : List g.row.P-Waker.Denot). length ws + made_at_most c.in-Ok.reply) c.reserve.ensures.items))
    c.silent.ensures

pub invariant_of-self : goal.invariant_of-self
invariant_of-self g c = (subst (λ (ws : List g.row.P-Waker.Denot). IsLent (map (λ (m : Mark × Unit {0}). m.0) c.self.inside.order.items) c.self.inside.history (length ws)) (sym c.reserve.ensures.items) c.self.invariant.0, c.self.invariant.1)

pub invariant_of-self-in_err-reserve-2 : goal.invariant_of-self-in_err-reserve-2
invariant_of-self-in_err-reserve-2 g c = (
  subst (λ (ws : List g.row.P-Waker.Denot). IsLent (map (λ (m : Mark × Unit {0}). m.0) c.self.inside.order.items) c.self.inside.history (length ws)) (sym c.reserve.ensures.items) c.self.invariant.0,
  subst (λ (l : Listed ObjId). IsReaping (control_of c.self.inside.history) l) (sym c.in_err-reserve-2.ensures.err) c.self.invariant.1,
)

pub returns-in_err-reserve-clause-err : goal.returns-in_err-reserve-clause-err
returns-in_err-reserve-clause-err g c = so_on_err _ _ c.self.view_is

pub returns-in_err-reserve-2-clause-err : goal.returns-in_err-reserve-2-clause-err
returns-in_err-reserve-2-clause-err g c = so_on_err _ _ c.self.view_is

pub returns-in-Err-clause-err : goal.returns-in-Err-clause-err
returns-in-Err-clause-err g c = ap (λ (p : Past (Given g.row.P-Name.Denot g.row.P-Out.Denot g.row.P-In.Denot) g.row.P-Name.Denot g.row.P-Story.Denot). lent_to c.self.inside.caller (map (λ x. x.0) c.self.inside.order.items) p) c.in-Err.ensures.err ∙ c.self.view_is

pub returns-in-Ok-clause-reply : goal.returns-in-Ok-clause-reply
returns-in-Ok-clause-reply g c = c.in-Ok.ensures.reply ∙ ap (λ (l : Lent (Given g.row.P-Name.Denot g.row.P-Out.Denot g.row.P-In.Denot) g.row.P-Name.Denot g.row.P-Story.Denot). reply_of (control_of l.past) (MakeSocket c.args.kind c.args.options)) c.self.view_is
