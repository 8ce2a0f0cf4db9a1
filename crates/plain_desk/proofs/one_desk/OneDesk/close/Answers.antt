use Rattle.std.specs.Prelude.{List, [], ◌∷◌, length, map, refl}
use Rattle.std.proofs.Common.{sym, ap, ◌∙◌, subst}
use Rattle.std.proofs.lemmas.List.{map-append}
use Rattle.zq_base.specs.declared.ids.ObjId.{ObjId}
use Rattle.desk.specs.declared.given.Given.{Given}
use Rattle.ctl_state.specs.Listed.{Listed}
use Rattle.ctl_plane.specs.Past.{Past, control_of}
use Rattle.plain_desk.specs.declared.mark.Mark.{Mark}
use Rattle.plain_desk.specs.Lent.{lent_to, ClosesOnce, Lent}
use Rattle.plain_desk.specs.Reaping.{IsReaping}
use Rattle.plain_desk.proofs.CloseLemmas.{closes_more, leaves_closed, lent_closed}
use Rattle.plain_desk.proofs.HoldLemmas.{desk_has, desk_keeps}
use Rattle.plain_desk.proofs.LentLemmas.{lent_open, socket_by}
use Rattle.plain_desk.proofs.ReapingLemmas.{reaps_closed, reaps_room}
use Rattle.plain_desk.proofs.one_desk.OneDesk.close.Goals as goal

pub close-requires-clause-open : goal.close-requires-clause-open
close-requires-clause-open g c = (lent_open (map (λ x. x.0) c.self.inside.order.items) c.self.inside.history (length c.self.inside.wakers.items) c.self.inside.caller c.args.socket.0 c.args.self.now c.self.view_is c.self.invariant.0 c.requires.open).open_now

pub close-requires-clause-has : goal.close-requires-clause-has
close-requires-clause-has g c = desk_has (map (λ x. x.0) c.self.inside.order.items) c.self.inside.history (length c.self.inside.wakers.items) c.self.inside.caller c.args.self.now c.self.view_is c.self.invariant.0 (g.H.Holder.holding c.args.holder.now) c.requires.has

pub invariant_of-self : goal.invariant_of-self
invariant_of-self g c = (
  lent_closed _ _ c.self.inside.caller _ _ _ _ _
      (ap (λ (xs : List (Mark × Unit {0})). map (λ x. x.0) xs) c.and-self-inside.ensures ∙ map-append (λ x. x.0) c.self.inside.order.items (_ ∷ []))
      c.close.ensures.closes.step c.self.invariant.0 c.is_run.ensures.run c.is_run.ensures.named
      (socket_by _ _ _ c.args.socket.0 c.self.inside.caller refl refl (lent_open (map (λ x. x.0) c.self.inside.order.items) c.self.inside.history (length c.self.inside.wakers.items) c.self.inside.caller c.args.socket.0 c.args.self.now c.self.view_is c.self.invariant.0 c.requires.open).has) refl,
  subst (λ (l : Listed ObjId). IsReaping (control_of c.close.new.self) l) (sym c.push.ensures)
      (reaps_closed (map (λ x. x.0) c.self.inside.order.items) c.self.inside.history c.close.new.self (length c.self.inside.wakers.items) c.self.invariant.0 c.self.inside.closed c.self.invariant.1 c.is_run.ensures.run c.args.socket _
      (ap (λ (p : Past (Given g.row.P-Name.Denot g.row.P-Out.Denot g.row.P-In.Denot) g.row.P-Name.Denot g.row.P-Story.Denot). p.workers) c.close.ensures.closes.step)
      (ap (λ (p : Past (Given g.row.P-Name.Denot g.row.P-Out.Denot g.row.P-In.Denot) g.row.P-Name.Denot g.row.P-Story.Denot). p.events) c.close.ensures.closes.step)
      (lent_open (map (λ x. x.0) c.self.inside.order.items) c.self.inside.history (length c.self.inside.wakers.items) c.self.inside.caller c.args.socket.0 c.args.self.now c.self.view_is c.self.invariant.0 c.requires.open).open_now),
)

pub push-requires : goal.push-requires
push-requires g c = record { room = reaps_room (control_of c.self.inside.history) c.self.inside.closed c.args.socket.0 c.self.invariant.1 (lent_open (map (λ x. x.0) c.self.inside.order.items) c.self.inside.history (length c.self.inside.wakers.items) c.self.inside.caller c.args.socket.0 c.args.self.now c.self.view_is c.self.invariant.0 c.requires.open).open_now }

pub returns-clause-closes : goal.returns-clause-closes
returns-clause-closes g c =
    subst (λ (l : Lent (Given g.row.P-Name.Denot g.row.P-Out.Denot g.row.P-In.Denot) g.row.P-Name.Denot g.row.P-Story.Denot). ClosesOnce g.P.Pipes.known (g.H.Holder.pipes c.close.new.holder) (g.H.Holder.holding c.args.holder.now) c.args.socket l (lent_to c.self.inside.caller (map (λ x. x.0) c.and-self-inside.result.items) c.close.new.self)) c.self.view_is
    (closes_more g.P.Pipes.known _ _ c.self.inside.caller _ _ _ _ _
    (ap (λ (xs : List (Mark × Unit {0})). map (λ x. x.0) xs) c.and-self-inside.ensures ∙ map-append (λ x. x.0) c.self.inside.order.items (_ ∷ []))
    c.close.ensures.closes c.self.invariant.0.marked)

pub returns-clause-keeps : goal.returns-clause-keeps
returns-clause-keeps g c =
    let now = lent_closed _ _ c.self.inside.caller _ _ _ _ _
    (ap (λ (xs : List (Mark × Unit {0})). map (λ x. x.0) xs) c.and-self-inside.ensures ∙ map-append (λ x. x.0) c.self.inside.order.items (_ ∷ []))
    c.close.ensures.closes.step c.self.invariant.0 c.is_run.ensures.run c.is_run.ensures.named
    (socket_by _ _ _ c.args.socket.0 c.self.inside.caller refl refl (lent_open (map (λ x. x.0) c.self.inside.order.items) c.self.inside.history (length c.self.inside.wakers.items) c.self.inside.caller c.args.socket.0 c.args.self.now c.self.view_is c.self.invariant.0 c.requires.open).has) refl in
    desk_keeps (map (λ x. x.0) c.self.inside.order.items) c.self.inside.history (length c.self.inside.wakers.items) c.self.inside.caller c.args.self.now c.self.view_is c.self.invariant.0 (g.H.Holder.holding c.args.holder.now) c.requires.has _ _ _ _ _
    (ap (λ (xs : List (Mark × Unit {0})). map (λ x. x.0) xs) c.and-self-inside.ensures ∙ map-append (λ x. x.0) c.self.inside.order.items (_ ∷ []))
    (ap (λ (p : Past (Given g.row.P-Name.Denot g.row.P-Out.Denot g.row.P-In.Denot) g.row.P-Name.Denot g.row.P-Story.Denot). p.workers) c.close.ensures.closes.step)
    (ap (λ (p : Past (Given g.row.P-Name.Denot g.row.P-Out.Denot g.row.P-In.Denot) g.row.P-Name.Denot g.row.P-Story.Denot). p.events) c.close.ensures.closes.step)
    now
    (leaves_closed _ c.args.socket _ _ _ c.close.ensures.gives)
    c.close.ensures.keeps c.close.ensures.turned c.close.ensures.joins
