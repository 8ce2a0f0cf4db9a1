use Rattle.std.specs.Prelude.{List, [], ◌∷◌, length, map, refl}
use Rattle.std.proofs.Common.{arith, sym, ap, ◌∙◌, subst}
use Rattle.std.proofs.lemmas.List.{map-append}
use Rattle.spec_control.specs.declared.request.Req.TheVariants.{Shaken}
use Rattle.spec_control.specs.declared.request.Reply.TheVariants.{Done}
use Rattle.spec_control.specs.Stage.{has_ended}
use Rattle.spec_control.specs.Row.{Row, nobody}
use Rattle.spec_control.specs.Rows.{obj}
use Rattle.spec_control.specs.ControlRun.{MayShake}
use Rattle.control_laws.proofs.ListLemmas.{placed}
use Rattle.control_laws.proofs.StepLemmas.{some_object}
use Rattle.ctl_plane.specs.Past.{Past, control_of}
use Rattle.desk.specs.declared.given.Given.{Given}
use Rattle.desk.specs.Making.{MakesSo}
use Rattle.plain_desk.specs.declared.mark.Mark.{Mark}
use Rattle.plain_desk.specs.Lent.{lent_to, Asks, IsLent, Lent}
use Rattle.plain_desk.specs.Reaping.{IsReaping}
use Rattle.plain_desk.proofs.BoxLemmas.{session_above, session_no_socket}
use Rattle.plain_desk.proofs.DeliverLemmas.{kind_none}
use Rattle.plain_desk.proofs.HoldLemmas.{desk_had, desk_has, desk_keeps, desk_still, leaves_same}
use Rattle.plain_desk.proofs.LentLemmas.{asks_more, kept_of, lent_more, socket_by}
use Rattle.plain_desk.proofs.ReapingLemmas.{reaps_asked}
use Rattle.plain_desk.proofs.one_desk.OneDesk.shaken.Goals as goal

pub place_of_owner-socket-requires : goal.place_of_owner-socket-requires
place_of_owner-socket-requires g c =
    let enough = c.self.invariant.0.wakers in
    let some = some_object (control_of c.self.inside.history).rows (kept_of (map (λ x. x.0) c.self.inside.order.items) c.self.inside.history (length c.self.inside.wakers.items) c.self.invariant.0).reached in
    let is = c.self.inside.wakers.ok.0 in
    let many = c.len.ensures in
    record { some = omega (arith, enough, some, is, many) }

pub shaken-requires-clause-may : goal.shaken-requires-clause-may
shaken-requires-clause-may g c = (subst (λ (l : Lent (Given g.row.P-Name.Denot g.row.P-Out.Denot g.row.P-In.Denot) g.row.P-Name.Denot g.row.P-Story.Denot). MayShake (control_of l.past) c.args.session.0) (sym c.self.view_is) c.requires.may)

pub shaken-requires-clause-kind : goal.shaken-requires-clause-kind
shaken-requires-clause-kind g c = kind_none (map (λ x. x.0) c.self.inside.order.items) c.self.inside.history (length c.self.inside.wakers.items) c.self.inside.caller c.args.self.now c.self.view_is c.self.invariant.0 (g.H.Holder.holding c.args.holder.now) c.requires.has c.args.session.0 c.requires.lent (session_no_socket (obj (control_of c.self.inside.history).rows c.args.session.0).kind (subst (λ (l : Lent (Given g.row.P-Name.Denot g.row.P-Out.Denot g.row.P-In.Denot) g.row.P-Name.Denot g.row.P-Story.Denot). MayShake (control_of l.past) c.args.session.0) (sym c.self.view_is) c.requires.may).session)

pub shaken-requires-clause-marked : goal.shaken-requires-clause-marked
shaken-requires-clause-marked g c = c.self.invariant.0.options c.args.session.0 (session_above (control_of c.self.inside.history) (kept_of (map (λ x. x.0) c.self.inside.order.items) c.self.inside.history (length c.self.inside.wakers.items) c.self.invariant.0) c.args.session.0 (subst (λ (l : Lent (Given g.row.P-Name.Denot g.row.P-Out.Denot g.row.P-In.Denot) g.row.P-Name.Denot g.row.P-Story.Denot). MayShake (control_of l.past) c.args.session.0) (sym c.self.view_is) c.requires.may).session) (placed (λ (r : Row). has_ended r.stage) (control_of c.self.inside.history).rows.objects nobody c.args.session.0 refl (subst (λ (l : Lent (Given g.row.P-Name.Denot g.row.P-Out.Denot g.row.P-In.Denot) g.row.P-Name.Denot g.row.P-Story.Denot). MayShake (control_of l.past) c.args.session.0) (sym c.self.view_is) c.requires.may).taken_in.lives)

pub shaken-requires-clause-has : goal.shaken-requires-clause-has
shaken-requires-clause-has g c = desk_has (map (λ x. x.0) c.self.inside.order.items) c.self.inside.history (length c.self.inside.wakers.items) c.self.inside.caller c.args.self.now c.self.view_is c.self.invariant.0 (g.H.Holder.holding c.args.holder.now) c.requires.has

pub shaken-requires-clause-makes : goal.shaken-requires-clause-makes
shaken-requires-clause-makes g c =
    subst (λ (l : Lent (Given g.row.P-Name.Denot g.row.P-Out.Denot g.row.P-In.Denot) g.row.P-Name.Denot g.row.P-Story.Denot). MakesSo (control_of l.past) (Shaken c.args.session c.args.peer) g.H.Holder.may_make) (sym c.self.view_is) c.requires.makes

pub invariant_of-self : goal.invariant_of-self
invariant_of-self g c = (
  lent_more _ _ c.self.inside.caller _ _ _ _ (ap (λ (xs : List (Mark × Unit {0})). map (λ x. x.0) xs) c.and-self-inside.ensures ∙ map-append (λ x. x.0) c.self.inside.order.items (_ ∷ []))
      c.in-Ok.ensures.ok.step c.self.invariant.0 c.is_run.ensures.run c.is_run.ensures.named
      (socket_by _ _ _ c.args.session.0 c.self.inside.caller refl refl (desk_had (map (λ x. x.0) c.self.inside.order.items) c.self.inside.history (length c.self.inside.wakers.items) c.self.inside.caller c.args.self.now c.self.view_is c.self.invariant.0 (g.H.Holder.holding c.args.holder.now) c.requires.has c.args.session.0 c.requires.lent)) refl,
  reaps_asked (map (λ x. x.0) c.self.inside.order.items) c.self.inside.history c.shaken.new.self (length c.self.inside.wakers.items) c.self.invariant.0 c.self.inside.closed c.self.invariant.1 c.is_run.ensures.run (Shaken c.args.session c.args.peer) Done _ c.in-Ok.ensures.ok.step refl (λ i. refl) refl,
)

pub invariant_of-self-in-Err : goal.invariant_of-self-in-Err
invariant_of-self-in-Err g c =
    subst (λ (p : Past (Given g.row.P-Name.Denot g.row.P-Out.Denot g.row.P-In.Denot) g.row.P-Name.Denot g.row.P-Story.Denot). IsLent (map (λ x. x.0) c.self.inside.order.items) p (length c.self.inside.wakers.items) × IsReaping (control_of p) c.self.inside.closed) (sym c.in-Err.ensures.err.0) c.self.invariant

pub returns-in-Err-clause-err : goal.returns-in-Err-clause-err
returns-in-Err-clause-err g c = ap (λ (p : Past (Given g.row.P-Name.Denot g.row.P-Out.Denot g.row.P-In.Denot) g.row.P-Name.Denot g.row.P-Story.Denot). lent_to c.self.inside.caller (map (λ x. x.0) c.self.inside.order.items) p) c.in-Err.ensures.err.0 ∙ c.self.view_is

pub returns-in-Ok-clause-ok : goal.returns-in-Ok-clause-ok
returns-in-Ok-clause-ok g c =
    subst (λ (l : Lent (Given g.row.P-Name.Denot g.row.P-Out.Denot g.row.P-In.Denot) g.row.P-Name.Denot g.row.P-Story.Denot). Asks (Shaken c.args.session c.args.peer) Done l (lent_to c.self.inside.caller (map (λ x. x.0) c.and-self-inside.result.items) c.shaken.new.self)) c.self.view_is
    (asks_more _ _ c.self.inside.caller _ _ _ _ _ (ap (λ (xs : List (Mark × Unit {0})). map (λ x. x.0) xs) c.and-self-inside.ensures ∙ map-append (λ x. x.0) c.self.inside.order.items (_ ∷ [])) c.in-Ok.ensures.ok.step c.self.invariant.0.marked)

pub returns-in-Err-clause-keeps : goal.returns-in-Err-clause-keeps
returns-in-Err-clause-keeps g c =
    desk_still (map (λ x. x.0) c.self.inside.order.items) c.self.inside.history (length c.self.inside.wakers.items) c.self.inside.caller c.args.self.now c.self.view_is c.self.invariant.0 (g.H.Holder.holding c.args.holder.now) c.requires.has _ _ c.in-Err.ensures.err.0 c.in-Err.ensures.keeps c.in-Err.ensures.turned c.in-Err.ensures.joins

pub returns-in-Ok-clause-keeps : goal.returns-in-Ok-clause-keeps
returns-in-Ok-clause-keeps g c =
    desk_keeps (map (λ x. x.0) c.self.inside.order.items) c.self.inside.history (length c.self.inside.wakers.items) c.self.inside.caller c.args.self.now c.self.view_is c.self.invariant.0 (g.H.Holder.holding c.args.holder.now) c.requires.has _ _ _ _ _ (ap (λ (xs : List (Mark × Unit {0})). map (λ x. x.0) xs) c.and-self-inside.ensures ∙ map-append (λ x. x.0) c.self.inside.order.items (_ ∷ []))
    (ap (λ (p : Past (Given g.row.P-Name.Denot g.row.P-Out.Denot g.row.P-In.Denot) g.row.P-Name.Denot g.row.P-Story.Denot). p.workers) c.in-Ok.ensures.ok.step)
    (ap (λ (p : Past (Given g.row.P-Name.Denot g.row.P-Out.Denot g.row.P-In.Denot) g.row.P-Name.Denot g.row.P-Story.Denot). p.events) c.in-Ok.ensures.ok.step)
    (lent_more _ _ c.self.inside.caller _ _ _ _ (ap (λ (xs : List (Mark × Unit {0})). map (λ x. x.0) xs) c.and-self-inside.ensures ∙ map-append (λ x. x.0) c.self.inside.order.items (_ ∷ []))
    c.in-Ok.ensures.ok.step c.self.invariant.0 c.is_run.ensures.run c.is_run.ensures.named
    (socket_by _ _ _ c.args.session.0 c.self.inside.caller refl refl (desk_had (map (λ x. x.0) c.self.inside.order.items) c.self.inside.history (length c.self.inside.wakers.items) c.self.inside.caller c.args.self.now c.self.view_is c.self.invariant.0 (g.H.Holder.holding c.args.holder.now) c.requires.has c.args.session.0 c.requires.lent)) refl)
    (leaves_same _ _ _ _ c.in-Ok.ensures.same (λ i x. refl) (λ i. refl))
    c.in-Ok.ensures.keeps c.in-Ok.ensures.turned c.in-Ok.ensures.joins
