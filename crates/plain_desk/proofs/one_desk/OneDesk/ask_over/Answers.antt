use Rattle.std.specs.Prelude.{List, [], ◌∷◌, length, map, refl}
use Rattle.std.proofs.Common.{ap, sym, ◌∙◌, subst}
use Rattle.std.proofs.lemmas.List.{map-append}
use Rattle.spec_control.specs.declared.request.Reply.TheVariants.{Done}
use Rattle.spec_control.specs.declared.request.Req.TheVariants.{AskOver}
use Rattle.spec_control.specs.Rows.{obj}
use Rattle.spec_control.specs.ControlRun.{MayAskOver}
use Rattle.desk.specs.declared.given.Given.{Given}
use Rattle.ctl_plane.specs.Past.{control_of}
use Rattle.plain_desk.specs.declared.mark.Mark.{Mark}
use Rattle.plain_desk.specs.Lent.{lent_to, Asks, Lent}
use Rattle.plain_desk.proofs.AsideLemmas.{desk_over}
use Rattle.plain_desk.proofs.HoldLemmas.{desk_free, desk_had}
use Rattle.plain_desk.proofs.LentLemmas.{asks_more, lent_more, socket_by}
use Rattle.plain_desk.proofs.ReapingLemmas.{reaps_over}
use Rattle.plain_desk.proofs.one_desk.OneDesk.ask_over.Goals as goal

pub ask_over-requires-clause-may : goal.ask_over-requires-clause-may
ask_over-requires-clause-may g c = subst (λ (l : Lent (Given g.row.P-Name.Denot g.row.P-Out.Denot g.row.P-In.Denot) g.row.P-Name.Denot g.row.P-Story.Denot). MayAskOver (obj (control_of l.past).rows c.args.object.0)) (sym c.self.view_is) c.requires.may

pub invariant_of-self : goal.invariant_of-self
invariant_of-self g c = (
  lent_more _ _ c.self.inside.caller _ _ _ _ (ap (λ (xs : List (Mark × Unit {0})). map (λ x. x.0) xs) c.and-self-inside.ensures ∙ map-append (λ x. x.0) c.self.inside.order.items (_ ∷ []))
      c.ask_over.ensures c.self.invariant.0 c.is_run.ensures.run c.is_run.ensures.named
      (socket_by _ _ _ c.args.object.0 c.self.inside.caller refl refl
      (desk_had (map (λ x. x.0) c.self.inside.order.items) c.self.inside.history (length c.self.inside.wakers.items) c.self.inside.caller c.args.self.now c.self.view_is c.self.invariant.0 (g.H.Holder.holding c.args.holder.now) c.requires.has c.args.object.0 c.requires.lent))
      refl,
  reaps_over (map (λ x. x.0) c.self.inside.order.items) c.self.inside.history c.ask_over.new.self (length c.self.inside.wakers.items) c.self.invariant.0 c.self.inside.closed c.self.invariant.1 c.is_run.ensures.run c.args.object _ c.ask_over.ensures
      (subst (λ (l : Lent (Given g.row.P-Name.Denot g.row.P-Out.Denot g.row.P-In.Denot) g.row.P-Name.Denot g.row.P-Story.Denot). MayAskOver (obj (control_of l.past).rows c.args.object.0)) (sym c.self.view_is) c.requires.may),
)

pub returns-clause-ok : goal.returns-clause-ok
returns-clause-ok g c =
    subst (λ (l : Lent (Given g.row.P-Name.Denot g.row.P-Out.Denot g.row.P-In.Denot) g.row.P-Name.Denot g.row.P-Story.Denot). Asks (AskOver c.args.object) Done l (lent_to c.self.inside.caller (map (λ x. x.0) c.and-self-inside.result.items) c.ask_over.new.self)) c.self.view_is
    (asks_more _ _ c.self.inside.caller _ _ _ _ _ (ap (λ (xs : List (Mark × Unit {0})). map (λ x. x.0) xs) c.and-self-inside.ensures ∙ map-append (λ x. x.0) c.self.inside.order.items (_ ∷ [])) c.ask_over.ensures c.self.invariant.0.marked)

pub returns-clause-keeps : goal.returns-clause-keeps
returns-clause-keeps g c =
    desk_over (map (λ x. x.0) c.self.inside.order.items) c.self.inside.history (length c.self.inside.wakers.items) c.self.inside.caller c.args.self.now c.self.view_is c.self.invariant.0 _ (length c.self.inside.wakers.items) _ c.args.object _ (ap (λ (xs : List (Mark × Unit {0})). map (λ x. x.0) xs) c.and-self-inside.ensures ∙ map-append (λ x. x.0) c.self.inside.order.items (_ ∷ [])) c.ask_over.ensures
    (lent_more _ _ c.self.inside.caller _ _ _ _ (ap (λ (xs : List (Mark × Unit {0})). map (λ x. x.0) xs) c.and-self-inside.ensures ∙ map-append (λ x. x.0) c.self.inside.order.items (_ ∷ []))
    c.ask_over.ensures c.self.invariant.0 c.is_run.ensures.run c.is_run.ensures.named
    (socket_by _ _ _ c.args.object.0 c.self.inside.caller refl refl
    (desk_had (map (λ x. x.0) c.self.inside.order.items) c.self.inside.history (length c.self.inside.wakers.items) c.self.inside.caller c.args.self.now c.self.view_is c.self.invariant.0 (g.H.Holder.holding c.args.holder.now) c.requires.has c.args.object.0 c.requires.lent))
    refl)
    c.silent.ensures (desk_free (map (λ x. x.0) c.self.inside.order.items) c.self.inside.history (length c.self.inside.wakers.items) c.self.inside.caller c.args.self.now c.self.view_is c.self.invariant.0 (g.H.Holder.holding c.args.holder.now) c.requires.has c.args.object.0 c.requires.lent) (g.H.Holder.holding c.args.holder.now) c.requires.has
