use Rattle.std.specs.Prelude.{List, [], ◌∷◌, length, map, refl}
use Rattle.std.proofs.Common.{ap, sym, ◌∙◌, subst}
use Rattle.std.proofs.lemmas.List.{map-append}
use Rattle.spec_control.specs.declared.request.Reply.TheVariants.{Done}
use Rattle.spec_control.specs.declared.request.Req.TheVariants.{OutputOver}
use Rattle.spec_control.specs.ControlRun.{MayBeOver}
use Rattle.desk.specs.declared.given.Given.{Given}
use Rattle.ctl_plane.specs.Past.{Past, control_of}
use Rattle.plain_desk.specs.declared.mark.Mark.{Mark}
use Rattle.plain_desk.specs.Lent.{lent_to, Asks, Lent}
use Rattle.plain_desk.proofs.HoldLemmas.{desk_had, desk_happens, desk_has}
use Rattle.plain_desk.proofs.LentLemmas.{asks_more, lent_more, socket_by}
use Rattle.plain_desk.proofs.ReapingLemmas.{reaps_asked}
use Rattle.plain_desk.proofs.one_desk.OneDesk.output_over.Goals as goal

pub output_over-requires-clause-may : goal.output_over-requires-clause-may
output_over-requires-clause-may g c = subst (λ (l : Lent (Given g.row.P-Name.Denot g.row.P-Out.Denot g.row.P-In.Denot) g.row.P-Name.Denot g.row.P-Story.Denot). MayBeOver (control_of l.past) c.args.session.0) (sym c.self.view_is) c.requires.may

pub output_over-requires-clause-has : goal.output_over-requires-clause-has
output_over-requires-clause-has g c = desk_has (map (λ x. x.0) c.self.inside.order.items) c.self.inside.history (length c.self.inside.wakers.items) c.self.inside.caller c.args.self.now c.self.view_is c.self.invariant.0 (g.H.Holder.holding c.args.holder.now) c.requires.has

pub invariant_of-self : goal.invariant_of-self
invariant_of-self g c = (
  lent_more _ _ c.self.inside.caller _ _ _ _ (ap (λ (xs : List (Mark × Unit {0})). map (λ x. x.0) xs) c.and-self-inside.ensures ∙ map-append (λ x. x.0) c.self.inside.order.items (_ ∷ []))
      c.output_over.ensures.notes.step c.self.invariant.0 c.is_run.ensures.run c.is_run.ensures.named
      (socket_by _ _ _ c.args.session.0 c.self.inside.caller refl refl
      (desk_had (map (λ x. x.0) c.self.inside.order.items) c.self.inside.history (length c.self.inside.wakers.items) c.self.inside.caller c.args.self.now c.self.view_is c.self.invariant.0 (g.H.Holder.holding c.args.holder.now) c.requires.has c.args.session.0 c.requires.lent))
      refl,
  reaps_asked (map (λ x. x.0) c.self.inside.order.items) c.self.inside.history c.output_over.new.self (length c.self.inside.wakers.items) c.self.invariant.0 c.self.inside.closed c.self.invariant.1 c.is_run.ensures.run (OutputOver c.args.session) Done _ c.output_over.ensures.notes.step refl (λ i. refl) refl,
)

pub returns-clause-ok : goal.returns-clause-ok
returns-clause-ok g c =
    subst (λ (l : Lent (Given g.row.P-Name.Denot g.row.P-Out.Denot g.row.P-In.Denot) g.row.P-Name.Denot g.row.P-Story.Denot). Asks (OutputOver c.args.session) Done l (lent_to c.self.inside.caller (map (λ x. x.0) c.and-self-inside.result.items) c.output_over.new.self)) c.self.view_is
    (asks_more _ _ c.self.inside.caller _ _ _ _ _ (ap (λ (xs : List (Mark × Unit {0})). map (λ x. x.0) xs) c.and-self-inside.ensures ∙ map-append (λ x. x.0) c.self.inside.order.items (_ ∷ [])) c.output_over.ensures.notes.step c.self.invariant.0.marked)

pub returns-clause-keeps : goal.returns-clause-keeps
returns-clause-keeps g c =
    desk_happens (map (λ x. x.0) c.self.inside.order.items) c.self.inside.history (length c.self.inside.wakers.items) c.self.inside.caller c.args.self.now c.self.view_is c.self.invariant.0 (g.H.Holder.holding c.args.holder.now) c.requires.has _ _ _ _ _ (ap (λ (xs : List (Mark × Unit {0})). map (λ x. x.0) xs) c.and-self-inside.ensures ∙ map-append (λ x. x.0) c.self.inside.order.items (_ ∷ []))
    (ap (λ (p : Past (Given g.row.P-Name.Denot g.row.P-Out.Denot g.row.P-In.Denot) g.row.P-Name.Denot g.row.P-Story.Denot). p.workers) c.output_over.ensures.notes.step)
    (ap (λ (p : Past (Given g.row.P-Name.Denot g.row.P-Out.Denot g.row.P-In.Denot) g.row.P-Name.Denot g.row.P-Story.Denot). p.events) c.output_over.ensures.notes.step)
    (lent_more _ _ c.self.inside.caller _ _ _ _ (ap (λ (xs : List (Mark × Unit {0})). map (λ x. x.0) xs) c.and-self-inside.ensures ∙ map-append (λ x. x.0) c.self.inside.order.items (_ ∷ []))
    c.output_over.ensures.notes.step c.self.invariant.0 c.is_run.ensures.run c.is_run.ensures.named
    (socket_by _ _ _ c.args.session.0 c.self.inside.caller refl refl
    (desk_had (map (λ x. x.0) c.self.inside.order.items) c.self.inside.history (length c.self.inside.wakers.items) c.self.inside.caller c.args.self.now c.self.view_is c.self.invariant.0 (g.H.Holder.holding c.args.holder.now) c.requires.has c.args.session.0 c.requires.lent))
    refl)
    c.is_run.ensures.run (λ i x. refl) (λ i. refl)
    c.output_over.ensures.keeps c.output_over.ensures.turned c.output_over.ensures.joins
