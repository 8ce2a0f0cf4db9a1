use Rattle.std.specs.Prelude.{ℕ, Some, List, [], ◌∷◌, length, map, refl}
use Rattle.std.proofs.Common.{ap, sym, ◌∙◌, subst}
use Rattle.std.proofs.lemmas.List.{map-append}
use Rattle.spec_control.specs.declared.request.Reply.TheVariants.{Done}
use Rattle.spec_control.specs.declared.request.Req.TheVariants.{AskEnd}
use Rattle.spec_control.specs.Control.{Control, owner_of}
use Rattle.spec_control.specs.ControlRun.{MayAskEnd}
use Rattle.desk.specs.declared.given.Given.{Given}
use Rattle.ctl_plane.specs.Past.{Past, control_of}
use Rattle.plain_desk.specs.declared.mark.Mark.{Mark}
use Rattle.plain_desk.specs.Lent.{lent_to, Asks, Lent}
use Rattle.plain_desk.proofs.HoldLemmas.{desk_had, desk_happens, desk_has, desk_owner}
use Rattle.plain_desk.proofs.MakeLemmas.{ends_none}
use Rattle.plain_desk.proofs.LentLemmas.{asks_more, control_is, lent_more, socket_by}
use Rattle.plain_desk.proofs.ReapingLemmas.{reaps_asked}
use Rattle.plain_desk.proofs.one_desk.OneDesk.ask_end.Goals as goal

pub ask_end-requires-clause-may : goal.ask_end-requires-clause-may
ask_end-requires-clause-may g c = subst (λ (l : Lent (Given g.row.P-Name.Denot g.row.P-Out.Denot g.row.P-In.Denot) g.row.P-Name.Denot g.row.P-Story.Denot). MayAskEnd (control_of l.past) c.args.end c.args.reason) (sym c.self.view_is) c.requires.may

pub ask_end-requires-clause-has : goal.ask_end-requires-clause-has
ask_end-requires-clause-has g c = desk_has (map (λ x. x.0) c.self.inside.order.items) c.self.inside.history (length c.self.inside.wakers.items) c.self.inside.caller c.args.self.now c.self.view_is c.self.invariant.0 (g.H.Holder.holding c.args.holder.now) c.requires.has

pub ask_end-requires-clause-lent : goal.ask_end-requires-clause-lent
ask_end-requires-clause-lent g c = ap (g.H.Holder.holding c.args.holder.now).holds (desk_owner (map (λ x. x.0) c.self.inside.order.items) c.self.inside.history (length c.self.inside.wakers.items) c.self.inside.caller c.args.self.now c.self.view_is c.self.invariant.0 (g.H.Holder.holding c.args.holder.now) c.requires.has c.args.end c.requires.mine.object c.requires.mine.has c.requires.mine.here) ∙ c.requires.mine.has

pub invariant_of-self : goal.invariant_of-self
invariant_of-self g c = (
  lent_more _ _ c.self.inside.caller _ _ _ _ (ap (λ (xs : List (Mark × Unit {0})). map (λ x. x.0) xs) c.and-self-inside.ensures ∙ map-append (λ x. x.0) c.self.inside.order.items (_ ∷ []))
      c.ask_end.ensures.notes.step c.self.invariant.0 c.is_run.ensures.run c.is_run.ensures.named
      (socket_by _ _ _ c.requires.mine.object c.self.inside.caller (ap (λ (n : ℕ). Some n) (ap (λ (x : Control). owner_of x c.args.end) (control_is (map (λ x. x.0) c.self.inside.order.items) c.self.inside.history (length c.self.inside.wakers.items) c.self.invariant.0) ∙ desk_owner (map (λ x. x.0) c.self.inside.order.items) c.self.inside.history (length c.self.inside.wakers.items) c.self.inside.caller c.args.self.now c.self.view_is c.self.invariant.0 (g.H.Holder.holding c.args.holder.now) c.requires.has c.args.end c.requires.mine.object c.requires.mine.has c.requires.mine.here)) refl
      (desk_had (map (λ x. x.0) c.self.inside.order.items) c.self.inside.history (length c.self.inside.wakers.items) c.self.inside.caller c.args.self.now c.self.view_is c.self.invariant.0 (g.H.Holder.holding c.args.holder.now) c.requires.has c.requires.mine.object c.requires.mine.has))
      (ends_none (control_of c.self.inside.history) c.args.end c.args.reason),
  reaps_asked (map (λ x. x.0) c.self.inside.order.items) c.self.inside.history c.ask_end.new.self (length c.self.inside.wakers.items) c.self.invariant.0 c.self.inside.closed c.self.invariant.1 c.is_run.ensures.run (AskEnd c.args.end c.args.reason) Done _ c.ask_end.ensures.notes.step (ends_none (control_of c.self.inside.history) c.args.end c.args.reason) (λ i. refl) refl,
)

pub returns-clause-ok : goal.returns-clause-ok
returns-clause-ok g c =
    subst (λ (l : Lent (Given g.row.P-Name.Denot g.row.P-Out.Denot g.row.P-In.Denot) g.row.P-Name.Denot g.row.P-Story.Denot). Asks (AskEnd c.args.end c.args.reason) Done l (lent_to c.self.inside.caller (map (λ x. x.0) c.and-self-inside.result.items) c.ask_end.new.self)) c.self.view_is
    (asks_more _ _ c.self.inside.caller _ _ _ _ _ (ap (λ (xs : List (Mark × Unit {0})). map (λ x. x.0) xs) c.and-self-inside.ensures ∙ map-append (λ x. x.0) c.self.inside.order.items (_ ∷ [])) c.ask_end.ensures.notes.step c.self.invariant.0.marked)

pub returns-clause-keeps : goal.returns-clause-keeps
returns-clause-keeps g c =
    desk_happens (map (λ x. x.0) c.self.inside.order.items) c.self.inside.history (length c.self.inside.wakers.items) c.self.inside.caller c.args.self.now c.self.view_is c.self.invariant.0 (g.H.Holder.holding c.args.holder.now) c.requires.has _ _ _ _ _ (ap (λ (xs : List (Mark × Unit {0})). map (λ x. x.0) xs) c.and-self-inside.ensures ∙ map-append (λ x. x.0) c.self.inside.order.items (_ ∷ []))
    (ap (λ (p : Past (Given g.row.P-Name.Denot g.row.P-Out.Denot g.row.P-In.Denot) g.row.P-Name.Denot g.row.P-Story.Denot). p.workers) c.ask_end.ensures.notes.step)
    (ap (λ (p : Past (Given g.row.P-Name.Denot g.row.P-Out.Denot g.row.P-In.Denot) g.row.P-Name.Denot g.row.P-Story.Denot). p.events) c.ask_end.ensures.notes.step)
    (lent_more _ _ c.self.inside.caller _ _ _ _ (ap (λ (xs : List (Mark × Unit {0})). map (λ x. x.0) xs) c.and-self-inside.ensures ∙ map-append (λ x. x.0) c.self.inside.order.items (_ ∷ []))
    c.ask_end.ensures.notes.step c.self.invariant.0 c.is_run.ensures.run c.is_run.ensures.named
    (socket_by _ _ _ c.requires.mine.object c.self.inside.caller (ap (λ (n : ℕ). Some n) (ap (λ (x : Control). owner_of x c.args.end) (control_is (map (λ x. x.0) c.self.inside.order.items) c.self.inside.history (length c.self.inside.wakers.items) c.self.invariant.0) ∙ desk_owner (map (λ x. x.0) c.self.inside.order.items) c.self.inside.history (length c.self.inside.wakers.items) c.self.inside.caller c.args.self.now c.self.view_is c.self.invariant.0 (g.H.Holder.holding c.args.holder.now) c.requires.has c.args.end c.requires.mine.object c.requires.mine.has c.requires.mine.here)) refl
    (desk_had (map (λ x. x.0) c.self.inside.order.items) c.self.inside.history (length c.self.inside.wakers.items) c.self.inside.caller c.args.self.now c.self.view_is c.self.invariant.0 (g.H.Holder.holding c.args.holder.now) c.requires.has c.requires.mine.object c.requires.mine.has))
    (ends_none (control_of c.self.inside.history) c.args.end c.args.reason))
    c.is_run.ensures.run (λ i x. refl) (λ i. refl)
    c.ask_end.ensures.keeps c.ask_end.ensures.turned c.ask_end.ensures.joins
