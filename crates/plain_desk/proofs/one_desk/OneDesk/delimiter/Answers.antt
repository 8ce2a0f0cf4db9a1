use Rattle.std.specs.Prelude.{ℕ, Some, List, [], ◌∷◌, length, map, refl}
use Rattle.std.proofs.Common.{ap, ◌∙◌}
use Rattle.std.proofs.lemmas.List.{map-append}
use Rattle.spec_control.specs.Place.{looks}
use Rattle.spec_control.specs.Rows.{obj}
use Rattle.spec_control.specs.Control.{Control, owner_of}
use Rattle.spec_control.specs.ControlRun.{is_between}
use Rattle.desk.specs.declared.given.Given.{Given}
use Rattle.ctl_plane.specs.Past.{Past, control_of}
use Rattle.plain_desk.specs.declared.mark.Mark.{Mark}
use Rattle.plain_desk.proofs.HoldLemmas.{desk_free, desk_had, desk_happens, desk_has, desk_owner, desk_place, desk_still}
use Rattle.plain_desk.proofs.LentLemmas.{control_is, lent_more, socket_by}
use Rattle.plain_desk.proofs.DeliverLemmas.{meets_more}
use Rattle.plain_desk.proofs.ReapingLemmas.{reaps_met}
use Rattle.plain_desk.proofs.one_desk.OneDesk.delimiter.Goals as goal

pub delimiter-looked-requires-clause-lent : goal.delimiter-looked-requires-clause-lent
delimiter-looked-requires-clause-lent g c = ap (g.H.Holder.holding c.args.holder.now).holds (desk_owner (map (λ x. x.0) c.self.inside.order.items) c.self.inside.history (length c.self.inside.wakers.items) c.self.inside.caller c.args.self.now c.self.view_is c.self.invariant.0 (g.H.Holder.holding c.args.holder.now) c.requires.has c.args.end c.requires.mine.object c.requires.mine.has c.requires.mine.here) ∙ c.requires.mine.has

pub delimiter-looked-requires-clause-held : goal.delimiter-looked-requires-clause-held
delimiter-looked-requires-clause-held g c =
    ap (λ (n : ℕ). is_between (obj (control_of c.self.inside.history).rows n)) (desk_owner (map (λ x. x.0) c.self.inside.order.items) c.self.inside.history (length c.self.inside.wakers.items) c.self.inside.caller c.args.self.now c.self.view_is c.self.invariant.0 (g.H.Holder.holding c.args.holder.now) c.requires.has c.args.end c.requires.mine.object c.requires.mine.has c.requires.mine.here)
    ∙ desk_free (map (λ x. x.0) c.self.inside.order.items) c.self.inside.history (length c.self.inside.wakers.items) c.self.inside.caller c.args.self.now c.self.view_is c.self.invariant.0 (g.H.Holder.holding c.args.holder.now) c.requires.has c.requires.mine.object c.requires.mine.has

pub delimiter-looked-requires-clause-has : goal.delimiter-looked-requires-clause-has
delimiter-looked-requires-clause-has g c = desk_has (map (λ x. x.0) c.self.inside.order.items) c.self.inside.history (length c.self.inside.wakers.items) c.self.inside.caller c.args.self.now c.self.view_is c.self.invariant.0 (g.H.Holder.holding c.args.holder.now) c.requires.has

pub invariant_of-self : goal.invariant_of-self
invariant_of-self g c = (
  lent_more _ _ c.self.inside.caller _ _ _ _
      (ap (λ (xs : List (Mark × Unit {0})). map (λ x. x.0) xs) c.and-self-inside.ensures ∙ map-append (λ x. x.0) c.self.inside.order.items (_ ∷ []))
      c.in-true.ensures.found.step c.self.invariant.0 c.is_run.ensures.run c.is_run.ensures.named
      (socket_by _ _ _ c.requires.mine.object c.self.inside.caller
      (ap (λ (n : ℕ). Some n) (ap (λ (x : Control). owner_of x c.args.end) (control_is (map (λ x. x.0) c.self.inside.order.items) c.self.inside.history (length c.self.inside.wakers.items) c.self.invariant.0) ∙ (desk_owner (map (λ x. x.0) c.self.inside.order.items) c.self.inside.history (length c.self.inside.wakers.items) c.self.inside.caller c.args.self.now c.self.view_is c.self.invariant.0 (g.H.Holder.holding c.args.holder.now) c.requires.has c.args.end c.requires.mine.object c.requires.mine.has c.requires.mine.here))) refl
      (desk_had (map (λ x. x.0) c.self.inside.order.items) c.self.inside.history (length c.self.inside.wakers.items) c.self.inside.caller c.args.self.now c.self.view_is c.self.invariant.0 (g.H.Holder.holding c.args.holder.now) c.requires.has c.requires.mine.object c.requires.mine.has))
      refl,
  reaps_met (map (λ x. x.0) c.self.inside.order.items) c.self.inside.history c.delimiter-looked.new.self (length c.self.inside.wakers.items) c.self.invariant.0 c.self.inside.closed c.self.invariant.1 c.is_run.ensures.run c.args.end _ c.in-true.ensures.found.step,
)

pub returns-in-true-clause-found : goal.returns-in-true-clause-found
returns-in-true-clause-found g c =
    meets_more _ _ c.self.inside.caller _ _ c.args.end
    (ap (λ (xs : List (Mark × Unit {0})). map (λ x. x.0) xs) c.and-self-inside.ensures ∙ map-append (λ x. x.0) c.self.inside.order.items (_ ∷ []))
    c.in-true.ensures.found c.self.invariant.0.marked c.args.self.now c.self.view_is

pub returns-in-true-clause-keeps : goal.returns-in-true-clause-keeps
returns-in-true-clause-keeps g c =
    let now = lent_more _ _ c.self.inside.caller _ _ _ _
    (ap (λ (xs : List (Mark × Unit {0})). map (λ x. x.0) xs) c.and-self-inside.ensures ∙ map-append (λ x. x.0) c.self.inside.order.items (_ ∷ []))
    c.in-true.ensures.found.step c.self.invariant.0 c.is_run.ensures.run c.is_run.ensures.named
    (socket_by _ _ _ c.requires.mine.object c.self.inside.caller
    (ap (λ (n : ℕ). Some n) (ap (λ (x : Control). owner_of x c.args.end) (control_is (map (λ x. x.0) c.self.inside.order.items) c.self.inside.history (length c.self.inside.wakers.items) c.self.invariant.0) ∙ (desk_owner (map (λ x. x.0) c.self.inside.order.items) c.self.inside.history (length c.self.inside.wakers.items) c.self.inside.caller c.args.self.now c.self.view_is c.self.invariant.0 (g.H.Holder.holding c.args.holder.now) c.requires.has c.args.end c.requires.mine.object c.requires.mine.has c.requires.mine.here))) refl
    (desk_had (map (λ x. x.0) c.self.inside.order.items) c.self.inside.history (length c.self.inside.wakers.items) c.self.inside.caller c.args.self.now c.self.view_is c.self.invariant.0 (g.H.Holder.holding c.args.holder.now) c.requires.has c.requires.mine.object c.requires.mine.has))
    refl in
    desk_happens (map (λ x. x.0) c.self.inside.order.items) c.self.inside.history (length c.self.inside.wakers.items) c.self.inside.caller c.args.self.now c.self.view_is c.self.invariant.0 (g.H.Holder.holding c.args.holder.now) c.requires.has _ _ _ _ _
    (ap (λ (xs : List (Mark × Unit {0})). map (λ x. x.0) xs) c.and-self-inside.ensures ∙ map-append (λ x. x.0) c.self.inside.order.items (_ ∷ []))
    (ap (λ (p : Past (Given g.row.P-Name.Denot g.row.P-Out.Denot g.row.P-In.Denot) g.row.P-Name.Denot g.row.P-Story.Denot). p.workers) c.in-true.ensures.found.step)
    (ap (λ (p : Past (Given g.row.P-Name.Denot g.row.P-Out.Denot g.row.P-In.Denot) g.row.P-Name.Denot g.row.P-Story.Denot). p.events) c.in-true.ensures.found.step)
    now c.is_run.ensures.run (λ i x. refl) (λ i. refl)
    c.in-true.ensures.keeps c.in-true.ensures.turned c.in-true.ensures.joins

pub returns-in-false-clause-keeps : goal.returns-in-false-clause-keeps
returns-in-false-clause-keeps g c =
    desk_still (map (λ x. x.0) c.self.inside.order.items) c.self.inside.history (length c.self.inside.wakers.items) c.self.inside.caller c.args.self.now c.self.view_is c.self.invariant.0 (g.H.Holder.holding c.args.holder.now) c.requires.has _ _
    c.in-false.ensures.found.1 c.in-false.ensures.keeps c.in-false.ensures.turned c.in-false.ensures.joins

pub returns-in-false-clause-not_looked : goal.returns-in-false-clause-not_looked
returns-in-false-clause-not_looked g c = λ none i holds is.
    ap looks (desk_place (map (λ x. x.0) c.self.inside.order.items) c.self.inside.history (length c.self.inside.wakers.items) c.self.inside.caller c.args.self.now c.self.view_is c.self.invariant.0 (g.H.Holder.holding c.args.holder.now) c.requires.has c.args.end i holds is)
    ∙ c.in-false.ensures.found.0
