use Rattle.std.specs.Prelude.{List, [], ◌∷◌, length, map}
use Rattle.std.proofs.Common.{ap, ◌∙◌}
use Rattle.std.proofs.lemmas.List.{map-append}
use Rattle.plain_desk.specs.declared.mark.Mark.{Mark}
use Rattle.plain_desk.proofs.AsideLemmas.{desk_looked}
use Rattle.plain_desk.proofs.LookLemmas.{lent_looks, sees_more}
use Rattle.plain_desk.proofs.one_desk.OneDesk.note_look.Goals as goal

pub invariant_of-self : goal.invariant_of-self
invariant_of-self g c = (
  lent_looks (map (λ x. x.0) c.self.inside.order.items) _ c.self.inside.history (length c.self.inside.wakers.items) c.sight_of-sight.result
      (ap (λ (xs : List (Mark × Unit {0})). map (λ x. x.0) xs) c.and-self-inside.ensures ∙ map-append (λ x. x.0) c.self.inside.order.items (_ ∷ []))
      c.self.invariant.0 c.sight_of-sight.ensures.seen,
  c.self.invariant.1,
)

pub returns-clause-sees : goal.returns-clause-sees
returns-clause-sees g c =
    sees_more (map (λ x. x.0) c.self.inside.order.items) _ c.self.inside.history (length c.self.inside.wakers.items) c.sight_of-sight.result
    (ap (λ (xs : List (Mark × Unit {0})). map (λ x. x.0) xs) c.and-self-inside.ensures ∙ map-append (λ x. x.0) c.self.inside.order.items (_ ∷ []))
    c.self.invariant.0 c.sight_of-sight.ensures.seen c.self.inside.caller c.args.empty c.args.self.now c.self.view_is c.sight_of-sight.ensures.looked_at c.sight_of-sight.ensures.by

pub returns-clause-keeps : goal.returns-clause-keeps
returns-clause-keeps g c =
    let marks = ap (λ (xs : List (Mark × Unit {0})). map (λ x. x.0) xs) c.and-self-inside.ensures ∙ map-append (λ x. x.0) c.self.inside.order.items (_ ∷ []) in
    desk_looked (map (λ x. x.0) c.self.inside.order.items) c.self.inside.history (length c.self.inside.wakers.items) c.self.inside.caller c.args.self.now c.self.view_is c.self.invariant.0 _ c.sight_of-sight.result marks c.sight_of-sight.ensures.by
    (lent_looks (map (λ x. x.0) c.self.inside.order.items) _ c.self.inside.history (length c.self.inside.wakers.items) c.sight_of-sight.result marks c.self.invariant.0 c.sight_of-sight.ensures.seen)
