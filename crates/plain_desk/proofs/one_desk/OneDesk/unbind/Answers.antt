use Rattle.std.specs.Prelude.{List, [], ◌∷◌, length, map, refl}
use Rattle.std.proofs.Common.{ap, ◌∙◌, subst}
use Rattle.std.proofs.lemmas.List.{map-append}
use Rattle.spec_control.specs.declared.request.Req.TheVariants.{Unbind}
use Rattle.desk.specs.declared.given.Given.{Given}
use Rattle.plain_desk.specs.declared.mark.Mark.{Mark}
use Rattle.plain_desk.specs.Lent.{lent_to, Asks, Lent}
use Rattle.plain_desk.proofs.AsideLemmas.{desk_same, desk_unbound}
use Rattle.plain_desk.proofs.MakeLemmas.{unless_none}
use Rattle.plain_desk.proofs.LentLemmas.{asks_more, lent_more, lent_open, socket_by}
use Rattle.plain_desk.proofs.ReapingLemmas.{reaps_asked}
use Rattle.plain_desk.proofs.one_desk.OneDesk.unbind.Goals as goal

pub unbind-requires-clause-open : goal.unbind-requires-clause-open
unbind-requires-clause-open g c = (lent_open (map (λ x. x.0) c.self.inside.order.items) c.self.inside.history (length c.self.inside.wakers.items) c.self.inside.caller c.args.socket.0 c.args.self.now c.self.view_is c.self.invariant.0 c.requires.open).open_now

pub invariant_of-self-2 : goal.invariant_of-self-2
invariant_of-self-2 g c = (
  lent_more _ _ c.self.inside.caller _ _ _ _
      (ap (λ (xs : List (Mark × Unit {0})). map (λ x. x.0) xs) c.and-self-inside.ensures ∙ map-append (λ x. x.0) c.self.inside.order.items (_ ∷ []))
      c.in_ok-reply.ensures.ok c.self.invariant.0 c.is_run.ensures.run c.is_run.ensures.named
      (socket_by _ _ _ c.args.socket.0 c.self.inside.caller refl refl (lent_open (map (λ x. x.0) c.self.inside.order.items) c.self.inside.history (length c.self.inside.wakers.items) c.self.inside.caller c.args.socket.0 c.args.self.now c.self.view_is c.self.invariant.0 c.requires.open).has)
      (unless_none c.in_ok-reply.reply [] refl),
  reaps_asked (map (λ x. x.0) c.self.inside.order.items) c.self.inside.history c.unbind.new.self (length c.self.inside.wakers.items) c.self.invariant.0 c.self.inside.closed c.self.invariant.1 c.is_run.ensures.run (Unbind c.args.socket c.args.at) c.in_ok-reply.reply _ c.in_ok-reply.ensures.ok (unless_none c.in_ok-reply.reply [] refl) (λ i. refl) refl,
)

pub returns-clause-ok : goal.returns-clause-ok
returns-clause-ok g c =
    subst (λ (l : Lent (Given g.row.P-Name.Denot g.row.P-Out.Denot g.row.P-In.Denot) g.row.P-Name.Denot g.row.P-Story.Denot). Asks (Unbind c.args.socket c.args.at) c.in_ok-reply.reply l (lent_to c.self.inside.caller (map (λ x. x.0) c.and-self-inside.result.items) c.unbind.new.self)) c.self.view_is
    (asks_more _ _ c.self.inside.caller _ _ _ _ _
    (ap (λ (xs : List (Mark × Unit {0})). map (λ x. x.0) xs) c.and-self-inside.ensures ∙ map-append (λ x. x.0) c.self.inside.order.items (_ ∷ []))
    c.in_ok-reply.ensures.ok c.self.invariant.0.marked)

pub returns-in_err-reply-clause-keeps : goal.returns-in_err-reply-clause-keeps
returns-in_err-reply-clause-keeps g c =
    desk_same (map (λ x. x.0) c.self.inside.order.items) c.self.inside.history (length c.self.inside.wakers.items) c.self.inside.caller c.args.self.now c.self.view_is c.self.invariant.0 _ c.in_err-reply.ensures.err

pub returns-clause-keeps : goal.returns-clause-keeps
returns-clause-keeps g c =
    let marks = ap (λ (xs : List (Mark × Unit {0})). map (λ x. x.0) xs) c.and-self-inside.ensures ∙ map-append (λ x. x.0) c.self.inside.order.items (_ ∷ []) in
    desk_unbound (map (λ x. x.0) c.self.inside.order.items) c.self.inside.history (length c.self.inside.wakers.items) c.self.inside.caller c.args.self.now c.self.view_is c.self.invariant.0 _ (length c.self.inside.wakers.items) _ c.args.socket c.args.at c.in_ok-reply.reply _ marks c.in_ok-reply.ensures.ok
    (lent_more _ _ c.self.inside.caller _ _ _ _ marks c.in_ok-reply.ensures.ok c.self.invariant.0 c.is_run.ensures.run c.is_run.ensures.named
    (socket_by _ _ _ c.args.socket.0 c.self.inside.caller refl refl (lent_open (map (λ x. x.0) c.self.inside.order.items) c.self.inside.history (length c.self.inside.wakers.items) c.self.inside.caller c.args.socket.0 c.args.self.now c.self.view_is c.self.invariant.0 c.requires.open).has)
    (unless_none c.in_ok-reply.reply [] refl))
    c.silent.ensures
