use Rattle.std.specs.Prelude.{List, [], ◌∷◌, length, map, refl}
use Rattle.std.proofs.Common.{ap, ◌∙◌, subst}
use Rattle.std.proofs.lemmas.List.{map-append}
use Rattle.spec_control.specs.declared.request.Req.TheVariants.{AskTerm}
use Rattle.spec_control.specs.Row.{RootAsked}
use Rattle.spec_control.specs.Reply.{root_asked}
use Rattle.control_laws.proofs.ListLemmas.{never}
use Rattle.control_laws.specs.Move.{LinkMoves}
use Rattle.desk.specs.declared.given.Given.{Given}
use Rattle.plain_desk.specs.declared.mark.Mark.{Mark}
use Rattle.plain_desk.specs.Lent.{lent_to, Asks, Lent}
use Rattle.plain_desk.proofs.AsideLemmas.{desk_asked, desk_same}
use Rattle.ctl_plane.specs.Past.{Past, control_of}
use Rattle.plain_desk.proofs.GrowLemmas.{asks_grow, same_grows}
use Rattle.plain_desk.proofs.MakeLemmas.{unless_none}
use Rattle.plain_desk.proofs.LentLemmas.{asks_more, lent_more, term_by}
use Rattle.plain_desk.proofs.ReapingLemmas.{reaps_asked}
use Rattle.plain_desk.proofs.one_desk.OneDesk.ask_term.Goals as goal

pub invariant_of-self-2 : goal.invariant_of-self-2
invariant_of-self-2 g c = (
  lent_more _ _ c.self.inside.caller _ _ _ _
      (ap (λ (xs : List (Mark × Unit {0})). map (λ x. x.0) xs) c.and-self-inside.ensures ∙ map-append (λ x. x.0) c.self.inside.order.items (_ ∷ []))
      c.in_ok-reply.ensures.ok c.self.invariant.0 c.is_run.ensures.run c.is_run.ensures.named (term_by _ _ _ _ _) (unless_none c.in_ok-reply.reply (LinkMoves 0 RootAsked ∷ []) refl),
  reaps_asked (map (λ x. x.0) c.self.inside.order.items) c.self.inside.history c.ask_term.new.self (length c.self.inside.wakers.items) c.self.invariant.0 c.self.inside.closed c.self.invariant.1 c.is_run.ensures.run AskTerm c.in_ok-reply.reply _ c.in_ok-reply.ensures.ok (unless_none c.in_ok-reply.reply (LinkMoves 0 RootAsked ∷ []) refl) (λ i. refl) refl,
)

pub returns-clause-ok : goal.returns-clause-ok
returns-clause-ok g c =
    subst (λ (l : Lent (Given g.row.P-Name.Denot g.row.P-Out.Denot g.row.P-In.Denot) g.row.P-Name.Denot g.row.P-Story.Denot). Asks AskTerm c.in_ok-reply.reply l (lent_to c.self.inside.caller (map (λ x. x.0) c.and-self-inside.result.items) c.ask_term.new.self)) c.self.view_is
    (asks_more _ _ c.self.inside.caller _ _ _ _ _
    (ap (λ (xs : List (Mark × Unit {0})). map (λ x. x.0) xs) c.and-self-inside.ensures ∙ map-append (λ x. x.0) c.self.inside.order.items (_ ∷ []))
    c.in_ok-reply.ensures.ok c.self.invariant.0.marked)

pub returns-in_err-reply-clause-keeps : goal.returns-in_err-reply-clause-keeps
returns-in_err-reply-clause-keeps g c =
    desk_same (map (λ x. x.0) c.self.inside.order.items) c.self.inside.history (length c.self.inside.wakers.items) c.self.inside.caller c.args.self.now c.self.view_is c.self.invariant.0 _ c.in_err-reply.ensures.err

pub returns-clause-keeps : goal.returns-clause-keeps
returns-clause-keeps g c =
    let marks = ap (λ (xs : List (Mark × Unit {0})). map (λ x. x.0) xs) c.and-self-inside.ensures ∙ map-append (λ x. x.0) c.self.inside.order.items (_ ∷ []) in
    desk_asked (map (λ x. x.0) c.self.inside.order.items) c.self.inside.history (length c.self.inside.wakers.items) c.self.inside.caller c.args.self.now c.self.view_is c.self.invariant.0 _ (length c.self.inside.wakers.items) _ c.in_ok-reply.reply _ marks c.in_ok-reply.ensures.ok
    (lent_more _ _ c.self.inside.caller _ _ _ _ marks c.in_ok-reply.ensures.ok c.self.invariant.0 c.is_run.ensures.run c.is_run.ensures.named (term_by _ _ _ _ _) (unless_none c.in_ok-reply.reply (LinkMoves 0 RootAsked ∷ []) refl))
    c.silent.ensures

pub returns-in_err-reply-clause-grows : goal.returns-in_err-reply-clause-grows
returns-in_err-reply-clause-grows g c =
    same_grows c.args.self.now _
    (ap (λ (p : Past (Given g.row.P-Name.Denot g.row.P-Out.Denot g.row.P-In.Denot) g.row.P-Name.Denot g.row.P-Story.Denot). lent_to c.self.inside.caller (map (λ x. x.0) c.self.inside.order.items) p) c.in_err-reply.ensures.err ∙ c.self.view_is)

pub returns-clause-grows : goal.returns-clause-grows
returns-clause-grows g c =
    asks_grow c.args.self.now _ AskTerm c.in_ok-reply.reply
    (subst (λ (l : Lent (Given g.row.P-Name.Denot g.row.P-Out.Denot g.row.P-In.Denot) g.row.P-Name.Denot g.row.P-Story.Denot). Asks AskTerm c.in_ok-reply.reply l (lent_to c.self.inside.caller (map (λ x. x.0) c.and-self-inside.result.items) c.ask_term.new.self)) c.self.view_is
    (asks_more _ _ c.self.inside.caller _ _ _ _ _
    (ap (λ (xs : List (Mark × Unit {0})). map (λ x. x.0) xs) c.and-self-inside.ensures ∙ map-append (λ x. x.0) c.self.inside.order.items (_ ∷ []))
    c.in_ok-reply.ensures.ok c.self.invariant.0.marked))

pub returns-in_err-reply-clause-succeeds : goal.returns-in_err-reply-clause-succeeds
returns-in_err-reply-clause-succeeds g c = λ none.
    absurd (never (c.in_err-reply.ensures.succeeds (ap (λ (d : Lent (Given g.row.P-Name.Denot g.row.P-Out.Denot g.row.P-In.Denot) g.row.P-Name.Denot g.row.P-Story.Denot). root_asked (control_of d.past)) c.self.view_is ∙ none)))
