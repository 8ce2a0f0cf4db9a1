use Rattle.std.specs.Prelude.{List, [], ◌∷◌, length, map, refl}
use Rattle.std.proofs.Common.{ap, sym, ◌∙◌, subst}
use Rattle.std.proofs.lemmas.List.{map-append}
use Rattle.zq_base.specs.declared.endpoint.Endpoint.TheVariants.{Inproc}
use Rattle.spec_control.specs.declared.request.Req.TheVariants.{Connect}
use Rattle.desk.specs.declared.given.Given.{Given}
use Rattle.desk.specs.Making.{MakesSo}
use Rattle.ctl_plane.specs.Past.{Past, control_of}
use Rattle.plain_desk.specs.declared.mark.Mark.{Mark}
use Rattle.plain_desk.specs.Lent.{lent_to, Asks, Lent, IsLent}
use Rattle.plain_desk.proofs.HoldLemmas.{desk_has, desk_keeps, desk_lends, desk_still, leaves_same}
use Rattle.plain_desk.proofs.MakeLemmas.{connect_none}
use Rattle.plain_desk.proofs.LentLemmas.{asks_more, lent_more, lent_open, socket_by}
use Rattle.plain_desk.proofs.ReapingLemmas.{reaps_asked}
use Rattle.spec_control.specs.Reply.{reply_of}
use Rattle.ctl_state.proofs.KeptLemmas.{so_on_err}
use Rattle.plain_desk.specs.Reaping.{IsReaping}
use Rattle.plain_desk.proofs.one_desk.OneDesk.connect.Goals as goal

pub connect-requires-clause-lends : goal.connect-requires-clause-lends
connect-requires-clause-lends g c =
    desk_lends (map (λ x. x.0) c.self.inside.order.items) c.self.inside.history (length c.self.inside.wakers.items) c.self.inside.caller c.args.self.now c.self.view_is c.self.invariant.0 (g.H.Holder.holding c.args.holder.now) c.requires.has c.args.socket.0 c.requires.open c.requires.lent

pub connect-requires-clause-has : goal.connect-requires-clause-has
connect-requires-clause-has g c = desk_has (map (λ x. x.0) c.self.inside.order.items) c.self.inside.history (length c.self.inside.wakers.items) c.self.inside.caller c.args.self.now c.self.view_is c.self.invariant.0 (g.H.Holder.holding c.args.holder.now) c.requires.has

pub connect-requires-clause-makes : goal.connect-requires-clause-makes
connect-requires-clause-makes g c =
    subst (λ (l : Lent (Given g.row.P-Name.Denot g.row.P-Out.Denot g.row.P-In.Denot) g.row.P-Name.Denot g.row.P-Story.Denot). MakesSo (control_of l.past) (Connect c.args.socket (Inproc c.args.name)) g.H.Holder.may_make) (sym c.self.view_is) c.requires.makes

pub returns-in_err-reply-clause-keeps : goal.returns-in_err-reply-clause-keeps
returns-in_err-reply-clause-keeps g c =
    desk_still (map (λ x. x.0) c.self.inside.order.items) c.self.inside.history (length c.self.inside.wakers.items) c.self.inside.caller c.args.self.now c.self.view_is c.self.invariant.0 (g.H.Holder.holding c.args.holder.now) c.requires.has _ _
    c.in_err-reply.ensures.err.0 c.in_err-reply.ensures.keeps c.in_err-reply.ensures.turned c.in_err-reply.ensures.joins

pub invariant_of-self-2 : goal.invariant_of-self-2
invariant_of-self-2 g c = (
  lent_more _ _ c.self.inside.caller _ _ _ _
      (ap (λ (xs : List (Mark × Unit {0})). map (λ x. x.0) xs) c.and-self-inside.ensures ∙ map-append (λ x. x.0) c.self.inside.order.items (_ ∷ []))
      c.in_ok-reply.ensures.ok.step c.self.invariant.0 c.is_run.ensures.run c.is_run.ensures.named
      (socket_by _ _ _ c.args.socket.0 c.self.inside.caller refl refl (lent_open (map (λ x. x.0) c.self.inside.order.items) c.self.inside.history (length c.self.inside.wakers.items) c.self.inside.caller c.args.socket.0 c.args.self.now c.self.view_is c.self.invariant.0 c.requires.open).has)
      (connect_none (control_of c.self.inside.history) c.args.socket.0 c.args.name c.in_ok-reply.reply),
  reaps_asked (map (λ x. x.0) c.self.inside.order.items) c.self.inside.history c.connect.new.self (length c.self.inside.wakers.items) c.self.invariant.0 c.self.inside.closed c.self.invariant.1 c.is_run.ensures.run (Connect c.args.socket (Inproc c.args.name)) c.in_ok-reply.reply _ c.in_ok-reply.ensures.ok.step (connect_none (control_of c.self.inside.history) c.args.socket.0 c.args.name c.in_ok-reply.reply) (λ i. refl) refl,
)

pub returns-clause-ok : goal.returns-clause-ok
returns-clause-ok g c =
    subst (λ (l : Lent (Given g.row.P-Name.Denot g.row.P-Out.Denot g.row.P-In.Denot) g.row.P-Name.Denot g.row.P-Story.Denot). Asks (Connect c.args.socket (Inproc c.args.name)) c.in_ok-reply.reply l (lent_to c.self.inside.caller (map (λ x. x.0) c.and-self-inside.result.items) c.connect.new.self)) c.self.view_is
    (asks_more _ _ c.self.inside.caller _ _ _ _ _
    (ap (λ (xs : List (Mark × Unit {0})). map (λ x. x.0) xs) c.and-self-inside.ensures ∙ map-append (λ x. x.0) c.self.inside.order.items (_ ∷ []))
    c.in_ok-reply.ensures.ok.step c.self.invariant.0.marked)

pub returns-clause-keeps : goal.returns-clause-keeps
returns-clause-keeps g c =
    let now = lent_more _ _ c.self.inside.caller _ _ _ _
    (ap (λ (xs : List (Mark × Unit {0})). map (λ x. x.0) xs) c.and-self-inside.ensures ∙ map-append (λ x. x.0) c.self.inside.order.items (_ ∷ []))
    c.in_ok-reply.ensures.ok.step c.self.invariant.0 c.is_run.ensures.run c.is_run.ensures.named
    (socket_by _ _ _ c.args.socket.0 c.self.inside.caller refl refl (lent_open (map (λ x. x.0) c.self.inside.order.items) c.self.inside.history (length c.self.inside.wakers.items) c.self.inside.caller c.args.socket.0 c.args.self.now c.self.view_is c.self.invariant.0 c.requires.open).has)
    (connect_none (control_of c.self.inside.history) c.args.socket.0 c.args.name c.in_ok-reply.reply) in
    desk_keeps (map (λ x. x.0) c.self.inside.order.items) c.self.inside.history (length c.self.inside.wakers.items) c.self.inside.caller c.args.self.now c.self.view_is c.self.invariant.0 (g.H.Holder.holding c.args.holder.now) c.requires.has _ _ _ _ _
    (ap (λ (xs : List (Mark × Unit {0})). map (λ x. x.0) xs) c.and-self-inside.ensures ∙ map-append (λ x. x.0) c.self.inside.order.items (_ ∷ []))
    (ap (λ (p : Past (Given g.row.P-Name.Denot g.row.P-Out.Denot g.row.P-In.Denot) g.row.P-Name.Denot g.row.P-Story.Denot). p.workers) c.in_ok-reply.ensures.ok.step)
    (ap (λ (p : Past (Given g.row.P-Name.Denot g.row.P-Out.Denot g.row.P-In.Denot) g.row.P-Name.Denot g.row.P-Story.Denot). p.events) c.in_ok-reply.ensures.ok.step)
    now
    (leaves_same _ _ _ _ c.in_ok-reply.ensures.same (λ i x. refl) (λ i. refl))
    c.in_ok-reply.ensures.keeps c.in_ok-reply.ensures.turned c.in_ok-reply.ensures.joins

pub invariant_of-self : goal.invariant_of-self
invariant_of-self g c =
    subst (λ (p : Past (Given g.row.P-Name.Denot g.row.P-Out.Denot g.row.P-In.Denot) g.row.P-Name.Denot g.row.P-Story.Denot). IsLent (map (λ x. x.0) c.self.inside.order.items) p (length c.self.inside.wakers.items) × IsReaping (control_of p) c.self.inside.closed) (sym c.in_err-reply.ensures.err.0) c.self.invariant

pub returns-clause-reply : goal.returns-clause-reply
returns-clause-reply g c = c.in_ok-reply.ensures.reply ∙ ap (λ (l : Lent (Given g.row.P-Name.Denot g.row.P-Out.Denot g.row.P-In.Denot) g.row.P-Name.Denot g.row.P-Story.Denot). reply_of (control_of l.past) (Connect c.args.socket (Inproc c.args.name))) c.self.view_is

pub returns-in_err-reply-clause-err : goal.returns-in_err-reply-clause-err
returns-in_err-reply-clause-err g c =
    so_on_err _ _ (ap (λ (p : Past (Given g.row.P-Name.Denot g.row.P-Out.Denot g.row.P-In.Denot) g.row.P-Name.Denot g.row.P-Story.Denot). lent_to c.self.inside.caller (map (λ x. x.0) c.self.inside.order.items) p) c.in_err-reply.ensures.err.0 ∙ c.self.view_is)

pub connect-requires-clause-calm : goal.connect-requires-clause-calm
connect-requires-clause-calm g c = c.requires.calm
