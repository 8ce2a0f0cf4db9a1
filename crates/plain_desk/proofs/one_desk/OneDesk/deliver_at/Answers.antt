use Rattle.std.specs.Prelude.{◌≡◌, OnOk, OnErr}
use Rattle.std.proofs.Common.{sym, subst}
use Rattle.desk.specs.declared.given.Given.{Given}
use Rattle.desk.specs.Coming.{TakesEnds}
use Rattle.desk.specs.Desk.{BringsWith, CountsWith, KeepsUp}
use Rattle.plain_desk.specs.Lent.{Lent, moments_of}
use Rattle.plain_desk.specs.Reaping.{HearsFrom}
use Rattle.plain_desk.proofs.one_desk.OneDesk.deliver_at.Goals as goal

pub returns-clause-ok : goal.returns-clause-ok
returns-clause-ok g c = subst (λ (d : Lent (Given g.row.P-Name.Denot g.row.P-Out.Denot g.row.P-In.Denot) g.row.P-Name.Denot g.row.P-Story.Denot). OnOk c.hear_at-heard.result (HearsFrom c.args.slot c.args.self.now d)) (sym c.forget_ended.ensures) c.hear_at-heard.ensures.ok

pub returns-clause-brings : goal.returns-clause-brings
returns-clause-brings g c = subst (λ (d : Lent (Given g.row.P-Name.Denot g.row.P-Out.Denot g.row.P-In.Denot) g.row.P-Name.Denot g.row.P-Story.Denot). BringsWith g.P.Pipes.known.out_name g.P.Pipes.known.in_name (moments_of c.args.self.now) (moments_of d) c.args.self.now.past.given d.past.given) (sym c.forget_ended.ensures) c.hear_at-heard.ensures.brings

pub returns-clause-counts : goal.returns-clause-counts
returns-clause-counts g c = subst (λ (d : Lent (Given g.row.P-Name.Denot g.row.P-Out.Denot g.row.P-In.Denot) g.row.P-Name.Denot g.row.P-Story.Denot). CountsWith g.P.Pipes.known.out_name (g.H.Holder.counts c.args.holder.now) (moments_of c.args.self.now) (moments_of d) (g.H.Holder.holding c.args.holder.now)) (sym c.forget_ended.ensures) c.hear_at-heard.ensures.counts

pub returns-clause-err : goal.returns-clause-err
returns-clause-err g c = subst (λ (d : Lent (Given g.row.P-Name.Denot g.row.P-Out.Denot g.row.P-In.Denot) g.row.P-Name.Denot g.row.P-Story.Denot). OnErr c.hear_at-heard.result (d ≡ c.args.self.now)) (sym c.forget_ended.ensures) c.hear_at-heard.ensures.err

pub returns-clause-given : goal.returns-clause-given
returns-clause-given g c = subst (λ (d : Lent (Given g.row.P-Name.Denot g.row.P-Out.Denot g.row.P-In.Denot) g.row.P-Name.Denot g.row.P-Story.Denot). TakesEnds c.args.self.now.past.given d.past.given) (sym c.forget_ended.ensures) c.hear_at-heard.ensures.given

pub returns-clause-keeps : goal.returns-clause-keeps
returns-clause-keeps g c = subst (λ (d : Lent (Given g.row.P-Name.Denot g.row.P-Out.Denot g.row.P-In.Denot) g.row.P-Name.Denot g.row.P-Story.Denot). KeepsUp d.caller (moments_of c.args.self.now) (moments_of d) (g.H.Holder.holding c.args.holder.now) (g.H.Holder.holding c.hear_at-heard.new.holder)) (sym c.forget_ended.ensures) c.hear_at-heard.ensures.keeps
