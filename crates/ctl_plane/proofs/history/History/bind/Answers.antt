use Rattle.spec_control.specs.declared.request.Reply.TheVariants.{Refused}
use Rattle.spec_control.specs.declared.entry.Did.TheVariants.{Asked}
use Rattle.std.specs.Prelude.{refl, ◌≡◌, None, IfOk}
use Rattle.std.proofs.Common.{sym, subst}
use Rattle.zq_base.specs.declared.endpoint.Endpoint.{Endpoint}
use Rattle.zq_base.specs.declared.endpoint.Endpoint.TheVariants.{Inproc}
use Rattle.spec_control.specs.declared.request.Req.TheVariants.{Bind}
use Rattle.spec_control.specs.Reply.{reply_of}
use Rattle.desk.specs.declared.given.Given.{Given}
use Rattle.ctl_plane.specs.Hearing.{HasWhat}
use Rattle.ctl_plane.specs.Past.{Past, control_of}
use Rattle.ctl_plane.proofs.NamedPlaneLemmas.{keeps_refused}
use Rattle.ctl_plane.proofs.RefusalLemmas.{refusal_is}
use Rattle.desk.specs.Making.{MakesSo}
use Rattle.desk.specs.Turns.{HasTurned}
use Rattle.ctl_moves.proofs.TurnedLemmas.{turns_same}
use Rattle.ctl_plane.proofs.ToldLemmas.{past_told, refused_told}
use Rattle.ctl_plane.specs.Coming.{ComesWith}
use Rattle.ctl_plane.proofs.ComeLemmas.{aside_comes, past_comes}
use Rattle.ctl_state.proofs.KeptLemmas.{so_on_err}
use Rattle.ctl_plane.proofs.FulfilPlaneLemmas.{back_itself}
use Rattle.ctl_plane.specs.Joining.{NotesRequest}
use Rattle.ctl_moves.specs.Refusals.{refusal_in}
use Rattle.ctl_moves.proofs.BetweenLemmas.{stay_here}
use Rattle.ctl_plane.proofs.history.History.bind.Goals as goal

pub refuse-requires-clause-refused : goal.refuse-requires-clause-refused
refuse-requires-clause-refused g c = refusal_is (reply_of (control_of c.args.self.now) (Bind c.args.socket (Inproc c.args.name))) c.in-Some.refusal c.in-Some.ensures

pub returns-in-Some-clause-reply : goal.returns-in-Some-clause-reply
returns-in-Some-clause-reply g c = sym (refusal_is (reply_of (control_of c.args.self.now) (Bind c.args.socket (Inproc c.args.name))) c.in-Some.refusal c.in-Some.ensures)

pub returns-in-Some-clause-keeps : goal.returns-in-Some-clause-keeps
returns-in-Some-clause-keeps g c =
    subst (λ (p : Past (Given g.row.P-Name.Denot g.row.P-Out.Denot g.row.P-In.Denot) g.row.P-Name.Denot g.row.P-Story.Denot). HasWhat p (g.H.Holder.holding c.args.holder.now)) (sym c.in_ok-refuse-in-Some.ensures.ok)
    (keeps_refused c.args.self.now (Bind c.args.socket (Inproc c.args.name)) c.in-Some.refusal c.silent.result (g.H.Holder.holding c.args.holder.now) c.requires.has)

pub returns-in-Some-clause-turned : goal.returns-in-Some-clause-turned
returns-in-Some-clause-turned g c =
    subst (λ (p : Past (Given g.row.P-Name.Denot g.row.P-Out.Denot g.row.P-In.Denot) g.row.P-Name.Denot g.row.P-Story.Denot). HasTurned (control_of c.args.self.now) (control_of p) (g.H.Holder.holding c.args.holder.now) (g.H.Holder.holding c.args.holder.now)) (sym c.in_ok-refuse-in-Some.ensures.ok)
    (refused_told c.args.self.now (Bind c.args.socket (Inproc c.args.name)) c.in-Some.refusal c.silent.result (g.H.Holder.holding c.args.holder.now))

pub returns-in_err-refuse-in-Some-clause-turned : goal.returns-in_err-refuse-in-Some-clause-turned
returns-in_err-refuse-in-Some-clause-turned g c =
    subst (λ (p : Past (Given g.row.P-Name.Denot g.row.P-Out.Denot g.row.P-In.Denot) g.row.P-Name.Denot g.row.P-Story.Denot). HasTurned (control_of c.args.self.now) (control_of p) (g.H.Holder.holding c.args.holder.now) (g.H.Holder.holding c.args.holder.now)) (sym c.in_err-refuse-in-Some.ensures.err) (past_told c.args.self.now (g.H.Holder.holding c.args.holder.now) (g.H.Holder.holding c.args.holder.now) (turns_same (g.H.Holder.holding c.args.holder.now)))

pub returns-in-Some-clause-joins : goal.returns-in-Some-clause-joins
returns-in-Some-clause-joins g c =
    subst (λ (p : Past (Given g.row.P-Name.Denot g.row.P-Out.Denot g.row.P-In.Denot) g.row.P-Name.Denot g.row.P-Story.Denot). ComesWith c.args.self.now p (g.H.Holder.holding c.args.holder.now) (g.H.Holder.holding c.args.holder.now)) (sym c.in_ok-refuse-in-Some.ensures.ok)
    (aside_comes c.args.self.now (Asked (Bind c.args.socket (Inproc c.args.name)) (Refused c.in-Some.refusal) c.silent.result) (g.H.Holder.holding c.args.holder.now) (g.H.Holder.holding c.args.holder.now) c.silent.ensures.joined refl (λ i. refl) (λ i. refl) (stay_here (control_of c.args.self.now).rows) (λ b n. refl) refl)

pub returns-in_err-refuse-in-Some-clause-joins : goal.returns-in_err-refuse-in-Some-clause-joins
returns-in_err-refuse-in-Some-clause-joins g c =
    subst (λ (p : Past (Given g.row.P-Name.Denot g.row.P-Out.Denot g.row.P-In.Denot) g.row.P-Name.Denot g.row.P-Story.Denot). ComesWith c.args.self.now p (g.H.Holder.holding c.args.holder.now) (g.H.Holder.holding c.args.holder.now)) (sym c.in_err-refuse-in-Some.ensures.err) (past_comes c.args.self.now (g.H.Holder.holding c.args.holder.now) (g.H.Holder.holding c.args.holder.now) refl (λ i. refl) (λ i. refl) refl)

pub bind_now-requires-clause-makes : goal.bind_now-requires-clause-makes
bind_now-requires-clause-makes g c = subst (λ (e : Endpoint). MakesSo (control_of c.args.self.now) (Bind c.args.socket e) g.H.Holder.may_make) c.name_of.ensures c.requires.makes

pub returns-in-None-clause-err : goal.returns-in-None-clause-err
returns-in-None-clause-err g c = c.bind_now.ensures.err

pub returns-in-None-clause-same : goal.returns-in-None-clause-same
returns-in-None-clause-same g c = c.bind_now.ensures.same

pub returns-in-None-clause-keeps : goal.returns-in-None-clause-keeps
returns-in-None-clause-keeps g c = c.bind_now.ensures.keeps

pub returns-in-None-clause-turned : goal.returns-in-None-clause-turned
returns-in-None-clause-turned g c = c.bind_now.ensures.turned

pub returns-in-None-clause-joins : goal.returns-in-None-clause-joins
returns-in-None-clause-joins g c = c.bind_now.ensures.joins

pub bind_now-requires-clause-lends : goal.bind_now-requires-clause-lends
bind_now-requires-clause-lends g c = c.requires.lends

pub bind_now-requires-clause-wakers : goal.bind_now-requires-clause-wakers
bind_now-requires-clause-wakers g c = c.requires.wakers

pub bind_now-requires-clause-has : goal.bind_now-requires-clause-has
bind_now-requires-clause-has g c = c.requires.has

pub bind_now-requires-clause-calm : goal.bind_now-requires-clause-calm
bind_now-requires-clause-calm g c = c.requires.calm

pub refuse-requires-clause-may : goal.refuse-requires-clause-may
refuse-requires-clause-may g c = c.requires.lends.socket

pub refuse-requires-clause-silent : goal.refuse-requires-clause-silent
refuse-requires-clause-silent g c = c.silent.ensures

pub returns-in-Some-clause-same : goal.returns-in-Some-clause-same
returns-in-Some-clause-same g c = record { objects = λ i. refl; kinds = λ i. refl; output = λ i. refl }

pub returns-in_err-refuse-in-Some-clause-same : goal.returns-in_err-refuse-in-Some-clause-same
returns-in_err-refuse-in-Some-clause-same g c = record { objects = λ i. refl; kinds = λ i. refl; output = λ i. refl }

pub returns-in_err-refuse-in-Some-clause-keeps : goal.returns-in_err-refuse-in-Some-clause-keeps
returns-in_err-refuse-in-Some-clause-keeps g c = subst (λ (p : Past (Given g.row.P-Name.Denot g.row.P-Out.Denot g.row.P-In.Denot) g.row.P-Name.Denot g.row.P-Story.Denot). HasWhat p (g.H.Holder.holding c.args.holder.now)) (sym c.in_err-refuse-in-Some.ensures.err) c.requires.has

pub returns-in_err-refuse-in-Some-clause-err : goal.returns-in_err-refuse-in-Some-clause-err
returns-in_err-refuse-in-Some-clause-err g c = so_on_err _ c.from_residual.result (c.in_err-refuse-in-Some.ensures.err, back_itself _ c.args.socket.0 (g.H.Holder.holding c.args.holder.now))

pub returns-in-None-clause-ok : goal.returns-in-None-clause-ok
returns-in-None-clause-ok g c =
    subst (λ (e : Endpoint). IfOk c.bind_now.result (λ reply. NotesRequest c.args.socket (Bind c.args.socket e) reply c.args.self.now c.bind_now.new.self (g.H.Holder.holding c.args.holder.now) (g.H.Holder.holding c.bind_now.new.holder))) (sym c.name_of.ensures) c.bind_now.ensures.ok

pub returns-in-None-clause-reply : goal.returns-in-None-clause-reply
returns-in-None-clause-reply g c =
    subst (λ (e : Endpoint). IfOk c.bind_now.result (λ reply. reply ≡ reply_of (control_of c.args.self.now) (Bind c.args.socket e))) (sym c.name_of.ensures) c.bind_now.ensures.reply

pub bind_now-requires-clause-free : goal.bind_now-requires-clause-free
bind_now-requires-clause-free g c =
    subst (λ (e : Endpoint). refusal_in (reply_of (control_of c.args.self.now) (Bind c.args.socket e)) ≡ None) c.name_of.ensures (sym c.in-None.ensures)
