use Rattle.spec_control.specs.declared.request.Reply.TheVariants.{Refused}
use Rattle.spec_control.specs.declared.entry.Did.TheVariants.{Asked}
use Rattle.std.specs.Prelude.{refl, ◌≡◌, None, IfOk, Some}
use Rattle.std.proofs.Common.{sym, subst, ap, ◌∙◌}
use Rattle.zq_base.specs.declared.endpoint.Endpoint.TheVariants.{Inproc}
use Rattle.spec_control.specs.declared.request.Req.TheVariants.{Connect}
use Rattle.spec_control.specs.Reply.{reply_of, connect_reply}
use Rattle.desk.specs.declared.given.Given.{Given}
use Rattle.ctl_plane.specs.Hearing.{HasWhat}
use Rattle.ctl_plane.specs.Past.{Past, control_of, with_event}
use Rattle.ctl_plane.proofs.NamedPlaneLemmas.{keeps_refused, keeps_waiting, no_ends}
use Rattle.ctl_plane.proofs.RefusalLemmas.{refusal_is, lives_still}
use Rattle.desk.specs.Turns.{HasTurned}
use Rattle.ctl_moves.proofs.TurnedLemmas.{turns_same}
use Rattle.ctl_plane.proofs.ToldLemmas.{past_told, refused_told, waiting_told}
use Rattle.ctl_plane.specs.Coming.{ComesWith}
use Rattle.ctl_plane.proofs.ComeLemmas.{aside_comes, past_comes}
use Rattle.ctl_state.proofs.KeptLemmas.{so_on_err}
use Rattle.ctl_moves.proofs.BindingLemmas.{stays_itself}
use Rattle.zq_base.specs.declared.endpoint.Endpoint.{Endpoint}
use Rattle.ctl_plane.specs.Carried.{given_in}
use Rattle.desk.specs.Making.{MakesSo}
use Rattle.spec_control.specs.After.{answers_in}
use Rattle.ctl_plane.proofs.StillLemmas.{answered_still, connect_still}
use Rattle.ctl_moves.specs.Refusals.{refusal_in}
use Rattle.ctl_plane.specs.Joining.{NotesRequest}
use Rattle.ctl_moves.proofs.BetweenLemmas.{stay_here}
use Rattle.ctl_plane.proofs.history.History.connect.Goals as goal

pub refuse-requires-clause-refused : goal.refuse-requires-clause-refused
refuse-requires-clause-refused g c = refusal_is (reply_of (control_of c.args.self.now) (Connect c.args.socket (Inproc c.args.name))) c.in-Some.refusal c.in-Some.ensures

pub returns-in-Some-clause-reply : goal.returns-in-Some-clause-reply
returns-in-Some-clause-reply g c = sym (refusal_is (reply_of (control_of c.args.self.now) (Connect c.args.socket (Inproc c.args.name))) c.in-Some.refusal c.in-Some.ensures)

pub returns-in-Some-clause-keeps : goal.returns-in-Some-clause-keeps
returns-in-Some-clause-keeps g c =
    subst (λ (p : Past (Given g.row.P-Name.Denot g.row.P-Out.Denot g.row.P-In.Denot) g.row.P-Name.Denot g.row.P-Story.Denot). HasWhat p (g.H.Holder.holding c.args.holder.now)) (sym c.in_ok-refuse.ensures.ok)
    (keeps_refused c.args.self.now (Connect c.args.socket (Inproc c.args.name)) c.in-Some.refusal c.silent.result (g.H.Holder.holding c.args.holder.now) c.requires.has)

pub returns-in-Some-clause-turned : goal.returns-in-Some-clause-turned
returns-in-Some-clause-turned g c =
    subst (λ (p : Past (Given g.row.P-Name.Denot g.row.P-Out.Denot g.row.P-In.Denot) g.row.P-Name.Denot g.row.P-Story.Denot). HasTurned (control_of c.args.self.now) (control_of p) (g.H.Holder.holding c.args.holder.now) (g.H.Holder.holding c.args.holder.now)) (sym c.in_ok-refuse.ensures.ok)
    (refused_told c.args.self.now (Connect c.args.socket (Inproc c.args.name)) c.in-Some.refusal c.silent.result (g.H.Holder.holding c.args.holder.now))

pub returns-in_err-refuse-clause-turned : goal.returns-in_err-refuse-clause-turned
returns-in_err-refuse-clause-turned g c =
    subst (λ (p : Past (Given g.row.P-Name.Denot g.row.P-Out.Denot g.row.P-In.Denot) g.row.P-Name.Denot g.row.P-Story.Denot). HasTurned (control_of c.args.self.now) (control_of p) (g.H.Holder.holding c.args.holder.now) (g.H.Holder.holding c.args.holder.now)) (sym c.in_err-refuse.ensures.err)
    (past_told c.args.self.now (g.H.Holder.holding c.args.holder.now) (g.H.Holder.holding c.args.holder.now) (turns_same (g.H.Holder.holding c.args.holder.now)))

pub returns-in-Some-clause-joins : goal.returns-in-Some-clause-joins
returns-in-Some-clause-joins g c =
    subst (λ (p : Past (Given g.row.P-Name.Denot g.row.P-Out.Denot g.row.P-In.Denot) g.row.P-Name.Denot g.row.P-Story.Denot). ComesWith c.args.self.now p (g.H.Holder.holding c.args.holder.now) (g.H.Holder.holding c.args.holder.now)) (sym c.in_ok-refuse.ensures.ok)
    (aside_comes c.args.self.now (Asked (Connect c.args.socket (Inproc c.args.name)) (Refused c.in-Some.refusal) c.silent.result) (g.H.Holder.holding c.args.holder.now) (g.H.Holder.holding c.args.holder.now) c.silent.ensures.joined refl (λ i. refl) (λ i. refl) (stay_here (control_of c.args.self.now).rows) (λ b n. refl) refl)

pub returns-in_err-refuse-clause-joins : goal.returns-in_err-refuse-clause-joins
returns-in_err-refuse-clause-joins g c =
    subst (λ (p : Past (Given g.row.P-Name.Denot g.row.P-Out.Denot g.row.P-In.Denot) g.row.P-Name.Denot g.row.P-Story.Denot). ComesWith c.args.self.now p (g.H.Holder.holding c.args.holder.now) (g.H.Holder.holding c.args.holder.now)) (sym c.in_err-refuse.ensures.err)
    (past_comes c.args.self.now (g.H.Holder.holding c.args.holder.now) (g.H.Holder.holding c.args.holder.now) refl (λ i. refl) (λ i. refl) refl)

pub refuse-requires-clause-may : goal.refuse-requires-clause-may
refuse-requires-clause-may g c = c.requires.lends.socket

pub refuse-requires-clause-silent : goal.refuse-requires-clause-silent
refuse-requires-clause-silent g c = c.silent.ensures

pub returns-in-Some-clause-same : goal.returns-in-Some-clause-same
returns-in-Some-clause-same g c = record { objects = λ i. refl; kinds = λ i. refl; output = λ i. refl }

pub returns-in_err-refuse-clause-same : goal.returns-in_err-refuse-clause-same
returns-in_err-refuse-clause-same g c = record { objects = λ i. refl; kinds = λ i. refl; output = λ i. refl }

pub returns-in_err-refuse-clause-keeps : goal.returns-in_err-refuse-clause-keeps
returns-in_err-refuse-clause-keeps g c = subst (λ (p : Past (Given g.row.P-Name.Denot g.row.P-Out.Denot g.row.P-In.Denot) g.row.P-Name.Denot g.row.P-Story.Denot). HasWhat p (g.H.Holder.holding c.args.holder.now)) (sym c.in_err-refuse.ensures.err) c.requires.has

pub returns-in_err-refuse-clause-err : goal.returns-in_err-refuse-clause-err
returns-in_err-refuse-clause-err g c = so_on_err _ c.from_residual.result (c.in_err-refuse.ensures.err, stays_itself (g.H.Holder.holding c.args.holder.now) c.args.socket.0)

pub returns-in-None-clause-ok : goal.returns-in-None-clause-ok
returns-in-None-clause-ok g c = record {
  answered = c.silent-in-None.result;
  step = subst (λ (e : Endpoint). c.connect_waits.new.self ≡ with_event (Asked (Connect c.args.socket e) c.in_ok-reply-in-None.reply c.silent-in-None.result) c.args.self.now) (sym c.name_of-name.ensures) c.in_ok-reply-in-None.ensures.ok;
  ends = no_ends c.args.socket.0 (g.H.Holder.holding c.args.holder.now) c.silent-in-None.result c.silent-in-None.ensures;
}

pub returns-in-None-clause-keeps : goal.returns-in-None-clause-keeps
returns-in-None-clause-keeps g c =
    let inner : Past (Given g.row.P-Name.Denot g.row.P-Out.Denot g.row.P-In.Denot) g.row.P-Name.Denot g.row.P-Story.Denot = record { workers = c.self.inside.workers; events = c.self.inside.events.items; given = given_in c.self.inside.state.boxes } in
    let none = sym (c.find-found.ensures (control_of inner) c.self.invariant.history.stands) ∙ c.in-None.is in
    let free = subst (λ (p : Past (Given g.row.P-Name.Denot g.row.P-Out.Denot g.row.P-In.Denot) g.row.P-Name.Denot g.row.P-Story.Denot). (control_of p).names.held (Inproc c.name_of-name.result) ≡ None) c.self.view_is
    (ap (control_of inner).names.held (sym c.name_of-name.ensures) ∙ none) in
    subst (λ (p : Past (Given g.row.P-Name.Denot g.row.P-Out.Denot g.row.P-In.Denot) g.row.P-Name.Denot g.row.P-Story.Denot). HasWhat p (g.H.Holder.holding c.args.holder.now)) (sym c.in_ok-reply-in-None.ensures.ok)
    (keeps_waiting c.args.self.now c.args.socket c.name_of-name.result c.silent-in-None.result (g.H.Holder.holding c.args.holder.now) free c.requires.has c.in_ok-reply-in-None.reply)

pub returns-in-None-clause-turned : goal.returns-in-None-clause-turned
returns-in-None-clause-turned g c =
    let inner : Past (Given g.row.P-Name.Denot g.row.P-Out.Denot g.row.P-In.Denot) g.row.P-Name.Denot g.row.P-Story.Denot = record { workers = c.self.inside.workers; events = c.self.inside.events.items; given = given_in c.self.inside.state.boxes } in
    let none = sym (c.find-found.ensures (control_of inner) c.self.invariant.history.stands) ∙ c.in-None.is in
    let free = subst (λ (p : Past (Given g.row.P-Name.Denot g.row.P-Out.Denot g.row.P-In.Denot) g.row.P-Name.Denot g.row.P-Story.Denot). (control_of p).names.held (Inproc c.name_of-name.result) ≡ None) c.self.view_is
    (ap (control_of inner).names.held (sym c.name_of-name.ensures) ∙ none) in
    subst (λ (p : Past (Given g.row.P-Name.Denot g.row.P-Out.Denot g.row.P-In.Denot) g.row.P-Name.Denot g.row.P-Story.Denot). HasTurned (control_of c.args.self.now) (control_of p) (g.H.Holder.holding c.args.holder.now) (g.H.Holder.holding c.args.holder.now)) (sym c.in_ok-reply-in-None.ensures.ok)
    (waiting_told c.args.self.now c.args.socket c.name_of-name.result c.silent-in-None.result (g.H.Holder.holding c.args.holder.now) free c.in_ok-reply-in-None.reply)

pub returns-in_err-reply-in-None-clause-turned : goal.returns-in_err-reply-in-None-clause-turned
returns-in_err-reply-in-None-clause-turned g c =
    subst (λ (p : Past (Given g.row.P-Name.Denot g.row.P-Out.Denot g.row.P-In.Denot) g.row.P-Name.Denot g.row.P-Story.Denot). HasTurned (control_of c.args.self.now) (control_of p) (g.H.Holder.holding c.args.holder.now) (g.H.Holder.holding c.args.holder.now)) (sym c.in_err-reply-in-None.ensures.err)
    (past_told c.args.self.now (g.H.Holder.holding c.args.holder.now) (g.H.Holder.holding c.args.holder.now) (turns_same (g.H.Holder.holding c.args.holder.now)))

pub returns-in-None-clause-joins : goal.returns-in-None-clause-joins
returns-in-None-clause-joins g c =
    subst (λ (p : Past (Given g.row.P-Name.Denot g.row.P-Out.Denot g.row.P-In.Denot) g.row.P-Name.Denot g.row.P-Story.Denot). ComesWith c.args.self.now p (g.H.Holder.holding c.args.holder.now) (g.H.Holder.holding c.args.holder.now)) (sym c.in_ok-reply-in-None.ensures.ok)
    (aside_comes c.args.self.now (Asked (Connect c.args.socket (Inproc c.name_of-name.result)) c.in_ok-reply-in-None.reply c.silent-in-None.result) (g.H.Holder.holding c.args.holder.now) (g.H.Holder.holding c.args.holder.now) c.silent-in-None.ensures.joined refl (λ i. refl) (λ i. refl)
    (answered_still (Connect c.args.socket (Inproc c.name_of-name.result)) c.in_ok-reply-in-None.reply (answers_in c.silent-in-None.result) (control_of c.args.self.now) (connect_still c.args.socket c.name_of-name.result (answers_in c.silent-in-None.result) (control_of c.args.self.now)))
    (λ b n. refl) refl)

pub returns-in_err-reply-in-None-clause-joins : goal.returns-in_err-reply-in-None-clause-joins
returns-in_err-reply-in-None-clause-joins g c =
    subst (λ (p : Past (Given g.row.P-Name.Denot g.row.P-Out.Denot g.row.P-In.Denot) g.row.P-Name.Denot g.row.P-Story.Denot). ComesWith c.args.self.now p (g.H.Holder.holding c.args.holder.now) (g.H.Holder.holding c.args.holder.now)) (sym c.in_err-reply-in-None.ensures.err)
    (past_comes c.args.self.now (g.H.Holder.holding c.args.holder.now) (g.H.Holder.holding c.args.holder.now) refl (λ i. refl) (λ i. refl) refl)

pub connect_held-requires-clause-makes : goal.connect_held-requires-clause-makes
connect_held-requires-clause-makes g c = subst (λ (e : Endpoint). MakesSo (control_of c.args.self.now) (Connect c.args.socket e) g.H.Holder.may_make) c.name_of-name.ensures c.requires.makes

pub returns-in-Some-found-clause-err : goal.returns-in-Some-found-clause-err
returns-in-Some-found-clause-err g c = c.connect_held.ensures.err

pub returns-in-Some-found-clause-same : goal.returns-in-Some-found-clause-same
returns-in-Some-found-clause-same g c = c.connect_held.ensures.same

pub returns-in-Some-found-clause-keeps : goal.returns-in-Some-found-clause-keeps
returns-in-Some-found-clause-keeps g c = c.connect_held.ensures.keeps

pub returns-in-Some-found-clause-turned : goal.returns-in-Some-found-clause-turned
returns-in-Some-found-clause-turned g c = c.connect_held.ensures.turned

pub returns-in-Some-found-clause-joins : goal.returns-in-Some-found-clause-joins
returns-in-Some-found-clause-joins g c = c.connect_held.ensures.joins

pub connect_held-requires-clause-lends : goal.connect_held-requires-clause-lends
connect_held-requires-clause-lends g c = c.requires.lends

pub connect_held-requires-clause-wakers : goal.connect_held-requires-clause-wakers
connect_held-requires-clause-wakers g c = c.requires.wakers

pub connect_held-requires-clause-has : goal.connect_held-requires-clause-has
connect_held-requires-clause-has g c = c.requires.has

pub connect_held-requires-clause-calm : goal.connect_held-requires-clause-calm
connect_held-requires-clause-calm g c = c.requires.calm

pub connect_waits-requires-clause-silent : goal.connect_waits-requires-clause-silent
connect_waits-requires-clause-silent g c = c.silent-in-None.ensures

pub returns-in-None-clause-same : goal.returns-in-None-clause-same
returns-in-None-clause-same g c = record { objects = λ i. refl; kinds = λ i. refl; output = λ i. refl }

pub returns-in_err-reply-in-None-clause-same : goal.returns-in_err-reply-in-None-clause-same
returns-in_err-reply-in-None-clause-same g c = record { objects = λ i. refl; kinds = λ i. refl; output = λ i. refl }

pub returns-in_err-reply-in-None-clause-err : goal.returns-in_err-reply-in-None-clause-err
returns-in_err-reply-in-None-clause-err g c = so_on_err _ c.from_residual-in_err-reply-in-None.result (c.in_err-reply-in-None.ensures.err, stays_itself (g.H.Holder.holding c.args.holder.now) c.args.socket.0)

pub returns-in_err-reply-in-None-clause-keeps : goal.returns-in_err-reply-in-None-clause-keeps
returns-in_err-reply-in-None-clause-keeps g c = subst (λ (p : Past (Given g.row.P-Name.Denot g.row.P-Out.Denot g.row.P-In.Denot) g.row.P-Name.Denot g.row.P-Story.Denot). HasWhat p (g.H.Holder.holding c.args.holder.now)) (sym c.in_err-reply-in-None.ensures.err) c.requires.has

pub connect_waits-requires-clause-may : goal.connect_waits-requires-clause-may
connect_waits-requires-clause-may g c =
    let inner : Past (Given g.row.P-Name.Denot g.row.P-Out.Denot g.row.P-In.Denot) g.row.P-Name.Denot g.row.P-Story.Denot = record { workers = c.self.inside.workers; events = c.self.inside.events.items; given = given_in c.self.inside.state.boxes } in
    let none = sym (c.find-found.ensures (control_of inner) c.self.invariant.history.stands) ∙ c.in-None.is in
    let free = subst (λ (p : Past (Given g.row.P-Name.Denot g.row.P-Out.Denot g.row.P-In.Denot) g.row.P-Name.Denot g.row.P-Story.Denot). (control_of p).names.held (Inproc c.name_of-name.result) ≡ None) c.self.view_is
    (ap (control_of inner).names.held (sym c.name_of-name.ensures) ∙ none) in
    record {
      socket = c.requires.lends.socket;
      lives = lives_still (control_of c.args.self.now) (connect_reply c.args.socket.0 (Inproc c.args.name) (control_of c.args.self.now)) (sym c.in_default.ensures);
      free = free;
    }

pub connect_held-requires-clause-free : goal.connect_held-requires-clause-free
connect_held-requires-clause-free g c =
    subst (λ (e : Endpoint). refusal_in (reply_of (control_of c.args.self.now) (Connect c.args.socket e)) ≡ None) c.name_of-name.ensures (sym c.in_default.ensures)

pub returns-in-Some-found-clause-ok : goal.returns-in-Some-found-clause-ok
returns-in-Some-found-clause-ok g c =
    subst (λ (e : Endpoint). IfOk c.connect_held.result (λ reply. NotesRequest c.args.socket (Connect c.args.socket e) reply c.args.self.now c.connect_held.new.self (g.H.Holder.holding c.args.holder.now) (g.H.Holder.holding c.connect_held.new.holder))) (sym c.name_of-name.ensures) c.connect_held.ensures.ok

pub returns-in-Some-found-clause-reply : goal.returns-in-Some-found-clause-reply
returns-in-Some-found-clause-reply g c =
    subst (λ (e : Endpoint). IfOk c.connect_held.result (λ reply. reply ≡ reply_of (control_of c.args.self.now) (Connect c.args.socket e))) (sym c.name_of-name.ensures) c.connect_held.ensures.reply

pub returns-in-None-clause-reply : goal.returns-in-None-clause-reply
returns-in-None-clause-reply g c =
    subst (λ (e : Endpoint). c.in_ok-reply-in-None.reply ≡ reply_of (control_of c.args.self.now) (Connect c.args.socket e)) (sym c.name_of-name.ensures) c.in_ok-reply-in-None.ensures.reply

pub connect_held-requires-clause-held : goal.connect_held-requires-clause-held
connect_held-requires-clause-held g c =
    let inner : Past (Given g.row.P-Name.Denot g.row.P-Out.Denot g.row.P-In.Denot) g.row.P-Name.Denot g.row.P-Story.Denot = record { workers = c.self.inside.workers; events = c.self.inside.events.items; given = given_in c.self.inside.state.boxes } in
    subst (λ (p : Past (Given g.row.P-Name.Denot g.row.P-Out.Denot g.row.P-In.Denot) g.row.P-Name.Denot g.row.P-Story.Denot). (control_of p).names.held (Inproc c.name_of-name.result) ≡ Some c.in-Some-found.binding) c.self.view_is
    (ap (control_of inner).names.held (sym c.name_of-name.ensures) ∙ sym (c.find-found.ensures (control_of inner) c.self.invariant.history.stands) ∙ c.in-Some-found.is)
