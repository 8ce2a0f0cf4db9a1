use Rattle.std.specs.Prelude.{refl}
use Rattle.std.proofs.Common.{sym, subst}
use Rattle.spec_control.specs.ControlRun.{MayBeOver}
use Rattle.spec_control.specs.declared.entry.Did.TheVariants.{Asked}
use Rattle.spec_control.specs.declared.request.Req.TheVariants.{OutputOver}
use Rattle.spec_control.specs.declared.request.Reply.TheVariants.{Done}
use Rattle.desk.specs.declared.given.Given.{Given}
use Rattle.desk.specs.Turns.{HasTurned}
use Rattle.ctl_plane.specs.Carried.{given_in}
use Rattle.ctl_plane.specs.Coming.{ComesWith}
use Rattle.ctl_plane.specs.Hearing.{HasWhat}
use Rattle.ctl_plane.specs.Past.{Past, control_of, with_event}
use Rattle.ctl_plane.proofs.DoneLemmas.{event_now}
use Rattle.ctl_plane.proofs.PlaneLemmas.{planed_now}
use Rattle.ctl_plane.proofs.OwnAskingLemmas.{may_end_over, output_entry, output_plane, output_given, output_keeps, output_turned, output_comes}
use Rattle.ctl_plane.proofs.history.History.output_over.Goals as goal

pub end_over-requires : goal.end_over-requires
end_over-requires g c =
    let may = subst (λ (p : Past (Given g.row.P-Name.Denot g.row.P-Out.Denot g.row.P-In.Denot) g.row.P-Name.Denot g.row.P-Story.Denot). MayBeOver (control_of p) c.args.session.0) (sym c.self.view_is) c.requires.may in
    let has = subst (λ (p : Past (Given g.row.P-Name.Denot g.row.P-Out.Denot g.row.P-In.Denot) g.row.P-Name.Denot g.row.P-Story.Denot). HasWhat p (g.H.Holder.holding c.args.holder.now)) (sym c.self.view_is) c.requires.has in
    let lent = c.requires.lent in
    record { may = may_end_over g.P.Pipes.known.out_name g.P.Pipes.known.in_name c.self.inside.state _ _ c.args.session c.self.invariant may (g.H.Holder.holding c.args.holder.now) has lent }

pub push-requires : goal.push-requires
push-requires g c =
    let may = subst (λ (p : Past (Given g.row.P-Name.Denot g.row.P-Out.Denot g.row.P-In.Denot) g.row.P-Name.Denot g.row.P-Story.Denot). MayBeOver (control_of p) c.args.session.0) (sym c.self.view_is) c.requires.may in
    record { room = output_entry g.P.Pipes.known.out_name g.P.Pipes.known.in_name c.self.inside.state _ _ c.args.session c.self.invariant may (g.H.Holder.holding c.args.holder.now) c.silent.result c.silent.ensures }

pub invariant_of-self : goal.invariant_of-self
invariant_of-self g c =
    let may = subst (λ (p : Past (Given g.row.P-Name.Denot g.row.P-Out.Denot g.row.P-In.Denot) g.row.P-Name.Denot g.row.P-Story.Denot). MayBeOver (control_of p) c.args.session.0) (sym c.self.view_is) c.requires.may in
    let has = subst (λ (p : Past (Given g.row.P-Name.Denot g.row.P-Out.Denot g.row.P-In.Denot) g.row.P-Name.Denot g.row.P-Story.Denot). HasWhat p (g.H.Holder.holding c.args.holder.now)) (sym c.self.view_is) c.requires.has in
    let lent = c.requires.lent in
    let done = c.end_over.ensures (may_end_over g.P.Pipes.known.out_name g.P.Pipes.known.in_name c.self.inside.state _ _ c.args.session c.self.invariant may (g.H.Holder.holding c.args.holder.now) has lent) in
    planed_now g.P.Pipes.known.out_name g.P.Pipes.known.in_name c.end_over.new.state c.self.inside.workers c.self.inside.events c.push.new.self _ _ _ c.push.ensures
    (output_plane g.P.Pipes.known.out_name g.P.Pipes.known.in_name c.self.inside.state _ _ c.args.session c.self.invariant may (g.H.Holder.holding c.args.holder.now) c.silent.result c.silent.ensures c.end_over.new.state (g.H.Holder.holding c.end_over.new.holder) done)

pub returns-clause-notes : goal.returns-clause-notes
returns-clause-notes g c =
    let may = subst (λ (p : Past (Given g.row.P-Name.Denot g.row.P-Out.Denot g.row.P-In.Denot) g.row.P-Name.Denot g.row.P-Story.Denot). MayBeOver (control_of p) c.args.session.0) (sym c.self.view_is) c.requires.may in
    let has = subst (λ (p : Past (Given g.row.P-Name.Denot g.row.P-Out.Denot g.row.P-In.Denot) g.row.P-Name.Denot g.row.P-Story.Denot). HasWhat p (g.H.Holder.holding c.args.holder.now)) (sym c.self.view_is) c.requires.has in
    let lent = c.requires.lent in
    let done = c.end_over.ensures (may_end_over g.P.Pipes.known.out_name g.P.Pipes.known.in_name c.self.inside.state _ _ c.args.session c.self.invariant may (g.H.Holder.holding c.args.holder.now) has lent) in
    record {
      answered = c.silent.result;
      silent = c.silent.ensures;
      step = event_now c.args.self.now c.self.inside.workers c.self.inside.events c.push.new.self _ _ _ (sym c.self.view_is) c.push.ensures (output_given g.P.Pipes.known.out_name g.P.Pipes.known.in_name c.self.inside.state _ _ c.args.session c.self.invariant may (g.H.Holder.holding c.args.holder.now) c.silent.result c.silent.ensures c.end_over.new.state (g.H.Holder.holding c.end_over.new.holder) done);
    }

pub returns-clause-keeps : goal.returns-clause-keeps
returns-clause-keeps g c =
    let inner : Past (Given g.row.P-Name.Denot g.row.P-Out.Denot g.row.P-In.Denot) g.row.P-Name.Denot g.row.P-Story.Denot = record { workers = c.self.inside.workers; events = c.self.inside.events.items; given = given_in c.self.inside.state.boxes } in
    let may = subst (λ (p : Past (Given g.row.P-Name.Denot g.row.P-Out.Denot g.row.P-In.Denot) g.row.P-Name.Denot g.row.P-Story.Denot). MayBeOver (control_of p) c.args.session.0) (sym c.self.view_is) c.requires.may in
    let has = subst (λ (p : Past (Given g.row.P-Name.Denot g.row.P-Out.Denot g.row.P-In.Denot) g.row.P-Name.Denot g.row.P-Story.Denot). HasWhat p (g.H.Holder.holding c.args.holder.now)) (sym c.self.view_is) c.requires.has in
    let lent = c.requires.lent in
    let done = c.end_over.ensures (may_end_over g.P.Pipes.known.out_name g.P.Pipes.known.in_name c.self.inside.state _ _ c.args.session c.self.invariant may (g.H.Holder.holding c.args.holder.now) has lent) in
    subst (λ (p : Past (Given g.row.P-Name.Denot g.row.P-Out.Denot g.row.P-In.Denot) g.row.P-Name.Denot g.row.P-Story.Denot). HasWhat p (g.H.Holder.holding c.end_over.new.holder))
    (sym (event_now inner c.self.inside.workers c.self.inside.events c.push.new.self _ _ _ refl c.push.ensures (output_given g.P.Pipes.known.out_name g.P.Pipes.known.in_name c.self.inside.state _ _ c.args.session c.self.invariant may (g.H.Holder.holding c.args.holder.now) c.silent.result c.silent.ensures c.end_over.new.state (g.H.Holder.holding c.end_over.new.holder) done)))
    (output_keeps g.P.Pipes.known.out_name g.P.Pipes.known.in_name c.self.inside.state _ _ c.args.session c.self.invariant may (g.H.Holder.holding c.args.holder.now) c.silent.result c.silent.ensures c.end_over.new.state (g.H.Holder.holding c.end_over.new.holder) done)

pub returns-clause-turned : goal.returns-clause-turned
returns-clause-turned g c =
    let may = subst (λ (p : Past (Given g.row.P-Name.Denot g.row.P-Out.Denot g.row.P-In.Denot) g.row.P-Name.Denot g.row.P-Story.Denot). MayBeOver (control_of p) c.args.session.0) (sym c.self.view_is) c.requires.may in
    let has = subst (λ (p : Past (Given g.row.P-Name.Denot g.row.P-Out.Denot g.row.P-In.Denot) g.row.P-Name.Denot g.row.P-Story.Denot). HasWhat p (g.H.Holder.holding c.args.holder.now)) (sym c.self.view_is) c.requires.has in
    let lent = c.requires.lent in
    let done = c.end_over.ensures (may_end_over g.P.Pipes.known.out_name g.P.Pipes.known.in_name c.self.inside.state _ _ c.args.session c.self.invariant may (g.H.Holder.holding c.args.holder.now) has lent) in
    let step = event_now c.args.self.now c.self.inside.workers c.self.inside.events c.push.new.self _ _ _ (sym c.self.view_is) c.push.ensures (output_given g.P.Pipes.known.out_name g.P.Pipes.known.in_name c.self.inside.state _ _ c.args.session c.self.invariant may (g.H.Holder.holding c.args.holder.now) c.silent.result c.silent.ensures c.end_over.new.state (g.H.Holder.holding c.end_over.new.holder) done) in
    subst (λ (p : Past (Given g.row.P-Name.Denot g.row.P-Out.Denot g.row.P-In.Denot) g.row.P-Name.Denot g.row.P-Story.Denot). HasTurned (control_of c.args.self.now) (control_of p) (g.H.Holder.holding c.args.holder.now) (g.H.Holder.holding c.end_over.new.holder)) (sym step)
    (subst (λ (p : Past (Given g.row.P-Name.Denot g.row.P-Out.Denot g.row.P-In.Denot) g.row.P-Name.Denot g.row.P-Story.Denot). HasTurned (control_of p) (control_of (with_event (Asked (OutputOver c.args.session) Done c.silent.result) p)) (g.H.Holder.holding c.args.holder.now) (g.H.Holder.holding c.end_over.new.holder)) c.self.view_is
    (output_turned g.P.Pipes.known.out_name g.P.Pipes.known.in_name c.self.inside.state _ _ c.args.session c.self.invariant may (g.H.Holder.holding c.args.holder.now) c.silent.result c.silent.ensures c.end_over.new.state (g.H.Holder.holding c.end_over.new.holder) done))

pub returns-clause-joins : goal.returns-clause-joins
returns-clause-joins g c =
    let may = subst (λ (p : Past (Given g.row.P-Name.Denot g.row.P-Out.Denot g.row.P-In.Denot) g.row.P-Name.Denot g.row.P-Story.Denot). MayBeOver (control_of p) c.args.session.0) (sym c.self.view_is) c.requires.may in
    let has = subst (λ (p : Past (Given g.row.P-Name.Denot g.row.P-Out.Denot g.row.P-In.Denot) g.row.P-Name.Denot g.row.P-Story.Denot). HasWhat p (g.H.Holder.holding c.args.holder.now)) (sym c.self.view_is) c.requires.has in
    let lent = c.requires.lent in
    let done = c.end_over.ensures (may_end_over g.P.Pipes.known.out_name g.P.Pipes.known.in_name c.self.inside.state _ _ c.args.session c.self.invariant may (g.H.Holder.holding c.args.holder.now) has lent) in
    let step = event_now c.args.self.now c.self.inside.workers c.self.inside.events c.push.new.self _ _ _ (sym c.self.view_is) c.push.ensures (output_given g.P.Pipes.known.out_name g.P.Pipes.known.in_name c.self.inside.state _ _ c.args.session c.self.invariant may (g.H.Holder.holding c.args.holder.now) c.silent.result c.silent.ensures c.end_over.new.state (g.H.Holder.holding c.end_over.new.holder) done) in
    subst (λ (p : Past (Given g.row.P-Name.Denot g.row.P-Out.Denot g.row.P-In.Denot) g.row.P-Name.Denot g.row.P-Story.Denot). ComesWith c.args.self.now p (g.H.Holder.holding c.args.holder.now) (g.H.Holder.holding c.end_over.new.holder)) (sym step)
    (subst (λ (p : Past (Given g.row.P-Name.Denot g.row.P-Out.Denot g.row.P-In.Denot) g.row.P-Name.Denot g.row.P-Story.Denot). ComesWith p (with_event (Asked (OutputOver c.args.session) Done c.silent.result) p) (g.H.Holder.holding c.args.holder.now) (g.H.Holder.holding c.end_over.new.holder)) c.self.view_is
    (output_comes g.P.Pipes.known.out_name g.P.Pipes.known.in_name c.self.inside.state _ _ c.args.session c.self.invariant may (g.H.Holder.holding c.args.holder.now) c.silent.result c.silent.ensures c.end_over.new.state (g.H.Holder.holding c.end_over.new.holder) done))
