use Rattle.std.specs.Prelude.{◌≡◌, true, refl}
use Rattle.std.proofs.Common.{sym, subst}
use Rattle.spec_control.specs.ControlRun.{MayAskEnd}
use Rattle.spec_control.specs.Control.{owner_of}
use Rattle.spec_control.specs.declared.entry.Did.TheVariants.{Asked}
use Rattle.spec_control.specs.declared.request.Req.TheVariants.{AskEnd}
use Rattle.spec_control.specs.declared.request.Reply.TheVariants.{Done}
use Rattle.desk.specs.declared.given.Given.{Given}
use Rattle.desk.specs.Turns.{HasTurned}
use Rattle.ctl_plane.specs.Carried.{given_in}
use Rattle.ctl_plane.specs.Coming.{ComesWith}
use Rattle.ctl_plane.specs.Hearing.{HasWhat}
use Rattle.ctl_plane.specs.Past.{Past, control_of, with_event}
use Rattle.ctl_plane.proofs.DoneLemmas.{event_now}
use Rattle.ctl_plane.proofs.PlaneLemmas.{planed_now}
use Rattle.ctl_plane.proofs.OwnAskingLemmas.{may_ask_own, end_entry, end_plane, end_given, end_keeps, end_turned, end_comes}
use Rattle.ctl_plane.proofs.history.History.ask_end.Goals as goal

pub ask_own-requires : goal.ask_own-requires
ask_own-requires g c =
    let may = subst (λ (p : Past (Given g.row.P-Name.Denot g.row.P-Out.Denot g.row.P-In.Denot) g.row.P-Name.Denot g.row.P-Story.Denot). MayAskEnd (control_of p) c.args.e c.args.reason) (sym c.self.view_is) c.requires.may in
    let has = subst (λ (p : Past (Given g.row.P-Name.Denot g.row.P-Out.Denot g.row.P-In.Denot) g.row.P-Name.Denot g.row.P-Story.Denot). HasWhat p (g.H.Holder.holding c.args.holder.now)) (sym c.self.view_is) c.requires.has in
    let lent = subst (λ (p : Past (Given g.row.P-Name.Denot g.row.P-Out.Denot g.row.P-In.Denot) g.row.P-Name.Denot g.row.P-Story.Denot). (g.H.Holder.holding c.args.holder.now).holds (owner_of (control_of p) c.args.e) ≡ true) (sym c.self.view_is) c.requires.lent in
    record { may = may_ask_own g.P.Pipes.known.out_name g.P.Pipes.known.in_name c.self.inside.state _ _ c.args.e c.args.reason c.self.invariant may (g.H.Holder.holding c.args.holder.now) has lent }

pub push-requires : goal.push-requires
push-requires g c =
    let may = subst (λ (p : Past (Given g.row.P-Name.Denot g.row.P-Out.Denot g.row.P-In.Denot) g.row.P-Name.Denot g.row.P-Story.Denot). MayAskEnd (control_of p) c.args.e c.args.reason) (sym c.self.view_is) c.requires.may in
    record { room = end_entry g.P.Pipes.known.out_name g.P.Pipes.known.in_name c.self.inside.state _ _ c.args.e c.args.reason c.self.invariant may (g.H.Holder.holding c.args.holder.now) c.silent.result c.silent.ensures }

pub invariant_of-self : goal.invariant_of-self
invariant_of-self g c =
    let may = subst (λ (p : Past (Given g.row.P-Name.Denot g.row.P-Out.Denot g.row.P-In.Denot) g.row.P-Name.Denot g.row.P-Story.Denot). MayAskEnd (control_of p) c.args.e c.args.reason) (sym c.self.view_is) c.requires.may in
    let has = subst (λ (p : Past (Given g.row.P-Name.Denot g.row.P-Out.Denot g.row.P-In.Denot) g.row.P-Name.Denot g.row.P-Story.Denot). HasWhat p (g.H.Holder.holding c.args.holder.now)) (sym c.self.view_is) c.requires.has in
    let lent = subst (λ (p : Past (Given g.row.P-Name.Denot g.row.P-Out.Denot g.row.P-In.Denot) g.row.P-Name.Denot g.row.P-Story.Denot). (g.H.Holder.holding c.args.holder.now).holds (owner_of (control_of p) c.args.e) ≡ true) (sym c.self.view_is) c.requires.lent in
    let done = c.ask_own.ensures (may_ask_own g.P.Pipes.known.out_name g.P.Pipes.known.in_name c.self.inside.state _ _ c.args.e c.args.reason c.self.invariant may (g.H.Holder.holding c.args.holder.now) has lent) in
    planed_now g.P.Pipes.known.out_name g.P.Pipes.known.in_name c.ask_own.new.state c.self.inside.workers c.self.inside.events c.push.new.self _ _ _ c.push.ensures
    (end_plane g.P.Pipes.known.out_name g.P.Pipes.known.in_name c.self.inside.state _ _ c.args.e c.args.reason c.self.invariant may (g.H.Holder.holding c.args.holder.now) c.silent.result c.silent.ensures c.ask_own.new.state (g.H.Holder.holding c.ask_own.new.holder) done)

pub returns-clause-notes : goal.returns-clause-notes
returns-clause-notes g c =
    let may = subst (λ (p : Past (Given g.row.P-Name.Denot g.row.P-Out.Denot g.row.P-In.Denot) g.row.P-Name.Denot g.row.P-Story.Denot). MayAskEnd (control_of p) c.args.e c.args.reason) (sym c.self.view_is) c.requires.may in
    let has = subst (λ (p : Past (Given g.row.P-Name.Denot g.row.P-Out.Denot g.row.P-In.Denot) g.row.P-Name.Denot g.row.P-Story.Denot). HasWhat p (g.H.Holder.holding c.args.holder.now)) (sym c.self.view_is) c.requires.has in
    let lent = subst (λ (p : Past (Given g.row.P-Name.Denot g.row.P-Out.Denot g.row.P-In.Denot) g.row.P-Name.Denot g.row.P-Story.Denot). (g.H.Holder.holding c.args.holder.now).holds (owner_of (control_of p) c.args.e) ≡ true) (sym c.self.view_is) c.requires.lent in
    let done = c.ask_own.ensures (may_ask_own g.P.Pipes.known.out_name g.P.Pipes.known.in_name c.self.inside.state _ _ c.args.e c.args.reason c.self.invariant may (g.H.Holder.holding c.args.holder.now) has lent) in
    record {
      answered = c.silent.result;
      silent = c.silent.ensures;
      step = event_now c.args.self.now c.self.inside.workers c.self.inside.events c.push.new.self _ _ _ (sym c.self.view_is) c.push.ensures (end_given g.P.Pipes.known.out_name g.P.Pipes.known.in_name c.self.inside.state _ _ c.args.e c.args.reason c.self.invariant may (g.H.Holder.holding c.args.holder.now) c.silent.result c.silent.ensures c.ask_own.new.state (g.H.Holder.holding c.ask_own.new.holder) done);
    }

pub returns-clause-keeps : goal.returns-clause-keeps
returns-clause-keeps g c =
    let inner : Past (Given g.row.P-Name.Denot g.row.P-Out.Denot g.row.P-In.Denot) g.row.P-Name.Denot g.row.P-Story.Denot = record { workers = c.self.inside.workers; events = c.self.inside.events.items; given = given_in c.self.inside.state.boxes } in
    let may = subst (λ (p : Past (Given g.row.P-Name.Denot g.row.P-Out.Denot g.row.P-In.Denot) g.row.P-Name.Denot g.row.P-Story.Denot). MayAskEnd (control_of p) c.args.e c.args.reason) (sym c.self.view_is) c.requires.may in
    let has = subst (λ (p : Past (Given g.row.P-Name.Denot g.row.P-Out.Denot g.row.P-In.Denot) g.row.P-Name.Denot g.row.P-Story.Denot). HasWhat p (g.H.Holder.holding c.args.holder.now)) (sym c.self.view_is) c.requires.has in
    let lent = subst (λ (p : Past (Given g.row.P-Name.Denot g.row.P-Out.Denot g.row.P-In.Denot) g.row.P-Name.Denot g.row.P-Story.Denot). (g.H.Holder.holding c.args.holder.now).holds (owner_of (control_of p) c.args.e) ≡ true) (sym c.self.view_is) c.requires.lent in
    let done = c.ask_own.ensures (may_ask_own g.P.Pipes.known.out_name g.P.Pipes.known.in_name c.self.inside.state _ _ c.args.e c.args.reason c.self.invariant may (g.H.Holder.holding c.args.holder.now) has lent) in
    subst (λ (p : Past (Given g.row.P-Name.Denot g.row.P-Out.Denot g.row.P-In.Denot) g.row.P-Name.Denot g.row.P-Story.Denot). HasWhat p (g.H.Holder.holding c.ask_own.new.holder))
    (sym (event_now inner c.self.inside.workers c.self.inside.events c.push.new.self _ _ _ refl c.push.ensures (end_given g.P.Pipes.known.out_name g.P.Pipes.known.in_name c.self.inside.state _ _ c.args.e c.args.reason c.self.invariant may (g.H.Holder.holding c.args.holder.now) c.silent.result c.silent.ensures c.ask_own.new.state (g.H.Holder.holding c.ask_own.new.holder) done)))
    (end_keeps g.P.Pipes.known.out_name g.P.Pipes.known.in_name c.self.inside.state _ _ c.args.e c.args.reason c.self.invariant may (g.H.Holder.holding c.args.holder.now) c.silent.result c.silent.ensures c.ask_own.new.state (g.H.Holder.holding c.ask_own.new.holder) done)

pub returns-clause-turned : goal.returns-clause-turned
returns-clause-turned g c =
    let may = subst (λ (p : Past (Given g.row.P-Name.Denot g.row.P-Out.Denot g.row.P-In.Denot) g.row.P-Name.Denot g.row.P-Story.Denot). MayAskEnd (control_of p) c.args.e c.args.reason) (sym c.self.view_is) c.requires.may in
    let has = subst (λ (p : Past (Given g.row.P-Name.Denot g.row.P-Out.Denot g.row.P-In.Denot) g.row.P-Name.Denot g.row.P-Story.Denot). HasWhat p (g.H.Holder.holding c.args.holder.now)) (sym c.self.view_is) c.requires.has in
    let lent = subst (λ (p : Past (Given g.row.P-Name.Denot g.row.P-Out.Denot g.row.P-In.Denot) g.row.P-Name.Denot g.row.P-Story.Denot). (g.H.Holder.holding c.args.holder.now).holds (owner_of (control_of p) c.args.e) ≡ true) (sym c.self.view_is) c.requires.lent in
    let done = c.ask_own.ensures (may_ask_own g.P.Pipes.known.out_name g.P.Pipes.known.in_name c.self.inside.state _ _ c.args.e c.args.reason c.self.invariant may (g.H.Holder.holding c.args.holder.now) has lent) in
    let step = event_now c.args.self.now c.self.inside.workers c.self.inside.events c.push.new.self _ _ _ (sym c.self.view_is) c.push.ensures (end_given g.P.Pipes.known.out_name g.P.Pipes.known.in_name c.self.inside.state _ _ c.args.e c.args.reason c.self.invariant may (g.H.Holder.holding c.args.holder.now) c.silent.result c.silent.ensures c.ask_own.new.state (g.H.Holder.holding c.ask_own.new.holder) done) in
    subst (λ (p : Past (Given g.row.P-Name.Denot g.row.P-Out.Denot g.row.P-In.Denot) g.row.P-Name.Denot g.row.P-Story.Denot). HasTurned (control_of c.args.self.now) (control_of p) (g.H.Holder.holding c.args.holder.now) (g.H.Holder.holding c.ask_own.new.holder)) (sym step)
    (subst (λ (p : Past (Given g.row.P-Name.Denot g.row.P-Out.Denot g.row.P-In.Denot) g.row.P-Name.Denot g.row.P-Story.Denot). HasTurned (control_of p) (control_of (with_event (Asked (AskEnd c.args.e c.args.reason) Done c.silent.result) p)) (g.H.Holder.holding c.args.holder.now) (g.H.Holder.holding c.ask_own.new.holder)) c.self.view_is
    (end_turned g.P.Pipes.known.out_name g.P.Pipes.known.in_name c.self.inside.state _ _ c.args.e c.args.reason c.self.invariant may (g.H.Holder.holding c.args.holder.now) c.silent.result c.silent.ensures c.ask_own.new.state (g.H.Holder.holding c.ask_own.new.holder) done))

pub returns-clause-joins : goal.returns-clause-joins
returns-clause-joins g c =
    let may = subst (λ (p : Past (Given g.row.P-Name.Denot g.row.P-Out.Denot g.row.P-In.Denot) g.row.P-Name.Denot g.row.P-Story.Denot). MayAskEnd (control_of p) c.args.e c.args.reason) (sym c.self.view_is) c.requires.may in
    let has = subst (λ (p : Past (Given g.row.P-Name.Denot g.row.P-Out.Denot g.row.P-In.Denot) g.row.P-Name.Denot g.row.P-Story.Denot). HasWhat p (g.H.Holder.holding c.args.holder.now)) (sym c.self.view_is) c.requires.has in
    let lent = subst (λ (p : Past (Given g.row.P-Name.Denot g.row.P-Out.Denot g.row.P-In.Denot) g.row.P-Name.Denot g.row.P-Story.Denot). (g.H.Holder.holding c.args.holder.now).holds (owner_of (control_of p) c.args.e) ≡ true) (sym c.self.view_is) c.requires.lent in
    let done = c.ask_own.ensures (may_ask_own g.P.Pipes.known.out_name g.P.Pipes.known.in_name c.self.inside.state _ _ c.args.e c.args.reason c.self.invariant may (g.H.Holder.holding c.args.holder.now) has lent) in
    let step = event_now c.args.self.now c.self.inside.workers c.self.inside.events c.push.new.self _ _ _ (sym c.self.view_is) c.push.ensures (end_given g.P.Pipes.known.out_name g.P.Pipes.known.in_name c.self.inside.state _ _ c.args.e c.args.reason c.self.invariant may (g.H.Holder.holding c.args.holder.now) c.silent.result c.silent.ensures c.ask_own.new.state (g.H.Holder.holding c.ask_own.new.holder) done) in
    subst (λ (p : Past (Given g.row.P-Name.Denot g.row.P-Out.Denot g.row.P-In.Denot) g.row.P-Name.Denot g.row.P-Story.Denot). ComesWith c.args.self.now p (g.H.Holder.holding c.args.holder.now) (g.H.Holder.holding c.ask_own.new.holder)) (sym step)
    (subst (λ (p : Past (Given g.row.P-Name.Denot g.row.P-Out.Denot g.row.P-In.Denot) g.row.P-Name.Denot g.row.P-Story.Denot). ComesWith p (with_event (Asked (AskEnd c.args.e c.args.reason) Done c.silent.result) p) (g.H.Holder.holding c.args.holder.now) (g.H.Holder.holding c.ask_own.new.holder)) c.self.view_is
    (end_comes g.P.Pipes.known.out_name g.P.Pipes.known.in_name c.self.inside.state _ _ c.args.e c.args.reason c.self.invariant may (g.H.Holder.holding c.args.holder.now) c.silent.result c.silent.ensures c.ask_own.new.state (g.H.Holder.holding c.ask_own.new.holder) done))
