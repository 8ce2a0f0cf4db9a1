use Rattle.std.specs.Prelude.{◌≡◌, refl, None}
use Rattle.std.proofs.Common.{sym, subst, arith, ap}
use Rattle.spec_control.specs.Rows.{obj}
use Rattle.spec_control.specs.ControlRun.{IsOpenSocket}
use Rattle.desk.specs.declared.given.Given.{Given}
use Rattle.spec_control.specs.declared.entry.Did.TheVariants.{Asked}
use Rattle.spec_control.specs.declared.request.Req.TheVariants.{Disconnect}
use Rattle.spec_control.specs.declared.request.Reply.TheVariants.{Done, Refused}
use Rattle.spec_control.specs.Reply.{reply_of}
use Rattle.desk.specs.Turns.{HasTurned}
use Rattle.ctl_plane.specs.Carried.{given_in}
use Rattle.ctl_plane.specs.Past.{Past, control_of, with_event}
use Rattle.ctl_plane.proofs.ToldLemmas.{event_told, past_told, refused_told}
use Rattle.ctl_moves.proofs.TurnedLemmas.{turns_same}
use Rattle.ctl_plane.proofs.MakingLemmas.{viewed_back, planed_back}
use Rattle.ctl_state.proofs.KeptLemmas.{so_on_err}
use Rattle.ctl_plane.proofs.RefusalLemmas.{refusal_is}
use Rattle.ctl_plane.specs.Hearing.{HasWhat}
use Rattle.ctl_plane.proofs.DoneLemmas.{noted_event}
use Rattle.ctl_plane.proofs.PlaneLemmas.{planed_noted}
use Rattle.ctl_plane.proofs.StruckLemmas.{refused_has, strikes_with, disconnects, disconnects_given, disconnects_keeps, disconnect_done}
use Rattle.ctl_plane.specs.Coming.{ComesWith}
use Rattle.ctl_plane.proofs.ComeLemmas.{aside_comes, past_comes}
use Rattle.spec_control.specs.After.{answers_in}
use Rattle.ctl_plane.proofs.StillLemmas.{disconnect_still}
use Rattle.ctl_moves.specs.Refusals.{refusal_in}
use Rattle.spec_control.specs.declared.entry.Did.{Did}
use Rattle.ctl_state.specs.Listed.{Listed}
use Rattle.ctl_moves.proofs.BetweenLemmas.{stay_here}
use Rattle.ctl_plane.proofs.history.History.disconnect.Goals as goal

pub returns-in-Some-clause-keeps : goal.returns-in-Some-clause-keeps
returns-in-Some-clause-keeps g c =
    subst (λ (p : Past (Given g.row.P-Name.Denot g.row.P-Out.Denot g.row.P-In.Denot) g.row.P-Name.Denot g.row.P-Story.Denot). HasWhat p (g.H.Holder.holding c.args.holder.now)) (sym c.in_ok-refuse-in-Some.ensures.ok) (refused_has c.args.self.now _ _ _ (g.H.Holder.holding c.args.holder.now) c.requires.has)

pub strike_connect-requires : goal.strike_connect-requires
strike_connect-requires g c =
    let open_now = subst (λ (p : Past (Given g.row.P-Name.Denot g.row.P-Out.Denot g.row.P-In.Denot) g.row.P-Name.Denot g.row.P-Story.Denot). IsOpenSocket (obj (control_of p).rows c.args.socket.0)) (sym c.self.view_is) c.requires.open in
    let free = sym (c.in-None.ensures _ c.self.invariant.history.stands) in
    let has = subst (λ (p : Past (Given g.row.P-Name.Denot g.row.P-Out.Denot g.row.P-In.Denot) g.row.P-Name.Denot g.row.P-Story.Denot). HasWhat p (g.H.Holder.holding c.args.holder.now)) (sym c.self.view_is) c.requires.has in
    record { may = (strikes_with g.P.Pipes.known.out_name g.P.Pipes.known.in_name c.self.inside.state _ _ c.args.socket c.args.at c.args.h c.self.invariant open_now c.requires.silent free (g.H.Holder.holding c.args.holder.now) has c.requires.lent) }

pub invariant_of-self : goal.invariant_of-self
invariant_of-self g c =
    let open_now = subst (λ (p : Past (Given g.row.P-Name.Denot g.row.P-Out.Denot g.row.P-In.Denot) g.row.P-Name.Denot g.row.P-Story.Denot). IsOpenSocket (obj (control_of p).rows c.args.socket.0)) (sym c.self.view_is) c.requires.open in
    let free = sym (c.in-None.ensures _ c.self.invariant.history.stands) in
    let has = subst (λ (p : Past (Given g.row.P-Name.Denot g.row.P-Out.Denot g.row.P-In.Denot) g.row.P-Name.Denot g.row.P-Story.Denot). HasWhat p (g.H.Holder.holding c.args.holder.now)) (sym c.self.view_is) c.requires.has in
    planed_noted g.P.Pipes.known.out_name g.P.Pipes.known.in_name c.strike_connect.new.state c.self.inside.workers c.self.inside.events c.reserve.new.self c.push.new.self _ _ _ c.in-Ok.ensures.ok c.push.ensures
    (disconnects g.P.Pipes.known.out_name g.P.Pipes.known.in_name c.self.inside.state _ _ c.args.socket c.args.at c.args.h c.self.invariant open_now c.requires.silent free c.strike_connect.new.state (g.H.Holder.holding c.strike_connect.new.holder)
    (c.strike_connect.ensures.struck (strikes_with g.P.Pipes.known.out_name g.P.Pipes.known.in_name c.self.inside.state _ _ c.args.socket c.args.at c.args.h c.self.invariant open_now c.requires.silent free (g.H.Holder.holding c.args.holder.now) has c.requires.lent)))

pub returns-in-Ok-clause-ok : goal.returns-in-Ok-clause-ok
returns-in-Ok-clause-ok g c =
    let open_now = subst (λ (p : Past (Given g.row.P-Name.Denot g.row.P-Out.Denot g.row.P-In.Denot) g.row.P-Name.Denot g.row.P-Story.Denot). IsOpenSocket (obj (control_of p).rows c.args.socket.0)) (sym c.self.view_is) c.requires.open in
    let free = sym (c.in-None.ensures _ c.self.invariant.history.stands) in
    let has = subst (λ (p : Past (Given g.row.P-Name.Denot g.row.P-Out.Denot g.row.P-In.Denot) g.row.P-Name.Denot g.row.P-Story.Denot). HasWhat p (g.H.Holder.holding c.args.holder.now)) (sym c.self.view_is) c.requires.has in
    noted_event c.args.self.now c.self.inside.workers c.self.inside.events c.reserve.new.self c.push.new.self _ _ _ (sym c.self.view_is) c.in-Ok.ensures.ok c.push.ensures
    (disconnects_given g.P.Pipes.known.out_name g.P.Pipes.known.in_name c.self.inside.state _ _ c.args.socket c.args.at c.args.h c.self.invariant open_now c.requires.silent free c.strike_connect.new.state (g.H.Holder.holding c.strike_connect.new.holder)
    (c.strike_connect.ensures.struck (strikes_with g.P.Pipes.known.out_name g.P.Pipes.known.in_name c.self.inside.state _ _ c.args.socket c.args.at c.args.h c.self.invariant open_now c.requires.silent free (g.H.Holder.holding c.args.holder.now) has c.requires.lent)))

pub returns-in-Ok-clause-keeps : goal.returns-in-Ok-clause-keeps
returns-in-Ok-clause-keeps g c =
    let open_now = subst (λ (p : Past (Given g.row.P-Name.Denot g.row.P-Out.Denot g.row.P-In.Denot) g.row.P-Name.Denot g.row.P-Story.Denot). IsOpenSocket (obj (control_of p).rows c.args.socket.0)) (sym c.self.view_is) c.requires.open in
    let free = sym (c.in-None.ensures _ c.self.invariant.history.stands) in
    let has = subst (λ (p : Past (Given g.row.P-Name.Denot g.row.P-Out.Denot g.row.P-In.Denot) g.row.P-Name.Denot g.row.P-Story.Denot). HasWhat p (g.H.Holder.holding c.args.holder.now)) (sym c.self.view_is) c.requires.has in
    let struck = c.strike_connect.ensures.struck (strikes_with g.P.Pipes.known.out_name g.P.Pipes.known.in_name c.self.inside.state _ _ c.args.socket c.args.at c.args.h c.self.invariant open_now c.requires.silent free (g.H.Holder.holding c.args.holder.now) has c.requires.lent) in
    subst (λ (p : Past (Given g.row.P-Name.Denot g.row.P-Out.Denot g.row.P-In.Denot) g.row.P-Name.Denot g.row.P-Story.Denot). HasWhat p (g.H.Holder.holding c.strike_connect.new.holder))
    (sym (noted_event (record { workers = c.self.inside.workers; events = c.self.inside.events.items; given = _ }) c.self.inside.workers c.self.inside.events c.reserve.new.self c.push.new.self _ _ _ refl c.in-Ok.ensures.ok c.push.ensures
    (disconnects_given g.P.Pipes.known.out_name g.P.Pipes.known.in_name c.self.inside.state _ _ c.args.socket c.args.at c.args.h c.self.invariant open_now c.requires.silent free c.strike_connect.new.state (g.H.Holder.holding c.strike_connect.new.holder) struck)))
    (disconnects_keeps g.P.Pipes.known.out_name g.P.Pipes.known.in_name c.self.inside.state _ _ c.args.socket c.args.at c.args.h c.self.invariant open_now c.requires.silent free c.strike_connect.new.state (g.H.Holder.holding c.strike_connect.new.holder) struck)

pub returns-in-Ok-clause-turned : goal.returns-in-Ok-clause-turned
returns-in-Ok-clause-turned g c =
    let inner : Past (Given g.row.P-Name.Denot g.row.P-Out.Denot g.row.P-In.Denot) g.row.P-Name.Denot g.row.P-Story.Denot = record { workers = c.self.inside.workers; events = c.self.inside.events.items; given = given_in c.self.inside.state.boxes } in
    let open_now = subst (λ (p : Past (Given g.row.P-Name.Denot g.row.P-Out.Denot g.row.P-In.Denot) g.row.P-Name.Denot g.row.P-Story.Denot). IsOpenSocket (obj (control_of p).rows c.args.socket.0)) (sym c.self.view_is) c.requires.open in
    let free = sym (c.in-None.ensures _ c.self.invariant.history.stands) in
    let has = subst (λ (p : Past (Given g.row.P-Name.Denot g.row.P-Out.Denot g.row.P-In.Denot) g.row.P-Name.Denot g.row.P-Story.Denot). HasWhat p (g.H.Holder.holding c.args.holder.now)) (sym c.self.view_is) c.requires.has in
    let step = noted_event c.args.self.now c.self.inside.workers c.self.inside.events c.reserve.new.self c.push.new.self _ _ _ (sym c.self.view_is) c.in-Ok.ensures.ok c.push.ensures
    (disconnects_given g.P.Pipes.known.out_name g.P.Pipes.known.in_name c.self.inside.state _ _ c.args.socket c.args.at c.args.h c.self.invariant open_now c.requires.silent free c.strike_connect.new.state (g.H.Holder.holding c.strike_connect.new.holder)
    (c.strike_connect.ensures.struck (strikes_with g.P.Pipes.known.out_name g.P.Pipes.known.in_name c.self.inside.state _ _ c.args.socket c.args.at c.args.h c.self.invariant open_now c.requires.silent free (g.H.Holder.holding c.args.holder.now) has c.requires.lent))) in
    subst (λ (p : Past (Given g.row.P-Name.Denot g.row.P-Out.Denot g.row.P-In.Denot) g.row.P-Name.Denot g.row.P-Story.Denot). HasTurned (control_of c.args.self.now) (control_of p) (g.H.Holder.holding c.args.holder.now) (g.H.Holder.holding c.strike_connect.new.holder)) (sym step)
    (subst (λ (p : Past (Given g.row.P-Name.Denot g.row.P-Out.Denot g.row.P-In.Denot) g.row.P-Name.Denot g.row.P-Story.Denot). HasTurned (control_of p) (control_of (with_event (Asked (Disconnect c.args.socket c.args.at) Done c.args.h) p)) (g.H.Holder.holding c.args.holder.now) (g.H.Holder.holding c.strike_connect.new.holder)) c.self.view_is
    (event_told inner c.self.invariant.history.run (Asked (Disconnect c.args.socket c.args.at) Done c.args.h) (g.H.Holder.holding c.args.holder.now) (g.H.Holder.holding c.strike_connect.new.holder)
    (c.strike_connect.ensures.turned (strikes_with g.P.Pipes.known.out_name g.P.Pipes.known.in_name c.self.inside.state _ _ c.args.socket c.args.at c.args.h c.self.invariant open_now c.requires.silent free (g.H.Holder.holding c.args.holder.now) has c.requires.lent))))

pub returns-in-Some-clause-turned : goal.returns-in-Some-clause-turned
returns-in-Some-clause-turned g c =
    subst (λ (p : Past (Given g.row.P-Name.Denot g.row.P-Out.Denot g.row.P-In.Denot) g.row.P-Name.Denot g.row.P-Story.Denot). HasTurned (control_of c.args.self.now) (control_of p) (g.H.Holder.holding c.args.holder.now) (g.H.Holder.holding c.args.holder.now)) (sym c.in_ok-refuse-in-Some.ensures.ok)
    (refused_told c.args.self.now _ _ _ (g.H.Holder.holding c.args.holder.now))

pub returns-in_err-refuse-in-Some-clause-turned : goal.returns-in_err-refuse-in-Some-clause-turned
returns-in_err-refuse-in-Some-clause-turned g c =
    subst (λ (p : Past (Given g.row.P-Name.Denot g.row.P-Out.Denot g.row.P-In.Denot) g.row.P-Name.Denot g.row.P-Story.Denot). HasTurned (control_of c.args.self.now) (control_of p) (g.H.Holder.holding c.args.holder.now) (g.H.Holder.holding c.args.holder.now)) (sym c.in_err-refuse-in-Some.ensures.err)
    (past_told c.args.self.now (g.H.Holder.holding c.args.holder.now) (g.H.Holder.holding c.args.holder.now) (turns_same (g.H.Holder.holding c.args.holder.now)))

pub returns-in-Some-clause-reply : goal.returns-in-Some-clause-reply
returns-in-Some-clause-reply g c =
    let inner : Past (Given g.row.P-Name.Denot g.row.P-Out.Denot g.row.P-In.Denot) g.row.P-Name.Denot g.row.P-Story.Denot = record { workers = c.self.inside.workers; events = c.self.inside.events.items; given = given_in c.self.inside.state.boxes } in
    subst (λ (p : Past (Given g.row.P-Name.Denot g.row.P-Out.Denot g.row.P-In.Denot) g.row.P-Name.Denot g.row.P-Story.Denot). Refused c.in-Some.refusal ≡ reply_of (control_of p) (Disconnect c.args.socket c.args.at)) c.self.view_is
    (sym (refusal_is (reply_of (control_of inner) (Disconnect c.args.socket c.args.at)) c.in-Some.refusal (c.in-Some.ensures (control_of inner) c.self.invariant.history.stands)))

pub returns-in-Err-clause-turned : goal.returns-in-Err-clause-turned
returns-in-Err-clause-turned g c =
    subst (λ (p : Past (Given g.row.P-Name.Denot g.row.P-Out.Denot g.row.P-In.Denot) g.row.P-Name.Denot g.row.P-Story.Denot). HasTurned (control_of c.args.self.now) (control_of p) (g.H.Holder.holding c.args.holder.now) (g.H.Holder.holding c.args.holder.now))
    (sym (viewed_back c.args.self.now c.self.inside.state c.self.inside.state c.self.inside.workers c.self.inside.events c.reserve.new.self refl c.in-Err.ensures.err c.self.view_is))
    (past_told c.args.self.now (g.H.Holder.holding c.args.holder.now) (g.H.Holder.holding c.args.holder.now) (turns_same (g.H.Holder.holding c.args.holder.now)))

pub returns-in-Ok-clause-joins : goal.returns-in-Ok-clause-joins
returns-in-Ok-clause-joins g c =
    let inner : Past (Given g.row.P-Name.Denot g.row.P-Out.Denot g.row.P-In.Denot) g.row.P-Name.Denot g.row.P-Story.Denot = record { workers = c.self.inside.workers; events = c.self.inside.events.items; given = given_in c.self.inside.state.boxes } in
    let open_now = subst (λ (p : Past (Given g.row.P-Name.Denot g.row.P-Out.Denot g.row.P-In.Denot) g.row.P-Name.Denot g.row.P-Story.Denot). IsOpenSocket (obj (control_of p).rows c.args.socket.0)) (sym c.self.view_is) c.requires.open in
    let free = sym (c.in-None.ensures _ c.self.invariant.history.stands) in
    let has = subst (λ (p : Past (Given g.row.P-Name.Denot g.row.P-Out.Denot g.row.P-In.Denot) g.row.P-Name.Denot g.row.P-Story.Denot). HasWhat p (g.H.Holder.holding c.args.holder.now)) (sym c.self.view_is) c.requires.has in
    let step = noted_event c.args.self.now c.self.inside.workers c.self.inside.events c.reserve.new.self c.push.new.self _ _ _ (sym c.self.view_is) c.in-Ok.ensures.ok c.push.ensures
    (disconnects_given g.P.Pipes.known.out_name g.P.Pipes.known.in_name c.self.inside.state _ _ c.args.socket c.args.at c.args.h c.self.invariant open_now c.requires.silent free c.strike_connect.new.state (g.H.Holder.holding c.strike_connect.new.holder)
    (c.strike_connect.ensures.struck (strikes_with g.P.Pipes.known.out_name g.P.Pipes.known.in_name c.self.inside.state _ _ c.args.socket c.args.at c.args.h c.self.invariant open_now c.requires.silent free (g.H.Holder.holding c.args.holder.now) has c.requires.lent))) in
    subst (λ (p : Past (Given g.row.P-Name.Denot g.row.P-Out.Denot g.row.P-In.Denot) g.row.P-Name.Denot g.row.P-Story.Denot). ComesWith c.args.self.now p (g.H.Holder.holding c.args.holder.now) (g.H.Holder.holding c.strike_connect.new.holder)) (sym step)
    (aside_comes c.args.self.now (Asked (Disconnect c.args.socket c.args.at) Done c.args.h) (g.H.Holder.holding c.args.holder.now) (g.H.Holder.holding c.strike_connect.new.holder) c.requires.silent.joined c.strike_connect.ensures.joins.joined c.strike_connect.ensures.joins.holds c.strike_connect.ensures.joins.kinds
    (disconnect_still c.args.socket c.args.at (answers_in c.args.h) (control_of c.args.self.now)) (λ b n. refl) c.strike_connect.ensures.joins.heard)

pub returns-in-Some-clause-joins : goal.returns-in-Some-clause-joins
returns-in-Some-clause-joins g c =
    subst (λ (p : Past (Given g.row.P-Name.Denot g.row.P-Out.Denot g.row.P-In.Denot) g.row.P-Name.Denot g.row.P-Story.Denot). ComesWith c.args.self.now p (g.H.Holder.holding c.args.holder.now) (g.H.Holder.holding c.args.holder.now)) (sym c.in_ok-refuse-in-Some.ensures.ok)
    (aside_comes c.args.self.now (Asked (Disconnect c.args.socket c.args.at) (Refused c.in-Some.refusal) c.args.h) (g.H.Holder.holding c.args.holder.now) (g.H.Holder.holding c.args.holder.now) c.requires.silent.joined refl (λ i. refl) (λ i. refl) (stay_here (control_of c.args.self.now).rows) (λ b n. refl) refl)

pub returns-in_err-refuse-in-Some-clause-joins : goal.returns-in_err-refuse-in-Some-clause-joins
returns-in_err-refuse-in-Some-clause-joins g c =
    subst (λ (p : Past (Given g.row.P-Name.Denot g.row.P-Out.Denot g.row.P-In.Denot) g.row.P-Name.Denot g.row.P-Story.Denot). ComesWith c.args.self.now p (g.H.Holder.holding c.args.holder.now) (g.H.Holder.holding c.args.holder.now)) (sym c.in_err-refuse-in-Some.ensures.err)
    (past_comes c.args.self.now (g.H.Holder.holding c.args.holder.now) (g.H.Holder.holding c.args.holder.now) refl (λ i. refl) (λ i. refl) refl)

pub returns-in-Err-clause-joins : goal.returns-in-Err-clause-joins
returns-in-Err-clause-joins g c =
    subst (λ (p : Past (Given g.row.P-Name.Denot g.row.P-Out.Denot g.row.P-In.Denot) g.row.P-Name.Denot g.row.P-Story.Denot). ComesWith c.args.self.now p (g.H.Holder.holding c.args.holder.now) (g.H.Holder.holding c.args.holder.now))
    (sym (viewed_back c.args.self.now c.self.inside.state c.self.inside.state c.self.inside.workers c.self.inside.events c.reserve.new.self refl c.in-Err.ensures.err c.self.view_is))
    (past_comes c.args.self.now (g.H.Holder.holding c.args.holder.now) (g.H.Holder.holding c.args.holder.now) refl (λ i. refl) (λ i. refl) refl)

pub refuse-requires-clause-may : goal.refuse-requires-clause-may
refuse-requires-clause-may g c = c.requires.«open»

pub refuse-requires-clause-refused : goal.refuse-requires-clause-refused
refuse-requires-clause-refused g c =
    let inner : Past (Given g.row.P-Name.Denot g.row.P-Out.Denot g.row.P-In.Denot) g.row.P-Name.Denot g.row.P-Story.Denot = record { workers = c.self.inside.workers; events = c.self.inside.events.items; given = given_in c.self.inside.state.boxes } in
    subst (λ (p : Past (Given g.row.P-Name.Denot g.row.P-Out.Denot g.row.P-In.Denot) g.row.P-Name.Denot g.row.P-Story.Denot). reply_of (control_of p) (Disconnect c.args.socket c.args.at) ≡ Refused c.in-Some.refusal) c.self.view_is
    (refusal_is (reply_of (control_of inner) (Disconnect c.args.socket c.args.at)) c.in-Some.refusal (c.in-Some.ensures (control_of inner) c.self.invariant.history.stands))

pub refuse-requires-clause-silent : goal.refuse-requires-clause-silent
refuse-requires-clause-silent g c = c.requires.silent

pub push-requires : goal.push-requires
push-requires g c =
    let more = ap (λ (l : Listed (Did g.row.P-Name.Denot g.row.P-Story.Denot)). l.spare) c.in-Ok.ensures.ok in
    record { room = omega (arith, more) }

pub returns-in-Some-clause-ok : goal.returns-in-Some-clause-ok
returns-in-Some-clause-ok g c = c.in_ok-refuse-in-Some.ensures.ok

pub returns-in-Ok-clause-reply : goal.returns-in-Ok-clause-reply
returns-in-Ok-clause-reply g c =
    sym (disconnect_done (control_of c.args.self.now) c.args.socket c.args.at (subst (λ (p : Past (Given g.row.P-Name.Denot g.row.P-Out.Denot g.row.P-In.Denot) g.row.P-Name.Denot g.row.P-Story.Denot). refusal_in (reply_of (control_of p) (Disconnect c.args.socket c.args.at)) ≡ None) c.self.view_is (sym (c.in-None.ensures _ c.self.invariant.history.stands))))

pub returns-in_err-refuse-in-Some-clause-err : goal.returns-in_err-refuse-in-Some-clause-err
returns-in_err-refuse-in-Some-clause-err g c = so_on_err _ c.from_residual.result (c.in_err-refuse-in-Some.ensures.err, refl)

pub returns-in_err-refuse-in-Some-clause-keeps : goal.returns-in_err-refuse-in-Some-clause-keeps
returns-in_err-refuse-in-Some-clause-keeps g c =
    subst (λ (p : Past (Given g.row.P-Name.Denot g.row.P-Out.Denot g.row.P-In.Denot) g.row.P-Name.Denot g.row.P-Story.Denot). HasWhat p (g.H.Holder.holding c.args.holder.now)) (sym c.in_err-refuse-in-Some.ensures.err) c.requires.has

pub returns-in-Err-clause-err : goal.returns-in-Err-clause-err
returns-in-Err-clause-err g c = (viewed_back c.args.self.now c.self.inside.state c.self.inside.state c.self.inside.workers c.self.inside.events c.reserve.new.self refl c.in-Err.ensures.err c.self.view_is, refl)

pub returns-in-Err-clause-keeps : goal.returns-in-Err-clause-keeps
returns-in-Err-clause-keeps g c =
    subst (λ (p : Past (Given g.row.P-Name.Denot g.row.P-Out.Denot g.row.P-In.Denot) g.row.P-Name.Denot g.row.P-Story.Denot). HasWhat p (g.H.Holder.holding c.args.holder.now))
    (sym (viewed_back c.args.self.now c.self.inside.state c.self.inside.state c.self.inside.workers c.self.inside.events c.reserve.new.self refl c.in-Err.ensures.err c.self.view_is)) c.requires.has

pub invariant_of-self-in-Err : goal.invariant_of-self-in-Err
invariant_of-self-in-Err g c =
    planed_back g.P.Pipes.known.out_name g.P.Pipes.known.in_name c.self.inside.state c.self.inside.state c.self.inside.workers c.self.inside.events c.reserve.new.self refl c.in-Err.ensures.err c.self.invariant
