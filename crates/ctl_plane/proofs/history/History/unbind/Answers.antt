use Rattle.std.specs.Prelude.{◌≡◌, None, refl}
use Rattle.std.proofs.Common.{sym, subst, arith, ap}
use Rattle.spec_control.specs.declared.request.Req.TheVariants.{Unbind}
use Rattle.spec_control.specs.Rows.{obj}
use Rattle.spec_control.specs.ControlRun.{IsOpenSocket}
use Rattle.spec_control.specs.Reply.{reply_of}
use Rattle.desk.specs.declared.given.Given.{Given}
use Rattle.ctl_plane.specs.Past.{Past, control_of}
use Rattle.ctl_moves.specs.Refusals.{refusal_in}
use Rattle.ctl_plane.proofs.CarryLemmas.{told_given}
use Rattle.ctl_plane.proofs.DoneLemmas.{noted_event}
use Rattle.ctl_plane.proofs.PlaneLemmas.{planed_noted}
use Rattle.ctl_plane.proofs.StrikeLemmas.{unbind_done, unbinds_plane}
use Rattle.spec_control.specs.declared.entry.Did.{Did}
use Rattle.spec_control.specs.declared.request.Reply.TheVariants.{Refused}
use Rattle.ctl_state.specs.Listed.{Listed}
use Rattle.ctl_plane.specs.Carried.{given_in}
use Rattle.ctl_plane.proofs.MakingLemmas.{viewed_back, planed_back}
use Rattle.ctl_state.proofs.KeptLemmas.{so_on_err}
use Rattle.ctl_plane.proofs.RefusalLemmas.{refusal_is}
use Rattle.ctl_plane.proofs.history.History.unbind.Goals as goal

pub invariant_of-self : goal.invariant_of-self
invariant_of-self g c =
    planed_noted g.P.Pipes.known.out_name g.P.Pipes.known.in_name c.strike_bind.new.state c.self.inside.workers c.self.inside.events c.reserve.new.self c.push.new.self _ _ _ c.in-Ok.ensures.ok c.push.ensures
    (unbinds_plane g.P.Pipes.known.out_name g.P.Pipes.known.in_name c.self.inside.state c.strike_bind.new.state _ _ c.args.socket c.args.at c.args.h c.self.invariant
    (subst (λ (p : Past (Given g.row.P-Name.Denot g.row.P-Out.Denot g.row.P-In.Denot) g.row.P-Name.Denot g.row.P-Story.Denot). IsOpenSocket (obj (control_of p).rows c.args.socket.0)) (sym c.self.view_is) c.requires.open) c.requires.silent
    (sym (c.in-None.ensures _ c.self.invariant.history.stands)) c.strike_bind.ensures.stands c.strike_bind.ensures.only c.strike_bind.ensures.ends)

pub returns-in-Ok-clause-ok : goal.returns-in-Ok-clause-ok
returns-in-Ok-clause-ok g c =
    noted_event c.args.self.now c.self.inside.workers c.self.inside.events c.reserve.new.self c.push.new.self _ _ _ (sym c.self.view_is) c.in-Ok.ensures.ok c.push.ensures
    (told_given c.self.inside.state.boxes c.strike_bind.new.state.boxes c.strike_bind.ensures.only)

pub returns-in-Ok-clause-reply : goal.returns-in-Ok-clause-reply
returns-in-Ok-clause-reply g c =
    sym (unbind_done (control_of c.args.self.now) c.args.socket c.args.at (subst (λ (p : Past (Given g.row.P-Name.Denot g.row.P-Out.Denot g.row.P-In.Denot) g.row.P-Name.Denot g.row.P-Story.Denot). refusal_in (reply_of (control_of p) (Unbind c.args.socket c.args.at)) ≡ None) c.self.view_is (sym (c.in-None.ensures _ c.self.invariant.history.stands))))

pub refuse-requires-clause-may : goal.refuse-requires-clause-may
refuse-requires-clause-may g c = c.requires.«open»

pub refuse-requires-clause-refused : goal.refuse-requires-clause-refused
refuse-requires-clause-refused g c =
    let inner : Past (Given g.row.P-Name.Denot g.row.P-Out.Denot g.row.P-In.Denot) g.row.P-Name.Denot g.row.P-Story.Denot = record { workers = c.self.inside.workers; events = c.self.inside.events.items; given = given_in c.self.inside.state.boxes } in
    subst (λ (p : Past (Given g.row.P-Name.Denot g.row.P-Out.Denot g.row.P-In.Denot) g.row.P-Name.Denot g.row.P-Story.Denot). reply_of (control_of p) (Unbind c.args.socket c.args.at) ≡ Refused c.in-Some.refusal) c.self.view_is
    (refusal_is (reply_of (control_of inner) (Unbind c.args.socket c.args.at)) c.in-Some.refusal (c.in-Some.ensures (control_of inner) c.self.invariant.history.stands))

pub refuse-requires-clause-silent : goal.refuse-requires-clause-silent
refuse-requires-clause-silent g c = c.requires.silent

pub push-requires : goal.push-requires
push-requires g c =
    let more = ap (λ (l : Listed (Did g.row.P-Name.Denot g.row.P-Story.Denot)). l.spare) c.in-Ok.ensures.ok in
    record { room = omega (arith, more) }

pub returns-in-Some-clause-ok : goal.returns-in-Some-clause-ok
returns-in-Some-clause-ok g c = c.in_ok-refuse-in-Some.ensures.ok

pub returns-in-Some-clause-reply : goal.returns-in-Some-clause-reply
returns-in-Some-clause-reply g c =
    let inner : Past (Given g.row.P-Name.Denot g.row.P-Out.Denot g.row.P-In.Denot) g.row.P-Name.Denot g.row.P-Story.Denot = record { workers = c.self.inside.workers; events = c.self.inside.events.items; given = given_in c.self.inside.state.boxes } in
    subst (λ (p : Past (Given g.row.P-Name.Denot g.row.P-Out.Denot g.row.P-In.Denot) g.row.P-Name.Denot g.row.P-Story.Denot). Refused c.in-Some.refusal ≡ reply_of (control_of p) (Unbind c.args.socket c.args.at)) c.self.view_is
    (sym (refusal_is (reply_of (control_of inner) (Unbind c.args.socket c.args.at)) c.in-Some.refusal (c.in-Some.ensures (control_of inner) c.self.invariant.history.stands)))

pub returns-in_err-refuse-in-Some-clause-err : goal.returns-in_err-refuse-in-Some-clause-err
returns-in_err-refuse-in-Some-clause-err g c = so_on_err _ _ c.in_err-refuse-in-Some.ensures.err

pub returns-in-Err-clause-err : goal.returns-in-Err-clause-err
returns-in-Err-clause-err g c =
    (viewed_back c.args.self.now c.self.inside.state c.self.inside.state c.self.inside.workers c.self.inside.events c.reserve.new.self refl c.in-Err.ensures.err c.self.view_is)

pub invariant_of-self-in-Err : goal.invariant_of-self-in-Err
invariant_of-self-in-Err g c =
    planed_back g.P.Pipes.known.out_name g.P.Pipes.known.in_name c.self.inside.state c.self.inside.state c.self.inside.workers c.self.inside.events c.reserve.new.self refl c.in-Err.ensures.err c.self.invariant
