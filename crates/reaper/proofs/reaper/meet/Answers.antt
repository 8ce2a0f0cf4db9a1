use Rattle.std.proofs.Common.{refl, subst}
use Rattle.ctl_plane.specs.Past.{control_of}
use Rattle.desk.specs.Desk.{KeepsUp}
use Rattle.plain_desk.specs.Lent.{moments_of}
use Rattle.closed_ends.specs.declared.sockets.ClosedSockets.{ClosedSockets}
use Rattle.closed_ends.specs.Coming.{IsBrought}
use Rattle.closed_ends.specs.Has.{holding_in}
use Rattle.reaper.specs.Calls.{ChangesClosed}
use Rattle.reaper.proofs.reaper.meet.Goals as goal

pub returns-clause-keeps : goal.returns-clause-keeps
returns-clause-keeps g c =
    let x = c.meet_lent-answer in
    let holds = λ (y : ClosedSockets _ _ _). holding_in g.P.Pipes.known.out_name g.P.Pipes.known.in_name y in
    subst (λ (y : ClosedSockets _ _ _). KeepsUp x.new.desk.caller (moments_of c.args.desk.now) (moments_of x.new.desk) (holds y) (holds x.result.closed)) c.replace-moved.ensures.value x.ensures.keeps

pub returns-clause-changes : goal.returns-clause-changes
returns-clause-changes g c =
    let x = c.meet_lent-answer in
    let brings = IsBrought (control_of c.args.desk.now.past) c.args.desk.now.past.given in
    subst (λ (p : g.row.P.Denot). ChangesClosed g.P.Pipes.known brings p c.args.closed.now x.result.pipes x.result.closed) c.replace-lent.ensures.value
    (subst (λ (y : ClosedSockets _ _ _). ChangesClosed g.P.Pipes.known brings c.replace-lent.result y x.result.pipes x.result.closed) c.replace-moved.ensures.value
    (x.ensures.changes c.replace-lent.result c.replace-moved.result (refl, refl)))
