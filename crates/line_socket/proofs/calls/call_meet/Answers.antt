use Rattle.std.proofs.Common.{◌≡◌, false, length, subst}
use Rattle.desk.specs.Desk.{DelimitsOrNot}
use Rattle.sock_calls.specs.Calls.{owner_of}
use Rattle.spec_control.specs.Place.{looks}
use Rattle.spec_control.specs.Control.{place_of}
use Rattle.spec_control.specs.Moments.{left_after}
use Rattle.line_socket.proofs.TellLemmas.{tell_open, tell_has, tell_given, tell_more, tell_by, tell_called}
use Rattle.line_socket.proofs.calls.call_meet.Goals as goal

pub meet-done-requires-clause-open : goal.meet-done-requires-clause-open
meet-done-requires-clause-open g c = let l = c.args.lent.now in tell_open g.P.Pipes.known (g.met.D.LentDesk.tells l.desk) l.pipes (length l.since.items) l.socket.core c.requires.agrees

pub meet-done-requires-clause-has : goal.meet-done-requires-clause-has
meet-done-requires-clause-has g c = let l = c.args.lent.now in tell_has g.P.Pipes.known (g.met.D.LentDesk.tells l.desk) l.pipes (length l.since.items) l.socket.core c.requires.agrees

pub returns-clause-found : goal.returns-clause-found
returns-clause-found g c =
    let l = c.args.lent.now in
    let x = c.meet-done in
    tell_by g.P.Pipes.known (g.met.D.LentDesk.tells l.desk) (g.met.D.LentDesk.tells x.new.desk) (λ k a b. DelimitsOrNot k c.args.end x.result a b) x.ensures.found

pub returns-clause-not_looked : goal.returns-clause-not_looked
returns-clause-not_looked g c = λ no.
    let l = c.args.lent.now in
    subst (λ ms. looks (place_of (left_after (owner_of l.socket.core) ms) c.args.end) ≡ false) (g.met.D.LentDesk.tells l.desk).moments_are (c.meet-done.ensures.not_looked no)

pub returns-clause-given : goal.returns-clause-given
returns-clause-given g c =
    let l = c.args.lent.now in
    let x = c.meet-done in
    tell_given g.P.Pipes.known (g.met.D.LentDesk.tells l.desk) (g.met.D.LentDesk.tells x.new.desk) x.ensures.given

pub returns-clause-called : goal.returns-clause-called
returns-clause-called g c =
    let l = c.args.lent.now in
    let x = c.meet-done in
    let y = x.ensures in
    tell_called g.P.Pipes.known (g.met.D.LentDesk.tells l.desk) (g.met.D.LentDesk.tells x.new.desk) (g.met.D.LentDesk.growth l.desk x.new.desk y.grows) c.is_of_one_order.ensures y.names y.has_still y.same.0 y.fits y.others
    (λ e written read never. never) y.does

pub returns-clause-passes : goal.returns-clause-passes
returns-clause-passes g c = λ more is.
    let l = c.args.lent.now in
    let x = c.meet-done in
    x.ensures.passes more (tell_more g.P.Pipes.known (g.met.D.LentDesk.tells l.desk) (g.met.D.LentDesk.tells x.new.desk) more is)
