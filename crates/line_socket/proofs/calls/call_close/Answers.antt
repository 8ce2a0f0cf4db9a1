use Rattle.std.proofs.Common.{length, subst}
use Rattle.std.proofs.lemmas.Result.{IfOk-weaker, on_err_weaker}
use Rattle.spec_control.specs.Control.{id}
use Rattle.spec_control.specs.declared.request.Req.TheVariants.{Close}
use Rattle.desk.specs.Desk.{AsksOnce}
use Rattle.sock_calls.specs.Calls.{owner_of, holding_of}
use Rattle.desk.specs.Coming.{SendsEnds}
use Rattle.line_socket.specs.Standing.{kind_told}
use Rattle.line_socket.proofs.TellLemmas.{tell_open, tell_has, tell_same, tell_given, tell_by, tell_called}
use Rattle.line_socket.proofs.calls.call_close.Goals as goal

pub close-done-requires-clause-open : goal.close-done-requires-clause-open
close-done-requires-clause-open g c = let l = c.args.lent.now in tell_open g.P.Pipes.known (g.met.D.LentDesk.tells l.desk) l.pipes (length l.since.items) l.socket.core c.requires.agrees

pub close-done-requires-clause-has : goal.close-done-requires-clause-has
close-done-requires-clause-has g c = let l = c.args.lent.now in tell_has g.P.Pipes.known (g.met.D.LentDesk.tells l.desk) l.pipes (length l.since.items) l.socket.core c.requires.agrees

pub returns-clause-ok : goal.returns-clause-ok
returns-clause-ok g c =
    let l = c.args.lent.now in
    let x = c.close-done in
    IfOk-weaker x.result _ _ (λ reply h. tell_by g.P.Pipes.known (g.met.D.LentDesk.tells l.desk) (g.met.D.LentDesk.tells x.new.desk) (λ k a b. AsksOnce k (Close (id (owner_of l.socket.core))) reply a b) h) x.ensures.ok

pub returns-clause-err : goal.returns-clause-err
returns-clause-err g c =
    let l = c.args.lent.now in
    let x = c.close-done in
    let t = g.met.D.LentDesk.tells l.desk in
    let u = g.met.D.LentDesk.tells x.new.desk in
    on_err_weaker x.result (λ h. (tell_same g.P.Pipes.known t u h.0, tell_given g.P.Pipes.known t u h.1)) x.ensures.err

pub returns-clause-given : goal.returns-clause-given
returns-clause-given g c =
    let l = c.args.lent.now in
    let x = c.close-done in
    let h = holding_of kind_told l.socket.core in
    let req = Close (id (owner_of l.socket.core)) in
    IfOk-weaker x.result _ _ (λ reply s. subst (λ gs. SendsEnds g.P.Pipes.known x.new.pipes h req gs (g.D.LentDesk.lent x.new.desk).past.given) (g.met.D.LentDesk.tells l.desk).given_is
    (subst (λ gs. SendsEnds g.P.Pipes.known x.new.pipes h req (g.D.Desk.given l.desk) gs) (g.met.D.LentDesk.tells x.new.desk).given_is s)) x.ensures.given

pub returns-clause-called : goal.returns-clause-called
returns-clause-called g c =
    let l = c.args.lent.now in
    let x = c.close-done in
    let y = x.ensures in
    tell_called g.P.Pipes.known (g.met.D.LentDesk.tells l.desk) (g.met.D.LentDesk.tells x.new.desk) (g.met.D.LentDesk.growth l.desk x.new.desk y.grows) c.is_of_one_order.ensures y.names y.has_still y.same.0 y.fits y.others
    (λ e written read never. never) y.does.0
