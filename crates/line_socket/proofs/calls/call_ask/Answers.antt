use Rattle.std.proofs.Common.{◌≡◌, length}
use Rattle.std.proofs.lemmas.Result.{IfOk-weaker, on_err_weaker}
use Rattle.spec_control.specs.Moments.{items_in}
use Rattle.desk.specs.Desk.{AsksOnce}
use Rattle.sock_calls.specs.Calls.{owner_of, holding_of}
use Rattle.line_socket.specs.Standing.{kind_told}
use Rattle.line_socket.proofs.TellLemmas.{tell_open, tell_has, tell_same, tell_given, tell_more, tell_by, tell_called, tell_found}
use Rattle.line_socket.proofs.RequestedLemmas.{naming_own, naming_may, naming_marks, naming_sockets, naming_open, given_stays}
use Rattle.line_socket.proofs.calls.call_ask.Goals as goal

pub ask-done-requires-clause-may : goal.ask-done-requires-clause-may
ask-done-requires-clause-may g c = let l = c.args.lent.now in naming_may (owner_of l.socket.core) (items_in (g.D.Desk.moments l.desk)) c.args.request c.requires.asks (tell_open g.P.Pipes.known (g.met.D.LentDesk.tells l.desk) l.pipes (length l.since.items) l.socket.core c.requires.agrees)

pub ask-done-requires-clause-asks : goal.ask-done-requires-clause-asks
ask-done-requires-clause-asks g c = naming_own (owner_of c.args.lent.now.socket.core) c.args.request c.requires.asks

pub ask-done-requires-clause-options : goal.ask-done-requires-clause-options
ask-done-requires-clause-options g c = naming_marks (owner_of c.args.lent.now.socket.core) c.args.request c.requires.asks

pub ask-done-requires-clause-sockets : goal.ask-done-requires-clause-sockets
ask-done-requires-clause-sockets g c = naming_sockets g.D.Desk.serves (owner_of c.args.lent.now.socket.core) c.args.request c.requires.asks

pub ask-done-requires-clause-has : goal.ask-done-requires-clause-has
ask-done-requires-clause-has g c = let l = c.args.lent.now in tell_has g.P.Pipes.known (g.met.D.LentDesk.tells l.desk) l.pipes (length l.since.items) l.socket.core c.requires.agrees

pub returns-clause-ok : goal.returns-clause-ok
returns-clause-ok g c =
    let l = c.args.lent.now in
    let x = c.ask-done in
    IfOk-weaker x.result _ _ (λ reply h. tell_by g.P.Pipes.known (g.met.D.LentDesk.tells l.desk) (g.met.D.LentDesk.tells x.new.desk) (λ k a b. AsksOnce k c.args.request reply a b) h) x.ensures.ok

pub returns-clause-err : goal.returns-clause-err
returns-clause-err g c =
    let l = c.args.lent.now in
    let x = c.ask-done in
    on_err_weaker x.result (λ h. tell_same g.P.Pipes.known (g.met.D.LentDesk.tells l.desk) (g.met.D.LentDesk.tells x.new.desk) h.0) x.ensures.err

pub returns-clause-given : goal.returns-clause-given
returns-clause-given g c =
    let l = c.args.lent.now in
    let x = c.ask-done in
    tell_given g.P.Pipes.known (g.met.D.LentDesk.tells l.desk) (g.met.D.LentDesk.tells x.new.desk) (given_stays g.P.Pipes.known x.new.pipes (holding_of kind_told l.socket.core) c.args.request (naming_open (owner_of c.args.lent.now.socket.core) c.args.request c.requires.asks) (g.D.Desk.moments x.new.desk ≡ g.D.Desk.moments l.desk) x.result x.ensures.given x.ensures.err)

pub returns-clause-called : goal.returns-clause-called
returns-clause-called g c =
    let l = c.args.lent.now in
    let x = c.ask-done in
    let y = x.ensures in
    tell_called g.P.Pipes.known (g.met.D.LentDesk.tells l.desk) (g.met.D.LentDesk.tells x.new.desk) (g.met.D.LentDesk.growth l.desk x.new.desk y.grows) c.is_of_one_order.ensures y.names y.keeps.1 y.owner y.fits y.others
    (tell_found g.P.Pipes.known (g.met.D.LentDesk.tells l.desk) c.args.request) y.does

pub returns-clause-passes : goal.returns-clause-passes
returns-clause-passes g c = λ more is.
    let l = c.args.lent.now in
    let x = c.ask-done in
    x.ensures.passes more (tell_more g.P.Pipes.known (g.met.D.LentDesk.tells l.desk) (g.met.D.LentDesk.tells x.new.desk) more is)
