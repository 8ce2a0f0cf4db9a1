use Rattle.std.proofs.Common.{◌≡◌, length, ap}
use Rattle.std.proofs.lemmas.Result.{IfOk-at_ok}
use Rattle.zq_base.specs.declared.log.Log.{Log}
use Rattle.spec_control.specs.Control.{id}
use Rattle.spec_control.specs.declared.request.Req.TheVariants.{Close}
use Rattle.spec_control.specs.declared.request.Reply.{Reply}
use Rattle.desk.specs.Coming.{SendsEnds}
use Rattle.desk.specs.Desk.{AsksOnce}
use Rattle.sock_calls.specs.Calls.{owner_of, holding_of, HasNone}
use Rattle.line_socket.specs.Standing.{kind_told}
use Rattle.plain_desk.specs.Lent.{moments_of}
use Rattle.line_socket.proofs.AskLemmas.{one_longer, at_err}
use Rattle.line_socket.proofs.CloseLemmas.{has_closed, is_left}
use Rattle.line_socket.proofs.endings.close_lent.Goals as goal

pub returns-in-Ok-clause-ok : goal.returns-in-Ok-clause-ok
returns-in-Ok-clause-ok g c =
    let l = c.args.lent.now in
    let x = c.call_close in
    let m = x.new.lent in
    has_closed g.P.Pipes.known l.pipes m.pipes (g.D.LentDesk.lent l.desk) (g.D.LentDesk.lent m.desk) (length l.since.items) l.socket.core m.socket.core c.requires.agrees (record x.ensures.called { does = x.ensures.does.0 }) _
    (IfOk-at_ok (λ (r : Reply). AsksOnce (g.D.LentDesk.lent l.desk).caller (Close (id (owner_of l.socket.core))) r (moments_of (g.D.LentDesk.lent l.desk)) (moments_of (g.D.LentDesk.lent m.desk))) c.in-Ok.is x.ensures.ok)
    (IfOk-at_ok (λ (r : Reply). HasNone m.socket.core) c.in-Ok.is x.ensures.none)
    (holding_of kind_told l.socket.core)
    (IfOk-at_ok (λ (r : Reply). SendsEnds g.P.Pipes.known m.pipes (holding_of kind_told l.socket.core) (Close (id (owner_of l.socket.core))) (g.D.LentDesk.lent l.desk).past.given (g.D.LentDesk.lent m.desk).past.given) c.in-Ok.is x.ensures.given)
    x.ensures.does.1 (length c.and-lent.result.items) (one_longer l.since.items m.since.items c.and-lent.result.items _ c.and-lent.ensures (ap (λ (y : Log (Unit {0}) (Unit {0})). y.items) x.ensures.since))

pub returns-in-Err-clause-err : goal.returns-in-Err-clause-err
returns-in-Err-clause-err g c =
    let l = c.args.lent.now in
    let x = c.call_close in
    let m = x.new.lent in
    let same = at_err ((moments_of (g.D.LentDesk.lent m.desk) ≡ moments_of (g.D.LentDesk.lent l.desk)) × ((g.D.LentDesk.lent m.desk).past.given ≡ (g.D.LentDesk.lent l.desk).past.given)) c.in-Err.is x.ensures.err in
    (is_left g.P.Pipes.known l.pipes m.pipes (g.D.LentDesk.lent l.desk) (g.D.LentDesk.lent m.desk) (length l.since.items) l.socket.core m.socket.core c.requires.agrees x.ensures.called same.0 same.1
    (length m.since.items) (ap (λ (y : Log (Unit {0}) (Unit {0})). length y.items) x.ensures.since)).some

pub returns-in-Err-clause-back : goal.returns-in-Err-clause-back
returns-in-Err-clause-back g c =
    let l = c.args.lent.now in
    let x = c.call_close in
    let m = x.new.lent in
    let same = at_err ((moments_of (g.D.LentDesk.lent m.desk) ≡ moments_of (g.D.LentDesk.lent l.desk)) × ((g.D.LentDesk.lent m.desk).past.given ≡ (g.D.LentDesk.lent l.desk).past.given)) c.in-Err.is x.ensures.err in
    (is_left g.P.Pipes.known l.pipes m.pipes (g.D.LentDesk.lent l.desk) (g.D.LentDesk.lent m.desk) (length l.since.items) l.socket.core m.socket.core c.requires.agrees x.ensures.called same.0 same.1
    (length m.since.items) (ap (λ (y : Log (Unit {0}) (Unit {0})). length y.items) x.ensures.since)).agrees
