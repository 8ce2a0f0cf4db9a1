use Rattle.std.proofs.Common.{length, ap}
use Rattle.zq_base.specs.declared.log.Log.{Log}
use Rattle.line_socket.proofs.AskLemmas.{one_longer}
use Rattle.line_socket.proofs.HereLemmas.{reader_here, met_there}
use Rattle.line_socket.proofs.MeetLemmas.{has_met}
use Rattle.line_socket.proofs.endings.meet.Goals as goal

pub call_meet-requires-clause-here : goal.call_meet-requires-clause-here
call_meet-requires-clause-here g c = let l = c.args.lent.now in reader_here g.P.Pipes.known l.pipes (g.D.LentDesk.lent l.desk) (length l.since.items) l.socket.core c.requires.agrees c.args.reader c.requires.reads

pub call_meet-requires-clause-at : goal.call_meet-requires-clause-at
call_meet-requires-clause-at g c = met_there c.args.lent.now.socket.core c.args.reader.end c.requires.met

pub returns-clause-meets : goal.returns-clause-meets
returns-clause-meets g c =
    let l = c.args.lent.now in
    let x = c.call_meet in
    let m = x.new.lent in
    (has_met g.P.Pipes.known l.pipes m.pipes (g.D.LentDesk.lent l.desk) (g.D.LentDesk.lent m.desk) (length l.since.items) c.args.reader l.socket.core m.socket.core c.requires.agrees c.is_told.ensures c.requires.ready x.ensures.called x.ensures.given x.ensures.whole x.ensures.passes
    c.requires.reads x.result x.ensures.found x.ensures.not_looked (length c.and-lent.result.items)
    (one_longer l.since.items m.since.items c.and-lent.result.items _ c.and-lent.ensures (ap (λ (y : Log (Unit {0}) (Unit {0})). y.items) x.ensures.since))).meets

pub returns-clause-behind : goal.returns-clause-behind
returns-clause-behind g c =
    let l = c.args.lent.now in
    let x = c.call_meet in
    let m = x.new.lent in
    (has_met g.P.Pipes.known l.pipes m.pipes (g.D.LentDesk.lent l.desk) (g.D.LentDesk.lent m.desk) (length l.since.items) c.args.reader l.socket.core m.socket.core c.requires.agrees c.is_told.ensures c.requires.ready x.ensures.called x.ensures.given x.ensures.whole x.ensures.passes
    c.requires.reads x.result x.ensures.found x.ensures.not_looked (length c.and-lent.result.items)
    (one_longer l.since.items m.since.items c.and-lent.result.items _ c.and-lent.ensures (ap (λ (y : Log (Unit {0}) (Unit {0})). y.items) x.ensures.since))).behind

pub returns-clause-ready : goal.returns-clause-ready
returns-clause-ready g c =
    let l = c.args.lent.now in
    let x = c.call_meet in
    let m = x.new.lent in
    (has_met g.P.Pipes.known l.pipes m.pipes (g.D.LentDesk.lent l.desk) (g.D.LentDesk.lent m.desk) (length l.since.items) c.args.reader l.socket.core m.socket.core c.requires.agrees c.is_told.ensures c.requires.ready x.ensures.called x.ensures.given x.ensures.whole x.ensures.passes
    c.requires.reads x.result x.ensures.found x.ensures.not_looked (length c.and-lent.result.items)
    (one_longer l.since.items m.since.items c.and-lent.result.items _ c.and-lent.ensures (ap (λ (y : Log (Unit {0}) (Unit {0})). y.items) x.ensures.since))).ready

pub returns-clause-agrees : goal.returns-clause-agrees
returns-clause-agrees g c =
    let l = c.args.lent.now in
    let x = c.call_meet in
    let m = x.new.lent in
    (has_met g.P.Pipes.known l.pipes m.pipes (g.D.LentDesk.lent l.desk) (g.D.LentDesk.lent m.desk) (length l.since.items) c.args.reader l.socket.core m.socket.core c.requires.agrees c.is_told.ensures c.requires.ready x.ensures.called x.ensures.given x.ensures.whole x.ensures.passes
    c.requires.reads x.result x.ensures.found x.ensures.not_looked (length c.and-lent.result.items)
    (one_longer l.since.items m.since.items c.and-lent.result.items _ c.and-lent.ensures (ap (λ (y : Log (Unit {0}) (Unit {0})). y.items) x.ensures.since))).agrees

pub returns-clause-may : goal.returns-clause-may
returns-clause-may g c =
    let l = c.args.lent.now in
    let x = c.call_meet in
    let m = x.new.lent in
    (has_met g.P.Pipes.known l.pipes m.pipes (g.D.LentDesk.lent l.desk) (g.D.LentDesk.lent m.desk) (length l.since.items) c.args.reader l.socket.core m.socket.core c.requires.agrees c.is_told.ensures c.requires.ready x.ensures.called x.ensures.given x.ensures.whole x.ensures.passes
    c.requires.reads x.result x.ensures.found x.ensures.not_looked (length c.and-lent.result.items)
    (one_longer l.since.items m.since.items c.and-lent.result.items _ c.and-lent.ensures (ap (λ (y : Log (Unit {0}) (Unit {0})). y.items) x.ensures.since))).may
