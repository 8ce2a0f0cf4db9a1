use Rattle.std.proofs.Common.{length}
use Rattle.std.proofs.lemmas.Result.{IfOk-weaker, on_err_weaker}
use Rattle.desk.specs.Desk.{CountsWith, GivesOrNot, slot_after}
use Rattle.sock_calls.specs.Calls.{owner_of, holding_of, counts_by}
use Rattle.line_socket.specs.Standing.{kind_told}
use Rattle.line_socket.proofs.TellLemmas.{tell_open, tell_has, tell_alone, tell_distinct, tell_binds, tell_same, tell_given, tell_more, tell_by, tell_called}
use Rattle.line_socket.proofs.calls.call_take.Goals as goal

pub take-done-requires-clause-open : goal.take-done-requires-clause-open
take-done-requires-clause-open g c = let l = c.args.lent.now in tell_open g.P.Pipes.known (g.met.D.LentDesk.tells l.desk) l.pipes (length l.since.items) l.socket.core c.requires.agrees

pub take-done-requires-clause-has : goal.take-done-requires-clause-has
take-done-requires-clause-has g c = let l = c.args.lent.now in tell_has g.P.Pipes.known (g.met.D.LentDesk.tells l.desk) l.pipes (length l.since.items) l.socket.core c.requires.agrees

pub take-done-requires-clause-alone : goal.take-done-requires-clause-alone
take-done-requires-clause-alone g c = let l = c.args.lent.now in tell_alone g.P.Pipes.known (g.met.D.LentDesk.tells l.desk) l.pipes (length l.since.items) l.socket.core c.requires.agrees

pub take-done-requires-clause-distinct : goal.take-done-requires-clause-distinct
take-done-requires-clause-distinct g c = let l = c.args.lent.now in tell_distinct g.P.Pipes.known (g.met.D.LentDesk.tells l.desk) c.requires.may.distinct

pub take-done-requires-clause-binds : goal.take-done-requires-clause-binds
take-done-requires-clause-binds g c = let l = c.args.lent.now in tell_binds g.P.Pipes.known (g.met.D.LentDesk.tells l.desk) (owner_of l.socket.core) c.requires.may.binds

pub returns-clause-ok : goal.returns-clause-ok
returns-clause-ok g c =
    let l = c.args.lent.now in
    let x = c.take-done in
    IfOk-weaker x.result _ _ (λ found h. tell_by g.P.Pipes.known (g.met.D.LentDesk.tells l.desk) (g.met.D.LentDesk.tells x.new.desk) (λ k a b. GivesOrNot k (slot_after (owner_of l.socket.core) a) found a b) h) x.ensures.ok

pub returns-clause-counts : goal.returns-clause-counts
returns-clause-counts g c =
    let l = c.args.lent.now in
    let x = c.take-done in
    tell_by g.P.Pipes.known (g.met.D.LentDesk.tells l.desk) (g.met.D.LentDesk.tells x.new.desk) (λ k a b. CountsWith g.P.Pipes.known.out_name (counts_by g.P.Pipes.known l.pipes l.socket.core) a b (holding_of kind_told l.socket.core)) x.ensures.counts

pub returns-clause-err : goal.returns-clause-err
returns-clause-err g c =
    let l = c.args.lent.now in
    let x = c.take-done in
    on_err_weaker x.result (tell_same g.P.Pipes.known (g.met.D.LentDesk.tells l.desk) (g.met.D.LentDesk.tells x.new.desk)) x.ensures.err

pub returns-clause-given : goal.returns-clause-given
returns-clause-given g c =
    let l = c.args.lent.now in
    let x = c.take-done in
    tell_given g.P.Pipes.known (g.met.D.LentDesk.tells l.desk) (g.met.D.LentDesk.tells x.new.desk) x.ensures.given

pub returns-clause-called : goal.returns-clause-called
returns-clause-called g c =
    let l = c.args.lent.now in
    let x = c.take-done in
    let y = x.ensures in
    tell_called g.P.Pipes.known (g.met.D.LentDesk.tells l.desk) (g.met.D.LentDesk.tells x.new.desk) (g.met.D.LentDesk.growth l.desk x.new.desk y.grows) c.is_of_one_order.ensures y.names y.has_still y.same.0 y.fits y.others
    (λ e written read never. never) y.does

pub returns-clause-passes : goal.returns-clause-passes
returns-clause-passes g c = λ more is.
    let l = c.args.lent.now in
    let x = c.take-done in
    x.ensures.passes more (tell_more g.P.Pipes.known (g.met.D.LentDesk.tells l.desk) (g.met.D.LentDesk.tells x.new.desk) more is)
