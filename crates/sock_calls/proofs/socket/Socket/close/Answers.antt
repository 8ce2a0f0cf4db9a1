use Rattle.std.proofs.Common.{refl, sym, ◌∙◌}
use Rattle.std.proofs.lemmas.Result.{IfOk-weaker}
use Rattle.desk.specs.Desk.{AsksOnce}
use Rattle.spec_control.specs.declared.request.Req.TheVariants.{Close}
use Rattle.sock_calls.specs.Calls.{holding_of, HasNone}
use Rattle.sock_calls.proofs.CallsLemmas.{closed_not_held, has_none}
use Rattle.sock_calls.proofs.socket.Socket.close.Goals as goal

pub returns-clause-none : goal.returns-clause-none
returns-clause-none g c =
    let x = c.ask in
    let o = c.number_of.result in
    let by = g.D.Desk.number c.args.desk.now in
    let old = g.D.Desk.moments c.args.desk.now in
    let new = g.D.Desk.moments x.new.desk in
    IfOk-weaker x.result (λ reply. AsksOnce by (Close o) reply old new) (λ reply. HasNone x.new.self.core)
    (λ reply asks. has_none g.P.Pipes.known g.C.Joins.kind g.C.Joins.peers x.new.pipes x.new.self.core o.0 x.ensures.fits (x.ensures.owner ∙ sym c.number_of.ensures)
    (closed_not_held by (g.D.Desk.number x.new.desk) o reply old new (holding_of g.C.Joins.kind x.new.self.core) asks x.ensures.keeps.1.has))
    x.ensures.ok

pub returns-clause-does : goal.returns-clause-does
returns-clause-does g c = c.ask.ensures.closes refl

pub returns-clause-succeeds : goal.returns-clause-succeeds
returns-clause-succeeds g c = c.ask.ensures.succeeds refl
