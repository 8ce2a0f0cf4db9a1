use Rattle.std.proofs.Common.{Option, subst}
use Rattle.any_sock.specs.declared.any_sock.AnySock.{AnySock}
use Rattle.sock_core.specs.declared.sock.SockCore.{SockCore}
use Rattle.sock_core.proofs.SteadyLemmas.{keeps_else}
use Rattle.sock_calls.specs.Calls.{LeavesOthers}
use Rattle.line_socket.specs.Standing.{IsStanding, Stands, IsWhole, KeepsSocket}
use Rattle.line_socket.specs.Doing.{MakesSome, PumpsOpen}
use Rattle.line_socket.proofs.ViewLemmas.{there, came, may_lend, mailed_stands, ok_more, err_more, pumps_so, pump_stops_so, pump_whole, pump_kind}
use Rattle.line_socket.proofs.mails.pump.Goals as goal

pub pump_core-requires : goal.pump_core-requires
pump_core-requires g c = record { whole = may_lend g.P.Pipes.known c.args.pipes.now c.args.socket.now c.in-Some.core c.in-Some.is c.requires.stands }

pub returns-in-Some-clause-ok : goal.returns-in-Some-clause-ok
returns-in-Some-clause-ok g c =
    let K = g.P.Pipes.known in
    let p = c.args.pipes.now in
    let q = c.pump_core.new.pipes in
    let s = c.in-Some.core in
    let t = c.pump_core.new.core in
    let stand : IsStanding K p s = there K p c.args.socket.now s c.in-Some.is c.requires.stands in
    let keeps = keeps_else s t c.pump_core.ensures.keeps in
    ok_more c.pump_core.result (λ h slot. came K (PumpsOpen K slot) p q c.args.socket.now s t c.in-Some.is (pumps_so K slot p q s t stand keeps h)) c.pump_core.ensures.ok

pub returns-in-Some-clause-err : goal.returns-in-Some-clause-err
returns-in-Some-clause-err g c =
    let K = g.P.Pipes.known in
    let p = c.args.pipes.now in
    let q = c.pump_core.new.pipes in
    let s = c.in-Some.core in
    let t = c.pump_core.new.core in
    let stand : IsStanding K p s = there K p c.args.socket.now s c.in-Some.is c.requires.stands in
    let keeps = keeps_else s t c.pump_core.ensures.keeps in
    err_more c.pump_core.result (λ h. came K (MakesSome K) p q c.args.socket.now s t c.in-Some.is (pump_stops_so K 0 p q s t stand keeps h)) c.pump_core.ensures.err

pub returns-in-Some-clause-whole : goal.returns-in-Some-clause-whole
returns-in-Some-clause-whole g c =
    let K = g.P.Pipes.known in
    let p = c.args.pipes.now in
    let q = c.pump_core.new.pipes in
    let s = c.in-Some.core in
    let t = c.pump_core.new.core in
    let stand : IsStanding K p s = there K p c.args.socket.now s c.in-Some.is c.requires.stands in
    let keeps = keeps_else s t c.pump_core.ensures.keeps in
    ok_more c.pump_core.result (λ h w. pump_whole K 0 p q s t stand keeps h (subst (λ (x : Option (SockCore AnySock _ _ _ _)). IsWhole x) c.in-Some.is w)) c.pump_core.ensures.ok

pub returns-in-Some-clause-stands : goal.returns-in-Some-clause-stands
returns-in-Some-clause-stands g c =
    let K = g.P.Pipes.known in
    let p = c.args.pipes.now in
    let q = c.pump_core.new.pipes in
    let s = c.in-Some.core in
    let t = c.pump_core.new.core in
    let stand : IsStanding K p s = there K p c.args.socket.now s c.in-Some.is c.requires.stands in
    mailed_stands K p q s t stand c.pump_core.ensures.whole c.pump_core.ensures.keeps

pub returns-in-Some-clause-others : goal.returns-in-Some-clause-others
returns-in-Some-clause-others g c =
    let K = g.P.Pipes.known in
    let p = c.args.pipes.now in
    let q = c.pump_core.new.pipes in
    let s = c.in-Some.core in
    let t = c.pump_core.new.core in
    came K (λ a o b n. LeavesOthers K o n a b) p q c.args.socket.now s t c.in-Some.is c.pump_core.ensures.others

pub returns-in-Some-clause-keeps : goal.returns-in-Some-clause-keeps
returns-in-Some-clause-keeps g c =
    let K = g.P.Pipes.known in
    let p = c.args.pipes.now in
    let q = c.pump_core.new.pipes in
    let s = c.in-Some.core in
    let t = c.pump_core.new.core in
    let stand : IsStanding K p s = there K p c.args.socket.now s c.in-Some.is c.requires.stands in
    let keeps = keeps_else s t c.pump_core.ensures.keeps in
    came K (λ a o b n. KeepsSocket o n) p q c.args.socket.now s t c.in-Some.is (pump_kind K 0 p q s t stand keeps c.pump_core.result c.pump_core.ensures.ok c.pump_core.ensures.err)

pub unreachable-requires : goal.unreachable-requires
unreachable-requires g c = subst (λ (x : Option (SockCore AnySock _ _ _ _)). Stands g.P.Pipes.known c.args.pipes.now x) c.in-None.is c.requires.stands
