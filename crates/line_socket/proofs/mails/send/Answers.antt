use Rattle.std.proofs.Common.{Option, Some, ◌∙◌, subst}
use Rattle.any_sock.specs.declared.any_sock.AnySock.{AnySock}
use Rattle.sock_core.specs.declared.sock.SockCore.{SockCore}
use Rattle.sock_core.proofs.SteadyLemmas.{keeps_else}
use Rattle.sock_calls.specs.Calls.{LeavesOthers}
use Rattle.line_socket.specs.Standing.{IsStanding, Stands, IsWhole, KeepsSocket}
use Rattle.line_socket.specs.Doing.{MakesSome, SendsSo}
use Rattle.line_socket.proofs.ViewLemmas.{there, came, may_lend, mailed_stands, xsend_more, undone_so, says_so, sends_so, send_kind}
use Rattle.line_socket.proofs.mails.send.Goals as goal

pub send_core-requires : goal.send_core-requires
send_core-requires g c = record { whole = may_lend g.P.Pipes.known c.args.pipes.now c.args.socket.now c.in-Some.core c.in-Some.is c.requires.stands }

pub returns-in-Some-clause-step : goal.returns-in-Some-clause-step
returns-in-Some-clause-step g c =
    let K = g.P.Pipes.known in
    let p = c.args.pipes.now in
    let q = c.send_core.new.pipes in
    let s = c.in-Some.core in
    let t = c.send_core.new.core in
    let stand : IsStanding K p s = there K p c.args.socket.now s c.in-Some.is c.requires.stands in
    let keeps = keeps_else s t c.send_core.ensures.keeps in
    let whole : IsWhole (Some s) = subst (λ (x : Option (SockCore AnySock _ _ _ _)). IsWhole x) c.in-Some.is c.requires.whole in
    xsend_more c.send_core.result
    (λ h. came K (MakesSome K) p q c.args.socket.now s t c.in-Some.is (undone_so K 0 p q s t stand keeps h))
    (λ h. came K (MakesSome K) p q c.args.socket.now s t c.in-Some.is (says_so K 0 p q s t stand keeps c.args.message h))
    (λ a h slot. came K (SendsSo K slot c.args.message a) p q c.args.socket.now s t c.in-Some.is (sends_so K slot p q s t stand keeps whole c.send_core.ensures.left c.args.message a h))
    c.send_core.ensures.step

pub returns-in-Some-clause-whole : goal.returns-in-Some-clause-whole
returns-in-Some-clause-whole g c =
    let K = g.P.Pipes.known in
    let p = c.args.pipes.now in
    let q = c.send_core.new.pipes in
    let s = c.in-Some.core in
    let t = c.send_core.new.core in
    let whole : IsWhole (Some s) = subst (λ (x : Option (SockCore AnySock _ _ _ _)). IsWhole x) c.in-Some.is c.requires.whole in
    c.send_core.ensures.left ∙ whole

pub returns-in-Some-clause-stands : goal.returns-in-Some-clause-stands
returns-in-Some-clause-stands g c =
    let K = g.P.Pipes.known in
    let p = c.args.pipes.now in
    let q = c.send_core.new.pipes in
    let s = c.in-Some.core in
    let t = c.send_core.new.core in
    let stand : IsStanding K p s = there K p c.args.socket.now s c.in-Some.is c.requires.stands in
    mailed_stands K p q s t stand c.send_core.ensures.whole c.send_core.ensures.keeps

pub returns-in-Some-clause-others : goal.returns-in-Some-clause-others
returns-in-Some-clause-others g c =
    let K = g.P.Pipes.known in
    let p = c.args.pipes.now in
    let q = c.send_core.new.pipes in
    let s = c.in-Some.core in
    let t = c.send_core.new.core in
    came K (λ a o b n. LeavesOthers K o n a b) p q c.args.socket.now s t c.in-Some.is c.send_core.ensures.others

pub returns-in-Some-clause-keeps : goal.returns-in-Some-clause-keeps
returns-in-Some-clause-keeps g c =
    let K = g.P.Pipes.known in
    let p = c.args.pipes.now in
    let q = c.send_core.new.pipes in
    let s = c.in-Some.core in
    let t = c.send_core.new.core in
    let stand : IsStanding K p s = there K p c.args.socket.now s c.in-Some.is c.requires.stands in
    let keeps = keeps_else s t c.send_core.ensures.keeps in
    came K (λ a o b n. KeepsSocket o n) p q c.args.socket.now s t c.in-Some.is (send_kind K 0 p q s t stand keeps c.args.message c.send_core.result c.send_core.ensures.step)

pub unreachable-requires : goal.unreachable-requires
unreachable-requires g c = subst (λ (x : Option (SockCore AnySock _ _ _ _)). Stands g.P.Pipes.known c.args.pipes.now x) c.in-None.is c.requires.stands
