use Rattle.std.proofs.Common.{◌≡◌, List, [], subst}
use Rattle.std.specs.Prelude.{IfOk}
use Rattle.std.proofs.lemmas.Result.{IfOk-at_ok}
use Rattle.zq_base.specs.Message.{Frames}
use Rattle.spec_pattern.specs.declared.answers.Skip.{Skip}
use Rattle.spec_run.specs.SocketCall.{SendsOpen}
use Rattle.line_calls.specs.Steps.{CallsSo}
use Rattle.line_socket.specs.Owned.{parts, view_of, moments_since}
use Rattle.line_socket.specs.Leads.{Leads}
use Rattle.line_socket.specs.LeadsOwed.{led_none}
use Rattle.line_socket.proofs.lent_mails.send.Goals as goal

pub returns-in-Ok-clause-ok : goal.returns-in-Ok-clause-ok
returns-in-Ok-clause-ok g c =
    let l = c.args.lent.now in
    let x = c.send_own in
    let m = x.new.lent in
    let copied : c.in-Ok.copy ≡ c.args.message.now = IfOk-at_ok (λ (y : Frames). y ≡ c.args.message.now) c.in-Ok.is c.copy.ensures in
    subst (λ (y : Frames). IfOk x.result (λ answer. (told : List Skip) → CallsSo (Leads g.P.Pipes.known) view_of moments_since (SendsOpen y) answer told told
    (parts l.pipes (g.D.LentDesk.lent l.desk) l.socket.core l.since.items) (parts m.pipes (g.D.LentDesk.lent m.desk) m.socket.core m.since.items))) copied x.ensures.ok

pub returns-in-Err-clause-err : goal.returns-in-Err-clause-err
returns-in-Err-clause-err g c = let l = c.args.lent.now in record { acts = []; led = led_none g.P.Pipes.known (parts l.pipes (g.D.LentDesk.lent l.desk) l.socket.core l.since.items) }
