use Rattle.std.proofs.Common.{sym, ap, ◌∙◌}
use Rattle.spec_run.specs.SocketCall.{takes_connect}
use Rattle.line_socket.specs.View.{end_at, open_view}
use Rattle.line_socket.specs.Owned.{parts, box_of}
use Rattle.line_socket.proofs.steps.LentSockOpenSteps.takes_connect.Goals as goal

pub returns-in-Some : goal.returns-in-Some
returns-in-Some g c =
    let s = c.args.self.now in
    c.takes_connect.ensures (end_at c.in-Some.core.ends.places.items)
    ∙ ap (λ x. takes_connect (open_view (box_of (parts s.pipes (g.D.LentDesk.lent s.desk) s.socket.core s.since.items)) x).pattern c.args.to.now) (sym c.in-Some.is)
