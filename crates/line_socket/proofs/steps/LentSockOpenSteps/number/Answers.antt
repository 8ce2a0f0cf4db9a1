use Rattle.std.proofs.Common.{sym, ap}
use Rattle.spec_control.specs.Control.{id}
use Rattle.line_socket.specs.View.{open_view}
use Rattle.line_socket.specs.Owned.{parts, box_of}
use Rattle.line_socket.proofs.steps.LentSockOpenSteps.number.Goals as goal

pub returns-in-Some : goal.returns-in-Some
returns-in-Some g c = let s = c.args.self.now in ap (λ x. id (open_view (box_of (parts s.pipes (g.D.LentDesk.lent s.desk) s.socket.core s.since.items)) x).object) (sym c.in-Some.is)
