use Rattle.std.proofs.Common.{sym, ◌∙◌}
use Rattle.std.specs.Prelude.{length}
use Rattle.line_socket.proofs.PartsLemmas.{there_asked}
use Rattle.line_socket.proofs.steps.LentSockOpenSteps.finds_asked.Goals as goal

pub returns : goal.returns
returns g c =
    let s = c.args.self.now in
    c.is_asked.ensures ∙ sym (there_asked g.P.Pipes.known s.pipes (g.D.LentDesk.lent s.desk) (length s.since.items) s.socket.core c.requires.agrees c.requires.some)
