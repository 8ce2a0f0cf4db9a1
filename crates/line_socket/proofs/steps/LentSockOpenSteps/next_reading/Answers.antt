use Rattle.std.proofs.Common.{drop, length, sym, subst}
use Rattle.line_calls.specs.Reading.{IsNextReader}
use Rattle.line_socket.specs.Readers.{held_places, readers_in, readers_from}
use Rattle.line_socket.proofs.BeganLemmas.{none_reads, agrees_began}
use Rattle.line_socket.proofs.steps.LentSockOpenSteps.next_reading.Goals as goal

pub returns-then-not-core : goal.returns-then-not-core
returns-then-not-core g c =
    let s = c.args.self.now in
    none_reads s.socket.core c.in-Some.core c.in-Some.is (agrees_began g.P.Pipes.known s.pipes (g.D.LentDesk.lent s.desk) (length s.since.items) s.socket.core c.requires.agrees) c.if-not-core.true c.args.place

pub returns-in-Some : goal.returns-in-Some
returns-in-Some g c =
    subst (λ x. IsNextReader (readers_from x) c.args.place c.next_reading.result) (sym c.in-Some.is)
    (subst (λ ps. IsNextReader (λ n. readers_in (drop n (held_places ps))) c.args.place c.next_reading.result) c.deref.ensures.value c.next_reading.ensures)
