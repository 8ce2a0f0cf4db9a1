use Rattle.std.specs.Prelude.{false, []}
use Rattle.zq_world.specs.Marks.{piece_marks}
use Rattle.spec_run.specs.Event.{acts_said}
use Rattle.line_socket.specs.Owned.{parts}
use Rattle.plain_core.proofs.SentLemmas.{sends_asked}
use Rattle.plain_core.proofs.TellLemmas.{acts_as, acts_tell, close_as, close_tells}
use Rattle.plain_core.proofs.lending.close_told.Goals as goal

pub and-requires : goal.and-requires
and-requires g c =
    let l = c.args.lent.now in
    let m = c.close_lent.new.lent in
    let closes = c.in-Ok.ensures.ok in record {
      some = piece_marks c.args.caller false (acts_said closes.closed) [];
      so = close_as g.P.Pipes.known c.args.caller (parts l.pipes l.desk l.socket.core l.since.items) (parts m.pipes m.desk m.socket.core m.since.items)
          (parts c.noted-from.result.pipes.value c.noted-from.result.desk.value c.noted-from.result.socket.value c.noted-from.result.since.value.items)
          (parts c.noted.result.pipes.value c.noted.result.desk.value c.noted.result.socket.value c.noted.result.since.value.items)
          c.noted-from.ensures c.noted.ensures
          (piece_marks c.args.caller false (acts_said closes.closed) []) (close_tells g.P.Pipes.known c.args.caller (parts l.pipes l.desk l.socket.core l.since.items) (parts m.pipes m.desk m.socket.core m.since.items) closes);
    }

pub and-requires-in-Err : goal.and-requires-in-Err
and-requires-in-Err g c =
    let l = c.args.lent.now in
    let m = c.close_lent.new.lent in
    let some = c.in-Err.ensures.err in record {
      some = piece_marks c.args.caller false some.acts [];
      so = acts_as g.P.Pipes.known c.args.caller (parts l.pipes l.desk l.socket.core l.since.items) (parts m.pipes m.desk m.socket.core m.since.items)
          (parts c.noted-from.result.pipes.value c.noted-from.result.desk.value c.noted-from.result.socket.value c.noted-from.result.since.value.items)
          (parts c.noted-in-Err.result.pipes.value c.noted-in-Err.result.desk.value c.noted-in-Err.result.socket.value c.noted-in-Err.result.since.value.items)
          c.noted-from.ensures c.noted-in-Err.ensures
          (piece_marks c.args.caller false some.acts []) (acts_tell g.P.Pipes.known c.args.caller (parts l.pipes l.desk l.socket.core l.since.items) (parts m.pipes m.desk m.socket.core m.since.items) some);
    }

pub returns-in-Ok-clause-asked : goal.returns-in-Ok-clause-asked
returns-in-Ok-clause-asked g c =
    let l = c.args.lent.now in
    let m = c.close_lent.new.lent in
    sends_asked g.P.Pipes.known c.asked_stay.ensures l.pipes m.pipes l.desk l.since.items l.socket.core (acts_said c.in-Ok.ensures.ok.closed) (parts m.pipes m.desk m.socket.core m.since.items) c.requires.agrees c.in-Ok.ensures.ok.led _ c.in-Ok.ensures.sent
