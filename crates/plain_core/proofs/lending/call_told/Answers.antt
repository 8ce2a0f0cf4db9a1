use Rattle.std.specs.Prelude.{◌++◌, false, []}
use Rattle.zq_world.specs.Marks.{piece_marks}
use Rattle.line_socket.specs.Owned.{parts}
use Rattle.plain_core.proofs.TellLemmas.{acts_as, acts_tell, line_as, line_tells}
use Rattle.plain_core.proofs.lending.call_told.Goals as goal

pub and-requires : goal.and-requires
and-requires g c =
    let l = c.args.lent.now in
    let m = c.call.new.socket in
    let called = c.in-Ok.ensures.ok in
    let marks = piece_marks c.args.caller false (called.pump ++ called.acts) called.skips in record {
      some = marks;
      so = line_as g.P.Pipes.known c.args.caller (parts l.pipes l.desk l.socket.core l.since.items) (parts m.pipes m.desk m.socket.core m.since.items)
          (parts c.noted-from.result.pipes.value c.noted-from.result.desk.value c.noted-from.result.socket.value c.noted-from.result.since.value.items)
          (parts c.noted.result.pipes.value c.noted.result.desk.value c.noted.result.socket.value c.noted.result.since.value.items)
          c.noted-from.ensures c.noted.ensures c.args.line.now c.of.result.value c.of.ensures c.in-Ok.answer c.of-in-Ok.result.value c.of-in-Ok.ensures
          c.args.told.now.items c.of-before.result.value.items (λ i. (c.of-before.ensures i).items) c.call.new.told.items c.of-in-Ok-2.result.value.items (λ i. (c.of-in-Ok-2.ensures i).items)
          marks (line_tells g.P.Pipes.known c.args.caller (parts l.pipes l.desk l.socket.core l.since.items) (parts m.pipes m.desk m.socket.core m.since.items) c.args.line.now c.in-Ok.answer c.args.told.now.items c.call.new.told.items
          (record { pump = called.pump; acts = called.acts; skips = called.skips; pumped = called.pumped; pumps = called.pumps; does = called.does; tells = called.tells; led = called.led }));
    }

pub and-requires-in-Err : goal.and-requires-in-Err
and-requires-in-Err g c =
    let l = c.args.lent.now in
    let m = c.call.new.socket in
    let some = c.in-Err.ensures.err in record {
      some = piece_marks c.args.caller false some.acts [];
      so = acts_as g.P.Pipes.known c.args.caller (parts l.pipes l.desk l.socket.core l.since.items) (parts m.pipes m.desk m.socket.core m.since.items)
          (parts c.noted-from.result.pipes.value c.noted-from.result.desk.value c.noted-from.result.socket.value c.noted-from.result.since.value.items)
          (parts c.noted-in-Err.result.pipes.value c.noted-in-Err.result.desk.value c.noted-in-Err.result.socket.value c.noted-in-Err.result.since.value.items)
          c.noted-from.ensures c.noted-in-Err.ensures
          (piece_marks c.args.caller false some.acts []) (acts_tell g.P.Pipes.known c.args.caller (parts l.pipes l.desk l.socket.core l.since.items) (parts m.pipes m.desk m.socket.core m.since.items) (record { acts = some.acts; led = some.led }));
    }
