use Rattle.std.specs.Prelude.{false, []}
use Rattle.zq_world.specs.Marks.{piece_marks}
use Rattle.line_socket.specs.Owned.{parts}
use Rattle.plain_core.proofs.LetterLemmas.{fetch_as, finds_some, took_letter, took_none}
use Rattle.plain_core.proofs.TellLemmas.{acts_as, acts_tell}
use Rattle.plain_core.proofs.letter_tale.fetch_told.Goals as goal

pub and-requires : goal.and-requires
and-requires g c =
    let l = c.args.lent.now in
    let m = c.take_letter.new.socket in
    let taken = took_letter (λ s. parts s.pipes s.desk s.socket.core s.since.items) g.P.Pipes.known l m c.in-Ok-true.field-0 c.in-Ok-true.field-0-test c.in-Ok-true.ensures.ok in
    let marks = piece_marks c.args.caller false taken.acts [] in record {
      some = marks;
      so = fetch_as g.P.Pipes.known c.args.caller (parts l.pipes l.desk l.socket.core l.since.items) (parts m.pipes m.desk m.socket.core m.since.items)
          (parts c.noted-from.result.pipes.value c.noted-from.result.desk.value c.noted-from.result.socket.value c.noted-from.result.since.value.items)
          (parts c.noted.result.pipes.value c.noted.result.desk.value c.noted.result.socket.value c.noted.result.since.value.items)
          c.noted-from.ensures c.noted.ensures taken;
    }

pub unreachable-requires : goal.unreachable-requires
unreachable-requires g c =
    let l = c.args.lent.now in
    let m = c.take_letter.new.socket in
    finds_some g.P.Pipes.known l.pipes l.desk l.socket.core l.since.items (parts m.pipes m.desk m.socket.core m.since.items) c.requires.agrees c.is_of_one_order.ensures c.requires.waits
    (took_none (λ s. parts s.pipes s.desk s.socket.core s.since.items) g.P.Pipes.known l m c.in-Ok-false.field-0 c.in-Ok-false.field-0-test c.in-Ok-false.ensures.ok)

pub and-requires-in-Err : goal.and-requires-in-Err
and-requires-in-Err g c =
    let l = c.args.lent.now in
    let m = c.take_letter.new.socket in
    let some = c.in-Err.ensures.err in record {
      some = piece_marks c.args.caller false some.acts [];
      so = acts_as g.P.Pipes.known c.args.caller (parts l.pipes l.desk l.socket.core l.since.items) (parts m.pipes m.desk m.socket.core m.since.items)
          (parts c.noted-from.result.pipes.value c.noted-from.result.desk.value c.noted-from.result.socket.value c.noted-from.result.since.value.items)
          (parts c.noted-in-Err.result.pipes.value c.noted-in-Err.result.desk.value c.noted-in-Err.result.socket.value c.noted-in-Err.result.since.value.items)
          c.noted-from.ensures c.noted-in-Err.ensures
          (piece_marks c.args.caller false some.acts []) (acts_tell g.P.Pipes.known c.args.caller (parts l.pipes l.desk l.socket.core l.since.items) (parts m.pipes m.desk m.socket.core m.since.items) (record { acts = some.acts; led = some.led }));
    }
