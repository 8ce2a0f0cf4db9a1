use Rattle.std.specs.Prelude.{true, []}
use Rattle.zq_world.specs.Marks.{piece_marks}
use Rattle.reaper.specs.Steps.{acts_at, reap_parts}
use Rattle.plain_core.proofs.ReapTellLemmas.{reap_at_tells}
use Rattle.plain_core.proofs.reap_tale.reap_at_lent.Goals as goal

pub and-requires : goal.and-requires
and-requires g c =
    let old = reap_parts c.lend.new.self c.args.pipes.now c.args.closed.now in
    let new = reap_parts c.reap_at.new.desk c.reap_at.new.pipes c.reap_at.new.closed in
    let from = c.noted-from.result in
    let to = c.noted.result in
    let reaped = c.in-Ok.ensures.ok in record {
      some = piece_marks c.args.caller true (acts_at g.P.Pipes.known c.args.slot old new reaped) [];
      so = reap_at_tells g.P.Pipes.known c.args.caller c.args.slot old new (reap_parts from.desk.value from.pipes.value from.closed.value) (reap_parts to.desk.value to.pipes.value to.closed.value) c.noted-from.ensures c.noted.ensures reaped;
    }
