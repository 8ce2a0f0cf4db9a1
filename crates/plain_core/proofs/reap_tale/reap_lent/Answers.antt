use Rattle.std.specs.Prelude.{true, []}
use Rattle.zq_world.specs.Marks.{piece_marks}
use Rattle.reaper.specs.Steps.{acts_reaped, reap_parts}
use Rattle.plain_core.proofs.ReapTellLemmas.{reap_tells}
use Rattle.plain_core.proofs.reap_tale.reap_lent.Goals as goal

pub and-requires : goal.and-requires
and-requires g c =
    let old = reap_parts c.lend.new.self c.args.pipes.now c.args.closed.now in
    let new = reap_parts c.reap_once.new.desk c.reap_once.new.pipes c.reap_once.new.closed in
    let from = c.noted-from.result in
    let to = c.noted.result in
    let reaped = c.in-Ok.ensures.ok in record {
      some = piece_marks c.args.caller true (acts_reaped g.P.Pipes.known old new reaped) [];
      so = reap_tells g.P.Pipes.known c.args.caller old new (reap_parts from.desk.value from.pipes.value from.closed.value) (reap_parts to.desk.value to.pipes.value to.closed.value) c.noted-from.ensures c.noted.ensures reaped;
    }
