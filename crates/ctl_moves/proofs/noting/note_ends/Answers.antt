use Rattle.std.proofs.Common.{arith, ◌∙◌}
use Rattle.std.proofs.lemmas.List.{length-set}
use Rattle.ctl_moves.specs.Noting.{noted_end}
use Rattle.ctl_moves.proofs.NotedLemmas.{end_noted, mapped_all}
use Rattle.ctl_moves.proofs.noting.note_ends.Goals as goal

pub each-preserved : goal.each-preserved
each-preserved g c = record {
  so_far = λ k stands.
      end_noted k c.each.place c.args.ends.now.items c.each.ends.items c.index_mut.result.now c.index.result.now c.has_met-met.result
      (let below = c.each-test.true in let many = c.len-many.ensures in omega (arith, below, many)) c.each.invariant.many (c.each.invariant.so_far k stands) c.index_mut.ensures.value c.index.ensures (c.has_met-met.ensures k stands);
  many = length-set c.each.ends.items c.each.place _ ∙ c.each.invariant.many;
}

pub returns : goal.returns
returns g c = λ k stands.
    c.each.invariant.so_far k stands
    ∙ mapped_all (noted_end k) c.each.place c.args.ends.now.items (let end = c.each.auto.place-end in let done = c.each-test.false in let many = c.len-many.ensures in omega (arith, end, done, many))
