use Rattle.std.proofs.Common.{ℕ, ◌++◌, ◌∙◌, ap, append_assoc, get_or}
use Rattle.std.specs.Prelude.{codes, decimal}
use Rattle.zq_base.specs.declared.ids.PairId.{PairId}
use Rattle.zq_journal.proofs.PushLemmas.{pushed_more}
use Rattle.zq_journal.proofs.report.push_others.Goals as goal

pub loop-pair-preserved : goal.loop-pair-preserved
loop-pair-preserved c =
    let out = c.loop-pair.out.items in
    let none : PairId = record { 0 = 0 } in
    let pair : PairId = get_or c.args.pairs.now c.loop-pair.pair-index none in
    pushed_more (λ (p : PairId). codes ",p" ++ decimal p.0) c.args.pairs.now c.loop-pair.pair-index none c.args.out.now.items out c.push_count.new.out.items
    c.loop-pair-test.true c.loop-pair.invariant
    (c.in_ok-push_count.ensures ∙ ap (λ (n : ℕ). out ++ codes ",p" ++ decimal n) c.from.ensures ∙ append_assoc out (codes ",p") (decimal pair.0))
