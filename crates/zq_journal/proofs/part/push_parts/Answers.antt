use Rattle.std.proofs.Common.{ℕ, List, ◌++◌, ◌∙◌, ap, append_assoc}
use Rattle.std.specs.Prelude.{codes}
use Rattle.spec_run.specs.PartText.{part_text}
use Rattle.zq_journal.proofs.PushLemmas.{pushed_item}
use Rattle.zq_journal.proofs.part.push_parts.Goals as goal

pub loop-frame-preserved : goal.loop-frame-preserved
loop-frame-preserved c =
    let out = c.loop-frame.out.items in
    let frame = c.frame-item.result in
    pushed_item (λ (part : List ℕ). codes " " ++ part_text part) c.frames-frame-items.result.now c.loop-frame.frame-index frame c.args.out.now.items out c.push_part.new.out.items
    c.loop-frame-test.true c.frame-item.is c.loop-frame.invariant
    (c.in_ok-push_part.ensures ∙ ap (λ (l : List ℕ). c.extend_from_slice.new.self.items ++ part_text l) c.as_slice.ensures
    ∙ ap (λ (l : List ℕ). l ++ part_text frame) c.in_ok-extend_from_slice.ensures.items ∙ append_assoc out (codes " ") (part_text frame))
