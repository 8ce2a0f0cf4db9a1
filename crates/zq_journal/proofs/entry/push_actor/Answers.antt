use Rattle.std.proofs.Common.{ℕ, List, ◌++◌, ap, ◌∙◌}
use Rattle.spec_run.specs.JournalText.{entry_text}
use Rattle.zq_journal.proofs.PushLemmas.{pushed_item}
use Rattle.zq_journal.proofs.entry.push_actor.Goals as goal

pub loop-entry-preserved : goal.loop-entry-preserved
loop-entry-preserved c =
    pushed_item (entry_text c.args.actor.now.name) c.as_slice-entry-items.result.now c.loop-entry.entry-index c.entry-item.result c.args.out.now.items c.loop-entry.out.items c.push_entry.new.out.items
    c.loop-entry-test.true c.entry-item.is c.loop-entry.invariant
    (c.in_ok-push_entry.ensures ∙ ap (λ (name : List ℕ). c.loop-entry.out.items ++ entry_text name c.entry-item.result) c.as_slice.ensures)
