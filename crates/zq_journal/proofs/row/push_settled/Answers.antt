use Rattle.std.proofs.Common.{◌≡◌, ◌++◌, ℕ, List, append_assoc}
use Rattle.std.specs.Prelude.{codes}
use Rattle.std.proofs.lemmas.Result.{IfOk-equal}
use Rattle.spec_run.specs.JournalText.{counts_text, rest_text, settled_row_text}
use Rattle.zq_journal.proofs.row.push_settled.Goals as goal

-- what was appended piece by piece is the pieces' list, appended
in_order : (o o1 counts space why end : List ℕ) → o1 ≡ o ++ counts → o1 ++ space ++ why ++ end ≡ o ++ (counts ++ space ++ why ++ end)
in_order o o1 counts space why end e = rw e (simp append_assoc)

pub returns : goal.returns
returns c = let row = c.args.row.now in
    IfOk-equal _ _ _ (c.args.out.now.items ++ settled_row_text row) c.push_why.ensures
    (in_order c.args.out.now.items c.push_counts.new.out.items (counts_text row.counts)
    (codes " ") (rest_text row.counts.rest row.reason) (codes "\n") c.in_ok-push_counts.ensures)
