use Rattle.std.proofs.Common.{◌≡◌, ◌++◌, ℕ, List, append_assoc}
use Rattle.std.specs.Prelude.{codes, decimal}
use Rattle.std.proofs.lemmas.Result.{IfOk-equal}
use Rattle.spec_run.specs.Text.{skips_text, answer_text}
use Rattle.spec_run.specs.JournalText.{entry_text}
use Rattle.zq_journal.proofs.entry.push_entry.Goals as goal

-- what was appended piece by piece is the pieces' list, appended
in_order : (o o1 name space number space' said skips end : List ℕ) → o1 ≡ o ++ name ++ space ++ number ++ space'
    → o1 ++ said ++ skips ++ end ≡ o ++ (name ++ space ++ number ++ space' ++ said ++ skips ++ end)
in_order o o1 name space number space' said skips end e = rw e (simp append_assoc)

pub returns : goal.returns
returns c = let e = c.args.entry.now in
    IfOk-equal _ _ _ (c.args.out.now.items ++ entry_text c.args.name.now e) c.push_outcome.ensures
    (in_order c.args.out.now.items c.push_place.new.out.items c.args.name.now (codes " ") (decimal e.line) (codes " ")
    (answer_text e.answer) (skips_text e.skips) (codes "\n") c.in_ok-push_place.ensures)
