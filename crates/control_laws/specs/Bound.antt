-- How many commands are processed and requests accepted once the root was asked to end (own choice, after libzmq's `ctx_t`).
use Rattle.std.specs.Prelude.{◌≡◌, ◌≤◌, ◌+◌, ◌-◌, ◌*◌, ℕ, true, List, ◌++◌, sum_by}
use Rattle.spec_control.specs.declared.entry.Item.{Item}
use Rattle.spec_control.specs.Control.{Control, begun, next_object, next_pair}
use Rattle.spec_control.specs.Reply.{root_asked}
use Rattle.spec_control.specs.ControlRun.{after_all, IsControlRun}
use Rattle.spec_control.specs.Quiescence.{tokens_left, item_costs}

-- how many objects were made, the root among them
abbrev pub objects_made : Control → ℕ
objects_made c = next_object c

-- and how many pairs, whose numbers begin at 1
abbrev pub pairs_made : Control → ℕ
pairs_made c = next_pair c - 1

-- what was processed and accepted since the root was asked, and what may still be, is at most eight for each object and seven for each pair made by then
abbrev pub EndingIsBounded : (N S : Type 0) → Type 0
EndingIsBounded N S = (workers : ℕ) (past next : List (Item N S)) → IsControlRun (begun workers) (past ++ next) → root_asked (after_all past (begun workers)) ≡ true →
    let c = after_all next (after_all past (begun workers)) in sum_by item_costs next + tokens_left c.rows ≤ 8 * objects_made c + 7 * pairs_made c
