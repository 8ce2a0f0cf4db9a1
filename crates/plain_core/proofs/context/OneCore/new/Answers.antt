use Rattle.std.specs.Prelude.{ℕ, false, List, []}
use Rattle.std.proofs.Common.{sym, subst}
use Rattle.zq_world.specs.declared.marks.PieceMark.{PieceMark}
use Rattle.plain_core.specs.Sound.{core_of, IsSound}
use Rattle.plain_core.proofs.NewLemmas.{new_sound}
use Rattle.plain_core.proofs.context.OneCore.new.Goals as goal

pub invariant_of-result : goal.invariant_of-result
invariant_of-result g c =
    subst (λ (ms : List PieceMark). IsSound g.P.Pipes.known (core_of c.in_ok-desk.desk c.new-pipes.result.pipes ms false) c.new-pipes.result.closed c.new-4.result.items) (sym c.new-3.ensures)
    (subst (λ (drops : List ℕ). IsSound g.P.Pipes.known (core_of c.in_ok-desk.desk c.new-pipes.result.pipes [] false) c.new-pipes.result.closed drops) (sym c.new-4.ensures.items)
    (new_sound g.P.Pipes.known c.new-pipes.result.pipes c.in_ok-desk.desk c.in_ok-desk.ensures c.is_of_one_order.ensures c.requires c.new-pipes.result.closed c.new-pipes.ensures.none c.new-pipes.result.indexed))
