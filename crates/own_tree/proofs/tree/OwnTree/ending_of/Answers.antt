use Rattle.std.proofs.Common.{arith, sym, ◌∙◌, ap}
use Rattle.std.proofs.lemmas.Bool.{both_ways}
use Rattle.own_tree.proofs.EndingLemmas.{waits_for_children}
use Rattle.std.specs.Prelude.{List, length}
use Rattle.own_tree.specs.declared.row.Row.{Row}
use Rattle.own_tree.proofs.RowLemmas.{has_row}
use Rattle.own_tree.proofs.tree.OwnTree.ending_of.Goals as goal
use Rattle.own_tree.proofs.tree.OwnTree.ending_of.Goals.{in-Live, in_default}

pub returns-then-living-ne0 : goal.returns-then-living-ne0
returns-then-living-ne0 c =
    elim c.match-matches.branch [
      | in-Live w ↦ absurd (both_ways _ c.if-matches.false w.matches-is)
      | in_default w ↦
          let waits = waits_for_children _ _ _ _ _ c.args.id c.index.result.now c.index-2.result.now c.state.result c.self.view_is c.self.invariant c.requires c.index.ensures c.state.ensures w.in_default.not-Live c.if-row.false c.if-row-ne0.false c.index-2.ensures in
          let some = c.if-living-ne0.true in
          (waits.0, waits.1, omega (arith, some))
    ]

pub returns : goal.returns
returns c =
    elim c.match-matches.branch [
      | in-Live w ↦ absurd (both_ways _ c.if-matches.false w.matches-is)
      | in_default w ↦
          let waits = waits_for_children _ _ _ _ _ c.args.id c.index.result.now c.index-2.result.now c.state.result c.self.view_is c.self.invariant c.requires c.index.ensures c.state.ensures w.in_default.not-Live c.if-row.false c.if-row-ne0.false c.index-2.ensures in
          (waits.0, sym waits.1 ∙ c.if-living-ne0.false)
    ]

pub index-requires : goal.index-requires
index-requires c =
    let there = has_row c.args.self.now c.args.id c.requires in
    let same = ap (λ (l : List Row). length l) c.self.view_is in
    omega (arith, there, same)

pub index-requires-2 : goal.index-requires-2
index-requires-2 c =
    let there = has_row c.args.self.now c.args.id c.requires in
    let same = ap (λ (l : List Row). length l) c.self.view_is in
    let tallied = c.self.invariant.tallied in
    omega (arith, there, same, tallied)
