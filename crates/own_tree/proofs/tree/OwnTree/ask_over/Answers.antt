use Rattle.std.specs.Prelude.{refl, List, length}
use Rattle.std.proofs.Common.{arith, ap}
use Rattle.own_tree.specs.declared.row.Row.{Row}
use Rattle.spec_control.specs.declared.stage.Use.TheVariants.{OnItsWay}
use Rattle.own_tree.specs.Changes.{with_request}
use Rattle.own_tree.proofs.RowLemmas.{change_is, has_row, makes_no_move}
use Rattle.own_tree.proofs.KeptLemmas.{kept_in}
use Rattle.own_tree.proofs.tree.OwnTree.ask_over.Goals as goal

pub invariant_of-self : goal.invariant_of-self
invariant_of-self c =
    kept_in (with_request OnItsWay) _ _ _ _ _ c.args.id c.index_mut.result.now c.self.view_is (has_row _ _ c.requires.unended) c.index_mut.ensures.value c.self.invariant
    (record { owner = refl; noted = refl; awaited = λ id. refl }) refl
    (λ u a h. record { sent = h.sent; owed = h.owed; sent_fits = h.sent_fits; ends_fit = h.ends_fit })

pub returns-clause-moves : goal.returns-clause-moves
returns-clause-moves c = makes_no_move _ _ c.args.id _ c.index_mut.result.now c.self.view_is c.requires.unended c.index_mut.ensures.value refl refl

pub returns-clause-next : goal.returns-clause-next
returns-clause-next c = change_is (with_request OnItsWay) _ _ c.args.id c.index_mut.result.now c.self.view_is (has_row _ _ c.requires.unended) c.index_mut.ensures.value

pub index_mut-requires : goal.index_mut-requires
index_mut-requires c =
    let there = has_row c.args.self.now c.args.id c.requires.unended in
    let same = ap (λ (l : List Row). length l) c.self.view_is in
    omega (arith, there, same)
