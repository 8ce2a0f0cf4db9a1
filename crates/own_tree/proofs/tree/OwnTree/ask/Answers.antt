use Rattle.std.specs.Prelude.{refl, List, length}
use Rattle.std.proofs.Common.{arith, ap}
use Rattle.own_tree.specs.declared.row.Row.{Row}
use Rattle.spec_control.specs.declared.stage.Stage.TheVariants.{Ending}
use Rattle.own_tree.specs.Rows.{row_at}
use Rattle.own_tree.specs.Changes.{in_stage}
use Rattle.own_tree.proofs.RowLemmas.{asked_lives, asks_from, change_is, live_has_row}
use Rattle.own_tree.proofs.KeptLemmas.{kept_in, asked_alike, asked_lives_on}
use Rattle.own_tree.proofs.tree.OwnTree.ask.Goals as goal

pub invariant_of-self : goal.invariant_of-self
invariant_of-self c =
    kept_in (in_stage Ending) _ _ _ _ _ c.args.id c.index_mut.result.now c.self.view_is (live_has_row _ _ (asked_lives (row_at c.args.self.now c.args.id) c.requires.told)) c.index_mut.ensures.value c.self.invariant
    (record { owner = refl; noted = refl; awaited = asked_alike (row_at c.args.self.now c.args.id) c.requires.told }) (asked_lives_on (row_at c.args.self.now c.args.id) c.requires.told)
    (λ u a h. record { sent = h.sent; owed = h.owed; sent_fits = h.sent_fits; ends_fit = h.ends_fit })

pub returns-clause-moves : goal.returns-clause-moves
returns-clause-moves c =
    asks_from _ _ c.args.id _ c.index_mut.result.now c.self.view_is c.requires.told c.index_mut.ensures.value refl refl

pub returns-clause-next : goal.returns-clause-next
returns-clause-next c = change_is (in_stage Ending) _ _ c.args.id c.index_mut.result.now c.self.view_is (live_has_row _ _ (asked_lives (row_at c.args.self.now c.args.id) c.requires.told)) c.index_mut.ensures.value

pub index_mut-requires : goal.index_mut-requires
index_mut-requires c =
    let there = live_has_row c.args.self.now c.args.id (asked_lives (row_at c.args.self.now c.args.id) c.requires.told) in
    let same = ap (λ (l : List Row). length l) c.self.view_is in
    omega (arith, there, same)
