use Rattle.std.specs.Prelude.{List, length, refl}
use Rattle.std.proofs.Common.{ap, ◌∙◌, arith}
use Rattle.spec_control.specs.declared.stage.Stage.TheVariants.{Cleared}
use Rattle.own_tree.specs.declared.row.Row.{Row}
use Rattle.own_tree.specs.Changes.{in_stage, one_less_owed, with_cleared}
use Rattle.own_tree.proofs.RowLemmas.{both_are, owned_has_row, owner_read}
use Rattle.own_tree.proofs.KeptLemmas.{now_adds}
use Rattle.own_tree.proofs.BothLemmas.{cleared_in, clearing_moves, owed_some}
use Rattle.own_tree.proofs.tree.OwnTree.on_ack.Goals as goal

pub invariant_of-self : goal.invariant_of-self
invariant_of-self c =
    cleared_in _ _ _ _ _ _ c.args.owner c.args.child c.self.view_is
    (both_are (in_stage Cleared) one_less_owed _ _ c.args.child c.args.owner c.index_mut.result.now c.index_mut-2.result.now c.self.view_is c.requires.unended c.requires.owned c.index_mut.ensures.value c.index_mut-2.ensures.value)
    c.self.invariant c.requires.unended c.requires.owned c.requires.finished

pub returns-clause-moves : goal.returns-clause-moves
returns-clause-moves c =
    clearing_moves _ _ _ c.args.owner c.args.child c.self.view_is
    (both_are (in_stage Cleared) one_less_owed _ _ c.args.child c.args.owner c.index_mut.result.now c.index_mut-2.result.now c.self.view_is c.requires.unended c.requires.owned c.index_mut.ensures.value c.index_mut-2.ensures.value)
    c.requires.finished

pub returns-clause-next : goal.returns-clause-next
returns-clause-next c =
    both_are (in_stage Cleared) one_less_owed _ _ c.args.child c.args.owner c.index_mut.result.now c.index_mut-2.result.now c.self.view_is c.requires.unended c.requires.owned c.index_mut.ensures.value c.index_mut-2.ensures.value
    ∙ ap (λ (l : List Row). with_cleared c.args.owner c.args.child l) c.self.view_is

pub index_mut-requires : goal.index_mut-requires
index_mut-requires c =
    let there = owned_has_row c.args.self.now c.args.child c.args.owner c.requires.owned in
    let same = ap (λ (l : List Row). length l) c.self.view_is in
    omega (arith, there, same)

pub overflow_sub-index_mut : goal.overflow_sub-index_mut
overflow_sub-index_mut c =
    let is = owner_read (λ (r : Row). r.owed) (in_stage Cleared) _ _ c.args.child c.args.owner c.index_mut.result.now c.index_mut-2.result.now (λ r. refl) c.self.view_is c.requires.unended c.requires.owned c.index_mut.ensures.value c.index_mut-2.ensures.value in
    let some = owed_some c.args.self.now c.args.owner c.args.child (λ id. now_adds _ _ _ _ _ id c.self.view_is c.self.invariant) c.requires.owned c.requires.finished in
    omega (arith, is, some)
