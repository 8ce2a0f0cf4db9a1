use Rattle.std.specs.Prelude.{List, length, refl}
use Rattle.std.proofs.Common.{ap, ◌∙◌, arith}
use Rattle.spec_control.specs.declared.stage.Stage.TheVariants.{Told}
use Rattle.own_tree.specs.declared.row.Row.{Row}
use Rattle.own_tree.specs.Changes.{in_stage, one_more_owed, with_told}
use Rattle.own_tree.proofs.RowLemmas.{both_are, owned_has_row, owner_read}
use Rattle.own_tree.proofs.KeptLemmas.{awaited_few, now_adds}
use Rattle.own_tree.proofs.BothLemmas.{told_in, telling_moves}
use Rattle.own_tree.proofs.tree.OwnTree.tell.Goals as goal

pub invariant_of-self : goal.invariant_of-self
invariant_of-self c =
    told_in _ _ _ _ _ _ c.args.owner c.args.child c.self.view_is
    (both_are (in_stage Told) one_more_owed _ _ c.args.child c.args.owner c.index_mut.result.now c.index_mut-2.result.now c.self.view_is c.requires.unended c.requires.owned c.index_mut.ensures.value c.index_mut-2.ensures.value)
    c.self.invariant c.requires.unended c.requires.owned c.requires.alive

pub returns-clause-moves : goal.returns-clause-moves
returns-clause-moves c =
    telling_moves _ _ _ c.args.owner c.args.child c.self.view_is
    (both_are (in_stage Told) one_more_owed _ _ c.args.child c.args.owner c.index_mut.result.now c.index_mut-2.result.now c.self.view_is c.requires.unended c.requires.owned c.index_mut.ensures.value c.index_mut-2.ensures.value)
    c.requires.alive

pub returns-clause-next : goal.returns-clause-next
returns-clause-next c =
    both_are (in_stage Told) one_more_owed _ _ c.args.child c.args.owner c.index_mut.result.now c.index_mut-2.result.now c.self.view_is c.requires.unended c.requires.owned c.index_mut.ensures.value c.index_mut-2.ensures.value
    ∙ ap (λ (l : List Row). with_told c.args.owner c.args.child l) c.self.view_is

pub index_mut-requires : goal.index_mut-requires
index_mut-requires c =
    let there = owned_has_row c.args.self.now c.args.child c.args.owner c.requires.owned in
    let same = ap (λ (l : List Row). length l) c.self.view_is in
    omega (arith, there, same)

pub overflow_add-index_mut : goal.overflow_add-index_mut
overflow_add-index_mut c =
    let is = owner_read (λ (r : Row). r.owed) (in_stage Told) _ _ c.args.child c.args.owner c.index_mut.result.now c.index_mut-2.result.now (λ r. refl) c.self.view_is c.requires.unended c.requires.owned c.index_mut.ensures.value c.index_mut-2.ensures.value in
    let up = (now_adds _ _ _ _ _ c.args.owner c.self.view_is c.self.invariant).owed in
    let fits = (now_adds _ _ _ _ _ c.args.owner c.self.view_is c.self.invariant).ends_fit in
    let few = awaited_few _ _ _ _ _ c.args.owner c.self.view_is c.self.invariant in
    omega (arith, is, up, fits, few)
