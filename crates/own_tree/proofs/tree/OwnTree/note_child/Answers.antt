use Rattle.std.specs.Prelude.{List, length, not, refl}
use Rattle.std.proofs.Common.{ap, ◌∙◌, arith}
use Rattle.own_tree.specs.declared.row.Row.{Row}
use Rattle.own_tree.specs.Rows.{is_unnoted}
use Rattle.own_tree.specs.Changes.{as_noted, one_more_processed, with_noted}
use Rattle.own_tree.proofs.SumLemmas.{where_some}
use Rattle.own_tree.proofs.RowLemmas.{both_are, has_row, owned_has_row, owner_read}
use Rattle.own_tree.proofs.KeptLemmas.{now_adds}
use Rattle.own_tree.proofs.BothLemmas.{noted_tally, noted_in, noting_moves}
use Rattle.own_tree.proofs.tree.OwnTree.note_child.Goals as goal

pub invariant_of-self : goal.invariant_of-self
invariant_of-self c =
    noted_in _ _ _ _ _ _ c.args.owner c.args.child c.index_mut-3.result.now c.self.view_is
    (both_are as_noted one_more_processed _ _ c.args.child c.args.owner c.index_mut.result.now c.index_mut-2.result.now c.self.view_is c.requires.unended c.requires.owned c.index_mut.ensures.value c.index_mut-2.ensures.value)
    c.self.invariant c.requires.unended c.requires.owned c.requires.unnoted c.index_mut-3.ensures.value

pub returns-clause-moves : goal.returns-clause-moves
returns-clause-moves c =
    noting_moves _ _ _ c.args.owner c.args.child c.self.view_is
    (both_are as_noted one_more_processed _ _ c.args.child c.args.owner c.index_mut.result.now c.index_mut-2.result.now c.self.view_is c.requires.unended c.requires.owned c.index_mut.ensures.value c.index_mut-2.ensures.value)

pub returns-clause-next : goal.returns-clause-next
returns-clause-next c =
    both_are as_noted one_more_processed _ _ c.args.child c.args.owner c.index_mut.result.now c.index_mut-2.result.now c.self.view_is c.requires.unended c.requires.owned c.index_mut.ensures.value c.index_mut-2.ensures.value
    ∙ ap (λ (l : List Row). with_noted c.args.owner c.args.child l) c.self.view_is

pub index_mut-requires : goal.index_mut-requires
index_mut-requires c =
    let there = owned_has_row c.args.self.now c.args.child c.args.owner c.requires.owned in
    let same = ap (λ (l : List Row). length l) c.self.view_is in
    omega (arith, there, same)

pub index_mut-requires-3 : goal.index_mut-requires-3
index_mut-requires-3 c =
    let there = has_row c.args.self.now c.args.owner c.requires.unended in
    let same = ap (λ (l : List Row). length l) c.self.view_is in
    let tallied = c.self.invariant.tallied in
    omega (arith, there, same, tallied)

pub overflow_add-index_mut : goal.overflow_add-index_mut
overflow_add-index_mut c =
    let is = owner_read (λ (r : Row). r.processed) as_noted _ _ c.args.child c.args.owner c.index_mut.result.now c.index_mut-2.result.now (λ r. refl) c.self.view_is c.requires.unended c.requires.owned c.index_mut.ensures.value c.index_mut-2.ensures.value in
    let up = (now_adds _ _ _ _ _ c.args.owner c.self.view_is c.self.invariant).sent in
    let fits = (now_adds _ _ _ _ _ c.args.owner c.self.view_is c.self.invariant).sent_fits in
    let some = where_some is_unnoted c.args.self.now c.args.child c.args.owner (owned_has_row c.args.self.now c.args.child c.args.owner c.requires.owned) c.requires.owned (ap not c.requires.unnoted) in
    omega (arith, is, up, fits, some)

pub overflow_sub-index_mut : goal.overflow_sub-index_mut
overflow_sub-index_mut c =
    (noted_tally _ _ _ _ _ c.args.owner c.args.child _ c.self.view_is c.self.invariant c.requires.unended c.requires.owned c.requires.unnoted c.index_mut-3.ensures.value).1
