use Rattle.std.specs.Prelude.{refl, List, length}
use Rattle.std.proofs.Common.{arith, rules, ap}
use Rattle.own_tree.specs.declared.tally.Tally.{Tally}
use Rattle.own_tree.specs.Tallies.{no_tally}
use Rattle.own_tree.proofs.WriteLemmas.{read_within}
use Rattle.own_tree.proofs.EndingLemmas.{unowned, ending_tally, ended_in, root_ended_in, ends_from, asked_is_not_ended}
use Rattle.own_tree.specs.declared.row.Row.{Row}
use Rattle.spec_control.specs.declared.stage.Stage.TheVariants.{Finished}
use Rattle.own_tree.specs.Changes.{in_stage}
use Rattle.own_tree.proofs.RowLemmas.{has_row, change_is}
use Rattle.own_tree.proofs.tree.OwnTree.end.Goals as goal

pub index_mut-requires : goal.index_mut-requires
index_mut-requires c =
    let held = ending_tally _ _ _ _ _ c.args.id c.in-Some.owner c.index_mut-row.result.now c.self.view_is c.self.invariant c.requires.0 c.index_mut-row.ensures.value c.in-Some.is in
    search (rules, held.0)

pub overflow_sub-index_mut : goal.overflow_sub-index_mut
overflow_sub-index_mut c =
    let held = ending_tally _ _ _ _ _ c.args.id c.in-Some.owner c.index_mut-row.result.now c.self.view_is c.self.invariant c.requires.0 c.index_mut-row.ensures.value c.in-Some.is in
    let is = ap (λ (w : Tally). w.living) (read_within _ _ c.index_mut.result.now no_tally held.0 c.index_mut.ensures.value) in
    omega (arith, held.1, is)

pub invariant_of-self : goal.invariant_of-self
invariant_of-self c =
    ended_in _ _ _ _ _ c.args.id c.in-Some.owner c.index_mut-row.result.now c.index_mut.result.now c.self.view_is c.self.invariant c.requires.0 c.index_mut-row.ensures.value c.in-Some.is c.index_mut.ensures.value

pub invariant_of-self-in_default : goal.invariant_of-self-in_default
invariant_of-self-in_default c =
    root_ended_in _ _ _ _ _ c.args.id c.index_mut-row.result.now c.self.view_is c.self.invariant c.requires.0 c.index_mut-row.ensures.value (unowned _ c.in_default.not-Some)

pub returns-in-Some-clause-moves : goal.returns-in-Some-clause-moves
returns-in-Some-clause-moves c =
    ends_from _ _ _ _ _ c.args.id _ c.index_mut-row.result.now c.self.view_is c.self.invariant c.requires.0 c.requires.1 c.index_mut-row.ensures.value refl refl

pub returns-in_default-clause-moves : goal.returns-in_default-clause-moves
returns-in_default-clause-moves c =
    ends_from _ _ _ _ _ c.args.id _ c.index_mut-row.result.now c.self.view_is c.self.invariant c.requires.0 c.requires.1 c.index_mut-row.ensures.value refl refl

pub index_mut-row-requires : goal.index_mut-row-requires
index_mut-row-requires c =
    let there = has_row c.args.self.now c.args.id (λ h. asked_is_not_ended _ c.requires.0.asked h) in
    let same = ap (λ (l : List Row). length l) c.self.view_is in
    omega (arith, there, same)

pub returns-in-Some-clause-next : goal.returns-in-Some-clause-next
returns-in-Some-clause-next c =
    change_is (in_stage Finished) _ _ c.args.id c.index_mut-row.result.now c.self.view_is (has_row c.args.self.now c.args.id (λ h. asked_is_not_ended _ c.requires.0.asked h)) c.index_mut-row.ensures.value

pub returns-in_default-clause-next : goal.returns-in_default-clause-next
returns-in_default-clause-next c =
    change_is (in_stage Finished) _ _ c.args.id c.index_mut-row.result.now c.self.view_is (has_row c.args.self.now c.args.id (λ h. asked_is_not_ended _ c.requires.0.asked h)) c.index_mut-row.ensures.value
