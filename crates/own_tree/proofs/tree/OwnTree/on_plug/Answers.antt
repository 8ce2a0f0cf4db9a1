use Rattle.std.specs.Prelude.{refl, ℕ, Bool, List, cond, length}
use Rattle.std.proofs.Common.{arith, ap}
use Rattle.own_tree.specs.declared.row.Row.{Row}
use Rattle.own_tree.specs.Changes.{as_plugged}
use Rattle.own_tree.proofs.RowLemmas.{change_is, has_row, makes_no_move, row_read}
use Rattle.own_tree.proofs.KeptLemmas.{kept_in, now_adds, plugged_adds}
use Rattle.own_tree.proofs.tree.OwnTree.on_plug.Goals as goal

pub invariant_of-self : goal.invariant_of-self
invariant_of-self c =
    kept_in as_plugged _ _ _ _ _ c.args.id c.index_mut-row.result.now c.self.view_is (has_row _ _ c.requires.unended) c.index_mut-row.ensures.value c.self.invariant
    (record { owner = refl; noted = refl; awaited = λ id. refl }) refl
    (λ u a h. plugged_adds _ u a c.requires.unplugged h)

pub returns-clause-moves : goal.returns-clause-moves
returns-clause-moves c = makes_no_move _ _ c.args.id _ c.index_mut-row.result.now c.self.view_is c.requires.unended c.index_mut-row.ensures.value refl refl

pub returns-clause-next : goal.returns-clause-next
returns-clause-next c = change_is as_plugged _ _ c.args.id c.index_mut-row.result.now c.self.view_is (has_row _ _ c.requires.unended) c.index_mut-row.ensures.value

pub index_mut-row-requires : goal.index_mut-row-requires
index_mut-row-requires c =
    let there = has_row c.args.self.now c.args.id c.requires.unended in
    let same = ap (λ (l : List Row). length l) c.self.view_is in
    omega (arith, there, same)

pub overflow_add-row : goal.overflow_add-row
overflow_add-row c =
    let is = ap (λ (r : Row). r.processed) (row_read _ _ _ _ c.self.view_is (has_row _ _ c.requires.unended) c.index_mut-row.ensures.value) in
    let up = (now_adds _ _ _ _ _ c.args.id c.self.view_is c.self.invariant).sent in
    let fits = (now_adds _ _ _ _ _ c.args.id c.self.view_is c.self.invariant).sent_fits in
    let coming = ap {B = ℕ} (λ (b : Bool). cond b 0 1) c.requires.unplugged in
    omega (arith, is, up, fits, coming)
