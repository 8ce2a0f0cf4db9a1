use Rattle.std.specs.Prelude.{◌≡◌, ◌<◌, ◌≢◌, ◌+◌, ◌^◌, List, [], ◌∷◌, ◌++◌, length}
use Rattle.std.proofs.Common.{ap, arith, sym, ◌∙◌, subst}
use Rattle.spec_control.specs.declared.object.ObjState.TheVariants.{Ended}
use Rattle.own_tree.specs.Rows.{state_at}
use Rattle.own_tree.specs.declared.row.Row.{Row as TreeRow}
use Rattle.ctl_state.specs.Objects.{ObjectRows, tree_row, with_roomy}
use Rattle.ctl_state.proofs.KeptLemmas.{parts_seen}
use Rattle.ctl_state.specs.declared.belongings.Belongings.{Belongings}
use Rattle.ctl_state.specs.declared.detail.Detail.{Detail}
use Rattle.ctl_state.proofs.MakingLemmas.{makes_row}
use Rattle.ctl_state.proofs.objects.Objects.make.Goals as goal

pub returns-in-Ok-grow-clause-row : goal.returns-in-Ok-grow-clause-row
returns-in-Ok-grow-clause-row c =
    makes_row c.args.ends c.args.owner c.args.made _ _ _ c.self.view_is c.self.invariant.0 c.in-Ok-grow.ensures.ok
    (c.push_reserved.ensures.items ∙ ap (λ (ds : List Detail). ds ++ c.args.made.detail ∷ []) c.grow.ensures.details)
    (c.push_reserved-in-Ok-grow.ensures.items ∙ ap (λ (ls : List Belongings). ls ++ c.in-Ok.nothing ∷ []) c.grow.ensures.lists
    ∙ ap (λ (b : Belongings). c.self.inside.lists.items ++ b ∷ []) c.in-Ok.ensures)

pub grow-requires-clause-unended : goal.grow-requires-clause-unended
grow-requires-clause-unended c = subst (λ (o : ObjectRows). state_at o.tree c.args.owner ≢ Ended) (sym c.self.view_is) c.requires.unended

pub grow-requires-clause-few : goal.grow-requires-clause-few
grow-requires-clause-few c = subst (λ (o : ObjectRows). length o.tree < 2 ^ 32) (sym c.self.view_is) c.requires.few

pub grow-requires-clause-fits : goal.grow-requires-clause-fits
grow-requires-clause-fits c = subst (λ (o : ObjectRows). (tree_row o c.args.owner.0).sent + 1 < 2 ^ 64) (sym c.self.view_is) c.requires.fits

pub push_reserved-requires : goal.push_reserved-requires
push_reserved-requires c = let room = c.in-Ok-grow.ensures.detail_room in omega (arith, room)

pub push_reserved-requires-in-Ok-grow : goal.push_reserved-requires-in-Ok-grow
push_reserved-requires-in-Ok-grow c = let room = c.in-Ok-grow.ensures.list_room in omega (arith, room)

pub returns-in-Ok-grow-clause-number : goal.returns-in-Ok-grow-clause-number
returns-in-Ok-grow-clause-number c = c.in-Ok-grow.ensures.number ∙ ap (λ (o : ObjectRows). length o.tree) c.self.view_is

pub returns-in-Ok-grow-clause-ok : goal.returns-in-Ok-grow-clause-ok
returns-in-Ok-grow-clause-ok c =
    let was : ObjectRows = record { tree = c.self.inside.tree; details = c.self.inside.details.items; lists = c.self.inside.lists.items } in
    parts_seen (with_roomy c.args.ends c.args.owner c.args.made was) _ _ _ _ (ap (with_roomy c.args.ends c.args.owner c.args.made) c.self.view_is) c.in-Ok-grow.ensures.ok
    (c.push_reserved.ensures.items ∙ ap (λ (ds : List Detail). ds ++ c.args.made.detail ∷ []) c.grow.ensures.details)
    (c.push_reserved-in-Ok-grow.ensures.items ∙ ap (λ (ls : List Belongings). ls ++ c.in-Ok.nothing ∷ []) c.grow.ensures.lists
    ∙ ap (λ (b : Belongings). c.self.inside.lists.items ++ b ∷ []) c.in-Ok.ensures)

pub returns-in-Err-grow-clause-err : goal.returns-in-Err-grow-clause-err
returns-in-Err-grow-clause-err c = parts_seen _ _ _ _ _ c.self.view_is c.in-Err-grow.ensures.err c.grow.ensures.details c.grow.ensures.lists

pub invariant_of-self-in-Err-grow : goal.invariant_of-self-in-Err-grow
invariant_of-self-in-Err-grow c =
    let many = sym (ap (λ (ts : List TreeRow). length ts) c.in-Err-grow.ensures.err) in
    (ap (λ (ds : List Detail). length ds) c.grow.ensures.details ∙ c.self.invariant.0 ∙ many, ap (λ (ls : List Belongings). length ls) c.grow.ensures.lists ∙ c.self.invariant.1 ∙ many)

pub returns-in-Ok-grow-clause-even : goal.returns-in-Ok-grow-clause-even
returns-in-Ok-grow-clause-even c = subst (λ (o : ObjectRows). length o.lists ≡ length o.tree) c.self.view_is c.self.invariant.1
