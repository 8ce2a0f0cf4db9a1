use Rattle.std.specs.Prelude.{List, length, refl}
use Rattle.std.proofs.Common.{ap, sym, ◌∙◌, subst}
use Rattle.std.proofs.lemmas.Bool.{false≢true}
use Rattle.spec_control.specs.declared.stage.Stage.TheVariants.{Finished}
use Rattle.spec_control.specs.Row.{Row}
use Rattle.own_tree.specs.declared.row.Row.{Row as TreeRow}
use Rattle.own_tree.specs.Rows.{AddsUp}
use Rattle.own_tree.specs.Changes.{in_stage}
use Rattle.ctl_state.specs.Objects.{ObjectRows}
use Rattle.ctl_state.proofs.LinkLemmas.{becomes_one, even_one, unended_there}
use Rattle.ctl_state.proofs.EndingLemmas.{right_ended, right_not_ended}
use Rattle.ctl_state.proofs.objects.Objects.ends.Goals as goal

pub returns-in-Ended-clause-yes : goal.returns-in-Ended-clause-yes
returns-in-Ended-clause-yes c = λ e. right_ended _ _ c.args.id _ c.self.view_is c.try_end.ensures.right c.in-Ended.is

pub returns-in_default-clause-no : goal.returns-in_default-clause-no
returns-in_default-clause-no c = λ e. right_not_ended _ _ c.args.id _ c.self.view_is c.try_end.ensures.right c.in_default.not-Ended

pub returns-in-Ended-clause-no : goal.returns-in-Ended-clause-no
returns-in-Ended-clause-no c = λ e. absurd (false≢true (sym e))

pub returns-in-Ended-clause-others : goal.returns-in-Ended-clause-others
returns-in-Ended-clause-others c = λ e. absurd (false≢true (sym e))

pub returns-in-Ended-clause-adds : goal.returns-in-Ended-clause-adds
returns-in-Ended-clause-adds c = subst (λ (o : ObjectRows). AddsUp o.tree c.args.id) c.self.view_is (c.add_up.ensures c.args.id)

pub returns-in-Ended-clause-ended : goal.returns-in-Ended-clause-ended
returns-in-Ended-clause-ended c = λ e.
    becomes_one _ c.args.self.now c.try_end.new.self c.self.view_is (λ (r : Row). record r { stage = Finished }) (in_stage Finished) c.args.id
    (c.try_end.ensures.ended c.in-Ended.is) (record { row = λ t d. refl; counts = λ t. refl; sent = λ t. refl })
    (unended_there c.args.self.now c.args.id c.requires.unended)

pub invariant_of-self : goal.invariant_of-self
invariant_of-self c = even_one (in_stage Finished) c.args.id _ _ (c.try_end.ensures.ended c.in-Ended.is) c.self.invariant

pub invariant_of-self-in_default : goal.invariant_of-self-in_default
invariant_of-self-in_default c =
    let many = ap (λ (ts : List TreeRow). length ts) (c.try_end.ensures.others c.in_default.not-Ended) in
    (c.self.invariant.0 ∙ sym many, c.self.invariant.1 ∙ sym many)

pub returns-in_default-clause-yes : goal.returns-in_default-clause-yes
returns-in_default-clause-yes c = λ e. absurd (false≢true e)

pub returns-in_default-clause-ended : goal.returns-in_default-clause-ended
returns-in_default-clause-ended c = λ e. absurd (false≢true e)

pub returns-in_default-clause-adds : goal.returns-in_default-clause-adds
returns-in_default-clause-adds c = subst (λ (o : ObjectRows). AddsUp o.tree c.args.id) c.self.view_is (c.add_up.ensures c.args.id)

pub returns-in_default-clause-others : goal.returns-in_default-clause-others
returns-in_default-clause-others c = λ e.
    ap (λ (ts : List TreeRow). let o : ObjectRows = record { tree = ts; details = c.self.inside.details.items; lists = c.self.inside.lists.items } in o)
    (c.try_end.ensures.others c.in_default.not-Ended) ∙ c.self.view_is
