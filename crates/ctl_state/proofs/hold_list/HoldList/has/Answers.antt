use Rattle.std.specs.Prelude.{[]}
use Rattle.std.specs.List.{list_any}
use Rattle.std.proofs.Common.{ap, ◌∙◌}
use Rattle.endpoint_book.proofs.OrderLemmas.{any_within}
use Rattle.ctl_state.specs.declared.hold.Hold.{Hold}
use Rattle.ctl_state.specs.Holds.{seeks}
use Rattle.ctl_state.specs.Listed.{Listed}
use Rattle.ctl_state.specs.Marks.{after_all, has_mark, mark_of}
use Rattle.ctl_state.proofs.MarkLemmas.{sought_there}
use Rattle.ctl_state.proofs.hold_list.HoldList.has.Goals as goal

pub returns : goal.returns
returns c =
    let test = seeks c.args.sought c.args.to.now in
    c.has.ensures ∙ ap (list_any test) (c.self.invariant (mark_of c.args.to.now))
    ∙ any_within test (has_mark (mark_of c.args.to.now)) (sought_there c.args.sought c.args.to.now) (after_all [] c.self.inside.past.items)
    ∙ ap (λ (l : Listed Hold). list_any test l.items) c.self.view_is
