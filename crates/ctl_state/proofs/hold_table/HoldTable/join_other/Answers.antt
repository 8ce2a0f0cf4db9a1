use Rattle.std.specs.Prelude.{List, filter, position}
use Rattle.std.proofs.Common.{ap, ◌∙◌}
use Rattle.ctl_state.specs.declared.hold.Hold.{Hold}
use Rattle.ctl_state.specs.declared.hold.Sought.TheVariants.{Waiting}
use Rattle.ctl_state.specs.Holds.{joined_first, seeks}
use Rattle.ctl_state.specs.Listed.{Listed}
use Rattle.ctl_state.specs.Marks.{HoldRows, has_mark, with_others}
use Rattle.ctl_state.proofs.HoldLemmas.{joined_there, joined_none}
use Rattle.ctl_state.proofs.MarkLemmas.{joined_none_left}
use Rattle.ctl_state.proofs.hold_table.HoldTable.join_other.Goals as goal

pub invariant_of-self : goal.invariant_of-self
invariant_of-self c =
    let test = seeks Waiting c.args.at.now in
    let items = c.self.inside.others.items in (
      λ m none. ap (λ (l : Listed Hold). filter (has_mark m) l.items) c.join.ensures
          ∙ ap (filter (has_mark m)) (joined_there c.args.at.now c.args.pair items c.in-Some.place (c.in-Some.ensures ∙ ap (position test) c.as_slice.ensures))
          ∙ joined_none_left c.args.at.now c.args.pair m items (c.self.invariant.0 m none),
      rw c.join.ensures c.self.invariant.1,
    )

pub returns-in-Some : goal.returns-in-Some
returns-in-Some c =
    let test = seeks Waiting c.args.at.now in
    let rows : List Hold → HoldRows = λ hs. record { firsts = c.self.inside.firsts.entries; others = hs; spare = c.self.inside.others.spare } in
    ap (λ (l : Listed Hold). let r : HoldRows = record { firsts = c.self.inside.firsts.entries; others = l.items; spare = l.spare } in r) c.join.ensures
    ∙ ap rows (joined_there c.args.at.now c.args.pair c.self.inside.others.items c.in-Some.place (c.in-Some.ensures ∙ ap (position test) c.as_slice.ensures))
    ∙ ap (λ (r : HoldRows). with_others (joined_first c.args.at.now c.args.pair r.others) r) c.self.view_is

pub returns-in-None : goal.returns-in-None
returns-in-None c =
    let test = seeks Waiting c.args.at.now in
    ap (λ (hs : List Hold). with_others hs c.args.self.now)
    (joined_none c.args.at.now c.args.pair c.args.self.now.others (c.in-None.ensures ∙ ap (position test) c.as_slice.ensures ∙ ap (λ (r : HoldRows). position test r.others) c.self.view_is))
