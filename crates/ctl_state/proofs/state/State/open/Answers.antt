use Rattle.std.specs.Prelude.{refl}
use Rattle.std.proofs.Common.{ap, ◌∙◌}
use Rattle.ctl_state.specs.Pairs.{owner_at}
use Rattle.ctl_state.proofs.PairLemmas.{unmade_placed}
use Rattle.ctl_state.proofs.EndLemmas.{open_stands, opened_objects}
use Rattle.ctl_state.proofs.state.State.open.Goals as goal
use Rattle.ctl_state.proofs.StandLemmas.{parts_are}

pub returns-clause-stands : goal.returns-clause-stands
returns-clause-stands g c = λ k h. open_stands c.args.self.now c.args.e k h _ (unmade_placed c.args.self.now.pairs c.args.e c.requires.unmade) c.requires.unmade c.requires.other_unmade
    c.requires.takes_end c.requires.takes_bind.unended c.open.ensures
    (opened_objects _ _ _ c.args.e _ _ _ _ c.owner-owner.ensures (c.owner-other.ensures ∙ ap (owner_at c.args.self.now.pairs) c.other.ensures) c.end_comes.ensures c.bind_put.ensures) refl refl refl

pub returns-clause-next : goal.returns-clause-next
returns-clause-next g c = parts_are c.args.self.now _ _ _ _ (opened_objects _ _ _ c.args.e _ _ _ _ c.owner-owner.ensures (c.owner-other.ensures ∙ ap (owner_at c.args.self.now.pairs) c.other.ensures) c.end_comes.ensures c.bind_put.ensures) c.open.ensures
