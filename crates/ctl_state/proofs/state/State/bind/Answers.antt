use Rattle.std.specs.Prelude.{refl}
use Rattle.ctl_state.proofs.PairLemmas.{away_placed}
use Rattle.ctl_state.proofs.EndLemmas.{bind_stands, bound_objects}
use Rattle.ctl_state.proofs.state.State.bind.Goals as goal
use Rattle.ctl_state.proofs.StandLemmas.{parts_are}

pub returns-clause-stands : goal.returns-clause-stands
returns-clause-stands g c = λ k h. bind_stands c.args.self.now c.args.e k h _ (away_placed c.args.self.now.pairs c.args.e c.requires.away) c.requires.away c.requires.takes_end c.requires.coming c.bind.ensures
    (bound_objects _ _ _ c.args.e _ _ c.owner-owner.ensures c.bind_comes.ensures c.end_comes.ensures) refl refl refl

pub returns-clause-next : goal.returns-clause-next
returns-clause-next g c = parts_are c.args.self.now _ _ _ _ (bound_objects _ _ _ c.args.e _ _ c.owner-owner.ensures c.bind_comes.ensures c.end_comes.ensures) c.bind.ensures
