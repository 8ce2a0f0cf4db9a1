use Rattle.std.specs.Prelude.{refl}
use Rattle.ctl_state.proofs.PairLemmas.{away_placed}
use Rattle.ctl_state.proofs.EndLemmas.{strike_stands}
use Rattle.ctl_state.proofs.state.State.strike.Goals as goal

pub returns-clause-stands : goal.returns-clause-stands
returns-clause-stands g c = λ k h. strike_stands c.args.self.now c.args.e k h _ (away_placed c.args.self.now.pairs c.args.e c.requires.away) c.strike.ensures refl refl refl refl
