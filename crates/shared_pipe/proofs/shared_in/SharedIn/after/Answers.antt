use Rattle.shared_pipe.proofs.PlacesLemmas.{step_on, step_round}
use Rattle.shared_pipe.proofs.shared_in.SharedIn.after.Goals as goal

pub returns-else-self : goal.returns-else-self
returns-else-self c = step_on _ _ _ c.args.self.now.place c.if-self.false

pub returns-then-self : goal.returns-then-self
returns-then-self c = step_round _ _ _ c.args.self.now.place c.if-self.true
