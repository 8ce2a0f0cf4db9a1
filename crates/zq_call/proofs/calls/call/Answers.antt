use Rattle.std.proofs.Common.{refl, rules}
use Rattle.zq_call.proofs.Says.{answers_said}
use Rattle.zq_call.proofs.calls.call.Goals as goal

pub returns-clause-answers : goal.returns-clause-answers
returns-clause-answers g c = answers_said g.X.Runs.prints g.X.Runs.refuses c.in-Ok.said.0 _ _ _ _ c.in-Ok.ensures.says (search rules)

pub returns-in-Err-clause-answers : goal.returns-in-Err-clause-answers
returns-in-Err-clause-answers g c = (refl, c.in-Err.ensures.err)

pub returns-in-Err-clause-memory : goal.returns-in-Err-clause-memory
returns-in-Err-clause-memory g c = λ _. refl
