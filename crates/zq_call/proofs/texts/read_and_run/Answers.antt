use Rattle.std.proofs.Common.{refl, rules}
use Rattle.zq_call.specs.declared.request.Request.TheVariants as request
use Rattle.zq_call.proofs.Says.{says_read}
use Rattle.zq_call.proofs.texts.read_and_run.Goals as goal

pub returns-in-Err-Failed-clause-says : goal.returns-in-Err-Failed-clause-says
returns-in-Err-Failed-clause-says g c = λ words asks. ((request.Run c.args.seed c.args.turns, asks), search rules, c.in_ok-from_slice-in-Err-Failed.ensures.items, refl)

pub returns-clause-says : goal.returns-clause-says
returns-clause-says g c = λ words asks. says_read g.X.Runs.prints g.X.Runs.refuses c.in_ok-said.said.0 words _ _ (record { seed = c.args.seed; turns = c.args.turns }) c.in-Ok.octets.items _ asks c.in-Ok.ensures.read
    (rw c.deref.ensures.value at c.in_ok-said.ensures.says)
