use Rattle.zq_top.proofs.Dues.{answers_due}
use Rattle.zq_top.proofs.top.run.Goals as goal

pub returns-clause-due : goal.returns-clause-due
returns-clause-due g c = λ sound. answers_due c.scripts_are_done_in_time.ensures c.scripts_that_are_read_may_be_asked.ensures c.call.result _ _ _ c.call.ensures.answers sound
