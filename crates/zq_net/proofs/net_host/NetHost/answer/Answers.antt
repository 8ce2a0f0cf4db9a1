use Rattle.zq_net.proofs.net_host.NetHost.answer.Goals as goal

pub returns-clause-ok : goal.returns-clause-ok
returns-clause-ok g c = c.answer_of-answer.ensures.ok

pub returns-clause-err : goal.returns-clause-err
returns-clause-err g c = c.answer_of-answer.ensures.err

pub returns-clause-faults : goal.returns-clause-faults
returns-clause-faults g c = c.count.ensures.faults

pub returns-clause-stalls : goal.returns-clause-stalls
returns-clause-stalls g c = c.count.ensures.stalls
