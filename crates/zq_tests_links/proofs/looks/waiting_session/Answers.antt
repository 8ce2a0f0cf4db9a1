use Rattle.zq_tests_links.proofs.CallLemmas.{waiting_state}
use Rattle.zq_tests_links.proofs.looks.waiting_session.Goals as goal

pub returns-clause-state : goal.returns-clause-state
returns-clause-state c = waiting_state _ c.connecting-session.result c.attach.new.self c.set_state.new.self c.connecting-session.ensures.lived c.attach.ensures.happens c.set_state.ensures.happens
