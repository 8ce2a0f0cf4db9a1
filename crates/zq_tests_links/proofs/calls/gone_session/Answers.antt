use Rattle.zq_tests_links.proofs.CallLemmas.{gone_state}
use Rattle.zq_tests_links.proofs.calls.gone_session.Goals as goal

pub returns-clause-state : goal.returns-clause-state
returns-clause-state c = gone_state _ c.connecting-session.result c.set_state.new.self c.connecting-session.ensures.lived c.set_state.ensures.happens
