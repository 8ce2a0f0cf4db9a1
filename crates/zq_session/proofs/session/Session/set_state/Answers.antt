use Rattle.std.proofs.Common.{Some, subst}
use Rattle.spec_link.specs.History.{EndIs}
use Rattle.zq_session.specs.Sessions.{SessionState, Happens}
use Rattle.zq_session.proofs.SessionLemmas.{the_state, state_is}
use Rattle.zq_session.proofs.session.Session.set_state.Goals as goal

pub returns-clause-happens : goal.returns-clause-happens
returns-clause-happens g c =
    subst (λ (x : SessionState _ _). Happens x (EndIs c.args.state) (the_state (record c.self.inside.course { life = record c.self.inside.course.life { state = Some c.args.state } }) c.self.inside.given c.self.inside.input c.self.inside.out)) c.self.view_is (state_is c.self.inside.course c.args.state c.self.inside.given c.self.inside.input c.self.inside.input c.self.inside.out c.self.inside.out)
