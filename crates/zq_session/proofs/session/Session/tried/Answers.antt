use Rattle.std.proofs.Common.{subst}
use Rattle.spec_link.specs.History.{Tried}
use Rattle.zq_session.specs.Sessions.{SessionState, Happens}
use Rattle.zq_session.proofs.SessionLemmas.{the_state, tried_is}
use Rattle.zq_session.proofs.session.Session.tried.Goals as goal

pub returns-clause-happens : goal.returns-clause-happens
returns-clause-happens g c =
    subst (λ (x : SessionState _ _). Happens x (Tried c.args.left) (the_state (record c.self.inside.course { life = record c.self.inside.course.life { waits = c.args.left } }) c.self.inside.given c.self.inside.input c.self.inside.out)) c.self.view_is (tried_is c.self.inside.course c.args.left c.self.inside.given c.self.inside.input c.self.inside.out)
