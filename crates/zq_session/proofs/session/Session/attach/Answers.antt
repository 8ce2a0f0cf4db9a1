use Rattle.std.proofs.Common.{Some, subst}
use Rattle.spec_control.specs.declared.end.EndState.TheVariants.{Active}
use Rattle.spec_link.specs.History.{EndIs}
use Rattle.zq_session.specs.Sessions.{SessionState, Happens}
use Rattle.zq_session.proofs.SessionLemmas.{the_state, state_is}
use Rattle.zq_session.proofs.session.Session.attach.Goals as goal

pub returns-clause-happens : goal.returns-clause-happens
returns-clause-happens g c =
    subst (λ (x : SessionState _ _). Happens x (EndIs Active) (the_state (record c.self.inside.course { life = record c.self.inside.course.life { state = Some Active } }) c.self.inside.given (Some c.args.input) (Some c.args.out))) c.self.view_is (state_is c.self.inside.course Active c.self.inside.given c.self.inside.input (Some c.args.input) c.self.inside.out (Some c.args.out))
