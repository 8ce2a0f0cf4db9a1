use Rattle.std.proofs.Common.{subst}
use Rattle.spec_link.specs.History.{Told}
use Rattle.zq_session.specs.Sessions.{SessionState, Happens}
use Rattle.zq_session.proofs.SessionLemmas.{the_state, told_is}
use Rattle.zq_session.proofs.session.Session.told.Goals as goal

pub returns-clause-happens : goal.returns-clause-happens
returns-clause-happens g c =
    let v = c.self.inside in
    subst (λ (x : SessionState _ _). Happens x (Told c.args.now) (the_state (record v.course { life = c.tell.new.self }) v.given v.input v.out)) c.self.view_is
    (told_is v.course c.tell.new.self c.args.now v.given v.input v.out c.tell.ensures)
