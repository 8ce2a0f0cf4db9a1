use Rattle.zq_session.proofs.LookingLemmas.{looks_of}
use Rattle.zq_session.proofs.session.Session.look.Goals as goal

pub returns-clause-looks : goal.returns-clause-looks
returns-clause-looks g c =
    looks_of g.P.Pipes.known c.self.inside.course c.look.new.self c.self.inside.given c.args.self.now _ _ _ _ _ c.self.view_is c.look.ensures.looks
