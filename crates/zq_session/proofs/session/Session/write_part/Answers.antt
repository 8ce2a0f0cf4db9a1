use Rattle.link_side.proofs.PartLemmas.{on_err}
use Rattle.zq_session.proofs.SessionLemmas.{did_of}
use Rattle.zq_session.proofs.PartsLemmas.{did_tells}
use Rattle.zq_session.proofs.session.Session.write_part.Goals as goal

pub returns-clause-did : goal.returns-clause-did
returns-clause-did g c =
    did_tells g.P.Pipes.known _ _ _ _ _ _ c.in_ok-moved.moved c.as_turned.result c.args.now _ _ _ _ _ _ c.as_turned.ensures
    (did_of g.P.Pipes.known _ _ _ _ _ _ c.args.now c.self.inside.course c.write_part.new.self c.self.inside.given c.args.self.now _ _ _ _ _ _ _ _ c.self.view_is c.in_ok-moved.ensures.did)

pub returns-in_err-moved-clause-cut : goal.returns-in_err-moved-clause-cut
returns-in_err-moved-clause-cut g c =
    on_err _ _ (did_of g.P.Pipes.known _ _ _ _ _ _ c.args.now c.self.inside.course c.write_part.new.self c.self.inside.given c.args.self.now _ _ _ _ _ _ _ _ c.self.view_is c.in_err-moved.ensures.cut)
