use Rattle.link_side.proofs.SayLemmas.{writes_forwarded, rest_forwarded}
use Rattle.link_side.proofs.side.LinkSide.write_part.Goals as goal

pub returns-clause-writes : goal.returns-clause-writes
returns-clause-writes g c =
    writes_forwarded g.P.Pipes.known c.args.self.now.kept c.take_part-written.result c.take_part-written.new.self c.forward.new.self _ _ _ _ _ _ c.take_part-written.ensures.takes c.forward.ensures

pub returns-clause-rest : goal.returns-clause-rest
returns-clause-rest g c =
    rest_forwarded g.P.Pipes.known c.args.self.now.kept c.take_part-written.result c.take_part-written.new.self c.forward.new.self _ _ _ _ _ _ c.take_part-written.ensures.takes c.forward.ensures

pub returns-clause-others : goal.returns-clause-others
returns-clause-others g c = c.take_part-written.ensures.others

pub returns-clause-counts : goal.returns-clause-counts
returns-clause-counts g c = c.take_part-written.ensures.counts
