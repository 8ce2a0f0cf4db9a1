use Rattle.std.proofs.Common.{refl}
use Rattle.zq_session.proofs.AtLemmas.{alone_at, took_at}
use Rattle.zq_session.proofs.writing.write_at.Goals as goal

pub returns-then-not-can_read-clause-writes : goal.returns-then-not-can_read-clause-writes
returns-then-not-can_read-clause-writes g c =
    alone_at g.P.Pipes.known c.args.can_read c.args.side.now.kept c.write_only-put.new.self.kept c.write_only-put.result _ _ _ _ c.if-not-can_read.true c.write_only-put.ensures.writes

pub returns-in-Some-clause-writes : goal.returns-in-Some-clause-writes
returns-in-Some-clause-writes g c =
    took_at g.P.Pipes.known c.args.can_read c.args.side.now.kept c.write_part.new.self.kept c.write_part.result _ _ _ _ _ _ _ _ c.if-not-can_read.false c.in-Some.is refl c.write_part.ensures.writes
