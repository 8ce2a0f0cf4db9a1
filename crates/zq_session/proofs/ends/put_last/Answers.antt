use Rattle.std.proofs.Common.{refl}
use Rattle.zq_session.proofs.AtLemmas.{puts_last, puts_nothing}
use Rattle.zq_session.proofs.ends.put_last.Goals as goal

pub returns-then-not-puts-clause-puts : goal.returns-then-not-puts-clause-puts
returns-then-not-puts-clause-puts g c = λ pipe. puts_nothing g.P.Pipes.known c.args.puts pipe c.args.side.now.kept _ _ c.if-not-puts.true

pub returns-in-Some-clause-puts : goal.returns-in-Some-clause-puts
returns-in-Some-clause-puts g c = λ pipe.
    puts_last g.P.Pipes.known c.args.puts pipe c.args.side.now.kept c.put_whole.new.self.kept _ _ _ _ _ _ c.if-not-puts.false c.in-Some.is refl c.put_whole.ensures.puts
