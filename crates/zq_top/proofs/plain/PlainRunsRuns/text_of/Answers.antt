use Rattle.zq_top.proofs.plain.PlainRunsRuns.text_of.Goals as goal

pub returns-clause-says : goal.returns-clause-says
returns-clause-says g c = c.in_ok-said.ensures (record { seed = c.args.seed; turns = c.args.turns }) c.args.octets.now (g.C.Clock.at c.args.clock.now) (g.C.Clock.at c.text_in_context.new.clock) c.in_ok-told.ensures.tells
