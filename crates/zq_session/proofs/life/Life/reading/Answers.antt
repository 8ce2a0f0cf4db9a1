use Rattle.zq_session.proofs.life.Life.reading.Goals as goal

pub returns-then-reads_no_more : goal.returns-then-reads_no_more
returns-then-reads_no_more c = c.reads_no_more.ensures.yes c.if-reads_no_more.true
