use Rattle.line_socket.proofs.RankLemmas.{ranked_same, ranked_reads}
use Rattle.line_socket.proofs.ranks.ranked.Goals as goal

pub returns-clause-same : goal.returns-clause-same
returns-clause-same g c = ranked_same c.args.places.now c.args.reader.place c.held_before.result c.held_before.ensures.behind

pub returns-clause-reads : goal.returns-clause-reads
returns-clause-reads g c = ranked_reads c.args.places.now c.args.reader.place c.held_before.result c.args.reader.end c.requires.reads c.held_before.ensures.behind
