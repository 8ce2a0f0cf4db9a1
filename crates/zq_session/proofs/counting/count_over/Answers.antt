use Rattle.zq_session.proofs.CountingLemmas.{tally_ends}
use Rattle.zq_session.proofs.counting.count_over.Goals as goal

pub returns : goal.returns
returns c =
    tally_ends c.args.life.now c.args.side.now.kept c.args.why c.args.tally.now c.end.new.self c.heard.result c.put_at-put.result c.has_output-left.result (c.rests.ensures c.requires.rest) (c.heard.ensures c.requires.rest) c.put_at-put.ensures.drops c.put_at-put.ensures.puts
    c.has_output-left.ensures.yes c.has_output-left.ensures.no c.end.ensures
