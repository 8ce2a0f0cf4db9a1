use Rattle.zq_tests_threads.proofs.ManyLemmas.{rest_whole}
use Rattle.zq_tests_threads.proofs.both_halves.BothHalves.put_many.Goals as goal

pub returns-clause-whole : goal.returns-clause-whole
returns-clause-whole g c = rest_whole (g.P.Pipes.known.writing c.args.self.now.pipes c.args.self.now.out) (g.P.Pipes.known.writing c.put_many.new.self c.put_many.new.o) c.args.messages.now.items c.put_many.result c.put_many.new.messages.items c.put_many.ensures.many c.requires
