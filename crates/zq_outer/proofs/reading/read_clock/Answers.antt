use Rattle.zq_outer.proofs.ClockLemmas.{reads_one}
use Rattle.zq_outer.proofs.reading.read_clock.Goals as goal

pub returns : goal.returns
returns g c =
    reads_one (g.C.Clock.at c.args.clock.now) (g.C.Clock.at c.now.new.self) c.now.result
    c.now.ensures.reading c.now.ensures.later c.now.ensures.told c.now.ensures.next
