use Rattle.std.proofs.Common.{refl}
use Rattle.sock_core.proofs.SteadyLemmas.{leaves_so}
use Rattle.sock_core.proofs.cores.pump_core.Goals as goal

pub returns-clause-others : goal.returns-clause-others
returns-clause-others g c = leaves_so g.P.Pipes.known c.args.pipes.now c.pump_over.new.pipes c.args.core.now.ends _ _ _ _ refl refl c.requires.whole.sound c.pump_over.ensures.made
