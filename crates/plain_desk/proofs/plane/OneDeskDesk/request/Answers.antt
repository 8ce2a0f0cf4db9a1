use Rattle.std.specs.Prelude.{refl}
use Rattle.ctl_plane.specs.Past.{control_of}
use Rattle.plain_desk.proofs.PlaneLemmas.{err_both}
use Rattle.plain_desk.proofs.plane.OneDeskDesk.request.Goals as goal

pub ask-requires-clause-sockets : goal.ask-requires-clause-sockets
ask-requires-clause-sockets g c = c.requires.sockets

pub ask-requires-clause-makes : goal.ask-requires-clause-makes
ask-requires-clause-makes g c = c.requires.makes (control_of c.args.self.now.past) refl

pub returns-clause-err : goal.returns-clause-err
returns-clause-err g c = err_both c.ask.result c.args.self.now c.ask.new.self c.ask.ensures.err
