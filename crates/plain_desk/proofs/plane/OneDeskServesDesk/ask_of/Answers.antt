use Rattle.std.specs.Prelude.{refl}
use Rattle.ctl_plane.specs.Past.{control_of}
use Rattle.plain_desk.proofs.GrowLemmas.{asked_grow}
use Rattle.plain_desk.proofs.PlaneLemmas.{ask_caller, ask_names, ask_ok, asked_none_given, err_moments, worker_asks}
use Rattle.plain_desk.proofs.plane.OneDeskServesDesk.ask_of.Goals as goal

pub ask_own-requires-clause-may : goal.ask_own-requires-clause-may
ask_own-requires-clause-may g c = worker_asks c.args.self.now c.is_of_one_order.ensures c.args.request c.requires.own c.requires.may

pub ask_own-requires-clause-makes : goal.ask_own-requires-clause-makes
ask_own-requires-clause-makes g c = c.requires.makes (control_of c.args.self.now.past) refl

pub returns-clause-ok : goal.returns-clause-ok
returns-clause-ok g c = ask_ok c.args.request c.args.request refl c.args.self.now c.ask_own.new.self c.ask_own.result c.ask_own.ensures.ok c.ask_own.ensures.err

pub returns-clause-err : goal.returns-clause-err
returns-clause-err g c = err_moments c.ask_own.result c.args.self.now c.ask_own.new.self c.ask_own.ensures.err

pub returns-clause-given : goal.returns-clause-given
returns-clause-given g c = asked_none_given c.args.request c.args.request refl c.args.self.now c.ask_own.new.self c.ask_own.result c.ask_own.ensures.ok c.ask_own.ensures.err

pub returns-clause-grows : goal.returns-clause-grows
returns-clause-grows g c = asked_grow c.args.self.now c.ask_own.new.self c.args.request c.ask_own.result c.ask_own.ensures.ok c.ask_own.ensures.err

pub returns-clause-names : goal.returns-clause-names
returns-clause-names g c = ask_names c.args.request c.args.request refl c.args.self.now c.ask_own.new.self c.ask_own.result c.ask_own.ensures.ok c.ask_own.ensures.err

pub returns-clause-keeps : goal.returns-clause-keeps
returns-clause-keeps g c = (ask_caller c.args.request c.args.request refl c.args.self.now c.ask_own.new.self c.ask_own.result c.ask_own.ensures.ok c.ask_own.ensures.err, c.ask_own.ensures.keeps)
