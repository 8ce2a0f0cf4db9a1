use Rattle.plain_desk.proofs.GrowLemmas.{meets_grow}
use Rattle.plain_desk.proofs.PlaneLemmas.{delimits, delimits_caller, delimits_given, delimits_names}
use Rattle.plain_desk.proofs.plane.OneDeskDesk.delimiter.Goals as goal

pub returns-clause-found : goal.returns-clause-found
returns-clause-found g c = delimits c.args.self.now c.delimiter.new.self c.args.end c.delimiter.result c.delimiter.ensures.found

pub returns-clause-given : goal.returns-clause-given
returns-clause-given g c = delimits_given c.args.self.now c.delimiter.new.self c.args.end c.delimiter.result c.delimiter.ensures.found

pub returns-clause-names : goal.returns-clause-names
returns-clause-names g c = delimits_names c.args.self.now c.delimiter.new.self c.args.end c.delimiter.result c.delimiter.ensures.found

pub returns-clause-keeps : goal.returns-clause-keeps
returns-clause-keeps g c = (delimits_caller c.args.self.now c.delimiter.new.self c.args.end c.delimiter.result c.delimiter.ensures.found, c.delimiter.ensures.keeps)

pub returns-clause-grows : goal.returns-clause-grows
returns-clause-grows g c = meets_grow c.args.self.now c.delimiter.new.self c.args.end c.delimiter.result c.delimiter.ensures.found
