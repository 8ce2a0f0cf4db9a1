use Rattle.std.proofs.Common.{sym, ◌∙◌}
use Rattle.zq_world.proofs.LineLemmas.{finished_so}
use Rattle.zq_world.proofs.actor.Actor.is_finished.Goals as goal

pub returns-then-is_empty : goal.returns-then-is_empty
returns-then-is_empty g c as_open = finished_so as_open c.args.self.now.lines.now c.args.self.now.seats c.has_open.result (sym c.is_empty.ensures ∙ c.if-is_empty.true) c.has_open.ensures
