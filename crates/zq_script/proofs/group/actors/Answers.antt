use Rattle.std.proofs.Common.{[], sym}
use Rattle.std.proofs.lemmas.List.{append-nil}
use Rattle.zq_script.proofs.group.actors.Goals as goal

pub loop-statement-init : goal.loop-statement-init
loop-statement-init c = ([], sym (append-nil _), c.new-grouped.ensures)
