use Rattle.std.proofs.Common.{◌≡◌, ◌++◌, take}
use Rattle.std.specs.Prelude.{flat_map}
use Rattle.spec_run.specs.JournalText.{actor_lines_text}
use Rattle.zq_journal.proofs.journal.push_actors.Given as goal

abbrev pub invariant-loop-actor : goal.invariant-loop-actor
invariant-loop-actor l = l.out.items ≡ l.fn.out.items ++ flat_map actor_lines_text (take l.actor-index l.actors)
