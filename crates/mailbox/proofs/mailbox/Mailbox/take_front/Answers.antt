use Rattle.std.proofs.Common.{rules}
use Rattle.mailbox.proofs.mailbox.Mailbox.take_front.Goals as goal

pub returns-then-is_some-clause-front : goal.returns-then-is_some-clause-front
returns-then-is_some-clause-front g c = search rules
