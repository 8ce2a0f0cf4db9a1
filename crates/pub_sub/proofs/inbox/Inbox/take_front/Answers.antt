use Rattle.std.proofs.lemmas.List.Elements.{All-rest}
use Rattle.pub_sub.specs.Notes.{IsTellable}
use Rattle.pub_sub.proofs.inbox.Inbox.take_front.Goals as goal

pub invariant_of-self : goal.invariant_of-self
invariant_of-self c = All-rest IsTellable _ c.take_front.new.self.commands c.self.inside.notes.commands c.in-Some-Heard.ensures.front c.self.invariant

pub invariant_of-self-in-Ok : goal.invariant_of-self-in-Ok
invariant_of-self-in-Ok c = All-rest IsTellable _ c.take_front.new.self.commands c.self.inside.notes.commands c.in-Some-Cancelled.ensures.front c.self.invariant
