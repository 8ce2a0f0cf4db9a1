use Rattle.std.proofs.Common.{◌≡◌, replicate}
use Rattle.mailbox.specs.Mail.{no_mail}
use Rattle.ctl_state.proofs.boxes.Boxes.empty.Given as goal

-- so many mailboxes are there
abbrev pub invariant-boxes : goal.invariant-boxes
invariant-boxes g l = l.made ≡ replicate l.counter no_mail
