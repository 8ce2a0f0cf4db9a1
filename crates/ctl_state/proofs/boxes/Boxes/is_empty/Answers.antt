use Rattle.std.specs.Prelude.{◌<◌, ℕ, List, length}
use Rattle.std.proofs.Common.{sym, subst}
use Rattle.mailbox.specs.Mail.{Mail}
use Rattle.ctl_state.specs.declared.command.Command.{Command}
use Rattle.ctl_state.proofs.boxes.Boxes.is_empty.Goals as goal

pub index-requires : goal.index-requires
index-requires g c = subst (λ (n : ℕ). c.args.slot.0 < n) (sym c.self.inside.boxes.ok.0)
    (subst (λ (bs : List (Mail (Command g.row.L.Denot))). c.args.slot.0 < length bs) (sym c.self.view_is) c.requires.there)
