use Rattle.std.specs.Prelude.{◌+◌, length, List}
use Rattle.std.proofs.Common.{arith, ap, ◌∙◌}
use Rattle.std.proofs.lemmas.List.{length-replicate}
use Rattle.ctl_state.specs.declared.state.State.{State}
use Rattle.mailbox.specs.Mail.{Mail, with_spare}
use Rattle.spec_control.specs.Control.{begun}
use Rattle.ctl_state.specs.declared.command.Command.{Command}
use Rattle.ctl_state.specs.Boxes.{mail_at, with_mail}
use Rattle.ctl_plane.proofs.history.first_state.Goals as goal

pub reserve-requires : goal.reserve-requires
reserve-requires g c =
    let many = ap (λ (s : State g.row.L.Denot). length s.boxes) c.in_ok-state.ensures.kept ∙ length-replicate (c.args.workers + 1) _ in
    record { there = omega (arith, many) }

pub returns-clause-stands : goal.returns-clause-stands
returns-clause-stands g c = c.in_ok-reserve.ensures.ok (begun c.args.workers) c.in_ok-state.ensures.stands

pub returns-clause-boxes : goal.returns-clause-boxes
returns-clause-boxes g c =
    ap (λ (s : State g.row.L.Denot). s.boxes) c.in_ok-reserve.ensures.next
    ∙ ap (λ (b : List (Mail (Command g.row.L.Denot))). with_mail 0 (with_spare ((mail_at b 0).spare + 1) (mail_at b 0)) b) (ap (λ (s : State g.row.L.Denot). s.boxes) c.in_ok-state.ensures.kept)
