use Rattle.std.specs.Prelude.{◌<◌, ℕ, List, refl}
use Rattle.std.proofs.Common.{ap, sym, ◌∙◌, subst}
use Rattle.zq_base.specs.declared.ids.SlotId.{SlotId}
use Rattle.mailbox.specs.Mail.{Mail, with_sent}
use Rattle.ctl_state.specs.declared.command.Command.{Command}
use Rattle.ctl_state.specs.Boxes.{mail_at, with_mail}
use Rattle.ctl_state.specs.Parts.{on_boxes}
use Rattle.ctl_state.specs.Stands.{letter_for}
use Rattle.ctl_state.proofs.StandLemmas.{put_stands}
use Rattle.ctl_state.proofs.state.State.put.Goals as goal

pub send-requires : goal.send-requires
send-requires g c = record { room = subst (λ (n : ℕ). 0 < (mail_at c.args.self.now.boxes n).spare) (sym (ap (λ (s : SlotId). s.0) c.slot-slot.ensures)) c.requires.room }

pub returns-clause-stands : goal.returns-clause-stands
returns-clause-stands g c =
    put_stands c.args.self.now _ c.args.to c.args.word c.args.load c.requires.room
    (c.send.ensures ∙ ap (λ (n : ℕ). with_mail n (with_sent (letter_for c.args.to c.args.word c.args.load) (mail_at c.args.self.now.boxes n)) c.args.self.now.boxes) (ap (λ (s : SlotId). s.0) c.slot-slot.ensures))
    refl refl refl refl

pub returns-clause-next : goal.returns-clause-next
returns-clause-next g c = ap (λ (b : List (Mail (Command g.row.L.Denot))). on_boxes (λ _. b) c.args.self.now)
    (c.send.ensures ∙ ap (λ (n : ℕ). with_mail n (with_sent (letter_for c.args.to c.args.word c.args.load) (mail_at c.args.self.now.boxes n)) c.args.self.now.boxes) (ap (λ (s : SlotId). s.0) c.slot-slot.ensures))
