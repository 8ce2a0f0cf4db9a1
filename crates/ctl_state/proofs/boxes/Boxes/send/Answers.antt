use Rattle.std.specs.Prelude.{◌<◌, List, ℕ}
use Rattle.std.proofs.Common.{sym, ap, ◌∙◌, subst}
use Rattle.std.proofs.lemmas.List.{get_or_read}
use Rattle.mailbox.specs.Mail.{Mail, no_mail, with_sent}
use Rattle.ctl_state.specs.declared.command.Command.{Command}
use Rattle.ctl_state.specs.Boxes.{mail_at, with_mail}
use Rattle.ctl_state.proofs.ShownLemmas.{bit_there, shown_read, there_with_room}
use Rattle.ctl_state.proofs.boxes.Boxes.send.Goals as goal

pub show-requires : goal.show-requires
show-requires g c =
    let there = there_with_room c.self.inside.boxes.items c.args.slot.0 (subst (λ (bs : List (Mail (Command g.row.L.Denot))). 0 < (mail_at bs c.args.slot.0).spare) (sym c.self.view_is) c.requires.room) in
    record { there = bit_there c.self.inside.shown.items c.self.inside.boxes.items c.args.slot.0 c.self.invariant there }

pub invariant_of-self : goal.invariant_of-self
invariant_of-self g c =
    let there = there_with_room c.self.inside.boxes.items c.args.slot.0 (subst (λ (bs : List (Mail (Command g.row.L.Denot))). 0 < (mail_at bs c.args.slot.0).spare) (sym c.self.view_is) c.requires.room) in
    shown_read c.self.inside.shown.items c.show.new.shown.items c.self.inside.boxes.items c.args.slot.0 c.send.new.self c.index.result.now there c.self.invariant c.show.ensures.long c.index.ensures c.show.ensures.each

pub returns : goal.returns
returns g c =
    let there = there_with_room c.self.inside.boxes.items c.args.slot.0 (subst (λ (bs : List (Mail (Command g.row.L.Denot))). 0 < (mail_at bs c.args.slot.0).spare) (sym c.self.view_is) c.requires.room) in
    ap (λ (m : Mail (Command g.row.L.Denot)). with_mail c.args.slot.0 m c.self.inside.boxes.items)
    (c.send.ensures ∙ ap (with_sent c.args.command) (get_or_read c.self.inside.boxes.items c.args.slot.0 c.index_mut.result.now there c.index_mut.ensures.value no_mail))
    ∙ ap (λ (bs : List (Mail (Command g.row.L.Denot))). with_mail c.args.slot.0 (with_sent c.args.command (mail_at bs c.args.slot.0)) bs) c.self.view_is

pub index_mut-requires : goal.index_mut-requires
index_mut-requires g c = subst (λ (n : ℕ). c.args.slot.0 < n) (sym c.self.inside.boxes.ok.0)
    (there_with_room c.self.inside.boxes.items c.args.slot.0 (subst (λ (bs : List (Mail (Command g.row.L.Denot))). 0 < (mail_at bs c.args.slot.0).spare) (sym c.self.view_is) c.requires.room))

pub send-requires : goal.send-requires
send-requires g c =
    let some = subst (λ (bs : List (Mail (Command g.row.L.Denot))). 0 < (mail_at bs c.args.slot.0).spare) (sym c.self.view_is) c.requires.room in
    record {
      room = subst (λ (m : Mail (Command g.row.L.Denot)). 0 < m.spare)
          (sym (get_or_read c.self.inside.boxes.items c.args.slot.0 c.index_mut.result.now (there_with_room c.self.inside.boxes.items c.args.slot.0 some) c.index_mut.ensures.value no_mail)) some;
    }

pub index-requires : goal.index-requires
index-requires g c = subst (λ (n : ℕ). c.args.slot.0 < n) (sym c.self.inside.boxes.ok.0)
    (there_with_room c.self.inside.boxes.items c.args.slot.0 (subst (λ (bs : List (Mail (Command g.row.L.Denot))). 0 < (mail_at bs c.args.slot.0).spare) (sym c.self.view_is) c.requires.room))
