use Rattle.std.specs.Prelude.{◌<◌, ℕ, List, length}
use Rattle.std.proofs.Common.{sym, ap, ◌∙◌, subst}
use Rattle.std.proofs.lemmas.List.{get_or_read}
use Rattle.mailbox.specs.Mail.{Mail, no_mail, with_put_back}
use Rattle.ctl_state.specs.declared.command.Command.{Command}
use Rattle.ctl_state.specs.Boxes.{mail_at, with_mail}
use Rattle.ctl_state.proofs.ShownLemmas.{bit_there, shown_read}
use Rattle.ctl_state.proofs.boxes.Boxes.put_back.Goals as goal

pub show-requires : goal.show-requires
show-requires g c = record { there = bit_there c.self.inside.shown.items c.self.inside.boxes.items c.args.slot.0 c.self.invariant (subst (λ (bs : List (Mail (Command g.row.L.Denot))). c.args.slot.0 < length bs) (sym c.self.view_is) c.requires.there) }

pub invariant_of-self : goal.invariant_of-self
invariant_of-self g c =
    shown_read c.self.inside.shown.items c.show.new.shown.items c.self.inside.boxes.items c.args.slot.0 c.put_back.new.self c.index.result.now (subst (λ (bs : List (Mail (Command g.row.L.Denot))). c.args.slot.0 < length bs) (sym c.self.view_is) c.requires.there) c.self.invariant c.show.ensures.long c.index.ensures c.show.ensures.each

pub returns : goal.returns
returns g c =
    ap (λ (m : Mail (Command g.row.L.Denot)). with_mail c.args.slot.0 m c.self.inside.boxes.items)
    (c.put_back.ensures ∙ ap (with_put_back c.args.command) (get_or_read c.self.inside.boxes.items c.args.slot.0 c.index_mut.result.now (subst (λ (bs : List (Mail (Command g.row.L.Denot))). c.args.slot.0 < length bs) (sym c.self.view_is) c.requires.there) c.index_mut.ensures.value no_mail))
    ∙ ap (λ (bs : List (Mail (Command g.row.L.Denot))). with_mail c.args.slot.0 (with_put_back c.args.command (mail_at bs c.args.slot.0)) bs) c.self.view_is

pub index_mut-requires : goal.index_mut-requires
index_mut-requires g c = subst (λ (n : ℕ). c.args.slot.0 < n) (sym c.self.inside.boxes.ok.0)
    (subst (λ (bs : List (Mail (Command g.row.L.Denot))). c.args.slot.0 < length bs) (sym c.self.view_is) c.requires.there)

pub index-requires : goal.index-requires
index-requires g c = subst (λ (n : ℕ). c.args.slot.0 < n) (sym c.self.inside.boxes.ok.0)
    (subst (λ (bs : List (Mail (Command g.row.L.Denot))). c.args.slot.0 < length bs) (sym c.self.view_is) c.requires.there)
