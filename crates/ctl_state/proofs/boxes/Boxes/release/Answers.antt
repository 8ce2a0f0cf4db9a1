use Rattle.std.specs.Prelude.{◌<◌, ◌≤◌, ◌-◌, ℕ, List, length}
use Rattle.std.proofs.Common.{sym, ap, ◌∙◌, subst}
use Rattle.std.proofs.lemmas.List.{get_or_read}
use Rattle.mailbox.specs.Mail.{Mail, no_mail, with_spare}
use Rattle.ctl_state.specs.declared.command.Command.{Command}
use Rattle.ctl_state.specs.Boxes.{mail_at, with_mail, AreShown}
use Rattle.ctl_state.proofs.ShownLemmas.{shown_room}
use Rattle.ctl_state.proofs.boxes.Boxes.release.Goals as goal

pub index_mut-requires : goal.index_mut-requires
index_mut-requires g c = subst (λ (n : ℕ). c.args.slot.0 < n) (sym c.self.inside.boxes.ok.0) (subst (λ (bs : List (Mail (Command g.row.L.Denot))). c.args.slot.0 < length bs) (sym c.self.view_is) c.requires.there)

pub invariant_of-self : goal.invariant_of-self
invariant_of-self g c =
    subst (λ (m : Mail (Command g.row.L.Denot)). AreShown c.self.inside.shown.items (with_mail c.args.slot.0 m c.self.inside.boxes.items)) (sym (c.release.ensures ∙ ap (λ (m : Mail (Command g.row.L.Denot)). with_spare (m.spare - c.args.fewer) m) (get_or_read c.self.inside.boxes.items c.args.slot.0 c.index_mut.result.now (subst (λ (bs : List (Mail (Command g.row.L.Denot))). c.args.slot.0 < length bs) (sym c.self.view_is) c.requires.there) c.index_mut.ensures.value no_mail)))
    (shown_room c.self.inside.shown.items c.self.inside.boxes.items c.args.slot.0 _ c.self.invariant)

pub returns : goal.returns
returns g c =
    ap (λ (m : Mail (Command g.row.L.Denot)). with_mail c.args.slot.0 m c.self.inside.boxes.items) (c.release.ensures ∙ ap (λ (m : Mail (Command g.row.L.Denot)). with_spare (m.spare - c.args.fewer) m) (get_or_read c.self.inside.boxes.items c.args.slot.0 c.index_mut.result.now (subst (λ (bs : List (Mail (Command g.row.L.Denot))). c.args.slot.0 < length bs) (sym c.self.view_is) c.requires.there) c.index_mut.ensures.value no_mail))
    ∙ ap (λ (bs : List (Mail (Command g.row.L.Denot))). with_mail c.args.slot.0 (with_spare ((mail_at bs c.args.slot.0).spare - c.args.fewer) (mail_at bs c.args.slot.0)) bs) c.self.view_is

pub release-requires : goal.release-requires
release-requires g c = record {
  kept = subst (λ (m : Mail (Command g.row.L.Denot)). c.args.fewer ≤ m.spare) (sym (get_or_read c.self.inside.boxes.items c.args.slot.0 c.index_mut.result.now (subst (λ (bs : List (Mail (Command g.row.L.Denot))). c.args.slot.0 < length bs) (sym c.self.view_is) c.requires.there) c.index_mut.ensures.value no_mail))
      (subst (λ (bs : List (Mail (Command g.row.L.Denot))). c.args.fewer ≤ (mail_at bs c.args.slot.0).spare) (sym c.self.view_is) c.requires.kept);
}
