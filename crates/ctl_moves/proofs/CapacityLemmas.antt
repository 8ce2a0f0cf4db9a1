-- How many commands a mailbox has room for, those that wait in it among them.
use Rattle.std.specs.Prelude.{◌≡◌, ◌<◌, ◌+◌, ◌==◌, ℕ, Bool, cond, List, length}
use Rattle.std.proofs.Common.{arith, sym, ap, ◌∙◌, inl, inr}
use Rattle.std.proofs.lemmas.Bool.{cases_eq, eq-eqb, ne_eqb}
use Rattle.std.proofs.lemmas.List.{get_or-set_same, get_or-set_other, length-append, length-map, length_push}
use Rattle.mailbox.specs.Mail.{Mail, no_mail, with_sent}
use Rattle.spec_control.specs.declared.letter.Letter.{Letter}
use Rattle.spec_control.specs.Control.{Control}
use Rattle.ctl_state.specs.declared.command.Command.{Command}
use Rattle.ctl_state.specs.declared.state.State.{State}
use Rattle.ctl_state.specs.Boxes.{mail_at, with_mail, Takes, PutsBare}
use Rattle.ctl_state.specs.Parts.{Tells}
use Rattle.ctl_state.specs.Stands.{Stands}
use Rattle.ctl_state.proofs.StandLemmas.{roomy}

module _ {L : Type 0} where
  abbrev pub holds_in : Mail (Command L) → ℕ
  holds_in mail = mail.spare + length mail.commands

  abbrev pub capacity : List (Mail (Command L)) → ℕ → ℕ
  capacity boxes m = (mail_at boxes m).spare + length (mail_at boxes m).commands

  -- as many commands wait as the control state says
  pub mail_length : (s : State L) (c : Control) → Stands s c → (m : ℕ) → length (c.boxes m) ≡ length (mail_at s.boxes m).commands
  mail_length s c h m = sym (ap (λ (ls : List Letter). length ls) (h.boxes.each m)) ∙ length-map (mail_at s.boxes m).commands (λ (x : Command L). x.letter)

  -- commands were put in room that was kept
  pub puts_capacity : (old new : List (Mail (Command L))) → PutsBare old new → (m : ℕ) → capacity new m ≡ capacity old m
  puts_capacity old new h m =
      let g = h.grows m in
      let all = ap (λ (xs : List (Command L)). length xs) g.commands in
      let parts = length-append (mail_at old m).commands g.more in
      let spare = g.spare in
      omega (arith, all, parts, spare)

  pub told_capacity : (s t : State L) → Tells s t → (m : ℕ) → capacity t.boxes m ≡ capacity s.boxes m
  told_capacity s t h m = puts_capacity s.boxes t.boxes h.bare m

  -- one was taken
  pub taken_capacity : (k : ℕ) (command : Command L) (old new : List (Mail (Command L))) → Takes k command old new → (m : ℕ) → capacity new m + cond (k == m) 1 0 ≡ capacity old m
  taken_capacity k command old new h m =
      elim (cases_eq m k) [
        | inl same ↦
            let one = ap {B = ℕ} (λ (b : Bool). cond b 1 0) (eq-eqb k m (sym same)) in
            let now = ap (capacity new) same in
            let was = ap (capacity old) same in
            let front = ap (λ (xs : List (Command L)). length xs) h.front in
            let spare = h.spare in
            omega (arith, one, now, was, front, spare)
        | inr other ↦
            let none = ap {B = ℕ} (λ (b : Bool). cond b 1 0) (ne_eqb k m (λ e. other (sym e))) in
            let stays = ap holds_in (h.others m other) in
            omega (arith, none, stays)
      ]

  -- the spare room is as before
  pub taken_spare : (k : ℕ) (command : Command L) (old new : List (Mail (Command L))) → Takes k command old new → (m : ℕ) → (mail_at new m).spare ≡ (mail_at old m).spare
  taken_spare k command old new h m =
      elim (cases_eq m k) [
        | inl same ↦ ap (λ (n : ℕ). (mail_at new n).spare) same ∙ h.spare ∙ ap (λ (n : ℕ). (mail_at old n).spare) (sym same)
        | inr other ↦ ap (λ (mail : Mail (Command L)). mail.spare) (h.others m other)
      ]

  -- another mailbox stands in place of one
  pub set_capacity : (boxes : List (Mail (Command L))) (k more : ℕ) (mail : Mail (Command L)) → k < length boxes → holds_in mail ≡ capacity boxes k + more → (m : ℕ) →
      capacity (with_mail k mail boxes) m ≡ capacity boxes m + cond (k == m) more 0
  set_capacity boxes k more mail there is m =
      elim (cases_eq m k) [
        | inl same ↦
            let on = ap (λ (b : Bool). cond b more 0) (eq-eqb k m (sym same)) in
            let now = ap (capacity (with_mail k mail boxes)) same ∙ ap holds_in (get_or-set_same boxes k mail no_mail there) in
            let was = ap (capacity boxes) same in
            omega (arith, on, now, was, is)
        | inr other ↦
            let off = ap (λ (b : Bool). cond b more 0) (ne_eqb k m (λ e. other (sym e))) in
            let stays = ap holds_in (get_or-set_other boxes k m mail no_mail other) in
            omega (arith, off, stays)
      ]

  -- a command was put in room that was kept
  pub sent_capacity : (boxes : List (Mail (Command L))) (k : ℕ) (command : Command L) → 0 < (mail_at boxes k).spare → (m : ℕ) →
      capacity (with_mail k (with_sent command (mail_at boxes k)) boxes) m ≡ capacity boxes m
  sent_capacity boxes k command room m =
      let pushed = length_push (mail_at boxes k).commands command in
      let all = set_capacity boxes k 0 (with_sent command (mail_at boxes k)) (roomy boxes k room) (omega (arith, room, pushed)) m in
      let none = nothing (k == m) in
      omega (arith, all, none)
    where
      nothing : (b : Bool) → ◌≡◌ {A = ℕ} (cond b 0 0) 0
      nothing b = grind arith
