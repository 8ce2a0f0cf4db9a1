-- That the room for the commands of several objects goes as they are put.
use Rattle.std.specs.Prelude.{◌≡◌, ◌<◌, ◌≤◌, ◌-◌, ◌⊎◌, ◌&&◌, ◌==◌, ℕ, Bool, true, false, cond, List, [], ◌∷◌, sum_by, refl}
use Rattle.std.proofs.Common.{arith, sym, ap, ◌∙◌, inl, inr}
use Rattle.std.proofs.lemmas.Bool.{cases_eq, eq-eqb}
use Rattle.std.proofs.lemmas.List.{get_or-set_same, get_or-set_other}
use Rattle.std.proofs.lemmas.List.Sums.{sum_by-cons, sum_by-le-sum_by}
use Rattle.zq_base.specs.declared.ids.ObjId.{ObjId}
use Rattle.mailbox.specs.Mail.{Mail, no_mail, with_sent}
use Rattle.spec_control.specs.Row.{Row, IsTold, link_after}
use Rattle.ctl_state.specs.declared.command.Command.{Command}
use Rattle.ctl_state.specs.declared.state.State.{State}
use Rattle.ctl_state.specs.Boxes.{mail_at, with_mail}
use Rattle.ctl_state.specs.Children.{command_for, HaveRoom, may_tell}
use Rattle.ctl_state.specs.Objects.{kept_row, Becomes}
use Rattle.ctl_state.specs.Stands.{slot_of}
use Rattle.ctl_state.proofs.StandLemmas.{roomy}

module _ {L : Type 0} (test : Row → Bool) where
  -- the first of several, and the rest
  pub room_rest : (s : State L) (i : ObjId) (ids : List ObjId) → HaveRoom test s (i ∷ ids) → HaveRoom test s ids
  room_rest s i ids h = record { each = λ k. let all = h.each k in let parts = sum_by-cons (command_for test s.objects k) i ids in omega (arith, all, parts) }

  pub room_first : (s : State L) (i : ObjId) (ids : List ObjId) → HaveRoom test s (i ∷ ids) → HaveRoom test s (i ∷ [])
  room_first s i ids h = record {
    each = λ k.
        let all = h.each k in
        let parts = sum_by-cons (command_for test s.objects k) i ids in
        let one = sum_by-cons (command_for test s.objects k) i [] in
        omega (arith, all, parts, one);
  }

  -- there is room for the command of one
  pub room_here : (s : State L) (i : ObjId) → HaveRoom test s (i ∷ []) → test (kept_row s.objects i.0) ≡ true → 0 < (mail_at s.boxes (slot_of s i.0)).spare
  room_here s i h passes =
      let all = h.each (slot_of s i.0) in
      let one = sum_by-cons (command_for test s.objects (slot_of s i.0)) i [] in
      let here : command_for test s.objects (slot_of s i.0) i ≡ 1 = ap {B = ℕ} (λ (b : Bool). cond (b && slot_of s i.0 == slot_of s i.0) 1 0) passes
      ∙ ap {B = ℕ} (λ (b : Bool). cond b 1 0) (eq-eqb (slot_of s i.0) (slot_of s i.0) refl) in
      omega (arith, all, one, here)

  -- a command was put for one, which passes no more
  pub room_after : (old new : State L) (i : ObjId) (row : Row) (command : Command L) → Becomes i.0 row old.objects new.objects → test row ≡ false →
      test (kept_row old.objects i.0) ≡ true →
      new.boxes ≡ with_mail (slot_of old i.0) (with_sent command (mail_at old.boxes (slot_of old i.0))) old.boxes →
      (ids : List ObjId) → HaveRoom test old (i ∷ ids) → HaveRoom test new ids
  room_after old new i row command b stops passes is ids h = record { each = λ k. at k (cases_eq k slot) }
    where
      slot : ℕ
      slot = slot_of old i.0

      room : 0 < (mail_at old.boxes (slot_of old i.0)).spare
      room = room_here old i (room_first old i ids h) passes

      now : Mail (Command L)
      now = with_sent command (mail_at old.boxes (slot_of old i.0))

      less : (k : ℕ) (j : ObjId) → command_for test new.objects k j ≤ command_for test old.objects k j
      less k j =
          elim (cases_eq j.0 i.0) [
            | inl same ↦
                let gone : command_for test new.objects k j ≡ 0 =
                ap {B = ℕ} (λ (r : Row). cond (test r && r.slot == k) 1 0) (ap (kept_row new.objects) same ∙ b.here)
                ∙ ap {B = ℕ} (λ (t : Bool). cond (t && row.slot == k) 1 0) stops in
                omega (arith, gone)
            | inr other ↦
                let stays : command_for test new.objects k j ≡ command_for test old.objects k j =
                ap {B = ℕ} (λ (r : Row). cond (test r && r.slot == k) 1 0) (b.elsewhere j.0 other) in
                omega (arith, stays)
          ]

      sums : (k : ℕ) → sum_by (command_for test new.objects k) ids ≤ sum_by (command_for test old.objects k) ids
      sums k = sum_by-le-sum_by (command_for test new.objects k) (command_for test old.objects k) ids (less k)

      at : (k : ℕ) → (k ≡ slot_of old i.0) ⊎ (k ≡ slot_of old i.0 → ⊥) → sum_by (command_for test new.objects k) ids ≤ (mail_at new.boxes k).spare
      at k (inl same) =
          let all = h.each k in
          let parts = sum_by-cons (command_for test old.objects k) i ids in
          let one : command_for test old.objects k i ≡ 1 = ap {B = ℕ} (λ (t : Bool). cond (t && slot_of old i.0 == k) 1 0) passes
          ∙ ap {B = ℕ} (λ (t : Bool). cond t 1 0) (eq-eqb (slot_of old i.0) k (sym same)) in
          let fewer = sums k in
          let spare : (mail_at new.boxes k).spare ≡ (mail_at old.boxes k).spare - 1 =
          ap (λ (m : List (Mail (Command L))). (mail_at m k).spare) is
          ∙ ap (λ (n : ℕ). (mail_at (with_mail (slot_of old i.0) now old.boxes) n).spare) same
          ∙ ap (λ (m : Mail (Command L)). m.spare) (get_or-set_same old.boxes (slot_of old i.0) now no_mail (roomy old.boxes (slot_of old i.0) room))
          ∙ ap (λ (n : ℕ). (mail_at old.boxes n).spare - 1) (sym same) in
          omega (arith, all, parts, one, fewer, spare)
      at k (inr other) =
          let all = h.each k in
          let parts = sum_by-cons (command_for test old.objects k) i ids in
          let fewer = sums k in
          let spare : (mail_at new.boxes k).spare ≡ (mail_at old.boxes k).spare =
          ap (λ (m : List (Mail (Command L))). (mail_at m k).spare) is
          ∙ ap (λ (m : Mail (Command L)). m.spare) (get_or-set_other old.boxes (slot_of old i.0) k now no_mail other) in
          omega (arith, all, parts, fewer, spare)

-- who was told may not be told again
pub tells_once : (o : Row) → may_tell (link_after IsTold o) ≡ false
tells_once o = at o.noted
  where
    at : (b : Bool) → (b && false) ≡ false
    at true = refl
    at false = refl
