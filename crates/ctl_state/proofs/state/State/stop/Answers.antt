use Rattle.std.specs.Prelude.{ℕ, Bool, None, if◌then◌else◌, refl, ◌<◌}
use Rattle.std.proofs.Common.{ap, sym, ◌∙◌, subst}
use Rattle.mailbox.specs.Mail.{with_sent}
use Rattle.spec_control.specs.declared.letter.Word.TheVariants.{Stop}
use Rattle.spec_control.specs.Row.{Row, StopPut, link_may}
use Rattle.spec_control.specs.Control.{link, put}
use Rattle.ctl_state.specs.declared.state.State.{State}
use Rattle.ctl_state.specs.Boxes.{mail_at, with_mail}
use Rattle.ctl_state.specs.Children.{may_stop}
use Rattle.ctl_state.specs.Stands.{letter_for, Stands}
use Rattle.ctl_state.proofs.RoomLemmas.{room_after, room_here, room_rest}
use Rattle.ctl_state.proofs.StandLemmas.{link_stands, sent_links, sent_shape}
use Rattle.ctl_state.proofs.state.State.stop.Goals as goal
use Rattle.ctl_state.specs.Parts.{on_objects}
use Rattle.ctl_state.proofs.BareLemmas.{tells_one, tells_not}

pub returns-clause-stands : goal.returns-clause-stands
returns-clause-stands g c = λ k h.
    subst (λ (b : Bool). Stands c.put.new.self (if b then put c.args.socket.0 Stop (link StopPut c.args.socket.0 k) else k))
    (sym (ap (λ (r : Row). link_may StopPut r) (h.objects.each c.args.socket.0) ∙ sym c.may_stop.ensures ∙ c.if-not-may_stop.false))
    (c.put.ensures.stands (link StopPut c.args.socket.0 k)
    (link_stands StopPut c.args.socket.0 c.args.self.now _ c.stop_put.ensures.links refl refl refl refl k h))

pub returns-clause-rest : goal.returns-clause-rest
returns-clause-rest g c =
    room_after may_stop c.args.self.now _ c.args.socket _ _
    (sent_links StopPut c.args.socket.0 c.args.self.now.objects _ _ _ c.put.new.self c.put.ensures.next c.stop_put.ensures.links) refl
    (sym c.may_stop.ensures ∙ c.if-not-may_stop.false)
    (ap (λ (s : State g.row.L.Denot). s.boxes) c.put.ensures.next
    ∙ ap (λ (n : ℕ). with_mail n (with_sent (letter_for c.args.socket Stop None) (mail_at c.args.self.now.boxes n)) c.args.self.now.boxes)
    (ap (λ (r : Row). r.slot) c.stop_put.ensures.links.here))

pub returns-clause-only : goal.returns-clause-only
returns-clause-only g c =
    tells_one c.args.self.now (on_objects (λ _. c.stop_put.new.self) c.args.self.now) c.put.new.self _ _ refl refl
    (subst (λ (n : ℕ). 0 < (mail_at c.args.self.now.boxes n).spare) (sym (ap (λ (r : Row). r.slot) c.stop_put.ensures.links.here))
    (room_here may_stop c.args.self.now c.args.socket c.requires.room (sym c.may_stop.ensures ∙ c.if-not-may_stop.false)))
    refl c.stop_put.ensures.links.lists c.put.ensures.next

pub put-requires : goal.put-requires
put-requires g c = record {
  room = subst (λ (n : ℕ). 0 < (mail_at c.args.self.now.boxes n).spare) (sym (ap (λ (r : Row). r.slot) c.stop_put.ensures.links.here))
      (room_here may_stop c.args.self.now c.args.socket c.requires.room (sym c.may_stop.ensures ∙ c.if-not-may_stop.false));
}

pub returns-clause-shape : goal.returns-clause-shape
returns-clause-shape g c = sent_shape _ _ _ c.put.new.self c.put.ensures.next ∙ c.stop_put.ensures.shape

pub returns-then-not-may_stop-clause-stands : goal.returns-then-not-may_stop-clause-stands
returns-then-not-may_stop-clause-stands g c = λ k h.
    subst (λ (b : Bool). Stands c.args.self.now (if b then put c.args.socket.0 Stop (link StopPut c.args.socket.0 k) else k))
    (sym (ap (λ (r : Row). link_may StopPut r) (h.objects.each c.args.socket.0) ∙ sym c.may_stop.ensures ∙ c.if-not-may_stop.true)) h

pub returns-then-not-may_stop-clause-shape : goal.returns-then-not-may_stop-clause-shape
returns-then-not-may_stop-clause-shape g c = refl

pub returns-then-not-may_stop-clause-rest : goal.returns-then-not-may_stop-clause-rest
returns-then-not-may_stop-clause-rest g c = λ ids room. room_rest may_stop c.args.self.now c.args.socket ids room

pub returns-then-not-may_stop-clause-only : goal.returns-then-not-may_stop-clause-only
returns-then-not-may_stop-clause-only g c = tells_not c.args.self.now c.args.self.now refl refl
