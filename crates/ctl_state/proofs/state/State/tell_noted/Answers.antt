use Rattle.ctl_state.specs.Stands.{Stands}
use Rattle.spec_control.specs.Control.{link, put}
use Rattle.spec_control.specs.Row.{IsTold}
use Rattle.spec_control.specs.declared.letter.Word.TheVariants.{Term}
use Rattle.std.proofs.Common.{ap, sym, ◌∙◌, subst}
use Rattle.ctl_state.specs.declared.state.State.{State}
use Rattle.ctl_state.specs.Children.{may_tell}
use Rattle.ctl_state.specs.Objects.{kept_row}
use Rattle.ctl_state.proofs.RoomLemmas.{room_after, tells_once, room_here, room_rest}
use Rattle.ctl_state.proofs.state.State.tell_noted.Goals as goal
use Rattle.std.specs.Prelude.{refl, Bool, if◌then◌else◌}
use Rattle.own_tree.specs.Changes.{with_told}
use Rattle.ctl_state.specs.Parts.{on_tree}
use Rattle.ctl_state.proofs.BareLemmas.{tells_one, tells_not}

pub returns-clause-rest : goal.returns-clause-rest
returns-clause-rest g c =
    room_after may_tell c.args.self.now _ c.args.child _ _ c.tell.ensures.links (tells_once (kept_row c.args.self.now.objects c.args.child.0))
    (sym c.may_tell.ensures ∙ c.if-not-may_tell.false) (ap (λ (s : State g.row.L.Denot). s.boxes) c.tell.ensures.next)

pub returns-clause-only : goal.returns-clause-only
returns-clause-only g c =
    tells_one c.args.self.now (on_tree (with_told c.args.owner c.args.child) c.args.self.now) c.tell.new.self _ _ refl refl
    (room_here may_tell c.args.self.now c.args.child c.requires.room (sym c.may_tell.ensures ∙ c.if-not-may_tell.false)) refl refl c.tell.ensures.next

pub tell-requires-clause-room : goal.tell-requires-clause-room
tell-requires-clause-room g c = room_here may_tell c.args.self.now c.args.child c.requires.room (sym c.may_tell.ensures ∙ c.if-not-may_tell.false)

pub returns-clause-stands : goal.returns-clause-stands
returns-clause-stands g c = λ k h.
    subst (λ (b : Bool). Stands c.tell.new.self (if b then put c.args.child.0 Term (link IsTold c.args.child.0 k) else k))
    (sym (ap may_tell (h.objects.each c.args.child.0) ∙ sym c.may_tell.ensures ∙ c.if-not-may_tell.false)) (c.tell.ensures.stands k h)

pub returns-clause-shape : goal.returns-clause-shape
returns-clause-shape g c = c.tell.ensures.shape

pub returns-then-not-may_tell-clause-stands : goal.returns-then-not-may_tell-clause-stands
returns-then-not-may_tell-clause-stands g c = λ k h.
    subst (λ (b : Bool). Stands c.args.self.now (if b then put c.args.child.0 Term (link IsTold c.args.child.0 k) else k))
    (sym (ap may_tell (h.objects.each c.args.child.0) ∙ sym c.may_tell.ensures ∙ c.if-not-may_tell.true)) h

pub returns-then-not-may_tell-clause-shape : goal.returns-then-not-may_tell-clause-shape
returns-then-not-may_tell-clause-shape g c = refl

pub returns-then-not-may_tell-clause-rest : goal.returns-then-not-may_tell-clause-rest
returns-then-not-may_tell-clause-rest g c = λ ids room. room_rest may_tell c.args.self.now c.args.child ids room

pub returns-then-not-may_tell-clause-only : goal.returns-then-not-may_tell-clause-only
returns-then-not-may_tell-clause-only g c = tells_not c.args.self.now c.args.self.now refl refl
