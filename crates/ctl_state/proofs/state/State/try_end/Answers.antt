use Rattle.std.specs.Prelude.{refl, Bool, not, ◌&&◌}
use Rattle.std.proofs.Common.{ap, sym, ◌∙◌}
use Rattle.spec_control.specs.Row.{Row}
use Rattle.ctl_state.proofs.EndingLemmas.{left_stands, kept_stands, same_stands, ended_stands, ends_stands, ended_now, ack_room, may_end_where, may_not_end}
use Rattle.ctl_state.proofs.state.State.try_end.Goals as goal
use Rattle.spec_control.specs.Rows.{may_end}
use Rattle.ctl_state.proofs.BareLemmas.{tells_not, tells_on}
use Rattle.ctl_state.specs.Parts.{on_objects}
use Rattle.ctl_state.specs.Objects.{ObjectRows}

pub tell_owner-requires : goal.tell_owner-requires
tell_owner-requires g c = ack_room c.args.self.now (record { workers = c.args.self.now.workers; objects = c.ends-ended.new.self; pairs = c.args.self.now.pairs; boxes = c.args.self.now.boxes; book = c.args.self.now.book }) c.args.id.0 (c.ends-ended.ensures.ended c.if-ended.true) refl c.requires.room

pub returns-then-left-clause-stands : goal.returns-then-left-clause-stands
returns-then-left-clause-stands g c = λ k h. left_stands c.args.self.now k c.args.id.0 c.args.left c.if-left.true h

pub returns-then-ended-clause-stands : goal.returns-then-ended-clause-stands
returns-then-ended-clause-stands g c = λ k h. ended_stands c.args.self.now _ k c.args.id c.args.left c.if-left.false c.ends-ended.ensures.adds (c.ends-ended.ensures.yes c.if-ended.true) h
    (c.tell_owner.ensures.stands (ended_now c.args.id.0 k) _
    (ap (λ (r : Row). r.owner) (h.objects.each c.args.id.0) ∙ sym (ap (λ (r : Row). r.owner) (c.ends-ended.ensures.ended c.if-ended.true).here))
    (ends_stands c.args.self.now _ c.args.id.0 (c.ends-ended.ensures.ended c.if-ended.true) refl refl refl refl k h))

pub returns-clause-stands : goal.returns-clause-stands
returns-clause-stands g c = λ k h. same_stands c.args.self.now _ (c.ends-ended.ensures.others c.if-ended.false) refl refl refl refl _
    (kept_stands c.args.self.now k c.args.id c.args.left c.ends-ended.ensures.adds (c.ends-ended.ensures.no c.if-ended.false) h)

pub returns-then-left-clause-answer : goal.returns-then-left-clause-answer
returns-then-left-clause-answer g c = λ k h. sym (ap (λ (b : Bool). not b && may_end k.rows c.args.id.0) c.if-left.true)

pub returns-then-ended-clause-answer : goal.returns-then-ended-clause-answer
returns-then-ended-clause-answer g c = λ k h. sym (ap (λ (b : Bool). not b && may_end k.rows c.args.id.0) c.if-left.false
    ∙ may_end_where c.args.self.now k h c.args.id c.ends-ended.ensures.adds (c.ends-ended.ensures.yes c.if-ended.true))

pub returns-clause-answer : goal.returns-clause-answer
returns-clause-answer g c = λ k h. sym (ap (λ (b : Bool). not b && may_end k.rows c.args.id.0) c.if-left.false
    ∙ may_not_end c.args.self.now k h c.args.id c.ends-ended.ensures.adds (c.ends-ended.ensures.no c.if-ended.false))

pub returns-then-left-clause-only : goal.returns-then-left-clause-only
returns-then-left-clause-only g c = tells_not c.args.self.now c.args.self.now refl refl

pub returns-then-ended-clause-only : goal.returns-then-ended-clause-only
returns-then-ended-clause-only g c =
    tells_on c.args.self.now (on_objects (λ _. c.ends-ended.new.self) c.args.self.now) c.tell_owner.new.self
    (tells_not c.args.self.now (on_objects (λ _. c.ends-ended.new.self) c.args.self.now) refl (c.ends-ended.ensures.ended c.if-ended.true).lists)
    c.tell_owner.ensures.only

pub returns-clause-only : goal.returns-clause-only
returns-clause-only g c =
    tells_not c.args.self.now (on_objects (λ _. c.ends-ended.new.self) c.args.self.now) refl
    (ap (λ (o : ObjectRows). o.lists) (c.ends-ended.ensures.others c.if-ended.false))
