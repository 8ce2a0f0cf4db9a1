use Rattle.std.specs.Prelude.{None, ℕ, refl}
use Rattle.std.proofs.Common.{ap, ◌∙◌}
use Rattle.spec_control.specs.declared.letter.Word.TheVariants.{Term}
use Rattle.spec_control.specs.Row.{Row, IsTold}
use Rattle.spec_control.specs.Control.{link}
use Rattle.ctl_state.specs.Objects.{ObjectRows}
use Rattle.ctl_state.specs.Parts.{on_objects, sent_to}
use Rattle.ctl_state.specs.Stands.{letter_for, slot_of}
use Rattle.ctl_state.proofs.StandLemmas.{link_stands, sent_links, sent_shape}
use Rattle.ctl_state.proofs.state.State.tell.Goals as goal

pub returns-clause-stands : goal.returns-clause-stands
returns-clause-stands g c = λ k h. c.put.ensures.stands (link IsTold c.args.child.0 k)
    (link_stands IsTold c.args.child.0 c.args.self.now _ c.is_told.ensures.links refl refl refl refl k h)

pub returns-clause-links : goal.returns-clause-links
returns-clause-links g c = sent_links IsTold c.args.child.0 c.args.self.now.objects _ _ _ c.put.new.self c.put.ensures.next c.is_told.ensures.links

pub returns-clause-shape : goal.returns-clause-shape
returns-clause-shape g c = sent_shape _ _ _ c.put.new.self c.put.ensures.next ∙ c.is_told.ensures.shape

pub returns-clause-next : goal.returns-clause-next
returns-clause-next g c =
    c.put.ensures.next
    ∙ ap (λ (n : ℕ). sent_to n (letter_for c.args.child Term None) (on_objects (λ _. c.is_told.new.self) c.args.self.now)) (ap (λ (r : Row). r.slot) c.is_told.ensures.links.here)
    ∙ ap (λ (o : ObjectRows). sent_to (slot_of c.args.self.now c.args.child.0) (letter_for c.args.child Term None) (on_objects (λ _. o) c.args.self.now)) c.is_told.ensures.next
