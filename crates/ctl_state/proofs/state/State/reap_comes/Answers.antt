use Rattle.std.specs.Prelude.{None, ℕ, refl}
use Rattle.std.proofs.Common.{ap, ◌∙◌}
use Rattle.spec_control.specs.declared.letter.Word.TheVariants.{Term}
use Rattle.spec_control.specs.Row.{Row, ReapComes}
use Rattle.spec_control.specs.Control.{link}
use Rattle.ctl_state.specs.Objects.{ObjectRows}
use Rattle.ctl_state.specs.Parts.{on_objects, sent_to}
use Rattle.ctl_state.specs.Stands.{letter_for, slot_of}
use Rattle.ctl_state.proofs.StandLemmas.{link_stands}
use Rattle.ctl_state.proofs.state.State.reap_comes.Goals as goal

pub returns-clause-stands : goal.returns-clause-stands
returns-clause-stands g c = λ k h. c.put.ensures.stands (link ReapComes c.args.socket.0 k)
    (link_stands ReapComes c.args.socket.0 c.args.self.now _ c.reap_comes.ensures.links refl refl refl refl k h)

pub returns-clause-next : goal.returns-clause-next
returns-clause-next g c =
    c.put.ensures.next
    ∙ ap (λ (n : ℕ). sent_to n (letter_for c.args.socket Term None) (on_objects (λ _. c.reap_comes.new.self) c.args.self.now)) (ap (λ (r : Row). r.slot) c.reap_comes.ensures.links.here)
    ∙ ap (λ (o : ObjectRows). sent_to (slot_of c.args.self.now c.args.socket.0) (letter_for c.args.socket Term None) (on_objects (λ _. o) c.args.self.now)) c.reap_comes.ensures.next
