use Rattle.std.specs.Prelude.{refl}
use Rattle.std.proofs.Common.{ap}
use Rattle.spec_control.specs.Row.{AsksOver}
use Rattle.ctl_state.specs.Objects.{ObjectRows}
use Rattle.ctl_state.specs.Parts.{on_objects}
use Rattle.ctl_state.proofs.StandLemmas.{link_stands}
use Rattle.ctl_state.proofs.state.State.asks_over.Goals as goal

pub asks_over-requires : goal.asks_over-requires
asks_over-requires g c = record { unended = c.requires.unended; unused = c.requires.unused }

pub returns-clause-stands : goal.returns-clause-stands
returns-clause-stands g c = link_stands AsksOver c.args.id.0 c.args.self.now _ c.asks_over.ensures.links refl refl refl refl

pub returns-clause-next : goal.returns-clause-next
returns-clause-next g c = ap (λ (o : ObjectRows). on_objects (λ _. o) c.args.self.now) c.asks_over.ensures.next
