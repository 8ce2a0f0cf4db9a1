use Rattle.std.specs.Prelude.{refl}
use Rattle.std.proofs.Common.{ap}
use Rattle.spec_control.specs.Row.{AsksForLinger}
use Rattle.ctl_state.specs.Objects.{ObjectRows}
use Rattle.ctl_state.specs.Parts.{on_objects}
use Rattle.ctl_state.proofs.StandLemmas.{link_stands}
use Rattle.ctl_state.proofs.state.State.asks_for_linger.Goals as goal

pub asks_for_linger-requires : goal.asks_for_linger-requires
asks_for_linger-requires g c = record { there = c.requires.there }

pub returns-clause-stands : goal.returns-clause-stands
returns-clause-stands g c = link_stands AsksForLinger c.args.id.0 c.args.self.now _ c.asks_for_linger.ensures.links refl refl refl refl

pub returns-clause-next : goal.returns-clause-next
returns-clause-next g c = ap (λ (o : ObjectRows). on_objects (λ _. o) c.args.self.now) c.asks_for_linger.ensures.next
