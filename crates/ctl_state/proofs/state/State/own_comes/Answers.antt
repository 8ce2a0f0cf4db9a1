use Rattle.std.specs.Prelude.{refl}
use Rattle.std.proofs.Common.{ap}
use Rattle.spec_control.specs.Row.{OwnComes}
use Rattle.ctl_state.specs.Objects.{ObjectRows}
use Rattle.ctl_state.specs.Parts.{on_objects}
use Rattle.ctl_state.proofs.StandLemmas.{link_stands}
use Rattle.ctl_state.proofs.state.State.own_comes.Goals as goal

pub own_comes-requires : goal.own_comes-requires
own_comes-requires g c = record { unended = c.requires.unended; owned = c.requires.owned; unnoted = c.requires.unnoted }

pub returns-clause-stands : goal.returns-clause-stands
returns-clause-stands g c = link_stands OwnComes c.args.child.0 c.args.self.now _ c.own_comes.ensures.links refl refl refl refl

pub returns-clause-next : goal.returns-clause-next
returns-clause-next g c = ap (λ (o : ObjectRows). on_objects (λ _. o) c.args.self.now) c.own_comes.ensures.next
