use Rattle.std.specs.Prelude.{refl}
use Rattle.std.proofs.Common.{ap}
use Rattle.spec_control.specs.Row.{PlugComes}
use Rattle.ctl_state.specs.Objects.{ObjectRows}
use Rattle.ctl_state.specs.Parts.{on_objects}
use Rattle.ctl_state.proofs.StandLemmas.{link_stands}
use Rattle.ctl_state.proofs.state.State.plug_comes.Goals as goal

pub plug_comes-requires : goal.plug_comes-requires
plug_comes-requires g c = record { unended = c.requires.unended; unplugged = c.requires.unplugged }

pub returns-clause-stands : goal.returns-clause-stands
returns-clause-stands g c = link_stands PlugComes c.args.id.0 c.args.self.now _ c.plug_comes.ensures.links refl refl refl refl

pub returns-clause-next : goal.returns-clause-next
returns-clause-next g c = ap (λ (o : ObjectRows). on_objects (λ _. o) c.args.self.now) c.plug_comes.ensures.next
