use Rattle.std.specs.Prelude.{refl}
use Rattle.std.proofs.Common.{ap}
use Rattle.spec_control.specs.Row.{RequestComes}
use Rattle.ctl_state.specs.Objects.{ObjectRows}
use Rattle.ctl_state.specs.Parts.{on_objects}
use Rattle.ctl_state.proofs.StandLemmas.{link_stands}
use Rattle.ctl_state.proofs.state.State.request_comes.Goals as goal

pub request_comes-requires : goal.request_comes-requires
request_comes-requires g c = record { coming = c.requires.coming }

pub returns-clause-stands : goal.returns-clause-stands
returns-clause-stands g c = link_stands RequestComes c.args.id.0 c.args.self.now _ c.request_comes.ensures.links refl refl refl refl

pub returns-clause-next : goal.returns-clause-next
returns-clause-next g c = ap (λ (o : ObjectRows). on_objects (λ _. o) c.args.self.now) c.request_comes.ensures.next
