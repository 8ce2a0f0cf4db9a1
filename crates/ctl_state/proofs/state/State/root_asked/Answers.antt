use Rattle.std.specs.Prelude.{refl}
use Rattle.std.proofs.Common.{ap}
use Rattle.ctl_state.specs.Objects.{ObjectRows}
use Rattle.ctl_state.specs.Parts.{on_objects}
use Rattle.spec_control.specs.Row.{RootAsked}
use Rattle.ctl_state.proofs.StandLemmas.{link_stands}
use Rattle.ctl_state.proofs.state.State.root_asked.Goals as goal

pub term_comes-requires : goal.term_comes-requires
term_comes-requires g c = record { told = c.requires.alive }

pub returns-clause-stands : goal.returns-clause-stands
returns-clause-stands g c = link_stands RootAsked 0 c.args.self.now _ c.term_comes.ensures.links refl refl refl refl

pub returns-clause-next : goal.returns-clause-next
returns-clause-next g c = ap (λ (o : ObjectRows). on_objects (λ _. o) c.args.self.now) c.term_comes.ensures.next
