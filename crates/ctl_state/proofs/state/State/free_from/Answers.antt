use Rattle.std.specs.Prelude.{refl}
use Rattle.std.proofs.Common.{ap}
use Rattle.spec_control.specs.EndpointBook.{Book}
use Rattle.ctl_state.specs.Parts.{on_book}
use Rattle.ctl_state.proofs.RegisterLemmas.{freed, names_stand}
use Rattle.ctl_state.proofs.state.State.free_from.Goals as goal

pub returns-in-Ok-clause-stands : goal.returns-in-Ok-clause-stands
returns-in-Ok-clause-stands g c = λ k h. names_stand c.args.self.now _ _ _ k c.in-Ok.ensures.ok (freed c.args.self.now.book k.names h.names c.args.at.now) refl refl refl refl h

pub returns-in-Ok-clause-next : goal.returns-in-Ok-clause-next
returns-in-Ok-clause-next g c = ap (λ (b : Book). on_book (λ _. b) c.args.self.now) c.in-Ok.ensures.ok
