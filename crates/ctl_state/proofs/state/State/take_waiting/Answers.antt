use Rattle.std.specs.Prelude.{refl}
use Rattle.std.specs.Prelude.{filter, not}
use Rattle.spec_control.specs.EndpointBook.{is_fulfilled}
use Rattle.ctl_state.proofs.RegisterLemmas.{now_waiting, names_stand}
use Rattle.ctl_state.proofs.state.State.take_waiting.Goals as goal

pub returns-clause-stands : goal.returns-clause-stands
returns-clause-stands g c = λ k h. names_stand c.args.self.now _ _ _ k c.take_waiting.ensures
    (now_waiting c.args.self.now.book k.names h.names (filter (λ w. not (is_fulfilled c.args.at.now c.args.binding w)))) refl refl refl refl h
