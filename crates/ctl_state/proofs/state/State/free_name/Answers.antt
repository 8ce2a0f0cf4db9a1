use Rattle.std.specs.Prelude.{refl}
use Rattle.std.proofs.Common.{sym}
use Rattle.ctl_state.proofs.RegisterLemmas.{free_already, names_stand}
use Rattle.ctl_state.proofs.state.State.free_name.Goals as goal

pub returns-in-None-clause-stands : goal.returns-in-None-clause-stands
returns-in-None-clause-stands g c = λ k h. names_stand c.args.self.now _ _ _ k refl
    (free_already c.args.self.now.book k.names h.names c.args.at.now (sym c.in-None.ensures)) refl refl refl refl h
