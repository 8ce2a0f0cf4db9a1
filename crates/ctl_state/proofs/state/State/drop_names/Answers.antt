use Rattle.std.specs.Prelude.{refl}
use Rattle.ctl_state.proofs.RegisterLemmas.{dropped, names_stand}
use Rattle.ctl_state.proofs.state.State.drop_names.Goals as goal

pub returns-clause-stands : goal.returns-clause-stands
returns-clause-stands g c = λ k h. names_stand c.args.self.now _ _ _ k c.drop_object.ensures (dropped c.args.self.now.book k.names h.names c.args.object) refl refl refl refl h
