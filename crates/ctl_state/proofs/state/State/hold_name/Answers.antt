use Rattle.std.specs.Prelude.{refl}
use Rattle.ctl_state.proofs.RegisterLemmas.{named, names_stand}
use Rattle.ctl_state.proofs.state.State.hold_name.Goals as goal

pub returns-clause-ok : goal.returns-clause-ok
returns-clause-ok g c = λ k h. names_stand c.args.self.now _ _ _ k c.in_ok-bind.ensures.ok (named c.args.self.now.book k.names h.names c.args.at.now c.args.binding) refl refl refl refl h
