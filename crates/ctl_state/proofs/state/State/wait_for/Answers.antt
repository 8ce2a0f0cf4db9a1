use Rattle.std.specs.Prelude.{refl}
use Rattle.std.specs.Prelude.{[], ◌∷◌, ◌++◌}
use Rattle.ctl_state.proofs.RegisterLemmas.{now_waiting, names_stand}
use Rattle.ctl_state.proofs.state.State.wait_for.Goals as goal

pub returns-clause-ok : goal.returns-clause-ok
returns-clause-ok g c = λ k h. names_stand c.args.self.now _ _ _ k c.in_ok-wait_for.ensures.ok
    (now_waiting c.args.self.now.book k.names h.names (λ ws. ws ++ record { at = c.args.at.now; waiter = c.args.waiter; kind = c.args.kind } ∷ [])) refl refl refl refl h
