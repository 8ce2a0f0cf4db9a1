use Rattle.std.specs.Prelude.{Bool, true, false, ◌≡◌, refl, IsTrue}
use Rattle.std.proofs.lemmas.Bool.{false≢true}
use Rattle.spec_control.specs.EndpointBook.{is_connect_of, without_first}
use Rattle.ctl_state.proofs.RegisterLemmas.{back_already, now_waiting, names_stand}
use Rattle.ctl_state.proofs.state.State.take_back.Goals as goal

pub returns-in-Ok-clause-stands : goal.returns-in-Ok-clause-stands
returns-in-Ok-clause-stands g c = λ k h. names_stand c.args.self.now _ _ _ k c.in-Ok.ensures.ok
    (now_waiting c.args.self.now.book k.names h.names (without_first (is_connect_of c.args.waiter c.args.at.now))) refl refl refl refl h

pub returns-in-Err-clause-stands : goal.returns-in-Err-clause-stands
returns-in-Err-clause-stands g c = λ k h. names_stand c.args.self.now _ _ _ k c.in-Err.ensures.err
    (back_already c.args.self.now.book k.names h.names c.args.waiter c.args.at.now (none _ (c.in-Err.ensures.waits.1))) refl refl refl refl h
  where
    none : (b : Bool) → (IsTrue b → false ≡ true) → b ≡ false
    none true h = absurd (false≢true (h refl))
    none false h = refl
