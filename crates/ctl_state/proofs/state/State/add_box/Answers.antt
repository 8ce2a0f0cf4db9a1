use Rattle.std.specs.Prelude.{refl}
use Rattle.ctl_state.proofs.MailLemmas.{box_stands}
use Rattle.ctl_state.proofs.state.State.add_box.Goals as goal

pub returns-clause-ok : goal.returns-clause-ok
returns-clause-ok g c = λ k h. box_stands c.args.self.now _ refl refl refl refl c.args.room c.in_ok-add.ensures.ok k h
