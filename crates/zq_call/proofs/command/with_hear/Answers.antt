use Rattle.std.proofs.Common.{refl}
use Rattle.zq_call.proofs.CommandLemmas.{told, with_sub}
use Rattle.zq_call.proofs.command.with_hear.Goals as goal

pub returns-in-Ok : goal.returns-in-Ok
returns-in-Ok c = told _ c.subcommand.result c.subcommand.ensures (λ new adds. with_sub _ new _ _ _ adds refl c.in-Ok.ensures.app c.in-Ok.ensures.local)
