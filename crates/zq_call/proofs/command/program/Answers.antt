use Rattle.std.proofs.Common.{◌≡◌, ◌∙◌, ap}
use Rattle.std.specs.Prelude.{codes}
use Rattle.clap.specs.Words.{App, app_of, new_app, with_subcommand}
use Rattle.zq_call.specs.Words.{hear_command, run_command}
use Rattle.zq_call.proofs.CommandLemmas.{told, with_sub}
use Rattle.zq_call.proofs.command.program.Goals as goal

pub returns : goal.returns
returns c =
    let with_run : app_of c.in_ok-subcommand.field-0 ≡ with_subcommand (new_app (codes "zbus")) run_command.top =
    with_sub _ _ _ _ _ c.in_ok-subcommand.ensures c.new.ensures.app c.in_ok-run.ensures.app c.in_ok-run.ensures.local in
    told _ c.with_hear.result c.with_hear.ensures (λ new is. is ∙ ap (λ (a : App). with_subcommand a hear_command.top) with_run)
