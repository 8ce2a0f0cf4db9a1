use Rattle.std.proofs.Common.{◌≡◌}
use Rattle.std.specs.Prelude.{codes, false}
use Rattle.clap.specs.Words.{app_of, new_app, with_rule}
use Rattle.clap.specs.declared.builder.Command.TheViews.{out-Command}
use Rattle.zq_call.specs.Words.{option_of}
use Rattle.zq_call.proofs.CommandLemmas.{told, with_one, stays_local}
use Rattle.zq_call.proofs.command.run_command.Goals as goal

pub returns-clause-app : goal.returns-clause-app
returns-clause-app c =
    let first : app_of c.in_ok-arg.field-0 ≡ with_rule (new_app (codes "run")) (option_of (codes "threads")) =
    with_one _ _ _ _ _ c.in_ok-arg.ensures c.new.ensures.app c.option.ensures.rule c.option.ensures.local in
    let second : app_of c.in_ok-arg-2.field-0 ≡ with_rule (with_rule (new_app (codes "run")) (option_of (codes "threads"))) (option_of (codes "seed")) =
    with_one _ _ _ _ _ c.in_ok-arg-2.ensures first c.option-2.ensures.rule c.option-2.ensures.local in
    told _ c.arg-3.result c.arg-3.ensures (λ new adds. with_one _ new _ _ _ adds second c.option-3.ensures.rule c.option-3.ensures.local)

pub returns-clause-local : goal.returns-clause-local
returns-clause-local c =
    let first : (out-Command c.in_ok-arg.field-0).has_globals ≡ false = stays_local _ _ _ c.in_ok-arg.ensures c.new.ensures.local c.option.ensures.local in
    let second : (out-Command c.in_ok-arg-2.field-0).has_globals ≡ false = stays_local _ _ _ c.in_ok-arg-2.ensures first c.option-2.ensures.local in
    told _ c.arg-3.result c.arg-3.ensures (λ new adds. stays_local _ new _ adds second c.option-3.ensures.local)
