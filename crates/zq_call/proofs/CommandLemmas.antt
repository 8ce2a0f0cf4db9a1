-- A command that is made part by part.
use Rattle.std.proofs.Common.{◌≡◌, ◌∙◌, ap, ap₂, Bool, false}
use Rattle.std.specs.Prelude.{◌||◌, Result, Ok, Err, IfOk}
use Rattle.clap.specs.Words.{AddsArg, AddsSubcommand, App, Rule, Shape, app_of, rule_of, with_rule, with_subcommand}
use Rattle.clap.specs.declared.builder.arg.Arg.{Arg}
use Rattle.clap.specs.declared.builder.Command.TheViews.{out-Command}
use Rattle.clap.specs.declared.builder.command.Command.{Command}

-- what a call gives is told in other words
pub told : {T E : Type 0} {P : T → Type 0} (Q : T → Type 0) (r : Result T E) → IfOk r P → ((x : T) → P x → Q x) → IfOk r Q
told Q (Ok x) h so = so x h
told Q (Err e) h so = tt

-- a command with one argument more
pub with_one : (old new : Command) (a : Arg) (app : App) (rule : Rule) → AddsArg old a new → app_of old ≡ app → rule_of a ≡ rule → a.global ≡ false → app_of new ≡ with_rule app rule
with_one old new a app rule adds is same local = adds.shape local ∙ ap₂ (λ x y. with_rule x y) is same

-- which is not global
pub stays_local : (old new : Command) (a : Arg) → AddsArg old a new → (out-Command old).has_globals ≡ false → a.global ≡ false → (out-Command new).has_globals ≡ false
stays_local old new a adds is local = adds.globals ∙ ap₂ (λ (x y : Bool). x || y) is local

-- a command with one subcommand more
pub with_sub : (old new sub : Command) (app subapp : App) → AddsSubcommand old sub new → app_of old ≡ app → app_of sub ≡ subapp → (out-Command sub).has_globals ≡ false → app_of new ≡ with_subcommand app subapp.top
with_sub old new sub app subapp adds is same local = adds.shape local ∙ ap₂ (λ (x : App) (y : Shape). with_subcommand x y) is (ap (λ (a : App). a.top) same)
