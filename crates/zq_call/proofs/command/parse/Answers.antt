use Rattle.std.proofs.Common.{◌≡◌, ◌∙◌, ap, subst, map, string_bytes}
use Rattle.clap.specs.Words.{HasKind, app_of, fault_of, is_simple_and_free}
use Rattle.zq_call.specs.Words.{program}
use Rattle.zq_call.proofs.WordsLemmas.{has_fault, is_simple_program}
use Rattle.zq_call.proofs.command.parse.Goals as goal

pub returns : goal.returns
returns c =
    let app : app_of c.in_ok-program.field-0 ≡ program = c.in_ok-program.ensures in
    let words = map string_bytes c.args.words.now in
    has_fault (fault_of program words) c.in-Err.error
    (subst (λ a. HasKind (fault_of a words) c.in-Err.error) app (c.in-Err.ensures.kinds (ap is_simple_and_free app ∙ is_simple_program)))
    (λ e. c.in_default.not-OutOfMemory (c.kind.ensures ∙ e))
