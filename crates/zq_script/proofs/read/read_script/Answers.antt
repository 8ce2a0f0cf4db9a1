use Rattle.std.proofs.Common.{◌∙◌, arith, ap, sym, Ok}
use Rattle.std.specs.Prelude.{map}
use Rattle.std.proofs.lemmas.Result.{err_from_is_err_and}
use Rattle.zq_script.proofs.ScriptLemmas.{length-lines, script-many_octets, script-many_lines, script-ok, script-fault}
use Rattle.zq_script.proofs.read.read_script.Goals as goal

pub returns-then-octets-gt-MAX_OCTETS-clause-fault : goal.returns-then-octets-gt-MAX_OCTETS-clause-fault
returns-then-octets-gt-MAX_OCTETS-clause-fault c = λ f e. let same = script-many_octets c.args.octets.now c.if-octets-gt-MAX_OCTETS.true in cc

pub returns-then-len-gt-MAX_LINES-clause-fault : goal.returns-then-len-gt-MAX_LINES-clause-fault
returns-then-len-gt-MAX_LINES-clause-fault c = λ f e.
    let same = script-many_lines c.args.octets.now (omega (arith, length-lines c.in_ok-lines.lines.items c.args.octets.now c.in_ok-lines.ensures)) in cc

pub returns-in_err-statements-clause-fault : goal.returns-in_err-statements-clause-fault
returns-in_err-statements-clause-fault c = λ f e.
    let p = err_from_is_err_and c.from_residual-in_err-statements.result c.from_residual-in_err-statements.ensures.1 in
    script-fault c.args.octets.now c.as_slice.result.now (ap (map (λ x. x.now)) c.as_slice.ensures.value ∙ c.in_ok-lines.ensures) (omega arith) (omega arith) _ f c.in_err-statements.ensures.err cc

pub returns-clause-ok : goal.returns-clause-ok
returns-clause-ok c =
    script-ok c.args.octets.now c.as_slice.result.now (ap (map (λ x. x.now)) c.as_slice.ensures.value ∙ c.in_ok-lines.ensures) (omega arith) (omega arith) _ c.in_ok-statements.ensures.ok
    ∙ ap Ok (sym c.in_ok-actors.ensures)
