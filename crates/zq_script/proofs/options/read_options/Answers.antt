use Rattle.std.proofs.lemmas.Result.{err_from_is_err_and}
use Rattle.zq_script.proofs.OptionLemmas.{options-step, options-stop, options-end}
use Rattle.zq_script.proofs.options.read_options.Goals as goal

pub returns-in_err-set_option : goal.returns-in_err-set_option
returns-in_err-set_option c = let p = err_from_is_err_and c.from_residual.result c.from_residual.ensures.1 in rw (p.1, p.2) (options-stop _ _ _ _ _ _ c.loop-word-test.true c.loop-word.invariant c.in_err-set_option.ensures)

pub loop-word-preserved : goal.loop-word-preserved
loop-word-preserved c = options-step _ _ _ _ _ _ c.loop-word-test.true c.loop-word.invariant c.in_ok-set_option.ensures

pub returns : goal.returns
returns c = options-end _ _ _ _ c.loop-word-test.false c.loop-word.invariant
