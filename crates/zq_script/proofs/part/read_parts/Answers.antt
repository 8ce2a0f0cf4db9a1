use Rattle.std.proofs.Common.{arith, sym, subst, ◌+◌}
use Rattle.std.specs.Prelude.{map}
use Rattle.std.proofs.lemmas.Grind.{common_steps}
use Rattle.zq_script.specs.Part.{parts_of}
use Rattle.std.proofs.lemmas.Result.{err_from_is_err_and}
use Rattle.zq_script.proofs.PartLemmas.{GoesOn, parts-step, parts-stop, parts-end}
use Rattle.zq_script.proofs.part.read_parts.Goals as goal

pub returns-in_err-read_part-clause-fault : goal.returns-in_err-read_part-clause-fault
returns-in_err-read_part-clause-fault c = let p = err_from_is_err_and c.from_residual-in_err-read_part.result c.from_residual-in_err-read_part.ensures.1 in rw (p.1, p.2) (λ cause f. parts-stop _ _ _ _ _ _ _ c.loop-word-test.true c.loop-word.invariant.parts c.in_err-read_part.ensures f)

pub loop-word-preserved : goal.loop-word-preserved
loop-word-preserved c = record {
  parts = subst (λ parts. GoesOn c.args.words.now (c.loop-word.word-index + 1) (parts_of (map (λ x. x.now) c.args.words.now)) parts) (sym c.push_reserved.ensures.items) (parts-step _ _ _ _ _ _ c.loop-word-test.true c.loop-word.invariant.parts c.in_ok-read_part.ensures);
  so_far = grind (arith, common_steps);
  room = grind (arith, common_steps);
}

pub returns-clause-ok : goal.returns-clause-ok
returns-clause-ok c = parts-end _ _ _ _ c.loop-word-test.false c.loop-word.invariant.parts
