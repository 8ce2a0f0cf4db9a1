use Rattle.std.proofs.Common.{◌≡◌, ◌+◌, arith, refl, ap, sym, subst, drop}
use Rattle.std.specs.Prelude.{map}
use Rattle.std.proofs.lemmas.Result.{err_from_is_err_and}
use Rattle.zq_script.specs.Reader.{said_with}
use Rattle.zq_script.specs.Script.{statements_from}
use Rattle.zq_script.specs.Statement.{nothing_learned, learned_behind}
use Rattle.zq_script.proofs.ScriptLemmas.{goes_on-start, lines-step, lines-stop, lines-end}
use Rattle.zq_script.proofs.read.read_statements.Goals as goal

pub loop-line-init : goal.loop-line-init
loop-line-init c = record {
  goes_on = (nothing_learned, c.new-known.ensures.knows, goes_on-start c.args.lines.now _ c.new-statements.ensures.items);
  number = refl;
  few = omega arith;
  lines = c.requires;
}

pub returns-in_err-said-clause-err : goal.returns-in_err-said-clause-err
returns-in_err-said-clause-err c =
    let p = err_from_is_err_and c.from_residual.result c.from_residual.ensures.1 in
    let k = c.loop-line.invariant.goes_on in
    rw (p.1, p.2) (lines-stop c.args.lines.now c.loop-line.line-index _ c.loop-line.statements.items k.0 _ _ c.loop-line-test.true k.2 (rw c.loop-line.invariant.number at (c.in_err-said.ensures k.0 k.1)))

pub loop-line-preserved : goal.loop-line-preserved
loop-line-preserved c = let k = c.loop-line.invariant.goes_on in record {
  goes_on = (
    learned_behind c.in_ok-said.said k.0,
    c.in_ok-take_in.ensures.knows k.0 k.1,
    subst (λ b. statements_from 1 nothing_learned (map (λ x. x.now) c.args.lines.now)
        ≡ said_with b (statements_from (c.loop-line.line-index + 1 + 1) (learned_behind c.in_ok-said.said k.0) (map (λ x. x.now) (drop (c.loop-line.line-index + 1) c.args.lines.now))))
        (sym c.in_ok-take_in.ensures.statements)
        (lines-step c.args.lines.now c.loop-line.line-index _ c.loop-line.statements.items k.0 _ _ c.loop-line-test.true k.2 (rw c.loop-line.invariant.number at (c.in_ok-said.ensures k.0 k.1))),
  );
  number = ap (λ n. n + 1) c.loop-line.invariant.number;
  few = omega (arith, c.in_ok-take_in.ensures.count);
  lines = c.requires;
}

pub returns-clause-ok : goal.returns-clause-ok
returns-clause-ok c = let k = c.loop-line.invariant.goes_on in
    lines-end c.args.lines.now c.loop-line.line-index _ c.loop-line.statements.items k.0 c.loop-line-test.false k.2
