use Rattle.std.proofs.Common.{ltb-true, ℕ, length, sym, ap, ◌∙◌}
use Rattle.spec_pattern.specs.Half.{Writing, Reading, fresh_writing, fresh_reading}
use Rattle.msg_pipe.specs.PlainPipe.{plain_writing, plain_reading}
use Rattle.msg_pipe.specs.PlainPipes.{reading_at}
use Rattle.msg_pipe.proofs.PlainPipesLemmas.{seen_here}
use Rattle.msg_pipe.proofs.plain_pipes.PlainPipes.counts.Goals as goal

pub returns-clause-sent : goal.returns-clause-sent
returns-clause-sent c =
    let here = seen_here plain_writing (fresh_writing 0) c.args.self.now.pipes.items c.args.o.now.number c.index.result.now (sym c.index.ensures) (ltb-true _ _ c.requires.here) in
    c.counts.ensures.sent ∙ ap (λ (w : Writing). length w.committed) (sym here)

pub returns-clause-got : goal.returns-clause-got
returns-clause-got c i same =
    let here = seen_here plain_reading fresh_reading c.args.self.now.pipes.items c.args.o.now.number c.index.result.now (sym c.index.ensures) (ltb-true _ _ c.requires.here) in
    c.counts.ensures.got ∙ ap (λ (r : Reading). length r.taken) (sym here)
    ∙ ap (λ (n : ℕ). length (reading_at c.args.self.now.pipes.items n).taken) (sym same)
