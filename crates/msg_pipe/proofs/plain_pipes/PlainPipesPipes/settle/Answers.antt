use Rattle.std.proofs.Common.{ltb-true, length, sym, ap, ◌∙◌, subst, refl, ◌<◌, ℕ}
use Rattle.spec_pattern.specs.Half.{Writing, Reading, fresh_writing, fresh_reading, AreHalves}
use Rattle.msg_pipe.specs.PlainPipe.{plain_writing, plain_reading}
use Rattle.msg_pipe.specs.PlainPipes.{writing_at}
use Rattle.msg_pipe.proofs.PlainPipesLemmas.{seen_here, seen_else, there_set}
use Rattle.msg_pipe.proofs.plain_pipes.PlainPipesPipes.settle.Goals as goal

pub returns-clause-sent : goal.returns-clause-sent
returns-clause-sent c =
    let ps = c.args.self.now.pipes.items in
    let n = c.args.i.number in
    let here : n < length ps = subst (λ (k : ℕ). k < length ps) (sym c.requires.pair) (ltb-true _ _ c.requires.here) in
    let reading = seen_here plain_reading fresh_reading ps n c.index_mut.result.now (sym c.index_mut.ensures.value) here in
    let writing = ap (writing_at ps) (sym c.requires.pair) ∙ seen_here plain_writing (fresh_writing 0) ps n c.index_mut.result.now (sym c.index_mut.ensures.value) here in
    c.settle.ensures.sent ∙ ap (λ (w : Writing). length w.committed) (sym writing)

pub returns-clause-got : goal.returns-clause-got
returns-clause-got c =
    let ps = c.args.self.now.pipes.items in
    let n = c.args.i.number in
    let here : n < length ps = subst (λ (k : ℕ). k < length ps) (sym c.requires.pair) (ltb-true _ _ c.requires.here) in
    let reading = seen_here plain_reading fresh_reading ps n c.index_mut.result.now (sym c.index_mut.ensures.value) here in
    c.settle.ensures.got ∙ ap (λ (r : Reading). length r.taken) (sym reading)

pub returns-clause-halves : goal.returns-clause-halves
returns-clause-halves c =
    let ps = c.args.self.now.pipes.items in
    let n = c.args.i.number in
    let here : n < length ps = subst (λ (k : ℕ). k < length ps) (sym c.requires.pair) (ltb-true _ _ c.requires.here) in
    let reading = seen_here plain_reading fresh_reading ps n c.index_mut.result.now (sym c.index_mut.ensures.value) here in
    let writing = ap (writing_at ps) (sym c.requires.pair) ∙ seen_here plain_writing (fresh_writing 0) ps n c.index_mut.result.now (sym c.index_mut.ensures.value) here in
    subst (λ (x : Writing × Reading). AreHalves x.0 x.1) (λ k. (sym writing k, sym reading k)) c.settle.ensures.halves

pub returns-clause-keeps : goal.returns-clause-keeps
returns-clause-keeps c =
    let ps = c.args.self.now.pipes.items in
    let n = c.args.i.number in
    let q = c.settle.new.self in
    record {
      there = λ m lt. there_set ps n m q lt;
      outs = λ h here other. seen_else plain_writing (fresh_writing 0) ps n h.number q (λ e. other refl (e ∙ c.requires.pair));
      ins = λ h here other. seen_else plain_reading fresh_reading ps n h.number q (λ e. other refl (e ∙ c.requires.pair));
    }
