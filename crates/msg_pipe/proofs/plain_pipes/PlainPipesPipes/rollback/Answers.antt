use Rattle.std.proofs.Common.{ltb-true, ◌≡◌, refl, sym}
use Rattle.spec_pattern.specs.Half.{fresh_writing, fresh_reading, without_parts}
use Rattle.msg_pipe.specs.PlainPipe.{plain_writing, plain_reading}
use Rattle.msg_pipe.proofs.PlainPipesLemmas.{relates, seen_else, seen_same, there_set}
use Rattle.msg_pipe.proofs.plain_pipes.PlainPipesPipes.rollback.Goals as goal

pub returns-clause-forgets : goal.returns-clause-forgets
returns-clause-forgets c =
    let ps = c.args.self.now.pipes.items in
    let n = c.args.o.now.number in
    let p = c.index_mut.result.now in
    let q = c.rollback.new.self in
    relates plain_writing (fresh_writing 0) (λ v w. w ≡ without_parts v) ps n p q c.index_mut.ensures.value (ltb-true _ _ c.requires.here) c.rollback.ensures.forgets

pub returns-clause-keeps : goal.returns-clause-keeps
returns-clause-keeps c =
    let ps = c.args.self.now.pipes.items in
    let n = c.args.o.now.number in
    let p = c.index_mut.result.now in
    let q = c.rollback.new.self in
    record {
      name_is = refl;
      there = λ m lt. there_set ps n m q lt;
      outs = λ h here other. seen_else plain_writing (fresh_writing 0) ps n h.number q (other refl);
      ins = λ h here. seen_same plain_reading fresh_reading ps n h.number p q (sym c.index_mut.ensures.value) c.rollback.ensures.reading;
    }
