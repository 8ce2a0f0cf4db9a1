use Rattle.std.proofs.Common.{ltb-true, ◌≡◌, [], ◌∷◌, refl, sym}
use Rattle.std.specs.Prelude.{OnOk, OnErr}
use Rattle.spec_pattern.specs.Half.{fresh_writing, fresh_reading, with_part}
use Rattle.msg_pipe.specs.PlainPipe.{plain_writing, plain_reading}
use Rattle.msg_pipe.proofs.PlainPipesLemmas.{relates, seen_else, seen_same, there_set}
use Rattle.msg_pipe.proofs.plain_pipes.PlainPipesPipes.part.Goals as goal

pub returns-clause-ok : goal.returns-clause-ok
returns-clause-ok c =
    let ps = c.args.self.now.pipes.items in
    let n = c.args.o.now.number in
    let p = c.index_mut.result.now in
    let q = c.part.new.self in
    relates plain_writing (fresh_writing 0) (λ v w. OnOk c.part.result (w ≡ with_part (c.args.frame ∷ []) v)) ps n p q c.index_mut.ensures.value (ltb-true _ _ c.requires.here) c.part.ensures.ok

pub returns-clause-err : goal.returns-clause-err
returns-clause-err c =
    let ps = c.args.self.now.pipes.items in
    let n = c.args.o.now.number in
    let p = c.index_mut.result.now in
    let q = c.part.new.self in
    relates plain_writing (fresh_writing 0) (λ v w. OnErr c.part.result (w ≡ v)) ps n p q c.index_mut.ensures.value (ltb-true _ _ c.requires.here) c.part.ensures.err

pub returns-clause-keeps : goal.returns-clause-keeps
returns-clause-keeps c =
    let ps = c.args.self.now.pipes.items in
    let n = c.args.o.now.number in
    let p = c.index_mut.result.now in
    let q = c.part.new.self in
    record {
      name_is = refl;
      there = λ m lt. there_set ps n m q lt;
      outs = λ h here other. seen_else plain_writing (fresh_writing 0) ps n h.number q (other refl);
      ins = λ h here. seen_same plain_reading fresh_reading ps n h.number p q (sym c.index_mut.ensures.value) c.part.ensures.reading;
    }
