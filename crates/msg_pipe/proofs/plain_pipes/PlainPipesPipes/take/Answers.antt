use Rattle.std.proofs.Common.{ltb-true, sym, ap, ◌∙◌, subst, refl}
use Rattle.spec_pattern.specs.Half.{Writing, Reading, fresh_writing, fresh_reading}
use Rattle.msg_pipe.specs.Told.{Finds, SeesAll, front_of}
use Rattle.msg_pipe.specs.PlainPipe.{plain_writing, plain_reading}
use Rattle.msg_pipe.specs.PlainPipes.{writing_at}
use Rattle.msg_pipe.proofs.PlainPipesLemmas.{seen_here, seen_set, relates, seen_else, seen_same, there_set}
use Rattle.msg_pipe.proofs.plain_pipes.PlainPipesPipes.take.Goals as goal

pub returns-clause-take : goal.returns-clause-take
returns-clause-take c =
    let ps = c.args.self.now.pipes.items in
    let n = c.args.i.now.number in
    let p = c.index_mut.result.now in
    let q = c.take.new.self in
    relates plain_reading fresh_reading (λ v w. Finds v c.take.result w) ps n p q c.index_mut.ensures.value (ltb-true _ _ c.requires.here) c.take.ensures.take

pub returns-clause-exact : goal.returns-clause-exact
returns-clause-exact c _ h same =
    let ps = c.args.self.now.pipes.items in
    let n = c.args.i.now.number in
    let p = c.index_mut.result.now in
    let q = c.take.new.self in
    let writing = ap (writing_at ps) same ∙ seen_here plain_writing (fresh_writing 0) ps n p (sym c.index_mut.ensures.value) (ltb-true _ _ c.requires.here) in
    let reading = seen_set plain_reading fresh_reading ps n q (ltb-true _ _ c.requires.here) in
    subst (λ (x : Writing × Reading). SeesAll x.0 (front_of c.take.result) x.1) (λ k. (sym writing k, sym reading k)) c.take.ensures.exact

pub returns-clause-keeps : goal.returns-clause-keeps
returns-clause-keeps c =
    let ps = c.args.self.now.pipes.items in
    let n = c.args.i.now.number in
    let p = c.index_mut.result.now in
    let q = c.take.new.self in
    record {
      name_is = refl;
      there = λ m lt. there_set ps n m q lt;
      outs = λ h here. seen_same plain_writing (fresh_writing 0) ps n h.number p q (sym c.index_mut.ensures.value) c.take.ensures.writing;
      ins = λ h here other. seen_else plain_reading fresh_reading ps n h.number q (other refl);
    }
