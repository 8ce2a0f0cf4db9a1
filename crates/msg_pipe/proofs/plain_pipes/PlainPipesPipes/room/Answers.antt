use Rattle.std.proofs.Common.{ltb-true, length, sym, ap, ◌∙◌, refl}
use Rattle.spec_pattern.specs.Half.{Writing, Reading, fresh_writing, fresh_reading}
use Rattle.msg_pipe.specs.Told.{SeesRoom}
use Rattle.msg_pipe.specs.PlainPipe.{plain_writing, plain_reading}
use Rattle.msg_pipe.specs.PlainPipes.{reading_at}
use Rattle.msg_pipe.proofs.PlainPipesLemmas.{seen_here, seen_set, relates, seen_else, seen_same, there_set}
use Rattle.msg_pipe.proofs.plain_pipes.PlainPipesPipes.room.Goals as goal

pub room-requires : goal.room-requires
room-requires c = record { «open» = ap (λ (w : Writing). w.sealed) (sym (seen_here plain_writing (fresh_writing 0) c.args.self.now.pipes.items c.args.o.now.number c.index_mut.result.now (sym c.index_mut.ensures.value) (ltb-true _ _ c.requires.here))) ∙ c.requires.«open» }

pub returns-clause-room : goal.returns-clause-room
returns-clause-room c =
    let ps = c.args.self.now.pipes.items in
    let n = c.args.o.now.number in
    let p = c.index_mut.result.now in
    let q = c.room.new.self in
    relates plain_writing (fresh_writing 0) (λ v w. SeesRoom v c.room.result w) ps n p q c.index_mut.ensures.value (ltb-true _ _ c.requires.here) c.room.ensures.room

pub returns-clause-exact : goal.returns-clause-exact
returns-clause-exact c _ h same =
    let ps = c.args.self.now.pipes.items in
    let n = c.args.o.now.number in
    let p = c.index_mut.result.now in
    let q = c.room.new.self in
    let was = seen_here plain_reading fresh_reading ps n p (sym c.index_mut.ensures.value) (ltb-true _ _ c.requires.here) in
    ap (λ (w : Writing). w.freed) (seen_set plain_writing (fresh_writing 0) ps n q (ltb-true _ _ c.requires.here)) ∙ c.room.ensures.exact ∙ sym (ap (λ (r : Reading). length r.taken) (ap (reading_at ps) same ∙ was))

pub returns-clause-keeps : goal.returns-clause-keeps
returns-clause-keeps c =
    let ps = c.args.self.now.pipes.items in
    let n = c.args.o.now.number in
    let p = c.index_mut.result.now in
    let q = c.room.new.self in
    record {
      name_is = refl;
      there = λ m lt. there_set ps n m q lt;
      outs = λ h here other. seen_else plain_writing (fresh_writing 0) ps n h.number q (other refl);
      ins = λ h here. seen_same plain_reading fresh_reading ps n h.number p q (sym c.index_mut.ensures.value) c.room.ensures.reading;
    }
