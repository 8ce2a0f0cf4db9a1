use Rattle.std.proofs.Common.{ltb-true, ◌≡◌, List, [], ◌∷◌, ◌++◌, length, ap, ◌∙◌, arith, refl}
use Rattle.spec_pattern.specs.Half.{fresh_writing, fresh_reading}
use Rattle.msg_pipe.specs.declared.plain_pipe.PlainPipe.{PlainPipe}
use Rattle.msg_pipe.specs.PlainPipe.{plain_writing, plain_reading}
use Rattle.msg_pipe.specs.PlainPipes.{writing_at, reading_at}
use Rattle.msg_pipe.proofs.PlainPipesLemmas.{seen_last, seen_before, there_more}
use Rattle.msg_pipe.proofs.plain_pipes.PlainPipes.add.Goals as goal

pub returns-clause-made : goal.returns-clause-made
returns-clause-made c =
    let ps = c.args.self.now.pipes.items in
    let p = c.in_ok-pipe.pipe in
    let e : c.push_reserved.new.self.items ≡ ps ++ p ∷ [] = c.push_reserved.ensures.items ∙ ap (λ (l : List PlainPipe). l ++ p ∷ []) c.reserve.ensures.items in
    let n : c.len-number.result ≡ length ps = (let a = c.len-number.ensures in let b = c.reserve.ensures.len in let o = c.args.self.now.pipes.ok in omega (arith, a, b, o)) in
    record {
      one_name = refl;
      there = there_more ps p c.push_reserved.new.self.items c.len-number.result e (omega (arith, n));
      is_new = λ _ lt. (let l = ltb-true _ _ lt in omega (arith, n, l));
      writing_is = ap (λ (l : List PlainPipe). writing_at l c.len-number.result) e ∙ seen_last plain_writing (fresh_writing 0) ps p c.len-number.result n ∙ c.in_ok-pipe.ensures.writing;
      reading_is = ap (λ (l : List PlainPipe). reading_at l c.len-number.result) e ∙ seen_last plain_reading fresh_reading ps p c.len-number.result n ∙ c.in_ok-pipe.ensures.reading;
    }

pub returns-clause-keeps : goal.returns-clause-keeps
returns-clause-keeps c =
    let ps = c.args.self.now.pipes.items in
    let p = c.in_ok-pipe.pipe in
    let e : c.push_reserved.new.self.items ≡ ps ++ p ∷ [] = c.push_reserved.ensures.items ∙ ap (λ (l : List PlainPipe). l ++ p ∷ []) c.reserve.ensures.items in
    record {
      there = λ m lt. there_more ps p c.push_reserved.new.self.items m e (let l = ltb-true _ _ lt in omega (arith, l));
      outs = λ h lt. ap (λ (l : List PlainPipe). writing_at l h.number) e ∙ seen_before plain_writing (fresh_writing 0) ps p h.number (ltb-true _ _ lt);
      ins = λ h lt. ap (λ (l : List PlainPipe). reading_at l h.number) e ∙ seen_before plain_reading fresh_reading ps p h.number (ltb-true _ _ lt);
    }
