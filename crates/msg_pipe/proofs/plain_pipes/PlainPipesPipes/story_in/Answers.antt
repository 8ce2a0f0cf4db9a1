use Rattle.std.proofs.Common.{List, [], ◌∷◌, ◌++◌, Bool, false, ap, sym, ◌∙◌, ltb-true}
use Rattle.spec_pattern.specs.Half.{Reading, fresh_reading}
use Rattle.msg_pipe.specs.declared.plain_pipe.PlainPipe.{PlainPipe}
use Rattle.msg_pipe.specs.PlainPipe.{plain_reading}
use Rattle.msg_pipe.specs.PlainPipes.{told_of}
use Rattle.msg_pipe.proofs.PlainPipesLemmas.{seen_here}
use Rattle.msg_pipe.proofs.plain_pipes.PlainPipesPipes.story_in.Goals as goal

pub returns : goal.returns
returns c =
    let ps = c.args.self.now.pipes.items in
    let p = c.index.result.now in
    let seen = seen_here plain_reading fresh_reading ps c.args.i.now.number p (sym c.index.ensures) (ltb-true _ _ c.requires) in
    ap told_of (c.and.ensures ∙ ap (λ (l : List (PlainPipe × Bool)). l ++ (p, false) ∷ []) c.new.ensures) ∙ sym (ap (λ (h : Reading). h.taken) seen)
