use Rattle.std.proofs.Common.{ℕ, ◌+◌, ◌≤◌, ◌++◌, List, length, ap, sym, ◌∙◌, refl, arith}
use Rattle.zmtp_engine.specs.declared.sending.Next.{Next}
use Rattle.zmtp_engine.specs.declared.sending.Next.TheVariants.{Head}
use Rattle.zmtp_engine.specs.Output.{filled_run}
use Rattle.zmtp_engine.specs.WriterView.{body_at, pieces_at}
use Rattle.zmtp_engine.proofs.WriterLemmas.{body_taken}
use Rattle.zmtp_engine.proofs.sending.Sending.gather_body.Goals as goal

pub returns-clause-gathered : goal.returns-clause-gathered
returns-clause-gathered c =
    let frames : List (List ℕ) = c.args.self.now.message in
    let frame : ℕ = c.args.self.now.frame in
    let run : List ℕ = c.args.run.now.items in
    let le : length run + length (body_at frames frame) ≤ 8192 = omega (arith, c.if-body-len.false, c.len.ensures.value, ap (λ (l : List ℕ). length l) c.body-body.ensures.value, c.requires.room.few) in
    ap (λ (n : Next). filled_run run (pieces_at n frames frame)) c.requires.body ∙ body_taken frames frame (frame + 1) run refl le
    ∙ ap (λ (l : List ℕ). filled_run l (pieces_at Head frames (frame + 1))) (sym (c.extend_reserved.ensures.items ∙ ap (λ (l : List ℕ). run ++ l) c.body-body.ensures.value))
