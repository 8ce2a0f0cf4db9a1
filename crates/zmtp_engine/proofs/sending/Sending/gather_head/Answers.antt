use Rattle.std.proofs.Common.{ℕ, ◌+◌, ◌≤◌, ◌++◌, List, length, ap, sym, ◌∙◌, arith}
use Rattle.zmtp_engine.specs.declared.sending.Next.{Next}
use Rattle.zmtp_engine.specs.declared.sending.Next.TheVariants.{Body}
use Rattle.zmtp_engine.specs.Output.{filled_run}
use Rattle.zmtp_engine.specs.WriterView.{head_at, pieces_at}
use Rattle.zmtp_engine.proofs.WriterLemmas.{head_taken}
use Rattle.zmtp_engine.proofs.sending.Sending.gather_head.Goals as goal

pub returns-clause-gathered : goal.returns-clause-gathered
returns-clause-gathered c =
    let frames : List (List ℕ) = c.args.self.now.message in
    let frame : ℕ = c.args.self.now.frame in
    let run : List ℕ = c.args.run.now.items in
    let le : length run + length (head_at frames frame) ≤ 8192 = omega (arith, c.if-len.false, c.len.ensures, c.len-2.ensures.value, ap (λ (l : List ℕ). length l) c.head-head.ensures, c.requires.room.few) in
    ap (λ (n : Next). filled_run run (pieces_at n frames frame)) c.requires.head ∙ head_taken frames frame run c.requires.within le
    ∙ ap (λ (l : List ℕ). filled_run l (pieces_at Body frames frame)) (sym (c.extend_reserved.ensures.items ∙ ap (λ (l : List ℕ). run ++ l) (c.as_slice.ensures ∙ c.head-head.ensures)))
