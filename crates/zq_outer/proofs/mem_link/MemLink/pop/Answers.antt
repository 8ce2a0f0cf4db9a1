use Rattle.std.proofs.Common.{◌≤◌, ◌++◌, ◌∙◌, ℕ, List, length, take, drop, Some, ap, sym, arith}
use Rattle.std.proofs.lemmas.Grind.{common_steps}
use Rattle.std.proofs.lemmas.List.{take-append-le}
use Rattle.zq_outer.specs.Mates.{heard_at}
use Rattle.zq_outer.specs.declared.mem_link.MemLink.{MemLink}
use Rattle.zq_outer.proofs.mem_link.MemLink.pop.Goals as goal

pub returns-then-count-gt0-clause-bytes : goal.returns-then-count-gt0-clause-bytes
returns-then-count-gt0-clause-bytes c =
    let taken = c.take_waiting-count in
    let inside : taken.result.0 ≤ length taken.new.buf = grind (arith, common_steps) in
    let front = take-append-le taken.result.0 taken.new.buf (drop c.room-most.result c.args.buf.now) inside in
    ap Some (ap (λ (l : MemLink). heard_at l) c.gave.ensures ∙ taken.ensures.heard
    ∙ ap (λ (l : MemLink). heard_at l ++ take taken.result.0 taken.new.buf) c.room-most.ensures.others
    ∙ ap (λ (l : List ℕ). heard_at c.args.self.now ++ l) (sym front))
