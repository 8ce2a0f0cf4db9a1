use Rattle.std.proofs.Common.{arith, sym, ◌∙◌}
use Rattle.zmtp_frame.proofs.ScanLemmas.{short_whole, long_whole}
use Rattle.zmtp_frame.proofs.scan.whole_head.Goals as goal

pub returns-then-flags : goal.returns-then-flags
returns-then-flags c = (
  omega arith,
  omega (arith, c.if-piece-lt9.false),
  rw c.from_be_bytes-size.ensures (long_whole c.args.piece.now _ (λ i. omega (arith, c.type_inv.piece i)) (sym c.read_flags.ensures ∙ c.in-Some.is) c.if-flags.true c.if-piece-lt9.false),
)

pub returns : goal.returns
returns c =
    (omega arith, omega (arith, c.if-piece-lt2.false), short_whole c.args.piece.now _ (λ i. omega (arith, c.type_inv.piece i)) (sym c.read_flags.ensures ∙ c.in-Some.is) c.if-flags.false c.if-piece-lt2.false)
