use Rattle.std.proofs.Common.{arith, sym, ◌∙◌}
use Rattle.zmtp_frame.proofs.ScanLemmas.{short_head, long_head}
use Rattle.zmtp_frame.proofs.scan.head_in.Goals as goal

pub returns-then-flags : goal.returns-then-flags
returns-then-flags c =
    rw c.from_be_bytes-size.ensures (long_head c.args.octets.now _ (λ i. omega (arith, c.type_inv.octets i)) (sym c.read_flags.ensures ∙ c.in-Some.is) c.if-flags.true c.if-octets-lt9.false)

pub returns : goal.returns
returns c = short_head c.args.octets.now _ (λ i. omega (arith, c.type_inv.octets i)) (sym c.read_flags.ensures ∙ c.in-Some.is) c.if-flags.false c.if-octets-lt2.false
