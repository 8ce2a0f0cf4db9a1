use Rattle.std.proofs.Common.{ℕ, List, length, sym, ap, arith}
use Rattle.std.proofs.lemmas.List.{length-take-le}
use Rattle.zmtp_engine.proofs.stream_decoder.StreamDecoder.said.Goals as goal

pub slice_bounds-result-end : goal.slice_bounds-result-end
slice_bounds-result-end c = sym (length-take-le 64 c.as_slice-said.result.now (omega (arith, c.requires.long, ap (λ (l : List ℕ). length l) c.as_slice-said.ensures)))
