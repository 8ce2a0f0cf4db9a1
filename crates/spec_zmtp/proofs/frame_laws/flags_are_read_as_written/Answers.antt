use Rattle.std.proofs.Common.{ℕ, ap, ◌∙◌}
use Rattle.spec_zmtp.specs.FrameFlags.{flags_at}
use Rattle.spec_zmtp.proofs.FlagLemmas.{flags_at-flags_octet, octet_of_flags, flags_of}
use Rattle.spec_zmtp.proofs.frame_laws.flags_are_read_as_written.Goals as goal

pub returns : goal.returns
returns c = λ octet kind long. (λ e. octet_of_flags octet (flags_of kind long) e, λ e. ap (λ (o : ℕ). flags_at o) e ∙ flags_at-flags_octet kind long)
