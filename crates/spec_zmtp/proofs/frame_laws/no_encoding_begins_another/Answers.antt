use Rattle.spec_zmtp.proofs.FrameLemmas.{one_frame}
use Rattle.spec_zmtp.proofs.frame_laws.no_encoding_begins_another.Goals as goal

pub returns : goal.returns
returns c = λ f g x y p q e. let h = one_frame f g x y p q e in (h.frame, h.rest)
