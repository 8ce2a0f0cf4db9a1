use Rattle.req_rep.proofs.EnvelopeLemmas.{Passes}
use Rattle.req_rep.proofs.envelope.envelope_len.Given as goal

-- none of the frames so far is empty
abbrev pub invariant-frames : goal.invariant-frames
invariant-frames l = Passes l.i l.frames
