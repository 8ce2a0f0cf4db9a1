use Rattle.req_rep.proofs.EnvelopeLemmas.{Passes-none}
use Rattle.req_rep.proofs.envelope.envelope_len.Goals as goal

pub frames-init : goal.frames-init
frames-init c = Passes-none c.args.frames.now
