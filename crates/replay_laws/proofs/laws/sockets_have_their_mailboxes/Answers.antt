use Rattle.replay_laws.proofs.SlotLemmas.{sockets_have_their_boxes}
use Rattle.replay_laws.proofs.laws.sockets_have_their_mailboxes.Goals as goal

pub returns : goal.returns
returns c start = sockets_have_their_boxes _ _
