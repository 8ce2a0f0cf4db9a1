use Rattle.spec_zmtp.proofs.HandshakeLemmas.{handshake-more}
use Rattle.spec_zmtp.proofs.handshake_laws.one_item_more.Goals as goal

pub returns : goal.returns
returns c = handshake-more
