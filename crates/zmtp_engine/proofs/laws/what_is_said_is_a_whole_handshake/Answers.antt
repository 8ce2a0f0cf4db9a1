use Rattle.zmtp_engine.proofs.FittingLemmas.{fitting_handshake}
use Rattle.zmtp_engine.proofs.laws.what_is_said_is_a_whole_handshake.Goals as goal

pub returns : goal.returns
returns c = λ opts other octets said f is known. fitting_handshake opts other octets said f is known
