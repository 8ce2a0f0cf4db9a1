use Rattle.spec_zmtp.proofs.CommandLemmas.{decode_command-encode_command}
use Rattle.spec_zmtp.proofs.handshake_laws.a_body_is_its_command.Goals as goal

pub returns : goal.returns
returns c = decode_command-encode_command
