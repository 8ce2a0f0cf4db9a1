use Rattle.spec_zmtp.proofs.CommandLemmas.{encode_command-decode_command}
use Rattle.spec_zmtp.proofs.handshake_laws.a_decoded_command_has_the_body.Goals as goal

pub returns : goal.returns
returns c = encode_command-decode_command
