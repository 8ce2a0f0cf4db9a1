use Rattle.spec_zmtp.proofs.CommandLemmas.{encode_login-decode_login}
use Rattle.spec_zmtp.proofs.handshake_laws.a_decoded_login_has_the_content.Goals as goal

pub returns : goal.returns
returns c = encode_login-decode_login
