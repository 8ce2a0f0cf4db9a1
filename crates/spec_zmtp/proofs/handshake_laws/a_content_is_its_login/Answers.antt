use Rattle.spec_zmtp.proofs.CommandLemmas.{decode_login-encode_login}
use Rattle.spec_zmtp.proofs.handshake_laws.a_content_is_its_login.Goals as goal

pub returns : goal.returns
returns c = decode_login-encode_login
