use Rattle.zmtp_mech.proofs.PeerLemmas.{welcome_some, welcome_none}
use Rattle.zmtp_mech.proofs.steps.is_welcome.Goals as goal

pub returns-in-Some : goal.returns-in-Some
returns-in-Some c = welcome_some c.args.logins.now c.args.content.now c.in-Some.user.now c.in-Some.pass.now c.has_login.result c.in-Some.ensures.some c.has_login.ensures

pub returns-in-None : goal.returns-in-None
returns-in-None c = welcome_none c.args.logins.now c.args.content.now c.in-None.ensures.none
