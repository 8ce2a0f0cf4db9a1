use Rattle.std.proofs.Common.{rules}
use Rattle.zmtp_meta.proofs.ReadingLemmas.{login_some, login_short, login_none}
use Rattle.zmtp_meta.proofs.login.read_login.Goals as goal

pub returns-clause-some : goal.returns-clause-some
returns-clause-some c = login_some c.args.content.now c.split_login.result (search rules) c.split_login.ensures

pub returns-clause-short : goal.returns-clause-short
returns-clause-short c = login_short c.args.content.now c.split_login.result (search rules) c.split_login.ensures

pub returns-clause-none : goal.returns-clause-none
returns-clause-none c = login_none c.args.content.now c.split_login.result c.split_login.ensures
