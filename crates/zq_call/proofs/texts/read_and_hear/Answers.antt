use Rattle.std.proofs.Common.{refl, rules}
use Rattle.zq_call.specs.declared.request.Request.TheVariants as request
use Rattle.zq_call.proofs.Says.{says_heard}
use Rattle.zq_call.proofs.texts.read_and_hear.Goals as goal

pub returns-in-Err-Failed : goal.returns-in-Err-Failed
returns-in-Err-Failed g c = λ words clock asks. ((request.Hear c.args.kind c.args.login, asks), search rules, c.in_ok-from_slice-in-Err-Failed.ensures.items, refl)

pub returns : goal.returns
returns g c = λ words clock asks. says_heard g.X.Runs.prints g.X.Runs.refuses c.in_ok-said.ensures.0 c.in_ok-said.said.0 words _ _ _ c.in_ok-said.ensures.1
    (c.args.kind, c.args.login, asks, (c.in-Ok.octets.items, c.in-Ok.ensures.ended, rw c.deref.ensures.value at c.in_ok-said.ensures.2), refl)
