use Rattle.std.proofs.Common.{rules}
use Rattle.zq_session.proofs.listener.Listener.may_accept.Goals as goal

pub returns-in-Some-true-clause-yes : goal.returns-in-Some-true-clause-yes
returns-in-Some-true-clause-yes c = λ e. record { listens = search rules; has_room = e }
