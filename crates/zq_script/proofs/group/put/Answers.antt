use Rattle.std.proofs.lemmas.Result.{on_ok_weaker}
use Rattle.zq_script.proofs.group.put.Goals as goal

pub returns-in-Socket : goal.returns-in-Socket
returns-in-Socket c = on_ok_weaker c.put_first.result (λ h rest k. rw c.in-Socket.is (h rest c.in-Socket.field-0 k)) c.put_first.ensures.socket

pub returns-in-Closed : goal.returns-in-Closed
returns-in-Closed c = on_ok_weaker c.put_first-in-Closed.result (λ h rest k. rw c.in-Closed.is (h rest c.in-Closed.field-0 k)) c.put_first-in-Closed.ensures.closed
