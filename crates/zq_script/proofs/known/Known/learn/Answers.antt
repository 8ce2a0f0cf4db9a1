use Rattle.std.proofs.lemmas.Result.{on_ok_weaker}
use Rattle.zq_script.proofs.known.Known.learn.Goals as goal

pub returns-in-Socket-clause-knows : goal.returns-in-Socket-clause-knows
returns-in-Socket-clause-knows c = on_ok_weaker c.add_socket.result (λ h learned k. rw c.in-Socket.is (h learned k)) c.add_socket.ensures.knows
