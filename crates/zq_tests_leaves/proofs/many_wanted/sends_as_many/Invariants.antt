use Rattle.sock_core.specs.Holding.{lent_in}
use Rattle.sock_core.specs.Lent.{IsWhole}
use Rattle.msg_pipe.specs.contracts.plain_pipes.PlainPipesPipes.TheImpl.{ghosts}
use Rattle.zq_tests_leaves.proofs.many_wanted.sends_as_many.Given as goal

-- the socket fits its pipes
abbrev pub invariant-numbers : goal.invariant-numbers
invariant-numbers l = IsWhole ghosts.known (lent_in l.pipes l.core)
