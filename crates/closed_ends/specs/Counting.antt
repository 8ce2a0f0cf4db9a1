-- What joining the halves of a pipe tells, of which the reading half is a closed socket's end's (own choice, after libzmq's `pipe_t`).
use Rattle.std.specs.Prelude.{List}
use Rattle.zq_base.specs.declared.ids.EndId.{EndId}
use Rattle.zq_base.specs.declared.ids.Settled.{Settled}
use Rattle.msg_pipe.specs.Known.{Known}
use Rattle.end_table.specs.Counting.{counts_with}
use Rattle.closed_ends.specs.declared.sockets.ClosedSocket.{ClosedSocket}
use Rattle.closed_ends.specs.Has.{all_ends, input_in}

module _ {S O I N : Type 0} (K : Known S O I N) where
  -- a writing half joined with the reading half of an end of closed sockets
  abbrev pub counts_of : S → List (ClosedSocket N O I) → EndId → O → Settled
  counts_of pipes ss e writer = counts_with K pipes writer (input_in (all_ends ss) e)
