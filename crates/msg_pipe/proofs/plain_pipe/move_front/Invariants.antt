use Rattle.std.proofs.Common.{◌≡◌, ◌+◌, ◌++◌, take, drop}
use Rattle.std.specs.VecDeque.{deque_len, deque_capacity}
use Rattle.msg_pipe.proofs.plain_pipe.move_front.Given as goal

-- the first items are moved
abbrev pub invariant-items : goal.invariant-items
invariant-items g l = record {
  moved : l.to.items ≡ l.fn.to.items ++ take l._moved l.fn.from.items;
  rest : l.from.items ≡ drop l._moved l.fn.from.items;
  len : deque_len l.to ≡ deque_len l.fn.to + l._moved;
  left : deque_len l.from + l._moved ≡ deque_len l.fn.from;
  capacity : deque_capacity l.to ≡ deque_capacity l.fn.to;
}
