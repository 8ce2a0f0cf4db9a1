use Rattle.std.proofs.Common.{◌≡◌, reverse, take, drop, vec_capacity}
use Rattle.req_rep.proofs.envelope.move_front.Given as goal

-- so many frames were moved, and the others are the other way round
abbrev pub invariant-moves : goal.invariant-moves
invariant-moves l = record {
  moved : l.into.items ≡ take l._moved l.fn.frames.items;
  rest : l.frames.items ≡ reverse (drop l._moved l.fn.frames.items);
  capacity : vec_capacity l.into ≡ vec_capacity l.fn.into;
}
