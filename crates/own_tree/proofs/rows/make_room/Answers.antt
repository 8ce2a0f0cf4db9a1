use Rattle.std.proofs.Common.{arith}
use Rattle.own_tree.proofs.rows.make_room.Goals as goal

pub returns-clause-row_room : goal.returns-clause-row_room
returns-clause-row_room c = let room = c.in_ok-reserve.ensures.ok in omega (arith, room)

pub returns-clause-tally_room : goal.returns-clause-tally_room
returns-clause-tally_room c = let room = c.in_ok-reserve-2.ensures.ok in omega (arith, room)

pub returns-clause-list_room : goal.returns-clause-list_room
returns-clause-list_room c = let room = c.in_ok-reserve-3.ensures.ok in omega (arith, room)
