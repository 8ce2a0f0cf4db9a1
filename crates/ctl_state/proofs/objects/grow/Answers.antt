use Rattle.std.proofs.Common.{arith}
use Rattle.ctl_state.proofs.KeptLemmas.{so_on_err}
use Rattle.ctl_state.proofs.objects.grow.Goals as goal

pub returns-clause-number : goal.returns-clause-number
returns-clause-number c = c.in_ok-id.ensures.number

pub returns-clause-ok : goal.returns-clause-ok
returns-clause-ok c = c.in_ok-id.ensures.ok

pub returns-clause-detail_room : goal.returns-clause-detail_room
returns-clause-detail_room c = let room = c.in_ok-reserve.ensures.ok in omega (arith, room)

pub returns-clause-list_room : goal.returns-clause-list_room
returns-clause-list_room c = let room = c.in_ok-reserve-2.ensures.ok in omega (arith, room)

pub returns-in_err-id-clause-err : goal.returns-in_err-id-clause-err
returns-in_err-id-clause-err c = so_on_err _ _ c.in_err-id.ensures.err
