use Rattle.ctl_plane.proofs.MakingLemmas.{listed_back}
use Rattle.std.specs.Prelude.{refl}
use Rattle.ctl_state.proofs.KeptLemmas.{so_on_err}
use Rattle.ctl_plane.proofs.connecting.wait_with_room.Goals as goal

pub returns-in-Err-clause-kept : goal.returns-in-Err-clause-kept
returns-in-Err-clause-kept g c = listed_back c.args.events.now c.reserve.new.self c.release.new.self 1 c.in_ok-reserve.ensures.ok c.release.ensures

pub wait-requires-clause-there : goal.wait-requires-clause-there
wait-requires-clause-there g c = c.requires.there

pub wait-requires-clause-copy : goal.wait-requires-clause-copy
wait-requires-clause-copy g c = c.requires.copy

pub returns-in-Ok-clause-ok : goal.returns-in-Ok-clause-ok
returns-in-Ok-clause-ok g c = c.in-Ok.ensures.ok

pub returns-in-Ok-clause-room : goal.returns-in-Ok-clause-room
returns-in-Ok-clause-room g c = c.in_ok-reserve.ensures.ok

pub returns-in-Err-clause-err : goal.returns-in-Err-clause-err
returns-in-Err-clause-err g c = c.in-Err.ensures.err

pub returns-in_err-reserve-clause-err : goal.returns-in_err-reserve-clause-err
returns-in_err-reserve-clause-err g c = so_on_err _ _ refl

pub returns-in_err-reserve-clause-kept : goal.returns-in_err-reserve-clause-kept
returns-in_err-reserve-clause-kept g c = so_on_err _ _ c.in_err-reserve.ensures.err
