use Rattle.std.specs.Prelude.{refl}
use Rattle.ctl_state.proofs.KeptLemmas.{so_on_err}
use Rattle.ctl_plane.proofs.FulfilPlaneLemmas.{back_itself}
use Rattle.ctl_plane.proofs.MakingLemmas.{listed_back}
use Rattle.ctl_plane.proofs.dialing.dial_with_room.Goals as goal

pub dial-requires-clause-may : goal.dial-requires-clause-may
dial-requires-clause-may g c = c.requires.may

pub dial-requires-clause-calm : goal.dial-requires-clause-calm
dial-requires-clause-calm g c = c.requires.calm

pub dial-requires-clause-makes : goal.dial-requires-clause-makes
dial-requires-clause-makes g c = c.requires.makes

pub returns-in-Ok-clause-ok : goal.returns-in-Ok-clause-ok
returns-in-Ok-clause-ok g c = c.in-Ok.ensures.ok

pub returns-in-Ok-clause-room : goal.returns-in-Ok-clause-room
returns-in-Ok-clause-room g c = c.in_ok-reserve.ensures.ok

pub returns-in-Err-clause-err : goal.returns-in-Err-clause-err
returns-in-Err-clause-err g c = c.in-Err.ensures.err

pub returns-in-Err-clause-kept : goal.returns-in-Err-clause-kept
returns-in-Err-clause-kept g c = listed_back c.args.events.now c.reserve.new.self c.release.new.self 17 c.in_ok-reserve.ensures.ok c.release.ensures

pub returns-in-Err-clause-back : goal.returns-in-Err-clause-back
returns-in-Err-clause-back g c = c.in-Err.ensures.back

pub returns-in_err-reserve-clause-err : goal.returns-in_err-reserve-clause-err
returns-in_err-reserve-clause-err g c = so_on_err _ _ refl

pub returns-in_err-reserve-clause-kept : goal.returns-in_err-reserve-clause-kept
returns-in_err-reserve-clause-kept g c = so_on_err _ _ c.in_err-reserve.ensures.err

pub returns-in_err-reserve-clause-back : goal.returns-in_err-reserve-clause-back
returns-in_err-reserve-clause-back g c = so_on_err _ _ (back_itself _ c.args.o.first.0 (g.H.Holder.holding c.args.holder.now))
