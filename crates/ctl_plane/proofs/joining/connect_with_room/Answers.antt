use Rattle.ctl_plane.proofs.MakingLemmas.{listed_back}
use Rattle.std.specs.Prelude.{refl}
use Rattle.ctl_state.proofs.KeptLemmas.{so_on_err}
use Rattle.ctl_moves.proofs.BindingLemmas.{stays_itself}
use Rattle.ctl_moves.proofs.TurnLemmas.{keeps_same}
use Rattle.ctl_plane.proofs.joining.connect_with_room.Goals as goal

pub returns-in-Err-clause-kept : goal.returns-in-Err-clause-kept
returns-in-Err-clause-kept g c = listed_back c.args.events.now c.reserve.new.self c.release.new.self 9 c.in_ok-reserve.ensures.ok c.release.ensures

pub connect_pair-requires-clause-may : goal.connect_pair-requires-clause-may
connect_pair-requires-clause-may g c = c.requires.may

pub connect_pair-requires-clause-calm : goal.connect_pair-requires-clause-calm
connect_pair-requires-clause-calm g c = c.requires.calm

pub connect_pair-requires-clause-makes : goal.connect_pair-requires-clause-makes
connect_pair-requires-clause-makes g c = c.requires.makes

pub returns-in-Ok-clause-ok : goal.returns-in-Ok-clause-ok
returns-in-Ok-clause-ok g c = c.in-Ok.ensures.ok

pub returns-in-Ok-clause-room : goal.returns-in-Ok-clause-room
returns-in-Ok-clause-room g c = c.in_ok-reserve.ensures.ok

pub returns-in-Err-clause-err : goal.returns-in-Err-clause-err
returns-in-Err-clause-err g c = c.in-Err.ensures.err

pub returns-in-Err-clause-stays : goal.returns-in-Err-clause-stays
returns-in-Err-clause-stays g c = c.in-Err.ensures.stays

pub returns-in-Err-clause-keeps : goal.returns-in-Err-clause-keeps
returns-in-Err-clause-keeps g c = c.in-Err.ensures.keeps

pub returns-in-Err-clause-heard : goal.returns-in-Err-clause-heard
returns-in-Err-clause-heard g c = c.in-Err.ensures.heard

pub returns-in_err-reserve-clause-err : goal.returns-in_err-reserve-clause-err
returns-in_err-reserve-clause-err g c = so_on_err _ _ refl

pub returns-in_err-reserve-clause-kept : goal.returns-in_err-reserve-clause-kept
returns-in_err-reserve-clause-kept g c = so_on_err _ _ c.in_err-reserve.ensures.err

pub returns-in_err-reserve-clause-stays : goal.returns-in_err-reserve-clause-stays
returns-in_err-reserve-clause-stays g c = so_on_err _ _ (stays_itself (g.H.Holder.holding c.args.holder.now) c.args.o.first.0)

pub returns-in_err-reserve-clause-heard : goal.returns-in_err-reserve-clause-heard
returns-in_err-reserve-clause-heard g c = so_on_err _ _ refl

pub returns-in_err-reserve-clause-keeps : goal.returns-in_err-reserve-clause-keeps
returns-in_err-reserve-clause-keeps g c = so_on_err _ _ (keeps_same (g.H.Holder.holding c.args.holder.now))
