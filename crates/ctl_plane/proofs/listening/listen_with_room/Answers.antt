use Rattle.ctl_plane.proofs.MakingLemmas.{listed_back}
use Rattle.ctl_plane.proofs.listening.listen_with_room.Goals as goal

pub returns-in-Err-clause-kept : goal.returns-in-Err-clause-kept
returns-in-Err-clause-kept g c = listed_back c.args.events.now c.reserve.new.self c.release.new.self 7 c.in_ok-reserve.ensures.ok c.release.ensures
