use Rattle.ctl_plane.proofs.MakingLemmas.{listed_back}
use Rattle.ctl_plane.proofs.making.make_with_room.Goals as goal

pub returns-in-Err-clause-back : goal.returns-in-Err-clause-back
returns-in-Err-clause-back g c = listed_back c.args.events.now c.reserve.new.self c.release.new.self 6 c.in_ok-reserve.ensures.ok c.release.ensures
