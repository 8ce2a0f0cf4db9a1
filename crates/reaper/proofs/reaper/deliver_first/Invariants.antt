use Rattle.std.specs.Prelude.{◌≡◌}
use Rattle.ctl_plane.specs.Past.{control_of}
use Rattle.closed_ends.specs.Coming.{IsBrought}
use Rattle.reaper.proofs.reaper.deliver_first.Given as goal

-- the stretch begins with these pipes and closed sockets, and a closed socket may bring ends of its own that were on their way
abbrev pub ghosts-deliver_lent : goal.ghosts-deliver_lent
ghosts-deliver_lent g a = record {
  began = λ s t. (s ≡ a.pipes) × (t ≡ a.closed);
  brings = IsBrought (control_of a.desk.now.past) a.desk.now.past.given;
}
