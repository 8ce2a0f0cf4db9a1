-- Messages that one call commits behind the first (own choice).
use Rattle.std.specs.Prelude.{◌≡◌, ◌≤◌, length}
use Rattle.zq_base.specs.Message.{Frames}
use Rattle.spec_pattern.specs.Pipe.{HasNoRoom}
use Rattle.spec_pattern.specs.Half.{Writing, Commits}
use Rattle.msg_pipe.specs.declared.pipes.PutIn.{PutIn}
use Rattle.msg_pipe.specs.declared.pipes.PutIn.TheVariants as put

-- behind others the pipe takes no further message; the look that found it is not counted, and at the limit there is none
pub record TakesNoMore (v w : Writing) : Type 0 where
  pub committed : w.committed ≡ v.committed
  pub parts : w.parts ≡ v.parts
  pub sealed : w.sealed ≡ v.sealed
  pub capacity : w.capacity ≡ v.capacity
  pub freed : v.freed ≤ w.freed
  pub full : HasNoRoom (length w.committed) w.freed w.capacity
  pub full_looks : w.full_looks ≡ v.full_looks

-- the message is committed behind others, or there is no room and it comes back
abbrev pub PutsMore : Writing → Frames → PutIn → Writing → Type 0
PutsMore v m put.Ok w = Commits v m w
PutsMore v m (put.Full back) w = (back ≡ m) × TakesNoMore v w
