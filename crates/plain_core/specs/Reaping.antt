-- A call of the reaper through a core, with what tells of it (own choice, after libzmq's `reaper_t`).
use Rattle.std.specs.Prelude.{◌≡◌, ℕ, true, List, []}
use Rattle.msg_pipe.specs.Known.{Known}
use Rattle.zq_world.specs.declared.marks.PieceMark.{PieceMark}
use Rattle.zq_world.specs.Marks.{piece_marks}
use Rattle.desk.specs.declared.given.Given.{Given}
use Rattle.core_laws.specs.Counting.{TablesGoOn}
use Rattle.core_laws.specs.Reaps.{ReapsAreTold}
use Rattle.core_laws.specs.Taken.{KeepsOnlyTaken}
use Rattle.reaper.specs.Going.{ReapsGoOn}
use Rattle.reaper.specs.Steps.{acts_reaped, ReapParts, ReapedSo}

-- these tell of it
pub record TellsReap {S N O I T : Type 0} (K : Known S O I N) (k : ℕ) (old new : ReapParts S N O I T) (marks : List PieceMark) : Type 0 where
  pub reaped : ReapedSo K old new
  pub are : marks ≡ piece_marks k true (acts_reaped K old new reaped) []

-- what is so of the calls of a reaper, whichever core they are made through: they go on and are told; who only reaps has no socket; and no drop is told
pub record ReapLaws (W : Type 0) {S N O I : Type 0} (K : Known S O I N) (T : Type 0) : Type 0 where
  pub go : ReapsGoOn W K T
  pub told : ReapsAreTold K (Given N O I) T
  pub only : KeepsOnlyTaken (Given N O I) N T
  pub tables : TablesGoOn N T
