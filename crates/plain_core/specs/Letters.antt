-- Letters that are taken one by one through a core, with what tells of them (own choice).
use Rattle.std.specs.Prelude.{◌≡◌, ◌≢◌, ℕ, true, false, List, []}
use Rattle.zq_base.specs.declared.ids.SlotId.{SlotId}
use Rattle.msg_pipe.specs.Known.{Known}
use Rattle.zq_world.specs.declared.marks.PieceMark.{PieceMark}
use Rattle.zq_world.specs.Marks.{piece_marks}
use Rattle.ctl_plane.specs.Past.{control_of}
use Rattle.line_calls.specs.Lines.{TakesOne}
use Rattle.line_socket.specs.Leads.{Leads}
use Rattle.line_socket.specs.Owned.{box_of, view_of, LentParts}
use Rattle.reaper.specs.Steps.{acts_at, ReapParts, ReapedAt}

-- a letter waits in the mailbox of a socket that is lent
pub record HasLetter {W N O I S T : Type 0} (l : LentParts W N O I S T) : Type 0 where
  pub some : (control_of l.desk.past).boxes (box_of l) ≢ []

-- these tell of a letter that was taken for an open socket
pub record TellsFetch {W N O I S T : Type 0} (K : Known S O I N) (k : ℕ) (old new : LentParts W N O I S T) (marks : List PieceMark) : Type 0 where
  pub taken : TakesOne (Leads K) view_of old new
  pub are : marks ≡ piece_marks k false taken.acts []

-- these tell of a letter of one of the reaper's mailboxes
pub record TellsReapAt {S N O I T : Type 0} (K : Known S O I N) (k : ℕ) (slot : SlotId) (old new : ReapParts S N O I T) (marks : List PieceMark) : Type 0 where
  pub reaped : ReapedAt K slot old new
  pub are : marks ≡ piece_marks k true (acts_at K slot old new reaped) []
