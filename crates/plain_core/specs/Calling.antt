-- Calls of an open socket through a core, with what tells of them (zmq_close(3), zmq_msg_send(3), zmq_msg_recv(3); own choice).
use Rattle.std.specs.Prelude.{◌≡◌, ◌++◌, ℕ, false, List, [], Option}
use Rattle.spec_pattern.specs.declared.answers.Skip.{Skip}
use Rattle.spec_run.specs.declared.answer.Answer.{Answer}
use Rattle.spec_run.specs.declared.script.Call.{Call}
use Rattle.spec_run.specs.Act.{Act}
use Rattle.spec_run.specs.Event.{acts_said}
use Rattle.msg_pipe.specs.Known.{Known}
use Rattle.desk.specs.declared.given.Given.{Given}
use Rattle.any_sock.specs.declared.any_sock.AnySock.{AnySock}
use Rattle.sock_core.specs.declared.sock.SockCore.{SockCore}
use Rattle.line_calls.specs.Lines.{CallsLine}
use Rattle.line_calls.specs.Steps.{LeadsSome, ClosesOpen}
use Rattle.ctl_plane.specs.Past.{control_of}
use Rattle.core_laws.specs.Sealed.{AllAsked}
use Rattle.plain_desk.specs.Lent.{Lent}
use Rattle.line_socket.specs.Owned.{LentParts, parts, view_of}
use Rattle.line_socket.specs.Leads.{Leads}
use Rattle.core_laws.specs.Calls.{for_caller}
use Rattle.zq_world.specs.declared.marks.PieceMark.{PieceMark}
use Rattle.zq_world.specs.Marks.{piece_marks}
use Rattle.plain_core.specs.Sound.{Core}

-- each end that was put on its way to the reaper, and whose pipe is told to be sealed, was asked
abbrev pub SendsAsked : {N O I T : Type 0} → (old new : Lent (Given N O I) N T) → Type 0
SendsAsked {N} {O} {I} old new = (ends : List (Given N O I)) → new.past.given ≡ old.past.given ++ ends → AllAsked (control_of new.past) ends

-- what tells of it stands behind what was told
pub record IsTold (tells : List PieceMark → Type 0) (old new : List PieceMark) : Type 0 where
  pub more : List PieceMark
  pub so : tells more
  pub behind : new ≡ old ++ more

module _ {W N O I S T : Type 0} (K : Known S O I N) where
  -- these tell of a line's call by a caller
  pub record TellsLine (k : ℕ) (asks : Call) (answer : Answer) (told told_now : List Skip) (old new : LentParts W N O I S T) (marks : List PieceMark) : Type 0 where
    pub called : CallsLine (Leads K) view_of asks answer told told_now old new
    pub are : marks ≡ piece_marks k false (called.pump ++ called.acts) called.skips

  -- these tell of a close
  pub record TellsClose (k : ℕ) (old new : LentParts W N O I S T) (marks : List PieceMark) : Type 0 where
    pub closes : ClosesOpen (Leads K) view_of old new
    pub are : marks ≡ piece_marks k false (acts_said closes.closed) []

  -- and these of what was done until there was no memory
  pub record TellsActs (k : ℕ) (old new : LentParts W N O I S T) (marks : List PieceMark) : Type 0 where
    pub some : LeadsSome (Leads K) old new
    pub are : marks ≡ piece_marks k false some.acts []

  -- ---- what a core's own proofs say of it

  -- a socket with the core's pipes, lent to this caller
  abbrev pub lent_of : Core S (Given N O I) N T → ℕ → Option (SockCore AnySock W N O I) → LentParts W N O I S T
  lent_of v k s = parts v.pipes (for_caller k v.desk) s []

  -- by these acts, which dropped these messages, the calls of a caller's open socket led from the one to the other, and were told
  pub record CallsOf (k : ℕ) (s t : Option (SockCore AnySock W N O I)) (acts : List (Act N T)) (skips : List Skip) (v w : Core S (Given N O I) N T) : Type 0 where
    pub since : ℕ
    pub led : Leads K (lent_of v k s) acts (record { pipes = w.pipes; desk = w.desk; socket = t; since = since })
    pub told : w.marks ≡ v.marks ++ piece_marks k false acts skips
