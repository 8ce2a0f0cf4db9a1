-- A call of the reaper is told as one piece more of a core (own choice, after libzmq's `reaper_t`).
use Rattle.std.specs.Prelude.{◌≡◌, ◌++◌, true, ℕ, List, []}
use Rattle.spec_pattern.specs.PipeStep.{PipeStep}
use Rattle.spec_control.specs.Moments.{moments_from}
use Rattle.spec_run.specs.Act.{Act, moments_in, steps_in}
use Rattle.spec_run.specs.OwnedRun.{AreCountedBy}
use Rattle.msg_pipe.specs.Known.{Known}
use Rattle.ctl_plane.specs.Past.{control_of}
use Rattle.zq_world.specs.Piece.{AddsPiece}
use Rattle.zq_world.specs.CoreCalls.{IsOnlyReaper}
use Rattle.socket_laws.specs.Sides.{is_shut, AreAtEnds}
use Rattle.socket_laws.specs.Standing.{opens_in}
use Rattle.zq_world.specs.declared.marks.PieceMark.{PieceMark}
use Rattle.zq_world.specs.Marks.{piece_marks}
use Rattle.plain_desk.specs.Lent.{GrowsBy, IsOneOrder, Lent}
use Rattle.core_laws.specs.Done.{PastIn}
use Rattle.core_laws.specs.Stands.{NamesMade}
use Rattle.core_laws.specs.Told.{told_in, TaleStands}

module _ {S O I N : Type 0} (K : Known S O I N) where
  -- the caller's items more are those in the acts; the steps past, with the acts' own, stand and count; and the acts' steps are at ends of sockets that nobody has open
  pub record ReapDone {G T : Type 0} (old new : Lent G N T) (before behind : S) (acts : List (Act N T)) : Type 0 where
    pub grows : GrowsBy old new
    pub said : moments_in acts ≡ moments_from (control_of old.past) grows.more
    pub past : (past : List PipeStep) → PastIn K old before past → PastIn K new behind (past ++ steps_in acts)
    pub counted : (past : List PipeStep) → PastIn K old before past → AreCountedBy past (control_of old.past).settlements → AreCountedBy (past ++ steps_in acts) (control_of new.past).settlements
    pub at_ends : AreAtEnds (control_of new.past) (λ i. is_shut (opens_in new.items i)) acts

  -- there is one I/O worker, each item is told, and what was done stands behind it, which is one piece more
  pub record IsReapTold {G T : Type 0} (k : ℕ) (acts : List (Act N T)) (old new : Lent G N T) (behind : S) (marks now : List PieceMark) : Type 0 where
    pub tale : TaleStands K new behind now
    pub adds : AddsPiece k true acts [] (told_in old marks) (told_in new now)

  -- so it is where no other caller reaped
  abbrev pub ReapsAreTold : (G T : Type 0) → Type 0
  ReapsAreTold G T = (old new : Lent G N T) (before behind : S) (acts : List (Act N T)) → IsOneOrder old → IsOneOrder new → ReapDone old new before behind acts → NamesMade new →
      (marks now : List PieceMark) → now ≡ marks ++ piece_marks old.caller true acts [] → IsOnlyReaper old.caller (told_in old marks) → TaleStands K old before marks → IsReapTold old.caller acts old new behind marks now
