-- What calls of a socket that its caller has open did, by their acts (own choice).
use Rattle.std.specs.Prelude.{◌≡◌, ◌==◌, ◌++◌, List, ℕ}
use Rattle.spec_pattern.specs.PipeStep.{PipeStep}
use Rattle.spec_control.specs.Names.{name_of}
use Rattle.spec_run.specs.Act.{Act, moments_in, steps_in}
use Rattle.spec_run.specs.OwnedRun.{AreCountedBy}
use Rattle.msg_pipe.specs.Known.{Known}
use Rattle.ctl_plane.specs.Past.{control_of}
use Rattle.socket_laws.specs.Sides.{AreAtEnds}
use Rattle.socket_laws.specs.Standing.{PastStands}
use Rattle.plain_desk.specs.Lent.{moments_of, GrowsBy, Lent}

module _ {S O I N G T : Type 0} (K : Known S O I N) where
  -- these steps made the pipes what they are, as the one order has them
  abbrev pub PastIn : Lent G N T → S → List PipeStep → Type 0
  PastIn d pipes past = PastStands K (control_of d.past) (name_of d.items) pipes past

  -- the caller's moments more are those in the acts; the steps past, with the acts' own, stand and count; and the acts' steps are at ends of the socket
  pub record ActsDone (o : ℕ) (old new : Lent G N T) (before behind : S) (acts : List (Act N T)) : Type 0 where
    pub grows : GrowsBy old new
    pub moments : moments_of new ≡ moments_of old ++ moments_in acts
    pub past : (past : List PipeStep) → PastIn old before past → PastIn new behind (past ++ steps_in acts)
    pub counted : (past : List PipeStep) → PastIn old before past → AreCountedBy past (control_of old.past).settlements → AreCountedBy (past ++ steps_in acts) (control_of new.past).settlements
    pub at_ends : AreAtEnds (control_of new.past) (λ i. i == o) acts
