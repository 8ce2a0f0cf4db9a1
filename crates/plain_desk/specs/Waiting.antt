-- One of the reaper's mailboxes, in which a command waits (own choice).
use Rattle.std.specs.Prelude.{◌≡◌, ◌≢◌, ◌==◌, ℕ, true, []}
use Rattle.std.specs.List.{list_any}
use Rattle.zq_base.specs.declared.ids.SlotId.{SlotId}
use Rattle.spec_control.specs.Moments.{reaper_slots}
use Rattle.ctl_plane.specs.Past.{control_of}
use Rattle.plain_desk.specs.Lent.{Lent}
use Rattle.plain_desk.specs.Reaping.{HearsFrom}

module _ {G N S : Type 0} where
  -- a mailbox is the reaper's: the root's, or that of a closed socket that it took over
  abbrev pub IsReapers : ℕ → Lent G N S → Type 0
  IsReapers slot d = list_any (λ k. k == slot) (reaper_slots (control_of d.past)) ≡ true

  -- and a command waits in it
  pub record WaitsAt (slot : SlotId) (d : Lent G N S) : Type 0 where
    pub mine : IsReapers slot.0 d
    pub some : (control_of d.past).boxes slot.0 ≢ []

  -- a command of such a mailbox was processed
  pub record HearsAt (slot : SlotId) (old new : Lent G N S) : Type 0 where
    pub mine : IsReapers slot.0 old
    pub hears : HearsFrom slot old new
