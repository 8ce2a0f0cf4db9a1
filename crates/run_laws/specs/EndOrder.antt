-- The order in which the objects of a run end (own choice, after libzmq's `own_t`).
use Rattle.std.specs.Prelude.{◌≡◌, ◌<◌, ◌≤◌, ◌==◌, ℕ, Bool, true, List, ◌∷◌, ◌++◌, Some, count_by}
use Rattle.std.specs.List.{list_any}
use Rattle.zq_base.specs.Ends.{PipeId}
use Rattle.zq_base.specs.declared.ids.ObjId.{ObjId}
use Rattle.spec_control.specs.declared.entry.Did.{Did}
use Rattle.spec_control.specs.declared.entry.Did.TheVariants.{Asked, Delivered, Delimited}
use Rattle.spec_control.specs.declared.request.Req.{Req}
use Rattle.spec_control.specs.declared.request.Req.TheVariants.{Socket, AskTerm, Bind, Connect, Unbind, Disconnect, Close, Accepted, Shaken, AskEnd, AskOver, OutputOver}
use Rattle.spec_control.specs.Stage.{has_ended}
use Rattle.spec_control.specs.Rows.{obj}
use Rattle.spec_control.specs.Control.{Control, next_object}
use Rattle.spec_run.specs.Script.{Script}
use Rattle.spec_run.specs.OwnedRun.{OwnedRun, IsRun, control_at_end}

-- the object that a request may end: whose output is over, and else the root
abbrev pub asker_of : Req → ℕ
asker_of (Socket kind options) = 0
asker_of AskTerm = 0
asker_of (Bind o at) = 0
asker_of (Connect o at) = 0
asker_of (Unbind o at) = 0
asker_of (Disconnect o at) = 0
asker_of (Close o) = 0
asker_of (Accepted o) = 0
asker_of (Shaken o peer) = 0
asker_of (AskEnd e reason) = 0
asker_of (AskOver o) = 0
asker_of (OutputOver o) = o.0

-- the object that an event may end
abbrev pub actor_of : {N S : Type 0} → Did N S → ℕ
actor_of (Asked req reply h) = asker_of req
actor_of (Delivered slot letter h) = letter.to.0
actor_of (Delimited e h) = 0

-- the object has this number
abbrev pub is_numbered : ℕ → ObjId → Bool
is_numbered i o = i == o.0

-- the objects in the order of their ending
pub record EndInOrder (c : Control) : Type 0 where
  -- each is there once at the most
  pub once : (i : ℕ) → count_by (is_numbered i) c.ended ≤ 1
  -- those that have ended are there, and no others
  pub there : (i : ℕ) → i < next_object c → has_ended (obj c.rows i).stage ≡ true → list_any (is_numbered i) c.ended ≡ true
  pub only : (i : ℕ) → list_any (is_numbered i) c.ended ≡ true → has_ended (obj c.rows i).stage ≡ true
  -- each object that another owns has ended before it
  pub owned_first : (before after : List ObjId) (o : ObjId) → c.ended ≡ before ++ o ∷ after → (i : ℕ) → (obj c.rows i).owner ≡ Some o.0 →
      list_any (is_numbered i) before ≡ true

-- in each run of a script
abbrev pub ObjectsEndInOrder : (N S : Type 0) → Type 0
ObjectsEndInOrder N S = (script : Script) (io : ℕ) (counts : PipeId → Bool) (run : OwnedRun N S) → IsRun script io counts run →
    EndInOrder (control_at_end io run)
