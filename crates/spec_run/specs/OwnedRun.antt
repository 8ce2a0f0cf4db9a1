-- A run over sockets that are owned, closed and ended, on one thread or on many: each worker's steps, and the one order of the control plane (own choice).
use Rattle.std.specs.Prelude.{◌≡◌, ◌≤◌, ◌<◌, ◌+◌, ℕ, Bool, true, false, List, [], ◌∷◌, ◌++◌, Option, IsSome, find, flat_map, length, nat_lt}
use Rattle.std.specs.List.{list_all}
use mathlib.Core.List.{IsPrefix}
use Rattle.zq_base.specs.Ends.{PipeId, other_end}
use Rattle.zq_base.specs.declared.ids.ObjId.{ObjId}
use Rattle.zq_base.specs.declared.options.Options.{Options}
use Rattle.spec_pattern.specs.PipeStep.{PipeStep, FullLook, EmptyLook, DelimiterLook, WaitingLook, committed_to, taken_from}
use Rattle.spec_control.specs.declared.entry.Item.{Item}
use Rattle.spec_control.specs.Row.{Row, is_session}
use Rattle.spec_control.specs.Rows.{obj}
use Rattle.spec_control.specs.Control.{Control, Settlement, begun, is_end, owner_of}
use Rattle.spec_control.specs.ControlRun.{IsControlRun, after_all}
use Rattle.spec_control.specs.Names.{AreNamed}
use Rattle.spec_control.specs.Held.{caller_of}
use Rattle.spec_control.specs.Has.{AreBy}
use Rattle.spec_control.specs.Moments.{Moment, moments_from, moments_by}
use Rattle.spec_run.specs.Script.{Script}
use Rattle.spec_run.specs.Act.{Deed, all_acts, steps_in, moments_in}
use Rattle.spec_run.specs.Worker.{Role, roles, IsWorkOf}

-- the capacity of a pipe between two sockets is the writer's mark for sending and the reader's for receiving; between a socket and a session it is the socket's mark (zmq_setsockopt(3), ZMQ_SNDHWM and ZMQ_RCVHWM)
abbrev pub marks_by_sort : (writer_is_session reader_is_session : Bool) → Options → Options → ℕ
marks_by_sort true reader writer_has reader_has = reader_has.rcvhwm
marks_by_sort false true writer_has reader_has = writer_has.hwm
marks_by_sort false false writer_has reader_has = writer_has.hwm + reader_has.rcvhwm

abbrev pub marks_between : Row → Row → ℕ
marks_between writer reader = marks_by_sort (is_session writer.kind) (is_session reader.kind) writer.options reader.options

abbrev pub pipe_capacity : Control → PipeId → ℕ
pipe_capacity c p = marks_between (obj c.rows (owner_of c p)) (obj c.rows (owner_of c (other_end p)))

-- what remains of looks at a pipe under threads: a full look at n commits has n at least the capacity and needs n less the capacity takes by the end; an empty look at n takes needs n commits by the end; behind n takes a delimiter is found where n messages were committed at all, and a message where more were; no more are left by the end than there is room for
pub record LooksHoldAt (capacity : ℕ) (p : PipeId) (steps : List PipeStep) : Type 0 where
  pub full : (before after : List PipeStep) → steps ≡ before ++ FullLook p ∷ after →
      (capacity ≤ length (committed_to p before)) × (length (committed_to p before) ≤ length (taken_from p steps) + capacity)
  pub empty : (before after : List PipeStep) → steps ≡ before ++ EmptyLook p ∷ after →
      length (taken_from p before) ≤ length (committed_to p steps)
  pub «delimiter» : (before after : List PipeStep) → steps ≡ before ++ DelimiterLook p ∷ after →
      length (taken_from p before) ≡ length (committed_to p steps)
  pub «waiting» : (before after : List PipeStep) → steps ≡ before ++ WaitingLook p ∷ after →
      length (taken_from p before) < length (committed_to p steps)
  pub room : length (committed_to p steps) ≤ length (taken_from p steps) + capacity

-- all pipes count, as they do on one thread
abbrev pub every_pipe : PipeId → Bool
every_pipe p = true

-- how a pipe was settled, if it was
abbrev pub settlement_of : Control → PipeId → Option Settlement
settlement_of c p = find (λ s. is_end (other_end p) s.end) c.settlements

-- a pipe's counts are those of what these steps committed to it and took from it, and what is left has its reason
pub record IsCountedBy (steps : List PipeStep) (s : Settlement) : Type 0 where
  pub sent : s.counts.sent ≡ length (committed_to (other_end s.end) steps)
  pub got : s.counts.got ≡ length (taken_from (other_end s.end) steps)
  pub sum : s.counts.sent ≡ s.counts.got + s.counts.rest
  pub reason : 0 < s.counts.rest → IsSome s.reason

-- and so those of all settlements
abbrev pub AreCountedBy : List PipeStep → List Settlement → Type 0
AreCountedBy steps [] = Unit {0}
AreCountedBy steps (s ∷ more) = IsCountedBy steps s × AreCountedBy steps more

-- the deeds of each worker by its steps, and the items of the control plane in their one order
pub record OwnedRun (N S : Type 0) : Type 0 where
  pub workers : List (List (List (Deed N S)))
  pub order : List (Item N S)

module _ {N S : Type 0} where
  -- a worker's deeds, and those of all workers, one worker behind another
  abbrev pub deeds_in : List (List (Deed N S)) → List (Deed N S)
  deeds_in steps = flat_map (λ step. step) steps

  abbrev pub all_deeds : OwnedRun N S → List (Deed N S)
  all_deeds run = flat_map deeds_in run.workers

  abbrev pub all_steps : OwnedRun N S → List PipeStep
  all_steps run = steps_in (all_acts (all_deeds run))

  -- the control plane at the end
  abbrev pub control_at_end : (io : ℕ) → OwnedRun N S → Control
  control_at_end io run = after_all run.order (begun io)

  -- each worker does what its role asks
  abbrev pub AllWork : List Role → List (List (List (Deed N S))) → Type 0
  AllWork [] [] = Unit {0}
  AllWork [] (steps ∷ more) = ⊥
  AllWork (role ∷ others) [] = ⊥
  AllWork (role ∷ others) (steps ∷ more) = IsWorkOf role (deeds_in steps) × AllWork others more

  -- each worker's items are those of the order by its number, in order, with what they found there
  abbrev pub AreTold : ℕ → List (Moment N S) → List (List (List (Deed N S))) → Type 0
  AreTold k moments [] = Unit {0}
  AreTold k moments (steps ∷ more) = (moments_in (all_acts (deeds_in steps)) ≡ moments_by k moments) × AreTold (k + 1) moments more

  -- a settlement counts the steps of all workers
  abbrev pub IsSettledSo : OwnedRun N S → Settlement → Type 0
  IsSettledSo run s = IsCountedBy (all_steps run) s

  abbrev pub AllSettledSo : OwnedRun N S → List Settlement → Type 0
  AllSettledSo run settlements = AreCountedBy (all_steps run) settlements

  -- what a link is in a run; there are none yet
  abbrev pub HasLinkRun : ObjId → OwnedRun N S → Type 0
  HasLinkRun o run = Unit {0}

  -- the run of a script with so many I/O workers, where these pipes count
  pub record IsRun (script : Script) (io : ℕ) (counts : PipeId → Bool) (run : OwnedRun N S) : Type 0 where
    -- each worker's answers and drops follow from its own deeds
    pub «local» : AllWork (roles script io) run.workers
    -- what is taken from a pipe is a prefix of what is committed to it, and looks are borne out
    pub in_order : (p : PipeId) → counts p ≡ true → IsPrefix (taken_from p (all_steps run)) (committed_to p (all_steps run))
    pub looks : (p : PipeId) → counts p ≡ true → LooksHoldAt (pipe_capacity (control_at_end io run) p) p (all_steps run)
    -- the order is a control run, in which pipes go by their names, and each entry is by a caller that may make it
    pub control : IsControlRun (begun io) run.order
    pub named : AreNamed [] run.order
    pub asked : AreBy [] (begun io) run.order
    -- its items are the workers' own and nobody else's
    pub told : AreTold 0 (moments_from (begun io) run.order) run.workers
    pub nobody_else : list_all (λ item. nat_lt (caller_of item) (length run.workers)) run.order ≡ true
    pub links : (o : ObjId) → HasLinkRun o run
    -- each settled pipe has its counts, and each rest its reason
    pub ended : AllSettledSo run (control_at_end io run).settlements
