-- Who has the sockets at whose ends calls made their steps, and that a further call may follow (own choice, after libzmq's `pipe_t`, which one thread writes and one reads).
use Rattle.std.specs.Prelude.{◌≡◌, ◌<◌, ◌==◌, ℕ, Bool, true, false, List, ◌++◌, Option, Some, None}
use Rattle.std.specs.List.{AllByRecursion}
use Rattle.zq_base.specs.declared.ids.EndId.{EndId}
use Rattle.zq_base.specs.Ends.{other_end}
use Rattle.spec_pattern.specs.PipeStep.{PipeStep, Commit, FullLook, RoomLook, Take, EmptyLook, DelimiterLook, WaitingLook, Seal}
use Rattle.spec_pattern.specs.declared.answers.Skip.{Skip}
use Rattle.end_table.specs.Runs.{is_seal}
use Rattle.spec_control.specs.declared.entry.Item.{Item}
use Rattle.spec_control.specs.Control.{Control, begun, next_object, next_pair, owner_of}
use Rattle.spec_control.specs.ControlRun.{after_all, IsControlRun}
use Rattle.spec_control.specs.Moments.{Moment, left_by}
use Rattle.spec_run.specs.Act.{Act, steps_in}
use Rattle.spec_run.specs.Event.{acts_said}
use Rattle.run_laws.specs.CapacitiesStay.{pipe_at}
use Rattle.zq_world.specs.Piece.{Piece, piece_of, pipe_steps}
use Rattle.zq_world.specs.CoreCalls.{IsOnlyReaper}
use Rattle.zq_world.specs.OneSided.{OneSided}

-- the end that a step is made at
abbrev pub step_end : PipeStep → EndId
step_end (Commit p m) = p
step_end (FullLook p) = p
step_end (RoomLook p) = p
step_end (Take p m) = other_end p
step_end (EmptyLook p) = other_end p
step_end (DelimiterLook p) = other_end p
step_end (WaitingLook p) = other_end p
step_end (Seal p) = p

-- a step is at an end of a pair that has its number, and, but for a delimiter, that of such an object
pub record IsDoneAt (c : Control) (may : ℕ → Type 0) (s : PipeStep) : Type 0 where
  pub made : (step_end s).pair.0 < next_pair c
  pub owner : is_seal s ≡ false → may (owner_of c (step_end s))

-- the caller that has the open socket of an object, if any
abbrev pub OpenSockets : Type 0
OpenSockets = ℕ → Option ℕ

-- nobody has it
abbrev pub is_shut : Option ℕ → Bool
is_shut None = true
is_shut (Some k) = false

-- no socket is opened again
abbrev pub OpensGoOn : Control → (old new : OpenSockets) → Type 0
OpensGoOn c old new = (o k : ℕ) → o < next_object c → new o ≡ Some k → old o ≡ Some k

module _ {N S : Type 0} where
  -- each step of these acts
  abbrev pub AreDoneAt : Control → (ℕ → Type 0) → List (Act N S) → Type 0
  AreDoneAt c may acts = AllByRecursion (IsDoneAt c may) (steps_in acts)

  -- each step of these acts is at an end of such an object
  abbrev pub AreAtEnds : Control → (ℕ → Bool) → List (Act N S) → Type 0
  AreAtEnds c may acts = AreDoneAt c (λ i. may i ≡ true) acts

  -- an actor's call at an end of an object: if anybody has its socket, it is the one that called; where the reaper's was, nobody has
  pub record SideStands (opens : OpenSockets) (y : Piece N S) (o : ℕ) : Type 0 where
    pub own : y.reaps ≡ false → (k : ℕ) → opens o ≡ Some k → y.by ≡ k
    pub shut : y.reaps ≡ true → opens o ≡ None

  -- and so each call at each end
  abbrev pub SidesStand : Control → OpenSockets → List (Piece N S) → Type 0
  SidesStand c opens pieces = AllByRecursion (λ y. AreDoneAt c (SideStands opens y) y.acts) pieces

  -- a further call, from one state of the control plane to another: at the ends of an open socket of its caller, at those of closed sockets by the reaper, or at none
  pub data CallMayCome (c d : Control) (opens now : OpenSockets) (pieces : List (Piece N S)) (caller : ℕ) (reaps : Bool) (acts : List (Act N S)) : Type 0 where
    by_owner : (o : ℕ) → reaps ≡ false → o < next_object c → opens o ≡ Some caller → AreAtEnds d (λ i. i == o) acts → CallMayCome c d opens now pieces caller reaps acts
    by_reaper : reaps ≡ true → IsOnlyReaper caller pieces → AreAtEnds d (λ i. is_shut (now i)) acts → CallMayCome c d opens now pieces caller reaps acts
    at_no_end : AreAtEnds d (λ i. false) acts → CallMayCome c d opens now pieces caller reaps acts

-- over a control run: a call that may come leaves each side one caller's at a time
pub record SidesStandOn (N S : Type 0) : Type 0 where
  pub calls : (io : ℕ) (items more : List (Item N S)) → IsControlRun (begun io) items → IsControlRun (after_all items (begun io)) more →
      let c = after_all items (begun io) in let d = after_all more c in
      (opens now : OpenSockets) (pieces : List (Piece N S)) (caller : ℕ) (reaps : Bool) (acts : List (Act N S)) (skips : List Skip) →
      OneSided pieces → SidesStand c opens pieces → OpensGoOn c opens now → CallMayCome c d opens now pieces caller reaps acts →
      OneSided (pieces ++ piece_of caller reaps acts skips) × SidesStand d now (pieces ++ piece_of caller reaps acts skips)
  -- steps stay where they are done
  pub stay : (io : ℕ) (items more : List (Item N S)) → IsControlRun (begun io) items → IsControlRun (after_all items (begun io)) more →
      (may : ℕ → Bool) (acts : List (Act N S)) → AreAtEnds (after_all items (begun io)) may acts → AreAtEnds (after_all more (after_all items (begun io))) may acts
  -- an item, with its delimiters, is done at no end
  pub said : (io : ℕ) (items : List (Item N S)) → IsControlRun (begun io) items → (m : Moment N S) → left_by m ≡ after_all items (begun io) →
      (may : ℕ → Bool) → AreAtEnds (after_all items (begun io)) may (acts_said m)
  -- acts behind acts
  pub both : (c : Control) (may : ℕ → Bool) (first then : List (Act N S)) → AreAtEnds c may first → AreAtEnds c may then → AreAtEnds c may (first ++ then)
  -- all steps are at pipes of pairs that have their numbers
  pub made : (c : Control) (opens : OpenSockets) (pieces : List (Piece N S)) → SidesStand c opens pieces → AllByRecursion (λ s. (pipe_at s).pair.0 < next_pair c) (pipe_steps pieces)
