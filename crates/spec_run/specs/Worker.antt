-- The workers of a run and what the deeds of each are: the actors, the reaper of closed sockets, the I/O workers, and the conductor, who reads the clock and asks the root (own choice, after libzmq's `reaper_t` and `io_thread_t`).
use Rattle.std.specs.Prelude.{◌≡◌, ◌==◌, ℕ, true, List, [], ◌∷◌, ◌++◌, map, replicate}
use Rattle.std.specs.List.{list_any}
use Rattle.spec_control.specs.declared.request.Req.TheVariants.{AskTerm}
use Rattle.spec_control.specs.declared.request.Reply.{Reply}
use Rattle.spec_control.specs.declared.entry.SeenEmpty.TheVariants.{Nothing, Reapers}
use Rattle.spec_control.specs.Moments.{Moment, reaper_slots}
use Rattle.spec_run.specs.declared.script.ActorScript.{ActorScript}
use Rattle.spec_run.specs.Script.{Script}
use Rattle.spec_run.specs.Act.{Act, Deed, Tries, Shuts, Fetches, Idles, Works, Looks, AsksRoot, Reads}
use Rattle.spec_run.specs.Event.{IsRequest, IsLookAt, TakesLetter, acts_said}
use Rattle.spec_run.specs.Standing.{ActorStanding, standing_before, LocalRun}

pub data Role : Type 0 where
  ActsBy : ActorScript → Role
  Reaps : Role
  Serves : Role
  Conducts : Role

-- the workers by their numbers, which are those of their callers: the actors in script order, the reaper, so many I/O workers, and the conductor
abbrev pub roles : Script → (io : ℕ) → List Role
roles script io = map (λ actor. ActsBy actor) script ++ Reaps ∷ (replicate io Serves ++ Conducts ∷ [])

module _ {N S : Type 0} where
  -- the root is asked
  pub record AsksTheRoot (acts : List (Act N S)) : Type 0 where
    pub reply : Reply
    pub asked : Moment N S
    pub request : IsRequest AskTerm reply asked
    pub acts_are : acts ≡ acts_said asked

  -- one letter of a mailbox of the reaper is taken
  pub record ReapsLetter (slot : ℕ) (acts : List (Act N S)) : Type 0 where
    pub takes : TakesLetter slot acts
    pub has : list_any (λ k. k == slot) (reaper_slots takes.taken.found) ≡ true

  abbrev pub ReapsSo : Deed N S → Type 0
  ReapsSo (Fetches slot acts) = ReapsLetter slot acts
  ReapsSo (Idles m) = IsLookAt Reapers m
  ReapsSo (Tries t) = ⊥
  ReapsSo (Shuts acts) = ⊥
  ReapsSo (Works acts) = ⊥
  ReapsSo (Looks m) = ⊥
  ReapsSo (AsksRoot acts) = ⊥
  ReapsSo (Reads now) = ⊥

  abbrev pub ConductsSo : Deed N S → Type 0
  ConductsSo (Looks m) = IsLookAt Nothing m
  ConductsSo (AsksRoot acts) = AsksTheRoot acts
  ConductsSo (Reads now) = Unit {0}
  ConductsSo (Tries t) = ⊥
  ConductsSo (Shuts acts) = ⊥
  ConductsSo (Fetches slot acts) = ⊥
  ConductsSo (Idles m) = ⊥
  ConductsSo (Works acts) = ⊥

  abbrev pub EachDoes : (Deed N S → Type 0) → List (Deed N S) → Type 0
  EachDoes Does [] = Unit {0}
  EachDoes Does (d ∷ ds) = Does d × EachDoes Does ds

  -- deeds are those of a worker of this role; an I/O worker does nothing while there are no links
  abbrev pub IsWorkOf : Role → List (Deed N S) → Type 0
  IsWorkOf (ActsBy actor) ds = (end : ActorStanding) × LocalRun (standing_before actor) ds end
  IsWorkOf Reaps ds = EachDoes ReapsSo ds
  IsWorkOf Serves ds = ds ≡ []
  IsWorkOf Conducts ds = EachDoes ConductsSo ds
