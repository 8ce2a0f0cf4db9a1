-- What a core promises of all that was done through it, and what a script's play over it on one thread is (own choice).
use Rattle.std.specs.Prelude.{◌≡◌, ◌≤◌, ℕ, List, [], map}
use Rattle.std.specs.List.{AllByRecursion}
use Rattle.zq_base.specs.Ends.{PipeId}
use Rattle.spec_pattern.specs.PipeStep.{AreExact, most_commits}
use Rattle.spec_control.specs.declared.entry.Item.{Item}
use Rattle.spec_control.specs.Control.{begun}
use Rattle.spec_control.specs.ControlRun.{IsControlRun, after_all}
use Rattle.spec_control.specs.Names.{AreNamed}
use Rattle.spec_control.specs.Has.{AreBy}
use Rattle.spec_control.specs.Moments.{moments_from}
use Rattle.spec_run.specs.declared.journal.ActorLines.{ActorLines}
use Rattle.spec_run.specs.declared.script.ActorScript.{ActorScript}
use Rattle.spec_run.specs.Script.{Script}
use Rattle.spec_run.specs.Act.{moments_in}
use Rattle.spec_run.specs.OpenSocket.{OpenSock}
use Rattle.spec_run.specs.Standing.{standing_before}
use Rattle.spec_run.specs.OwnedRun.{AreCountedBy, IsRun, every_pipe, pipe_capacity}
use Rattle.spec_run.specs.InTurns.{Turned, IsInTurns, IsOneThread}
use Rattle.spec_run.specs.Journal.{actors_shown, row_shown}
use Rattle.zq_world.specs.Piece.{Piece, acts_in, pipe_steps}
use Rattle.zq_world.specs.Stepping.{lines_of}
use Rattle.zq_world.specs.declared.actor.Actor.{Actor}
use Rattle.zq_world.specs.OneSided.{OneSided}
use Rattle.zq_world.specs.Shown.{row_in_pieces}
use Rattle.zq_world.specs.Turning.{standings}
use Rattle.zq_world.specs.GoesInTurns.{run_of}

module _ {N S : Type 0} where
  -- these pieces are those of a control run with one I/O worker, whose items are these in order, and their steps at pipes are made in that order, each side by one caller at a time
  pub record IsOrderly (pieces : List (Piece N S)) (order : List (Item N S)) : Type 0 where
    pub same : moments_in (acts_in pieces) ≡ moments_from (begun 1) order
    pub control : IsControlRun (begun 1) order
    pub «named» : AreNamed [] order
    pub asked : AreBy [] (begun 1) order
    -- each step follows from those before it, at pipes of capacities that a pipe can have
    pub exact : AreExact (pipe_capacity (after_all order (begun 1))) [] (pipe_steps pieces)
    pub small : (p : PipeId) → pipe_capacity (after_all order (begun 1)) p ≤ most_commits
    pub sided : OneSided pieces
    -- each settlement counts what was committed and taken
    pub settled : AreCountedBy (pipe_steps pieces) (after_all order (begun 1)).settlements

-- what an actor of a script has said before its first line: nothing, under its name
abbrev pub lines_before : ActorScript → ActorLines
lines_before actor = record { name = actor.name; entries = [] }

module _ {O : Type 0} where
  -- an actor has made no socket
  abbrev pub HasNone : Actor O → Type 0
  HasNone a = a.seats ≡ []

  -- the actors of a script, before their first lines
  pub record AreNew (script : Script) (actors : List (Actor O)) : Type 0 where
    pub stand : (as_open : O → OpenSock) → standings as_open actors ≡ map standing_before script
    pub said : map lines_of actors ≡ map lines_before script
    pub each : AllByRecursion HasNone actors

module _ {N S : Type 0} where
  -- a script was played so: by a run of it in turns and on one thread, in which the control plane has these items in order, where each actor said these lines, and each pipe's row is that of these pieces
  pub record PlaysSo (script : Script) (seed limit : ℕ) (lines : List ActorLines) (pieces : List (Piece N S)) (order : List (Item N S)) : Type 0 where
    pub turned : Turned N S
    pub is_run : IsRun script 1 every_pipe (run_of script turned order)
    pub in_turns : IsInTurns script 1 limit turned (run_of script turned order)
    pub one_thread : IsOneThread seed script 1 turned (run_of script turned order)
    pub lines_are : lines ≡ actors_shown script (run_of script turned order).workers
    pub rows : (p : PipeId) → row_in_pieces (after_all order (begun 1)) pieces p ≡ row_shown (after_all order (begun 1)) (run_of script turned order) p
