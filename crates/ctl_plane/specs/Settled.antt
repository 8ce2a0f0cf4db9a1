-- The pipes that were settled in these events, each by the end that read it, with its counts (own choice, after libzmq's `pipe_t`).
use Rattle.std.specs.Prelude.{List, [], ◌∷◌, Option, Some, None, flat_map}
use Rattle.zq_base.specs.declared.ids.EndId.{EndId}
use Rattle.zq_base.specs.declared.ids.Settled.{Settled}
use Rattle.spec_control.specs.declared.letter.Word.{Word}
use Rattle.spec_control.specs.declared.letter.Word.TheVariants.{Own, Plug, TermReq, Term, TermAck, PipeBind, PipeTerm, PipeTermAck, Stop, Reap}
use Rattle.spec_control.specs.declared.entry.Did.{Did}
use Rattle.spec_control.specs.declared.entry.Did.TheVariants.{Asked, Delivered, Delimited}
use Rattle.ctl_plane.specs.declared.settled.PipeCounts.{PipeCounts}

-- the counts that were told, if any
abbrev pub counted : EndId → Option Settled → List PipeCounts
counted e None = []
counted e (Some counts) = record { end = e; counts = counts } ∷ []

-- by a letter, which the end was told that it may go
abbrev pub settled_by : Word → Option Settled → List PipeCounts
settled_by (Own child) counts = []
settled_by (Plug end) counts = []
settled_by (TermReq child) counts = []
settled_by Term counts = []
settled_by (TermAck child) counts = []
settled_by (PipeBind e peer) counts = []
settled_by (PipeTerm e) counts = []
settled_by (PipeTermAck e) counts = counted e counts
settled_by Stop counts = []
settled_by (Reap o) counts = []

module _ {N S : Type 0} where
  -- in an event
  abbrev pub settled_of : Did N S → List PipeCounts
  settled_of (Asked req reply h) = []
  settled_of (Delivered slot letter h) = settled_by letter.word h.settled
  settled_of (Delimited e h) = []

  -- in all of these, in order
  abbrev pub settled_in : List (Did N S) → List PipeCounts
  settled_in events = flat_map settled_of events
