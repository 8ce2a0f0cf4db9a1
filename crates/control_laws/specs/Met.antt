-- Which cells of the table of an end's life are met in a control run (own choice, after libzmq's `pipe_t`).
use Rattle.std.specs.Prelude.{◌≡◌, ℕ, Bool, true, List, Option, Some, None}
use Rattle.zq_base.specs.declared.ids.EndId.{EndId}
use Rattle.spec_control.specs.declared.end.EndEvent.TheVariants.{Asked, TermCame, DelimiterSeen, AckCame}
use Rattle.spec_control.specs.declared.end.Reason.{Reason}
use Rattle.spec_control.specs.declared.letter.Letter.{Letter}
use Rattle.spec_control.specs.declared.letter.Word.{Word}
use Rattle.spec_control.specs.declared.letter.Word.TheVariants.{Own, Plug, TermReq, Term, TermAck, PipeBind, PipeTerm, PipeTermAck, Stop, Reap}
use Rattle.spec_control.specs.declared.entry.Item.{Item}
use Rattle.spec_control.specs.Place.{is_here}
use Rattle.spec_control.specs.PairPhase.{PairEvent, BindCame, Happens, meets}
use Rattle.spec_control.specs.Control.{Control, begun, place_of}
use Rattle.spec_control.specs.ControlRun.{MayDeliver, MayDelimit, after_all, IsControlRun}

-- an end, and what happens to it
pub record EndMeets : Type 0 where
  pub end : EndId
  pub event : PairEvent

-- what a command does to an end, if anything
abbrev pub met_by : Word → Option EndMeets
met_by (Own child) = None
met_by (Plug None) = None
met_by (Plug (Some e)) = Some (record { end = e; event = BindCame })
met_by (TermReq child) = None
met_by Term = None
met_by (TermAck child) = None
met_by (PipeBind e peer) = Some (record { end = e; event = BindCame })
met_by (PipeTerm e) = Some (record { end = e; event = Happens TermCame })
met_by (PipeTermAck e) = Some (record { end = e; event = Happens AckCame })
met_by Stop = None
met_by (Reap socket) = None

-- the cell is none of those that are never met, nor one in which nobody looks
abbrev pub MeetsCell : Control → EndMeets → Type 0
MeetsCell c m = meets m.event (place_of c m.end) ≡ true

-- whatever comes to an end in a state
pub record NeverMeets (c : Control) : Type 0 where
  -- a command that is taken from a mailbox
  pub commands : (slot : ℕ) (letter : Letter) (m : EndMeets) → MayDeliver c slot letter → met_by letter.word ≡ Some m → MeetsCell c m
  -- a delimiter that is met
  pub delimiters : (e : EndId) → MayDelimit c e → MeetsCell c (record { end = e; event = Happens DelimiterSeen })
  -- an ask, which comes to an end that is there alone
  pub asks : (e : EndId) (reason : Reason) (delay : Bool) → is_here (place_of c e) ≡ true → MeetsCell c (record { end = e; event = Happens (Asked reason delay) })

-- in no control run a cell is met that is never to be met
abbrev pub NeverCellsAreNotMet : (N S : Type 0) → Type 0
NeverCellsAreNotMet N S = (workers : ℕ) (items : List (Item N S)) → IsControlRun (begun workers) items → NeverMeets (after_all items (begun workers))
