-- What is so of the rows where a command is the oldest of its mailbox: it is one that they say is on its way, and the first of its link (own choice, after libzmq's `command_t`).
use Rattle.std.specs.Prelude.{◌≡◌, ℕ, true, not, List, Some, None}
use Rattle.zq_base.specs.declared.ids.EndId.{EndId}
use Rattle.spec_control.specs.declared.end.EndEvent.TheVariants.{TermCame, AckCame}
use Rattle.spec_control.specs.declared.letter.Letter.{Letter}
use Rattle.spec_control.specs.declared.letter.Word.{Word}
use Rattle.spec_control.specs.declared.letter.Word.TheVariants.{Own, Plug, TermReq, Term, TermAck, PipeBind, PipeTerm, PipeTermAck, Stop, Reap}
use Rattle.spec_control.specs.declared.entry.Item.{Item}
use Rattle.spec_control.specs.PairPhase.{PairEvent, BindCame, Happens, may}
use Rattle.spec_control.specs.Row.{LinkEvent, OwnComes, PlugComes, TermComes, RequestComes, ReapComes, AckComes, StopComes, link_may}
use Rattle.spec_control.specs.Rows.{obj, pair, end_half}
use Rattle.spec_control.specs.Control.{Control, begun, owner_of}
use Rattle.spec_control.specs.ControlRun.{MayDeliver, after_all, IsControlRun}

-- an event between a child and this owner may happen
pub record ComesToOwner (c : Control) (at child : ℕ) (event : LinkEvent) : Type 0 where
  pub comes : link_may event (obj c.rows child) ≡ true
  pub owner : (obj c.rows child).owner ≡ Some at

-- an event of an object itself may happen
abbrev pub ComesTo : Control → ℕ → LinkEvent → Type 0
ComesTo c at event = link_may event (obj c.rows at) ≡ true

-- an event of an end of this object may happen
pub record ComesToEnd (c : Control) (at : ℕ) (e : EndId) (event : PairEvent) : Type 0 where
  pub comes : may event (end_half (pair c.rows e.pair.0) e.a) (end_half (pair c.rows e.pair.0) (not e.a)) ≡ true
  pub owner : owner_of c e ≡ at

-- what a command for this object wants
abbrev pub MayCome : Control → (at : ℕ) → Word → Type 0
MayCome c at (Own child) = ComesToOwner c at child.0 OwnComes
MayCome c at (Plug None) = ComesTo c at PlugComes
MayCome c at (Plug (Some e)) = ComesTo c at PlugComes × ComesToEnd c at e BindCame
MayCome c at (TermReq child) = ComesToOwner c at child.0 RequestComes
MayCome c at Term = ComesTo c at TermComes
MayCome c at (TermAck child) = ComesToOwner c at child.0 AckComes
MayCome c at (PipeBind e peer) = ComesToEnd c at e BindCame
MayCome c at (PipeTerm e) = ComesToEnd c at e (Happens TermCame)
MayCome c at (PipeTermAck e) = ComesToEnd c at e (Happens AckCame)
MayCome c at Stop = ComesTo c at StopComes
MayCome c at (Reap socket) = ComesToOwner c at socket.0 ReapComes

-- after each control run, whatever order commands were taken in
abbrev pub OldestMayCome : (N S : Type 0) → Type 0
OldestMayCome N S = (workers : ℕ) (items : List (Item N S)) → IsControlRun (begun workers) items →
    let c = after_all items (begun workers) in (slot : ℕ) (letter : Letter) → MayDeliver c slot letter → MayCome c letter.to.0 letter.word
