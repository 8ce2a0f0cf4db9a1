-- What a call on messages, and a look at an end, leave alone of a socket (own choice).
use Rattle.std.specs.Prelude.{◌≡◌, ℕ}
use Rattle.zq_base.specs.declared.ids.EndId.{EndId}
use Rattle.msg_pipe.specs.Known.{Known}
use Rattle.msg_pipe.specs.declared.pipes.Front.{Front}
use Rattle.end_table.specs.declared.table.EndTable.{EndTable}
use Rattle.end_table.specs.Places.{IsHeldAs}
use Rattle.end_table.specs.Looking.{LooksAt}
use Rattle.any_sock.specs.declared.any_sock.AnySock.{AnySock}
use Rattle.sock_core.specs.declared.sock.SockCore.{SockCore}
use Rattle.sock_core.specs.Lent.{Lent, lent}

module _ {S W N O I : Type 0} where
  -- a socket of any kind with its ends and their pipes
  abbrev pub lent_in : S → SockCore AnySock W N O I → Lent S N O I
  lent_in pipes s = lent pipes s.ends.rows.items s.ends.places.items s.kind

-- its ends stay where they are, and all else of it but its kind's state
pub record KeepsElse {C W N O I : Type 0} (old new : SockCore C W N O I) : Type 0 where
  pub places : new.ends.places ≡ old.ends.places
  pub settled : new.ends.settled ≡ old.ends.settled
  pub number : new.number ≡ old.number
  pub is_open : new.is_open ≡ old.is_open
  pub stopped : new.stopped ≡ old.stopped
  pub reads : new.reads ≡ old.reads
  pub waker : new.waker ≡ old.waker
  pub room : new.room ≡ old.room
  pub turns : new.turns ≡ old.turns
  pub sealed : new.sealed ≡ old.sealed
  pub joins : new.joins ≡ old.joins
  pub heard : new.heard ≡ old.heard
  pub way : new.way ≡ old.way

-- all of a socket but its kind's state and the rows of its ends is as it was
abbrev pub KeepsRest : {C W N O I : Type 0} → (old new : SockCore C W N O I) → Type 0
KeepsRest old new = new ≡ record old { kind = new.kind; ends = record old.ends { rows = new.ends.rows } }

-- one look at the front of the pipe that this end reads found this, and all else of the end and of the others is as it was
pub record LooksHere {S N O I : Type 0} (K : Known S O I N) (e : EndId) (found : Front) (old_pipes : S) (old : EndTable N O I) (new_pipes : S) (new : EndTable N O I) : Type 0 where
  pub place : ℕ
  pub is_held : IsHeldAs old.places.items place e
  pub looks : LooksAt K old_pipes new_pipes place found old new

-- all else of a socket but its ends stays
pub record KeepsButEnds {C W N O I : Type 0} (old new : SockCore C W N O I) : Type 0 where
  pub number : new.number ≡ old.number
  pub is_open : new.is_open ≡ old.is_open
  pub stopped : new.stopped ≡ old.stopped
  pub reads : new.reads ≡ old.reads
  pub kind : new.kind ≡ old.kind
  pub waker : new.waker ≡ old.waker
  pub room : new.room ≡ old.room
  pub turns : new.turns ≡ old.turns
  pub sealed : new.sealed ≡ old.sealed
  pub joins : new.joins ≡ old.joins
  pub heard : new.heard ≡ old.heard
  pub way : new.way ≡ old.way
