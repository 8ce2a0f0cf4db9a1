-- What the calls of the reaper leave to the owners of other ends, whose pipes stand in the same table (own choice).
use Rattle.std.specs.Prelude.{◌≡◌, ◌++◌, true, List, All, drop, is_some, length}
use Rattle.msg_pipe.specs.Known.{Known, IsThere, IsElse}
use Rattle.end_table.specs.declared.table.Place.{Place}
use Rattle.closed_ends.specs.declared.sockets.ClosedSockets.{ClosedSockets}
use Rattle.closed_ends.specs.Has.{all_ends}

module _ {S O I N : Type 0} (K : Known S O I N) where
  -- a pipe that no end of closed sockets writes, or reads
  abbrev pub NoneWrites : ClosedSockets N O I → N → Type 0
  NoneWrites c n = All (λ g. is_some g.out ≡ true → IsElse K n g.written) (all_ends c.sockets.items)

  abbrev pub NoneReads : ClosedSockets N O I → N → Type 0
  NoneReads c n = All (λ g. IsElse K n (K.in_name g.input)) (all_ends c.sockets.items)

  -- a pipe of another name than those that the ends wrote at the beginning or that came since
  pub record IsNoneWritten (from to : ClosedSockets N O I) (n : N) : Type 0 where
    pub first : NoneWrites from n
    pub since : (more : List (Place N I × Unit {0})) → to.came.items ≡ from.came.items ++ more → All (λ x. IsElse K n x.0.written) more

  -- or read
  pub record IsNoneRead (from to : ClosedSockets N O I) (n : N) : Type 0 where
    pub first : NoneReads from n
    pub since : (more : List (Place N I × Unit {0})) → to.came.items ≡ from.came.items ++ more → All (λ x. IsElse K n x.0.read) more

  -- than those that were settled
  abbrev pub IsUnsettled : ClosedSockets N O I → N → Type 0
  IsUnsettled c n = All (λ x. IsElse K n x.0) c.settled.items

  -- Calls of the reaper, from one state of its ends to another, leave the pipes that are not its own: those that it did not settle are there, and what is known of halves that are not of its ends' pipes is as it was.
  pub record Leaves (old : S) (from : ClosedSockets N O I) (new : S) (to : ClosedSockets N O I) : Type 0 where
    pub written : (n : N) → IsUnsettled to n → IsThere K old n → IsThere K new n
    pub read : (n : N) → IsNoneRead from to n → IsThere K old n → IsThere K new n
    pub outs : (h : O) → IsThere K old (K.out_name h) → IsNoneWritten from to (K.out_name h) → IsUnsettled to (K.out_name h) → K.writing new h ≡ K.writing old h
    pub ins : (h : I) → IsThere K old (K.in_name h) → IsNoneRead from to (K.in_name h) → K.reading new h ≡ K.reading old h
    pub writes : (n : N) → IsNoneWritten from to n → NoneWrites to n
    pub reads : (n : N) → IsNoneRead from to n → NoneReads to n
    pub came : to.came.items ≡ from.came.items ++ drop (length from.came.items) to.came.items
    pub settled : (n : N) → IsUnsettled to n → IsUnsettled from n
