-- Who got the command of an event, and whose other end was asked by it (own choice).
use Rattle.std.specs.Prelude.{◌-◌, List, Option, Some, None, length, slice_get}
use Rattle.zq_base.specs.declared.ids.EndId.{EndId}
use Rattle.zq_base.specs.declared.ids.ObjId.{ObjId}
use Rattle.spec_control.specs.declared.letter.Word.{Word}
use Rattle.spec_control.specs.declared.letter.Word.TheVariants.{Own, Plug, TermReq, Term, TermAck, PipeBind, PipeTerm, PipeTermAck, Stop, Reap}
use Rattle.spec_control.specs.declared.entry.Did.{Did}
use Rattle.spec_control.specs.declared.entry.Did.TheVariants.{Asked, Delivered, Delimited}

module _ {N S : Type 0} where
  -- the object that gets the command of a delivery
  abbrev pub addressee_of : Did N S → Option ObjId
  addressee_of (Asked req reply h) = None
  addressee_of (Delivered slot letter h) = Some letter.to
  addressee_of (Delimited e h) = None

  abbrev pub addressee_if : Option (Did N S) → Option ObjId
  addressee_if None = None
  addressee_if (Some did) = addressee_of did

  -- and so in the last of these events
  abbrev pub last_addressee : List (Did N S) → Option ObjId
  last_addressee events = addressee_if (slice_get events (length events - 1))

-- the end whose other end was asked, where a command says that
abbrev pub asked_by : Word → Option EndId
asked_by (PipeTerm e) = Some e
asked_by (Own child) = None
asked_by (Plug end) = None
asked_by (TermReq child) = None
asked_by Term = None
asked_by (TermAck child) = None
asked_by (PipeBind e peer) = None
asked_by (PipeTermAck e) = None
asked_by Stop = None
asked_by (Reap socket) = None

module _ {N S : Type 0} where
  abbrev pub asked_with : Did N S → Option EndId
  asked_with (Asked req reply h) = None
  asked_with (Delivered slot letter h) = asked_by letter.word
  asked_with (Delimited e h) = None

  abbrev pub asked_if : Option (Did N S) → Option EndId
  asked_if None = None
  asked_if (Some did) = asked_with did

  -- and so by the command of the last of these events
  abbrev pub last_asked : List (Did N S) → Option EndId
  last_asked events = asked_if (slice_get events (length events - 1))
