-- Worked links of a PAIR, by hand: one that shakes hands and carries a message each way, one that is cut in a message, and a message that is held.
use Rattle.std.specs.Prelude.{ℕ, true, false, List, [], ◌∷◌, ◌++◌, Some, codes}
use Rattle.zq_base.specs.Message.{Frames}
use Rattle.zq_base.specs.Ends.{PipeId}
use Rattle.zq_base.specs.declared.kind.Kind.TheVariants.{Pair}
use Rattle.zq_base.specs.declared.options.EngineOpts.{EngineOpts}
use Rattle.zq_base.specs.declared.options.Role.TheVariants.{Null}
use Rattle.zq_outer.specs.declared.link.LinkGot.TheVariants as got
use Rattle.zq_outer.specs.declared.link.LinkPut.TheVariants as put
use Rattle.spec_pattern.specs.PipeStep.{Commit, FullLook, Take, EmptyLook}
use Rattle.spec_zmtp.specs.declared.flags.FrameKind.TheVariants.{Command}
use Rattle.spec_zmtp.specs.FrameEncoding.{encode_frame}
use Rattle.spec_zmtp.specs.Greeting.{greeting_of}
use Rattle.spec_zmtp.specs.Metadata.{encode_command}
use Rattle.spec_zmtp.specs.OwnCommands.{our_ready}
use Rattle.spec_zmtp.specs.DecodedStream.{Decoded, Unfinished}
use Rattle.spec_link.specs.declared.row.LinkEnd.TheVariants.{Ended}
use Rattle.spec_link.specs.LinkAct.{LinkAct, Wire, Step, Writes, Reads}
use Rattle.spec_link.specs.LinkRun.{IsLinkRun}
use Rattle.spec_link.specs.Parts.{IsTake, IsWritePart, IsReadPart}
use Rattle.spec_link.specs.Rows.{IsWritten, IsLost, IsSessionRow, AreFates}

-- a PAIR without a name, and its READY
abbrev pub pair_side : EngineOpts
pair_side = record { kind = Pair; id = []; role = Null; logins = [] }

abbrev pub greeting : List ℕ
greeting = greeting_of Null

abbrev pub ready : List ℕ
ready = encode_frame Command (encode_command (our_ready pair_side))

-- the pipes: out of the socket, and into it
abbrev pub outward : PipeId
outward = record { pair = record { 0 = 1 }; a = true }

abbrev pub inward : PipeId
inward = record { pair = record { 0 = 1 }; a = false }

abbrev pub hello : Frames
hello = codes "hello" ∷ []

abbrev pub hi : Frames
hi = codes "hi" ∷ []

-- what is heard where the peer, a PAIR, says these messages
abbrev pub heard : List Frames → Decoded
heard messages = record {
  said = our_ready pair_side ∷ [];
  peer = Some (record { kind = Pair; identity = [] });
  messages = messages;
  outcome = Unfinished 0;
}

-- two turns: greetings, and READYs of 28 octets
abbrev pub shakes : List LinkAct
shakes =
    Wire (Writes (put.Took 64) greeting) ∷ Wire (Reads (got.Bytes 64) greeting)
    ∷ Wire (Writes (put.Took 28) ready) ∷ Wire (Reads (got.Bytes 28) ready) ∷ []

-- a third turn: a message is taken; one is read and put
abbrev pub third_write : List LinkAct
third_write = Step (Take outward hello) ∷ []

abbrev pub third_read : List LinkAct
third_read = Wire (Reads (got.Bytes 4) (0 ∷ 2 ∷ codes "hi")) ∷ Step (Commit inward hi) ∷ []

-- a fourth: all seven octets of the message are written, and the pipe is empty
abbrev pub fourth_write : List LinkAct
fourth_write = Wire (Writes (put.Took 7) (0 ∷ 5 ∷ codes "hello")) ∷ Step (EmptyLook outward) ∷ []

abbrev pub carried : List LinkAct
carried = shakes ++ (third_write ++ (third_read ++ fourth_write))

-- the same, but only three octets of the message are taken before the link ends
abbrev pub cut : List LinkAct
cut = shakes ++ (third_write ++ (Wire (Reads got.NotReady []) ∷ Wire (Writes (put.Took 3) (0 ∷ 5 ∷ codes "h")) ∷ Wire (Reads got.Ended []) ∷ []))

-- the same, but the pipe inward is full: the message is held, and the next turn doesn't read
abbrev pub held : List LinkAct
held = shakes ++ (third_write ++ (Wire (Reads (got.Bytes 4) (0 ∷ 2 ∷ codes "hi")) ∷ Step (FullLook inward) ∷ []))

-- what the worked links show
pub record WorkedLinks : Type 0 where
  pub carries : IsLinkRun pair_side carried (heard (hi ∷ []))
  pub took : IsWritePart pair_side (IsTake outward) shakes third_write
  pub read : IsReadPart pair_side inward (shakes ++ third_write) third_read
  pub wrote : IsWritePart pair_side (IsTake outward) (shakes ++ (third_write ++ third_read)) fourth_write
  pub written : IsWritten pair_side (heard (hi ∷ [])) carried 1
  pub none_lost : IsLost pair_side (heard (hi ∷ [])) carried 0
  pub cuts : IsLinkRun pair_side cut (heard [])
  pub unwritten : IsWritten pair_side (heard []) cut 0
  pub lost : IsLost pair_side (heard []) cut 1
  pub row : IsSessionRow pair_side (record { acts = cut; why = Ended } ∷ []) (Some carried) (record { links = 2; heard = 1; put = 1; last = Some Ended })
  pub fates : AreFates pair_side (record { acts = cut; why = Ended } ∷ []) (Some carried) false 1 1
  pub holds : IsLinkRun pair_side held (heard (hi ∷ []))
  pub still_held : IsReadPart pair_side inward held (Step (FullLook inward) ∷ [])
