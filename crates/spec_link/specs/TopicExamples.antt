-- A worked link of a SUB, by hand: a topic is said again and isn't counted, a message is counted from its last octet on, and what isn't to be said.
use Rattle.std.specs.Prelude.{◌≡◌, ℕ, List, [], ◌∷◌, ◌++◌, Some, codes}
use Rattle.zq_base.specs.Message.{Frames}
use Rattle.zq_base.specs.declared.kind.Kind.TheVariants.{Pub, Sub}
use Rattle.zq_base.specs.declared.options.EngineOpts.{EngineOpts}
use Rattle.zq_base.specs.declared.options.Role.TheVariants.{Null}
use Rattle.zq_outer.specs.declared.link.LinkGot.TheVariants as got
use Rattle.zq_outer.specs.declared.link.LinkPut.TheVariants as put
use Rattle.spec_pattern.specs.PipeStep.{Take}
use Rattle.spec_zmtp.specs.OwnCommands.{our_ready}
use Rattle.spec_zmtp.specs.Put.{Says, Sends, encode_said}
use Rattle.spec_zmtp.specs.DecodedStream.{Decoded, Unfinished}
use Rattle.spec_link.specs.LinkAct.{LinkAct, Wire, Step, Writes, Reads, Repeats}
use Rattle.spec_link.specs.LinkRun.{AreToSay, IsLinkRun}
use Rattle.spec_link.specs.Rows.{IsWritten, IsLost}
use Rattle.spec_link.specs.Examples.{greeting, outward}

-- a SUB, and the PUB at the other side
abbrev pub sub_side : EngineOpts
sub_side = record { kind = Sub; id = []; role = Null; logins = [] }

abbrev pub pub_side : EngineOpts
pub_side = record { kind = Pub; id = []; role = Null; logins = [] }

-- the messages that subscribe to a and to b
abbrev pub add_a : Frames
add_a = (1 ∷ codes "a") ∷ []

abbrev pub add_b : Frames
add_b = (1 ∷ codes "b") ∷ []

-- what is heard
abbrev pub told : Decoded
told = record {
  said = our_ready sub_side ∷ [];
  peer = Some (record { kind = Pub; identity = [] });
  messages = [];
  outcome = Unfinished 0;
}

-- greetings, and READYs of 27 octets
abbrev pub shaken : List LinkAct
shaken =
    Wire (Writes (put.Took 64) greeting) ∷ Wire (Reads (got.Bytes 64) greeting)
    ∷ Wire (Writes (put.Took 27) (encode_said (our_ready sub_side))) ∷ Wire (Reads (got.Bytes 27) (encode_said (our_ready pub_side))) ∷ []

-- the topic a is said again, and written
abbrev pub said_again : List LinkAct
said_again = shaken ++ Wire (Repeats add_a) ∷ Wire (Writes (put.Took 4) (0 ∷ 2 ∷ 1 ∷ codes "a")) ∷ []

-- a message is taken, and written but for its last octet
abbrev pub but_one : List LinkAct
but_one = said_again ++ Step (Take outward add_b) ∷ Wire (Writes (put.Took 3) (0 ∷ 2 ∷ 1 ∷ [])) ∷ []

-- and that octet
abbrev pub all_written : List LinkAct
all_written = but_one ++ Wire (Writes (put.Took 1) (codes "b")) ∷ []

-- what the worked link shows
pub record WorkedTopics : Type 0 where
  pub runs : IsLinkRun sub_side all_written told
  pub uncounted : IsWritten sub_side told said_again 0
  pub none_taken : IsLost sub_side told said_again 0
  pub unwritten : IsWritten sub_side told but_one 0
  pub in_flight : IsLost sub_side told but_one 1
  pub no_other : (n : ℕ) → IsWritten sub_side told but_one n → n ≡ 0
  pub written : IsWritten sub_side told all_written 1
  pub none_lost : IsLost sub_side told all_written 0
  pub once : (n : ℕ) → IsWritten sub_side told all_written n → n ≡ 1

-- a message before our READY, messages out of their order, a message twice, and one that is left out
pub record UnsaidPuts : Type 0 where
  pub early : AreToSay sub_side all_written told (Sends add_a ∷ Says (our_ready sub_side) ∷ Sends add_b ∷ []) → ⊥
  pub swapped : AreToSay sub_side all_written told (Says (our_ready sub_side) ∷ Sends add_b ∷ Sends add_a ∷ []) → ⊥
  pub twice : AreToSay sub_side all_written told (Says (our_ready sub_side) ∷ Sends add_a ∷ Sends add_a ∷ Sends add_b ∷ []) → ⊥
  pub left_out : AreToSay sub_side all_written told (Says (our_ready sub_side) ∷ Sends add_a ∷ []) → ⊥
