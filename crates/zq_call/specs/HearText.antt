-- What is told of a peer's octets (own format): what is said in return, the peer, the messages, and how the stream stands.
use Rattle.std.specs.Prelude.{◌≡◌, ℕ, Bool, true, false, List, [], ◌∷◌, ◌++◌, Option, Some, None, codes, decimal, flat_map}
use Rattle.hex.specs.Hex.{encode_lower}
use Rattle.zq_base.specs.Kind.{kind_name}
use Rattle.zq_base.specs.Message.{Frames}
use Rattle.zq_base.specs.declared.kind.Kind.{Kind}
use Rattle.zq_base.specs.declared.options.EngineOpts.{EngineOpts}
use Rattle.zq_base.specs.declared.options.Login.{Login}
use Rattle.zq_base.specs.declared.options.Peer.{Peer}
use Rattle.zq_base.specs.declared.options.Role.TheVariants.{Null, PlainServer}
use Rattle.spec_zmtp.specs.declared.cause.Cause.{Cause}
use Rattle.spec_zmtp.specs.declared.cause.Cause.TheVariants as cause
use Rattle.spec_zmtp.specs.DecodedStream.{Outcome, Unfinished, Refused, Decoded, Decodes, octets_said}
use Rattle.spec_run.specs.PartText.{part_text, parts_text}

-- who hears: without security, or a PLAIN server that accepts this login alone
abbrev pub hear_opts : Kind → Option Login → EngineOpts
hear_opts kind None = record { kind = kind; id = []; role = Null; logins = [] }
hear_opts kind (Some login) = record { kind = kind; id = []; role = PlainServer; logins = login ∷ [] }

abbrev pub cause_text : Cause → List ℕ
cause_text cause.BadSignature = codes "BadSignature"
cause_text cause.OldVersion = codes "OldVersion"
cause_text cause.OtherMechanism = codes "OtherMechanism"
cause_text cause.BadFlags = codes "BadFlags"
cause_text cause.TooLong = codes "TooLong"
cause_text cause.TooManyParts = codes "TooManyParts"
cause_text cause.BadCommand = codes "BadCommand"
cause_text cause.BadMeta = codes "BadMeta"
cause_text cause.OutOfOrder = codes "OutOfOrder"
cause_text cause.NoKind = codes "NoKind"
cause_text cause.BadPair = codes "BadPair"
cause_text cause.BadIdentity = codes "BadIdentity"
cause_text cause.NotWelcome = codes "NotWelcome"
cause_text cause.PeerError = codes "PeerError"

-- all that is said in return, in hex
abbrev pub said_text : List ℕ → List ℕ
said_text said = codes "said " ++ encode_lower said ++ codes "\n"

-- the peer's kind and its identity, once the handshake is done
abbrev pub peer_text : Option Peer → List ℕ
peer_text None = []
peer_text (Some peer) = codes "peer " ++ kind_name peer.kind ++ codes " " ++ part_text peer.identity ++ codes "\n"

-- a whole message
abbrev pub message_text : Frames → List ℕ
message_text message = codes "msg" ++ parts_text message ++ codes "\n"

-- how many octets of what is unfinished came, or why and where the stream is refused
abbrev pub outcome_text : Outcome → List ℕ
outcome_text (Unfinished octets) = codes "rest " ++ decimal octets ++ codes "\n"
outcome_text (Refused refusal) = codes "refused " ++ cause_text refusal.cause ++ codes " at " ++ decimal refusal.offset ++ codes "\n"

abbrev pub is_refused : Outcome → Bool
is_refused (Unfinished octets) = false
is_refused (Refused refusal) = true

-- all that is told of what octets mean to a side of these options
abbrev pub hear_text : EngineOpts → Decoded → List ℕ
hear_text opts d = said_text (octets_said opts d) ++ peer_text d.peer ++ flat_map message_text d.messages ++ outcome_text d.outcome

-- the text and the refusal are those of what the octets mean under these options
pub record IsHeard (opts : EngineOpts) (octets text : List ℕ) (refused : Bool) : Type 0 where
  pub decoded : Decoded
  pub decodes : Decodes opts octets decoded
  pub text_is : text ≡ hear_text opts decoded
  pub refused_is : refused ≡ is_refused decoded.outcome
