-- The decoded stream: what all octets of a peer mean to an engine (RFC 23, "Framing", "Traffic"; RFC 24).
-- Offsets count octets of the peer's stream from 0. The refusal is that of the least offset at which a rule is broken; of
-- two at one offset, that which needs fewer octets (own choice).
use Rattle.std.specs.Prelude.{◌≡◌, ℕ, ◌+◌, ◌-◌, ◌^◌, min, List, [], ◌++◌, length, Option, Some, None, IsSome}
use Rattle.std.specs.List.{flat_map}
use mathlib.Core.List.{IsPrefix}
use Rattle.zq_base.specs.declared.options.EngineOpts.{EngineOpts}
use Rattle.zq_base.specs.declared.options.Peer.{Peer}
use Rattle.spec_zmtp.specs.declared.cause.Cause.{Cause}
use Rattle.spec_zmtp.specs.declared.cause.Refusal.{Refusal}
use Rattle.spec_zmtp.specs.declared.command.Command.{Command}
use Rattle.spec_zmtp.specs.declared.greeting.Judgement.TheVariants.{NeedMore, Good}
use Rattle.spec_zmtp.specs.FrameEncoding.{WireFrame, octets_of}
use Rattle.spec_zmtp.specs.FrameRules.{gathered, items_of, AllKeep, Breaks, IsCutFrame}
use Rattle.spec_zmtp.specs.Greeting.{greeting_of, judged, greeting_refusal}
use Rattle.spec_zmtp.specs.Put.{encode_commands}
use Rattle.spec_zmtp.specs.Handshake.{Item, handshake}

-- how a stream stands: so many octets have come of the greeting, message or command that is unfinished; or it is refused
pub data Outcome : Type 0 where
  Unfinished : ℕ → Outcome
  Refused : Refusal → Outcome

-- what octets mean: the commands that are said in return, behind our greeting; the peer once the handshake is done; the whole
-- messages; and how the stream stands
pub record Decoded : Type 0 where
  pub said : List Command
  pub peer : Option Peer
  pub messages : List (List (List ℕ))
  pub outcome : Outcome

-- the octets of frames, one behind the other
abbrev pub stream_of : List WireFrame → List ℕ
stream_of frames = flat_map octets_of frames

-- all octets that are said in return: our greeting, and the commands, each in a frame of its own
abbrev pub octets_said : EngineOpts → Decoded → List ℕ
octets_said opts d = greeting_of opts.role ++ encode_commands d.said

-- an offset is told up to the greatest 64-bit number
abbrev pub offset_of : ℕ → ℕ
offset_of n = min n (2 ^ 64 - 1)

-- where the greeting is no further than this: it is unfinished, or refused
abbrev pub at_greeting : Outcome → Decoded
at_greeting outcome = record { said = []; peer = None; messages = []; outcome = outcome }

-- behind an accepted greeting and these frames, with the items that are heard all the same
abbrev pub behind_frames : EngineOpts → List WireFrame → List Item → Outcome → Decoded
behind_frames opts frames heard outcome = record {
  said = (handshake opts (items_of frames ++ heard)).said;
  peer = (handshake opts (items_of frames ++ heard)).peer;
  messages = (gathered frames).whole;
  outcome = outcome;
}

-- behind these frames, so many octets of the unfinished message or command have come
abbrev pub unfinished_behind : List WireFrame → List ℕ → Outcome
unfinished_behind frames rest = Unfinished (length (stream_of (gathered frames).unfinished) + length rest)

-- refused at the flags octet behind these frames
abbrev pub refused_behind : List WireFrame → Cause → Outcome
refused_behind frames cause = Refused (record { cause = cause; offset = offset_of (64 + length (stream_of frames)) })

-- the first 64 octets are an accepted greeting, then come these frames, which keep all rules, and this rest
pub record IsStream (opts : EngineOpts) (octets : List ℕ) (frames : List WireFrame) (rest : List ℕ) : Type 0 where
  pub greeting : List ℕ
  pub whole : length greeting ≡ 64
  pub accepted : judged opts.role greeting ≡ Good
  pub all : octets ≡ greeting ++ (stream_of frames ++ rest)
  pub keep : AllKeep opts [] frames

-- The octets, as one whole list, mean this to an engine of these options.
pub data Decodes (opts : EngineOpts) (octets : List ℕ) (d : Decoded) : Type 0 where
  greeting_unfinished : judged opts.role octets ≡ NeedMore → d ≡ at_greeting (Unfinished (length octets)) → Decodes opts octets d
  greeting_refused : (r : Refusal) → greeting_refusal opts.role octets ≡ Some r → d ≡ at_greeting (Refused r) → Decodes opts octets d
  unfinished : (frames : List WireFrame) (rest : List ℕ) → IsStream opts octets frames rest → IsCutFrame opts frames rest
      → d ≡ behind_frames opts frames [] (unfinished_behind frames rest) → Decodes opts octets d
  refused : (frames : List WireFrame) (rest : List ℕ) (cause : Cause) (heard : List Item) → IsStream opts octets frames rest
      → Breaks opts frames rest cause heard → d ≡ behind_frames opts frames heard (refused_behind frames cause) → Decodes opts octets d

-- what is meant goes on at its end: more is said and more messages are whole, and once the peer is known it stays, and nothing more
-- is said
pub record GoesOn (d e : Decoded) : Type 0 where
  pub said : IsPrefix d.said e.said
  pub messages : IsPrefix d.messages e.messages
  pub known : IsSome d.peer → (e.peer ≡ d.peer) × (e.said ≡ d.said)
