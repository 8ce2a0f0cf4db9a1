-- What is kept of the octets behind a peer's greeting, and the octets that it is kept of.
use Rattle.std.specs.Prelude.{◌≡◌, ℕ, ◌+◌, ◌<◌, ◌≤◌, Bool, List, [], ◌++◌, length, slice_index, Option, Some, None, IsSome}
use Rattle.zq_base.specs.declared.options.EngineOpts.{EngineOpts}
use Rattle.zq_base.specs.declared.options.Peer.{Peer}
use Rattle.spec_zmtp.specs.declared.cause.Refusal.{Refusal}
use Rattle.spec_zmtp.specs.declared.flags.FrameKind.{FrameKind}
use Rattle.spec_zmtp.specs.declared.handshake as shaking
use Rattle.spec_zmtp.specs.FrameFlags.{flags_octet, limit}
use Rattle.spec_zmtp.specs.FrameEncoding.{WireFrame, FitsSize, IsCutHead, head_octets}
use Rattle.spec_zmtp.specs.FrameRules.{gathered, bodies, items_of, octet_refusal, AllKeep, Breaks}
use Rattle.spec_zmtp.specs.Greeting.{greeting_of}
use Rattle.spec_zmtp.specs.Handshake.{Item, handshake, stage_refusal}
use Rattle.spec_zmtp.specs.DecodedStream.{stream_of, offset_of}
use Rattle.spec_zmtp.specs.Put.{encode_commands}
use Rattle.zmtp_frame.specs.Reading.{Stage, InHead, InBody, SawBadFlags, SawTooLong}

-- what is kept: where the reader is, how the handshake stands, the frame that has begun, the frames of the unfinished message,
-- the whole messages that were not taken out, and counts of octets
pub record Hearing : Type 0 where
  pub opts : EngineOpts
  pub reader : Stage
  pub stage : shaking.Stage.Stage
  pub peer : Option Peer
  pub said : List ℕ
  pub kind : FrameKind
  pub body : List ℕ
  pub parts : List (List ℕ)
  pub queue : List (List (List ℕ))
  pub offset : ℕ
  pub begun : ℕ
  pub earlier : ℕ
  pub refused : Option Refusal

-- the frame that has begun: octets of its head, or its head and octets of its body
abbrev pub IsBegun : EngineOpts → List WireFrame → List ℕ → Stage → FrameKind → List ℕ → Type 0
IsBegun opts before rest (InHead octets) kind body =
    (rest ≡ octets) × IsCutHead octets × (0 < length octets → octet_refusal opts before (slice_index octets 0) ≡ None)
IsBegun opts before rest (InBody left) kind body =
    (long : Bool) × FitsSize long (length body + left) × (length body + left ≤ limit kind)
    × (octet_refusal opts before (flags_octet kind long) ≡ None) × (rest ≡ head_octets kind long (length body + left) ++ body)
IsBegun opts before rest (SawBadFlags flags) kind body = ⊥
IsBegun opts before rest (SawTooLong size) kind body = ⊥

-- what the handshake by these items has said, and the peer that it knows
pub record HasShaken (opts : EngineOpts) (items : List Item) (h : Hearing) : Type 0 where
  pub opts_is : h.opts ≡ opts
  pub said : h.said ≡ greeting_of opts.role ++ encode_commands (handshake opts items).said
  pub peer : h.peer ≡ (handshake opts items).peer

-- the octets are these frames and a frame that has begun, and no rule is broken
pub record Listens (opts : EngineOpts) (octets : List ℕ) (given : List (List (List ℕ))) (h : Hearing) : Type 0 where
  pub frames : List WireFrame
  pub rest : List ℕ
  pub all : octets ≡ stream_of frames ++ rest
  pub keep : AllKeep opts [] frames
  pub shaken : HasShaken opts (items_of frames) h
  pub stage : h.stage ≡ (handshake opts (items_of frames)).stage
  pub unrefused : stage_refusal h.stage ≡ None
  pub parts : h.parts ≡ bodies (gathered frames).unfinished
  pub whole : (gathered frames).whole ≡ given ++ h.queue
  pub offset : h.offset ≡ offset_of (64 + length (stream_of frames))
  pub begun : h.begun ≡ offset_of (length rest)
  pub earlier : h.earlier ≡ offset_of (length (stream_of (gathered frames).unfinished))
  pub begins : IsBegun opts frames rest h.reader h.kind h.body

-- behind these frames a rule is broken
pub record Stopped (opts : EngineOpts) (octets : List ℕ) (given : List (List (List ℕ))) (h : Hearing) (r : Refusal) : Type 0 where
  pub frames : List WireFrame
  pub rest : List ℕ
  pub items : List Item
  pub all : octets ≡ stream_of frames ++ rest
  pub keep : AllKeep opts [] frames
  pub breaks : Breaks opts frames rest r.cause items
  pub shaken : HasShaken opts (items_of frames ++ items) h
  pub whole : (gathered frames).whole ≡ given ++ h.queue
  pub offset : r.offset ≡ offset_of (64 + length (stream_of frames))

-- either, by whether a refusal is kept
abbrev pub HearsAt : EngineOpts → List ℕ → List (List (List ℕ)) → Hearing → Option Refusal → Type 0
HearsAt opts octets given h None = Listens opts octets given h
HearsAt opts octets given h (Some r) = Stopped opts octets given h r

-- this is kept by an engine of these options of these octets behind the greeting, once these messages were taken out
abbrev pub Hears : EngineOpts → List ℕ → List (List (List ℕ)) → Hearing → Type 0
Hears opts octets given h = HearsAt opts octets given h h.refused

-- it is known of which octets this is kept, and no rule is broken
abbrev pub Known : Hearing → Type 0
Known h = (opts : EngineOpts) × (octets : List ℕ) × (given : List (List (List ℕ))) × Listens opts octets given h

-- what is said grows at its end, and not once the peer is known
pub record Grows (old new : Hearing) : Type 0 where
  pub more : List ℕ
  pub said : new.said ≡ old.said ++ more
  pub quiet : IsSome old.peer → (more ≡ []) × (new.peer ≡ old.peer)

-- a frame that is whole was taken up
abbrev pub IsSettledAt : Stage → Option Refusal → Type 0
IsSettledAt reader (Some r) = Unit {0}
IsSettledAt (InHead octets) None = Unit {0}
IsSettledAt (InBody left) None = 0 < left
IsSettledAt (SawBadFlags flags) None = Unit {0}
IsSettledAt (SawTooLong size) None = Unit {0}

-- no frame waits to be taken up
abbrev pub IsSettled : Hearing → Type 0
IsSettled h = IsSettledAt h.reader h.refused

-- what bounds the steps that take no octet
abbrev pub weight : Stage → Option Refusal → ℕ
weight reader (Some r) = 0
weight (InHead octets) None = 1
weight (InBody left) None = 2
weight (SawBadFlags flags) None = 1
weight (SawTooLong size) None = 1
