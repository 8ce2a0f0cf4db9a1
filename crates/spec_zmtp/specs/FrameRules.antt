-- The rules that a frame keeps where it stands in a stream (RFC 23, "Framing", "Traffic"; limits and causes are own choice).
use Rattle.std.specs.Prelude.{◌≡◌, ℕ, ◌<◌, ◌≤◌, ◌==◌, Bool, if◌then◌else◌, List, [], ◌∷◌, ◌++◌, length, map, Option, Some, None}
use Rattle.std.specs.List.{fold}
use Rattle.zq_base.specs.declared.options.EngineOpts.{EngineOpts}
use Rattle.zq_base.specs.Message.{max_committed}
use Rattle.spec_zmtp.specs.declared.cause.Cause.{Cause}
use Rattle.spec_zmtp.specs.declared.cause.Cause.TheVariants.{BadFlags, TooLong, TooManyParts, OutOfOrder}
use Rattle.spec_zmtp.specs.declared.flags.FrameKind.{FrameKind}
use Rattle.spec_zmtp.specs.declared.flags.FrameKind.TheVariants.{Last, More, Command}
use Rattle.spec_zmtp.specs.declared.flags.Flags.{Flags}
use Rattle.spec_zmtp.specs.FrameFlags.{flags_octet, flags_at, limit}
use Rattle.spec_zmtp.specs.FrameEncoding.{WireFrame, IsWireFrame, IsCutHead, FitsSize, head_octets, octets_of}
use Rattle.spec_zmtp.specs.Handshake.{Item, MessageFrame, item_of_body, handshake, stage_refusal}

-- ---- what frames make

-- the whole messages, and the frames of the unfinished one
pub record Gathered : Type 0 where
  pub whole : List (List (List ℕ))
  pub unfinished : List WireFrame

-- no frame
abbrev pub none_gathered : Gathered
none_gathered = record { whole = []; unfinished = [] }

-- the bodies of frames, in order
abbrev pub bodies : List WireFrame → List (List ℕ)
bodies frames = map (λ f. f.body) frames

-- one more frame of this kind: a message ends with a frame without MORE, and a command is none of its frames
abbrev pub gather_at : FrameKind → WireFrame → Gathered → Gathered
gather_at Last f g = record { whole = g.whole ++ bodies (g.unfinished ++ f ∷ []) ∷ []; unfinished = [] }
gather_at More f g = record { whole = g.whole; unfinished = g.unfinished ++ f ∷ [] }
gather_at Command f g = g

-- what frames make together
abbrev pub gathered : List WireFrame → Gathered
gathered frames = fold (λ g f. gather_at f.kind f g) none_gathered frames

-- what a frame is to the handshake
abbrev pub item_at : FrameKind → List ℕ → Item
item_at Last body = MessageFrame
item_at More body = MessageFrame
item_at Command body = item_of_body body

-- what frames are to the handshake
abbrev pub items_of : List WireFrame → List Item
items_of frames = map (λ f. item_at f.kind f.body) frames

-- ---- the causes by which a frame is refused behind others

-- this item is out of place, or its content is refused
abbrev pub item_refusal : EngineOpts → List WireFrame → Item → Option Cause
item_refusal opts before item = stage_refusal (handshake opts (items_of before ++ item ∷ [])).stage

-- a 1,024th frame of one message
abbrev pub count_refusal : List WireFrame → Option Cause
count_refusal unfinished = if length unfinished == max_committed then Some TooManyParts else None

-- a command between the frames of a message
abbrev pub between_refusal : List WireFrame → Option Cause
between_refusal [] = None
between_refusal (f ∷ unfinished) = Some OutOfOrder

-- the first cause, else the second
abbrev pub first_cause : Option Cause → Option Cause → Option Cause
first_cause (Some cause) second = Some cause
first_cause None second = second

-- a frame of this kind; a message frame is out of place until the handshake is done
abbrev pub kind_refusal : EngineOpts → List WireFrame → FrameKind → Option Cause
kind_refusal opts before Command = between_refusal (gathered before).unfinished
kind_refusal opts before Last = first_cause (item_refusal opts before MessageFrame) (count_refusal (gathered before).unfinished)
kind_refusal opts before More = first_cause (item_refusal opts before MessageFrame) (count_refusal (gathered before).unfinished)

-- a frame of these flags
abbrev pub flags_refusal : EngineOpts → List WireFrame → Option Flags → Option Cause
flags_refusal opts before None = Some BadFlags
flags_refusal opts before (Some flags) = kind_refusal opts before flags.kind

-- a frame with this flags octet
abbrev pub octet_refusal : EngineOpts → List WireFrame → ℕ → Option Cause
octet_refusal opts before octet = flags_refusal opts before (flags_at octet)

-- ---- keeping and breaking the rules

-- a frame that keeps all rules behind others
pub record Keeps (opts : EngineOpts) (before : List WireFrame) (f : WireFrame) : Type 0 where
  pub frame : IsWireFrame f
  pub in_place : octet_refusal opts before (flags_octet f.kind f.long) ≡ None
  pub heard : item_refusal opts before (item_at f.kind f.body) ≡ None

-- each frame keeps all rules behind those before it
abbrev pub AllKeep : EngineOpts → List WireFrame → List WireFrame → Type 0
AllKeep opts before [] = Unit {0}
AllKeep opts before (f ∷ frames) = Keeps opts before f × AllKeep opts (before ++ f ∷ []) frames

-- The octets from a flags octet on break a rule: by the flags octet, else by the head, else by the whole frame.
-- The items are those that are heard all the same: the frame that is refused when it is whole.
pub data Breaks (opts : EngineOpts) (before : List WireFrame) (octets : List ℕ) (cause : Cause) (heard : List Item) : Type 0 where
  by_flags : (flags : ℕ) (rest : List ℕ) → octets ≡ flags ∷ rest → octet_refusal opts before flags ≡ Some cause
      → heard ≡ [] → Breaks opts before octets cause heard
  by_size : (kind : FrameKind) (long : Bool) (size : ℕ) (rest : List ℕ) → octets ≡ head_octets kind long size ++ rest
      → octet_refusal opts before (flags_octet kind long) ≡ None → FitsSize long size → limit kind < size
      → cause ≡ TooLong → heard ≡ [] → Breaks opts before octets cause heard
  by_item : (f : WireFrame) (rest : List ℕ) → octets ≡ octets_of f ++ rest → IsWireFrame f
      → octet_refusal opts before (flags_octet f.kind f.long) ≡ None
      → item_refusal opts before (item_at f.kind f.body) ≡ Some cause
      → heard ≡ item_at f.kind f.body ∷ [] → Breaks opts before octets cause heard

-- the octets end before a flags octet, inside a head, or inside a body, and no rule is broken so far
pub data IsCutFrame (opts : EngineOpts) (before : List WireFrame) (octets : List ℕ) : Type 0 where
  at_flags : octets ≡ [] → IsCutFrame opts before octets
  in_head : (flags : ℕ) (size : List ℕ) → octets ≡ flags ∷ size → IsCutHead octets
      → octet_refusal opts before flags ≡ None → IsCutFrame opts before octets
  in_body : (kind : FrameKind) (long : Bool) (size : ℕ) (body : List ℕ) → octets ≡ head_octets kind long size ++ body
      → length body < size → FitsSize long size → size ≤ limit kind
      → octet_refusal opts before (flags_octet kind long) ≡ None → IsCutFrame opts before octets
