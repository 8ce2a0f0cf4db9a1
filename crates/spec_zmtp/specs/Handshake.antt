-- The handshake of one side: what it says, and what becomes of it, by the whole list of what it heard
-- (RFC 23, "The NULL Security Mechanism"; RFC 24).
use Rattle.std.specs.Prelude.{ℕ, Bool, true, false, not, ◌&&◌, ◌||◌, if◌then◌else◌, is_none, List, [], ◌∷◌, ◌++◌, Option, Some, None, Result, Ok, Err, codes}
use Rattle.std.specs.List.{list_any}
use Rattle.std.specs.Option.{option_or}
use Rattle.std.specs.Str.{bytes_eq}
use Rattle.zq_base.specs.declared.options.EngineOpts.{EngineOpts}
use Rattle.zq_base.specs.declared.options.Login.{Login}
use Rattle.zq_base.specs.declared.options.Peer.{Peer}
use Rattle.zq_base.specs.declared.options.Role.{Role}
use Rattle.zq_base.specs.declared.options.Role.TheVariants.{Null, PlainClient, PlainServer}
use Rattle.spec_zmtp.specs.declared.cause.Cause.{Cause}
use Rattle.spec_zmtp.specs.declared.cause.Cause.TheVariants.{BadCommand, BadMeta, OutOfOrder, NotWelcome, PeerError}
use Rattle.spec_zmtp.specs.declared.command.Command.{Command}
use Rattle.spec_zmtp.specs.declared.handshake.Awaited.{Awaited}
use Rattle.spec_zmtp.specs.declared.handshake.Awaited.TheVariants.{Ready, Hello, Welcome, Initiate}
use Rattle.spec_zmtp.specs.declared.handshake.Stage.{Stage}
use Rattle.spec_zmtp.specs.declared.handshake.Stage.TheVariants.{Waiting, Running, Refused}
use Rattle.spec_zmtp.specs.Metadata.{encode_login, is_called}
use Rattle.spec_zmtp.specs.Decoding.{decode_command, decode_meta}
use Rattle.spec_zmtp.specs.PeerMetadata.{peer_from}
use Rattle.spec_zmtp.specs.OwnCommands.{our_ready, our_initiate, our_hello, our_welcome, our_error}

-- what is heard: a command, a body that is none, or a frame of a message
pub data Item : Type 0 where
  Told : Command → Item
  Malformed : Item
  MessageFrame : Item

-- a command, where the body is one
abbrev pub told : Option Command → Item
told None = Malformed
told (Some c) = Told c

-- what is heard by a command frame of this body
abbrev pub item_of_body : List ℕ → Item
item_of_body body = told (decode_command body)

-- the commands said, the peer once it is known, and how the handshake stands
pub record Handshake : Type 0 where
  pub said : List Command
  pub peer : Option Peer
  pub stage : Stage

-- nothing is said
abbrev pub silent : Stage → Handshake
silent stage = record { said = []; peer = None; stage = stage }

-- a handshake that goes on by another
abbrev pub followed_by : Handshake → Handshake → Handshake
followed_by first second = record { said = first.said ++ second.said; peer = option_or first.peer second.peer; stage = second.stage }

-- a handshake behind a command that is said
abbrev pub saying : Command → Handshake → Handshake
saying c h = record h { said = c ∷ h.said }

-- whether a command has metadata that is none
unfoldable pub has_bad_meta : Command → Bool
has_bad_meta c = (is_called (codes "READY") c || is_called (codes "INITIATE") c) && is_none (decode_meta c.content)

-- the refusal of a command in place of the one awaited
unfoldable pub misplaced : Command → Cause
misplaced c =
    if has_bad_meta c then BadMeta else
    if is_called (codes "ERROR") c then PeerError else OutOfOrder

-- once Running, a peer's ERROR and metadata that is none are refused, and all else is skipped
abbrev pub running : List Item → Stage
running [] = Running
running (MessageFrame ∷ heard) = running heard
running (Malformed ∷ heard) = Refused BadCommand
running (Told c ∷ heard) =
    if has_bad_meta c then Refused BadMeta else
    if is_called (codes "ERROR") c then Refused PeerError else running heard

-- a peer that is known and fits, after which these commands are said, or the refusal of it
abbrev pub met : List Command → List Item → Result Peer Cause → Handshake
met reply heard (Err cause) = silent (Refused cause)
met reply heard (Ok peer) = record { said = reply; peer = Some peer; stage = running heard }

-- the peer's metadata is awaited in a command of this name, and then these commands are said
abbrev pub peer_awaited : EngineOpts → Awaited → List ℕ → List Command → List Item → Handshake
peer_awaited opts awaited name reply [] = silent (Waiting awaited)
peer_awaited opts awaited name reply (MessageFrame ∷ heard) = silent (Refused OutOfOrder)
peer_awaited opts awaited name reply (Malformed ∷ heard) = silent (Refused BadCommand)
peer_awaited opts awaited name reply (Told c ∷ heard) =
    if is_called name c then met reply heard (peer_from opts.kind (decode_meta c.content)) else silent (Refused (misplaced c))

-- READY is awaited
abbrev pub ready_awaited : EngineOpts → List Item → Handshake
ready_awaited opts heard = peer_awaited opts Ready (codes "READY") [] heard

-- INITIATE is awaited
abbrev pub initiate_awaited : EngineOpts → List Item → Handshake
initiate_awaited opts heard = peer_awaited opts Initiate (codes "INITIATE") (our_ready opts ∷ []) heard

-- WELCOME is awaited
abbrev pub welcome_awaited : EngineOpts → List Item → Handshake
welcome_awaited opts [] = silent (Waiting Welcome)
welcome_awaited opts (MessageFrame ∷ heard) = silent (Refused OutOfOrder)
welcome_awaited opts (Malformed ∷ heard) = silent (Refused BadCommand)
welcome_awaited opts (Told c ∷ heard) =
    if is_called (codes "WELCOME") c then saying (our_initiate opts) (ready_awaited opts heard) else silent (Refused (misplaced c))

-- whether the content of a HELLO is one of these logins, password and all
unfoldable pub is_welcome : List Login → List ℕ → Bool
is_welcome logins content = list_any (λ l. bytes_eq content (encode_login l)) logins

-- HELLO is awaited
abbrev pub hello_awaited : EngineOpts → List Item → Handshake
hello_awaited opts [] = silent (Waiting Hello)
hello_awaited opts (MessageFrame ∷ heard) = silent (Refused OutOfOrder)
hello_awaited opts (Malformed ∷ heard) = silent (Refused BadCommand)
hello_awaited opts (Told c ∷ heard) =
    if not (is_called (codes "HELLO") c) then silent (Refused (misplaced c)) else
    if is_welcome opts.logins c.content then saying our_welcome (initiate_awaited opts heard) else
    saying our_error (silent (Refused NotWelcome))

-- the handshake of a role, once the peer's greeting is accepted
abbrev pub handshake_as : Role → EngineOpts → List Item → Handshake
handshake_as Null opts heard = saying (our_ready opts) (ready_awaited opts heard)
handshake_as PlainClient opts heard = saying (our_hello opts) (welcome_awaited opts heard)
handshake_as PlainServer opts heard = hello_awaited opts heard

-- the handshake of a side with these options that heard these items
abbrev pub handshake : EngineOpts → List Item → Handshake
handshake opts heard = handshake_as opts.role opts heard

-- ---- one item more

-- the handshake from the wait for this command on
abbrev pub awaiting : Awaited → EngineOpts → List Item → Handshake
awaiting Ready opts heard = ready_awaited opts heard
awaiting Hello opts heard = hello_awaited opts heard
awaiting Welcome opts heard = welcome_awaited opts heard
awaiting Initiate opts heard = initiate_awaited opts heard

-- what one item more adds
abbrev pub next : EngineOpts → Stage → Item → Handshake
next opts (Waiting awaited) item = awaiting awaited opts (item ∷ [])
next opts Running item = silent (running (item ∷ []))
next opts (Refused cause) item = silent (Refused cause)

-- whether the handshake is done
abbrev pub is_running : Stage → Bool
is_running (Waiting awaited) = false
is_running Running = true
is_running (Refused cause) = false

-- the cause of a refusal
abbrev pub stage_refusal : Stage → Option Cause
stage_refusal (Waiting awaited) = None
stage_refusal Running = None
stage_refusal (Refused cause) = Some cause
