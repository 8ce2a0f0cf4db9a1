-- A mechanism in a handshake, and its answers to what it hears (RFC 23, "The NULL Security Mechanism"; RFC 24).
use Rattle.std.specs.Prelude.{◌≤◌, [], length, slice_get, Option, Some, None}
use Rattle.zq_base.specs.declared.options.EngineOpts.{EngineOpts}
use Rattle.zq_base.specs.declared.options.Peer.{Peer}
use Rattle.spec_zmtp.specs.declared.command.Command.{Command}
use Rattle.spec_zmtp.specs.declared.handshake.Stage.{Stage}
use Rattle.spec_zmtp.specs.declared.handshake.Stage.TheVariants as stage
use Rattle.spec_zmtp.specs.Metadata.{IsCommand, encode_command}
use Rattle.spec_zmtp.specs.Handshake.{Handshake, handshake}
use Rattle.zmtp_mech.specs.declared.answer.Answer.{Answer}
use Rattle.zmtp_mech.specs.declared.answer.Answer.TheVariants.{Say, Ready, Wait, Refused}

-- the options of a side, and how its handshake stands
pub record Mechanism : Type 0 where
  pub opts : EngineOpts
  pub stage : Stage

-- a mechanism that heard nothing
abbrev pub begun : EngineOpts → Mechanism
begun opts = record { opts = opts; stage = (handshake opts []).stage }

-- the same mechanism at another stage
abbrev pub at_stage : Stage → Mechanism → Mechanism
at_stage stage m = record m { stage = stage }

-- the answer where this peer is known now, if one is, and this command is to be said, if one is
abbrev pub answer_with : Option Peer → Option Command → Answer
answer_with (Some peer) say = Ready peer say
answer_with None (Some c) = Say c
answer_with None None = Wait

-- the answer at this stage
abbrev pub answer_at : Stage → Option Peer → Option Command → Answer
answer_at (stage.Waiting awaited) peer say = answer_with peer say
answer_at stage.Running peer say = answer_with peer say
answer_at (stage.Refused cause) peer say = Refused cause say

-- the answer to what one item adds to a handshake
abbrev pub answer_of : Handshake → Answer
answer_of h = answer_at h.stage h.peer (slice_get h.said 0)

-- the command that an answer says
abbrev pub said_by : Answer → Option Command
said_by (Say c) = Some c
said_by (Ready peer say) = say
said_by Wait = None
said_by (Refused cause say) = say

-- a command that has its form, and a body of at most 1,000 octets
pub record IsSayable (c : Command) : Type 0 where
  pub formed : IsCommand c
  pub brief : length (encode_command c) ≤ 1000
