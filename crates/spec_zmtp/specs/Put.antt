-- What a side puts on the wire behind its greeting: commands and messages, in one order (RFC 23, "Traffic").
use Rattle.std.specs.Prelude.{ℕ, ◌≤◌, List, [], ◌∷◌, length, map, All}
use Rattle.std.specs.List.{flat_map}
use Rattle.zq_base.specs.Message.{IsFrame, max_committed}
use Rattle.spec_zmtp.specs.declared.command.Command.{Command}
use Rattle.spec_zmtp.specs.declared.flags.FrameKind.TheVariants as kind
use Rattle.spec_zmtp.specs.FrameEncoding.{encode_frame, encode_message}
use Rattle.spec_zmtp.specs.Metadata.{encode_command}

-- a command, or a message by its frames
pub data Put : Type 0 where
  Says : Command → Put
  Sends : List (List ℕ) → Put

-- a command in a frame of its own
abbrev pub encode_said : Command → List ℕ
encode_said c = encode_frame kind.Command (encode_command c)

-- commands, one behind the other
abbrev pub encode_commands : List Command → List ℕ
encode_commands commands = flat_map encode_said commands

-- a command or a message as it is written
abbrev pub encode_put : Put → List ℕ
encode_put (Says c) = encode_said c
encode_put (Sends message) = encode_message message

-- all that is put, one behind the other
abbrev pub encode_puts : List Put → List ℕ
encode_puts puts = flat_map encode_put puts

-- the command that is put, if it is one
abbrev pub command_in : Put → List Command
command_in (Says c) = c ∷ []
command_in (Sends message) = []

-- the message that is put, if it is one
abbrev pub message_in : Put → List (List (List ℕ))
message_in (Says c) = []
message_in (Sends message) = message ∷ []

-- the commands of what is put, in order
abbrev pub commands_in : List Put → List Command
commands_in puts = flat_map command_in puts

-- the messages of what is put, in order
abbrev pub messages_in : List Put → List (List (List ℕ))
messages_in puts = flat_map message_in puts

-- these commands are put, and these messages
abbrev pub says : List Command → List Put
says commands = map (λ c. Says c) commands

abbrev pub sends : List (List (List ℕ)) → List Put
sends messages = map (λ m. Sends m) messages

-- a message that a peer accepts: 1 to 1,023 frames of at most 16,777,216 octets
abbrev pub IsSendable : List (List ℕ) → Type 0
IsSendable m = (1 ≤ length m) × (length m ≤ max_committed) × All IsFrame m
