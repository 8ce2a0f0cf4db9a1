-- What an engine went through, what it keeps of it, and what that means.
use Rattle.std.specs.Prelude.{◌≡◌, ℕ, ◌≤◌, List, [], ◌∷◌, ◌++◌, length, None, IsSome, ◌⊎◌}
use Rattle.std.specs.List.{flat_map}
use mathlib.Core.List.{IsPrefix}
use Rattle.zq_base.specs.declared.options.EngineOpts.{EngineOpts}
use Rattle.spec_zmtp.specs.declared.command.Command.{Command}
use Rattle.spec_zmtp.specs.FrameEncoding.{encode_message}
use Rattle.spec_zmtp.specs.Greeting.{greeting_of}
use Rattle.spec_zmtp.specs.OwnCommands.{IsEngineOpts}
use Rattle.spec_zmtp.specs.Put.{Put, Sends, says, sends, commands_in, encode_puts, encode_commands}
use Rattle.spec_zmtp.specs.DecodedStream.{Decoded, Decodes}
use Rattle.zmtp_engine.specs.Speech.{IsModest}
use Rattle.zmtp_engine.specs.Listening.{Listening, ListensTo, IsSettledNow, said_now, refusal_now}
use Rattle.zmtp_engine.specs.Output.{Output, octets_left}

-- ---- a past and its meaning

-- the options, the octets fed, the messages taken out, the commands and messages put behind our greeting, and the octets written,
-- all in order
pub record Past : Type 0 where
  pub opts : EngineOpts
  pub heard : List ℕ
  pub given : List (List (List ℕ))
  pub put : List Put
  pub written : List ℕ

-- all octets that are to be written
abbrev pub octets_put : Past → List ℕ
octets_put p = greeting_of p.opts.role ++ encode_puts p.put

-- no octet was fed or written yet, and these commands are said first
abbrev pub no_past : EngineOpts → Past
no_past opts = record { opts = opts; heard = []; given = []; put = []; written = [] }

-- more octets were fed, and in return these commands are said
abbrev pub fed : List ℕ → List Command → Past → Past
fed octets commands p = record p { heard = p.heard ++ octets; put = p.put ++ says commands }

-- messages were taken out
abbrev pub gave : List (List (List ℕ)) → Past → Past
gave messages p = record p { given = p.given ++ messages }

-- a message was taken in
abbrev pub took : List (List ℕ) → Past → Past
took message p = record p { put = p.put ++ Sends message ∷ [] }

-- octets were written
abbrev pub wrote : List ℕ → Past → Past
wrote octets p = record p { written = p.written ++ octets }

-- What the octets fed mean. Whatever was taken up of them: the messages taken out are a front of those meant, the commands put a
-- front of those to be said, and what was written is a front of what was put.
pub record IsMeaning (p : Past) (d : Decoded) : Type 0 where
  pub decodes : Decodes p.opts p.heard d
  pub given : IsPrefix p.given d.messages
  pub said : IsPrefix (commands_in p.put) d.said
  pub written : IsPrefix p.written (octets_put p)

-- ---- what an engine keeps

-- of the peer's stream, and of what is lent to be written
pub record Conversation : Type 0 where
  pub listening : Listening
  pub output : Output

-- the octets that are not written yet
abbrev pub unwritten : Conversation → List ℕ
unwritten c = c.output.run ++ octets_left (said_now c.listening) c.output

-- the octets that are lent next
abbrev pub lent : Conversation → List ℕ
lent c = c.output.run

-- the whole messages that were not taken out yet
abbrev pub waiting : Conversation → List (List (List ℕ))
waiting c = c.listening.hearing.queue

-- the same of another output
abbrev pub with_output : Output → Conversation → Conversation
with_output output c = record c { output = output }

-- what an engine keeps is of this past
pub record Follows (p : Past) (c : Conversation) : Type 0 where
  pub opts : IsEngineOpts p.opts
  pub listens : ListensTo p.opts p.heard p.given c.listening
  pub commands : List Command
  pub messages : List (List (List ℕ))
  pub put : p.put ≡ says commands ++ sends messages
  pub modest : IsModest commands
  pub said : said_now c.listening ≡ greeting_of p.opts.role ++ encode_commands commands
  pub within : c.output.begun ≤ length (said_now c.listening)
  pub all : p.written ++ unwritten c ≡ said_now c.listening ++ flat_map encode_message messages
  pub idle : c.listening.hearing.peer ≡ None → (messages ≡ []) × (c.output.later ≡ None)

-- what was heard is taken up, as it is unless memory wanted
abbrev pub IsCurrent : Conversation → Type 0
IsCurrent c = IsSettledNow c.listening

-- What an engine of this past still has, where the octets fed mean this: the messages that wait go on where those taken out end,
-- and what is not written goes on where what was written ends. Both are all there is, once what was heard is taken up.
pub record HasLeft (p : Past) (c : Conversation) (d : Decoded) : Type 0 where
  pub meaning : IsMeaning p d
  pub messages : IsPrefix (p.given ++ waiting c) d.messages
  pub written : p.written ++ unwritten c ≡ octets_put p
  pub all_given : IsCurrent c → p.given ++ waiting c ≡ d.messages
  pub all_said : IsCurrent c → commands_in p.put ≡ d.said

-- ---- offers

-- a message may be offered: the handshake is done, nothing is refused, and no message is being written
pub record CanOffer (c : Conversation) : Type 0 where
  pub running : IsSome c.listening.hearing.peer
  pub unrefused : refusal_now c.listening ≡ None
  pub idle : c.output.later ≡ None

-- a message may not be offered, for one of these reasons
abbrev pub MustWait : Conversation → Type 0
MustWait c = (c.listening.hearing.peer ≡ None) ⊎ ((IsSome (refusal_now c.listening)) ⊎ IsSome c.output.later)
