-- What a link took and gave, and what that means: what a side says is one list of commands and messages, in its order (RFC 23, "Traffic").
use Rattle.std.specs.Prelude.{◌≡◌, ℕ, List, [], ◌++◌}
use mathlib.Core.List.{IsPrefix}
use Rattle.zq_base.specs.declared.options.EngineOpts.{EngineOpts}
use Rattle.zq_base.specs.declared.options.Role.{Role}
use Rattle.zq_base.specs.declared.kind.Kind.TheVariants.{Push}
use Rattle.spec_zmtp.specs.declared.command.Command.{Command}
use Rattle.spec_zmtp.specs.Greeting.{greeting_of}
use Rattle.spec_zmtp.specs.Put.{Put, commands_in, messages_in, says, encode_puts}
use Rattle.spec_zmtp.specs.DecodedStream.{Decoded, Decodes}
use Rattle.spec_link.specs.LinkAct.{LinkAct, said_of, heard_of, offered_of, put_of}

-- our commands of the handshake, which stand before all else
abbrev pub first_said : Decoded → List Command
first_said d = d.said

-- These puts may be said at a link on which this was heard: our commands of the handshake first, and in all of them each of our commands and each message that was offered, once and in its order.
pub record AreToSay (opts : EngineOpts) (acts : List LinkAct) (d : Decoded) (puts : List Put) : Type 0 where
  pub messages : messages_in puts ≡ offered_of acts
  pub ours : commands_in puts ≡ d.said
  pub later : List Put
  pub first : puts ≡ says (first_said d) ++ later

-- all octets of such puts: our greeting, and then the puts
abbrev pub octets_to_say : Role → List Put → List ℕ
octets_to_say role puts = greeting_of role ++ encode_puts puts

-- the octets that the link took are a front of those of some such puts, or all of them
abbrev pub IsSaid : EngineOpts → Decoded → List LinkAct → Type 0
IsSaid opts d acts = (puts : List Put) × AreToSay opts acts d puts × IsPrefix (said_of acts) (octets_to_say opts.role puts)

abbrev pub IsAllSaid : EngineOpts → Decoded → List LinkAct → Type 0
IsAllSaid opts d acts = (puts : List Put) × AreToSay opts acts d puts × (said_of acts ≡ octets_to_say opts.role puts)

-- The octets that the link gave mean this, and those that it took are a front of what is to be said. The messages put are a front of those heard; a PUSH hears none.
pub record IsLinkRun (opts : EngineOpts) (acts : List LinkAct) (d : Decoded) : Type 0 where
  pub decodes : Decodes opts (heard_of acts) d
  pub said : IsSaid opts d acts
  pub put : IsPrefix (put_of acts) d.messages
  pub drops : opts.kind ≡ Push → put_of acts ≡ []
