-- What one engine writes, and another hears.
use Rattle.std.specs.Prelude.{◌≡◌, ℕ, true, if◌then◌else◌, List, [], ◌++◌, Some, IsSome, All}
use mathlib.Core.List.{IsPrefix}
use Rattle.zq_base.specs.declared.options.EngineOpts.{EngineOpts}
use Rattle.zq_base.specs.declared.options.Peer.{Peer}
use Rattle.zq_base.specs.declared.options.Role.{Role}
use Rattle.zq_base.specs.declared.options.Role.TheVariants.{Null, PlainClient, PlainServer}
use Rattle.spec_zmtp.specs.declared.cause.Refusal.{Refusal}
use Rattle.spec_zmtp.specs.Metadata.{encode_login}
use Rattle.zq_base.specs.Kind.{fits}
use Rattle.spec_zmtp.specs.OwnCommands.{IsEngineOpts, tells_identity, own_login}
use Rattle.spec_zmtp.specs.Handshake.{is_welcome}
use Rattle.spec_zmtp.specs.Put.{IsSendable, messages_in}
use Rattle.spec_zmtp.specs.DecodedStream.{Unfinished, Refused, Decoded, Decodes, octets_said}
use Rattle.zmtp_engine.specs.Conversation.{Past, Conversation, Follows, IsCurrent, HasLeft, unwritten, waiting}

-- to an engine of these options the octets are a whole handshake and no more: the peer is known, no message came, and nothing is
-- unfinished or refused
pub record IsHandshake (opts : EngineOpts) (octets : List ℕ) (d : Decoded) : Type 0 where
  pub decodes : Decodes opts octets d
  pub known : IsSome d.peer
  pub alone : d.messages ≡ []
  pub whole : d.outcome ≡ Unfinished 0

-- Where all is written that an engine says and was offered, and what it says is a whole handshake to another, the other decodes
-- what was written to exactly the messages that were offered, in order, with the same peer, and nothing unfinished.
abbrev pub DecodesAsOffered : Type 0
DecodesAsOffered = (p : Past) (c : Conversation) (said : Decoded) (other : EngineOpts) (heard : Decoded) →
    Follows p c → IsCurrent c → unwritten c ≡ [] → All IsSendable (messages_in p.put) → Decodes p.opts p.heard said →
    IsHandshake other (octets_said p.opts said) heard → Decodes other p.written (record heard { messages = messages_in p.put })

-- So the other, once it was fed what was written, has those messages and no others: taken out, or still to be taken out.
abbrev pub HearsAsOffered : Type 0
HearsAsOffered = (p q : Past) (c e : Conversation) (said heard : Decoded) →
    Follows p c → IsCurrent c → unwritten c ≡ [] → All IsSendable (messages_in p.put) → Decodes p.opts p.heard said →
    Follows q e → IsCurrent e → q.heard ≡ p.written →
    IsHandshake q.opts (octets_said p.opts said) heard → q.given ++ waiting e ≡ messages_in p.put

-- ---- sides that fit

-- Whether the mechanisms of two sides meet: none and none, or a PLAIN client whose login the server accepts. A server that is
-- done has accepted its client.
abbrev pub RolesMeet : Role → Role → EngineOpts → EngineOpts → Type 0
RolesMeet Null Null opts other = Unit {0}
RolesMeet Null PlainClient opts other = ⊥
RolesMeet Null PlainServer opts other = ⊥
RolesMeet PlainClient Null opts other = ⊥
RolesMeet PlainClient PlainClient opts other = ⊥
RolesMeet PlainClient PlainServer opts other = is_welcome other.logins (encode_login (own_login opts.logins)) ≡ true
RolesMeet PlainServer Null opts other = ⊥
RolesMeet PlainServer PlainClient opts other = Unit {0}
RolesMeet PlainServer PlainServer opts other = ⊥

-- what a side of these options says fits the other: the kinds may be joined, and the mechanisms meet
pub record Fitting (opts other : EngineOpts) : Type 0 where
  pub ours : IsEngineOpts opts
  pub kinds : fits other.kind opts.kind ≡ true
  pub roles : RolesMeet opts.role other.role opts other

-- the peer that a side of these options is to another
abbrev pub as_told : EngineOpts → Peer
as_told opts = record { kind = opts.kind; identity = (if tells_identity opts.kind then opts.id else []) }

-- Once an engine's handshake is done, what it says is a whole handshake to each side that fits.
abbrev pub FittingHandshake : Type 0
FittingHandshake = (opts other : EngineOpts) (octets : List ℕ) (said : Decoded) →
    Fitting opts other → Decodes opts octets said → IsSome said.peer →
    (heard : Decoded) × IsHandshake other (octets_said opts said) heard × (heard.peer ≡ Some (as_told opts))

-- Where all is written that an engine says and was offered, and its handshake is done, a side that fits decodes what was written
-- to exactly the messages that were offered, in order, from the peer that the engine is, and nothing unfinished.
abbrev pub FittingDecodes : Type 0
FittingDecodes = (p : Past) (c : Conversation) (said : Decoded) (other : EngineOpts) →
    Follows p c → IsCurrent c → unwritten c ≡ [] → All IsSendable (messages_in p.put) → Decodes p.opts p.heard said →
    IsSome said.peer → Fitting p.opts other →
    (heard : Decoded) × Decodes other p.written heard × (heard.messages ≡ messages_in p.put)
    × (heard.peer ≡ Some (as_told p.opts)) × (heard.outcome ≡ Unfinished 0)

-- So an engine that fits, once it was fed what was written, has those messages and no others: taken out, or still to be taken out.
abbrev pub FittingHears : Type 0
FittingHears = (p q : Past) (c e : Conversation) (said : Decoded) →
    Follows p c → IsCurrent c → unwritten c ≡ [] → All IsSendable (messages_in p.put) → Decodes p.opts p.heard said →
    IsSome said.peer → Follows q e → IsCurrent e → q.heard ≡ p.written →
    Fitting p.opts q.opts → q.given ++ waiting e ≡ messages_in p.put

-- Two sides that fit each other and are each fed all that the other says know each other.
abbrev pub FittingMeet : Type 0
FittingMeet = (opts other : EngineOpts) (x y : List ℕ) (d e : Decoded) →
    Fitting opts other → Fitting other opts → Decodes opts x d → Decodes other y e →
    x ≡ octets_said other e → y ≡ octets_said opts d →
    (d.peer ≡ Some (as_told other)) × (e.peer ≡ Some (as_told opts))

-- ---- a link that is cut

-- Whatever front of what an engine has written another side is fed, and whoever that side is: the messages that it decodes are a
-- front of those that were offered.
abbrev pub CutDecodes : Type 0
CutDecodes = (p : Past) (c : Conversation) (front : List ℕ) (other : EngineOpts) (e : Decoded) →
    Follows p c → IsPrefix front p.written → All IsSendable (messages_in p.put) → Decodes other front e →
    IsPrefix e.messages (messages_in p.put)

-- Where that side fits, and the engine's handshake is done, it refuses nothing of it.
abbrev pub CutFits : Type 0
CutFits = (p : Past) (c : Conversation) (d : Decoded) (front : List ℕ) (other : EngineOpts) (e : Decoded) →
    Follows p c → Decodes p.opts p.heard d → IsSome d.peer → IsPrefix front p.written → All IsSendable (messages_in p.put) →
    Fitting p.opts other → Decodes other front e → (r : Refusal) → e.outcome ≡ Refused r → ⊥

-- ---- what an engine has left

-- Whatever memory wanted: what was given and written are fronts of what the octets fed mean, and what is left goes on there.
abbrev pub HasItsMeaning : Type 0
HasItsMeaning = (p : Past) (c : Conversation) (d : Decoded) → Follows p c → Decodes p.opts p.heard d → HasLeft p c d

-- Once all is taken up, what was heard has a meaning.
abbrev pub HasMeaning : Type 0
HasMeaning = (p : Past) (c : Conversation) → Follows p c → IsCurrent c → (d : Decoded) × HasLeft p c d
