-- What the octets heard so far mean for a session that reads alone, and a reading part without puts (own choice).
use Rattle.std.specs.Prelude.{◌≡◌, ℕ, List, length, Option, Some}
use Rattle.zq_base.specs.declared.options.EngineOpts.{EngineOpts}
use Rattle.zq_base.specs.declared.options.Peer.{Peer}
use Rattle.zq_outer.specs.declared.link.LinkGot.{LinkGot}
use Rattle.spec_zmtp.specs.declared.cause.Cause.{Cause}
use Rattle.spec_zmtp.specs.declared.cause.Refusal.{Refusal}
use Rattle.spec_zmtp.specs.DecodedStream.{Decoded, Decodes, Refused}
use Rattle.spec_link.specs.LinkAct.{LinkAct, heard_of}
use Rattle.spec_link.specs.Parts.{SomethingToWrite, NothingToWrite, NothingHeld, IsSilentReadPart, ReadFits, read_acts}
use Rattle.spec_link.specs.Rows.{count_of}
use Rattle.link_side.specs.Kept.{Kept, HasRun, Acts}
use Rattle.link_side.specs.Calls.{Adds}

-- the reading part of a session that puts nothing; it starts at rest
pub record HearsBy (old : Kept) (answer : Option LinkGot) (new : Kept) (heard heard' : Option (List ℕ)) : Type 0 where
  pub octets : List ℕ
  pub fits : ReadFits answer octets
  pub told : Adds heard octets heard'
  pub run : Acts old (read_acts answer octets) new
  pub part : (opts : EngineOpts) (acts : List LinkAct) → HasRun opts acts old →
      IsSilentReadPart (NothingHeld opts acts) (read_acts answer octets)

-- whatever acts these octets are of: so many whole messages were heard
abbrev pub HasHeard : ℕ → Kept → Type 0
HasHeard n k = (opts : EngineOpts) (acts : List LinkAct) → HasRun opts acts k → (d : Decoded) → Decodes opts (heard_of acts) d → n ≡ count_of (length d.messages)

-- whatever acts these octets are of: something is to be written, or nothing
abbrev pub HasOutput : Kept → Type 0
HasOutput k = (opts : EngineOpts) (acts : List LinkAct) → HasRun opts acts k → SomethingToWrite opts acts

abbrev pub HasNone : Kept → Type 0
HasNone k = (opts : EngineOpts) (acts : List LinkAct) → HasRun opts acts k → NothingToWrite opts acts × (SomethingToWrite opts acts → ⊥)

-- the stream is refused for this cause, or it isn't
abbrev pub IsRefusedNow : Cause → Kept → Type 0
IsRefusedNow cause k = (opts : EngineOpts) (acts : List LinkAct) → HasRun opts acts k →
    (r : Refusal) × (cause ≡ r.cause) × ((d : Decoded) × Decodes opts (heard_of acts) d × (d.outcome ≡ Refused r))
    × ((d : Decoded) → Decodes opts (heard_of acts) d → d.outcome ≡ Refused r)

abbrev pub IsUnrefused : Kept → Type 0
IsUnrefused k = (opts : EngineOpts) (acts : List LinkAct) → HasRun opts acts k →
    (d : Decoded) → Decodes opts (heard_of acts) d → (r : Refusal) → d.outcome ≡ Refused r → ⊥

-- the handshake is done with this peer, whatever came behind it; or it isn't done with any
abbrev pub IsShaken : Peer → Kept → Type 0
IsShaken peer k = (opts : EngineOpts) (acts : List LinkAct) → HasRun opts acts k →
    (d : Decoded) → Decodes opts (heard_of acts) d → d.peer ≡ Some peer

abbrev pub IsUnshaken : Kept → Type 0
IsUnshaken k = (opts : EngineOpts) (acts : List LinkAct) → HasRun opts acts k →
    (peer : Peer) → ((d : Decoded) → Decodes opts (heard_of acts) d → d.peer ≡ Some peer) → ⊥
