-- What an engine's answers tell.
use Rattle.std.specs.Prelude.{ℕ, List, Option, Some, None}
use Rattle.zq_base.specs.declared.options.Peer.{Peer}
use Rattle.spec_zmtp.specs.declared.cause.Refusal.{Refusal}
use Rattle.spec_zmtp.specs.DecodedStream as decoded
use Rattle.zmtp_engine.specs.declared.answers.State.{State}
use Rattle.zmtp_engine.specs.declared.answers.State.TheVariants.{Shaking, Running, Refused}
use Rattle.zmtp_engine.specs.declared.answers.Offered.{Offered}
use Rattle.zmtp_engine.specs.declared.answers.Offered.TheVariants.{Taken, Again}
use Rattle.zmtp_engine.specs.Listening.{refusal_now}
use Rattle.zmtp_engine.specs.Conversation.{Conversation}

-- a fact for each answer to an offer
abbrev pub MatchOffered : Offered → Type 0 → (List (List ℕ) → Type 0) → Type 0
MatchOffered Taken taken again = taken
MatchOffered (Again message) taken again = again message

-- how a stream stands, with the peer once the handshake is done
pub data Standing : Type 0 where
  IsShaking : Standing
  IsRunning : Peer → Standing
  IsRefused : Refusal → Standing

-- what a state tells
abbrev pub standing_of : State → Standing
standing_of Shaking = IsShaking
standing_of (Running peer) = IsRunning peer.now
standing_of (Refused r) = IsRefused r

-- how it stands by a refusal and the peer
abbrev pub standing_by : Option Refusal → Option Peer → Standing
standing_by (Some r) peer = IsRefused r
standing_by None None = IsShaking
standing_by None (Some peer) = IsRunning peer

-- how the stream of an engine stands
abbrev pub standing_now : Conversation → Standing
standing_now c = standing_by (refusal_now c.listening) c.listening.hearing.peer

-- how a decoded stream stands
abbrev pub standing_at : decoded.Outcome → Option Peer → Standing
standing_at (decoded.Refused r) peer = IsRefused r
standing_at (decoded.Unfinished n) None = IsShaking
standing_at (decoded.Unfinished n) (Some peer) = IsRunning peer
