-- A call of a socket that meets want of memory keeps its peers (zmq_socket(3); own choice).
use Rattle.std.specs.Prelude.{◌≡◌, ℕ, Bool, List, Option}
use Rattle.zq_base.specs.Message.{Frames}
use Rattle.spec_pattern.specs.AtPlaces.{TellsWritable}
use Rattle.spec_pattern.specs.PipeStep.{PipeStep}
use Rattle.spec_pattern.specs.TurnList.{End}
use Rattle.spec_pattern.specs.Topics.{Topic}
use Rattle.spec_pattern.specs.Pattern.{Pattern}
use Rattle.spec_pattern.specs.PatternCalls.{Change}
use Rattle.spec_pattern.specs.declared.answers.Skip.{Skip}
use Rattle.spec_pattern.specs.Peers.{KeepsPeers}
use Rattle.router_dealer.specs.Named.{Kept}
use Rattle.any_sock.specs.Stopped.{StopsReceive, StopsPump, StopsChange, StopsSend}
use Rattle.socket_laws.specs.Bounds.{drawn_of}

-- it keeps its kind and its peers, and draws no name
pub record KeepsTheirs (old new : Pattern) : Type 0 where
  pub peers : KeepsPeers old new
  pub drawn : drawn_of new ≡ drawn_of old

-- whatever ends can be written, if there is a test that tells it
pub record StopsKeepPeers : Type 0 where
  pub receives : (old : Pattern) (steps : List PipeStep) (skips : List Skip) (kept : Option Kept) (new : Pattern) → StopsReceive old steps skips kept new → KeepsTheirs old new
  pub pumps : (ends : ℕ → End) (writable : ℕ → Bool) (places : List ℕ) (can_write : End → Bool) → TellsWritable can_write ends writable places →
      (old : Pattern) (steps : List PipeStep) (new : Pattern) → StopsPump (λ w. TellsWritable w ends writable places) old steps new → KeepsTheirs old new
  pub changes : (ends : ℕ → End) (writable : ℕ → Bool) (places : List ℕ) (can_write : End → Bool) → TellsWritable can_write ends writable places →
      (change : Change) (topic : Topic) (old : Pattern) (steps : List PipeStep) (new : Pattern) → StopsChange (λ w. TellsWritable w ends writable places) change topic old steps new → KeepsTheirs old new
  pub sends : (ends : ℕ → End) (writable : ℕ → Bool) (places : List ℕ) (can_write : End → Bool) → TellsWritable can_write ends writable places →
      (m : Frames) (old : Pattern) (steps : List PipeStep) (new : Pattern) → StopsSend (λ w. TellsWritable w ends writable places) m old steps new → KeepsTheirs old new
