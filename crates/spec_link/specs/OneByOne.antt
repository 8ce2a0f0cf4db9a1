-- Messages are taken for a link one by one, so that the takes and the last octets tell how many are written and how many are lost (own choice).
use Rattle.std.specs.Prelude.{◌≡◌, ◌⊎◌, ◌-◌, List, [], ◌∷◌, ◌++◌, length, drop, IsSome, All}
use Rattle.zq_base.specs.Message.{Frames}
use Rattle.zq_base.specs.Ends.{PipeId}
use Rattle.zq_base.specs.declared.options.EngineOpts.{EngineOpts}
use Rattle.spec_pattern.specs.PipeStep.{PipeStep, Take}
use Rattle.spec_pattern.specs.Topics.{Topic}
use Rattle.spec_zmtp.specs.Put.{IsSendable}
use Rattle.spec_zmtp.specs.DecodedStream.{Decoded, Decodes}
use Rattle.spec_link.specs.LinkAct.{LinkAct, Step, heard_of, offered_of, repeated_of, taken_of}
use Rattle.spec_link.specs.LinkRun.{IsLinkRun, IsAllSaid}
use Rattle.spec_link.specs.Rows.{IsWritten, IsLost}
use Rattle.spec_link.specs.History.{Basis, Standing}
use Rattle.spec_link.specs.Turn.{IsLook, IsWriteOnly, WritesAt, ReadsAt, PutsLast, topics_due}

-- When the last message was taken the handshake was done, all was said, and no topic was left to say again; and nothing is offered since.
pub record TookLast (opts : EngineOpts) (due : List Topic) (acts : List LinkAct) : Type 0 where
  pub before : List LinkAct
  pub behind : List LinkAct
  pub pipe : PipeId
  pub message : Frames
  pub all : acts ≡ before ++ Step (Take pipe message) ∷ behind
  pub quiet : offered_of behind ≡ []
  pub meant : Decoded
  pub decodes : Decodes opts (heard_of before) meant
  pub known : IsSome meant.peer
  pub said : IsAllSaid opts meant before
  pub none_left : drop (length (repeated_of acts)) due ≡ []

-- no message was taken at this link, or the last one so
abbrev pub TakesOneByOne : EngineOpts → (due : List Topic) → List LinkAct → Type 0
TakesOneByOne opts due acts = (taken_of acts ≡ []) ⊎ TookLast opts due acts

-- So it is at a new link, and behind each part of a turn where what was heard means something.
pub record TakesComeOneByOne : Type 0 where
  pub begins : (opts : EngineOpts) (due : List Topic) → TakesOneByOne opts due []
  pub writes : (b : Basis) (s : Standing) (acts more : List LinkAct) (d : Decoded) → Decodes b.opts (heard_of acts) d →
      TakesOneByOne b.opts (topics_due b s.closed) acts → WritesAt b s acts more → TakesOneByOne b.opts (topics_due b s.closed) (acts ++ more)
  pub reads : (b : Basis) (s : Standing) (due : List Topic) (acts more : List LinkAct) → TakesOneByOne b.opts due acts → ReadsAt b s acts more → TakesOneByOne b.opts due (acts ++ more)
  pub puts : (b : Basis) (s : Standing) (due : List Topic) (acts more : List LinkAct) → TakesOneByOne b.opts due acts → PutsLast b s acts more → TakesOneByOne b.opts due (acts ++ more)
  pub last : (b : Basis) (due : List Topic) (acts more : List LinkAct) → TakesOneByOne b.opts due acts → IsWriteOnly b acts more → TakesOneByOne b.opts due (acts ++ more)
  pub looks : (opts : EngineOpts) (due : List Topic) (acts : List LinkAct) (pipe : PipeId) (step : PipeStep) → TakesOneByOne opts due acts → IsLook pipe step → TakesOneByOne opts due (acts ++ Step step ∷ [])

-- At a link of which something is still to be said each message that was taken is written but for the last one, which a link that ends there has lost.
pub record AllButOneAreWritten : Type 0 where
  pub none : (opts : EngineOpts) (acts : List LinkAct) (d : Decoded) → taken_of acts ≡ [] → IsLinkRun opts acts d → IsWritten opts d acts 0 × IsLost opts d acts 0
  pub one : (opts : EngineOpts) (due : List Topic) (acts : List LinkAct) (d : Decoded) → All IsSendable (offered_of acts) → TookLast opts due acts → IsLinkRun opts acts d →
      (IsAllSaid opts d acts → ⊥) → IsWritten opts d acts (length (taken_of acts) - 1) × IsLost opts d acts 1
