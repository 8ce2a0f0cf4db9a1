-- What a session of a SUB or XSUB says at a new link: first the topics that it took at the links before, in order, and then what it takes (RFC 29, "The SUB Socket Type"; that they come first is an own choice).
use Rattle.std.specs.Prelude.{◌≡◌, ◌⊎◌, List, [], ◌++◌, map}
use mathlib.Core.List.{IsPrefix}
use Rattle.zq_base.specs.Message.{Frames}
use Rattle.spec_pattern.specs.Topics.{Topic}
use Rattle.spec_pattern.specs.Subscribing.{tell_message}
use Rattle.spec_zmtp.specs.DecodedStream.{Decoded}
use Rattle.spec_link.specs.LinkAct.{LinkAct, offered_of, repeated_of, taken_of}
use Rattle.spec_link.specs.History.{Basis, Standing}
use Rattle.spec_link.specs.Turn.{IsWriteOnly, WritesAt, ReadsAt, PutsLast, topics_due}
use Rattle.spec_link.specs.Across.{Crosses}

-- the messages that subscribe to these topics
abbrev pub topics_said : List Topic → List Frames
topics_said topics = map (λ t. tell_message (1, t)) topics

-- Of the topics that are due at a link a front is said again, before any message that is taken; and none is taken before all are.
pub record SaysTopicsFirst (due : List Topic) (acts : List LinkAct) : Type 0 where
  pub said : List Topic
  pub left : List Topic
  pub all : said ++ left ≡ due
  pub repeated : repeated_of acts ≡ topics_said said
  pub offered : offered_of acts ≡ topics_said said ++ taken_of acts
  pub wait : (left ≡ []) ⊎ (taken_of acts ≡ [])

-- So it is at a new link, and behind each part of a turn; and so the peer hears, where the link gives it a front of what was written, a front of the topics that are due and of what was taken behind them.
pub record TopicsComeFirst : Type 0 where
  pub begins : (due : List Topic) → SaysTopicsFirst due []
  pub writes : (b : Basis) (s : Standing) (acts more : List LinkAct) → SaysTopicsFirst (topics_due b s.closed) acts → WritesAt b s acts more → SaysTopicsFirst (topics_due b s.closed) (acts ++ more)
  pub reads : (b : Basis) (s : Standing) (due : List Topic) (acts more : List LinkAct) → SaysTopicsFirst due acts → ReadsAt b s acts more → SaysTopicsFirst due (acts ++ more)
  pub puts : (b : Basis) (s : Standing) (due : List Topic) (acts more : List LinkAct) → SaysTopicsFirst due acts → PutsLast b s acts more → SaysTopicsFirst due (acts ++ more)
  pub last : (b : Basis) (due : List Topic) (acts more : List LinkAct) → SaysTopicsFirst due acts → IsWriteOnly b acts more → SaysTopicsFirst due (acts ++ more)
  pub heard : (due : List Topic) (xs ys : List LinkAct) (e : Decoded) → Crosses xs ys e → SaysTopicsFirst due xs → IsPrefix e.messages (topics_said due ++ taken_of xs)
