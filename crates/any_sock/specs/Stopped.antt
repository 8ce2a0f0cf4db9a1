-- A receive, a hearing and a telling that meet want of memory: what they did before stays done (own choice).
use Rattle.std.specs.Prelude.{◌≡◌, ◌≤◌, ◌⊎◌, ℕ, Bool, true, List, [], ◌∷◌, ◌++◌, Option, Some, None, length}
use Rattle.zq_base.specs.Message.{Frames}
use Rattle.spec_pattern.specs.PipeStep.{PipeStep}
use Rattle.spec_pattern.specs.TurnList.{End}
use Rattle.spec_pattern.specs.Drops.{Round, Given, Drops, most_drops}
use Rattle.spec_pattern.specs.RequestReply.{reply_of, request_of}
use Rattle.spec_pattern.specs.Topics.{Topic, Subscribers}
use Rattle.spec_pattern.specs.Wanted.{Wanted}
use Rattle.spec_pattern.specs.Publishing.{Saying, Adds, Cancels, Other, saying_of, Publisher, Hears}
use Rattle.spec_pattern.specs.Subscribing.{Subscriber, TellsAll, wanted_of}
use Rattle.spec_pattern.specs.Pattern.{Pattern, Req, Rep, Router, Pub, XPub, Sub, XSub}
use Rattle.spec_pattern.specs.PatternCalls.{PatternReceives, Change, Subscribe, Unsubscribe}
use Rattle.spec_pattern.specs.declared.answers.Rule.{Rule}
use Rattle.spec_pattern.specs.declared.answers.Rule.TheVariants.{Stray, BadEnv, Filtered}
use Rattle.spec_pattern.specs.declared.answers.Skip.{Skip}
use Rattle.spec_pattern.specs.declared.answers.RecvAnswer.TheVariants as got
use Rattle.spec_pattern.specs.Peers.{partner_of}
use Rattle.router_dealer.specs.Named.{Kept}
use Rattle.pub_sub.specs.Hearing.{HearsThrough}
use Rattle.pub_sub.specs.Telling.{TellsThrough}
use Rattle.pub_sub.specs.Subscribing.{may_change, wanted_by}

-- these messages were dropped, no more than one call drops
pub record DropsAtMost (gives : End → Frames → Option Given) (rule : Rule) (turns : List End) (steps : List PipeStep) (skips : List Skip) (turns' : List End) : Type 0 where
  pub dropped : List Round
  pub few : length dropped ≤ most_drops
  pub drops : Drops gives rule turns dropped steps skips turns'

-- some messages were heard by turn
abbrev pub HeardSome : Publisher → List PipeStep → Publisher → Type 0
HeardSome p steps new = (rounds : List Round) × HearsThrough 0 p rounds steps new

-- some peers were told, then one some of what differs, and those behind it nothing
pub record TellsSome (can_write : End → Bool) (wanted : Wanted) (followers : Subscribers End) (steps : List PipeStep) (followers' : Subscribers End) : Type 0 where
  pub before : Subscribers End
  pub before' : Subscribers End
  pub peer : End
  pub told : List Topic
  pub told' : List Topic
  pub behind : Subscribers End
  pub followers_are : followers ≡ before ++ (peer, told) ∷ behind
  pub followers_new : followers' ≡ before' ++ (peer, told') ∷ behind
  pub first : List PipeStep
  pub changes : List (ℕ × Topic)
  pub last : List PipeStep
  pub tells : TellsAll can_write wanted before first before'
  pub through : TellsThrough wanted peer told changes last told'
  pub steps_are : steps ≡ first ++ last

-- a subscriber told some of what differs
abbrev pub ToldSome : ((End → Bool) → Type 0) → Subscriber → List PipeStep → Subscriber → Type 0
ToldSome reads s steps new =
    (followers : Subscribers End)
    × ((can_write : End → Bool) → reads can_write → TellsSome can_write s.wanted s.followers steps followers)
    × (new ≡ record s { followers = followers })

-- A receive met want of memory. A REQ, a REP and a SUB had dropped some messages; a ROUTER had taken the message that is left to be given; an XPUB had heard some of its peers' messages, or all and had no memory for the one that it would have given. No other kind's receive needs memory.
abbrev pub StopsReceive : Pattern → List PipeStep → List Skip → Option Kept → Pattern → Type 0
StopsReceive (Req t duty) steps skips left new =
    (left ≡ None) × (ins' : List End) × DropsAtMost (reply_of (partner_of duty)) Stray t.ins steps skips ins'
    × (new ≡ Req (record t { ins = ins' }) duty)
StopsReceive (Rep ins duty) steps skips left new =
    (left ≡ None) × (ins' : List End) × DropsAtMost request_of BadEnv ins steps skips ins' × (new ≡ Rep ins' duty)
StopsReceive (Router r) steps skips left new =
    (k : Kept) × (left ≡ Some k) × PatternReceives (Router r) steps skips (got.Got k.pair k.message) new
StopsReceive (XPub p) steps skips left new =
    (left ≡ None) × (skips ≡ []) × (p' : Publisher) × (HeardSome p steps p' ⊎ Hears p steps p') × (new ≡ XPub p')
StopsReceive (Sub s) steps skips left new =
    (left ≡ None) × (ins' : List End) × DropsAtMost (wanted_of s.wanted) Filtered s.ins steps skips ins' × (new ≡ Sub (record s { ins = ins' }))
StopsReceive _ steps skips left new = ⊥

-- what comes before a call met want of memory, by any of these tests: a publisher had heard some of its peers' messages, or a subscriber told some of what differs
abbrev pub StopsPump : ((End → Bool) → Type 0) → Pattern → List PipeStep → Pattern → Type 0
StopsPump reads (Pub p) steps new = (p' : Publisher) × HeardSome p steps p' × (new ≡ Pub p')
StopsPump reads (XPub p) steps new = (p' : Publisher) × HeardSome p steps p' × (new ≡ XPub p')
StopsPump reads (Sub s) steps new = (s' : Subscriber) × ToldSome reads s steps s' × (new ≡ Sub s')
StopsPump reads (XSub s) steps new = (s' : Subscriber) × ToldSome reads s steps s' × (new ≡ XSub s')
StopsPump reads _ steps new = ⊥

-- a subscriber made a change of what it wants, and told some of what differs then
abbrev pub ToldOfChange : ((End → Bool) → Type 0) → Change → Topic → Subscriber → List PipeStep → Subscriber → Type 0
ToldOfChange reads change topic s steps new =
    (may_change change topic s.wanted ≡ true) × ToldSome reads (record s { wanted = wanted_by change topic s.wanted }) steps new

-- a change of topics was made, and telling it met want of memory
abbrev pub StopsChange : ((End → Bool) → Type 0) → Change → Topic → Pattern → List PipeStep → Pattern → Type 0
StopsChange reads change topic (Sub s) steps new = (s' : Subscriber) × ToldOfChange reads change topic s steps s' × (new ≡ Sub s')
StopsChange reads change topic (XSub s) steps new = (s' : Subscriber) × ToldOfChange reads change topic s steps s' × (new ≡ XSub s')
StopsChange reads change topic _ steps new = ⊥

-- what a message says was obeyed, and some of what differs was told
abbrev pub SaysSome : ((End → Bool) → Type 0) → Saying → Subscriber → List PipeStep → Subscriber → Type 0
SaysSome reads (Adds topic) s steps new = ToldOfChange reads Subscribe topic s steps new
SaysSome reads (Cancels topic) s steps new = ToldOfChange reads Unsubscribe topic s steps new
SaysSome reads Other s steps new = ⊥

-- an XSUB's message was a subscription or a cancel, and telling it met want of memory
abbrev pub StopsSend : ((End → Bool) → Type 0) → Frames → Pattern → List PipeStep → Pattern → Type 0
StopsSend reads m (XSub s) steps new = (s' : Subscriber) × SaysSome reads (saying_of m) s steps s' × (new ≡ XSub s')
StopsSend reads m _ steps new = ⊥
