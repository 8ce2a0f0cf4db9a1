-- PUB and XPUB (RFC 29, "The PUB Socket Type" and "The XPUB Socket Type"): messages go to the peers that subscribed to them, and what peers send are subscriptions and cancels. How many messages are heard at once is an own choice.
use Rattle.std.specs.Prelude.{◌≡◌, ◌⊎◌, ℕ, suc, Bool, true, false, not, ◌&&◌, ◌||◌, ◌==◌, List, [], ◌∷◌, ◌++◌, map, filter, length, nat_le, if◌then◌else◌}
use Rattle.zq_base.specs.Message.{Frames, max_committed}
use Rattle.zq_base.specs.declared.ids.PairId.{PairId}
use Rattle.spec_pattern.specs.PipeStep.{PipeStep, Commit, FullLook, same_pipe}
use Rattle.spec_pattern.specs.TurnList.{End, NoneHasMessage}
use Rattle.spec_pattern.specs.Drops.{Round, Comes}
use Rattle.spec_pattern.specs.Topics.{Topic, Subscribers, has_topic, others_have, is_full, after_add, after_cancel, topics_gone, with_peer, without_peer, matching}
use Rattle.spec_pattern.specs.declared.answers.Rule.TheVariants.{NoMatch, PubFull}
use Rattle.spec_pattern.specs.declared.answers.SendRefusal.TheVariants as send
use Rattle.spec_pattern.specs.declared.answers.SendAnswer.{SendAnswer}
use Rattle.spec_pattern.specs.declared.answers.SendAnswer.TheVariants as sent
use Rattle.spec_pattern.specs.declared.answers.RecvRefusal.TheVariants as recv
use Rattle.spec_pattern.specs.declared.answers.RecvAnswer.{RecvAnswer}
use Rattle.spec_pattern.specs.declared.answers.RecvAnswer.TheVariants as got

-- ---- what a peer says

-- a message says that a topic is subscribed to, or is cancelled, or something else
pub data Saying : Type 0 where
  Adds : (topic : Topic) → Saying
  Cancels : (topic : Topic) → Saying
  Other : Saying

-- one frame that begins with octet 1 subscribes to the topic behind it, and one with octet 0 cancels it
abbrev pub saying_of : Frames → Saying
saying_of [] = Other
saying_of ([] ∷ frames) = Other
saying_of ((octet ∷ topic) ∷ []) = if octet == 1 then Adds topic else (if octet == 0 then Cancels topic else Other)
saying_of ((octet ∷ topic) ∷ (frame ∷ frames)) = Other

-- the subscriptions once the peer said this
abbrev pub subs_after : End → Saying → Subscribers End → Subscribers End
subs_after e (Adds topic) subs = after_add same_pipe e topic subs
subs_after e (Cancels topic) subs = after_cancel same_pipe e topic subs
subs_after e Other subs = subs

-- ---- what a publisher keeps

-- what an XPUB gives to its user: a message, and the pair that it tells of
pub record Notice : Type 0 where
  pub pair : PairId
  pub message : Frames

-- a publisher: the turns of its peers, and their topics, in the order of their attachment; what waits for its user; whether a user hears each add, and whether there is a user at all, as an XPUB's
pub record Publisher : Type 0 where
  pub ins : List End
  pub subs : Subscribers End
  pub inbox : List Notice
  pub verbose : Bool
  pub tells : Bool

-- an add is news where it is the topic's first, or each add is; one that adds nothing never is
abbrev pub is_news_add : Publisher → End → Topic → Bool
is_news_add p e topic =
    not (has_topic same_pipe p.subs e topic || is_full same_pipe p.subs e) && (p.verbose || not (others_have same_pipe p.subs e topic))

-- a cancel is news where it is the topic's last
abbrev pub is_news_cancel : Publisher → End → Topic → Bool
is_news_cancel p e topic = has_topic same_pipe p.subs e topic && not (others_have same_pipe p.subs e topic)

-- whether the user hears what the peer said
abbrev pub is_news : Publisher → End → Saying → Bool
is_news p e (Adds topic) = is_news_add p e topic
is_news p e (Cancels topic) = is_news_cancel p e topic
is_news p e Other = true

-- what waits for the user once the peer sent this
abbrev pub inbox_after : Publisher → End → Frames → List Notice
inbox_after p e m =
    if p.tells && is_news p e (saying_of m) then p.inbox ++ record { pair = e.pair; message = m } ∷ [] else p.inbox

-- the publisher once it heard a message that came by turn
abbrev pub heard : Round → List End → Publisher → Publisher
heard r turns p = record p {
  ins = turns;
  subs = subs_after r.peer (saying_of r.message) p.subs;
  inbox = inbox_after p r.peer r.message;
}

-- ---- hearing

-- the most messages that are heard at once, and the most that wait for the user before hearing stops
abbrev pub most_heard : ℕ
most_heard = 256

abbrev pub most_waiting : ℕ
most_waiting = 1000

-- hearing stops after so many messages
abbrev pub stops_hearing : ℕ → Publisher → Bool
stops_hearing count p = nat_le most_heard count || nat_le most_waiting (length p.inbox)

-- hearing is over: it stops, or a look at each peer gives no message
abbrev pub EndsHearing : Bool → Publisher → List PipeStep → Publisher → Type 0
EndsHearing true p steps new = (steps ≡ []) × (new ≡ p)
EndsHearing false p steps new = (turns : List End) × NoneHasMessage p.ins steps turns × (new ≡ record p { ins = turns })

-- so many messages were heard, and then these are, by turn, until hearing is over
abbrev pub HearsFrom : ℕ → Publisher → List Round → List PipeStep → Publisher → Type 0
HearsFrom count p [] steps new = EndsHearing (stops_hearing count p) p steps new
HearsFrom count p (r ∷ rs) steps new =
    (stops_hearing count p ≡ false) × (turns : List End) × (first : List PipeStep) × (rest : List PipeStep)
    × Comes p.ins r first turns × HearsFrom (suc count) (heard r turns p) rs rest new × (steps ≡ first ++ rest)

-- a publisher hears its peers
abbrev pub Hears : Publisher → List PipeStep → Publisher → Type 0
Hears p steps new = (rounds : List Round) × HearsFrom 0 p rounds steps new

-- ---- sending to many

-- the message is offered to each of these ends in order: it is committed where there is room, and a look finds the others full
abbrev pub Offers : Frames → List End → List PipeStep → List End → List End → Type 0
Offers m [] steps put full = (steps ≡ []) × (put ≡ []) × (full ≡ [])
Offers m (e ∷ es) steps put full =
    (rest : List PipeStep) × (put' : List End) × (full' : List End) × Offers m es rest put' full'
    × (((steps ≡ Commit e m ∷ rest) × (put ≡ e ∷ put') × (full ≡ full'))
    ⊎ ((steps ≡ FullLook e ∷ rest) × (put ≡ put') × (full ≡ e ∷ full')))

abbrev pub pairs_of : List End → List PairId
pairs_of ends = map (λ e. e.pair) ends

-- what is answered: a message without a taker is given up, and one that finds all of them full
abbrev pub many_answer : List End → List End → SendAnswer
many_answer [] [] = sent.Dropped NoMatch
many_answer [] (e ∷ full) = sent.Dropped PubFull
many_answer (e ∷ put) full = sent.Many (record { put = pairs_of (e ∷ put); full = pairs_of full })

-- a message is sent to all of these ends
pub record SendsToMany (m : Frames) (ends : List End) (steps : List PipeStep) (answer : SendAnswer) : Type 0 where
  pub put : List End
  pub full : List End
  pub offers : Offers m ends steps put full
  pub answer_is : answer ≡ many_answer put full

-- of the peers, those that a message goes to: a topic of theirs is a prefix of its first frame, and they can be written
abbrev pub takers : (End → Bool) → Subscribers End → Frames → List End
takers can_write subs [] = []
takers can_write subs (frame ∷ frames) = filter can_write (matching same_pipe subs frame)

-- a message that fits, and one that doesn't
abbrev pub PublishesWhere : Bool → (End → Bool) → Subscribers End → Frames → List PipeStep → SendAnswer → Type 0
PublishesWhere true can_write subs m steps answer = SendsToMany m (takers can_write subs m) steps answer
PublishesWhere false can_write subs m steps answer = (answer ≡ sent.Refused send.TooLarge) × (steps ≡ [])

-- a PUB or an XPUB is asked to send m, which leaves it as it is
abbrev pub PubSends : (End → Bool) → Frames → Publisher → List PipeStep → SendAnswer → Type 0
PubSends can_write m p steps answer = PublishesWhere (nat_le (length m) max_committed) can_write p.subs m steps answer

-- ---- an XPUB's receive

-- what waits first is given; with nothing waiting the receive is refused, as busy where it heard as many as it may
abbrev pub GivesFirst : ℕ → Publisher → List Notice → RecvAnswer → Publisher → Type 0
GivesFirst count p [] answer new =
    (answer ≡ got.Refused (if nat_le most_heard count then recv.Busy else recv.Again)) × (new ≡ p)
GivesFirst count p (n ∷ ns) answer new = (answer ≡ got.Got n.pair n.message) × (new ≡ record p { inbox = ns })

-- an XPUB is asked to receive: it hears where nothing waits
abbrev pub XPubReceivesWhere : List Notice → Publisher → List PipeStep → RecvAnswer → Publisher → Type 0
XPubReceivesWhere [] p steps answer new =
    (rounds : List Round) × (mid : Publisher) × HearsFrom 0 p rounds steps mid × GivesFirst (length rounds) mid mid.inbox answer new
XPubReceivesWhere (n ∷ ns) p steps answer new = (steps ≡ []) × GivesFirst 0 p (n ∷ ns) answer new

abbrev pub XPubReceives : Publisher → List PipeStep → RecvAnswer → Publisher → Type 0
XPubReceives p steps answer new = XPubReceivesWhere p.inbox p steps answer new

-- ---- peers come and go

-- a further peer, without a topic
abbrev pub with_subscriber : End → Publisher → Publisher
with_subscriber e p = record p { ins = p.ins ++ e ∷ []; subs = with_peer e p.subs }

-- that nobody keeps up a topic any longer
abbrev pub cancel_of : End → Topic → Notice
cancel_of e topic = record { pair = e.pair; message = (0 ∷ topic) ∷ [] }

-- a peer goes, and with it the topics that nobody else has, in order
abbrev pub without_subscriber : End → Publisher → Publisher
without_subscriber e p = record p {
  ins = filter (λ x. not (same_pipe e x)) p.ins;
  subs = without_peer same_pipe e p.subs;
  inbox = if p.tells then p.inbox ++ map (cancel_of e) (topics_gone same_pipe p.subs e) else p.inbox;
}
