-- SUB and XSUB (RFC 29, "The SUB Socket Type" and "The XSUB Socket Type"): what a socket wants is told to its publishers, and of what they send a SUB gives what it wants.
use Rattle.std.specs.Prelude.{◌≡◌, ◌⊎◌, ℕ, Bool, true, false, not, ◌&&◌, ◌==◌, List, [], ◌∷◌, ◌++◌, filter, length, nat_le, Option, Some, None, if◌then◌else◌}
use Rattle.std.specs.Map.{keys_of}
use Rattle.zq_base.specs.Message.{Frames, max_committed}
use Rattle.spec_pattern.specs.PipeStep.{PipeStep, Commit, FullLook, same_pipe}
use Rattle.spec_pattern.specs.TurnList.{End}
use Rattle.spec_pattern.specs.Duty.{Free}
use Rattle.spec_pattern.specs.Drops.{Given, ReceivesDropping}
use Rattle.spec_pattern.specs.Pipeline.{PullReceives}
use Rattle.spec_pattern.specs.Topics.{Topic, Subscribers, with_topic, without_topic, with_peer, without_peer}
use Rattle.spec_pattern.specs.Wanted.{Wanted, wants, is_at_limit, with_one_more, with_one_less, matches_wanted, difference}
use Rattle.spec_pattern.specs.Publishing.{Saying, Adds, Cancels, Other, saying_of, SendsToMany}
use Rattle.spec_pattern.specs.declared.answers.Rule.TheVariants.{NoSub, Filtered}
use Rattle.spec_pattern.specs.declared.answers.Skip.{Skip}
use Rattle.spec_pattern.specs.declared.answers.SendRefusal.TheVariants as send
use Rattle.spec_pattern.specs.declared.answers.SendAnswer.{SendAnswer}
use Rattle.spec_pattern.specs.declared.answers.SendAnswer.TheVariants as sent
use Rattle.spec_pattern.specs.declared.answers.RecvAnswer.{RecvAnswer}

-- a subscriber: the turns of its peers, what it wants, and its peers in the order of their attachment with what each was told
pub record Subscriber : Type 0 where
  pub ins : List End
  pub wanted : Wanted
  pub followers : Subscribers End

-- ---- telling

-- an octet with a topic, as it is told
abbrev pub tell_message : ℕ × Topic → Frames
tell_message change = (change.0 ∷ change.1) ∷ []

-- what a peer was told, with one more telling
abbrev pub told_after : ℕ × Topic → List Topic → List Topic
told_after change told = if change.0 == 1 then with_topic change.1 told else without_topic change.1 told

-- telling a peer is over: there is nothing to tell, or a look finds its pipe full
abbrev pub EndsTelling : Option (ℕ × Topic) → End → List PipeStep → Type 0
EndsTelling None e steps = steps ≡ []
EndsTelling (Some change) e steps = steps ≡ FullLook e ∷ []

-- a peer is told these differences between what it was told and what is wanted, one after the other, each the first in order
abbrev pub TellsOn : Wanted → End → List Topic → List (ℕ × Topic) → List PipeStep → List Topic → Type 0
TellsOn wanted e told [] steps told' = EndsTelling (difference told wanted) e steps × (told' ≡ told)
TellsOn wanted e told (change ∷ changes) steps told' =
    (difference told wanted ≡ Some change) × (rest : List PipeStep)
    × TellsOn wanted e (told_after change told) changes rest told' × (steps ≡ Commit e (tell_message change) ∷ rest)

-- a peer that can't be written is told nothing
abbrev pub TellsWhere : Bool → Wanted → End → List Topic → List PipeStep → List Topic → Type 0
TellsWhere true wanted e told steps told' = (changes : List (ℕ × Topic)) × TellsOn wanted e told changes steps told'
TellsWhere false wanted e told steps told' = (steps ≡ []) × (told' ≡ told)

-- the peers are told, one after the other
abbrev pub TellsAll : (End → Bool) → Wanted → Subscribers End → List PipeStep → Subscribers End → Type 0
TellsAll can_write wanted [] steps new = (steps ≡ []) × (new ≡ [])
TellsAll can_write wanted (f ∷ fs) steps new =
    (told' : List Topic) × (fs' : Subscribers End) × (first : List PipeStep) × (rest : List PipeStep)
    × TellsWhere (can_write f.0) wanted f.0 f.1 first told' × TellsAll can_write wanted fs rest fs'
    × (steps ≡ first ++ rest) × (new ≡ (f.0, told') ∷ fs')

-- a subscriber tells its peers
pub record Tells (can_write : End → Bool) (s : Subscriber) (steps : List PipeStep) (new : Subscriber) : Type 0 where
  pub followers : Subscribers End
  pub tells : TellsAll can_write s.wanted s.followers steps followers
  pub new_is : new ≡ record s { followers = followers }

-- a subscriber wants this from now on, and tells it
abbrev pub TellsWanted : (End → Bool) → Wanted → Subscriber → List PipeStep → Subscriber → Type 0
TellsWanted can_write wanted s steps new = Tells can_write (record s { wanted = wanted }) steps new

-- ---- subscribing

-- what a subscription or a cancel is answered: it is done, or as many topics are wanted as may be, or the topic isn't wanted
pub data SubAnswer : Type 0 where
  Done : SubAnswer
  Limit : SubAnswer
  NotSub : SubAnswer

-- whether a subscription to the topic is refused
abbrev pub is_refused : Wanted → Topic → Bool
is_refused wanted topic = not (wants wanted topic) && is_at_limit wanted

abbrev pub SubscribesWhere : Bool → (End → Bool) → Topic → Subscriber → List PipeStep → SubAnswer → Subscriber → Type 0
SubscribesWhere true can_write topic s steps answer new = (answer ≡ Limit) × (steps ≡ []) × (new ≡ s)
SubscribesWhere false can_write topic s steps answer new =
    (answer ≡ Done) × TellsWanted can_write (with_one_more topic s.wanted) s steps new

-- a subscriber is asked to subscribe to the topic
abbrev pub Subscribes : (End → Bool) → Topic → Subscriber → List PipeStep → SubAnswer → Subscriber → Type 0
Subscribes can_write topic s steps answer new =
    SubscribesWhere (is_refused s.wanted topic) can_write topic s steps answer new

abbrev pub UnsubscribesWhere : Bool → (End → Bool) → Topic → Subscriber → List PipeStep → SubAnswer → Subscriber → Type 0
UnsubscribesWhere true can_write topic s steps answer new =
    (answer ≡ Done) × TellsWanted can_write (with_one_less topic s.wanted) s steps new
UnsubscribesWhere false can_write topic s steps answer new = (answer ≡ NotSub) × (steps ≡ []) × (new ≡ s)

-- a subscriber is asked to cancel a subscription to the topic
abbrev pub Unsubscribes : (End → Bool) → Topic → Subscriber → List PipeStep → SubAnswer → Subscriber → Type 0
Unsubscribes can_write topic s steps answer new =
    UnsubscribesWhere (wants s.wanted topic) can_write topic s steps answer new

-- ---- receiving

-- a SUB gives what one of its topics is a prefix of
abbrev pub wanted_of : Wanted → End → Frames → Option Given
wanted_of wanted e [] = None
wanted_of wanted e (frame ∷ frames) =
    if matches_wanted wanted frame then Some (record { message = frame ∷ frames; duty = Free }) else None

-- a SUB is asked to receive
abbrev pub SubReceives : Subscriber → List PipeStep → List Skip → RecvAnswer → Subscriber → Type 0
SubReceives s steps skips answer new =
    (turns : List End) × ReceivesDropping (wanted_of s.wanted) Filtered s.ins steps skips answer turns Free Free
    × (new ≡ record s { ins = turns })

-- an XSUB is asked to receive
abbrev pub XSubReceives : Subscriber → List PipeStep → RecvAnswer → Subscriber → Type 0
XSubReceives s steps answer new =
    (turns : List End) × PullReceives s.ins steps answer turns × (new ≡ record s { ins = turns })

-- ---- an XSUB's send

-- how a subscription that is sent is answered
abbrev pub AsSent : (SubAnswer → Type 0) → SendAnswer → Type 0
AsSent P answer =
    (P Done × (answer ≡ sent.Subscribed))
    ⊎ (P Limit × (answer ≡ sent.Refused send.SubLimit))
    ⊎ (P NotSub × (answer ≡ sent.Dropped NoSub))

-- an XSUB's message is a subscription, or a cancel, or goes to all peers that can be written
abbrev pub XSubSays : Saying → (End → Bool) → Frames → Subscriber → List PipeStep → SendAnswer → Subscriber → Type 0
XSubSays (Adds topic) can_write m s steps answer new = AsSent (λ a. Subscribes can_write topic s steps a new) answer
XSubSays (Cancels topic) can_write m s steps answer new = AsSent (λ a. Unsubscribes can_write topic s steps a new) answer
XSubSays Other can_write m s steps answer new =
    SendsToMany m (filter can_write (keys_of s.followers)) steps answer × (new ≡ s)

abbrev pub XSubSendsWhere : Bool → (End → Bool) → Frames → Subscriber → List PipeStep → SendAnswer → Subscriber → Type 0
XSubSendsWhere true can_write m s steps answer new = XSubSays (saying_of m) can_write m s steps answer new
XSubSendsWhere false can_write m s steps answer new = (answer ≡ sent.Refused send.TooLarge) × (steps ≡ []) × (new ≡ s)

-- an XSUB is asked to send m
abbrev pub XSubSends : (End → Bool) → Frames → Subscriber → List PipeStep → SendAnswer → Subscriber → Type 0
XSubSends can_write m s steps answer new = XSubSendsWhere (nat_le (length m) max_committed) can_write m s steps answer new

-- ---- peers come and go

-- a further peer, which was told nothing yet
abbrev pub with_publisher : End → Subscriber → Subscriber
with_publisher e s = record s { ins = s.ins ++ e ∷ []; followers = with_peer e s.followers }

-- a peer goes
abbrev pub without_publisher : End → Subscriber → Subscriber
without_publisher e s = record s {
  ins = filter (λ x. not (same_pipe e x)) s.ins;
  followers = without_peer same_pipe e s.followers;
}
