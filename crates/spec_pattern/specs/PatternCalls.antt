-- What a send and a receive of a socket do, by its kind (RFCs 28 to 31; zmq_socket(3)).
use Rattle.std.specs.Prelude.{◌≡◌, Bool, List, []}
use Rattle.zq_base.specs.Message.{Frames}
use Rattle.zq_base.specs.declared.kind.Kind.TheVariants as kind
use Rattle.spec_pattern.specs.PipeStep.{PipeStep}
use Rattle.spec_pattern.specs.TurnList.{End}
use Rattle.spec_pattern.specs.Duty.{Duty}
use Rattle.spec_pattern.specs.Call.{SendStep, RecvStep}
use Rattle.spec_pattern.specs.RequestReply.{ReqSends, ReqReceives, RepSends, RepReceives}
use Rattle.spec_pattern.specs.Routing.{named, RouterSends, RouterReceives}
use Rattle.spec_pattern.specs.Topics.{Topic}
use Rattle.spec_pattern.specs.Publishing.{Publisher, PubSends, XPubReceives, Hears}
use Rattle.spec_pattern.specs.Subscribing.{Subscriber, SubAnswer, SubReceives, XSubReceives, XSubSends, Subscribes, Unsubscribes, Tells}
use Rattle.spec_pattern.specs.Pattern.{BothTurns, Pattern, Push, Pull, Pair, Dealer, Req, Rep, Router, Pub, XPub, Sub, XSub}
use Rattle.spec_pattern.specs.declared.answers.Skip.{Skip}
use Rattle.spec_pattern.specs.declared.answers.SendRefusal.TheVariants as send
use Rattle.spec_pattern.specs.declared.answers.RecvRefusal.TheVariants as recv
use Rattle.spec_pattern.specs.declared.answers.SendAnswer.{SendAnswer}
use Rattle.spec_pattern.specs.declared.answers.SendAnswer.TheVariants as sent
use Rattle.spec_pattern.specs.declared.answers.RecvAnswer.{RecvAnswer}
use Rattle.spec_pattern.specs.declared.answers.RecvAnswer.TheVariants as got

-- a socket is asked to send m: its steps, its answer, and its state after
abbrev pub PatternSends : (End → Bool) → Frames → Pattern → List PipeStep → SendAnswer → Pattern → Type 0
PatternSends can_write m (Push outs) steps answer new =
    (outs' : List End) × SendStep kind.Push can_write m outs steps answer outs' × (new ≡ Push outs')
PatternSends can_write m (Pull ins) steps answer new =
    (ins' : List End) × SendStep kind.Pull can_write m ins steps answer ins' × (new ≡ Pull ins')
PatternSends can_write m (Pair t) steps answer new =
    (outs' : List End) × SendStep kind.Pair can_write m t.outs steps answer outs' × (new ≡ Pair (record t { outs = outs' }))
PatternSends can_write m (Dealer t) steps answer new =
    (outs' : List End) × SendStep kind.Dealer can_write m t.outs steps answer outs' × (new ≡ Dealer (record t { outs = outs' }))
PatternSends can_write m (Req t duty) steps answer new =
    (outs' : List End) × (duty' : Duty)
    × ReqSends can_write m t.outs duty steps answer outs' duty' × (new ≡ Req (record t { outs = outs' }) duty')
PatternSends can_write m (Rep ins duty) steps answer new =
    (duty' : Duty) × RepSends can_write m duty steps answer duty' × (new ≡ Rep ins duty')
PatternSends can_write m (Router r) steps answer new =
    RouterSends r.mandatory can_write (named r.names) m steps answer × (new ≡ Router r)
PatternSends can_write m (Pub p) steps answer new = PubSends can_write m p steps answer × (new ≡ Pub p)
PatternSends can_write m (XPub p) steps answer new = PubSends can_write m p steps answer × (new ≡ XPub p)
PatternSends can_write m (Sub s) steps answer new =
    (answer ≡ sent.Refused send.NotSupported) × (steps ≡ []) × (new ≡ Sub s)
PatternSends can_write m (XSub s) steps answer new =
    (s' : Subscriber) × XSubSends can_write m s steps answer s' × (new ≡ XSub s')

-- a receive that drops nothing
abbrev pub Skipless : List Skip → Type 0 → Type 0
Skipless skips T = (skips ≡ []) × T

-- a socket is asked to receive: its steps, the messages that it drops, its answer, and its state after
abbrev pub PatternReceives : Pattern → List PipeStep → List Skip → RecvAnswer → Pattern → Type 0
PatternReceives (Push outs) steps skips answer new =
    Skipless skips ((outs' : List End) × RecvStep kind.Push outs steps answer outs' × (new ≡ Push outs'))
PatternReceives (Pull ins) steps skips answer new =
    Skipless skips ((ins' : List End) × RecvStep kind.Pull ins steps answer ins' × (new ≡ Pull ins'))
PatternReceives (Pair t) steps skips answer new =
    Skipless skips ((ins' : List End) × RecvStep kind.Pair t.ins steps answer ins' × (new ≡ Pair (record t { ins = ins' })))
PatternReceives (Dealer t) steps skips answer new =
    Skipless skips ((ins' : List End) × RecvStep kind.Dealer t.ins steps answer ins' × (new ≡ Dealer (record t { ins = ins' })))
PatternReceives (Req t duty) steps skips answer new =
    (ins' : List End) × (duty' : Duty)
    × ReqReceives t.ins duty steps skips answer ins' duty' × (new ≡ Req (record t { ins = ins' }) duty')
PatternReceives (Rep ins duty) steps skips answer new =
    (ins' : List End) × (duty' : Duty) × RepReceives ins duty steps skips answer ins' duty' × (new ≡ Rep ins' duty')
PatternReceives (Router r) steps skips answer new =
    Skipless skips ((ins' : List End) × RouterReceives (named r.names) r.ins steps answer ins' × (new ≡ Router (record r { ins = ins' })))
PatternReceives (Pub p) steps skips answer new =
    Skipless skips ((answer ≡ got.Refused recv.NotSupported) × (steps ≡ []) × (new ≡ Pub p))
PatternReceives (XPub p) steps skips answer new =
    Skipless skips ((p' : Publisher) × XPubReceives p steps answer p' × (new ≡ XPub p'))
PatternReceives (Sub s) steps skips answer new =
    (s' : Subscriber) × SubReceives s steps skips answer s' × (new ≡ Sub s')
PatternReceives (XSub s) steps skips answer new =
    Skipless skips ((s' : Subscriber) × XSubReceives s steps answer s' × (new ≡ XSub s'))

-- what a subscriber is asked: to subscribe to a topic, or to cancel a subscription
pub data Change : Type 0 where
  Subscribe : Change
  Unsubscribe : Change

abbrev pub Changes : Change → (End → Bool) → Topic → Subscriber → List PipeStep → SubAnswer → Subscriber → Type 0
Changes Subscribe can_write topic s steps answer new = Subscribes can_write topic s steps answer new
Changes Unsubscribe can_write topic s steps answer new = Unsubscribes can_write topic s steps answer new

-- what a socket answers to it: that its kind has no topics, or as a subscriber does
pub data ChangeAnswer : Type 0 where
  NoTopics : ChangeAnswer
  Changed : SubAnswer → ChangeAnswer

abbrev pub AsChanged : (SubAnswer → Type 0) → ChangeAnswer → Type 0
AsChanged P NoTopics = ⊥
AsChanged P (Changed answer) = P answer

-- a socket is asked to subscribe or to cancel
abbrev pub PatternChanges : Change → (End → Bool) → Topic → Pattern → List PipeStep → ChangeAnswer → Pattern → Type 0
PatternChanges change can_write topic (Sub s) steps answer new =
    (s' : Subscriber) × AsChanged (λ a. Changes change can_write topic s steps a s') answer × (new ≡ Sub s')
PatternChanges change can_write topic (XSub s) steps answer new =
    (s' : Subscriber) × AsChanged (λ a. Changes change can_write topic s steps a s') answer × (new ≡ XSub s')
PatternChanges change can_write topic p steps answer new = (answer ≡ NoTopics) × (steps ≡ []) × (new ≡ p)

-- what a socket does before each of its calls: a publisher hears its peers, a subscriber tells them
abbrev pub PatternPumps : (End → Bool) → Pattern → List PipeStep → Pattern → Type 0
PatternPumps can_write (Pub p) steps new = (p' : Publisher) × Hears p steps p' × (new ≡ Pub p')
PatternPumps can_write (XPub p) steps new = (p' : Publisher) × Hears p steps p' × (new ≡ XPub p')
PatternPumps can_write (Sub s) steps new = (s' : Subscriber) × Tells can_write s steps s' × (new ≡ Sub s')
PatternPumps can_write (XSub s) steps new = (s' : Subscriber) × Tells can_write s steps s' × (new ≡ XSub s')
PatternPumps can_write p steps new = (steps ≡ []) × (new ≡ p)
