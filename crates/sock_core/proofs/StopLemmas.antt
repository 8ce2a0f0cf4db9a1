-- A call that met want of memory, read by a narrower test of the ends.
use Rattle.std.proofs.Common.{Bool, List}
use Rattle.zq_base.specs.Message.{Frames}
use Rattle.spec_pattern.specs.PipeStep.{PipeStep}
use Rattle.spec_pattern.specs.TurnList.{End}
use Rattle.spec_pattern.specs.Topics.{Topic}
use Rattle.spec_pattern.specs.Publishing.{Saying, Adds, Cancels, Other, saying_of}
use Rattle.spec_pattern.specs.Subscribing.{Subscriber}
use Rattle.spec_pattern.specs.Pattern.{Pattern, Push, Pull, Pair, Dealer, Req, Rep, Router, Pub, XPub, Sub, XSub}
use Rattle.spec_pattern.specs.PatternCalls.{Change, Subscribe, Unsubscribe}
use Rattle.any_sock.specs.Stopped.{ToldSome, ToldOfChange, SaysSome, StopsPump, StopsChange, StopsSend}

module _ (reads narrow : (End → Bool) → Type 0) (so : (test : End → Bool) → narrow test → reads test) where
  told_so : (s s' : Subscriber) (steps : List PipeStep) → ToldSome reads s steps s' → ToldSome narrow s steps s'
  told_so s s' steps t = (t.0, λ test n. t.1 test (so test n), t.2)

  change_so : (change : Change) (topic : Topic) (s s' : Subscriber) (steps : List PipeStep) → ToldOfChange reads change topic s steps s' → ToldOfChange narrow change topic s steps s'
  change_so change topic s s' steps t = (t.0, (t.1.0, λ test n. t.1.1 test (so test n), t.1.2))

  says_so : (saying : Saying) (s s' : Subscriber) (steps : List PipeStep) → SaysSome reads saying s steps s' → SaysSome narrow saying s steps s'
  says_so (Adds topic) s s' steps t = change_so Subscribe topic s s' steps t
  says_so (Cancels topic) s s' steps t = change_so Unsubscribe topic s s' steps t
  says_so Other s s' steps t = absurd t

  pub send_stops_so : (m : Frames) (p p' : Pattern) (steps : List PipeStep) → StopsSend reads m p steps p' → StopsSend narrow m p steps p'
  send_stops_so m (XSub s) p' steps t = (t.0, says_so (saying_of m) s t.0 steps t.1, t.2)
  send_stops_so m (Push x) p' steps t = absurd t
  send_stops_so m (Pull x) p' steps t = absurd t
  send_stops_so m (Pair x) p' steps t = absurd t
  send_stops_so m (Dealer x) p' steps t = absurd t
  send_stops_so m (Req x d) p' steps t = absurd t
  send_stops_so m (Rep x d) p' steps t = absurd t
  send_stops_so m (Router x) p' steps t = absurd t
  send_stops_so m (Pub x) p' steps t = absurd t
  send_stops_so m (XPub x) p' steps t = absurd t
  send_stops_so m (Sub x) p' steps t = absurd t

  pub pump_stops_so : (p p' : Pattern) (steps : List PipeStep) → StopsPump reads p steps p' → StopsPump narrow p steps p'
  pump_stops_so (Pub x) p' steps t = t
  pump_stops_so (XPub x) p' steps t = t
  pump_stops_so (Sub s) p' steps t = (t.0, told_so s t.0 steps t.1, t.2)
  pump_stops_so (XSub s) p' steps t = (t.0, told_so s t.0 steps t.1, t.2)
  pump_stops_so (Push x) p' steps t = absurd t
  pump_stops_so (Pull x) p' steps t = absurd t
  pump_stops_so (Pair x) p' steps t = absurd t
  pump_stops_so (Dealer x) p' steps t = absurd t
  pump_stops_so (Req x d) p' steps t = absurd t
  pump_stops_so (Rep x d) p' steps t = absurd t
  pump_stops_so (Router x) p' steps t = absurd t

  pub change_stops_so : (change : Change) (topic : Topic) (p p' : Pattern) (steps : List PipeStep) → StopsChange reads change topic p steps p' → StopsChange narrow change topic p steps p'
  change_stops_so change topic (Sub s) p' steps t = (t.0, change_so change topic s t.0 steps t.1, t.2)
  change_stops_so change topic (XSub s) p' steps t = (t.0, change_so change topic s t.0 steps t.1, t.2)
  change_stops_so change topic (Push x) p' steps t = absurd t
  change_stops_so change topic (Pull x) p' steps t = absurd t
  change_stops_so change topic (Pair x) p' steps t = absurd t
  change_stops_so change topic (Dealer x) p' steps t = absurd t
  change_stops_so change topic (Req x d) p' steps t = absurd t
  change_stops_so change topic (Rep x d) p' steps t = absurd t
  change_stops_so change topic (Router x) p' steps t = absurd t
  change_stops_so change topic (Pub x) p' steps t = absurd t
  change_stops_so change topic (XPub x) p' steps t = absurd t
