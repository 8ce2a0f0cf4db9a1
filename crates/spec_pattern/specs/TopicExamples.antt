-- Worked examples of publishing and subscribing (own choice), so that a wrong rule in the definitions does not check.
use Rattle.std.specs.Prelude.{◌≡◌, ℕ, Bool, true, false, List, [], ◌∷◌, Option, Some, None, codes, if◌then◌else◌}
use Rattle.spec_pattern.specs.declared.answers.Rule.TheVariants.{NoMatch, PubFull, NoSub, Filtered}
use Rattle.spec_pattern.specs.declared.answers.SendRefusal.TheVariants as send
use Rattle.spec_pattern.specs.declared.answers.RecvRefusal.TheVariants as recv
use Rattle.spec_pattern.specs.declared.answers.SendAnswer.TheVariants as sent
use Rattle.spec_pattern.specs.declared.answers.RecvAnswer.TheVariants as got
use Rattle.spec_pattern.specs.PipeStep.{Commit, FullLook, Take, EmptyLook, read_through, same_pipe}
use Rattle.spec_pattern.specs.TurnList.{End}
use Rattle.spec_pattern.specs.Duty.{Free}
use Rattle.spec_pattern.specs.RequestExamples.{end_1, end_2, all_open, none_open}
use Rattle.spec_pattern.specs.Topics.{Subscribers, matching, topics_gone, after_add, after_cancel}
use Rattle.spec_pattern.specs.Wanted.{with_one_more, with_one_less, difference}
use Rattle.spec_pattern.specs.Publishing.{Publisher, PubSends, XPubReceives, Hears, with_subscriber, without_subscriber}
use Rattle.spec_pattern.specs.Subscribing.{Subscriber, SubAnswer, Done, NotSub, Subscribes, Unsubscribes, Tells, SubReceives, XSubSends}

abbrev pub sub_a : List ℕ
sub_a = 1 ∷ codes "a"

abbrev pub cancel_a : List ℕ
cancel_a = 0 ∷ codes "a"

-- an XPUB, and a PUB, of one peer with these topics, with nothing waiting
abbrev pub publisher : Bool → List (List ℕ) → Publisher
publisher tells topics = record { ins = end_1 ∷ []; subs = (end_1, topics) ∷ []; inbox = []; verbose = false; tells = tells }

-- a SUB of one peer that was told these topics and wants these
abbrev pub subscriber : List (List ℕ) → List (List ℕ × ℕ) → Subscriber
subscriber told wanted = record { ins = end_1 ∷ []; wanted = wanted; followers = (end_1, told) ∷ [] }

-- A topic is told once, and its cancel when the last subscription to it is cancelled.
pub record TopicsAreTold : Type 0 where
  pub first : Subscribes all_open (codes "a") (subscriber [] []) (Commit end_1 (sub_a ∷ []) ∷ []) Done (subscriber (codes "a" ∷ []) ((codes "a", 1) ∷ []))
  pub again : Subscribes all_open (codes "a") (subscriber (codes "a" ∷ []) ((codes "a", 1) ∷ [])) [] Done (subscriber (codes "a" ∷ []) ((codes "a", 2) ∷ []))
  pub one_less : Unsubscribes all_open (codes "a") (subscriber (codes "a" ∷ []) ((codes "a", 2) ∷ [])) [] Done (subscriber (codes "a" ∷ []) ((codes "a", 1) ∷ []))
  pub last : Unsubscribes all_open (codes "a") (subscriber (codes "a" ∷ []) ((codes "a", 1) ∷ [])) (Commit end_1 (cancel_a ∷ []) ∷ []) Done (subscriber [] [])
  pub unknown : Unsubscribes all_open (codes "a") (subscriber [] []) [] NotSub (subscriber [] [])
  pub full : Subscribes all_open (codes "b") (subscriber (codes "a" ∷ []) ((codes "a", 1) ∷ [])) (FullLook end_1 ∷ []) Done (subscriber (codes "a" ∷ []) ((codes "a", 1) ∷ (codes "b", 1) ∷ []))
  pub in_order : Tells all_open (subscriber (codes "c" ∷ []) ((codes "a", 1) ∷ (codes "b", 1) ∷ [])) (Commit end_1 (sub_a ∷ []) ∷ Commit end_1 ((1 ∷ codes "b") ∷ []) ∷ Commit end_1 ((0 ∷ codes "c") ∷ []) ∷ []) (subscriber (codes "a" ∷ codes "b" ∷ []) ((codes "a", 1) ∷ (codes "b", 1) ∷ []))
  pub closed : Tells none_open (subscriber [] ((codes "a", 1) ∷ [])) [] (subscriber [] ((codes "a", 1) ∷ []))

-- An XPUB gives a topic's first subscription and its last cancel.
pub record NewsAreGiven : Type 0 where
  pub first : XPubReceives (publisher true []) (Take (read_through end_1) (sub_a ∷ []) ∷ EmptyLook (read_through end_1) ∷ []) (got.Got end_1.pair (sub_a ∷ [])) (publisher true (codes "a" ∷ []))
  pub known : XPubReceives (publisher true (codes "a" ∷ [])) (Take (read_through end_1) (sub_a ∷ []) ∷ EmptyLook (read_through end_1) ∷ []) (got.Refused recv.Again) (publisher true (codes "a" ∷ []))
  pub last : XPubReceives (publisher true (codes "a" ∷ [])) (Take (read_through end_1) (cancel_a ∷ []) ∷ EmptyLook (read_through end_1) ∷ []) (got.Got end_1.pair (cancel_a ∷ [])) (publisher true [])
  pub other : XPubReceives (publisher true []) (Take (read_through end_1) ([] ∷ []) ∷ EmptyLook (read_through end_1) ∷ []) (got.Got end_1.pair ([] ∷ [])) (publisher true [])
  pub discarded : Hears (publisher false []) (Take (read_through end_1) (codes "x" ∷ []) ∷ EmptyLook (read_through end_1) ∷ []) (publisher false [])
  pub not_given_up : Hears (publisher false []) [] (publisher false []) → ⊥
  pub goes : (without_subscriber end_1 (publisher true (codes "a" ∷ codes "b" ∷ []))).inbox ≡ record { pair = end_1.pair; message = cancel_a ∷ [] } ∷ record { pair = end_1.pair; message = (0 ∷ codes "b") ∷ [] } ∷ []

-- two subscribers with topics in common
abbrev pub two : Subscribers End
two = (end_1, [] ∷ []) ∷ (end_2, codes "a" ∷ codes "ab" ∷ []) ∷ []

abbrev pub of_two : Publisher
of_two = record { ins = end_2 ∷ end_1 ∷ []; subs = two; inbox = []; verbose = false; tells = false }

-- A message goes once to each peer that subscribed to a prefix of it, in the order of their attachment.
pub record MatchesAreSent : Type 0 where
  pub both : PubSends all_open (codes "abc" ∷ []) of_two (Commit end_1 (codes "abc" ∷ []) ∷ Commit end_2 (codes "abc" ∷ []) ∷ []) (sent.Many (record { put = end_1.pair ∷ end_2.pair ∷ []; full = [] }))
  pub one : PubSends all_open (codes "b" ∷ []) of_two (Commit end_1 (codes "b" ∷ []) ∷ []) (sent.Many (record { put = end_1.pair ∷ []; full = [] }))
  pub part : PubSends all_open (codes "ab" ∷ []) of_two (FullLook end_1 ∷ Commit end_2 (codes "ab" ∷ []) ∷ []) (sent.Many (record { put = end_2.pair ∷ []; full = end_1.pair ∷ [] }))
  pub all_full : PubSends all_open (codes "b" ∷ []) of_two (FullLook end_1 ∷ []) (sent.Dropped PubFull)
  pub none : PubSends all_open (codes "b" ∷ []) (publisher false (codes "a" ∷ [])) [] (sent.Dropped NoMatch)
  pub closed : PubSends none_open (codes "b" ∷ []) of_two [] (sent.Dropped NoMatch)
  pub not_twice : PubSends all_open (codes "ab" ∷ []) (publisher false (codes "a" ∷ codes "ab" ∷ [])) (Commit end_1 (codes "ab" ∷ []) ∷ Commit end_1 (codes "ab" ∷ []) ∷ []) (sent.Many (record { put = end_1.pair ∷ end_1.pair ∷ []; full = [] })) → ⊥
  pub gone : topics_gone same_pipe ((end_1, codes "a" ∷ codes "b" ∷ []) ∷ (end_2, codes "b" ∷ []) ∷ []) end_1 ≡ codes "a" ∷ []

-- A SUB gives what it wants and drops the rest; what an XSUB sends is a subscription, or goes to all.
pub record WantedIsGiven : Type 0 where
  pub gives : SubReceives (subscriber [] ((codes "a", 1) ∷ [])) (Take (read_through end_1) (codes "b" ∷ []) ∷ Take (read_through end_1) (codes "ab" ∷ []) ∷ []) (record { rule = Filtered; pair = end_1.pair } ∷ []) (got.Got end_1.pair (codes "ab" ∷ [])) (subscriber [] ((codes "a", 1) ∷ []))
  pub says : XSubSends all_open (sub_a ∷ []) (subscriber [] []) (Commit end_1 (sub_a ∷ []) ∷ []) sent.Subscribed (subscriber (codes "a" ∷ []) ((codes "a", 1) ∷ []))
  pub unsaid : XSubSends all_open (cancel_a ∷ []) (subscriber [] []) [] (sent.Dropped NoSub) (subscriber [] [])
  pub to_all : XSubSends all_open (codes "x" ∷ []) (subscriber [] []) (Commit end_1 (codes "x" ∷ []) ∷ []) (sent.Many (record { put = end_1.pair ∷ []; full = [] })) (subscriber [] [])

pub record TopicsWork : Type 0 where
  pub told : TopicsAreTold
  pub given : NewsAreGiven
  pub sent_on : MatchesAreSent
  pub wanted : WantedIsGiven
