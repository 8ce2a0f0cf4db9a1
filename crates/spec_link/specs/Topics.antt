-- The topics that a session took for its peer, and the messages that say them again at a link (own choice; RFC 29, "The SUB Socket Type").
use Rattle.std.specs.Prelude.{◌≡◌, Bool, true, false, List, [], ◌∷◌, Option, Some, None}
use Rattle.zq_base.specs.Message.{Frames}
use Rattle.spec_pattern.specs.Topics.{Topic, IsTopic}
use Rattle.spec_pattern.specs.Publishing as definition
use Rattle.spec_link.specs.Turn.{topics_by}
use Rattle.spec_link.specs.TopicsFirst.{topics_said}

-- the topics that were taken, and the messages that are still to be said at a link, once they are made
pub record Topics : Type 0 where
  pub taken : List Topic
  pub again : Option (List Frames)

abbrev pub AreShort : List Topic → Type 0
AreShort [] = Unit {0}
AreShort (t ∷ topics) = IsTopic t × AreShort topics

-- behind a message that says this
abbrev pub with_saying : definition.Saying → Topics → Topics
with_saying s t = record t { taken = topics_by s t.taken }

-- the messages are made, unless they are there
abbrev pub made_again : List Topic → Option (List Frames) → Option (List Frames)
made_again taken None = Some (topics_said taken)
made_again taken (Some messages) = Some messages

abbrev pub with_again : Topics → Topics
with_again t = record t { again = made_again t.taken t.again }

-- whether a message is still to be said
abbrev pub IsLeft : Bool → Option (List Frames) → Type 0
IsLeft true again = (m : Frames) × (rest : List Frames) × (again ≡ Some (m ∷ rest))
IsLeft false again = (m : Frames) (rest : List Frames) → again ≡ Some (m ∷ rest) → ⊥

-- the next message is taken out, where there is one
abbrev pub NextAgain : Topics → Option Frames → Topics → Type 0
NextAgain old None new = (new ≡ old) × IsLeft false old.again
NextAgain old (Some m) new = (rest : List Frames) × (old.again ≡ Some (m ∷ rest)) × (new ≡ record old { again = Some rest })
