-- What waits for an XPUB's user, as the code keeps it (own choice).
use Rattle.std.specs.Prelude.{◌<◌, ◌-◌, ℕ, List, [], ◌∷◌, ◌++◌, length}
use Rattle.zq_base.specs.Message.{Frames, max_octets}
use Rattle.zq_base.specs.declared.ids.PairId.{PairId}
use Rattle.spec_pattern.specs.Topics.{Topic, IsTopic}
use Rattle.spec_pattern.specs.Publishing.{Notice}
use Rattle.pub_sub.specs.declared.note.Note.{Note}
use Rattle.pub_sub.specs.declared.note.Note.TheVariants.{Heard, Cancelled}

-- a message of the peer of this pair
abbrev pub notice : PairId → Frames → Notice
notice pair m = record { pair = pair; message = m }

-- the message that cancels a topic
abbrev pub cancel : Topic → Frames
cancel topic = (0 ∷ topic) ∷ []

-- what a note tells
abbrev pub notice_of : Note → Notice
notice_of (Heard pair m) = notice pair m
notice_of (Cancelled pair topic) = notice pair (cancel topic.items)

-- a note can be told in a message
abbrev pub IsTellable : Note → Type 0
IsTellable (Heard pair m) = Unit {0}
IsTellable (Cancelled pair topic) = IsTopic topic.items

-- what waits for the user, in order, and the room that is kept for more
pub record InboxState : Type 0 where
  pub notices : List Notice
  pub spare : ℕ

-- nothing waits
abbrev pub nothing_waits : InboxState
nothing_waits = record { notices = []; spare = 0 }

-- this much room is kept
abbrev pub with_room : ℕ → InboxState → InboxState
with_room spare inbox = record inbox { spare = spare }

-- one more waits, in room that was kept
abbrev pub with_notice : Notice → InboxState → InboxState
with_notice n inbox = record { notices = inbox.notices ++ n ∷ []; spare = inbox.spare - 1 }
