-- What a subscriber wants, and what a peer was told of it (RFC 29, "The SUB Socket Type" and "The XSUB Socket Type"; zmq_setsockopt(3), ZMQ_SUBSCRIBE and ZMQ_UNSUBSCRIBE: equal topics are counted). The most distinct topics are an own choice.
use Rattle.std.specs.Prelude.{ℕ, ◌+◌, ◌-◌, Bool, not, List, [], ◌∷◌, length, find, min, nat_le, Option, Some, None, if◌then◌else◌, is_some}
use Rattle.std.specs.Map.{keys_of, lookup, set_value, remove_entry}
use Rattle.std.specs.Option.{unwrap_or}
use Rattle.std.specs.Ordering.{is_lt}
use Rattle.std.specs.Str.{bytes_eq}
use Rattle.std.specs.BTreeMap.{insert_entry}
use Rattle.spec_pattern.specs.Topics.{Topic, topic_cmp, is_among, matches, max_topics}

-- the topics whose subscriptions exceed their cancels, in order, each with how many more there are
abbrev pub Wanted : Type 0
Wanted = List (Topic × ℕ)

-- the greatest count
abbrev pub most_equal : ℕ
most_equal = 18446744073709551615

-- how many more subscriptions than cancels the topic has
abbrev pub count_of : Wanted → Topic → ℕ
count_of wanted topic = unwrap_or (lookup (bytes_eq topic) wanted) 0

-- the topic is wanted
abbrev pub wants : Wanted → Topic → Bool
wants wanted topic = is_some (lookup (bytes_eq topic) wanted)

-- as many topics are wanted as may be
abbrev pub is_at_limit : Wanted → Bool
is_at_limit wanted = nat_le max_topics (length wanted)

-- what is wanted once the topic was subscribed to
abbrev pub with_one_more : Topic → Wanted → Wanted
with_one_more topic wanted =
    if wants wanted topic
    then set_value (bytes_eq topic) wanted (min (count_of wanted topic + 1) most_equal)
    else insert_entry topic_cmp wanted topic 1

-- what is wanted once one subscription to the topic was cancelled
abbrev pub with_one_less : Topic → Wanted → Wanted
with_one_less topic wanted =
    if nat_le (count_of wanted topic) 1
    then remove_entry (bytes_eq topic) wanted
    else set_value (bytes_eq topic) wanted (count_of wanted topic - 1)

-- one of the wanted topics is a prefix of the octets
abbrev pub matches_wanted : Wanted → List ℕ → Bool
matches_wanted wanted octets = matches (keys_of wanted) octets

-- of a topic to tell and one to cancel, the first in order, behind octet 1 or 0
abbrev pub first_of : Option Topic → Option Topic → Option (ℕ × Topic)
first_of None None = None
first_of None (Some gone) = Some (0, gone)
first_of (Some new) None = Some (1, new)
first_of (Some new) (Some gone) =
    if is_lt (topic_cmp new gone) then Some (1, new) else Some (0, gone)

-- the first topic that is wanted and wasn't told
abbrev pub first_untold : List Topic → Wanted → Option Topic
first_untold told wanted = find (λ t. not (is_among told t)) (keys_of wanted)

-- the first topic that was told and isn't wanted
abbrev pub first_unwanted : List Topic → Wanted → Option Topic
first_unwanted told wanted = find (λ t. not (wants wanted t)) told

-- of the topics that were told or are wanted, and not both, the first in order, behind octet 1 where it is wanted and 0 where it isn't
abbrev pub difference : List Topic → Wanted → Option (ℕ × Topic)
difference told wanted = first_of (first_untold told wanted) (first_unwanted told wanted)
