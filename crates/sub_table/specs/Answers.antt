-- What adding and cancelling a topic answer (RFC 29, "The XPUB Socket Type": the upstream sees a topic's first subscriber and its last cancel).
use Rattle.std.specs.Prelude.{ℕ, nat_eq, if◌then◌else◌}
use Rattle.spec_pattern.specs.Topics.{Topic, Subscribers, has_topic, others_have, is_full}
use Rattle.sub_table.specs.declared.topics.Added.{Added}
use Rattle.sub_table.specs.declared.topics.Added.TheVariants as add
use Rattle.sub_table.specs.declared.topics.Cancelled.{Cancelled}
use Rattle.sub_table.specs.declared.topics.Cancelled.TheVariants as cancel

-- what an add answers: the peer has the topic already, or has as many as it may, or is not the first, or is
abbrev pub add_answer : Subscribers ℕ → ℕ → Topic → Added
add_answer subs peer topic =
    if has_topic nat_eq subs peer topic then add.Known
    else (if is_full nat_eq subs peer then add.Ignored
    else (if others_have nat_eq subs peer topic then add.Added else add.First))

-- what a cancel answers: the peer has no such topic, or another has it still, or nobody
abbrev pub cancel_answer : Subscribers ℕ → ℕ → Topic → Cancelled
cancel_answer subs peer topic =
    if has_topic nat_eq subs peer topic
    then (if others_have nat_eq subs peer topic then cancel.Gone else cancel.Last)
    else cancel.Unknown
