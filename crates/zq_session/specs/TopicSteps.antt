-- What a session's steps do to its topics, where it has some (own choice).
use Rattle.std.specs.Prelude.{Bool, true, false, [], Option, Some, None, option_map}
use Rattle.zq_base.specs.Message.{Frames}
use Rattle.spec_pattern.specs.Publishing.{saying_of}
use Rattle.spec_link.specs.Topics.{Topics, with_saying}

-- it is noted, where there are topics
abbrev pub noted : Frames → Option Topics → Option Topics
noted m topics = option_map (λ t. with_saying (saying_of m) t) topics

-- the topics where a link is over
abbrev pub unmade : Topics → Topics
unmade t = record t { again = None }

abbrev pub over_link : Option Topics → Option Topics
over_link topics = option_map (λ t. unmade t) topics

-- before any link
abbrev pub topics_for : Bool → Option Topics
topics_for true = Some (record { taken = []; again = None })
topics_for false = None
