-- What a message says, as the code tells it (own choice).
use Rattle.spec_pattern.specs.Publishing as definition
use Rattle.spec_pattern.specs.Topics.{IsTopic}
use Rattle.sub_table.specs.declared.saying.Saying.{Saying}
use Rattle.sub_table.specs.declared.saying.Saying.TheVariants.{Adds, Cancels, Other}

abbrev pub said : Saying → definition.Saying
said (Adds topic) = definition.Adds topic.now
said (Cancels topic) = definition.Cancels topic.now
said Other = definition.Other

-- a topic that is added can be told
abbrev pub SaysTopic : Saying → Type 0
SaysTopic (Adds topic) = IsTopic topic.now
SaysTopic (Cancels topic) = Unit {0}
SaysTopic Other = Unit {0}
