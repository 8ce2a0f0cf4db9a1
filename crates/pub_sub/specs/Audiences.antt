-- The room that is kept for what a publisher's user will be told (own choice): a peer's end takes no memory.
use Rattle.std.specs.Prelude.{◌≡◌, ◌+◌, ℕ, Bool, true, false, length, All}
use Rattle.std.specs.Map.{values_of}
use Rattle.std.specs.List.{sum_by}
use Rattle.spec_pattern.specs.Topics.{Subscribers, IsTopic}
use Rattle.sub_table.specs.declared.topics.Added.{Added}
use Rattle.sub_table.specs.declared.topics.Added.TheVariants as add
use Rattle.pub_sub.specs.Publishers.{PubState}
use Rattle.pub_sub.specs.Known.{AreKnown}

-- how many topics the peers have, all in all
abbrev pub topics_held : Subscribers ℕ → ℕ
topics_held subs = sum_by length (values_of subs)

-- each topic can be told
abbrev pub AreShort : Subscribers ℕ → Type 0
AreShort subs = All (λ topics. All IsTopic topics) (values_of subs)

-- topics can be told, and where there is a user, there is room for a cancel of each, and for so many more
pub record CanTell (tells : Bool) (spare : ℕ) (subs : Subscribers ℕ) (more : ℕ) : Type 0 where
  pub short : AreShort subs
  pub room : tells ≡ true → spare ≡ topics_held subs + more

-- what is told of an add by what it found
abbrev pub is_news_of : Bool → Added → Bool
is_news_of verbose add.First = true
is_news_of verbose add.Added = verbose
is_news_of verbose add.Known = false
is_news_of verbose add.Ignored = false

-- how many topics more an add leaves
abbrev pub gain_of : Added → ℕ
gain_of add.First = 1
gain_of add.Added = 1
gain_of add.Known = 0
gain_of add.Ignored = 0

-- what is always so: peers alone are heard, and the user can be told of their end
pub record IsPublisher (p : PubState) (spare : ℕ) : Type 0 where
  pub known : AreKnown p
  pub can_tell : CanTell p.tells spare p.subs 0
