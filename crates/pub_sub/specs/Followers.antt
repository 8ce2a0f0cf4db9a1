-- How a subscriber tells all its peers, by their places (RFC 29, "The SUB Socket Type", "The XSUB Socket Type").
use Rattle.std.specs.Prelude.{◌≡◌, ℕ, Bool, List, ◌∷◌, ◌++◌, map, length, All}
use Rattle.std.specs.Map.{keys_of}
use Rattle.spec_pattern.specs.PipeStep.{PipeStep}
use Rattle.spec_pattern.specs.TurnList.{End}
use Rattle.spec_pattern.specs.Topics.{Topic, Subscribers, IsTopic}
use Rattle.spec_pattern.specs.Wanted.{Wanted}
use Rattle.spec_pattern.specs.Subscribing.{TellsAll}
use Rattle.sub_table.specs.Telling.{WantsAlike}
use Rattle.pub_sub.specs.Places.{subs_at, TellsOf}
use Rattle.pub_sub.specs.Telling.{IsTelling, IsFollower}
use Rattle.pub_sub.specs.declared.follower.Follower.{Follower}

-- what the peer at a place was told
abbrev pub row_of : Follower → ℕ × List Topic
row_of f = (f.place, f.told.told)

-- the peers in the order of their attachment, each with what it was told
abbrev pub rows_of : List Follower → Subscribers ℕ
rows_of fs = map row_of fs

-- the places of the peers
abbrev pub places_of : List Follower → List ℕ
places_of fs = map (λ f. f.place) fs

-- the same peers, which follow what is wanted
pub record StayFollowers (wanted : Wanted) (fs fs' : List Follower) : Type 0 where
  pub places_are : places_of fs' ≡ places_of fs
  pub follow : All (IsFollower wanted) fs'

module _ {S : Type 0} (runs : S → List PipeStep → S → Type 0) (ends : ℕ → End) (writable : ℕ → Bool) (wanted : Wanted) where
  -- the peers were told, one after the other
  pub record TellsRows (old new : S) (rows rows' : Subscribers ℕ) : Type 0 where
    pub steps : List PipeStep
    pub runs_are : runs old steps new
    pub tells : (can_write : End → Bool) → TellsOf can_write ends writable (keys_of rows)
        → TellsAll can_write wanted (subs_at ends rows) steps (subs_at ends rows')

  -- the peers before one were told, this one was told some of what differs, and those behind it nothing
  pub record StopsRows (old new : S) (rows rows' : Subscribers ℕ) : Type 0 where
    pub before : Subscribers ℕ
    pub before' : Subscribers ℕ
    pub place : ℕ
    pub told : List Topic
    pub told' : List Topic
    pub behind : Subscribers ℕ
    pub rows_are : rows ≡ before ++ (place, told) ∷ behind
    pub rows_new : rows' ≡ before' ++ (place, told') ∷ behind
    pub mid : S
    pub tells : TellsRows old mid before before'
    pub telling : IsTelling runs ends mid new wanted place told told'

  -- so many peers were told, and telling goes on
  pub record IsTellingAll (start now : S) (first fs : List Follower) (count : ℕ) : Type 0 where
    pub before : List Follower
    pub before' : List Follower
    pub behind : List Follower
    pub first_is : first ≡ before ++ behind
    pub now_is : fs ≡ before' ++ behind
    pub count_is : length before' ≡ count
    pub tells : TellsRows start now (rows_of before) (rows_of before')

-- the topic is noted for so many peers
pub record IsNoting (topic : Topic) (first fs : List Follower) (count : ℕ) : Type 0 where
  pub before : List Follower
  pub behind : List Follower
  pub now_is : fs ≡ before ++ behind
  pub count_is : length before ≡ count
  pub rows_are : rows_of fs ≡ rows_of first
  pub follow : (v w : Wanted) → WantsAlike topic v w → All IsTopic (keys_of w) → All (IsFollower v) first
      → All (IsFollower w) before × All (IsFollower v) behind
