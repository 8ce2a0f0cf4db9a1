-- How a subscriber tells its peers, by their places (RFC 29, "The SUB Socket Type", "The XSUB Socket Type").
use Rattle.std.specs.Prelude.{◌≡◌, ◌+◌, ℕ, Bool, true, false, not, List, [], ◌∷◌, filter, length, Some, None, All}
use Rattle.std.specs.Map.{keys_of}
use Rattle.spec_pattern.specs.PipeStep.{PipeStep, Commit, FullLook}
use Rattle.spec_pattern.specs.TurnList.{End}
use Rattle.spec_pattern.specs.Topics.{Topic, is_among, IsTopic}
use Rattle.spec_pattern.specs.Wanted.{Wanted, wants, difference}
use Rattle.spec_pattern.specs.Subscribing.{tell_message, told_after, TellsWhere}
use Rattle.sub_table.specs.Telling.{IsKnown}
use Rattle.pub_sub.specs.declared.follower.Follower.{Follower}

-- how many topics a peer has to be told
abbrev pub weight : Wanted → List Topic → ℕ
weight wanted told =
    length (filter (λ t. not (is_among told t)) (keys_of wanted)) + length (filter (λ t. not (wants wanted t)) told)

-- a peer is told these differences, one after the other, each the first in order, and maybe more
abbrev pub TellsThrough : Wanted → End → List Topic → List (ℕ × Topic) → List PipeStep → List Topic → Type 0
TellsThrough wanted e told [] steps told' = (steps ≡ []) × (told' ≡ told)
TellsThrough wanted e told (change ∷ changes) steps told' =
    (difference told wanted ≡ Some change) × (rest : List PipeStep)
    × TellsThrough wanted e (told_after change told) changes rest told' × (steps ≡ Commit e (tell_message change) ∷ rest)

-- the step that tells a difference where there is room, and where there is none
abbrev pub step_of : End → ℕ × Topic → Bool → PipeStep
step_of e change true = Commit e (tell_message change)
step_of e change false = FullLook e

-- what the peer was told then
abbrev pub told_if : Bool → ℕ × Topic → List Topic → List Topic
told_if true change told = told_after change told
told_if false change told = told

module _ {S : Type 0} (runs : S → List PipeStep → S → Type 0) (ends : ℕ → End) where
  -- a peer was told some differences, and telling goes on
  pub record IsTelling (start now : S) (wanted : Wanted) (place : ℕ) (first told : List Topic) : Type 0 where
    pub changes : List (ℕ × Topic)
    pub steps : List PipeStep
    pub runs_are : runs start steps now
    pub through : TellsThrough wanted (ends place) first changes steps told

  -- a peer that can be written, or can't, was told what differs
  pub record TellsAt (open_ : Bool) (old new : S) (wanted : Wanted) (place : ℕ) (told told' : List Topic) : Type 0 where
    pub steps : List PipeStep
    pub runs_are : runs old steps new
    pub tells : TellsWhere open_ wanted (ends place) told steps told'

  -- one difference was told, or the pipe was full
  pub record TellsChange (old new : S) (place : ℕ) (change : ℕ × Topic) (room : Bool) (told told' : List Topic) : Type 0 where
    pub runs_are : runs old (step_of (ends place) change room ∷ []) new
    pub told_is : told' ≡ told_if room change told

-- a peer of a subscriber that wants this: what may differ is suspected, and each topic can be told
pub record IsFollower (wanted : Wanted) (f : Follower) : Type 0 where
  pub known : IsKnown wanted f.told
  pub wanted_are : All IsTopic (keys_of wanted)
  pub told_are : All IsTopic f.told.told

-- a peer has nothing left to be told
abbrev pub IsTold : Wanted → Follower → Type 0
IsTold wanted f = difference f.told.told wanted ≡ None

-- it is the same peer, and is one still
pub record StaysFollower (wanted : Wanted) (f f' : Follower) : Type 0 where
  pub place_is : f'.place ≡ f.place
  pub follows : IsFollower wanted f'

-- a topic that a peer has to be told
pub record IsChange (wanted : Wanted) (f : Follower) (change : ℕ × Topic) : Type 0 where
  pub follows : IsFollower wanted f
  pub differs : difference f.told.told wanted ≡ Some change

-- nothing was told
pub record UntoldChange {S : Type 0} (old new : S) (f f' : Follower) : Type 0 where
  pub peers_are : new ≡ old
  pub told_is : f'.told.told ≡ f.told.told
