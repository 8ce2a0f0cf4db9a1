-- What is kept of a peer to find the topics that it has to be told: those that may differ, or that any may (own choice).
use Rattle.std.specs.Prelude.{◌≡◌, Bool, true, false, not, List, ◌∷◌}
use Rattle.std.specs.Map.{keys_of}
use Rattle.std.specs.Str.{bytes_eq}
use Rattle.spec_pattern.specs.Topics.{Topic, AreInOrder, is_among}
use Rattle.spec_pattern.specs.Wanted.{Wanted, wants}

-- the topics that a peer was told, those that may differ from what is wanted, and whether others may, too
pub record ToldState : Type 0 where
  pub told : List Topic
  pub suspects : List Topic
  pub lost : Bool

-- a topic that is no suspect is wanted where it was told
abbrev pub IsKnown : Wanted → ToldState → Type 0
IsKnown wanted s = (t : Topic) → s.lost ≡ false → is_among s.suspects t ≡ false → wants wanted t ≡ is_among s.told t

-- the topic is wanted and wasn't told, or was told and isn't wanted; both stand in order
pub record Differs (wanted : Wanted) (told : List Topic) (t : Topic) : Type 0 where
  pub differs : wants wanted t ≡ not (is_among told t)
  pub told_order : AreInOrder told
  pub wanted_order : AreInOrder (keys_of wanted)

-- the first suspect differs
pub record IsSettled (wanted : Wanted) (s : ToldState) : Type 0 where
  pub found : s.lost ≡ false
  pub first : (t : Topic) (rest : List Topic) → s.suspects ≡ t ∷ rest → Differs wanted s.told t

-- whether the first suspect differs no longer
abbrev pub IsStale : Wanted → ToldState → Bool → Type 0
IsStale wanted s true = (t : Topic) × (rest : List Topic) × (s.suspects ≡ t ∷ rest) × (wants wanted t ≡ is_among s.told t)
IsStale wanted s false = (t : Topic) (rest : List Topic) → s.suspects ≡ t ∷ rest → Differs wanted s.told t

-- the same topics are wanted, but for this one
abbrev pub WantsAlike : Topic → Wanted → Wanted → Type 0
WantsAlike topic v w = (t : Topic) → bytes_eq topic t ≡ false → wants w t ≡ wants v t
