-- Sending one message to many (RFC 29, "The PUB Socket Type": it goes to all matching subscribers, and is dropped for those whose queue is full).
use Rattle.std.specs.Prelude.{◌≡◌, ℕ, Bool, not, List, map, filter, if◌then◌else◌}
use Rattle.zq_base.specs.Message.{Frames}
use Rattle.zq_base.specs.Ends.{PipeId}
use Rattle.spec_pattern.specs.PipeStep.{PipeStep, Commit, FullLook}

-- the look at one place, and whether it found room
pub record Look : Type 0 where
  pub place : ℕ
  pub room : Bool

-- the places of these looks
abbrev pub places_of : List Look → List ℕ
places_of looks = map (λ l. l.place) looks

-- the looks that found room, and those that found none
abbrev pub with_room : List Look → List Look
with_room looks = filter (λ l. l.room) looks

abbrev pub without_room : List Look → List Look
without_room looks = filter (λ l. not l.room) looks

-- the step of a look: the message is committed where there is room
abbrev pub step_of : (ℕ → PipeId) → Frames → Look → PipeStep
step_of ends message look =
    if look.room then Commit (ends look.place) message else FullLook (ends look.place)

-- Each place was looked at once, in order. The message was committed at those with room, and the others were full.
pub record IsDistribution (ends : ℕ → PipeId) (message : Frames) (places put full : List ℕ) (steps : List PipeStep) : Type 0 where
  pub looks : List Look
  pub places_are : places ≡ places_of looks
  pub put_are : put ≡ places_of (with_room looks)
  pub full_are : full ≡ places_of (without_room looks)
  pub steps_are : steps ≡ map (step_of ends message) looks

-- the calls between the two states made these steps, which distribute the message
pub record Distributes {S : Type 0} (runs : S → List PipeStep → S → Type 0) (ends : ℕ → PipeId) (message : Frames)
    (old new : S) (places put full : List ℕ) : Type 0 where
  pub steps : List PipeStep
  pub runs_are : runs old steps new
  pub sent : IsDistribution ends message places put full steps
