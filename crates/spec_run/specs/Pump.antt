-- What an open socket does before each of its calls: it takes the letters of its mailbox, hears or tells its peers, and looks at each end that reads on to its delimiter (own choice, after libzmq's `process_commands`).
use Rattle.std.specs.Prelude.{◌≡◌, ◌<◌, ℕ, List, [], ◌∷◌, ◌++◌, length, flat_map, map}
use Rattle.spec_pattern.specs.PipeStep.{PipeStep}
use Rattle.spec_pattern.specs.Pattern.{Pattern}
use Rattle.spec_pattern.specs.PatternCalls.{PatternPumps}
use Rattle.spec_control.specs.declared.entry.SeenEmpty.TheVariants.{Mailbox}
use Rattle.spec_control.specs.Moments.{Moment}
use Rattle.spec_run.specs.Act.{Act, Step, Said, moments_in}
use Rattle.spec_run.specs.OpenSocket.{OpenSock, can_write, waiting_ends, PassesItems}
use Rattle.spec_run.specs.Event.{IsLookAt, LooksFronts, TakesLetters}

-- the most letters that one pump takes
abbrev pub most_letters : ℕ
most_letters = 64

module _ {N S : Type 0} where
  -- taking is over: so many letters were taken, or the mailbox is found empty
  pub data EndsTaking (slot taken : ℕ) (acts : List (Act N S)) : Type 0 where
    took_all : taken ≡ most_letters → acts ≡ [] → EndsTaking slot taken acts
    found_empty : (m : Moment N S) → taken < most_letters → IsLookAt (Mailbox (record { 0 = slot })) m → acts ≡ Said m ∷ [] → EndsTaking slot taken acts

  pub record Pumps (old : OpenSock) (acts : List (Act N S)) (new : OpenSock) : Type 0 where
    pub letters : List (List (Act N S))
    pub last : List (Act N S)
    pub takes : TakesLetters old.slot letters
    pub ends : EndsTaking old.slot (length letters) last
    -- the socket behind its letters
    pub heard : OpenSock
    pub hears : PassesItems (moments_in (flat_map (λ x. x) letters ++ last)) old heard
    -- and behind what it hears or tells
    pub steps : List PipeStep
    pub pattern : Pattern
    pub pumps : PatternPumps (can_write heard) heard.pattern steps pattern
    pub looks : List (Act N S)
    pub looks_are : LooksFronts (waiting_ends heard) looks
    pub meets : PassesItems (moments_in looks) (record heard { pattern = pattern }) new
    pub acts_are : acts ≡ (flat_map (λ x. x) letters ++ last) ++ (map (λ step. Step step) steps ++ looks)
