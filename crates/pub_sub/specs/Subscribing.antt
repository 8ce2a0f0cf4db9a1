-- A SUB or an XSUB by its places (RFC 29, "The SUB Socket Type", "The XSUB Socket Type").
use Rattle.std.specs.Prelude.{◌≡◌, ℕ, Bool, true, not, List, [], ◌∷◌, ◌++◌, map, nat_eq, Result, Ok, Err, All}
use Rattle.std.specs.List.{IsDistinct}
use Rattle.std.specs.Map.{keys_of}
use Rattle.spec_pattern.specs.PipeStep.{PipeStep}
use Rattle.spec_pattern.specs.TurnList.{End}
use Rattle.spec_pattern.specs.Topics.{Topic, Subscribers, with_peer, without_peer, IsTopic}
use Rattle.spec_pattern.specs.Wanted.{Wanted, wants, with_one_more, with_one_less}
use Rattle.spec_pattern.specs.Subscribing.{Subscriber, SubAnswer, Done, Limit, NotSub, is_refused, Tells, wanted_of, SubReceives, with_publisher, without_publisher}
use Rattle.spec_pattern.specs.PatternCalls.{Change, Subscribe, Unsubscribe, Changes}
use Rattle.spec_pattern.specs.declared.answers.Rule.TheVariants.{Filtered}
use Rattle.spec_pattern.specs.declared.answers.Skip.{Skip}
use Rattle.spec_pattern.specs.declared.answers.RecvAnswer.{RecvAnswer}
use Rattle.msg_pipe.specs.Turns.{without_place}
use Rattle.spec_pattern.specs.Dropping.{receiving, DropsFew}
use Rattle.pub_sub.specs.Places.{subs_at, is_place, AreApart, TellsOf}
use Rattle.pub_sub.specs.Telling.{IsFollower, IsTold}
use Rattle.pub_sub.specs.Followers.{places_of, StopsRows}
use Rattle.pub_sub.specs.declared.follower.Follower.{Follower}
use Rattle.pub_sub.specs.declared.change_fault.ChangeFault.{ChangeFault}
use Rattle.pub_sub.specs.declared.change_fault.ChangeFault.TheVariants as fault

-- the turns of the peers, what is wanted, and the peers in the order of their attachment, each with what it was told
pub record SubState : Type 0 where
  pub ins : List ℕ
  pub wanted : Wanted
  pub followers : Subscribers ℕ

-- the subscriber over the ends at its places
abbrev pub subscriber_at : (ℕ → End) → SubState → Subscriber
subscriber_at ends s = record { ins = map ends s.ins; wanted = s.wanted; followers = subs_at ends s.followers }

-- no peers, and nothing wanted
abbrev pub no_publishers : SubState
no_publishers = record { ins = []; wanted = []; followers = [] }

-- a further peer, which was told nothing yet
abbrev pub with_publisher_at : ℕ → SubState → SubState
with_publisher_at place s = record s { ins = s.ins ++ place ∷ []; followers = with_peer place s.followers }

-- a peer goes
abbrev pub without_publisher_at : ℕ → SubState → SubState
without_publisher_at place s = record s { ins = without_place place s.ins; followers = without_peer nat_eq place s.followers }

-- another topic list is wanted
abbrev pub wanting : Wanted → SubState → SubState
wanting wanted s = record s { wanted = wanted }

-- the peer at this place came, over the ends that are there
abbrev pub Joins : (ℕ → End) → ℕ → SubState → SubState → Type 0
Joins ends place s s' = subscriber_at ends s' ≡ with_publisher (ends place) (subscriber_at ends s)

-- the peer at this place went, over the ends that are there, no two of which are the same
abbrev pub Leaves : (ℕ → End) → ℕ → SubState → SubState → Type 0
Leaves ends place s s' =
    AreApart ends (s.ins ++ keys_of s.followers) → is_place (s.ins ++ keys_of s.followers) place ≡ true
    → subscriber_at ends s' ≡ without_publisher (ends place) (subscriber_at ends s)

-- what is always so: a topic that is wanted can be told, each peer follows, each at a place of its own, and where it is quiet none has anything left to be told
pub record AreFollowed (wanted : Wanted) (fs : List Follower) (quiet : Bool) : Type 0 where
  pub short : All IsTopic (keys_of wanted)
  pub apart : IsDistinct nat_eq (places_of fs)
  pub follow : All (IsFollower wanted) fs
  pub none_left : quiet ≡ true → All (IsTold wanted) fs

-- the peers stay
pub record KeepsFollowers (s s' : SubState) : Type 0 where
  pub ins_are : s'.ins ≡ s.ins
  pub places_are : keys_of s'.followers ≡ keys_of s.followers

-- what is wanted stays, and the peers with what they were told
pub record KeepsWanted (s s' : SubState) : Type 0 where
  pub wanted_is : s'.wanted ≡ s.wanted
  pub followers_are : s'.followers ≡ s.followers

-- of a change of what is wanted: its answer, or what holds where memory was wanting before it was made, and where it was made and wasn't told
abbrev pub MatchChange : Result (Unit {0}) ChangeFault → Type 0 → Type 0 → (SubAnswer → Type 0) → Type 0
MatchChange (Ok done) nothing untold P = P Done
MatchChange (Err fault.SubLimit) nothing untold P = P Limit
MatchChange (Err fault.NotSub) nothing untold P = P NotSub
MatchChange (Err fault.OutOfMemory) nothing untold P = nothing
MatchChange (Err fault.Untold) nothing untold P = untold

-- whether a change of what is wanted is made
abbrev pub may_change : Change → Topic → Wanted → Bool
may_change Subscribe topic wanted = not (is_refused wanted topic)
may_change Unsubscribe topic wanted = wants wanted topic

-- what is wanted once it is made
abbrev pub wanted_by : Change → Topic → Wanted → Wanted
wanted_by Subscribe topic wanted = with_one_more topic wanted
wanted_by Unsubscribe topic wanted = with_one_less topic wanted

module _ {S : Type 0} (runs : S → List PipeStep → S → Type 0) (ends : ℕ → End) where
  -- the calls between the two states made the steps of telling the peers
  pub record TellsPeers (writable : ℕ → Bool) (old new : S) (s s' : SubState) : Type 0 where
    pub steps : List PipeStep
    pub runs_are : runs old steps new
    pub step : (can_write : End → Bool) → TellsOf can_write ends writable (keys_of s.followers)
        → Tells can_write (subscriber_at ends s) steps (subscriber_at ends s')

  -- telling met want of memory: some peers were told, one some of what differs, and the others nothing
  pub record StopsTelling (writable : ℕ → Bool) (old new : S) (s s' : SubState) : Type 0 where
    pub stops : StopsRows runs ends writable s.wanted old new s.followers s'.followers
    pub new_is : s' ≡ record s { followers = s'.followers }

  -- the calls between the two states made the steps of a change of what is wanted
  pub record ChangesAt (writable : ℕ → Bool) (change : Change) (topic : Topic) (old new : S) (s : SubState) (answer : SubAnswer) (s' : SubState) : Type 0 where
    pub steps : List PipeStep
    pub runs_are : runs old steps new
    pub step : (can_write : End → Bool) → TellsOf can_write ends writable (keys_of s.followers)
        → Changes change can_write topic (subscriber_at ends s) steps answer (subscriber_at ends s')

  -- a change was made, and telling it met want of memory
  pub record ChangesUntold (writable : ℕ → Bool) (change : Change) (topic : Topic) (old new : S) (s s' : SubState) : Type 0 where
    pub made : may_change change topic s.wanted ≡ true
    pub stops : StopsTelling writable old new (wanting (wanted_by change topic s.wanted) s) s'

  -- the calls between the two states made the steps of a receive of the SUB, and what it dropped was told
  pub record SubGives (old new : S) (told told' : List Skip) (s : SubState) (answer : RecvAnswer) (s' : SubState) : Type 0 where
    pub steps : List PipeStep
    pub runs_are : runs old steps new
    pub skips : List Skip
    pub step : SubReceives (subscriber_at ends s) steps skips answer (subscriber_at ends s')
    pub told_are : told' ≡ told ++ skips

  -- a receive of the SUB that met want of memory: what it dropped before stays dropped
  pub record SubStops (old new : S) (told told' : List Skip) (s s' : SubState) : Type 0 where
    pub dropped : DropsFew runs ends (wanted_of s.wanted) Filtered (receiving old s.ins told) (receiving new s'.ins told')
    pub new_is : s' ≡ record s { ins = s'.ins }
