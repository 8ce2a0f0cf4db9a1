-- What calls at a link and at the halves of an end did (own choice).
use Rattle.std.specs.Prelude.{◌≡◌, ℕ, Bool, true, false, List, [], ◌∷◌, ◌++◌, take, Option, Some, None}
use Rattle.zq_base.specs.Message.{Frames}
use Rattle.zq_base.specs.Ends.{PipeId}
use Rattle.zq_outer.specs.declared.link.LinkGot.{LinkGot}
use Rattle.zq_outer.specs.declared.link.LinkGot.TheVariants as got
use Rattle.zq_outer.specs.declared.link.LinkPut.{LinkPut}
use Rattle.zq_outer.specs.declared.link.LinkPut.TheVariants as put
use Rattle.zq_outer.specs.Count.{RoseIf}
use Rattle.spec_pattern.specs.PipeStep.{FullLook}
use Rattle.msg_pipe.specs.Known.{Known, KeepsButOut, KeepsButIn, SeesTakes, SeesCommits}
use Rattle.msg_pipe.specs.Told.{Puts, Finds, front_of}
use Rattle.msg_pipe.specs.declared.pipes.PutIn.{PutIn}
use Rattle.msg_pipe.specs.declared.pipes.PutIn.TheVariants as put_in
use Rattle.msg_pipe.specs.declared.pipes.Taken.{Taken}
use Rattle.spec_link.specs.LinkAct.{LinkAct, Step}
use Rattle.spec_link.specs.Parts.{puts}

-- ---- at a link

-- octets are added to what the link tells
abbrev pub Adds : Option (List ℕ) → List ℕ → Option (List ℕ) → Type 0
Adds None octets new = new ≡ None
Adds (Some told) octets new = new ≡ Some (told ++ octets)

-- the octets that a write took
abbrev pub octets_put : LinkPut → List ℕ → List ℕ
octets_put (put.Took n) piece = take n piece
octets_put put.NotReady piece = []
octets_put put.Ended piece = []
octets_put put.Failed piece = []

-- what the counts of a link show of a write, where one was made
pub record WriteCounts (answer : Option LinkPut) (faults faults' stalls stalls' ends ends' : ℕ) : Type 0 where
  pub failed : RoseIf faults faults' (answer ≡ Some put.Failed)
  pub stalled : RoseIf stalls stalls' (answer ≡ Some put.NotReady)
  pub ended : RoseIf ends ends' (answer ≡ Some put.Ended)

-- and of a read
pub record ReadCounts (answer : Option LinkGot) (faults faults' stalls stalls' ends ends' : ℕ) : Type 0 where
  pub failed : RoseIf faults faults' (answer ≡ Some got.Failed)
  pub stalled : RoseIf stalls stalls' (answer ≡ Some got.NotReady)
  pub ended : RoseIf ends ends' (answer ≡ Some got.Ended)

-- the same, by what the link shows before and behind
abbrev pub CountsWrite : {L : Type 0} → (faults stalls ends : L → ℕ) → Option LinkPut → (old new : L) → Type 0
CountsWrite faults stalls ends answer old new = WriteCounts answer (faults old) (faults new) (stalls old) (stalls new) (ends old) (ends new)

abbrev pub CountsRead : {L : Type 0} → (faults stalls ends : L → ℕ) → Option LinkGot → (old new : L) → Type 0
CountsRead faults stalls ends answer old new = ReadCounts answer (faults old) (faults new) (stalls old) (stalls new) (ends old) (ends new)

-- ---- at the halves

module _ {S O I N : Type 0} (K : Known S O I N) where
  -- one take
  pub record TakeRun (s : S) (i : I) (found : Taken) (s' : S) (i' : I) : Type 0 where
    pub takes : Finds (K.reading s i) found (K.reading s' i')
    pub exact : SeesCommits K i i' (front_of found) s s'
    pub keeps : KeepsButIn K i i' s s'

  -- one put of a message
  pub record PutRun (s : S) (o : O) (m : Frames) (found : PutIn) (s' : S) (o' : O) : Type 0 where
    pub puts_is : Puts (K.writing s o) m found (K.writing s' o')
    pub exact : SeesTakes K o o' s s'
    pub keeps : KeepsButOut K o o' s s'

  -- puts of these messages, one after another, and then perhaps one that found the pipe full
  abbrev pub PutsRun : S → O → List Frames → Bool → S → O → Type 0
  PutsRun s o [] false s' o' = (s' ≡ s) × (o' ≡ o)
  PutsRun s o [] true s' o' = (m : Frames) × PutRun s o m (put_in.Full m) s' o'
  PutsRun s o (m ∷ ms) full s' o' = (t : S) × (p : O) × PutRun s o m put_in.Ok t p × PutsRun t p ms full s' o'

-- what a put found, by whether the message went
abbrev pub put_found : Bool → Frames → PutIn
put_found true m = put_in.Ok
put_found false m = put_in.Full m

-- whether a message was put
abbrev pub is_some_put : List Frames → Bool
is_some_put [] = false
is_some_put (m ∷ ms) = true

-- the acts of these puts
abbrev pub full_acts : PipeId → Bool → List LinkAct
full_acts pipe false = []
full_acts pipe true = Step (FullLook pipe) ∷ []

abbrev pub put_acts : PipeId → List Frames → Bool → List LinkAct
put_acts pipe ms full = puts pipe ms ++ full_acts pipe full
