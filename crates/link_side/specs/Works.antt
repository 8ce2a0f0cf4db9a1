-- What the two parts of a turn do to what is kept of a link, to the link and to the halves (own choice).
use Rattle.std.specs.Prelude.{◌≡◌, ℕ, Bool, List, [], ◌∷◌, ◌++◌, Option, Some, None, IsSome, option_map}
use Rattle.zq_base.specs.Message.{Frames}
use Rattle.zq_base.specs.Ends.{PipeId}
use Rattle.zq_base.specs.declared.options.EngineOpts.{EngineOpts}
use Rattle.zq_outer.specs.declared.link.LinkGot.{LinkGot}
use Rattle.msg_pipe.specs.Known.{Known}
use Rattle.msg_pipe.specs.Told.{take_step}
use Rattle.msg_pipe.specs.declared.pipes.Taken.{Taken}
use Rattle.msg_pipe.specs.declared.pipes.Taken.TheVariants as taken
use Rattle.spec_link.specs.LinkAct.{LinkAct, Step}
use Rattle.spec_link.specs.Parts.{IsTake, SomethingHeld, NothingHeld, WriteFits, ReadFits, IsWritePart, IsReadPart, write_acts, read_acts}
use Rattle.link_side.specs.Kept.{Kept, HasRun, Acts}
use Rattle.link_side.specs.declared.wire.Fetched.{Fetched}
use Rattle.link_side.specs.declared.wire.Fetched.TheVariants as fetched
use Rattle.link_side.specs.declared.write_part.Written.{Written}
use Rattle.link_side.specs.declared.read_part.Heard.{Heard}
use Rattle.link_side.specs.Calls.{Adds, TakeRun, PutsRun, put_acts, is_some_put}

-- the act of a take, where one was made
abbrev pub take_acts : PipeId → Option Taken → List LinkAct
take_acts pipe None = []
take_acts pipe (Some found) = Step (take_step pipe found) ∷ []

-- what a take found, without the message
abbrev pub fetched_of : Taken → Fetched
fetched_of (taken.Item m) = fetched.One
fetched_of taken.Empty = fetched.None
fetched_of taken.Delimiter = fetched.Delimiter

module _ {S O I N : Type 0} (K : Known S O I N) where
  -- a take was made that found this, or none
  abbrev pub TookRun : S → I → Option Taken → S → I → Type 0
  TookRun s i None s' i' = (s' ≡ s) × (i' ≡ i)
  TookRun s i (Some found) s' i' = TakeRun K s i found s' i'

  -- the writing part, with its answer: it adds a writing part to the acts at the link, and what it did at the link and the half is that
  pub record WritesBy (old : Kept) (done : Written) (new : Kept) (said said' : Option (List ℕ)) (s : S) (i : I) (s' : S) (i' : I) : Type 0 where
    pub octets : List ℕ
    pub found : Option Taken
    pub fits : WriteFits done.put octets
    pub told : Adds said octets said'
    pub look : done.look ≡ option_map fetched_of found
    pub took : TookRun s i found s' i'
    pub run : (pipe : PipeId) → Acts old (write_acts done.put octets ++ take_acts pipe found) new
    pub part : (pipe : PipeId) (opts : EngineOpts) (acts : List LinkAct) → HasRun opts acts old →
        IsWritePart opts (IsTake pipe) acts (write_acts done.put octets ++ take_acts pipe found)

  -- the reading part, with the answer of its read and whether it put a message; it is exactly one where what is kept was at rest
  pub record ReadsBy (rest : Type 0) (old : Kept) (done : Heard) (new : Kept) (heard heard' : Option (List ℕ)) (s : S) (o : O) (s' : S) (o' : O) : Type 0 where
    pub octets : List ℕ
    pub messages : List Frames
    pub full : Bool
    pub fits : ReadFits done.got octets
    pub told : Adds heard octets heard'
    pub put_is : done.put ≡ is_some_put messages
    pub puts : PutsRun K s o messages full s' o'
    pub run : (pipe : PipeId) → Acts old (read_acts done.got octets ++ put_acts pipe messages full) new
    pub part : rest → (pipe : PipeId) (opts : EngineOpts) (acts : List LinkAct) → HasRun opts acts old →
        IsReadPart opts pipe acts (read_acts done.got octets ++ put_acts pipe messages full)

-- a reading part that memory cut short: at most its read was made, exactly where nothing is held, and what it gave is kept
pub record WantsBy (rest : Type 0) (old new : Kept) (heard heard' : Option (List ℕ)) (shown : Option LinkGot → Type 0) : Type 0 where
  pub answer : Option LinkGot
  pub octets : List ℕ
  pub fits : ReadFits answer octets
  pub told : Adds heard octets heard'
  pub run : Acts old (read_acts answer octets) new
  pub held : rest → (opts : EngineOpts) (acts : List LinkAct) → HasRun opts acts old → answer ≡ None → SomethingHeld opts acts
  pub read : rest → (opts : EngineOpts) (acts : List LinkAct) → HasRun opts acts old → IsSome answer → NothingHeld opts acts
  pub counts : shown answer
