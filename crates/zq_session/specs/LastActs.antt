-- Why a link is over, and the last acts at it (own choice).
use Rattle.std.specs.Prelude.{◌≡◌, ◌⊎◌, ℕ, Bool, true, false, List, [], ◌++◌, Option, Some, None}
use Rattle.std.specs.List.{flat_map}
use Rattle.zq_base.specs.Ends.{PipeId}
use Rattle.zq_base.specs.declared.options.EngineOpts.{EngineOpts}
use Rattle.zq_outer.specs.declared.link.LinkGot.{LinkGot}
use Rattle.zq_outer.specs.declared.link.LinkPut.{LinkPut}
use Rattle.msg_pipe.specs.Known.{Known}
use Rattle.spec_zmtp.specs.declared.cause.Cause.{Cause}
use Rattle.spec_link.specs.declared.row.LinkEnd.{LinkEnd}
use Rattle.spec_link.specs.declared.row.LinkEnd.TheVariants.{Refused}
use Rattle.spec_link.specs.LinkAct.{LinkAct, said_of, heard_of, taken_of, repeated_of}
use Rattle.spec_link.specs.Parts.{NothingHeld, SomethingHeld, PutsAll}
use Rattle.spec_link.specs.History.{Basis}
use Rattle.spec_link.specs.Turn.{IsWriteOnly, write_end, read_end}
use Rattle.link_side.specs.Kept.{Kept, HasRun, Acts, KeepsActs}
use Rattle.link_side.specs.Calls.{Adds}
use Rattle.link_side.specs.Silent.{IsRefusedNow, IsUnrefused}
use Rattle.zq_session.specs.Halves.{StepsRun, step_in}
use Rattle.zq_session.specs.Shown.{AreShown}

-- why a link is over by an answer, where one was given
abbrev pub end_by_put : Option LinkPut → Option LinkEnd
end_by_put None = None
end_by_put (Some answer) = write_end answer

abbrev pub end_by_got : Option LinkGot → Option LinkEnd
end_by_got None = None
end_by_got (Some answer) = read_end answer

-- what was heard is refused, whatever the cause
abbrev pub WasRefused : Kept → Type 0
WasRefused k = (c : Cause) × IsRefusedNow c k

-- a link that is over since the stream was refused
abbrev pub IsRefusal : LinkEnd → Type 0
IsRefusal cause = (c : Cause) × (cause ≡ Refused c)

-- behind its reading part the link is over for this cause: by the answer of the read, or by what was heard, where the handshake wasn't said to be done just now
abbrev pub IsOverNow : Option LinkGot → (said : Bool) → Kept → LinkEnd → Type 0
IsOverNow got said k cause =
    (end_by_got got ≡ Some cause)
    ⊎ ((end_by_got got ≡ None) × ((said ≡ false) × ((c : Cause) × (cause ≡ Refused c) × IsRefusedNow c k)))

-- or it stands
pub record StandsNow (got : Option LinkGot) (said : Bool) (k : Kept) : Type 0 where
  pub answer : end_by_got got ≡ None
  pub unrefused : said ≡ false → IsUnrefused k

-- acts that write nothing and read nothing, and take nothing from the pipe
pub record AreQuiet (acts : List LinkAct) : Type 0 where
  pub says : said_of acts ≡ []
  pub hears : heard_of acts ≡ []
  pub takes : taken_of acts ≡ []
  pub repeats : repeated_of acts ≡ []
  pub shows : (faults stalls ends : ℕ) → AreShown acts faults faults stalls stalls ends ends

module _ {S O I N : Type 0} (K : Known S O I N) where
  -- puts of all that is whole where they are due, and else none
  pub record PutsLastBy (puts : Bool) (pipe : PipeId) (old new : Kept) (s : S) (o : Option O) (s' : S) (o' : Option O) : Type 0 where
    pub acts : List LinkAct
    pub quiet : AreQuiet acts
    pub steps : (i : Option I) → StepsRun K (flat_map step_in acts) s i o s' i o'
    pub run : Acts old acts new
    pub all : puts ≡ true → (opts : EngineOpts) (before : List LinkAct) → HasRun opts before old →
        PutsAll (SomethingHeld opts (before ++ acts)) (NothingHeld opts (before ++ acts)) pipe acts
    pub none : puts ≡ false → acts ≡ []

-- one write of what is left where it is due, and else none
pub record SaysLastBy (says : Bool) (old new : Kept) (said said' : Option (List ℕ)) (shown : List LinkAct → Type 0) : Type 0 where
  pub acts : List LinkAct
  pub said_is : Adds said (said_of acts) said'
  pub hears : heard_of acts ≡ []
  pub takes : taken_of acts ≡ []
  pub repeats : repeated_of acts ≡ []
  pub steps : flat_map step_in acts ≡ []
  pub shown_is : shown acts
  pub run : (opts : EngineOpts) → KeepsActs opts old acts new
  pub write : says ≡ true → (b : Basis) (before : List LinkAct) → HasRun b.opts before old → IsWriteOnly b before acts
  pub none : says ≡ false → acts ≡ []
