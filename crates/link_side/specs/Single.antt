-- A write alone, and puts alone, at a link and the halves (own choice).
use Rattle.std.specs.Prelude.{ℕ, Bool, List, ◌++◌, Option}
use Rattle.zq_base.specs.Message.{Frames}
use Rattle.zq_base.specs.Ends.{PipeId}
use Rattle.zq_base.specs.declared.options.EngineOpts.{EngineOpts}
use Rattle.zq_outer.specs.declared.link.LinkPut.{LinkPut}
use Rattle.msg_pipe.specs.Known.{Known}
use Rattle.spec_link.specs.LinkAct.{LinkAct}
use Rattle.spec_link.specs.Parts.{NothingHeld, SomethingHeld, PutsAll, WriteFits, write_acts, puts}
use Rattle.spec_link.specs.History.{Basis}
use Rattle.spec_link.specs.Turn.{IsWriteOnly}
use Rattle.link_side.specs.Kept.{Kept, HasRun, Acts}
use Rattle.link_side.specs.Calls.{Adds, PutsRun, put_acts}

-- one write where something is to be written
pub record WritesAlone (old : Kept) (answer : Option LinkPut) (new : Kept) (said said' : Option (List ℕ)) : Type 0 where
  pub octets : List ℕ
  pub fits : WriteFits answer octets
  pub told : Adds said octets said'
  pub run : Acts old (write_acts answer octets) new
  pub part : (b : Basis) (acts : List LinkAct) → HasRun b.opts acts old → IsWriteOnly b acts (write_acts answer octets)

-- all that is whole is dropped, which to what is kept is as if it was put
pub record DropsBy (old new : Kept) : Type 0 where
  pub messages : List Frames
  pub run : (pipe : PipeId) → Acts old (puts pipe messages) new
  pub none : (opts : EngineOpts) (acts : List LinkAct) → HasRun opts acts new → NothingHeld opts acts × (SomethingHeld opts acts → ⊥)

module _ {S O I N : Type 0} (K : Known S O I N) where
  -- puts of all that is whole, until the pipe is full
  pub record PutsBy (old new : Kept) (s : S) (o : O) (s' : S) (o' : O) : Type 0 where
    pub messages : List Frames
    pub full : Bool
    pub puts : PutsRun K s o messages full s' o'
    pub run : (pipe : PipeId) → Acts old (put_acts pipe messages full) new
    pub part : (pipe : PipeId) (opts : EngineOpts) (acts : List LinkAct) → HasRun opts acts old →
        PutsAll (SomethingHeld opts (acts ++ put_acts pipe messages full)) (NothingHeld opts (acts ++ put_acts pipe messages full)) pipe (put_acts pipe messages full)
