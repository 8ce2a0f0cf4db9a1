-- The two parts of a turn at a link, by how the session's end stands (own choice).
use Rattle.std.specs.Prelude.{◌≡◌, ℕ, Bool, true, false, List, [], ◌++◌, Option, None, IsSome, MatchOption, option_map}
use Rattle.std.specs.List.{flat_map}
use Rattle.zq_base.specs.Message.{Frames}
use Rattle.zq_base.specs.Ends.{PipeId}
use Rattle.zq_base.specs.declared.options.EngineOpts.{EngineOpts}
use Rattle.zq_base.specs.declared.kind.Kind.TheVariants.{Push}
use Rattle.zq_outer.specs.declared.link.LinkGot.{LinkGot}
use Rattle.msg_pipe.specs.Known.{Known}
use Rattle.msg_pipe.specs.declared.pipes.Taken.{Taken}
use Rattle.spec_link.specs.LinkAct.{LinkAct}
use Rattle.spec_link.specs.Parts.{IsTake, NothingHeld, SomethingHeld, IsWritePart, IsReadPart, IsSilentReadPart, WriteFits, ReadFits, write_acts, read_acts}
use Rattle.spec_link.specs.History.{Basis}
use Rattle.spec_link.specs.Turn.{IsWriteOnly}
use Rattle.zq_session.specs.declared.life.ReadMode.{ReadMode}
use Rattle.zq_session.specs.declared.life.ReadMode.TheVariants as mode
use Rattle.link_side.specs.declared.read_part.Heard.{Heard}
use Rattle.link_side.specs.declared.write_part.Written.{Written}
use Rattle.link_side.specs.Kept.{Kept, HasRun, Acts, IsKeptOf, KeepsActs}
use Rattle.link_side.specs.Calls.{Adds, put_acts, is_some_put}
use Rattle.link_side.specs.Works.{take_acts, fetched_of}
use Rattle.zq_session.specs.Halves.{StepsRun, step_in}

-- the reading part of a session that reads so
abbrev pub ReadsAs : ReadMode → EngineOpts → PipeId → (acts more : List LinkAct) → Type 0
ReadsAs mode.Nothing opts pipe acts more = more ≡ []
ReadsAs mode.Puts opts pipe acts more = IsReadPart opts pipe acts more
ReadsAs mode.Holds opts pipe acts more = IsSilentReadPart (NothingHeld opts acts) more
ReadsAs mode.Drops opts pipe acts more = IsSilentReadPart (Unit {0}) more

-- a session of this kind may read so: a PUSH drops what it hears, and no other does
abbrev pub IsFor : ReadMode → EngineOpts → Type 0
IsFor mode.Nothing opts = Unit {0}
IsFor mode.Puts opts = opts.kind ≡ Push → ⊥
IsFor mode.Holds opts = opts.kind ≡ Push → ⊥
IsFor mode.Drops opts = opts.kind ≡ Push

-- one read exactly where it is due, of a session that reads so
abbrev pub ReadsOnce : ReadMode → EngineOpts → (acts : List LinkAct) → Option LinkGot → Type 0
ReadsOnce mode.Nothing opts acts answer = answer ≡ None
ReadsOnce mode.Puts opts acts answer = MatchOption answer (SomethingHeld opts acts) (λ _. NothingHeld opts acts)
ReadsOnce mode.Holds opts acts answer = MatchOption answer (SomethingHeld opts acts) (λ _. NothingHeld opts acts)
ReadsOnce mode.Drops opts acts answer = IsSome answer

module _ {S O I N : Type 0} (K : Known S O I N) where
  -- the writing part: with a take where the end can be read, and else a write alone
  pub record WritesAtBy (can_read : Bool) (old : Kept) (done : Written) (new : Kept) (said said' : Option (List ℕ)) (s : S) (i : Option I) (s' : S) (i' : Option I) : Type 0 where
    pub octets : List ℕ
    pub found : Option Taken
    pub fits : WriteFits done.put octets
    pub told : Adds said octets said'
    pub look : done.look ≡ option_map fetched_of found
    pub steps : (pipe : PipeId) (o : Option O) → StepsRun K (flat_map step_in (take_acts pipe found)) s i o s' i' o
    pub run : (pipe : PipeId) → Acts old (write_acts done.put octets ++ take_acts pipe found) new
    pub takes : can_read ≡ true → (pipe : PipeId) (opts : EngineOpts) (acts : List LinkAct) → HasRun opts acts old →
        IsWritePart opts (IsTake pipe) acts (write_acts done.put octets ++ take_acts pipe found)
    pub alone : can_read ≡ false → (pipe : PipeId) (b : Basis) (acts : List LinkAct) → HasRun b.opts acts old →
        IsWriteOnly b acts (write_acts done.put octets ++ take_acts pipe found)

  -- the reading part
  pub record ReadsAtBy (how : ReadMode) (old : Kept) (done : Heard) (new : Kept) (heard heard' : Option (List ℕ)) (s : S) (o : Option O) (s' : S) (o' : Option O) : Type 0 where
    pub octets : List ℕ
    pub messages : List Frames
    pub full : Bool
    pub fits : ReadFits done.got octets
    pub told : Adds heard octets heard'
    pub put_is : done.put ≡ is_some_put messages
    pub steps : (pipe : PipeId) (i : Option I) → StepsRun K (flat_map step_in (put_acts pipe messages full)) s i o s' i o'
    pub run : (pipe : PipeId) (opts : EngineOpts) → IsFor how opts → KeepsActs opts old (read_acts done.got octets ++ put_acts pipe messages full) new
    pub part : (pipe : PipeId) (opts : EngineOpts) (acts : List LinkAct) → IsFor how opts → IsKeptOf opts acts old →
        ReadsAs how opts pipe acts (read_acts done.got octets ++ put_acts pipe messages full)

-- a reading part that memory cut short: its read alone was made, where it was due
pub record WantsAtBy (how : ReadMode) (old new : Kept) (heard heard' : Option (List ℕ)) (shown : Option LinkGot → Type 0) : Type 0 where
  pub answer : Option LinkGot
  pub octets : List ℕ
  pub fits : ReadFits answer octets
  pub told : Adds heard octets heard'
  pub run : (opts : EngineOpts) → IsFor how opts → KeepsActs opts old (read_acts answer octets) new
  pub part : (opts : EngineOpts) (acts : List LinkAct) → IsFor how opts → IsKeptOf opts acts old → ReadsOnce how opts acts answer
  pub counts : shown answer
