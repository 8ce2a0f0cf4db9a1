-- How a session says topics again, and takes messages that it notes (own choice).
use Rattle.std.specs.Prelude.{◌≡◌, ℕ, List, [], ◌∷◌, ◌++◌, Option, Some, None, option_map}
use Rattle.zq_base.specs.Message.{Frames}
use Rattle.zq_base.specs.Ends.{PipeId}
use Rattle.zq_base.specs.declared.options.EngineOpts.{EngineOpts}
use Rattle.zq_outer.specs.declared.link.LinkPut.{LinkPut}
use Rattle.msg_pipe.specs.Known.{Known}
use Rattle.msg_pipe.specs.declared.pipes.Taken.{Taken}
use Rattle.msg_pipe.specs.declared.pipes.Taken.TheVariants as taken
use Rattle.spec_link.specs.LinkAct.{LinkAct, Wire, Repeats, said_by, heard_by, offered_by, put_by}
use Rattle.spec_link.specs.Parts.{IsTake, IsWritePart, WriteFits, write_acts}
use Rattle.spec_link.specs.Topics.{Topics}
use Rattle.link_side.specs.declared.behind.Behind.{Behind}
use Rattle.link_side.specs.declared.behind.Behind.TheVariants.{Nothing, Octets, Unsaid}
use Rattle.link_side.specs.declared.wire.Fetched.{Fetched}
use Rattle.link_side.specs.declared.wire.Fetched.TheVariants as fetched
use Rattle.link_side.specs.declared.write_part.Written.{Written}
use Rattle.link_side.specs.Kept.{Kept, Side, HasRun, Acts}
use Rattle.link_side.specs.Calls.{Adds}
use Rattle.link_side.specs.Works.{take_acts, fetched_of, TookRun}

-- an act that offers this message to the link, and does nothing else
pub record Offers (m : Frames) (act : LinkAct) : Type 0 where
  pub said : said_by act ≡ []
  pub heard : heard_by act ≡ []
  pub offered : offered_by act ≡ m ∷ []
  pub put : put_by act ≡ []

-- the message that isn't offered yet is offered
abbrev pub Forwards : Behind → Kept → Side → Type 0
Forwards Nothing k new = new ≡ record { kept = k; behind = Nothing }
Forwards Octets k new = new ≡ record { kept = k; behind = Octets }
Forwards (Unsaid m) k new = (new.behind ≡ Nothing) × ((act : LinkAct) → Offers m act → Acts k (act ∷ []) new.kept)

-- the message that isn't offered yet, where there is one
abbrev pub IsUnsaid : Behind → Option Frames → Type 0
IsUnsaid behind None = (m : Frames) → behind ≡ Unsaid m → ⊥
IsUnsaid behind (Some m) = behind ≡ Unsaid m

-- no message waits to be offered
abbrev pub IsFree : Behind → Type 0
IsFree Nothing = Unit {0}
IsFree Octets = Unit {0}
IsFree (Unsaid m) = ⊥

-- what a take leaves undone, and the acts of it that are done
abbrev pub left_by : Option Taken → Behind
left_by None = Nothing
left_by (Some (taken.Item m)) = Unsaid m
left_by (Some taken.Empty) = Nothing
left_by (Some taken.Delimiter) = Nothing

abbrev pub done_acts : PipeId → Option Taken → List LinkAct
done_acts pipe None = []
done_acts pipe (Some (taken.Item m)) = []
done_acts pipe (Some taken.Empty) = take_acts pipe (Some taken.Empty)
done_acts pipe (Some taken.Delimiter) = take_acts pipe (Some taken.Delimiter)

module _ {S O I N : Type 0} (K : Known S O I N) where
  -- one write where something is to be written, and then a look at the pipe, of which a message that was taken isn't offered yet
  pub record LookedBy (old : Kept) (put : Option LinkPut) (found : Option Taken) (new : Kept) (said said' : Option (List ℕ)) (s : S) (i : I) (s' : S) (i' : I) : Type 0 where
    pub octets : List ℕ
    pub fits : WriteFits put octets
    pub told : Adds said octets said'
    pub took : TookRun K s i found s' i'
    pub run : (pipe : PipeId) → Acts old (write_acts put octets ++ done_acts pipe found) new
    pub part : (pipe : PipeId) (opts : EngineOpts) (acts : List LinkAct) → HasRun opts acts old →
        IsWritePart opts (IsTake pipe) acts (write_acts put octets ++ take_acts pipe found)

  -- the writing part, of which a message that was taken isn't offered yet
  pub record TakesBy (old : Kept) (done : Written) (new : Side) (said said' : Option (List ℕ)) (s : S) (i : I) (s' : S) (i' : I) : Type 0 where
    pub octets : List ℕ
    pub found : Option Taken
    pub fits : WriteFits done.put octets
    pub told : Adds said octets said'
    pub look : done.look ≡ option_map fetched_of found
    pub took : TookRun K s i found s' i'
    pub left : new.behind ≡ left_by found
    pub run : (pipe : PipeId) → Acts old (write_acts done.put octets ++ done_acts pipe found) new.kept
    pub part : (pipe : PipeId) (opts : EngineOpts) (acts : List LinkAct) → HasRun opts acts old →
        IsWritePart opts (IsTake pipe) acts (write_acts done.put octets ++ take_acts pipe found)

-- the act of a message that is said again, where one is
abbrev pub repeat_acts : Option Frames → List LinkAct
repeat_acts None = []
repeat_acts (Some m) = Wire (Repeats m) ∷ []

-- the messages that are left once this one was said
abbrev pub SaysNext : Topics → Option Frames → Topics → Type 0
SaysNext old None new = new ≡ old
SaysNext old (Some m) new = (rest : List Frames) × (old.again ≡ Some (m ∷ rest)) × (new ≡ record old { again = Some rest })

-- what is told of it
abbrev pub said_look : Option Frames → Option Fetched
said_look None = None
said_look (Some m) = Some fetched.One

-- the writing part where a topic is left: the next one is said in the place of a take
pub record SaysBy (old : Kept) (done : Written) (new : Kept) (said said' : Option (List ℕ)) (topics topics' : Topics) : Type 0 where
  pub octets : List ℕ
  pub message : Option Frames
  pub fits : WriteFits done.put octets
  pub told : Adds said octets said'
  pub look : done.look ≡ said_look message
  pub next : SaysNext topics message topics'
  pub run : Acts old (write_acts done.put octets ++ repeat_acts message) new
  pub part : (m : Frames) (rest : List Frames) → topics.again ≡ Some (m ∷ rest) → (opts : EngineOpts) (acts : List LinkAct) → HasRun opts acts old →
      IsWritePart opts (λ act. act ≡ Wire (Repeats m)) acts (write_acts done.put octets ++ repeat_acts message)
