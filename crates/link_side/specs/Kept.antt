-- What a session keeps of one link, and the acts at the link that it is kept of (own choice).
use Rattle.std.specs.Prelude.{◌≡◌, ℕ, List, [], ◌∷◌, ◌++◌, length, Option, None}
use Rattle.std.specs.List.{flat_map}
use Rattle.std.specs.Option.{option_to_list}
use Rattle.zq_base.specs.Message.{Frames}
use Rattle.zq_base.specs.declared.options.EngineOpts.{EngineOpts}
use Rattle.zq_base.specs.declared.kind.Kind.TheVariants.{Push}
use Rattle.spec_pattern.specs.PipeStep.{PipeStep, Commit, FullLook, RoomLook, Take, EmptyLook, DelimiterLook, WaitingLook, Seal}
use Rattle.spec_zmtp.specs.Put.{Put, messages_in}
use Rattle.link_side.specs.declared.behind.Behind.{Behind}
use Rattle.zmtp_engine.specs.Conversation.{Conversation, Past, Follows, IsCurrent, waiting}
use Rattle.spec_link.specs.LinkAct.{LinkAct, Wire, Step, said_of, heard_of, offered_of, put_of}
use Rattle.spec_link.specs.Rows.{count_of}

-- the engine's conversation, the octets that were read and aren't fed, a whole message that waits for the pipe, before those that the engine has, and how many went through before it
pub record Kept : Type 0 where
  pub engine : Conversation
  pub unfed : List ℕ
  pub held : Option Frames
  pub through : ℕ

-- the engine's past by acts: it was fed these octets, gave what was put and what is held, and put these commands and messages
abbrev pub past_by : EngineOpts → List LinkAct → List ℕ → Option Frames → List Put → Past
past_by opts acts heard held put = record {
  opts = opts;
  heard = heard;
  given = put_of acts ++ option_to_list held;
  put = put;
  written = said_of acts;
}

-- what is kept is of these acts, whatever memory wanted
pub record HasRun (opts : EngineOpts) (acts : List LinkAct) (k : Kept) : Type 0 where
  pub heard : List ℕ
  pub split : heard ++ k.unfed ≡ heard_of acts
  pub put : List Put
  pub offered : messages_in put ≡ offered_of acts
  pub through_is : k.through ≡ count_of (length (put_of acts))
  pub follows : Follows (past_by opts acts heard k.held put) k.engine

-- what is kept is of some acts
abbrev pub IsAlive : Kept → Type 0
IsAlive k = (opts : EngineOpts) × (acts : List LinkAct) × HasRun opts acts k

-- all that was read is fed and taken up, and no message waits behind none that is held; so it is unless memory wanted
pub record IsAtRest (k : Kept) : Type 0 where
  pub fed : k.unfed ≡ []
  pub current : IsCurrent k.engine
  pub drained : k.held ≡ None → waiting k.engine ≡ []

-- these acts more were done, whatever acts were done before
abbrev pub Acts : Kept → List LinkAct → Kept → Type 0
Acts old more new = (opts : EngineOpts) (acts : List LinkAct) → HasRun opts acts old → HasRun opts (acts ++ more) new

-- an act, where it is no put
abbrev pub unput_at : PipeStep → List LinkAct
unput_at (Commit pipe m) = []
unput_at (FullLook pipe) = Step (FullLook pipe) ∷ []
unput_at (RoomLook pipe) = Step (RoomLook pipe) ∷ []
unput_at (Take pipe m) = Step (Take pipe m) ∷ []
unput_at (EmptyLook pipe) = Step (EmptyLook pipe) ∷ []
unput_at (DelimiterLook pipe) = Step (DelimiterLook pipe) ∷ []
unput_at (WaitingLook pipe) = Step (WaitingLook pipe) ∷ []
unput_at (Seal pipe) = Step (Seal pipe) ∷ []

abbrev pub unput_by : LinkAct → List LinkAct
unput_by (Wire act) = Wire act ∷ []
unput_by (Step step) = unput_at step

abbrev pub without_puts : List LinkAct → List LinkAct
without_puts acts = flat_map unput_by acts

-- What is kept is of these acts at a link. To what is kept a message that a PUSH dropped is one that was put, though no pipe has it.
pub record IsKeptOf (opts : EngineOpts) (acts : List LinkAct) (k : Kept) : Type 0 where
  pub all : List LinkAct
  pub run : HasRun opts all k
  pub puts : (opts.kind ≡ Push → ⊥) → all ≡ acts
  pub drops : opts.kind ≡ Push → without_puts all ≡ acts

-- these acts more were done at the link, whatever acts were done before
abbrev pub KeepsActs : EngineOpts → Kept → List LinkAct → Kept → Type 0
KeepsActs opts old more new = (acts : List LinkAct) → IsKeptOf opts acts old → IsKeptOf opts (acts ++ more) new

-- the whole messages that wait for the pipe
abbrev pub whole : Kept → List Frames
whole k = option_to_list k.held ++ waiting k.engine

-- a side of a link: what is kept of it, and what memory left undone
pub record Side : Type 0 where
  pub kept : Kept
  pub behind : Behind
