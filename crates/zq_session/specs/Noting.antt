-- What a session keeps of the topics that it took, and the writing part of a turn by them (own choice).
use Rattle.std.specs.Prelude.{◌≡◌, ℕ, Bool, true, false, ◌&&◌, List, [], ◌∷◌, ◌++◌, length, drop, Option, Some, None, IfSome, IsSome, option_map}
use Rattle.std.specs.List.{flat_map, fold}
use Rattle.zq_base.specs.Message.{Frames}
use Rattle.zq_base.specs.Ends.{PipeId}
use Rattle.zq_base.specs.declared.options.EngineOpts.{EngineOpts}
use Rattle.zq_outer.specs.declared.link.LinkPut.{LinkPut}
use Rattle.msg_pipe.specs.Known.{Known}
use Rattle.msg_pipe.specs.declared.pipes.Taken.{Taken}
use Rattle.spec_pattern.specs.PipeStep.{PipeStep, Take}
use Rattle.spec_pattern.specs.Topics.{Topic}
use Rattle.spec_pattern.specs.Publishing.{saying_of}
use Rattle.spec_link.specs.LinkAct.{LinkAct, Wire, Step, Repeats, taken_of, repeated_of}
use Rattle.spec_link.specs.Parts.{IsTake, IsWritePart, WriteFits, write_acts}
use Rattle.spec_link.specs.Rows.{ClosedLink}
use Rattle.spec_link.specs.History.{Basis}
use Rattle.spec_link.specs.Turn.{IsLook, IsWriteOnly, subscribes, topics_by, topics_taken}
use Rattle.spec_link.specs.TopicsFirst.{topics_said}
use Rattle.spec_link.specs.Topics.{Topics, IsLeft}
use Rattle.link_side.specs.declared.behind.Behind.{Behind}
use Rattle.link_side.specs.declared.behind.Behind.TheVariants.{Nothing, Octets, Unsaid}
use Rattle.link_side.specs.declared.wire.Fetched.{Fetched}
use Rattle.link_side.specs.declared.wire.Fetched.TheVariants as fetched
use Rattle.link_side.specs.declared.write_part.Written.{Written}
use Rattle.link_side.specs.Kept.{Kept, Side, HasRun, Acts, IsKeptOf}
use Rattle.link_side.specs.Calls.{Adds}
use Rattle.link_side.specs.Works.{take_acts, fetched_of}
use Rattle.link_side.specs.Says.{Offers, TakesBy, SaysBy, repeat_acts, said_look}
use Rattle.zq_session.specs.TopicSteps.{noted}
use Rattle.zq_session.specs.Halves.{StepsRun, step_in}

-- ---- what is kept

-- acts that looked at the front of a pipe, and did nothing else
abbrev pub AreLooks : List LinkAct → Type 0
AreLooks [] = Unit {0}
AreLooks (act ∷ acts) = ((pipe : PipeId) × (step : PipeStep) × IsLook pipe step × (act ≡ Step step)) × AreLooks acts

-- what is kept of a link is of the acts at it, but for a take whose message isn't offered yet, behind which nothing was done but looks
abbrev pub IsHeldOf : EngineOpts → List LinkAct → Behind → Kept → Type 0
IsHeldOf opts acts Nothing k = IsKeptOf opts acts k
IsHeldOf opts acts Octets k = IsKeptOf opts acts k
IsHeldOf opts acts (Unsaid m) k =
    (before : List LinkAct) × (pipe : PipeId) × (looks : List LinkAct) × (acts ≡ before ++ Step (Take pipe m) ∷ looks) × AreLooks looks × IsKeptOf opts before k

-- the message that was taken and isn't offered yet
abbrev pub unsaid_by : Behind → List Frames
unsaid_by Nothing = []
unsaid_by Octets = []
unsaid_by (Unsaid m) = m ∷ []

abbrev pub unsaid_of : Option Side → List Frames
unsaid_of None = []
unsaid_of (Some side) = unsaid_by side.behind

-- it has no topics to say again: it was accepted, or is of a kind that has none
abbrev pub SaysNoTopics : (dials : Bool) → EngineOpts → Type 0
SaysNoTopics dials opts = (dials && subscribes opts.kind) ≡ false

-- all that was taken at links that are over, and at the one that stands
abbrev pub taken_before : List ClosedLink → List Frames
taken_before closed = flat_map (λ link. taken_of link.acts) closed

abbrev pub taken_now : Option (List LinkAct) → List Frames
taken_now None = []
taken_now (Some acts) = taken_of acts

-- the messages that are still to be said: at a link those that weren't said at it; without one all, once they are made
abbrev pub IsAgain : Option (List LinkAct) → List Topic → Option (List Frames) → Type 0
IsAgain None due again = IfSome again (λ messages. messages ≡ topics_said due)
IsAgain (Some acts) due again = again ≡ Some (drop (length (repeated_of acts)) (topics_said due))

-- the topics are those of all that was taken and noted, which is all that was taken but for what isn't offered yet
pub record HasNoted (link : Option (List LinkAct)) (closed : List ClosedLink) (unsaid : List Frames) (t : Topics) : Type 0 where
  pub noted : List Frames
  pub all : noted ++ unsaid ≡ taken_before closed ++ taken_now link
  pub taken_is : t.taken ≡ topics_taken noted
  pub again_is : IsAgain link (topics_taken (taken_before closed)) t.again

-- a session keeps topics exactly where it is to say some
abbrev pub AreTopics : (dials : Bool) → EngineOpts → Option (List LinkAct) → List ClosedLink → (unsaid : List Frames) → Option Topics → Type 0
AreTopics dials opts link closed unsaid None = SaysNoTopics dials opts
AreTopics dials opts link closed unsaid (Some t) = ((dials && subscribes opts.kind) ≡ true) × HasNoted link closed unsaid t

-- what a turn at a link rests on: the messages that are left
abbrev pub SaysAt : (dials : Bool) → EngineOpts → List ClosedLink → List LinkAct → Option Topics → Type 0
SaysAt dials opts closed acts None = SaysNoTopics dials opts
SaysAt dials opts closed acts (Some t) =
    ((dials && subscribes opts.kind) ≡ true) × (t.again ≡ Some (drop (length (repeated_of acts)) (topics_said (topics_taken (taken_before closed)))))

-- a message that isn't offered yet is noted and offered
abbrev pub PassesOn : Behind → Kept → Option Topics → Side → Option Topics → Type 0
PassesOn Nothing k topics new topics' = (new ≡ record { kept = k; behind = Nothing }) × (topics' ≡ topics)
PassesOn Octets k topics new topics' = (new ≡ record { kept = k; behind = Octets }) × (topics' ≡ topics)
PassesOn (Unsaid m) k topics new topics' =
    (new.behind ≡ Nothing) × (((act : LinkAct) → Offers m act → Acts k (act ∷ []) new.kept) × (topics' ≡ noted m topics))

-- the topics behind these acts at a link
abbrev pub topics_with : List Topic → List Frames → List Topic
topics_with topics messages = fold (λ ts m. topics_by (saying_of m) ts) topics messages

abbrev pub noting : List LinkAct → Topics → Topics
noting acts t = record { taken = topics_with t.taken (taken_of acts); again = option_map (λ messages. drop (length (repeated_of acts)) messages) t.again }

abbrev pub behind_acts : List LinkAct → Option Topics → Option Topics
behind_acts acts topics = option_map (λ t. noting acts t) topics

-- ---- the writing part

-- how it is done: with a take, without one, or with a topic in its place
pub data WriteMode : Type 0 where
  taking : WriteMode
  alone : WriteMode
  saying : Frames → WriteMode

abbrev pub plain_mode : (can_read : Bool) → WriteMode
plain_mode true = taking
plain_mode false = alone

abbrev pub mode_by : (can_read : Bool) → Option (List Frames) → WriteMode
mode_by can_read None = plain_mode can_read
mode_by can_read (Some []) = plain_mode can_read
mode_by can_read (Some (m ∷ messages)) = saying m

abbrev pub mode_of : (can_read : Bool) → Option Topics → WriteMode
mode_of can_read None = plain_mode can_read
mode_of can_read (Some t) = mode_by can_read t.again

-- what was done behind the write, if anything: a take, or a topic was said
pub data Next : Type 0 where
  Takes : Option Taken → Next
  Says : Option Frames → Next

abbrev pub next_acts : PipeId → Next → List LinkAct
next_acts pipe (Takes found) = take_acts pipe found
next_acts pipe (Says message) = repeat_acts message

abbrev pub next_look : Next → Option Fetched
next_look (Takes found) = option_map fetched_of found
next_look (Says message) = said_look message

-- how many messages a take gave
abbrev pub takes_of : Option Fetched → ℕ
takes_of None = 0
takes_of (Some fetched.One) = 1
takes_of (Some fetched.None) = 0
takes_of (Some fetched.Delimiter) = 0

-- a topic that is said again isn't taken again
abbrev pub takes_in : Next → ℕ
takes_in (Takes found) = takes_of (option_map fetched_of found)
takes_in (Says message) = 0

module _ {S O I N : Type 0} (K : Known S O I N) where
  -- the writing part, by how it is done
  pub record NextBy (counts : ℕ → Type 0) (mode : WriteMode) (t t' : Option Topics) (old : Kept) (done : Written) (new : Kept) (said said' : Option (List ℕ)) (s : S) (i : Option I) (s' : S) (i' : Option I) : Type 0 where
    pub octets : List ℕ
    pub next : Next
    pub fits : WriteFits done.put octets
    pub told : Adds said octets said'
    pub look : done.look ≡ next_look next
    pub counted : counts (takes_in next)
    pub steps : (pipe : PipeId) (o : Option O) → StepsRun K (flat_map step_in (next_acts pipe next)) s i o s' i' o
    pub run : (pipe : PipeId) → Acts old (write_acts done.put octets ++ next_acts pipe next) new
    pub notes : (pipe : PipeId) → t' ≡ behind_acts (write_acts done.put octets ++ next_acts pipe next) t
    pub takes : mode ≡ taking → (pipe : PipeId) (opts : EngineOpts) (acts : List LinkAct) → HasRun opts acts old →
        IsWritePart opts (IsTake pipe) acts (write_acts done.put octets ++ next_acts pipe next)
    pub alone_is : mode ≡ alone → (pipe : PipeId) (b : Basis) (acts : List LinkAct) → HasRun b.opts acts old →
        IsWriteOnly b acts (write_acts done.put octets ++ next_acts pipe next)
    pub says : (m : Frames) → mode ≡ saying m → (pipe : PipeId) (opts : EngineOpts) (acts : List LinkAct) → HasRun opts acts old →
        IsWritePart opts (λ act. act ≡ Wire (Repeats m)) acts (write_acts done.put octets ++ next_acts pipe next)

  -- the writing part of one with topics, whose message couldn't be noted
  pub record UnsaidBy (mode : WriteMode) (t t' : Option Topics) (old : Kept) (new : Side) (said said' : Option (List ℕ)) (shown : Option LinkPut → Type 0) (s : S) (i : Option I) (s' : S) (i' : Option I) : Type 0 where
    pub put : Option LinkPut
    pub octets : List ℕ
    pub message : Frames
    pub some : IsSome t
    pub fits : WriteFits put octets
    pub told : Adds said octets said'
    pub steps : (pipe : PipeId) (o : Option O) → StepsRun K (Take pipe message ∷ []) s i o s' i' o
    pub left : new.behind ≡ Unsaid message
    pub same : t' ≡ t
    pub run : Acts old (write_acts put octets) new.kept
    pub mode_is : mode ≡ taking
    pub takes : (pipe : PipeId) (opts : EngineOpts) (acts : List LinkAct) → HasRun opts acts old →
        IsWritePart opts (IsTake pipe) acts (write_acts put octets ++ Step (Take pipe message) ∷ [])
    pub counts : shown put

  -- a take of one with topics, whose message was noted and offered, or couldn't be noted
  pub record NotesBy (t t' : Option Topics) (old : Kept) (done : Written) (new : Side) (said said' : Option (List ℕ)) (s : S) (i : I) (s' : S) (i' : I) : Type 0 where
    pub mid : Side
    pub takes : TakesBy K old done mid said said' s i s' i'
    pub passes : PassesOn mid.behind mid.kept t new t'

  pub record NotesNotBy (t t' : Option Topics) (old : Kept) (new : Side) (said said' : Option (List ℕ)) (shown : Option LinkPut → Type 0) (s : S) (i : I) (s' : S) (i' : I) : Type 0 where
    pub done : Written
    pub message : Frames
    pub takes : TakesBy K old done new said said' s i s' i'
    pub waits : new.behind ≡ Unsaid message
    pub some : IsSome t
    pub same : t' ≡ t
    pub counts : shown done.put

-- the next topic is said, where there are topics
pub record SaysOn (t t' : Option Topics) (old : Kept) (done : Written) (new : Kept) (said said' : Option (List ℕ)) : Type 0 where
  pub was : Topics
  pub is : Topics
  pub some : t ≡ Some was
  pub some' : t' ≡ Some is
  pub left : IsLeft true was.again
  pub says : SaysBy old done new said said' was is
