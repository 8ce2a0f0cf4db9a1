-- The single steps of a socket that its caller has open, as a run tells them (own choice).
use Rattle.std.specs.Prelude.{◌≡◌, ◌<◌, ◌++◌, ℕ, Bool, true, List, [], ◌∷◌, Option, Some, None, length}
use Rattle.zq_base.specs.declared.ids.EndId.{EndId}
use Rattle.spec_pattern.specs.PipeStep.{PipeStep, read_through}
use Rattle.spec_pattern.specs.Pattern.{Pattern}
use Rattle.spec_pattern.specs.PatternCalls.{PatternPumps}
use Rattle.spec_pattern.specs.declared.answers.Skip.{Skip}
use Rattle.spec_control.specs.declared.letter.Letter.{Letter}
use Rattle.spec_control.specs.declared.letter.Word.{Word}
use Rattle.spec_control.specs.declared.letter.Word.TheVariants.{PipeTerm}
use Rattle.spec_control.specs.declared.request.Req.{Req}
use Rattle.spec_control.specs.declared.request.Req.TheVariants.{Socket as MakeSocket, AskTerm, Bind, Connect, Unbind, Disconnect, Close, Accepted, Shaken, AskEnd, AskOver, OutputOver}
use Rattle.spec_control.specs.declared.request.Reply.TheVariants.{Done}
use Rattle.spec_control.specs.declared.entry.SeenEmpty.TheVariants.{Mailbox}
use Rattle.spec_control.specs.Control.{Control, id, place_of}
use Rattle.spec_control.specs.Moments.{Moment, left_by}
use Rattle.msg_pipe.specs.Told.{front_step}
use Rattle.msg_pipe.specs.declared.pipes.Front.{Front}
use Rattle.spec_run.specs.declared.answer.Answer.{Answer}
use Rattle.spec_run.specs.declared.script.Line.{Line}
use Rattle.spec_run.specs.Act.{Act, Step, Said, Try, moments_in}
use Rattle.spec_run.specs.OpenSocket.{OpenSock, can_write, awaits_delimiter, PassesItems}
use Rattle.spec_run.specs.Event.{IsRequest, IsDelivery, IsDelimited, IsLookAt, LooksBehind, acts_said}
use Rattle.spec_run.specs.SocketCall.{RequestsOnce, step_acts}
use Rattle.zq_world.specs.MayAsk.{IsLocal}
use Rattle.line_calls.specs.declared.found.Found.{Found}
use Rattle.line_calls.specs.declared.found.Found.TheVariants.{Letter as TookLetter, Nothing as FoundNothing}
use Rattle.line_calls.specs.declared.found.Reader.{Reader}

-- these are the last of those, and there are some of them
pub record EndsWith {X : Type 0} (last all : List X) : Type 0 where
  pub past : List X
  pub are : all ≡ past ++ last
  pub some : 0 < length last

-- a bind or a connect of this socket's to a name, or what strikes one of its binds or connects
abbrev pub IsNamingOf : ℕ → Req → Type 0
IsNamingOf o (MakeSocket kind options) = ⊥
IsNamingOf o AskTerm = ⊥
IsNamingOf o (Bind s at) = (s ≡ id o) × IsLocal at
IsNamingOf o (Connect s at) = (s ≡ id o) × IsLocal at
IsNamingOf o (Unbind s at) = s ≡ id o
IsNamingOf o (Disconnect s at) = s ≡ id o
IsNamingOf o (Close s) = ⊥
IsNamingOf o (Accepted s) = ⊥
IsNamingOf o (Shaken s peer) = ⊥
IsNamingOf o (AskEnd e reason) = ⊥
IsNamingOf o (AskOver s) = ⊥
IsNamingOf o (OutputOver s) = ⊥

-- behind this command this end is left to read on, or none is to be looked at
abbrev pub IsLeftReading : (N S : Type 0) → Control → Word → Option Reader → Type 0
IsLeftReading N S c word None = LooksBehind {N = N} {S = S} c word []
IsLeftReading N S c word (Some at) = (word ≡ PipeTerm at.end) × (awaits_delimiter (place_of c at.end) ≡ true)

module _ {M N S : Type 0} (leads : M → List (Act N S) → M → Type 0) where
  -- some acts lead from the one to the other
  pub record LeadsSome (old new : M) : Type 0 where
    pub acts : List (Act N S)
    pub led : leads old acts new

  module _ (as_open : M → OpenSock) where
    -- these acts lead there, and the socket went through their items
    pub record Passes (old : M) (acts : List (Act N S)) (new : M) : Type 0 where
      pub led : leads old acts new
      pub goes : PassesItems (moments_in acts) (as_open old) (as_open new)

    -- the oldest letter of the socket's mailbox was taken
    pub record TakesOldest (reads_on : Option Reader) (old new : M) : Type 0 where
      pub taken : Moment N S
      pub letter : Letter
      pub delivery : IsDelivery (as_open old).slot letter taken
      pub behind : IsLeftReading N S (left_by taken) letter.word reads_on
      pub passes : Passes old (acts_said taken) new

    -- or the mailbox was found empty
    pub record FindsEmpty (old new : M) : Type 0 where
      pub look : Moment N S
      pub look_is : IsLookAt (Mailbox (record { 0 = (as_open old).slot })) look
      pub passes : Passes old (Said look ∷ []) new

    abbrev pub Takes : Found → (old new : M) → Type 0
    Takes (TookLetter reads_on) old new = TakesOldest reads_on old new
    Takes FoundNothing old new = FindsEmpty old new

    -- the front of the pipe that an end reads was looked at
    pub record LooksAtFront (e : EndId) (found : Front) (old new : M) : Type 0 where
      pub led : leads old (Step (front_step (read_through e) found) ∷ []) new
      pub stays : as_open new ≡ as_open old

    -- an end was found at its delimiter, and this was said
    pub record MeetsEnd (e : EndId) (old new : M) : Type 0 where
      pub met : Moment N S
      pub item : IsDelimited e met
      pub passes : Passes old (acts_said met) new

    -- the kind heard or told its peers
    pub record PumpsKind (old new : M) : Type 0 where
      pub steps : List PipeStep
      pub pattern : Pattern
      pub pumps : PatternPumps (can_write (as_open old)) (as_open old).pattern steps pattern
      pub led : leads old (step_acts steps) new
      pub new_is : as_open new ≡ record (as_open old) { pattern = pattern }

    -- the socket was closed by one request
    pub record ClosesOpen (old new : M) : Type 0 where
      pub closed : Moment N S
      pub request : IsRequest (Close (id (as_open old).object)) Done closed
      pub led : leads old (acts_said closed) new

    module _ (moments : M → List (Moment N S)) where
      -- the socket was called, as the try of any line that makes this call behind any pump with which its caller's moments end
      pub record CallsSo (Does : OpenSock → Try N S → OpenSock → Type 0) (answer : Answer) (told told_now : List Skip) (old new : M) : Type 0 where
        pub acts : List (Act N S)
        pub skips : List Skip
        pub does : (line : Line) (pump : List (Act N S)) (all : List Skip) (over : Bool) → EndsWith (moments_in pump) (moments old) →
            Does (as_open old) (record { line = line; pump = pump; call = acts; skips = skips; told = all; answer = answer; over = over }) (as_open new)
        pub tells : told_now ≡ told ++ skips
        pub led : leads old acts new

      -- it made a request
      abbrev pub RequestsSo : Req → Answer → (told : List Skip) → (old new : M) → Type 0
      RequestsSo request answer told old new = CallsSo (λ o t n. RequestsOnce request o t n) answer told told old new
