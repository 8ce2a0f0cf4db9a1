-- What an actor's line does to its socket, over any desk (zmq_socket(3); own choice).
use Rattle.std.specs.Prelude.{◌≡◌, ◌<◌, ◌++◌, ℕ, Bool, true, false, List, flat_map, length}
use Rattle.zq_base.specs.declared.ids.EndId.{EndId}
use Rattle.spec_pattern.specs.declared.answers.Skip.{Skip}
use Rattle.spec_run.specs.declared.answer.Answer.{Answer}
use Rattle.spec_run.specs.declared.script.Call.{Call}
use Rattle.spec_run.specs.declared.script.Line.{Line}
use Rattle.spec_run.specs.Act.{Act, moments_in}
use Rattle.spec_run.specs.OpenSocket.{OpenSock}
use Rattle.spec_run.specs.Event.{LooksFront, LooksFronts, TakesLetter, TakesLetters}
use Rattle.spec_run.specs.Pump.{EndsTaking, Pumps, most_letters}
use Rattle.zq_world.specs.Way.{AsksOpen}
use Rattle.line_calls.specs.Steps.{Passes, FindsEmpty}

-- a pump took as many letters as one takes, behind which more may wait, or fewer
abbrev pub IsLimited : (limited : Bool) → (taken : ℕ) → Type 0
IsLimited true taken = taken ≡ most_letters
IsLimited false taken = taken < most_letters

module _ {M N S : Type 0} (leads : M → List (Act N S) → M → Type 0) (as_open : M → OpenSock) where
  -- ---- parts of a pump

  -- the front of an end that reads on was looked at, and a delimiter that was found there was said
  pub record LooksOne (e : EndId) (old new : M) : Type 0 where
    pub acts : List (Act N S)
    pub looks : LooksFront e acts
    pub passes : Passes leads as_open old acts new

  -- so were those of these ends, in order
  pub record LooksAll (es : List EndId) (old new : M) : Type 0 where
    pub acts : List (Act N S)
    pub looks : LooksFronts es acts
    pub passes : Passes leads as_open old acts new

  -- a letter was taken, with the look behind it
  pub record TakesOne (old new : M) : Type 0 where
    pub acts : List (Act N S)
    pub takes : TakesLetter (as_open old).slot acts
    pub passes : Passes leads as_open old acts new

  abbrev pub TakesOrNot : Bool → (old new : M) → Type 0
  TakesOrNot true old new = TakesOne old new
  TakesOrNot false old new = FindsEmpty leads as_open old new

  -- letters were taken until there was none, or as many as a pump takes
  pub record TakesAll (limited : Bool) (old new : M) : Type 0 where
    pub letters : List (List (Act N S))
    pub last : List (Act N S)
    pub takes : TakesLetters (as_open old).slot letters
    pub ends : EndsTaking (as_open old).slot (length letters) last
    pub limit : IsLimited limited (length letters)
    pub passes : Passes leads as_open old (flat_map (λ x. x) letters ++ last) new
    pub some : 0 < length (moments_in (flat_map (λ x. x) letters ++ last))

  -- ---- lines

  -- the socket was pumped
  pub record PumpsSo (limited : Bool) (old new : M) : Type 0 where
    pub acts : List (Act N S)
    pub pumps : Pumps (as_open old) acts (as_open new)
    pub limit : IsLimited limited (length pumps.letters)
    pub led : leads old acts new
    pub some : 0 < length (moments_in acts)

  -- it was pumped and then called, as the try of any line that makes this call
  pub record CallsLine (asks : Call) (answer : Answer) (told told_now : List Skip) (old new : M) : Type 0 where
    pub pump : List (Act N S)
    pub acts : List (Act N S)
    pub skips : List Skip
    pub pumped : OpenSock
    pub pumps : Pumps (as_open old) pump pumped
    pub does : (line : Line) (all : List Skip) (over : Bool) →
        AsksOpen asks pumped (record { line = line; pump = pump; call = acts; skips = skips; told = all; answer = answer; over = over }) (as_open new)
    pub tells : told_now ≡ told ++ skips
    pub led : leads old (pump ++ acts) new
