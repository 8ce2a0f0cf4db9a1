-- Where a pipe's end is, and what is on its way to it (own choice, after libzmq's `pipe_t`).
use Rattle.std.specs.Prelude.{ℕ, Bool, true, false, List, [], ◌∷◌}
use Rattle.spec_control.specs.declared.end.EndState.{EndState}
use Rattle.spec_control.specs.declared.end.EndState.TheVariants.{Active, DelimiterGot, WaitDelimiter, AckSent, AskedOnce, AskedTwice, Gone}
use Rattle.spec_control.specs.declared.end.EndEvent.TheVariants.{DelimiterSeen}
use Rattle.spec_control.specs.EndLife.{comes}

-- where an end is
pub data Place : Type 0 where
  -- its pair has a number, and is not made yet
  Unmade : Place
  -- it is not attached yet: its bind is on its way
  Away : Place
  -- it was attached, and is so far in its life
  At : EndState → Place

-- a command for an end
pub data EndWord : Type 0 where
  -- PipeBind, or the Plug that brings a session its end
  Binds : EndWord
  -- PipeTerm
  Terms : EndWord
  -- PipeTermAck
  Acks : EndWord

-- an end, and the commands on their way to it, oldest first
pub record Half : Type 0 where
  pub place : Place
  pub mail : List EndWord

-- what is on its way to an end, oldest first, by where it is and where the other end is
abbrev pub waiting : Place → Place → List EndWord
waiting Unmade theirs = []
waiting Away Unmade = []
waiting Away Away = []
waiting Away (At Active) = Binds ∷ []
waiting Away (At DelimiterGot) = Binds ∷ []
waiting Away (At AskedOnce) = Binds ∷ Terms ∷ []
waiting Away (At WaitDelimiter) = []
waiting Away (At AckSent) = []
waiting Away (At AskedTwice) = []
waiting Away (At Gone) = []
waiting (At Active) (At AskedOnce) = Terms ∷ []
waiting (At Active) theirs = []
waiting (At DelimiterGot) (At AskedOnce) = Terms ∷ []
waiting (At DelimiterGot) theirs = []
waiting (At WaitDelimiter) theirs = []
waiting (At AckSent) (At Gone) = Acks ∷ []
waiting (At AckSent) theirs = []
waiting (At AskedOnce) (At AskedOnce) = Terms ∷ []
waiting (At AskedOnce) (At AskedTwice) = Terms ∷ Acks ∷ []
waiting (At AskedOnce) (At AckSent) = Acks ∷ []
waiting (At AskedOnce) theirs = []
waiting (At AskedTwice) (At AskedTwice) = Acks ∷ []
waiting (At AskedTwice) (At Gone) = Acks ∷ []
waiting (At AskedTwice) theirs = []
waiting (At Gone) theirs = []

-- the pair is not made yet
abbrev pub is_unmade : Place → Bool
is_unmade Unmade = true
is_unmade Away = false
is_unmade (At state) = false

-- the end's bind is on its way
abbrev pub is_away : Place → Bool
is_away Unmade = false
is_away Away = true
is_away (At state) = false

-- the end is gone
abbrev pub is_gone : Place → Bool
is_gone Unmade = false
is_gone Away = false
is_gone (At Active) = false
is_gone (At DelimiterGot) = false
is_gone (At WaitDelimiter) = false
is_gone (At AckSent) = false
is_gone (At AskedOnce) = false
is_gone (At AskedTwice) = false
is_gone (At Gone) = true

-- the end was attached, and is not gone: it may be asked
abbrev pub is_here : Place → Bool
is_here Unmade = false
is_here Away = false
is_here (At Active) = true
is_here (At DelimiterGot) = true
is_here (At WaitDelimiter) = true
is_here (At AckSent) = true
is_here (At AskedOnce) = true
is_here (At AskedTwice) = true
is_here (At Gone) = false

-- the front of the pipe that the end reads is looked at
abbrev pub looks : Place → Bool
looks Unmade = false
looks Away = false
looks (At state) = comes DelimiterSeen state

-- where an end of an object that was asked may be: not still in use, but to read on where the object does
abbrev pub was_ended : (reads_on : Bool) → Place → Bool
was_ended reads_on Unmade = true
was_ended reads_on Away = true
was_ended reads_on (At Active) = false
was_ended reads_on (At DelimiterGot) = false
was_ended reads_on (At WaitDelimiter) = reads_on
was_ended reads_on (At AckSent) = true
was_ended reads_on (At AskedOnce) = true
was_ended reads_on (At AskedTwice) = true
was_ended reads_on (At Gone) = true

-- how many further PipeTerm and PipeTermAck an end there will put for the other end, at the most
abbrev pub to_put : Place → ℕ
to_put Unmade = 2
to_put Away = 2
to_put (At Active) = 2
to_put (At DelimiterGot) = 2
to_put (At WaitDelimiter) = 1
to_put (At AckSent) = 0
to_put (At AskedOnce) = 1
to_put (At AskedTwice) = 0
to_put (At Gone) = 0
