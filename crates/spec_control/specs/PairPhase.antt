-- The phases of a pair: where its two ends are together, whatever comes to them in whatever order (own choice, after libzmq's `pipe_t`).
use Rattle.std.specs.Prelude.{◌≡◌, Bool, true, false, not, List, [], ◌∷◌, ◌++◌, ◌&&◌}
use Rattle.spec_control.specs.declared.end.EndState.TheVariants.{Active, DelimiterGot, WaitDelimiter, AckSent, AskedOnce, AskedTwice, Gone}
use Rattle.spec_control.specs.declared.end.EndEvent.{EndEvent}
use Rattle.spec_control.specs.declared.end.EndEvent.TheVariants.{Asked, TermCame, DelimiterSeen, AckCame}
use Rattle.spec_control.specs.declared.end.EndCommands.{EndCommands}
use Rattle.spec_control.specs.declared.end.EndCommands.TheVariants.{Nothing, TermAndSeal, Ack, Settle, SettleAndAck}
use Rattle.spec_control.specs.EndLife.{cell, state_after, commands_of, goes}
use Rattle.spec_control.specs.Place.{Place, Unmade, Away, At, EndWord, Binds, Terms, Acks, Half, is_unmade, is_here, looks, waiting}

-- how far a pair is
pub data Phase : Type 0 where
  -- it has a number, and is not made yet
  Drawn : Phase
  -- one end is attached, the other's bind is on its way
  Opened : Phase
  -- the same, and the first end was asked
  OpenedAsked : Phase
  -- the same, and the first end met a delimiter
  OpenedSeen : Phase
  -- both are attached
  Both : Phase
  -- one met a delimiter
  BothSeen : Phase
  -- both did
  BothSaw : Phase
  -- one was asked, its PipeTerm is on its way
  AskedOne : Phase
  -- the other got it, and reads on
  Waits : Phase
  -- the other met the delimiter before it
  Seen : Phase
  -- both were asked before either PipeTerm came
  Crossed : Phase
  -- of these, one got the other's PipeTerm
  CrossedOne : Phase
  -- of these, both
  CrossedBoth : Phase
  -- the end that was not asked first has acknowledged
  Acked : Phase
  -- and the other is gone
  FirstGone : Phase
  -- one of two that were both asked is gone
  LastOne : Phase
  -- both are gone
  Over : Phase

-- where the two ends are in a phase: true is the end that was asked first, or attached first where none was
abbrev pub place_in : Phase → Bool → Place
place_in Drawn first = Unmade
place_in Opened true = At Active
place_in Opened false = Away
place_in OpenedAsked true = At AskedOnce
place_in OpenedAsked false = Away
place_in OpenedSeen true = At DelimiterGot
place_in OpenedSeen false = Away
place_in Both first = At Active
place_in BothSeen true = At DelimiterGot
place_in BothSeen false = At Active
place_in BothSaw first = At DelimiterGot
place_in AskedOne true = At AskedOnce
place_in AskedOne false = At Active
place_in Waits true = At AskedOnce
place_in Waits false = At WaitDelimiter
place_in Seen true = At AskedOnce
place_in Seen false = At DelimiterGot
place_in Crossed first = At AskedOnce
place_in CrossedOne true = At AskedTwice
place_in CrossedOne false = At AskedOnce
place_in CrossedBoth first = At AskedTwice
place_in Acked true = At AskedOnce
place_in Acked false = At AckSent
place_in FirstGone true = At Gone
place_in FirstGone false = At AckSent
place_in LastOne true = At Gone
place_in LastOne false = At AskedTwice
place_in Over first = At Gone

-- the two ends in a phase, with what is on its way to each
abbrev pub half : Phase → Bool → Half
half phase first = record { place = place_in phase first; mail = waiting (place_in phase first) (place_in phase (not first)) }

-- what may happen to an end
pub data PairEvent : Type 0 where
  -- the pair is made, and this end is attached first
  Opens : PairEvent
  -- its bind comes
  BindCame : PairEvent
  -- an event of the table of an end's life
  Happens : EndEvent → PairEvent

-- the oldest command on its way is a bind
abbrev pub front_is_bind : List EndWord → Bool
front_is_bind [] = false
front_is_bind (Binds ∷ words) = true
front_is_bind (Terms ∷ words) = false
front_is_bind (Acks ∷ words) = false

-- the oldest command on its way is a PipeTerm
abbrev pub front_is_term : List EndWord → Bool
front_is_term [] = false
front_is_term (Binds ∷ words) = false
front_is_term (Terms ∷ words) = true
front_is_term (Acks ∷ words) = false

-- the oldest command on its way is a PipeTermAck
abbrev pub front_is_ack : List EndWord → Bool
front_is_ack [] = false
front_is_ack (Binds ∷ words) = false
front_is_ack (Terms ∷ words) = false
front_is_ack (Acks ∷ words) = true

-- the event may come to this end, beside that other one: a pair is made once, commands come in their order, an end that is there is asked, one that is looked at meets a delimiter
abbrev pub may : PairEvent → Half → Half → Bool
may Opens mine theirs = is_unmade mine.place && is_unmade theirs.place
may BindCame mine theirs = front_is_bind mine.mail
may (Happens (Asked reason delay)) mine theirs = is_here mine.place
may (Happens TermCame) mine theirs = front_is_term mine.mail
may (Happens DelimiterSeen) mine theirs = looks mine.place
may (Happens AckCame) mine theirs = front_is_ack mine.mail

-- where the end is then
abbrev pub place_after : PairEvent → Place → Place
place_after Opens place = At Active
place_after BindCame place = At Active
place_after (Happens event) Unmade = Unmade
place_after (Happens event) Away = Away
place_after (Happens event) (At state) = At (state_after (cell event state) state)

-- and the other end
abbrev pub other_after : PairEvent → Place → Place
other_after Opens place = Away
other_after BindCame place = place
other_after (Happens event) place = place

-- all but the oldest
abbrev pub behind_first : {X : Type 0} → List X → List X
behind_first [] = []
behind_first (x ∷ xs) = xs

-- what is then on its way to the end
abbrev pub mail_after : PairEvent → List EndWord → List EndWord
mail_after Opens words = words
mail_after BindCame words = behind_first words
mail_after (Happens (Asked reason delay)) words = words
mail_after (Happens TermCame) words = behind_first words
mail_after (Happens DelimiterSeen) words = words
mail_after (Happens AckCame) words = behind_first words

-- what the commands of a cell put for the other end
abbrev pub end_words : EndCommands → List EndWord
end_words Nothing = []
end_words TermAndSeal = Terms ∷ []
end_words Ack = Acks ∷ []
end_words Settle = []
end_words SettleAndAck = Acks ∷ []

-- what an event puts for the other end
abbrev pub words_at : PairEvent → Place → List EndWord
words_at Opens place = Binds ∷ []
words_at BindCame place = []
words_at (Happens event) Unmade = []
words_at (Happens event) Away = []
words_at (Happens event) (At state) = end_words (commands_of (cell event state))

-- the end itself after an event
abbrev pub mine_after : PairEvent → Half → Half
mine_after event mine = record { place = place_after event mine.place; mail = mail_after event mine.mail }

-- the other end after an event
abbrev pub theirs_after : PairEvent → Half → Half → Half
theirs_after event mine theirs = record { place = other_after event theirs.place; mail = theirs.mail ++ words_at event mine.place }

-- the cell of the table is none of those that are never met
abbrev pub meets : PairEvent → Place → Bool
meets Opens place = is_unmade place
meets BindCame Unmade = false
meets BindCame Away = true
meets BindCame (At state) = false
meets (Happens event) Unmade = false
meets (Happens event) Away = false
meets (Happens event) (At state) = goes (cell event state)

-- behind an event the ends are those of a phase again, and the cell that it met is none of those that are never met
pub record GoesOn (event : PairEvent) (mine theirs : Half) : Type 0 where
  pub next : Phase
  pub first : Bool
  pub mine_is : half next first ≡ mine_after event mine
  pub theirs_is : half next (not first) ≡ theirs_after event mine theirs
  pub met : meets event mine.place ≡ true

-- whatever comes to an end of a pair in any phase, the pair is in a phase again
abbrev pub PhasesAreClosed : Type 0
PhasesAreClosed = (event : PairEvent) (phase : Phase) (first : Bool) →
    may event (half phase first) (half phase (not first)) ≡ true → GoesOn event (half phase first) (half phase (not first))
