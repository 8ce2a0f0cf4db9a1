-- What joining the halves of a pipe tells, and that a delivery tells it of the pipe that it settles (own choice, after libzmq's `pipe_t`).
use Rattle.std.specs.Prelude.{◌≡◌, ◌++◌, ◌∷◌, [], ℕ, List, Option, Some}
use Rattle.zq_base.specs.declared.ids.EndId.{EndId}
use Rattle.zq_base.specs.declared.ids.Settled.{Settled}
use Rattle.spec_control.specs.declared.letter.Letter.{Letter}
use Rattle.spec_control.specs.declared.letter.Word.TheVariants.{PipeTermAck}
use Rattle.spec_control.specs.declared.entry.Did.{Did}
use Rattle.spec_control.specs.declared.entry.Did.TheVariants.{Asked, Delivered, Delimited}
use Rattle.desk.specs.Holding.{Holding, read_in}

module _ {N O : Type 0} (out_name : O → N) where
  -- the reading half of an end and the writing half of its pipe count what they counted
  abbrev pub KeepsCounts : (o : ℕ) → EndId → Holding N → (old new : EndId → O → Settled) → Type 0
  KeepsCounts o e h old new = (writer : O) → read_in (h.ends o) e ≡ Some (out_name writer) → new e writer ≡ old e writer

  module _ (counts : EndId → O → Settled) where
    -- the pipe that an end of an object read was settled, and what joining its halves tells was told
    pub record IsCounted (h : Holding N) (o : ℕ) (e : EndId) (told : Option Settled) : Type 0 where
      pub writer : O
      pub pipe : read_in (h.ends o) e ≡ Some (out_name writer)
      pub told_is : told ≡ Some (counts e writer)

    -- an acknowledgement that comes to an end tells the counts of the pipe that the end read
    abbrev pub CountsAs : Holding N → Letter → Option Settled → Type 0
    CountsAs h letter told = (e : EndId) → letter.word ≡ PipeTermAck e → IsCounted h letter.to.0 e told

    module _ {S : Type 0} where
      -- the same of an event: a delivery alone settles a pipe
      abbrev pub CountsIn : Holding N → Did N S → Type 0
      CountsIn h (Asked req reply a) = Unit {0}
      CountsIn h (Delivered slot letter a) = CountsAs h letter a.settled
      CountsIn h (Delimited e a) = Unit {0}

      -- and of the event that is one more, where there is one, with what its holder had before
      abbrev pub CountsOnce : (before now : List (Did N S)) → Holding N → Type 0
      CountsOnce before now h = (did : Did N S) → now ≡ before ++ did ∷ [] → CountsIn h did
