-- Which ends of closed sockets a command brings to the reaper, of those that are on their way (own choice, after libzmq's `reaper_t`).
use Rattle.std.specs.Prelude.{◌≡◌, ◌++◌, true, false, List, [], map}
use Rattle.spec_control.specs.declared.letter.Word.{Word}
use Rattle.spec_control.specs.declared.entry.Did.{Did}
use Rattle.spec_control.specs.declared.entry.Did.TheVariants.{Asked, Delivered, Delimited}
use Rattle.spec_control.specs.declared.entry.Joining.{Joining}
use Rattle.desk.specs.declared.given.Given.{Given}
use Rattle.desk.specs.Holding.{given_as}
use Rattle.desk.specs.Load.{brings_ends}

module _ {N O I : Type 0} (out_name : O → N) (in_name : I → N) where
  -- of the ends of closed sockets that are on their way, a Reap brings the first, as the list of those taken over says, and no other command any
  pub record BringsFirst (word : Word) (joined : List (Joining N)) (old new : List (Given N O I)) : Type 0 where
    pub ends : List (Given N O I)
    pub first : old ≡ ends ++ new
    pub others : brings_ends word ≡ false → ends ≡ []
    pub reaped : brings_ends word ≡ true → joined ≡ map (given_as out_name in_name) ends

  module _ {S : Type 0} where
    -- the same of an event: a delivery alone brings any
    abbrev pub BringsIn : Did N S → (old new : List (Given N O I)) → Type 0
    BringsIn (Asked req reply a) old new = Unit {0}
    BringsIn (Delivered slot letter a) old new = BringsFirst letter.word a.joined old new
    BringsIn (Delimited e a) old new = Unit {0}
