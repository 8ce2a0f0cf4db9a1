-- That a session lived, and that the halves of its end are there, as facts of one value.
use Rattle.std.specs.Prelude.{◌≡◌, true, false, List, Option, Some, is_some}
use Rattle.std.specs.Option.{ForSome}
use Rattle.msg_pipe.specs.Known.{Known, IsThere}
use Rattle.zq_session.specs.LifeView.{IsReadable, IsWritable}
use Rattle.spec_link.specs.History.{Basis, SessionEvent}
use Rattle.zq_session.specs.Sessions.{SessionState, HasLived}

-- it lived by some history
abbrev pub IsLived : {O I : Type 0} → SessionState O I → Type 0
IsLived v = ∥ ((b : Basis) × (history : List SessionEvent) × HasLived b history v) ∥₁

-- it reads the pipe of this name, and has a half that it writes
pub record IsPaired {O I N : Type 0} (in_name : I → N) (name : N) (input : Option I) (out : Option O) : Type 0 where
  pub half : I
  pub reads : input ≡ Some half
  pub name_is : in_name half ≡ name
  pub other : O
  pub writes : out ≡ Some other

module _ {S O I N : Type 0} (K : Known S O I N) where
  -- it still reads the pipe that it read
  abbrev pub KeepsPair : (old new : SessionState O I) → Type 0
  KeepsPair old new = (name : N) → IsPaired K.in_name name old.input old.out → ∥ IsPaired K.in_name name new.input new.out ∥₁

  abbrev pub ReadsHere : S → SessionState O I → Type 0
  ReadsHere s v = IsReadable v.course.life.state → (is_some v.input ≡ true) × ForSome v.input (λ i. IsThere K s (K.in_name i))

  abbrev pub WritesHere : S → SessionState O I → Type 0
  WritesHere s v = IsWritable v.course.life.state → (is_some v.out ≡ true) × ForSome v.out (λ o. IsThere K s (K.out_name o) × ((K.writing s o).sealed ≡ false))
