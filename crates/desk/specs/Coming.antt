-- What is on its way to a caller's objects, by the names of pipes (own choice).
use Rattle.std.specs.Prelude.{◌≡◌, ◌++◌, Bool, true, List, [], Some, Option, false, map}
use Rattle.zq_base.specs.Ends.{other_end}
use Rattle.zq_base.specs.declared.ids.EndId.{EndId}
use Rattle.zq_base.specs.declared.ids.ObjId.{ObjId}
use Rattle.spec_control.specs.declared.request.Req.{Req}
use Rattle.spec_control.specs.declared.request.Req.TheVariants.{Socket as MakeSocket, AskTerm, Bind, Connect, Unbind, Disconnect, Close, Accepted, Shaken, AskEnd, AskOver, OutputOver}
use Rattle.desk.specs.declared.given.Given.{Given}
use Rattle.desk.specs.declared.halves.Halves.{Halves}
use Rattle.desk.specs.Holding.{AllSealed, Holding, held_given}
pub use Rattle.desk.specs.TakingOver.{AreDistinct}
use Rattle.desk.specs.TakingOver.{AreGivenWith}
use Rattle.msg_pipe.specs.Known.{Known}

module _ {N : Type 0} where
  -- a pipe that has a name keeps it
  abbrev pub KeepsNames : (old new : EndId → Option N) → Type 0
  KeepsNames old new = (e : EndId) (n : N) → old e ≡ Some n → new e ≡ Some n

  -- halves of ends that are on their way, known by the names of their pipes, may join
  abbrev pub BindsFit : {O I : Type 0} → (out_name : O → N) → (in_name : I → N) → (named : EndId → Option N) → (coming : EndId → Bool) → (fits : Halves O I → Type 0) → Type 0
  BindsFit {O = O} {I = I} out_name in_name named coming fits = (e : EndId) (x : Halves O I) → coming e ≡ true → named e ≡ Some (out_name x.out) → named (other_end e) ≡ Some (in_name x.input) → fits x

-- the request closes a socket
abbrev pub is_close : Req → Bool
is_close (MakeSocket kind options) = false
is_close AskTerm = false
is_close (Bind o at) = false
is_close (Connect o at) = false
is_close (Unbind o at) = false
is_close (Disconnect o at) = false
is_close (Close o) = true
is_close (Accepted o) = false
is_close (Shaken o peer) = false
is_close (AskEnd e reason) = false
is_close (AskOver o) = false
is_close (OutputOver o) = false

module _ {P N O I : Type 0} (K : Known P O I N) where
  -- of ends of closed sockets that are on their way, a close sends all those that its holder had of the socket behind the others, as they stood there, with halves of these pipes; the holder was told to seal these, of those that have their delimiters
  pub record SendsEnds (pipes : P) (h : Holding N) (request : Req) (old new : List (Given N O I)) : Type 0 where
    pub ends : List (Given N O I)
    pub behind : new ≡ old ++ ends
    pub given : AreGivenWith K pipes ends
    pub sealed : AllSealed h.sealed ends
    pub all : (o : ObjId) → request ≡ Close o → map (held_given K.out_name K.in_name) ends ≡ h.ends o.0
    pub others : is_close request ≡ false → ends ≡ []

module _ {N O I : Type 0} where
  -- the first of them were taken over
  pub record TakesEnds (old new : List (Given N O I)) : Type 0 where
    pub ends : List (Given N O I)
    pub first : old ≡ ends ++ new
