-- The ends of closed sockets are those of the reaper's pipes, each with halves of its own (own choice).
use Rattle.std.specs.Prelude.{◌≡◌, ◌≢◌, ◌++◌, Bool, true, false, List, ◌∷◌, All, map}
use Rattle.std.specs.List.{list_any}
use Rattle.msg_pipe.specs.Known.{Known, IsThere}
use Rattle.desk.specs.declared.given.Given.{Given}
use Rattle.desk.specs.declared.halves.Halves.{Halves}
use Rattle.desk.specs.Holding.{held_given}
use Rattle.spec_control.specs.Held.{Held}
use Rattle.desk.specs.TakingOver.{AreGivenWith, AreTwo}
use Rattle.closed_ends.specs.declared.sockets.ClosedSocket.{ClosedSocket}
use Rattle.closed_ends.specs.declared.sockets.ClosedSockets.{ClosedSockets}
use Rattle.closed_ends.specs.Has.{all_ends, is_socket}
use Rattle.closed_ends.specs.Finding.{HasRoom}

-- any two of these are two
abbrev pub AnyTwo : {N : Type 0} → (exact : Bool) → List (Held N) → Type 0
AnyTwo {N = N} exact hs = (before : List (Held N)) (x : Held N) (middle : List (Held N)) (y : Held N) (behind : List (Held N)) → hs ≡ before ++ x ∷ (middle ++ y ∷ behind) → AreTwo exact x y

-- no closed socket has the number of one before it
abbrev pub AreAlone : {N O I : Type 0} → List (ClosedSocket N O I) → Type 0
AreAlone {N = N} {O = O} {I = I} ss = (before : List (ClosedSocket N O I)) (s : ClosedSocket N O I) (behind : List (ClosedSocket N O I)) → ss ≡ before ++ s ∷ behind → list_any (is_socket s.number.0) behind ≡ false

module _ {S O I N : Type 0} (K : Known S O I N) where
  -- each end is with its halves, no two ends are one or have a pipe in common, and no two sockets are one
  pub record AreSound (pipes : S) (ss : List (ClosedSocket N O I)) : Type 0 where
    pub halves : AreGivenWith K pipes (all_ends ss)
    pub apart : AnyTwo K.exact (map (held_given K.out_name K.in_name) (all_ends ss))
    pub alone : AreAlone ss

  -- ends that are given may be taken over: they are with halves of these pipes, and there is room for their socket
  pub record MayTake (pipes : S) (c : ClosedSockets N O I) (gs : List (Given N O I)) : Type 0 where
    pub halves : AreGivenWith K pipes gs
    pub room : HasRoom c

  -- the pipes of an end are others than those of these halves, wherever names tell pipes apart
  pub record IsElseOf (g : Given N O I) (h : Halves O I) : Type 0 where
    pub written : K.exact ≡ true → g.written ≢ K.out_name h.out
    pub read : K.exact ≡ true → K.in_name g.input ≢ K.in_name h.input

  -- halves may join the ends of closed sockets: they are of pipes that are there and of no end's, and nothing was sealed
  pub record MayJoin (pipes : S) (c : ClosedSockets N O I) (h : Halves O I) : Type 0 where
    pub out_there : IsThere K pipes (K.out_name h.out)
    pub in_there : IsThere K pipes (K.in_name h.input)
    pub unsealed : (K.writing pipes h.out).sealed ≡ false
    pub others : All (λ g. IsElseOf g h) (all_ends c.sockets.items)
