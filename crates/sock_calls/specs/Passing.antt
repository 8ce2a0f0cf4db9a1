-- What a call on a socket's ends did to the state of its kind, told by the moments more (zmq_socket(3); own choice).
use Rattle.std.specs.Prelude.{◌≡◌, ℕ, true, List, Option, Some, None, flat_map}
use Rattle.zq_base.specs.declared.ids.EndId.{EndId}
use Rattle.spec_pattern.specs.TurnList.{End}
use Rattle.spec_pattern.specs.Pattern.{Pattern}
use Rattle.spec_control.specs.declared.end.EndState.{EndState}
use Rattle.spec_control.specs.declared.entry.Joining.{Joining}
use Rattle.spec_control.specs.Moments.{Moment, left_by}
use Rattle.desk.specs.Turns.{turned_in}
use Rattle.desk.specs.Desk.{came_with}
use Rattle.spec_run.specs.OpenSocket.{attach_all, detach_all, AreAnswered}
use Rattle.sock_core.specs.declared.sock.SockCore.{SockCore}
use Rattle.sock_core.specs.Way.{outs_of, CanJoinAll, IsNaming}

-- the ends that join in these moments, and the changes of state
abbrev pub came_with_all : {N S : Type 0} → List (Moment N S) → List (Joining N)
came_with_all more = flat_map (λ m. came_with m.item) more

abbrev pub turned_with : {N S : Type 0} → List (Moment N S) → List (EndId × EndState)
turned_with more = flat_map (λ m. turned_in m.found (left_by m)) more

module _ {C W N O I : Type 0} where
  -- the socket is there, and open
  abbrev pub IsStillOpen : Option (SockCore C W N O I) → Type 0
  IsStillOpen None = ⊥
  IsStillOpen (Some s) = s.is_open ≡ true

  module _ (pattern : (ℕ → End) → C → Pattern) where
    -- the state of the kind of the socket that is there, however its places are named by their ends
    abbrev pub IsPatternOf : Pattern → Option (SockCore C W N O I) → Type 0
    IsPatternOf p None = ⊥
    IsPatternOf p (Some s) = (ends : ℕ → EndId) → IsNaming s.ends.places.items ends → pattern ends s.kind ≡ p

    -- these ends were attached, with the kind's answers, and then those that went were detached
    pub record GoesOn (js : List (Joining N)) (ts : List (EndId × EndState)) (p : Pattern) (new : Option (SockCore C W N O I)) : Type 0 where
      pub pattern_is : IsPatternOf (detach_all (outs_of ts) (attach_all js p)) new
      pub answered : CanJoinAll js p → AreAnswered js p

    -- while it is open, the moments more lead the state of the kind on
    abbrev pub Passes : {S : Type 0} → (old new : Option (SockCore C W N O I)) → List (Moment N S) → Type 0
    Passes old new more = IsStillOpen new → (p : Pattern) → IsPatternOf p old → GoesOn (came_with_all more) (turned_with more) p new
