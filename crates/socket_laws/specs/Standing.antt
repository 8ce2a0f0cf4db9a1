-- What stands between two calls of a core that is played on one thread with one I/O worker (own choice).
use Rattle.std.specs.Prelude.{◌≡◌, ◌<◌, ◌≤◌, ℕ, List, [], Option, Some, None, if◌then◌else◌}
use Rattle.std.specs.List.{AllByRecursion}
use Rattle.zq_base.specs.Ends.{PipeId}
use Rattle.msg_pipe.specs.Known.{Known}
use Rattle.end_table.specs.Past.{OneName, IsPast}
use Rattle.spec_pattern.specs.PipeStep.{PipeStep, most_commits}
use Rattle.spec_control.specs.declared.entry.Item.{Item}
use Rattle.spec_control.specs.Control.{Control, Settlement, begun, next_pair}
use Rattle.spec_control.specs.ControlRun.{after_all, IsControlRun}
use Rattle.spec_control.specs.Names.{name_of, AreNamed}
use Rattle.spec_control.specs.Held.{items_by}
use Rattle.spec_control.specs.Has.{has_after, AreBy}
use Rattle.spec_control.specs.Moments.{Moment, moments_from}
use Rattle.spec_control.specs.OwnAsks.{known_after}
use Rattle.spec_run.specs.Act.{moments_in}
use Rattle.spec_run.specs.OwnedRun.{settlement_of, pipe_capacity, AreCountedBy}
use Rattle.run_laws.specs.CapacitiesStay.{pipe_at}
use Rattle.zq_world.specs.Piece.{Piece, acts_in, pipe_steps}
use Rattle.zq_world.specs.OneSided.{OneSided}
use Rattle.zq_world.specs.Played.{IsOrderly}
use Rattle.socket_laws.specs.Sides.{OpenSockets, SidesStand}

-- ---- whose open sockets there are

module _ {N T : Type 0} where
  -- the caller has the socket open that it has
  abbrev pub open_by : Option ℕ → ℕ → List (Item N T) → Option ℕ
  open_by None o items = None
  open_by (Some k) o items = if (known_after o (items_by k items)).open_socket then Some k else None

  -- the caller that has the socket of an object open, by these items
  abbrev pub opens_in : List (Item N T) → OpenSockets
  opens_in items o = open_by (has_after o items) o items

-- ---- the steps past

-- the name of a pipe that was not settled
abbrev pub unless_settled : {N : Type 0} → Option Settlement → Option N → Option N
unless_settled None n = n
unless_settled (Some s) n = None

-- a pipe goes by the name that it was given until it is settled
abbrev pub goes_in : {N : Type 0} → Control → (PipeId → Option N) → PipeId → Option N
goes_in c names p = unless_settled (settlement_of c p) (names p)

module _ {S O I N : Type 0} (K : Known S O I N) where
  -- the steps past made the pipes that are not settled what they are, and each was exact; they are at pipes of pairs that have their numbers
  pub record PastStands (c : Control) (names : PipeId → Option N) (pipes : S) (past : List PipeStep) : Type 0 where
    pub past_is : IsPast K (goes_in c names) (pipe_capacity c) pipes past
    pub one_name : OneName (goes_in c names)
    pub made : AllByRecursion (λ s. (pipe_at s).pair.0 < next_pair c) past

  -- ---- all of it

  -- what was done is told item by item; the steps past stand; pipes with names are of pairs that have their numbers; each side of each pipe is one caller's at a time, and who has the socket of an end may go on; settled pipes have their counts
  pub record StandsAt {T : Type 0} (c : Control) (names : PipeId → Option N) (opens : OpenSockets) (moments : List (Moment N T)) (pipes : S) (pieces : List (Piece N T)) : Type 0 where
    pub told : moments_in (acts_in pieces) ≡ moments
    pub past : PastStands c names pipes (pipe_steps pieces)
    pub names_made : (p : PipeId) (n : N) → names p ≡ Some n → p.pair.0 < next_pair c
    pub sided : OneSided pieces
    pub sides : SidesStand c opens pieces
    pub counted : AreCountedBy (pipe_steps pieces) c.settlements

  -- with the control plane that these items lead to
  abbrev pub CoreStands : {T : Type 0} → List (Item N T) → S → List (Piece N T) → Type 0
  CoreStands {T} items pipes pieces = StandsAt {T = T} (after_all items (begun 1)) (name_of items) (opens_in items) (moments_from (begun 1) items) pipes pieces

  -- where the items are a control run by callers that may make it, of pipes that can be, a run can be played over it
  abbrev pub CoresAreOrderly : (T : Type 0) → Type 0
  CoresAreOrderly T = (items : List (Item N T)) (pipes : S) (pieces : List (Piece N T)) →
      IsControlRun (begun 1) items → AreNamed [] items → AreBy [] (begun 1) items → ((p : PipeId) → pipe_capacity (after_all items (begun 1)) p ≤ most_commits) →
      CoreStands items pipes pieces → IsOrderly pieces items
