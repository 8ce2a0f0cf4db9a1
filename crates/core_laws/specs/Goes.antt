-- The ends that the reaper had and those that came in a call are where such ends may be, by how they came (own choice, after libzmq's `reaper_t`).
use Rattle.std.specs.Prelude.{◌≡◌, ℕ, true, false, List, Option, Some, map}
use Rattle.std.specs.List.{list_any}
use Rattle.zq_base.specs.Ends.{PipeId}
use Rattle.msg_pipe.specs.Known.{Known}
use Rattle.spec_pattern.specs.PipeStep.{read_through}
use Rattle.spec_control.specs.declared.entry.Joining.{Joining}
use Rattle.spec_control.specs.Rows.{obj}
use Rattle.spec_control.specs.Control.{Control, owner_of, place_of}
use Rattle.spec_control.specs.ControlRun.{is_between}
use Rattle.desk.specs.declared.given.Given.{Given}
use Rattle.ctl_plane.specs.Giving.{AreOnTheirWay}
use Rattle.end_table.specs.declared.table.Place.{Place}
use Rattle.end_table.specs.Places.{place_at}
use Rattle.socket_laws.specs.Ends.{IsGoneFrom, is_new}
use Rattle.socket_laws.specs.Changes.{ArePlacesNamed}
use Rattle.closed_ends.specs.declared.sockets.ClosedSockets.{ClosedSockets}
use Rattle.closed_ends.specs.Coming.{IsBrought}
use Rattle.closed_ends.specs.Finding.{place_given}
use Rattle.closed_ends.specs.Has.{all_ends, is_of}
use Rattle.closed_ends.specs.Noted.{first_places}
use Rattle.core_laws.specs.ReaperCalls.{came_since}
use Rattle.core_laws.specs.Came.{CameAll, CameOne}
use Rattle.core_laws.specs.Here.{AreHere}
use Rattle.core_laws.specs.Moves.{EndsGoOn}

module _ {S O I N : Type 0} (K : Known S O I N) (c now : Control) (names : PipeId → Option N) (from to : ClosedSockets N O I) where
  -- the ends of closed sockets are here, none of a socket whose Reap is on its way, and each that the reaper has no more behind the call is gone
  pub record AreTaken : Type 0 where
    pub here : AreHere c names (map (place_given K.in_name) (all_ends from.sockets.items))
    pub taken : (k : ℕ) (p : Place N I) → place_at (map (place_given K.in_name) (all_ends from.sockets.items)) k ≡ Some p → is_between (obj c.rows (owner_of c p.end)) ≡ false
    pub gone : (k : ℕ) (p : Place N I) → place_at (first_places K.in_name from (came_since from to)) k ≡ Some p → list_any (is_of p.end) (all_ends to.sockets.items) ≡ false → IsGoneFrom now p

  -- an end that joined was not attached before, goes by the names of its pipes, and stands
  pub record StandsNew (j : Joining N) : Type 0 where
    pub fresh : is_new (place_of c j.end) ≡ true
    pub written : names j.end ≡ Some j.written
    pub read : names (read_through j.end) ≡ Some j.read
    pub stands : list_any (is_of j.end) (all_ends to.sockets.items) ≡ true

  -- they go on, and go by the names of their pipes
  pub record NamedGoOn : Type 0 where
    pub goes : EndsGoOn K.in_name c now from to
    pub named : ArePlacesNamed names (first_places K.in_name from (came_since from to))

  -- however ends came in the call, if any did
  pub record GoOnHowever (given : List (Given N O I)) : Type 0 where
    pub none : to.came.items ≡ from.came.items → NamedGoOn
    pub one : (j : Joining N) → CameOne K j from to → StandsNew j → NamedGoOn
    pub all : (o : ℕ) → CameAll K (IsBrought c given) o from to → AreOnTheirWay K.in_name c names given → NamedGoOn

abbrev pub ReaperEndsGoOn : {S O I N : Type 0} → Known S O I N → Type 0
ReaperEndsGoOn {S} {O} {I} {N} K = (c now : Control) (names : PipeId → Option N) (from to : ClosedSockets N O I) (given : List (Given N O I)) →
    AreTaken K c now names from to → GoOnHowever K c now names from to given
