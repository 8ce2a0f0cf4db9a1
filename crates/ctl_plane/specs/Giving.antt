-- Where the ends of closed sockets are that are on their way to the reaper (own choice).
use Rattle.std.specs.Prelude.{◌≡◌, true, List, Option, Some, All, is_some}
use Rattle.zq_base.specs.Ends.{other_end}
use Rattle.zq_base.specs.declared.ids.EndId.{EndId}
use Rattle.spec_control.specs.Place.{At, is_here}
use Rattle.spec_control.specs.Rows.{obj}
use Rattle.spec_control.specs.Control.{Control, owner_of, place_of}
use Rattle.spec_control.specs.ControlRun.{is_between}
use Rattle.desk.specs.declared.given.Given.{Given}
use Rattle.desk.specs.Lent.{has_writer}

module _ {N O I : Type 0} (in_name : I → N) (c : Control) (names : EndId → Option N) where
  -- such an end goes by the names of its pipes, and is as far as it was when it was given, with its writing half where it does not acknowledge; it is a closed socket's, whose Reap is on its way
  pub record IsOnItsWay (g : Given N O I) : Type 0 where
    pub written : names g.end ≡ Some g.written
    pub read : names (other_end g.end) ≡ Some (in_name g.input)
    pub here : is_here (place_of c g.end) ≡ true
    pub state : place_of c g.end ≡ At g.state
    pub writes : is_some g.out ≡ has_writer (place_of c g.end)
    pub between : is_between (obj c.rows (owner_of c g.end)) ≡ true

  -- so is each of these
  abbrev pub AreOnTheirWay : List (Given N O I) → Type 0
  AreOnTheirWay gs = All IsOnItsWay gs
