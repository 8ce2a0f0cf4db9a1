-- The places of an open socket's ends in the one order of a context, and another's that are of other pipes (own choice).
use Rattle.std.specs.Prelude.{◌≡◌, ℕ, true, false, List, Some}
use Rattle.spec_control.specs.declared.end.EndState.TheVariants.{Gone}
use Rattle.spec_control.specs.Place.{At}
use Rattle.spec_control.specs.Control.{place_of}
use Rattle.desk.specs.Lent.{has_writer}
use Rattle.ctl_plane.specs.Past.{control_of}
use Rattle.end_table.specs.declared.table.Place.{Place}
use Rattle.end_table.specs.Places.{place_at}
use Rattle.plain_desk.specs.Lent.{Lent}
use Rattle.socket_laws.specs.Behind.{IsOfIts}

module _ {G N S I : Type 0} where
  -- the place is of an end that the socket has or had, with the names of its pipes; if it is held no more, the end is gone
  pub record IsPlaceOf (o : ℕ) (d : Lent G N S) (p : Place N I) : Type 0 where
    pub its : IsOfIts o d p.end p.written p.read
    pub gone : p.held ≡ false → place_of (control_of d.past) p.end ≡ At Gone

  -- so is each of these
  abbrev pub ArePlacesOf : ℕ → Lent G N S → List (Place N I) → Type 0
  ArePlacesOf o d ps = (k : ℕ) (p : Place N I) → place_at ps k ≡ Some p → IsPlaceOf o d p

  -- the place is of an end that the socket has, with the names of its pipes; if its writing half is there, the end was not asked to give it away
  pub record IsHeldBy (o : ℕ) (d : Lent G N S) (p : Place N I) : Type 0 where
    pub its : IsOfIts o d p.end p.written p.read
    pub writes : p.writes ≡ true → has_writer (place_of (control_of d.past) p.end) ≡ true

  -- so is each of these that is held
  abbrev pub AreHeldBy : ℕ → Lent G N S → List (Place N I) → Type 0
  AreHeldBy o d ps = (k : ℕ) (p : Place N I) → place_at ps k ≡ Some p → p.held ≡ true → IsHeldBy o d p
