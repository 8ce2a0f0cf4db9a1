-- The ends of a closed socket are given away, as they are (own choice, after libzmq's `socket_base_t`).
use Rattle.std.specs.Prelude.{◌≡◌, ℕ, Bool, false, List, [], ◌∷◌, Option, Some, None, All, slice_set, is_some, map, if◌then◌else◌}
use Rattle.zq_base.specs.declared.ids.EndId.{EndId}
use Rattle.spec_control.specs.declared.end.EndState.{EndState}
use Rattle.spec_control.specs.declared.entry.Joining.{Joining}
use Rattle.msg_pipe.specs.Known.{Known}
use Rattle.desk.specs.declared.given.Given.{Given}
use Rattle.desk.specs.Holding.{given_as}
use Rattle.desk.specs.TakingOver.{IsGivenWith, AreGivenWith}
use Rattle.end_table.specs.declared.table.Place.{Place}
use Rattle.end_table.specs.Places.{place_at}

-- what is said of an end
pub record Said (N : Type 0) : Type 0 where
  pub end : EndId
  pub written : N
  pub read : N
  pub writes : Bool
  pub met : Bool
  pub sealed : Bool
  pub state : EndState

module _ {N I : Type 0} where
  abbrev pub said_of : Place N I → Said N
  said_of p = record { end = p.end; written = p.written; read = p.read; writes = p.writes; met = p.met; sealed = p.sealed; state = p.state }

  -- of the ends that are held, in the order of their attachment
  abbrev pub said_in : List (Place N I) → List (Said N)
  said_in [] = []
  said_in (p ∷ ps) = if p.held then said_of p ∷ said_in ps else said_in ps

  -- no end is held
  abbrev pub AreGone : List (Place N I) → Type 0
  AreGone ps = All (λ p. p.held ≡ false) ps

  -- the place of an end that was given
  abbrev pub gone_place : Place N I → Place N I
  gone_place p = record p { held = false; writes = false; input = None }

module _ {N O I : Type 0} where
  -- the end at a place with these halves, as it is given
  abbrev pub given_of : Place N I → Option O → I → Given N O I
  given_of p out input = record { end = p.end; written = p.written; out = out; input = input; met = p.met; sealed = p.sealed; state = p.state }

module _ {N O I : Type 0} (in_name : I → N) where
  -- of an end that is given
  abbrev pub said_by : Given N O I → Said N
  said_by g = record { end = g.end; written = g.written; read = in_name g.input; writes = is_some g.out; met = g.met; sealed = g.sealed; state = g.state }

module _ {S O I N : Type 0} (K : Known S O I N) where
  -- the end at a place was given as it is, and is gone
  pub record GivenAt (pipes : S) (k : ℕ) (g : Given N O I) (old new : List (Place N I)) : Type 0 where
    pub place : Place N I
    pub there : place_at old k ≡ Some place
    pub said : said_by K.in_name g ≡ said_of place
    pub halves : IsGivenWith K pipes g
    pub now : new ≡ slice_set old k (gone_place place)

  -- these are the ends, as it is said of them, with the list of them that the control plane notes
  pub record AreGiven (pipes : S) (said : List (Said N)) (given : List (Given N O I)) (joined : List (Joining N)) : Type 0 where
    pub ends : map (said_by K.in_name) given ≡ said
    pub halves : AreGivenWith K pipes given
    pub listed : joined ≡ map (given_as K.out_name K.in_name) given
