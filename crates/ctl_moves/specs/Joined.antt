-- Ends more, attached one after the other to one object, in the control state and at their holder (own choice).
use Rattle.std.specs.Prelude.{◌≡◌, ◌≢◌, ◌<◌, ◌++◌, ℕ, true, false, List, Option, All, length}
use Rattle.zq_base.specs.declared.ids.EndId.{EndId}
use Rattle.spec_control.specs.declared.end.Reason.{Reason}
use Rattle.spec_control.specs.Place.{Place, is_here}
use Rattle.spec_control.specs.Control.{Control, met_in, owner_of, place_of}
use Rattle.spec_control.specs.Held.{Held}
use Rattle.desk.specs.Holding.{Holding, has_end}
use Rattle.desk.specs.Lent.{has_writer}

-- an end there has its writing half, and has met nothing
pub record IsFresh (place : Place) : Type 0 where
  pub here : is_here place ≡ true
  pub writer : has_writer place ≡ true
  pub unmet : (reason : Option Reason) → met_in place reason ≡ false

-- these ends more are attached, all of pairs that were not drawn before, and the ends of the others are where they were
pub record Attaches (c d : Control) (o : ℕ) (es : List EndId) : Type 0 where
  pub attached : d.attached ≡ c.attached ++ es
  pub places : (e : EndId) → e.pair.0 < length c.rows.pairs → place_of d e ≡ place_of c e
  pub owners : (e : EndId) → e.pair.0 < length c.rows.pairs → owner_of d e ≡ owner_of c e
  pub reasons : (e : EndId) → e.pair.0 < length c.rows.pairs → d.reasons e ≡ c.reasons e
  pub theirs : All (λ e. owner_of d e ≡ o) es
  pub fresh : All (λ e. IsFresh (place_of d e)) es

module _ {N : Type 0} where
  -- and so at the holder
  pub record Gets (n : ℕ) (o : ℕ) (hs : List (Held N)) (h k : Holding N) : Type 0 where
    pub ends : k.ends o ≡ h.ends o ++ hs
    pub others : (i : ℕ) → i ≢ o → k.ends i ≡ h.ends i
    pub objects : (i : ℕ) → k.holds i ≡ h.holds i
    pub kinds : (i : ℕ) → k.kind i ≡ h.kind i
    pub output : (i : ℕ) → k.output_left i ≡ h.output_left i
    pub writers : (e : EndId) → e.pair.0 < n → k.writes e ≡ h.writes e
    pub mine : All (λ x. k.writes x.end ≡ true) hs
    pub delimiters : (i : ℕ) (e : EndId) → has_end e (h.ends i) ≡ true → h.at_delimiter e ≡ true → k.at_delimiter e ≡ true
    pub states : (i : ℕ) (e : EndId) → e.pair.0 < n → has_end e (k.ends i) ≡ true → k.state e ≡ h.state e
