-- What a holder that is lent to the control plane has of its objects, by the control state (own choice).
use Rattle.std.specs.Prelude.{◌≡◌, ◌==◌, ℕ, Bool, true, false, List, Option, Some, map, filter, slice_index_or, All}
use Rattle.zq_base.specs.Ends.{other_end}
use Rattle.zq_base.specs.declared.ids.EndId.{EndId}
use Rattle.spec_control.specs.declared.end.EndState.TheVariants.{Active, DelimiterGot, WaitDelimiter, AckSent, AskedOnce, AskedTwice, Gone}
use Rattle.spec_control.specs.declared.end.Reason.{Reason}
use Rattle.spec_control.specs.Place.{Place, Unmade, Away, At, is_here}
use Rattle.spec_control.specs.Rows.{PairRow, no_pair, end_place, end_owner}
use Rattle.spec_control.specs.Control.{Control, met_in}
use Rattle.spec_control.specs.Held.{Held}
use Rattle.desk.specs.Holding.{Holding, has_end}

-- an end there has its writing half still: it was given away where the end acknowledges
abbrev pub has_writer : Place → Bool
has_writer Unmade = false
has_writer Away = false
has_writer (At Active) = true
has_writer (At DelimiterGot) = true
has_writer (At WaitDelimiter) = true
has_writer (At AckSent) = false
has_writer (At AskedOnce) = true
has_writer (At AskedTwice) = false
has_writer (At Gone) = false

-- where an end is, and whose it is, by the pairs
abbrev pub place_by : List PairRow → EndId → Place
place_by pairs e = end_place (slice_index_or pairs e.pair.0 no_pair) e.a

abbrev pub owner_by : List PairRow → EndId → ℕ
owner_by pairs e = end_owner (slice_index_or pairs e.pair.0 no_pair) e.a

-- the ends of an object that are attached and not gone, in the order of their attachment
abbrev pub here_ends : List PairRow → List EndId → ℕ → List EndId
here_ends pairs attached i = filter (λ e. is_here (place_by pairs e)) (filter (λ e. owner_by pairs e == i) attached)

module _ {N : Type 0} (names : EndId → Option N) where
  -- an end is held with the names that the pipes of its pair were given
  pub record HasBothNames (x : Held N) : Type 0 where
    pub written : names x.end ≡ Some x.written
    pub read : names (other_end x.end) ≡ Some x.read

  -- of an object it has the ends that are there, with the writing halves that were not given away, and knows which read halves have met their delimiter, and how far each end is
  pub record HasEnds (pairs : List PairRow) (attached : List EndId) (reasons : EndId → Option Reason) (h : Holding N) (i : ℕ) : Type 0 where
    pub ends : map (λ x. x.end) (h.ends i) ≡ here_ends pairs attached i
    pub named : All HasBothNames (h.ends i)
    pub writes : (e : EndId) → has_end e (h.ends i) ≡ true → h.writes e ≡ has_writer (place_by pairs e)
    pub delimiters : (e : EndId) → has_end e (h.ends i) ≡ true → met_in (place_by pairs e) (reasons e) ≡ true → h.at_delimiter e ≡ true
    pub states : (e : EndId) → has_end e (h.ends i) ≡ true → place_by pairs e ≡ At (h.state e)

  -- of each object that it has
  abbrev pub HasAll : Control → Holding N → Type 0
  HasAll c h = (i : ℕ) → h.holds i ≡ true → HasEnds c.rows.pairs c.attached c.reasons h i
