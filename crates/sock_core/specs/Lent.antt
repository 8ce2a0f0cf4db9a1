-- A socket's kind with its ends and their pipes, as they are lent for one call on messages (own choice).
use Rattle.std.specs.Prelude.{◌≡◌, ℕ, Bool, true, false, List, Some}
use Rattle.zq_base.specs.declared.ids.EndId.{EndId}
use Rattle.spec_pattern.specs.PipeStep.{PipeStep}
use Rattle.msg_pipe.specs.Known.{Known}
use Rattle.end_table.specs.Rows.{Rows, Table, table}
use Rattle.end_table.specs.Runs.{DoesAll, seals}
use Rattle.any_sock.specs.Over.{peer_places}
use Rattle.any_sock.specs.declared.any_sock.AnySock.{AnySock}
use Rattle.end_table.specs.declared.table.Place.{Place}
use Rattle.end_table.specs.Places.{place_at}
use Rattle.end_table.specs.Sound.{IsSound, can_write}
use Rattle.sock_core.specs.Peers.{ArePeers, AreFlagged, peer_of}

pub record Lent (S N O I : Type 0) : Type 0 where
  pub pipes : S
  pub rows : Rows O I
  pub places : List (Place N I)
  pub kind : AnySock

module _ {S N O I : Type 0} where
  abbrev pub lent : S → Rows O I → List (Place N I) → AnySock → Lent S N O I
  lent pipes rows places kind = record { pipes = pipes; rows = rows; places = places; kind = kind }

  abbrev pub table_of : Lent S N O I → Table S O I
  table_of l = table l.pipes l.rows

-- the ends are sound, and those at the places of the kind's peers are its peers and no others
pub record IsWhole {S N O I : Type 0} (K : Known S O I N) (l : Lent S N O I) : Type 0 where
  pub sound : IsSound K l.pipes l.rows l.places
  pub peers : ArePeers l.places (peer_places l.kind)
  pub flagged : AreFlagged l.places (peer_places l.kind)

-- calls at the ends made these steps, and no delimiter was written
pub record Makes {S N O I : Type 0} (K : Known S O I N) (old : Lent S N O I) (steps : List PipeStep) (new : Lent S N O I) : Type 0 where
  pub does : DoesAll K (table_of old) steps (table_of new)
  pub unsealing : seals steps ≡ false

pub record MakesSome {S N O I : Type 0} (K : Known S O I N) (old new : Lent S N O I) : Type 0 where
  pub steps : List PipeStep
  pub makes : Makes K old steps new

module _ {N I : Type 0} where
  -- the peers among the ends go by these names
  abbrev pub IsNaming : (ends : ℕ → EndId) → List (Place N I) → Type 0
  IsNaming ends ps = (k : ℕ) (p : Place N I) → place_at ps k ≡ Some p → peer_of p ≡ true → ends k ≡ p.end

  -- the test says of each peer among them whether it can be written
  abbrev pub IsTest : (EndId → Bool) → List (Place N I) → Type 0
  IsTest test ps = (k : ℕ) (p : Place N I) → place_at ps k ≡ Some p → peer_of p ≡ true → test p.end ≡ can_write p
