-- The ends of a socket that read on to their delimiters, from one of those that it holds on (own choice).
use Rattle.std.specs.Prelude.{◌≡◌, ◌&&◌, ℕ, Bool, true, false, List, [], ◌∷◌, All, Option, Some, None, drop, filter, if◌then◌else◌}
use Rattle.std.specs.List.{list_any}
use Rattle.zq_base.specs.declared.ids.EndId.{EndId}
use Rattle.spec_control.specs.Control.{is_end}
use Rattle.spec_control.specs.Place.{At}
use Rattle.desk.specs.declared.delivery.Delivery.{Delivery}
use Rattle.desk.specs.declared.delivery.Delivery.TheVariants.{Done, Empty}
use Rattle.spec_run.specs.OpenSocket.{awaits_delimiter}
use Rattle.line_calls.specs.Reading.{ReadsOnAt}
use Rattle.line_calls.specs.declared.found.Found.{Found}
use Rattle.line_calls.specs.declared.found.Found.TheVariants.{Letter, Nothing}
use Rattle.line_calls.specs.declared.found.Reader.{Reader}
use Rattle.any_sock.specs.declared.any_sock.AnySock.{AnySock}
use Rattle.end_table.specs.declared.table.Place.{Place}
use Rattle.sock_core.specs.Peers.{AreInUse}
use Rattle.sock_core.specs.declared.sock.SockCore.{SockCore}

-- each of these ends is one of those
abbrev pub AreAmong : (those these : List EndId) → Type 0
AreAmong those these = All (λ e. list_any (is_end e) those ≡ true) these

-- one of them is none of those before, or each of them is one
abbrev pub IsNewReader : (reading : ℕ → List EndId) → (before : List EndId) → Option Reader → Type 0
IsNewReader reading before None = AreAmong before (reading 0)
IsNewReader reading before (Some at) = ReadsOnAt reading at × (list_any (is_end at.end) before ≡ false)

-- and a delivery found this
abbrev pub IsFoundBy : (reading : ℕ → List EndId) → (before : List EndId) → Delivery → Found → Type 0
IsFoundBy reading before Done (Letter at) = IsNewReader reading before at
IsFoundBy reading before Done Nothing = ⊥
IsFoundBy reading before Empty (Letter at) = ⊥
IsFoundBy reading before Empty Nothing = Unit {0}

module _ {N I : Type 0} where
  abbrev pub reads_on : Place N I → Bool
  reads_on p = p.held && awaits_delimiter (At p.state)

  -- the places of the ends that are held, in the order of attachment
  abbrev pub held_places : List (Place N I) → List (Place N I)
  held_places ps = filter (λ p. p.held) ps

  abbrev pub readers_in : List (Place N I) → List EndId
  readers_in [] = []
  readers_in (p ∷ ps) = if reads_on p then p.end ∷ readers_in ps else readers_in ps

module _ {W N O I : Type 0} where
  -- those behind so many that are held
  abbrev pub readers_from : Option (SockCore AnySock W N O I) → ℕ → List EndId
  readers_from None n = []
  readers_from (Some s) n = readers_in (drop n (held_places s.ends.places.items))

  -- an end of a socket that is there reads on only where one began to
  abbrev pub ReadIfBegan : Option (SockCore AnySock W N O I) → Type 0
  ReadIfBegan None = Unit {0}
  ReadIfBegan (Some s) = AreInUse s.reads s.ends.places.items
