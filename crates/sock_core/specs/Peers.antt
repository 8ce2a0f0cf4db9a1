-- The peers of a socket's kind, by the places of its ends (own choice, after libzmq's `socket_base_t`).
use Rattle.std.specs.Prelude.{◌≡◌, ◌&&◌, ℕ, zero, suc, Bool, true, false, List, [], ◌∷◌, ◌++◌, Some, All, Contains, nat_eq}
use Rattle.zq_base.specs.declared.attached.Attached.{Attached}
use Rattle.zq_base.specs.declared.attached.Attached.TheVariants.{Yes, BadId, Second}
use Rattle.spec_control.specs.Place.{At}
use Rattle.spec_run.specs.OpenSocket.{is_out, awaits_delimiter}
use Rattle.pub_sub.specs.Places.{is_place, AreOthers}
use Rattle.any_sock.specs.Over.{HaveSamePlaces}
use Rattle.end_table.specs.declared.table.Place.{Place}
use Rattle.end_table.specs.Places.{place_at}

-- the kind took the end as a peer
abbrev pub is_taken : Attached → Bool
is_taken Yes = true
is_taken BadId = false
is_taken Second = false

-- the peers after an attach at a place: one more, or as before where the end was refused
abbrev pub AddsPeer : Attached → ℕ → (was now : List ℕ) → Type 0
AddsPeer Yes place was now = HaveSamePlaces (was ++ place ∷ []) now
AddsPeer BadId place was now = now ≡ was
AddsPeer Second place was now = now ≡ was

-- each peer at another place stays
abbrev pub OthersStay : ℕ → (was now : List ℕ) → Type 0
OthersStay place was now = (k : ℕ) → nat_eq place k ≡ false → is_place was k ≡ true → is_place now k ≡ true

-- no peer came, and the one at this place went
pub record LosesPeer (place : ℕ) (was now : List ℕ) : Type 0 where
  pub none_new : All (Contains was) now
  pub gone : AreOthers place now
  pub stay : OthersStay place was now

-- no peer came, and if there was one at this place it went
pub record Parts (is_peer : Bool) (place : ℕ) (was now : List ℕ) : Type 0 where
  pub none_new : All (Contains was) now
  pub gone : is_peer ≡ true → AreOthers place now
  pub stay : OthersStay place was now

-- or it went if it is none then; none comes
pub record StaysPeer (is_peer stays : Bool) (place : ℕ) (was now : List ℕ) : Type 0 where
  pub none_new : All (Contains was) now
  pub gone : is_peer ≡ true → stays ≡ false → AreOthers place now
  pub none_back : stays ≡ true → is_peer ≡ true
  pub stay : OthersStay place was now
  pub stays_too : stays ≡ true → is_place was place ≡ true → is_place now place ≡ true

module _ {N I : Type 0} where
  -- an end that has its writing half is a peer
  abbrev pub peer_of : Place N I → Bool
  peer_of p = p.held && (p.writes && p.peer)

  abbrev pub peer_at : List (Place N I) → ℕ → Bool
  peer_at [] k = false
  peer_at (p ∷ ps) zero = peer_of p
  peer_at (p ∷ ps) (suc k) = peer_at ps k

  -- the peers of the kind are ends that have their writing halves, and that it took
  abbrev pub ArePeers : List (Place N I) → List ℕ → Type 0
  ArePeers ps peers = All (λ k. peer_at ps k ≡ true) peers

  -- each end that the kind took, and that is held, is among its peers
  abbrev pub AreFlagged : List (Place N I) → List ℕ → Type 0
  AreFlagged ps peers = (k : ℕ) (p : Place N I) → place_at ps k ≡ Some p → p.held ≡ true → p.peer ≡ true → is_place peers k ≡ true

  -- an end that the kind took is in use, and it reads on to its delimiter only where one began to
  abbrev pub IsInUse : (reads : Bool) → Place N I → Type 0
  IsInUse reads p = (p.peer ≡ true → is_out (At p.state) ≡ false) × (reads ≡ false → awaits_delimiter (At p.state) ≡ false)

  -- so is each end that is held
  abbrev pub AreInUse : (reads : Bool) → List (Place N I) → Type 0
  AreInUse reads ps = (k : ℕ) (p : Place N I) → place_at ps k ≡ Some p → p.held ≡ true → IsInUse reads p
