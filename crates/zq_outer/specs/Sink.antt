-- What a sink of octets has taken, where it tells that (own choice).
use Rattle.std.specs.Prelude.{◌≡◌, ◌≤◌, ℕ, List, ◌++◌, take, Option, Some, None}
use Rattle.zq_outer.specs.declared.sink.Put.{Put}
use Rattle.zq_outer.specs.declared.sink.Put.TheVariants as put

-- a write takes one octet at least, and no more than the piece has
abbrev pub IsTaken : Put → ℕ → Type 0
IsTaken (put.Took n) len = (1 ≤ n) × (n ≤ len)
IsTaken put.Failed len = Unit {0}

-- One write: what was taken, what is taken now, the answer, and the piece.
-- A front of the piece is added, and a failed write adds nothing.
abbrev pub Writes : Option (List ℕ) → Option (List ℕ) → Put → List ℕ → Type 0
Writes None new answer piece = Unit {0}
Writes (Some taken) new (put.Took n) piece = new ≡ Some (taken ++ take n piece)
Writes (Some taken) new put.Failed piece = new ≡ Some taken

-- several writes: these octets were taken
abbrev pub Appends : Option (List ℕ) → List ℕ → Option (List ℕ) → Type 0
Appends None octets new = Unit {0}
Appends (Some taken) octets new = new ≡ Some (taken ++ octets)

-- several writes that were cut short: a front of these octets was taken
abbrev pub AppendsFront : Option (List ℕ) → List ℕ → Option (List ℕ) → Type 0
AppendsFront before octets new =
    (front rest : List ℕ) × (octets ≡ front ++ rest) × Appends before front new
