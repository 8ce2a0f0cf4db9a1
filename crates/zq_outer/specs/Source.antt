-- What a source of octets has left, where it tells that (own choice).
use Rattle.std.specs.Prelude.{◌≡◌, ◌≤◌, ℕ, List, [], ◌++◌, take, Option, Some, None}
use Rattle.zq_outer.specs.declared.source.Got.{Got}
use Rattle.zq_outer.specs.declared.source.Got.TheVariants as got

-- a read gives one octet at least, and no more than there is room for
abbrev pub IsCounted : Got → ℕ → Type 0
IsCounted (got.Bytes n) room = (1 ≤ n) × (n ≤ room)
IsCounted got.End room = Unit {0}
IsCounted got.Failed room = Unit {0}

-- One read: what was left, what is left now, the answer, and the buffer. The octets given are
-- the next ones, it ends where nothing is left, and a failed read takes nothing.
abbrev pub Reads : Option (List ℕ) → Option (List ℕ) → Got → List ℕ → Type 0
Reads None new answer buf = Unit {0}
Reads (Some left) new (got.Bytes n) buf =
    (rest : List ℕ) × (left ≡ take n buf ++ rest) × (new ≡ Some rest)
Reads (Some left) new got.End buf = (left ≡ []) × (new ≡ Some [])
Reads (Some left) new got.Failed buf = new ≡ Some left

-- several reads: these octets were the next ones
abbrev pub Consumes : Option (List ℕ) → List ℕ → Option (List ℕ) → Type 0
Consumes None octets new = Unit {0}
Consumes (Some left) octets new =
    (rest : List ℕ) × (left ≡ octets ++ rest) × (new ≡ Some rest)

-- reads to the end: these octets were all that was left
abbrev pub ConsumesAll : Option (List ℕ) → List ℕ → Option (List ℕ) → Type 0
ConsumesAll None octets new = Unit {0}
ConsumesAll (Some left) octets new = (left ≡ octets) × (new ≡ Some [])
