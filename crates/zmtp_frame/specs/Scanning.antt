-- What the octets of a head are so far.
use Rattle.std.specs.Prelude.{◌≡◌, ℕ, ◌<◌, ◌≤◌, List, [], ◌∷◌, ◌++◌, length, take, None}
use Rattle.spec_zmtp.specs.FrameFlags.{flags_at}
use Rattle.spec_zmtp.specs.FrameEncoding.{IsHead, IsCutHead}
use Rattle.zmtp_frame.specs.declared.scan.Scan.{Scan}
use Rattle.zmtp_frame.specs.declared.scan.Scan.TheVariants.{Cut, Whole, Bad}

-- octets that are cut, or begin with a whole head or with no flags octet
abbrev pub Sees : List ℕ → Scan → Type 0
Sees octets Cut = IsCutHead octets
Sees octets (Whole kind size) = (front : List ℕ) × (rest : List ℕ) × IsHead kind size front × (octets ≡ front ++ rest)
Sees octets (Bad flags) = (rest : List ℕ) × (octets ≡ flags ∷ rest) × (flags_at flags ≡ None)

-- a cut head took octets of a piece, up to the one that decides
abbrev pub Takes : List ℕ → List ℕ → ℕ → Scan → List ℕ → Type 0
Takes old piece taken Cut new = (taken ≡ length piece) × (new ≡ old ++ piece) × IsCutHead new
Takes old piece taken (Whole kind size) new = (0 < taken) × (taken ≤ length piece) × IsHead kind size (old ++ take taken piece)
Takes old piece taken (Bad flags) new = (taken ≡ 1) × (old ≡ []) × (take 1 piece ≡ flags ∷ []) × (flags_at flags ≡ None)
