-- What the fields of a head stand for.
use Rattle.std.specs.Prelude.{◌≡◌, ℕ, ◌-◌, ◌≤◌, List, ◌++◌, length, take, drop, replicate}
use Rattle.std.proofs.Common.{sym, ap, ◌∙◌, arith}
use Rattle.std.proofs.lemmas.List.{length-take-le, take-append-drop}
use Rattle.zmtp_frame.specs.declared.head.Head.TheInside.{Inside}

-- the octets of the head
abbrev pub octets_in : Inside → List ℕ
octets_in h = take h.len h.octets

-- nine octets, of which those behind the head are 0
pub record IsPadded (h : Inside) : Type 0 where
  pub nine : length h.octets ≡ 9
  pub within : h.len ≤ 9
  pub rest : drop h.len h.octets ≡ replicate (9 - h.len) 0

-- the fields of a head with these octets
abbrev pub padded : List ℕ → Inside
padded octets = record { octets = octets ++ replicate (9 - length octets) 0; len = length octets }

made : List ℕ → ℕ → Inside
made octets len = record { octets = octets; len = len }

-- a head is given back by its octets
pub padded-octets_in : (h : Inside) → IsPadded h → padded (octets_in h) ≡ h
unfolding made
padded-octets_in h p =
    let le : h.len ≤ length h.octets = omega (arith, p.nine, p.within) in
    let len : length (take h.len h.octets) ≡ h.len = length-take-le h.len h.octets le in
    let all : take h.len h.octets ++ replicate (9 - length (take h.len h.octets)) 0 ≡ h.octets =
    ap (λ (n : ℕ). take h.len h.octets ++ replicate (9 - n) 0) len ∙ ap (λ (l : List ℕ). take h.len h.octets ++ l) (sym p.rest) ∙ take-append-drop h.len h.octets in
    ap (λ (l : List ℕ). made l (length (take h.len h.octets))) all ∙ ap (λ (n : ℕ). made h.octets n) len
