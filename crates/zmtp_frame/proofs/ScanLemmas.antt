-- What octets that begin with a flags octet are.
use Rattle.std.proofs.Common.{◌≡◌, ℕ, suc, ◌^◌, ◌<◌, ◌≤◌, Bool, true, false, List, [], ◌∷◌, length, take, get_or, Some, refl, sym, ap, ◌∙◌, inl, inr, arith}
use Rattle.std.proofs.lemmas.Bool.{cases_lt}
use Rattle.std.proofs.lemmas.List.{get_or-take, get_or_past}
use Rattle.std.specs.Int.{w64, to_be_bytes, from_be_bytes}
use Rattle.std.proofs.lemmas.Nat.{be_bytes_8}
use Rattle.spec_zmtp.specs.declared.flags.Flags.{Flags}
use Rattle.spec_zmtp.specs.FrameFlags.{flags_octet, flags_at}
use Rattle.spec_zmtp.specs.FrameEncoding.{IsHead}
use Rattle.spec_zmtp.proofs.FlagLemmas.{octet_of_flags}
use Rattle.zmtp_frame.specs.declared.scan.Scan.TheVariants.{Whole}
use Rattle.zmtp_frame.specs.Scanning.{Sees}

-- each is an octet
abbrev pub AreOctets : List ℕ → Type 0
AreOctets octets = (i : ℕ) → get_or octets i 0 < 256

pub short_head : (octets : List ℕ) (f : Flags) → AreOctets octets → flags_at (get_or octets 0 0) ≡ Some f → f.long ≡ false → 2 ≤ length octets → Sees octets (Whole f.kind (get_or octets 1 0))
short_head [] f fits e long le = absurd (omega arith)
short_head (x ∷ []) f fits e long le = absurd (omega arith)
short_head (x ∷ n ∷ rest) f fits e long le =
    (x ∷ n ∷ [], rest, (false, fits 1, ap (λ (y : ℕ). y ∷ n ∷ []) (octet_of_flags x f e ∙ ap (λ (l : Bool). flags_octet f.kind l) long)), refl)

pub long_head : (octets : List ℕ) (f : Flags) → AreOctets octets → flags_at (get_or octets 0 0) ≡ Some f → f.long ≡ true → 9 ≤ length octets
    → Sees octets (Whole f.kind (from_be_bytes w64 (get_or octets 1 0 ∷ get_or octets 2 0 ∷ get_or octets 3 0 ∷ get_or octets 4 0 ∷ get_or octets 5 0 ∷ get_or octets 6 0 ∷ get_or octets 7 0 ∷ get_or octets 8 0 ∷ [])))
long_head [] f fits e long le = absurd (omega arith)
long_head (o0 ∷ []) f fits e long le = absurd (omega arith)
long_head (o0 ∷ o1 ∷ []) f fits e long le = absurd (omega arith)
long_head (o0 ∷ o1 ∷ o2 ∷ []) f fits e long le = absurd (omega arith)
long_head (o0 ∷ o1 ∷ o2 ∷ o3 ∷ []) f fits e long le = absurd (omega arith)
long_head (o0 ∷ o1 ∷ o2 ∷ o3 ∷ o4 ∷ []) f fits e long le = absurd (omega arith)
long_head (o0 ∷ o1 ∷ o2 ∷ o3 ∷ o4 ∷ o5 ∷ []) f fits e long le = absurd (omega arith)
long_head (o0 ∷ o1 ∷ o2 ∷ o3 ∷ o4 ∷ o5 ∷ o6 ∷ []) f fits e long le = absurd (omega arith)
long_head (o0 ∷ o1 ∷ o2 ∷ o3 ∷ o4 ∷ o5 ∷ o6 ∷ o7 ∷ []) f fits e long le = absurd (omega arith)
long_head (o0 ∷ o1 ∷ o2 ∷ o3 ∷ o4 ∷ o5 ∷ o6 ∷ o7 ∷ o8 ∷ rest) f fits e long le =
    let size : List ℕ = o1 ∷ o2 ∷ o3 ∷ o4 ∷ o5 ∷ o6 ∷ o7 ∷ o8 ∷ [] in
    let all : AreOctets size = λ i. elim (cases_lt i 8) [ inl lt ↦ rw (← get_or-take 8 (o1 ∷ o2 ∷ o3 ∷ o4 ∷ o5 ∷ o6 ∷ o7 ∷ o8 ∷ rest) i 0 lt) at (fits (suc i)) | inr ge ↦ rw (get_or_past size i 0 ge) (omega arith) ] in
    let back : to_be_bytes w64 (from_be_bytes w64 size) ≡ size = be_bytes_8 size _ refl all refl in
    let below : from_be_bytes w64 size < 2 ^ 64 = omega (arith, all 0, all 1, all 2, all 3, all 4, all 5, all 6, all 7) in
    (o0 ∷ size, rest, (true, below, ap (λ (x : ℕ). x ∷ size) (octet_of_flags o0 f e ∙ ap (λ (l : Bool). flags_octet f.kind l) long) ∙ ap (λ (x : List ℕ). flags_octet f.kind true ∷ x) (sym back)), refl)

-- ---- heads that are whole

pub short_whole : (octets : List ℕ) (f : Flags) → AreOctets octets → flags_at (get_or octets 0 0) ≡ Some f → f.long ≡ false → 2 ≤ length octets → IsHead f.kind (get_or octets 1 0) (take 2 octets)
short_whole [] f fits e long le = absurd (omega arith)
short_whole (x ∷ []) f fits e long le = absurd (omega arith)
short_whole (x ∷ n ∷ rest) f fits e long le =
    (false, fits 1, ap (λ (y : ℕ). y ∷ n ∷ []) (octet_of_flags x f e ∙ ap (λ (l : Bool). flags_octet f.kind l) long))

pub long_whole : (octets : List ℕ) (f : Flags) → AreOctets octets → flags_at (get_or octets 0 0) ≡ Some f → f.long ≡ true → 9 ≤ length octets
    → IsHead f.kind (from_be_bytes w64 (get_or octets 1 0 ∷ get_or octets 2 0 ∷ get_or octets 3 0 ∷ get_or octets 4 0 ∷ get_or octets 5 0 ∷ get_or octets 6 0 ∷ get_or octets 7 0 ∷ get_or octets 8 0 ∷ [])) (take 9 octets)
long_whole [] f fits e long le = absurd (omega arith)
long_whole (o0 ∷ []) f fits e long le = absurd (omega arith)
long_whole (o0 ∷ o1 ∷ []) f fits e long le = absurd (omega arith)
long_whole (o0 ∷ o1 ∷ o2 ∷ []) f fits e long le = absurd (omega arith)
long_whole (o0 ∷ o1 ∷ o2 ∷ o3 ∷ []) f fits e long le = absurd (omega arith)
long_whole (o0 ∷ o1 ∷ o2 ∷ o3 ∷ o4 ∷ []) f fits e long le = absurd (omega arith)
long_whole (o0 ∷ o1 ∷ o2 ∷ o3 ∷ o4 ∷ o5 ∷ []) f fits e long le = absurd (omega arith)
long_whole (o0 ∷ o1 ∷ o2 ∷ o3 ∷ o4 ∷ o5 ∷ o6 ∷ []) f fits e long le = absurd (omega arith)
long_whole (o0 ∷ o1 ∷ o2 ∷ o3 ∷ o4 ∷ o5 ∷ o6 ∷ o7 ∷ []) f fits e long le = absurd (omega arith)
long_whole (o0 ∷ o1 ∷ o2 ∷ o3 ∷ o4 ∷ o5 ∷ o6 ∷ o7 ∷ o8 ∷ rest) f fits e long le =
    let size : List ℕ = o1 ∷ o2 ∷ o3 ∷ o4 ∷ o5 ∷ o6 ∷ o7 ∷ o8 ∷ [] in
    let all : AreOctets size = λ i. elim (cases_lt i 8) [ inl lt ↦ rw (← get_or-take 8 (o1 ∷ o2 ∷ o3 ∷ o4 ∷ o5 ∷ o6 ∷ o7 ∷ o8 ∷ rest) i 0 lt) at (fits (suc i)) | inr ge ↦ rw (get_or_past size i 0 ge) (omega arith) ] in
    let back : to_be_bytes w64 (from_be_bytes w64 size) ≡ size = be_bytes_8 size _ refl all refl in
    let below : from_be_bytes w64 size < 2 ^ 64 = omega (arith, all 0, all 1, all 2, all 3, all 4, all 5, all 6, all 7) in
    (true, below, ap (λ (x : ℕ). x ∷ size) (octet_of_flags o0 f e ∙ ap (λ (l : Bool). flags_octet f.kind l) long) ∙ ap (λ (x : List ℕ). flags_octet f.kind true ∷ x) (sym back))
