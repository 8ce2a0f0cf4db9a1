-- A printed part is read back.
use Rattle.std.proofs.Common.{◌≡◌, ◌∙◌, ◌&&◌, ◌*◌, ℕ, suc, List, [], ◌∷◌, ◌++◌, Bool, true, false, Ok, length, refl, ap, arith, codes, not}
use Rattle.std.specs.Prelude.{nat_le, nat_eq, if◌then◌else◌}
use Rattle.std.specs.Char.{is_ascii_graphic}
use Rattle.std.specs.List.{list_all, starts_with}
use Rattle.std.specs.Str.{bytes_eq}
use Rattle.std.proofs.lemmas.Bool.{le-leb}
use Rattle.hex.specs.Hex.{IsBytes, encode_lower, lower_digits}
use Rattle.hex.proofs.HexLemmas.{decode_of-encode_lower, length-encode_with}
use Rattle.zq_script.specs.Part.{part_of, hex_part, plain_part}
use Rattle.spec_run.specs.PartText.{is_plain_part, part_text}

-- the three tests of a part that is itself
record IsPlain (part : List ℕ) : Type 0 where
  graphic : list_all is_ascii_graphic part ≡ true
  no_dash : bytes_eq part (codes "-") ≡ false
  no_hex : starts_with nat_eq part (codes "0x") ≡ false

tests : (a b c : Bool) → (a && (not b && not c)) ≡ true → (a ≡ true) × (b ≡ false) × (c ≡ false)
tests true false false e = (refl, refl, refl)
tests true false true e = cc
tests true true c e = cc
tests false b c e = cc

is_plain : (part : List ℕ) → is_plain_part part ≡ true → IsPlain part
is_plain part e =
    let t = tests (list_all is_ascii_graphic part) (bytes_eq part (codes "-")) (starts_with nat_eq part (codes "0x")) e in
    record { graphic = t.0; no_dash = t.1; no_hex = t.2 }

plain_read : (part : List ℕ) → IsPlain part → part_of part ≡ Ok part
unfolding part_of plain_part hex_part
plain_read part is = rw (is.no_dash, is.no_hex, is.graphic) refl

four : (n : ℕ) → nat_le 4 (suc (suc (2 * suc n))) ≡ true
four n = le-leb 4 (suc (suc (2 * suc n))) (omega arith)

hex_read : (octet : ℕ) (octets : List ℕ) → IsBytes (octet ∷ octets) → part_of (codes "0x" ++ encode_lower (octet ∷ octets)) ≡ Ok (octet ∷ octets)
unfolding part_of plain_part hex_part
hex_read octet octets bytes =
    let long : nat_le 4 (suc (suc (length (encode_lower (octet ∷ octets))))) ≡ true =
    ap (λ n. nat_le 4 (suc (suc n))) (length-encode_with lower_digits (octet ∷ octets)) ∙ four (length octets) in
    rw (long, decode_of-encode_lower (octet ∷ octets) bytes) refl

pub read_back : (part : List ℕ) → IsBytes part → part_of (part_text part) ≡ Ok part
unfolding part_of
read_back [] bytes = refl
read_back (octet ∷ octets) bytes = by (is_plain_part (octet ∷ octets)) refl
  where
    by : (b : Bool) → is_plain_part (octet ∷ octets) ≡ b
        → part_of (if b then octet ∷ octets else codes "0x" ++ encode_lower (octet ∷ octets)) ≡ Ok (octet ∷ octets)
    by true e = plain_read (octet ∷ octets) (is_plain (octet ∷ octets) e)
    by false e = hex_read octet octets bytes
