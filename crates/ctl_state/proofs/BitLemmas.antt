-- Bits in a row of words, one of which is set or cleared.
use Rattle.std.specs.Prelude.{◌≡◌, ◌<◌, ◌≤◌, ◌⊎◌, ◌+◌, ◌*◌, ◌/◌, ◌%◌, ◌==◌, ◌∷◌, [], ℕ, Bool, List, cond, length, map, slice_index_or, slice_set, refl}
use Rattle.std.specs.Int.{bit_at}
use Rattle.std.proofs.Common.{arith, sym, ap, ◌∙◌, inl, inr}
use Rattle.std.proofs.lemmas.Bool.{cases_eq, eq-eqb, ne_eqb}
use Rattle.std.proofs.lemmas.Bool.{cases_order}
use Rattle.std.proofs.lemmas.List.{get_or-set_same, get_or-set_other, get_or_past}
use Rattle.std.proofs.Common.{w64, bit_and, bit_or, ◌^◌, ◌-◌, zero, suc}
use Rattle.std.specs.Int.{trailing_zeros}
use Rattle.std.proofs.lemmas.Nat.Bits.{bit_at-zero, bit_at_set_same, bit_at_set_other, bit_at_clear_same, bit_at_clear_other, bit_at-trailing_zeros}
use Rattle.std.proofs.lemmas.Option.{get_or_from_slice_get, slice_get_read}
use Rattle.ctl_state.specs.Bits.{bit_in, some_bit}

-- one bit of a word is set, or cleared
module _ (word bit : ℕ) (few : bit < 64) where
  pub word_set : (i : ℕ) → bit_at (bit_or word (1 * 2 ^ bit % 18446744073709551616)) i ≡ cond (i == bit) 1 (bit_at word i)
  word_set i = by (cases_eq i bit)
    where
      by : (i ≡ bit) ⊎ (i ≡ bit → ⊥) → bit_at (bit_or word (1 * 2 ^ bit % 18446744073709551616)) i ≡ cond (i == bit) 1 (bit_at word i)
      by (inl same) =
          ap (bit_at (bit_or word (1 * 2 ^ bit % 18446744073709551616))) same
          ∙ bit_at_set_same w64 word bit few
          ∙ sym (ap (λ (b : Bool). cond b 1 (bit_at word i)) (eq-eqb i bit same))
      by (inr other) = bit_at_set_other w64 word bit few i other ∙ sym (ap (λ (b : Bool). cond b 1 (bit_at word i)) (ne_eqb i bit other))

  pub word_cleared : (i : ℕ) → i < 64 → bit_at (bit_and word (18446744073709551615 - 1 * 2 ^ bit % 18446744073709551616)) i ≡ cond (i == bit) 0 (bit_at word i)
  word_cleared i within = by (cases_eq i bit)
    where
      by : (i ≡ bit) ⊎ (i ≡ bit → ⊥) → bit_at (bit_and word (18446744073709551615 - 1 * 2 ^ bit % 18446744073709551616)) i ≡ cond (i == bit) 0 (bit_at word i)
      by (inl same) =
          ap (bit_at (bit_and word (18446744073709551615 - 1 * 2 ^ bit % 18446744073709551616))) same
          ∙ bit_at_clear_same w64 word bit few
          ∙ sym (ap (λ (b : Bool). cond b 0 (bit_at word i)) (eq-eqb i bit same))
      by (inr other) = bit_at_clear_other w64 word bit few i within other ∙ sym (ap (λ (b : Bool). cond b 0 (bit_at word i)) (ne_eqb i bit other))

-- something is there as often in what is made of a list
pub some_map : {X Y : Type 0} (f : X → Y) (xs : List X) → some_bit (map f xs) ≡ some_bit xs
some_map f [] = refl
some_map f (x ∷ xs) = refl

-- a bit is told by its word and its place there
pub in_word : (words : List ℕ) (place k : ℕ) → k < 64 → bit_in words (64 * place + k) ≡ bit_at (slice_index_or words place 0) k
in_word words place k few =
    let at : (64 * place + k) / 64 ≡ place = omega arith in
    let rest : (64 * place + k) % 64 ≡ k = omega arith in
    ap (λ (n : ℕ). bit_at (slice_index_or words n 0) ((64 * place + k) % 64)) at ∙ ap (bit_at (slice_index_or words place 0)) rest

pub apart : (j k : ℕ) → j / 64 ≡ k / 64 → j % 64 ≡ k % 64 → j ≡ k
apart j k word rest = omega (arith, word, rest)

-- a bit of one word was set or cleared
module _ (words : List ℕ) (place : ℕ) (bit : ℕ) (word : ℕ) (there : place / 64 < length words)
    (is : (i : ℕ) → i < 64 → bit_at word i ≡ cond (i == place % 64) bit (bit_at (slice_index_or words (place / 64) 0) i)) where
  pub one_set : (k : ℕ) → bit_in (slice_set words (place / 64) word) k ≡ cond (k == place) bit (bit_in words k)
  one_set k = by (cases_eq (k / 64) (place / 64)) (cases_eq (k % 64) (place % 64))
    where
      below : k % 64 < 64
      below = omega arith

      by : (k / 64 ≡ place / 64) ⊎ (k / 64 ≡ place / 64 → ⊥) → (k % 64 ≡ place % 64) ⊎ (k % 64 ≡ place % 64 → ⊥) → bit_in (slice_set words (place / 64) word) k ≡ cond (k == place) bit (bit_in words k)
      by (inl same) (inl at) =
          ap (λ (n : ℕ). bit_at (slice_index_or (slice_set words (place / 64) word) n 0) (k % 64)) same
          ∙ ap (λ (n : ℕ). bit_at n (k % 64)) (get_or-set_same words (place / 64) word 0 there)
          ∙ is (k % 64) below
          ∙ ap (λ (b : Bool). cond b bit (bit_at (slice_index_or words (place / 64) 0) (k % 64))) (eq-eqb (k % 64) (place % 64) at)
          ∙ sym (ap (λ (b : Bool). cond b bit (bit_in words k)) (eq-eqb k place (apart k place same at)))
      by (inl same) (inr other) =
          ap (λ (n : ℕ). bit_at (slice_index_or (slice_set words (place / 64) word) n 0) (k % 64)) same
          ∙ ap (λ (n : ℕ). bit_at n (k % 64)) (get_or-set_same words (place / 64) word 0 there)
          ∙ is (k % 64) below
          ∙ ap (λ (b : Bool). cond b bit (bit_at (slice_index_or words (place / 64) 0) (k % 64))) (ne_eqb (k % 64) (place % 64) other)
          ∙ ap (λ (n : ℕ). bit_at (slice_index_or words n 0) (k % 64)) (sym same)
          ∙ sym (ap (λ (b : Bool). cond b bit (bit_in words k)) (ne_eqb k place (λ e. other (ap (λ (n : ℕ). n % 64) e))))
      by (inr other) _ =
          ap (λ (n : ℕ). bit_at n (k % 64)) (get_or-set_other words (place / 64) (k / 64) word 0 other)
          ∙ sym (ap (λ (b : Bool). cond b bit (bit_in words k)) (ne_eqb k place (λ e. other (ap (λ (n : ℕ). n / 64) e))))

-- of the words before a place all are 0
pub zero_more : (words : List ℕ) (place : ℕ) → ((k : ℕ) → k < 64 * place → bit_in words k ≡ 0) → slice_index_or words place 0 ≡ 0 → (k : ℕ) → k < 64 * (place + 1) → bit_in words k ≡ 0
zero_more words place zeros none k within = by (cases_eq (k / 64) place)
  where
    by : (k / 64 ≡ place) ⊎ (k / 64 ≡ place → ⊥) → bit_in words k ≡ 0
    by (inl same) = ap (λ (n : ℕ). bit_at (slice_index_or words n 0) (k % 64)) same ∙ ap (λ (n : ℕ). bit_at n (k % 64)) none ∙ bit_at-zero (k % 64)
    by (inr other) = zeros k (omega (arith, within, other))

-- and those of the word there below one of its places
pub zero_below : (words : List ℕ) (place bit : ℕ) → ((k : ℕ) → k < 64 * place → bit_in words k ≡ 0) → ((i : ℕ) → i < bit → bit_at (slice_index_or words place 0) i ≡ 0) → bit < 64 → (k : ℕ) → k < 64 * place + bit → bit_in words k ≡ 0
zero_below words place bit zeros lower few k within = by (cases_eq (k / 64) place)
  where
    by : (k / 64 ≡ place) ⊎ (k / 64 ≡ place → ⊥) → bit_in words k ≡ 0
    by (inl same) = ap (λ (n : ℕ). bit_at (slice_index_or words n 0) (k % 64)) same ∙ lower (k % 64) (omega (arith, within, same))
    by (inr other) = zeros k (omega (arith, within, other, few))

-- a bit past the last word is 0
pub past_words : (words : List ℕ) (k : ℕ) → 64 * length words ≤ k → bit_in words k ≡ 0
past_words words k out = ap (λ (n : ℕ). bit_at n (k % 64)) (get_or_past words (k / 64) 0 (omega (arith, out))) ∙ bit_at-zero (k % 64)

-- so no bit is set where the words before the end have none
pub none_set : (words : List ℕ) (place : ℕ) → length words ≤ place → ((k : ℕ) → k < 64 * place → bit_in words k ≡ 0) → (k : ℕ) → bit_in words k ≡ 0
none_set words place out zeros k =
    elim (cases_order k (64 * place)) [
      | inl same ↦ past_words words k (omega (arith, same, out))
      | inr (inl below) ↦ zeros k below
      | inr (inr over) ↦ past_words words k (omega (arith, over, out))
    ]

-- a word that is not 0 has a lowest bit
low : (word : ℕ) → (word ≡ 0 → ⊥) → word < 18446744073709551616 → (trailing_zeros w64 word < 64) × (bit_at word (trailing_zeros w64 word) ≡ 1) × ((i : ℕ) → i < trailing_zeros w64 word → bit_at word i ≡ 0)
low zero some fits = absurd (some refl)
low (suc n) some fits = bit_at-trailing_zeros w64 (suc n) (omega arith) fits

module _ (words : List ℕ) (place : ℕ) (some : slice_index_or words place 0 ≡ 0 → ⊥) (fits : slice_index_or words place 0 < 18446744073709551616) where
  pub lowest_there : ((k : ℕ) → k < 64 * place → bit_in words k ≡ 0) → (k : ℕ) → k < 64 * place + trailing_zeros w64 (slice_index_or words place 0) → bit_in words k ≡ 0
  lowest_there zeros k within =
      let lower = low (slice_index_or words place 0) some fits in
      zero_below words place (trailing_zeros w64 (slice_index_or words place 0)) zeros lower.2 lower.0 k within

  -- which is set
  pub set_there : (trailing_zeros w64 (slice_index_or words place 0) < 64) × (bit_in words (64 * place + trailing_zeros w64 (slice_index_or words place 0)) ≡ 1)
  set_there =
      let lower = low (slice_index_or words place 0) some fits in
      (lower.0, in_word words place (trailing_zeros w64 (slice_index_or words place 0)) lower.0 ∙ lower.1)

-- a word that stands there, whatever is read past the end
pub word_there : (words : List ℕ) (place word : ℕ) → place < length words → word ≡ slice_index_or words place word → slice_index_or words place 0 ≡ word
word_there words place word there is = get_or_from_slice_get words place word 0 (slice_get_read words (length words) place word refl there is)

-- one bit was cleared
module _ (words now : List ℕ) (place : ℕ) (each : (k : ℕ) → bit_in now k ≡ cond (k == place) 0 (bit_in words k)) where
  pub stays_set : (k : ℕ) → (k ≡ place → ⊥) → bit_in now k ≡ bit_in words k
  stays_set k other = each k ∙ ap (λ (b : Bool). cond b 0 (bit_in words k)) (ne_eqb k place other)

  pub clear_more : (from : ℕ) → ((k : ℕ) → from ≤ k → k < place → bit_in words k ≡ 0) → (k : ℕ) → from ≤ k → k < place + 1 → bit_in now k ≡ 0
  clear_more from clear k above below = by (cases_eq k place)
    where
      by : (k ≡ place) ⊎ (k ≡ place → ⊥) → bit_in now k ≡ 0
      by (inl same) = each k ∙ ap (λ (b : Bool). cond b 0 (bit_in words k)) (eq-eqb k place same)
      by (inr other) = stays_set k other ∙ clear k above (omega (arith, below, other))
