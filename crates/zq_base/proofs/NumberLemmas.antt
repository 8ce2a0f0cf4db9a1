-- Numbers as words, octet by octet, and as decimal texts.
use Rattle.std.proofs.Common.{zero, suc, ◌≡◌, ◌∙◌, ◌<◌, ◌≤◌, ◌^◌, ◌+◌, ◌*◌, ◌-◌, ◌↔◌, ◌&&◌, ℕ, List, [], ◌∷◌, length, true, false, Some, None, take, get_or, decimal, refl, sym, ap, arith, true≢false, ⊎_elim}
use Rattle.std.specs.Char.{is_ascii_digit}
use Rattle.std.specs.List.{list_all}
use Rattle.std.specs.Str.{all_ascii_digits}
use Rattle.std.specs.Str.Parse.{digits_value}
use Rattle.std.proofs.lemmas.Bool.{cases_Bool}
use Rattle.std.proofs.lemmas.Fmt.{decimal_is_IsNumeral, decimal-digits_value, decimal_digit, first_decimal}
use Rattle.std.proofs.lemmas.Grind.{common_steps}
use Rattle.std.proofs.lemmas.Int.Digits.{digits_value_more}
use Rattle.std.proofs.lemmas.List.Folds.{list_all_at}
use Rattle.std.proofs.lemmas.Str.{digit_value_digit}
use Rattle.std.proofs.lemmas.Str.Parse.{IsNumeralModel, numerals_by_value, tells_all_ascii_digits, digits_value-take-le}
use Rattle.zq_base.specs.Number.{is_number, number_in}

numerals : IsNumeralModel (λ ds. all_ascii_digits ds ≡ true) (digits_value 10)
numerals = numerals_by_value (λ ds. all_ascii_digits ds ≡ true) tells_all_ascii_digits

all_digits : (ds : List ℕ) → list_all is_ascii_digit ds ≡ all_ascii_digits ds
all_digits [] = refl
all_digits (d ∷ ds) = ap (λ b. is_ascii_digit d && b) (all_digits ds)

-- a number is all digits
digits_of_number : (word : List ℕ) → is_number word ≡ true → list_all is_ascii_digit word ≡ true
unfolding is_number
digits_of_number word e = grind (arith, common_steps)

some_digit : (word : List ℕ) → is_number word ≡ true → 0 < length word
unfolding is_number
some_digit word e = grind (arith, common_steps)

no_leading_zero : (word : List ℕ) → is_number word ≡ true → get_or word 0 0 ≡ 48 → length word ≡ 1
unfolding is_number
no_leading_zero word e lead = grind (arith, common_steps)

-- each octet of a number is a digit
pub digit_in : (word : List ℕ) (i : ℕ) → is_number word ≡ true → i < length word → (48 ≤ get_or word i 0) × (get_or word i 0 ≤ 57)
digit_in word i e lt =
    ⊎_elim
    (λ (y : is_ascii_digit (get_or word i 0) ≡ true). (grind (arith, common_steps), grind (arith, common_steps)))
    (λ (n : is_ascii_digit (get_or word i 0) ≡ false). absurd (true≢false (sym (digits_of_number word e) ∙ list_all_at is_ascii_digit word i 0 lt n)))
    (cases_Bool (is_ascii_digit (get_or word i 0)))

-- the value of one digit more
pub value_more : (word : List ℕ) (i : ℕ) → is_number word ≡ true → i < length word → digits_value 10 (take (i + 1) word) ≡ digits_value 10 (take i word) * 10 + (get_or word i 0 - 48)
value_more word i e lt = omega (arith, digits_value_more 10 word i lt, digit_value_digit (get_or word i 0) (digit_in word i e lt))

-- the first digits are worth no more than all
pub value-take : (word : List ℕ) (i : ℕ) → digits_value 10 (take i word) ≤ digits_value 10 word
value-take word i = digits_value-take-le 10 word i (omega arith)

-- a word that is worth more than the most is no number in range
pub number_in-above : (least most : ℕ) (word : List ℕ) → most < digits_value 10 word → None ≡ number_in least most word
unfolding number_in
number_in-above least most word lt = grind (arith, common_steps)

-- a number in range
pub number_in-some : (least most : ℕ) (word : List ℕ) → is_number word ≡ true → least ≤ digits_value 10 word → digits_value 10 word ≤ most → number_in least most word ≡ Some (digits_value 10 word)
unfolding number_in
number_in-some least most word e low high = grind (arith, common_steps)

-- what is read is a number, with its value, in range
read_number : (least most n : ℕ) (word : List ℕ) → number_in least most word ≡ Some n → (is_number word ≡ true) × (digits_value 10 word ≡ n) × (least ≤ n) × (n ≤ most)
unfolding number_in
read_number least most n word e = grind (arith, common_steps)

-- digits without a leading zero are a number
number_of_digits : (word : List ℕ) → 0 < length word → list_all is_ascii_digit word ≡ true → (get_or word 0 0 ≡ 48 → length word ≡ 1) → is_number word ≡ true
unfolding is_number
number_of_digits word some digits lead = grind (arith, common_steps)

-- a decimal begins with 0 only where it is that of 0
decimal_lead : (n : ℕ) → n < 2 ^ 64 → get_or (decimal n) 0 0 ≡ 48 → length (decimal n) ≡ 1
decimal_lead zero fits lead = ap (λ t. length t) (decimal_digit 0 (omega arith))
decimal_lead (suc n) fits lead = absurd (omega (arith, first_decimal (suc n) (omega arith) fits))

-- a decimal is a number
is_number-decimal : (n : ℕ) → n < 2 ^ 64 → is_number (decimal n) ≡ true
is_number-decimal n fits =
    let numeral = decimal_is_IsNumeral n fits in
    number_of_digits (decimal n) numeral.0.0 (all_digits (decimal n) ∙ numerals.from (decimal n) numeral.0.1) (decimal_lead n fits)

pub number_in-decimal : (least most n : ℕ) (word : List ℕ) → most < 2 ^ 64 → (number_in least most word ≡ Some n) ↔ (word ≡ decimal n) × (least ≤ n) × (n ≤ most)
number_in-decimal least most n word fits = (
  λ read.
      let is = read_number least most n word read in
      let spelled : decimal (digits_value 10 word) ≡ word = decimal-digits_value numerals word (sym (all_digits word) ∙ digits_of_number word is.0) (some_digit word is.0) (no_leading_zero word is.0) (omega (arith, is)) in
      (sym spelled ∙ ap decimal is.1, is.2, is.3),
  λ is.
      let value : digits_value 10 word ≡ n = ap (digits_value 10) is.0 ∙ (decimal_is_IsNumeral n (omega (arith, is.2))).1 in
      number_in-some least most word (ap is_number is.0 ∙ is_number-decimal n (omega (arith, is.2))) (omega (arith, is.1)) (omega (arith, is.2)) ∙ ap Some value,
)
