-- Lists in which no end stands twice.
use Rattle.std.proofs.Common.{◌≡◌, ◌∙◌, ◌||◌, ◌++◌, ℕ, Bool, true, false, List, [], ◌∷◌, filter, map, refl, sym, ap, subst, inl, inr, if◌then◌else◌, true≢false}
use Rattle.std.specs.List.{list_any}
use Rattle.std.proofs.lemmas.List.Folds.{list_any-append}
use Rattle.zq_base.specs.declared.ids.EndId.{EndId}
use Rattle.spec_control.specs.declared.entry.Joining.{Joining}
use Rattle.spec_control.specs.Control.{is_end}
use Rattle.control_laws.specs.AttachedOnce.{AreOnce}
use Rattle.control_laws.proofs.AskLemmas.{end_self, same_end}
use Rattle.end_table.proofs.GivingLemmas.{map_more}
use Rattle.sock_core.specs.Came.{IsOneOf}
use Rattle.sock_core.specs.Way.{oldest_first}
use Rattle.socket_laws.proofs.PlaceLemmas.{any_whole}

pub is_false : (b : Bool) → (b ≡ true → ⊥) → b ≡ false
is_false true never = absurd (never refl)
is_false false never = refl

neither : (a b : Bool) → (a || b) ≡ false → (a ≡ false) × (b ≡ false)
neither true b h = absurd (true≢false h)
neither false b h = (refl, h)

-- the ends of one list and of another
pub record Parts (xs ys : List EndId) : Type 0 where
  pub first : AreOnce xs
  pub last : AreOnce ys
  pub apart : (e : EndId) → list_any (is_end e) xs ≡ true → list_any (is_end e) ys ≡ true → ⊥

parts_more : (x : EndId) (xs ys : List EndId) → list_any (is_end x) (xs ++ ys) ≡ false → Parts xs ys → Parts (x ∷ xs) ys
parts_more x xs ys h rest = record { first = (none.0, rest.first); last = rest.last; apart = apart }
  where
    none : (list_any (is_end x) xs ≡ false) × (list_any (is_end x) ys ≡ false)
    none = neither (list_any (is_end x) xs) (list_any (is_end x) ys) (sym (list_any-append (is_end x) xs ys) ∙ h)

    apart : (e : EndId) → list_any (is_end e) (x ∷ xs) ≡ true → list_any (is_end e) ys ≡ true → ⊥
    apart e a b = by (is_end e x) refl a
      where
        by : (c : Bool) → is_end e x ≡ c → (c || list_any (is_end e) xs) ≡ true → ⊥
        by true same g = true≢false (sym b ∙ ap (λ (d : EndId). list_any (is_end d) ys) (same_end e x same) ∙ none.1)
        by false other g = rest.apart e g b

pub once_parts : (xs ys : List EndId) → AreOnce (xs ++ ys) → Parts xs ys
once_parts [] ys h = record { first = tt; last = h; apart = λ e a b. true≢false (sym a) }
once_parts (x ∷ xs) ys h = parts_more x xs ys h.0 (once_parts xs ys h.1)

pub once_filter : (f : EndId → Bool) (es : List EndId) → AreOnce es → AreOnce (filter f es)
once_filter f [] h = tt
once_filter f (e ∷ es) h = by (f e) (once_filter f es h.1)
  where
    by : (b : Bool) → AreOnce (filter f es) → AreOnce (if b then e ∷ filter f es else filter f es)
    by true rest = (is_false (list_any (is_end e) (filter f es)) (λ among. true≢false (sym (any_whole f e es among) ∙ h.0)), rest)
    by false rest = rest

or_last : (a b : Bool) → b ≡ true → (a || (b || false)) ≡ true
or_last true b h = refl
or_last false true h = refl
or_last false false h = absurd (true≢false (sym h))

or_first : (a b : Bool) → a ≡ true → (a || b) ≡ true
or_first true b h = refl
or_first false b h = absurd (true≢false (sym h))

-- ---- ends that joined at places

module _ {N : Type 0} where
  -- the ends of these, the first first
  abbrev pub ends_of_all : List (Joining N) → List EndId
  ends_of_all js = map (λ j. j.end) js

  pub any_one : (js : List (Joining N)) (j : Joining N) → IsOneOf js j → list_any (is_end j.end) (ends_of_all js) ≡ true
  any_one [] j one = absurd one
  any_one (x ∷ js) j (inl same) = ap (λ (d : Joining N). is_end j.end d.end || list_any (is_end j.end) (ends_of_all js)) same ∙ ap (λ (b : Bool). b || list_any (is_end j.end) (ends_of_all js)) (end_self j.end)
  any_one (x ∷ js) j (inr one) = by (is_end j.end x.end) (any_one js j one)
    where
      by : (b : Bool) → list_any (is_end j.end) (ends_of_all js) ≡ true → (b || list_any (is_end j.end) (ends_of_all js)) ≡ true
      by true h = refl
      by false h = h

  -- of those that joined, each at a place
  pub any_oldest : (xs : List (Joining N × ℕ)) (j : Joining N) (k : ℕ) → IsOneOf xs (j, k) → list_any (is_end j.end) (ends_of_all (oldest_first xs)) ≡ true
  any_oldest [] j k one = absurd one
  any_oldest (x ∷ xs) j k one =
      ap (list_any (is_end j.end)) (map_more (λ (d : Joining N). d.end) (oldest_first xs) x.0) ∙ list_any-append (is_end j.end) (ends_of_all (oldest_first xs)) (x.0.end ∷ []) ∙ by (any_oldest xs j k) one
    where
      by : (IsOneOf xs (j, k) → list_any (is_end j.end) (ends_of_all (oldest_first xs)) ≡ true) → IsOneOf (x ∷ xs) (j, k) → (list_any (is_end j.end) (ends_of_all (oldest_first xs)) || (is_end j.end x.0.end || false)) ≡ true
      by earlier (inl same) = or_last (list_any (is_end j.end) (ends_of_all (oldest_first xs))) (is_end j.end x.0.end) (ap (λ (y : Joining N × ℕ). is_end j.end y.0.end) same ∙ end_self j.end)
      by earlier (inr rest) = or_first (list_any (is_end j.end) (ends_of_all (oldest_first xs))) (is_end j.end x.0.end || false) (earlier rest)

  -- no end joined at two places
  pub one_place : (xs : List (Joining N × ℕ)) (j d : Joining N) (k i : ℕ) → AreOnce (ends_of_all (oldest_first xs)) → IsOneOf xs (j, k) → IsOneOf xs (d, i) → j.end ≡ d.end → k ≡ i
  one_place [] j d k i once a b same = absurd a
  one_place (x ∷ xs) j d k i once a b same = by (λ p q. one_place xs j d k i parts.first p q same) a b
    where
      parts : Parts (ends_of_all (oldest_first xs)) (x.0.end ∷ [])
      parts = once_parts (ends_of_all (oldest_first xs)) (x.0.end ∷ []) (subst AreOnce (map_more (λ (y : Joining N). y.end) (oldest_first xs) x.0) once)

      never : (y : Joining N) (n : ℕ) → IsOneOf xs (y, n) → x.0.end ≡ y.end → ⊥
      never y n one at = parts.apart y.end (any_oldest xs y n one) (or_first (is_end y.end x.0.end) false (ap (is_end y.end) at ∙ end_self y.end))

      by : (IsOneOf xs (j, k) → IsOneOf xs (d, i) → k ≡ i) → IsOneOf (x ∷ xs) (j, k) → IsOneOf (x ∷ xs) (d, i) → k ≡ i
      by earlier (inl e) (inl f) = ap (λ (y : Joining N × ℕ). y.1) (sym e ∙ f)
      by earlier (inl e) (inr q) = absurd (never d i q (ap (λ (y : Joining N × ℕ). y.0.end) e ∙ same))
      by earlier (inr p) (inl f) = absurd (never j k p (ap (λ (y : Joining N × ℕ). y.0.end) f ∙ sym same))
      by earlier (inr p) (inr q) = earlier p q
