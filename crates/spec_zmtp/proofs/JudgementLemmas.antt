-- How long a greeting is, by its judgement.
use Rattle.std.proofs.Common.{◌≡◌, ℕ, ◌<◌, ◌≤◌, Bool, true, false, cond, ltb, List, length, get_or, None, refl, sym, ap, ◌∙◌, inl, inr}
use Rattle.std.specs.Prelude.{◌⊎◌}
use Rattle.std.proofs.lemmas.Bool.{lt-ltb, le-ltb}
use Rattle.zq_base.specs.declared.options.Role.{Role}
use Rattle.spec_zmtp.specs.declared.greeting.Judgement.{Judgement}
use Rattle.spec_zmtp.specs.declared.greeting.Judgement.TheVariants.{NeedMore, Good, BadSignature, OldVersion, OtherMechanism}
use Rattle.spec_zmtp.specs.Greeting.{judged, refusal_in}

-- a test whose cause isn't what was judged leaves what follows it
later : (b : Bool) (x r j : Judgement) → (x ≡ j → ⊥) → cond b x r ≡ j → r ≡ j
later true x r j no_cause e = absurd (no_cause e)
later false x r j no_cause e = e

-- a cause is neither
abbrev IsCause : Judgement → Type 0
IsCause j = (j ≡ NeedMore → ⊥) × (j ≡ Good → ⊥)

bad_signature : (n : ℕ) → IsCause (BadSignature n)
bad_signature n = (λ e. absurd cc, λ e. absurd cc)

old_version : (n : ℕ) → IsCause (OldVersion n)
old_version n = (λ e. absurd cc, λ e. absurd cc)

other_mechanism : IsCause OtherMechanism
other_mechanism = (λ e. absurd cc, λ e. absurd cc)

skips : (b : Bool) (x r j : Judgement) → IsCause x → (j ≡ NeedMore) ⊎ (j ≡ Good) → cond b x r ≡ j → r ≡ j
skips b x r j c (inl n) e = later b x r j (λ d. c.0 (d ∙ n)) e
skips b x r j c (inr g) e = later b x r j (λ d. c.1 (d ∙ g)) e

last_of : (role : Role) (octets : List ℕ) (j : Judgement) → (j ≡ NeedMore) ⊎ (j ≡ Good) → judged role octets ≡ j → cond (ltb (length octets) 64) NeedMore Good ≡ j
last_of role octets j which e =
    skips _ OtherMechanism _ j other_mechanism which (skips _ (OldVersion (get_or octets 10 0)) _ j (old_version (get_or octets 10 0)) which (skips _ (BadSignature 9) _ j (bad_signature 9) which (skips _ (BadSignature 0) _ j (bad_signature 0) which e)))

fine_is : (j : Judgement) → refusal_in j ≡ None → (j ≡ NeedMore) ⊎ (j ≡ Good)
fine_is NeedMore e = inl refl
fine_is Good e = inr refl
fine_is (BadSignature offset) e = absurd cc
fine_is (OldVersion major) e = absurd cc
fine_is OtherMechanism e = absurd cc

pub short_judged : (role : Role) (octets : List ℕ) → refusal_in (judged role octets) ≡ None → length octets < 64 → judged role octets ≡ NeedMore
short_judged role octets fine lt =
    let last = last_of role octets (judged role octets) (fine_is (judged role octets) fine) refl in
    sym last ∙ ap (λ (b : Bool). cond b NeedMore Good) (lt-ltb (length octets) 64 lt)

pub long_judged : (role : Role) (octets : List ℕ) → refusal_in (judged role octets) ≡ None → 64 ≤ length octets → judged role octets ≡ Good
long_judged role octets fine le =
    let last = last_of role octets (judged role octets) (fine_is (judged role octets) fine) refl in
    sym last ∙ ap (λ (b : Bool). cond b NeedMore Good) (le-ltb (length octets) 64 le)
