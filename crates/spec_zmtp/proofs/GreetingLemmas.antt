-- More octets change no judgement of a greeting.
use Rattle.std.proofs.Common.{◌≡◌, ℕ, ◌<◌, ◌≤◌, Bool, true, false, cond, ltb, leb, eqb, List, ◌++◌, length, get_or, take, drop, refl, sym, ap, subst, ◌∙◌, arith, inl, inr, length-append}
use Rattle.std.specs.Prelude.{◌&&◌, ◌⊎◌, ◌↔◌, not}
use Rattle.std.specs.List.{starts_with}
use Rattle.std.specs.Cmp.Lexicographic.{pointwise}
use Rattle.std.proofs.lemmas.Bool.{cases_lt, lt-ltb, ltb-false, le-ltb, le-leb, lt-leb, eqb-true, eq-eqb}
use Rattle.std.proofs.lemmas.Slice.Eq.{bytes_eq-Decides}
use Rattle.std.proofs.lemmas.List.{get_or_append_left, drop-append-le, take-append-le, length-drop}
use Rattle.zq_base.specs.declared.options.Role.{Role}
use Rattle.zq_base.specs.declared.options.Role.TheVariants.{Null, PlainClient, PlainServer}
use Rattle.spec_zmtp.specs.declared.greeting.Judgement.{Judgement}
use Rattle.spec_zmtp.specs.declared.greeting.Judgement.TheVariants.{NeedMore, Good, BadSignature, OldVersion, OtherMechanism}
use Rattle.spec_zmtp.specs.Greeting.{judged, mechanism_of, IsAccepted}

-- a judgement that stands, or waits for more
abbrev pub Stands : Judgement → Judgement → Type 0
Stands before after = (before ≡ NeedMore) ⊎ (after ≡ before)

-- a rule that is tested once there are k octets, before others that need as many or more
waits : (k n : ℕ) (p : Bool) (x r : Judgement) → n < k → r ≡ NeedMore → cond (leb k n && p) x r ≡ NeedMore
waits k n p x r few h = rw (lt-leb k n few) h

tested : (k n m : ℕ) (p q : Bool) (x y r s : Judgement) → n ≤ m → (k ≤ n → p ≡ q) → (k ≤ n → x ≡ y) → (n < k → r ≡ NeedMore) → Stands r s → Stands (cond (leb k n && p) x r) (cond (leb k m && q) y s)
tested k n m p q x y r s more same told early h =
    elim (cases_lt n k) [
      | inl few ↦ inl (waits k n p x r few (early few))
      | inr enough ↦
          let now : leb k n ≡ true = le-leb k n enough in
          let then_ : leb k m ≡ true = le-leb k m (omega arith) in
          let by : (b : Bool) → Stands (cond b x r) (cond b y s) = λ b. elim b as (λ b. Stands (cond b x r) (cond b y s)) [ true ↦ inr (sym (told enough)) | false ↦ h ] in
          rw (now, then_) (subst (λ (b : Bool). Stands (cond p x r) (cond b y s)) (same enough) (by p))
    ]

size_of : (role : Role) → length (mechanism_of role) ≡ 20
size_of Null = refl
size_of PlainClient = refl
size_of PlainServer = refl

pub judged-append : (role : Role) (octets more : List ℕ) → (judged role octets ≡ NeedMore) ⊎ (judged role (octets ++ more) ≡ judged role octets)
judged-append role octets more =
    let n : ℕ = length octets in
    let m : ℕ = length (octets ++ more) in
    let longer : n ≤ m = omega (arith, length-append octets more) in
    let size = size_of role in
    let at : (i : ℕ) → i < n → get_or octets i 0 ≡ get_or (octets ++ more) i 0 = λ i lt. sym (get_or_append_left octets more 0 i lt) in
    let name : 32 ≤ n → take (length (mechanism_of role)) (drop 12 octets) ≡ take (length (mechanism_of role)) (drop 12 (octets ++ more)) =
    λ le. sym (ap (λ l. take (length (mechanism_of role)) l) (drop-append-le 12 octets more (omega arith)) ∙ take-append-le (length (mechanism_of role)) (drop 12 octets) more (omega (arith, length-drop 12 octets))) in
    let other : List ℕ → Bool = λ l. not (starts_with eqb (drop 12 l) (mechanism_of role)) in
    let whole : List ℕ → Judgement = λ l. cond (ltb (length l) 64) NeedMore Good in
    let fourth : List ℕ → Judgement = λ l. cond (leb 32 (length l) && other l) OtherMechanism (whole l) in
    let third : List ℕ → Judgement = λ l. cond (leb 11 (length l) && ltb (get_or l 10 0) 3) (OldVersion (get_or l 10 0)) (fourth l) in
    let second : List ℕ → Judgement = λ l. cond (leb 10 (length l) && not (eqb (get_or l 9 0) 127)) (BadSignature 9) (third l) in
    let short_whole : n < 64 → whole octets ≡ NeedMore = λ lt. rw (lt-ltb n 64 lt) refl in
    let short_fourth : n < 32 → fourth octets ≡ NeedMore = λ lt. waits 32 n (other octets) OtherMechanism (whole octets) lt (short_whole (omega arith)) in
    let short_third : n < 11 → third octets ≡ NeedMore = λ lt. waits 11 n (ltb (get_or octets 10 0) 3) (OldVersion (get_or octets 10 0)) (fourth octets) lt (short_fourth (omega arith)) in
    let short_second : n < 10 → second octets ≡ NeedMore = λ lt. waits 10 n (not (eqb (get_or octets 9 0) 127)) (BadSignature 9) (third octets) lt (short_third (omega arith)) in
    let whole_stands : Stands (whole octets) (whole (octets ++ more)) =
    elim (cases_lt n 64) [ inl lt ↦ inl (short_whole lt) | inr le ↦ let now : ltb n 64 ≡ false = le-ltb _ _ le in let then_ : ltb m 64 ≡ false = le-ltb _ _ (omega arith) in inr (rw (now, then_) refl) ] in
    tested 10 n m (not (eqb (get_or octets 0 0) 255)) (not (eqb (get_or (octets ++ more) 0 0) 255)) (BadSignature 0) (BadSignature 0) (second octets) (second (octets ++ more)) longer
    (λ le. ap (λ k. not (eqb k 255)) (at 0 (omega arith))) (λ le. refl) short_second
    (tested 10 n m (not (eqb (get_or octets 9 0) 127)) (not (eqb (get_or (octets ++ more) 9 0) 127)) (BadSignature 9) (BadSignature 9) (third octets) (third (octets ++ more)) longer
    (λ le. ap (λ k. not (eqb k 127)) (at 9 (omega arith))) (λ le. refl) (λ lt. short_third (omega arith))
    (tested 11 n m (ltb (get_or octets 10 0) 3) (ltb (get_or (octets ++ more) 10 0) 3) (OldVersion (get_or octets 10 0)) (OldVersion (get_or (octets ++ more) 10 0)) (fourth octets) (fourth (octets ++ more)) longer
    (λ le. ap (λ k. ltb k 3) (at 10 (omega arith))) (λ le. ap (λ (k : ℕ). OldVersion k) (at 10 (omega arith))) (λ lt. short_fourth (omega arith))
    (tested 32 n m (other octets) (other (octets ++ more)) OtherMechanism OtherMechanism (whole octets) (whole (octets ++ more)) longer
    (λ le. ap (λ l. not (pointwise eqb (mechanism_of role) l)) (name le)) (λ le. refl) (λ lt. short_whole (omega arith)) whole_stands)))

-- ---- what is accepted

good_there : (role : Role) (octets : List ℕ) → IsAccepted role octets → judged role octets ≡ Good
good_there role octets h =
    let n : ℕ = length octets in
    let ten : leb 10 n ≡ true = le-leb 10 n (omega (arith, h.whole)) in
    let eleven : leb 11 n ≡ true = le-leb 11 n (omega (arith, h.whole)) in
    let thirty : leb 32 n ≡ true = le-leb 32 n (omega (arith, h.whole)) in
    let all : ltb n 64 ≡ false = le-ltb n 64 h.whole in
    let first : eqb (get_or octets 0 0) 255 ≡ true = eq-eqb _ _ h.first in
    let tenth : eqb (get_or octets 9 0) 127 ≡ true = eq-eqb _ _ h.tenth in
    let new : ltb (get_or octets 10 0) 3 ≡ false = le-ltb _ _ h.version in
    let name : pointwise eqb (mechanism_of role) (take (length (mechanism_of role)) (drop 12 octets)) ≡ true =
    (bytes_eq-Decides (mechanism_of role) (take (length (mechanism_of role)) (drop 12 octets))).1 (sym (ap (λ k. take k (drop 12 octets)) (size_of role) ∙ h.mechanism)) in
    rw (ten, first, tenth, eleven, new, thirty, name, all) refl

passes : (b : Bool) (x r : Judgement) → (x ≡ Good → ⊥) → cond b x r ≡ Good → (b ≡ false) × (r ≡ Good)
passes true x r other e = absurd (other e)
passes false x r other e = (refl, e)

fails : (k n : ℕ) (p : Bool) → k ≤ n → (leb k n && not p) ≡ false → p ≡ true
fails k n true le e = refl
fails k n false le e = let now : leb k n ≡ true = le-leb k n le in let clash : true ≡ false = sym (ap (λ b. b && true) now) ∙ e in absurd cc

stays : (k n : ℕ) (p : Bool) → k ≤ n → (leb k n && p) ≡ false → p ≡ false
stays k n false le e = refl
stays k n true le e = let now : leb k n ≡ true = le-leb k n le in let clash : true ≡ false = sym (ap (λ b. b && true) now) ∙ e in absurd cc

accepted_there : (role : Role) (octets : List ℕ) → judged role octets ≡ Good → IsAccepted role octets
accepted_there role octets e =
    let n : ℕ = length octets in
    let name : List ℕ = take (length (mechanism_of role)) (drop 12 octets) in
    let a = passes (leb 10 n && not (eqb (get_or octets 0 0) 255)) (BadSignature 0) _ (λ e. cc) e in
    let b = passes (leb 10 n && not (eqb (get_or octets 9 0) 127)) (BadSignature 9) _ (λ e. cc) a.1 in
    let c = passes (leb 11 n && ltb (get_or octets 10 0) 3) (OldVersion (get_or octets 10 0)) _ (λ e. cc) b.1 in
    let d = passes (leb 32 n && not (pointwise eqb (mechanism_of role) name)) OtherMechanism _ (λ e. cc) c.1 in
    let w = passes (ltb n 64) NeedMore Good (λ e. cc) d.1 in
    let whole : 64 ≤ n = ltb-false _ _ w.0 in
    record {
      whole = whole;
      first = eqb-true _ _ (fails 10 n _ (omega arith) a.0);
      tenth = eqb-true _ _ (fails 10 n _ (omega arith) b.0);
      version = ltb-false _ _ (stays 11 n _ (omega arith) c.0);
      mechanism = ap (λ k. take k (drop 12 octets)) (sym (size_of role)) ∙ sym ((bytes_eq-Decides (mechanism_of role) name).0 (fails 32 n _ (omega arith) d.0));
    }

pub judged-good : (role : Role) (octets : List ℕ) → (judged role octets ≡ Good) ↔ IsAccepted role octets
judged-good role octets = (accepted_there role octets, good_there role octets)
