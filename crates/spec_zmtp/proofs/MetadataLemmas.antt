-- What octets decode to is what they encode, and the other way round.
use Rattle.std.proofs.Common.{◌≡◌, ◌≢◌, ℕ, zero, suc, ◌+◌, ◌-◌, ◌^◌, ◌<◌, ◌≤◌, Bool, true, false, cond, ltb, eqb, List, [], ◌∷◌, ◌++◌, length, take, drop, Option, Some, None, refl, sym, ap, subst, ◌∙◌, append_assoc, arith, inl, inr}
use Rattle.std.specs.Prelude.{◌||◌, option_map, All}
use Rattle.std.specs.List.{list_all}
use Rattle.std.specs.Int.{w32, to_be_bytes, from_be_bytes}
use Rattle.std.proofs.Math.Dec.{eqb-suc-zero}
use Rattle.std.proofs.lemmas.Bool.{cases_lt, ltb-false, le-ltb, eq-eqb}
use Rattle.std.proofs.lemmas.List.{take_at, drop_at, take-append-drop, length-append, length-take-le, length-take, get_or-take, get_or_past, get_or-drop}
use Rattle.std.proofs.lemmas.List.Concat.{flat_map-cons}
use Rattle.std.proofs.lemmas.List.Elements.{All-nil, All-cons, All-head, All-tail}
use Rattle.std.proofs.lemmas.Nat.{be_bytes_4, from_be_bytes-to_be_bytes_4}
use Rattle.spec_zmtp.specs.declared.command.Property.{Property}
use Rattle.spec_zmtp.specs.Metadata.{IsOctets, is_name_octet, IsProperty, property, encode_property, encode_meta}
use Rattle.spec_zmtp.specs.Decoding.{sized_at, value_at, named_at, property_at, before_others, properties_behind, decode_meta}

pub fails_if : {A : Type 0} (b : Bool) (x : Option A) (y : A) → cond b None x ≡ Some y → (b ≡ false) × (x ≡ Some y)
fails_if true x y e = absurd cc
fails_if false x y e = (refl, e)

holds_if : {A : Type 0} (b : Bool) (x : Option A) (y : A) → cond b x None ≡ Some y → (b ≡ true) × (x ≡ Some y)
holds_if true x y e = (refl, e)
holds_if false x y e = absurd cc

pub neither : (a b : Bool) → (a || b) ≡ false → (a ≡ false) × (b ≡ false)
neither true b e = absurd cc
neither false b e = (refl, e)

pub not_zero : (n : ℕ) → eqb n 0 ≡ false → 1 ≤ n
not_zero n e = elim (cases_lt 0 n) [ inl lt ↦ omega arith | inr le ↦ let t = eq-eqb n 0 (omega arith) in absurd cc ]

pub some_not_zero : (n : ℕ) → 1 ≤ n → eqb n 0 ≡ false
some_not_zero zero lt = absurd (omega arith)
some_not_zero (suc n) lt = eqb-suc-zero n

some_parts : (p q : Property) (x y : List ℕ) → ◌≡◌ {A = Option (Property × List ℕ)} (Some (p, x)) (Some (q, y)) → (p ≡ q) × (x ≡ y)
some_parts p q x y e = let f : ◌≡◌ {A = Property × List ℕ} (p, x) (q, y) = cc in (ap (λ (z : Property × List ℕ). z.0) f, ap (λ (z : Property × List ℕ). z.1) f)

-- ---- what a property encodes is decoded

value_again : (name size value rest : List ℕ) → length size ≡ 4 → from_be_bytes w32 size ≡ length value → value_at name (size ++ (value ++ rest)) ≡ Some (property name value, rest)
unfolding value_at sized_at
value_again name size value rest len is =
    let size_test : ltb (length (size ++ (value ++ rest))) 4 ≡ false = le-ltb _ _ (omega (arith, length-append size (value ++ rest), len)) in
    let value_test : ltb (length (value ++ rest)) (length value) ≡ false = le-ltb _ _ (omega (arith, length-append value rest)) in
    rw (size_test, take_at size (value ++ rest) 4 len, drop_at size (value ++ rest) 4 len, is, value_test, take_at value rest (length value) refl, drop_at value rest (length value) refl) refl

name_again : (n : ℕ) (name more : List ℕ) → length name ≡ n → eqb n 0 ≡ false → list_all is_name_octet name ≡ true → property_at (n ∷ (name ++ more)) ≡ value_at name more
unfolding property_at named_at
name_again n name more len zero_test named =
    let name_test : ltb (length (name ++ more)) n ≡ false = le-ltb _ _ (omega (arith, length-append name more, len)) in
    rw (zero_test, name_test, take_at name more n len, drop_at name more n len, named) refl

pub property_again : (p : Property) (rest : List ℕ) → IsProperty p → property_at (encode_property p ++ rest) ≡ Some (p, rest)
property_again p rest h =
    let size : List ℕ = to_be_bytes w32 (length p.value) in
    let regrouped : (p.name ++ (size ++ p.value)) ++ rest ≡ p.name ++ (size ++ (p.value ++ rest)) = append_assoc p.name (size ++ p.value) rest ∙ ap (λ (l : List ℕ). p.name ++ l) (append_assoc size p.value rest) in
    ap (λ (l : List ℕ). property_at (length p.name ∷ l)) regrouped ∙ name_again (length p.name) p.name (size ++ (p.value ++ rest)) refl (some_not_zero _ h.named) h.octets ∙ value_again p.name size p.value rest refl (from_be_bytes-to_be_bytes_4 (length p.value) h.fits)

-- ---- what is decoded is encoded so

-- the octets begin with this property
pub record Begins (octets : List ℕ) (p : Property) (rest : List ℕ) : Type 0 where
  pub split : octets ≡ encode_property p ++ rest
  pub fine : IsProperty p
  pub octets_left : IsOctets rest

pub octets_drop : (n : ℕ) (octets : List ℕ) → IsOctets octets → IsOctets (drop n octets)
octets_drop n octets h i = rw get_or-drop (h (n + i))

octets_take : (n : ℕ) (octets : List ℕ) → IsOctets octets → IsOctets (take n octets)
octets_take n octets h i =
    elim (cases_lt i n) [
      | inl lt ↦ rw (get_or-take n octets i 0 lt) (h i)
      | inr le ↦ rw (get_or_past (take n octets) i 0 (omega (arith, length-take n octets))) (omega arith)
    ]

value_takes : (name octets : List ℕ) (p : Property) (rest : List ℕ) → IsOctets octets → value_at name octets ≡ Some (p, rest)
    → (value : List ℕ) × (p ≡ property name value) × (octets ≡ (to_be_bytes w32 (length value) ++ value) ++ rest) × (length value < 2 ^ 32) × IsOctets rest
unfolding value_at sized_at
value_takes name octets p rest all e =
    let a = fails_if (ltb (length octets) 4) _ (p, rest) e in
    let size : ℕ = from_be_bytes w32 (take 4 octets) in
    let r : List ℕ = drop 4 octets in
    let b = fails_if (ltb (length r) size) (Some (property name (take size r), drop size r)) (p, rest) a.1 in
    let parts = some_parts (property name (take size r)) p (drop size r) rest b.1 in
    let four : length (take 4 octets) ≡ 4 = length-take-le 4 octets (ltb-false _ _ a.0) in
    let fits : IsOctets (take 4 octets) = octets_take 4 octets all in
    let len : length (take size r) ≡ size = length-take-le size r (ltb-false _ _ b.0) in
    let below : size < 2 ^ 32 = omega (arith, fits 0, fits 1, fits 2, fits 3) in
    let front : to_be_bytes w32 (length (take size r)) ≡ take 4 octets = be_bytes_4 (take 4 octets) (length (take size r)) four fits len in
    let whole : octets ≡ (to_be_bytes w32 (length (take size r)) ++ take size r) ++ rest =
    sym (take-append-drop 4 octets) ∙ ap (λ (l : List ℕ). take 4 octets ++ l) (sym (take-append-drop size r)) ∙ ap (λ (l : List ℕ). l ++ (take size r ++ drop size r)) (sym front)
    ∙ sym (append_assoc (to_be_bytes w32 (length (take size r))) (take size r) (drop size r)) ∙ ap (λ (l : List ℕ). (to_be_bytes w32 (length (take size r)) ++ take size r) ++ l) parts.1 in
    (take size r, sym parts.0, whole, omega (arith, len, below), subst (λ (l : List ℕ). IsOctets l) parts.1 (octets_drop size r (octets_drop 4 octets all)))

pub property_takes : (octets : List ℕ) (p : Property) (rest : List ℕ) → IsOctets octets → property_at octets ≡ Some (p, rest) → Begins octets p rest
unfolding property_at named_at
property_takes [] p rest all e = absurd cc
property_takes (n ∷ octets) p rest all e =
    let a = fails_if (eqb n 0 || ltb (length octets) n) (cond (list_all is_name_octet (take n octets)) (value_at (take n octets) (drop n octets)) None) (p, rest) e in
    let tests = neither (eqb n 0) (ltb (length octets) n) a.0 in
    let b = holds_if (list_all is_name_octet (take n octets)) (value_at (take n octets) (drop n octets)) (p, rest) a.1 in
    let some : 1 ≤ n = not_zero n tests.0 in
    let len : length (take n octets) ≡ n = length-take-le n octets (ltb-false _ _ tests.1) in
    let v = value_takes (take n octets) (drop n octets) p rest (octets_drop n octets (λ i. all (suc i))) b.1 in
    let q : Property = property (take n octets) v.0 in
    let text : List ℕ = to_be_bytes w32 (length v.0) ++ v.0 in
    let whole : n ∷ octets ≡ encode_property q ++ rest =
    ap (λ (l : List ℕ). n ∷ l) (sym (take-append-drop n octets) ∙ ap (λ (l : List ℕ). take n octets ++ l) v.2 ∙ sym (append_assoc (take n octets) text rest))
    ∙ ap (λ (k : ℕ). k ∷ ((take n octets ++ text) ++ rest)) (sym len) in
    subst (λ (x : Property). Begins (n ∷ octets) x rest) (sym v.1) (record { split = whole; fine = record { named = omega (arith, len, some); short = omega (arith, len, all 0); octets = b.0; fits = v.3 }; octets_left = v.4 })

-- ---- whole lists

-- properties before others, which may be none
abbrev pub with_front : List Property → Option (List Property) → Option (List Property)
with_front front others = option_map (λ ps. front ++ ps) others

behind_front : (front rest : List ℕ) → properties_behind (front ++ rest) (length front) ≡ properties_behind rest 0
unfolding properties_behind
behind_front [] rest = refl
behind_front (octet ∷ front) rest = behind_front front rest

-- a property at the front is the first of those decoded
first_again : (p : Property) (rest : List ℕ) → property_at (encode_property p ++ rest) ≡ Some (p, rest) → decode_meta (encode_property p ++ rest) ≡ option_map (λ ps. p ∷ ps) (decode_meta rest)
unfolding properties_behind
first_again p rest is =
    let tail : List ℕ = p.name ++ (to_be_bytes w32 (length p.value) ++ p.value) in
    let others : ℕ → Option (List Property) = λ n. properties_behind (tail ++ rest) n in
    let size : length (encode_property p) - 1 ≡ length tail = omega arith in
    ap (λ o. before_others o others) is ∙ ap (λ n. option_map (λ ps. p ∷ ps) (others n)) size ∙ ap (λ o. option_map (λ ps. p ∷ ps) o) (behind_front tail rest)

pub decode_first : (octets rest : List ℕ) (p : Property) → property_at octets ≡ Some (p, rest) → octets ≡ encode_property p ++ rest → decode_meta octets ≡ option_map (λ ps. p ∷ ps) (decode_meta rest)
decode_first octets rest p is split = ap (λ l. decode_meta l) split ∙ first_again p rest (ap (λ l. property_at l) (sym split) ∙ is)

-- octets that begin with no property are no metadata
pub decode_none : (octets : List ℕ) → 0 < length octets → property_at octets ≡ None → decode_meta octets ≡ None
unfolding properties_behind
decode_none [] some is = absurd (omega arith)
decode_none (octet ∷ rest) some is = ap (λ o. before_others o (λ n. properties_behind rest n)) is

pub decode_nothing : decode_meta [] ≡ Some []
unfolding properties_behind
decode_nothing = refl

-- what encodes properties is decoded to them
pub decode_meta-encode_meta : (ps : List Property) → All IsProperty ps → decode_meta (encode_meta ps) ≡ Some ps
decode_meta-encode_meta [] h = decode_nothing
decode_meta-encode_meta (p ∷ ps) h =
    ap (λ l. decode_meta l) (flat_map-cons encode_property p ps) ∙ first_again p (encode_meta ps) (property_again p (encode_meta ps) (All-head IsProperty p ps h))
    ∙ ap (λ o. option_map (λ qs. p ∷ qs) o) (decode_meta-encode_meta ps (All-tail IsProperty p ps h))

-- what is decoded from octets begins with a property, or they are none
pub data Front (octets : List ℕ) : Type 0 where
  nothing : octets ≡ [] → decode_meta octets ≡ Some [] → Front octets
  bad : decode_meta octets ≡ None → Front octets
  begins : (p : Property) (rest : List ℕ) → Begins octets p rest → decode_meta octets ≡ option_map (λ ps. p ∷ ps) (decode_meta rest) → Front octets

front_at : (octets : List ℕ) (o : Option (Property × List ℕ)) → IsOctets octets → 0 < length octets → property_at octets ≡ o → Front octets
front_at octets None all some is = bad (decode_none octets some is)
front_at octets (Some (p, rest)) all some is =
    let b : Begins octets p rest = property_takes octets p rest all is in
    begins p rest b (decode_first octets rest p is b.split)

front_of : (octets : List ℕ) → IsOctets octets → Front octets
front_of [] all = nothing refl decode_nothing
front_of (octet ∷ rest) all = front_at (octet ∷ rest) (property_at (octet ∷ rest)) all (omega arith) refl

none_first : (p : Property) (o : Option (List Property)) → option_map (λ ps. p ∷ ps) o ≡ Some [] → ⊥
none_first p None e = absurd cc
none_first p (Some ps) e = absurd cc

same_first : (p q : Property) (ps : List Property) (o : Option (List Property)) → option_map (λ ps. p ∷ ps) o ≡ Some (q ∷ ps) → (p ≡ q) × (o ≡ Some ps)
same_first p q ps None e = absurd cc
same_first p q ps (Some qs) e = (cc, cc)

-- what is decoded encodes it
pub encode_meta-decode_meta : (ps : List Property) (content : List ℕ) → IsOctets content → decode_meta content ≡ Some ps → All IsProperty ps × (content ≡ encode_meta ps)
encode_meta-decode_meta [] content all is =
    elim (front_of content all) [
      | nothing empty d ↦ (All-nil IsProperty, empty)
      | bad d ↦ let both : None ≡ Some [] = sym d ∙ is in absurd cc
      | begins p rest b d ↦ absurd (none_first p (decode_meta rest) (sym d ∙ is))
    ]
encode_meta-decode_meta (q ∷ ps) content all is =
    elim (front_of content all) [
      | nothing empty d ↦ let both : Some [] ≡ Some (q ∷ ps) = sym d ∙ is in absurd cc
      | bad d ↦ let both : None ≡ Some (q ∷ ps) = sym d ∙ is in absurd cc
      | begins p rest b d ↦
          let same = same_first p q ps (decode_meta rest) (sym d ∙ is) in
          let others = encode_meta-decode_meta ps rest b.octets_left same.1 in (
            All-cons IsProperty q ps (subst (λ (x : Property). IsProperty x) same.0 b.fine) others.0,
            b.split ∙ ap (λ (x : Property). encode_property x ++ rest) same.0 ∙ ap (λ (l : List ℕ). encode_property q ++ l) others.1 ∙ sym (flat_map-cons encode_property q ps),
          )
    ]

-- ---- one property more

pub with_front-more : (front : List Property) (p : Property) (others : Option (List Property)) → with_front front (option_map (λ ps. p ∷ ps) others) ≡ with_front (front ++ p ∷ []) others
with_front-more front p None = refl
with_front-more front p (Some ps) = ap (λ l. Some l) (sym (append_assoc front (p ∷ []) ps))

-- no properties encode what is not decoded
pub no_properties : (content : List ℕ) → decode_meta content ≡ None → (ps : List Property) → All IsProperty ps → content ≢ encode_meta ps
no_properties content is ps h e =
    let both : None ≡ Some ps = sym is ∙ ap (λ l. decode_meta l) e ∙ decode_meta-encode_meta ps h in absurd cc
