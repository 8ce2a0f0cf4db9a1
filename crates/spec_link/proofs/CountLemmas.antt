-- How messages among puts are counted.
use Rattle.std.proofs.Common.{◌≡◌, ℕ, inl, inr, ◌+◌, ◌-◌, ◌<◌, ◌≤◌, Bool, true, false, List, [], ◌∷◌, ◌++◌, length, refl, sym, ap, ◌∙◌, append_assoc, arith, le-leb}
use Rattle.std.specs.Prelude.{nat_le, if◌then◌else◌}
use mathlib.Core.List.{IsPrefix}
use Rattle.std.proofs.lemmas.Bool.{lt-leb, cases_order}
use Rattle.std.proofs.lemmas.List.{length-append, append_cancel_left}
use Rattle.spec_zmtp.specs.declared.command.Command as command
use Rattle.spec_zmtp.specs.Put.{Put, encode_said, encode_put, encode_puts, message_in, messages_in, says}
use Rattle.spec_link.specs.Rows.{whole_in}
use Rattle.spec_link.proofs.PutLemmas.{AreClear, clear_some, clear_apart}

if_true : (b : Bool) (n m : ℕ) → b ≡ true → (if b then n else m) ≡ n
if_true true n m e = refl
if_true false n m e = absurd cc

if_false : (b : Bool) (n m : ℕ) → b ≡ false → (if b then n else m) ≡ m
if_false true n m e = absurd cc
if_false false n m e = refl

if_same : (b : Bool) (n : ℕ) → (if b then n else n) ≡ n
if_same true n = refl
if_same false n = refl

-- of two lists with a common whole, the shorter is a front of the other
pub split_front : (xs ys us bs : List ℕ) → xs ++ us ≡ ys ++ bs → length xs ≤ length ys → (zs : List ℕ) × (ys ≡ xs ++ zs)
split_front [] ys us bs e le = (ys, refl)
split_front (x ∷ xs) [] us bs e le = absurd (omega (arith, le))
split_front (x ∷ xs) (y ∷ ys) us bs e le =
    let heads : x ≡ y = cc in
    let tails : xs ++ us ≡ ys ++ bs = cc in
    let more = split_front xs ys us bs tails (omega (arith, le)) in
    (more.0, cc)

-- ---- one put

-- what fits is counted, what doesn't isn't
fits : (p : Put) (puts : List Put) (room : ℕ) → length (encode_put p) ≤ room → whole_in room (p ∷ puts) ≡ length (message_in p) + whole_in (room - length (encode_put p)) puts
fits p puts room le = ap (λ (n : ℕ). n + whole_in (room - length (encode_put p)) puts) (if_true (nat_le (length (encode_put p)) room) (length (message_in p)) 0 (le-leb (length (encode_put p)) room le))

pub short : (p : Put) (puts : List Put) (room : ℕ) → room < length (encode_put p) → whole_in room (p ∷ puts) ≡ whole_in (room - length (encode_put p)) puts
short p puts room lt =
    let e : whole_in room (p ∷ puts) ≡ 0 + whole_in (room - length (encode_put p)) puts = ap (λ (n : ℕ). n + whole_in (room - length (encode_put p)) puts) (if_false (nat_le (length (encode_put p)) room) (length (message_in p)) 0 (lt-leb (length (encode_put p)) room lt)) in
    omega (arith, e)

-- in no room nothing is whole
pub none : (puts : List Put) → AreClear puts → (room : ℕ) → room ≡ 0 → whole_in room puts ≡ 0
none [] k room e = refl
none (p ∷ puts) k room e =
    let some = clear_some p k.0 in
    short p puts room (omega (arith, e, some)) ∙ none puts k.1 (room - length (encode_put p)) (omega (arith, e))

past : (p : Put) (puts : List Put) → AreClear puts → (room : ℕ) → room < length (encode_put p) → whole_in room (p ∷ puts) ≡ 0
past p puts k room lt = short p puts room lt ∙ none puts k (room - length (encode_put p)) (omega (arith, lt))

-- puts that all fit
pub whole_before : (ps qs : List Put) (room : ℕ) → length (encode_puts ps) ≤ room → whole_in room (ps ++ qs) ≡ length (messages_in ps) + whole_in (room - length (encode_puts ps)) qs
whole_before [] qs room le =
    let n : room - 0 ≡ room = omega arith in
    let same : whole_in (room - 0) qs ≡ whole_in room qs = ap (λ (k : ℕ). whole_in k qs) n in
    omega (arith, same)
whole_before (p ∷ ps) qs room le =
    let c = length-append (encode_put p) (encode_puts ps) in
    let one = fits p (ps ++ qs) room (omega (arith, le, c)) in
    let left : (room - length (encode_put p)) - length (encode_puts ps) ≡ room - length (encode_puts (p ∷ ps)) = omega (arith, c) in
    let rest = whole_before ps qs (room - length (encode_put p)) (omega (arith, le, c)) ∙ ap (λ (k : ℕ). length (messages_in ps) + whole_in k qs) left in
    let t = length-append (message_in p) (messages_in ps) in
    omega (arith, one, rest, t)

-- commands before them aren't counted
pub whole_behind : (cs : List command.Command) (later : List Put) (room : ℕ) → whole_in room (says cs ++ later) ≡ whole_in (room - length (encode_puts (says cs))) later
whole_behind [] later room = (let n : room ≡ room - 0 = omega arith in ap (λ (k : ℕ). whole_in k later) n)
whole_behind (c ∷ cs) later room =
    let n = length-append (encode_said c) (encode_puts (says cs)) in
    let left : (room - length (encode_said c)) - length (encode_puts (says cs)) ≡ room - length (encode_puts (says (c ∷ cs))) = omega (arith, n) in
    let none : whole_in room (says (c ∷ cs) ++ later) ≡ 0 + whole_in (room - length (encode_said c)) (says cs ++ later) =
    ap (λ (k : ℕ). k + whole_in (room - length (encode_said c)) (says cs ++ later)) (if_same (nat_le (length (encode_said c)) room) 0) in
    let rest = whole_behind cs later (room - length (encode_said c)) ∙ ap (λ (k : ℕ). whole_in k later) left in
    omega (arith, none, rest)

-- ---- two lists of puts

-- where the first put of one list is whole in the octets, it is the first of the other
first_is : (p q : Put) (ps qs : List Put) (said : List ℕ) → AreClear (p ∷ ps) → AreClear (q ∷ qs) → IsPrefix said (encode_puts (p ∷ ps)) → IsPrefix said (encode_puts (q ∷ qs)) → length (encode_put p) ≤ length said → p ≡ q
first_is p q ps qs said k l (z, a) (w, b) le =
    let cut = split_front (encode_put p) said (encode_puts ps) z (sym a) le in
    clear_apart p q (cut.0 ++ w) (encode_puts qs) k.0 l.0 (sym (append_assoc (encode_put p) cut.0 w) ∙ ap (λ (l : List ℕ). l ++ w) (sym cut.1) ∙ b)

-- what is behind the first octets
pub behind_first : (first xs said : List ℕ) → IsPrefix said (first ++ xs) → (s : List ℕ) → said ≡ first ++ s → IsPrefix s xs
behind_first first xs said (z, a) s e =
    (z, append_cancel_left first (s ++ z) xs (sym (append_assoc first s z) ∙ ap (λ (l : List ℕ). l ++ z) (sym e) ∙ a))

nothing_in : (said : List ℕ) → IsPrefix said [] → length said ≡ 0
nothing_in said (z, a) = (let e = sym (length-append said z) ∙ ap (λ (l : List ℕ). length l) a in omega (arith, e))

-- where no put is whole
none_whole : (p : Put) (ps qs : List Put) (said : List ℕ) → AreClear (p ∷ ps) → AreClear qs → IsPrefix said (encode_puts (p ∷ ps)) → IsPrefix said (encode_puts qs) → length said < length (encode_put p) → whole_in (length said) qs ≡ 0
none_whole p ps [] said k l a b lt = refl
none_whole p ps (q ∷ qs) said k l a b lt =
    elim (cases_order (length said) (length (encode_put q))) [
      | inl same ↦ absurd (too_long (omega (arith, same)))
      | inr (inl below) ↦ past q qs l.1 (length said) below
      | inr (inr above) ↦ absurd (too_long (omega (arith, above)))
    ]
  where
    too_long : length (encode_put q) ≤ length said → ⊥
    too_long le =
        let one = ap (λ (x : Put). length (encode_put x)) (first_is q p qs ps said l k b a le) in
        omega (arith, one, le, lt)

-- two lists of puts whose octets go on from the same octets have as many whole messages in them
pub same_whole : (ps qs : List Put) (said : List ℕ) → AreClear ps → AreClear qs → IsPrefix said (encode_puts ps) → IsPrefix said (encode_puts qs) → whole_in (length said) ps ≡ whole_in (length said) qs
same_whole [] qs said k l a b = sym (none qs l (length said) (nothing_in said a))
same_whole (p ∷ ps) [] said k l a b = none (p ∷ ps) k (length said) (nothing_in said b)
same_whole (p ∷ ps) (q ∷ qs) said k l a b =
    elim (cases_order (length said) (length (encode_put p))) [
      | inl same ↦ whole (λ s x y. same_whole ps qs s k.1 l.1 x y) (omega (arith, same))
      | inr (inl below) ↦ past p ps k.1 (length said) below ∙ sym (none_whole p ps (q ∷ qs) said k l a b below)
      | inr (inr above) ↦ whole (λ s x y. same_whole ps qs s k.1 l.1 x y) (omega (arith, above))
    ]
  where
    whole : ((s : List ℕ) → IsPrefix s (encode_puts ps) → IsPrefix s (encode_puts qs) → whole_in (length s) ps ≡ whole_in (length s) qs) → length (encode_put p) ≤ length said → whole_in (length said) (p ∷ ps) ≡ whole_in (length said) (q ∷ qs)
    whole more le =
        let cut = split_front (encode_put p) said (encode_puts ps) a.0 (sym a.1) le in
        let one = first_is p q ps qs said k l a b le in
        let length_is = ap (λ (l : List ℕ). length l) cut.1 ∙ length-append (encode_put p) cut.0 in
        let left : length said - length (encode_put p) ≡ length cut.0 = omega (arith, length_is) in
        let other : said ≡ encode_put q ++ cut.0 = cut.1 ∙ ap (λ (x : Put). encode_put x ++ cut.0) one in
        let goes = more cut.0 (behind_first (encode_put p) (encode_puts ps) said a cut.0 cut.1) (behind_first (encode_put q) (encode_puts qs) said b cut.0 other) in
        let mine : whole_in (length said) (p ∷ ps) ≡ length (message_in p) + whole_in (length cut.0) ps = fits p ps (length said) le ∙ ap (λ (n : ℕ). length (message_in p) + whole_in n ps) left in
        let swap : whole_in (length said) (p ∷ qs) ≡ whole_in (length said) (q ∷ qs) = ap (λ (x : Put). whole_in (length said) (x ∷ qs)) one in
        let theirs : whole_in (length said) (p ∷ qs) ≡ length (message_in p) + whole_in (length cut.0) qs = fits p qs (length said) le ∙ ap (λ (n : ℕ). length (message_in p) + whole_in n qs) left in
        mine ∙ ap (λ (n : ℕ). length (message_in p) + n) goes ∙ sym theirs ∙ swap

-- puts whose octets go on where those of others end, go on from them
pub goes_on : (ps qs : List Put) (rest : List ℕ) → AreClear ps → AreClear qs → encode_puts ps ++ rest ≡ encode_puts qs → (more : List Put) × (qs ≡ ps ++ more) × (rest ≡ encode_puts more)
goes_on [] qs rest k l e = (qs, refl, e)
goes_on (p ∷ ps) [] rest k l e =
    let some = clear_some p k.0 in
    let n = sym (length-append (encode_puts (p ∷ ps)) rest) ∙ ap (λ (l : List ℕ). length l) e in
    let c = length-append (encode_put p) (encode_puts ps) in
    absurd (omega (arith, some, n, c))
goes_on (p ∷ ps) (q ∷ qs) rest k l e =
    let moved : encode_put p ++ (encode_puts ps ++ rest) ≡ encode_put q ++ encode_puts qs = sym (append_assoc (encode_put p) (encode_puts ps) rest) ∙ e in
    let one = clear_apart p q (encode_puts ps ++ rest) (encode_puts qs) k.0 l.0 moved in
    let there : encode_put p ++ (encode_puts ps ++ rest) ≡ encode_put p ++ encode_puts qs = moved ∙ ap (λ (x : Put). encode_put x ++ encode_puts qs) (sym one) in
    let more = goes_on ps qs rest k.1 l.1 (append_cancel_left (encode_put p) (encode_puts ps ++ rest) (encode_puts qs) there) in
    (more.0, ap (λ (x : Put). x ∷ qs) (sym one) ∙ ap (λ (l : List Put). p ∷ l) more.1, more.2)
