-- A greeting, and what follows it.
use Rattle.std.proofs.Common.{◌≡◌, ℕ, zero, suc, ◌+◌, ◌<◌, ◌≤◌, List, [], ◌∷◌, ◌++◌, length, take, drop, Option, Some, None, refl, sym, ap, subst, inl, inr, ◌∙◌, append_assoc, arith}
use Rattle.std.specs.Prelude.{◌⊎◌, IsSome}
use Rattle.std.proofs.lemmas.Bool.{cases_lt}
use Rattle.std.proofs.lemmas.List.{append-nil, length-append, length-take-le, take-append-drop, take-take, take_at}
use Rattle.zq_base.specs.declared.options.EngineOpts.{EngineOpts}
use Rattle.zq_base.specs.declared.options.Role.{Role}
use Rattle.spec_zmtp.specs.declared.cause.Refusal.{Refusal}
use Rattle.spec_zmtp.specs.declared.greeting.Judgement.TheVariants.{Good}
use Rattle.spec_zmtp.specs.Greeting.{greeting_refusal, judged}
use Rattle.spec_zmtp.specs.DecodedStream.{Decoded, Decodes, Unfinished, at_greeting, greeting_unfinished}
use Rattle.spec_zmtp.proofs.JudgementLemmas.{short_judged, long_judged}
use Rattle.zmtp_engine.specs.Hearing.{Hearing, Hears, Grows}
use Rattle.zmtp_engine.proofs.Commands.{same_grows}
use Rattle.zmtp_engine.specs.Listening.{Listening, Greeted, Faulted, ListensTo, ListensAt, Greets}

regroup : (g more piece : List ℕ) (k : ℕ) → (more ≡ []) ⊎ (k ≡ 0) → (g ++ more) ++ piece ≡ (g ++ take k piece) ++ (more ++ drop k piece)
regroup g more piece k (inl e) = rw (e, append-nil, append_assoc, take-append-drop) refl
regroup g more piece k (inr e) = rw (e, append-nil, append_assoc) refl

either : (opts : EngineOpts) (octets piece : List ℕ) (given : List (List (List ℕ))) (old new : Listening) (n : ℕ) (h : Greeted opts octets given old) → Greets old new piece n → (h.more ≡ []) ⊎ (n ≡ 0)
either opts octets piece given old new n h g = elim (cases_lt (length old.greeting) 64) [ inl lt ↦ inl (h.short lt) | inr le ↦ inr (omega (arith, g.few)) ]

pub long_greeting : (old new : Listening) (piece : List ℕ) (n : ℕ) → Greets old new piece n → length new.greeting ≡ length old.greeting + n
long_greeting old new piece n g = omega (arith, ap (λ (l : List ℕ). length l) g.filled, length-append old.greeting (take n piece), length-take-le n piece g.within)

pub open_listening : (opts : EngineOpts) (octets : List ℕ) (given : List (List (List ℕ))) (l : Listening) → l.fault ≡ None → ListensTo opts octets given l → Greeted opts octets given l
open_listening opts octets given l none h = subst (λ (r : Option Refusal). ListensAt opts octets given l r) none h

pub faulted_more : (opts : EngineOpts) (octets more : List ℕ) (given : List (List (List ℕ))) (l : Listening) (f : Refusal) → l.fault ≡ Some f → ListensTo opts octets given l → ListensTo opts (octets ++ more) given l
faulted_more opts octets more given l f some h =
    let s : Faulted opts octets given l f = subst (λ (r : Option Refusal). ListensAt opts octets given l r) some h in
    subst (λ (r : Option Refusal). ListensAt opts (octets ++ more) given l r) (sym some)
    (record { front = s.front; rest = s.rest ++ more; all = ap (λ (x : List ℕ). x ++ more) s.all ∙ append_assoc s.front s.rest more; bad = s.bad; hears = s.hears; role = s.role })

-- ---- a greeting that is refused

clash : {A : Type 0} (o : Option Refusal) (f : Refusal) → o ≡ None → o ≡ Some f → A
clash o f none some = let both : None ≡ Some f = sym none ∙ some in absurd cc

-- some octet was taken
pub some_taken : (old new : Listening) (piece : List ℕ) (n : ℕ) (f : Refusal) → Greets old new piece n → new.fault ≡ Some f → 0 < n
some_taken old new piece zero f g some = clash new.fault f (g.still refl) some
some_taken old new piece (suc n) f g some = omega arith

regrouped : (g more n_part tail : List ℕ) → more ≡ [] → (g ++ more) ++ (n_part ++ tail) ≡ (g ++ n_part) ++ tail
regrouped g more n_part tail e = rw (e, append-nil, append_assoc) refl

pub greeting_fails : (opts : EngineOpts) (octets piece part tail : List ℕ) (given : List (List (List ℕ))) (old new : Listening) (n : ℕ) (f : Refusal) → old.fault ≡ None → ListensTo opts octets given old → Greets old new piece n
    → part ≡ take n piece ++ tail → new.fault ≡ Some f → ListensTo opts (octets ++ part) given new
greeting_fails opts octets piece part tail given old new n f none h g split some =
    let k = open_listening opts octets given old none h in
    let taken : 0 < n = some_taken old new piece n f g some in
    let short : length old.greeting < 64 = omega (arith, g.few, taken) in
    let role : new.role ≡ opts.role = g.role ∙ k.role in
    subst (λ (r : Option Refusal). ListensAt opts (octets ++ part) given new r) (sym some) (record {
      front = new.greeting;
      rest = tail;
      all = ap (λ (l : List ℕ). l ++ part) k.all ∙ ap (λ (l : List ℕ). (old.greeting ++ k.more) ++ l) split ∙ regrouped old.greeting k.more (take n piece) tail (k.short short)
          ∙ ap (λ (l : List ℕ). l ++ tail) (sym g.filled);
      bad = ap (λ (r : Role). greeting_refusal r new.greeting) (sym role) ∙ sym (g.told taken) ∙ some;
      hears = subst (λ (e : Hearing). Hears opts [] given e) (sym g.hearing) (subst (λ (l : List ℕ). Hears opts l given old.hearing) (k.short short) k.hears);
      role = role;
    })

-- without the last octet the greeting is unfinished
pub greeting_before : (opts : EngineOpts) (octets piece front : List ℕ) (octet : ℕ) (given : List (List (List ℕ))) (old new : Listening) (n : ℕ) (f : Refusal) → old.fault ≡ None → ListensTo opts octets given old → Greets old new piece n
    → new.fault ≡ Some f → take n piece ≡ front ++ octet ∷ [] → (d : Decoded) × (m : ℕ) × Decodes opts (octets ++ front) d × (d.outcome ≡ Unfinished m)
greeting_before opts octets piece front octet given old new n f none h g some split =
    let k = open_listening opts octets given old none h in
    let taken : 0 < n = some_taken old new piece n f g some in
    let short : length old.greeting < 64 = omega (arith, g.few, taken) in
    let role : new.role ≡ opts.role = g.role ∙ k.role in
    let b = g.before (subst (λ (o : Option Refusal). IsSome o) (sym some) refl) in
    let long : length (take n piece) ≡ n = length-take-le n piece g.within in
    let count : length front ≡ b.0 = omega (arith, long, b.1, ap (λ (l : List ℕ). length l) split, length-append front (octet ∷ [])) in
    let first : front ≡ take b.0 piece =
    sym (take_at front (octet ∷ []) b.0 count) ∙ ap (λ (l : List ℕ). take b.0 l) (sym split) ∙ take-take b.0 n piece (omega (arith, b.1)) in
    let octets_is : octets ++ front ≡ old.greeting ++ take b.0 piece =
    ap (λ (l : List ℕ). l ++ front) (k.all ∙ ap (λ (m : List ℕ). old.greeting ++ m) (k.short short) ∙ append-nil old.greeting) ∙ ap (λ (l : List ℕ). old.greeting ++ l) first in
    let fine : greeting_refusal opts.role (old.greeting ++ take b.0 piece) ≡ None =
    elim (cases_lt 0 b.0) [
      | inl some ↦ ap (λ (r : Role). greeting_refusal r (old.greeting ++ take b.0 piece)) (sym role) ∙ b.2 some
      | inr none ↦
          let z : b.0 ≡ 0 = omega (arith, none) in
          ap (λ (m : ℕ). greeting_refusal opts.role (old.greeting ++ take m piece)) z ∙ ap (λ (l : List ℕ). greeting_refusal opts.role l) (append-nil old.greeting) ∙ k.fine
    ] in
    let brief : length (old.greeting ++ take b.0 piece) < 64 =
    omega (arith, length-append old.greeting (take b.0 piece), length-take-le b.0 piece (omega (arith, b.1, g.within)), b.1, g.few) in (
      at_greeting (Unfinished (length (octets ++ front))),
      length (octets ++ front),
      greeting_unfinished (ap (λ (l : List ℕ). judged opts.role l) octets_is ∙ short_judged opts.role (old.greeting ++ take b.0 piece) fine brief) refl,
      refl,
    )

-- ---- a greeting that goes on

fine_now : (opts : EngineOpts) (octets piece : List ℕ) (given : List (List (List ℕ))) (old new : Listening) (n : ℕ) → Greeted opts octets given old → Greets old new piece n → new.fault ≡ None → greeting_refusal new.role new.greeting ≡ None
fine_now opts octets piece given old new n k g open_ =
    elim (cases_lt 0 n) [
      | inl some ↦ sym (g.told some) ∙ open_
      | inr none ↦
          let z : n ≡ 0 = omega (arith, none) in
          let same : new.greeting ≡ old.greeting = g.filled ∙ ap (λ (m : ℕ). old.greeting ++ take m piece) z ∙ append-nil old.greeting in
          ap (λ (r : Role). greeting_refusal r new.greeting) (g.role ∙ k.role) ∙ ap (λ (l : List ℕ). greeting_refusal opts.role l) same ∙ k.fine
    ]

-- the greeting goes on, and what follows it is heard
goes_on : (opts : EngineOpts) (octets piece part : List ℕ) (given : List (List (List ℕ))) (old new mid : Listening) (n : ℕ) → (k : Greeted opts octets given old) → Greets old mid piece n
    → new.role ≡ mid.role → new.greeting ≡ mid.greeting → new.fault ≡ mid.fault → mid.fault ≡ None → (length mid.greeting < 64 → drop n part ≡ []) → take n part ≡ take n piece
    → Hears opts (k.more ++ drop n part) given new.hearing → ListensTo opts (octets ++ part) given new
goes_on opts octets piece part given old new mid n k g role' greeting' fault' open_ early front hears =
    let role : new.role ≡ opts.role = role' ∙ g.role ∙ k.role in
    let filled : new.greeting ≡ old.greeting ++ take n piece = greeting' ∙ g.filled in
    let long : length new.greeting ≡ length old.greeting + n = ap (λ (l : List ℕ). length l) greeting' ∙ long_greeting old mid piece n g in
    let fine : greeting_refusal opts.role new.greeting ≡ None =
    ap (λ (r : Role). greeting_refusal r new.greeting) (sym (g.role ∙ k.role)) ∙ ap (λ (l : List ℕ). greeting_refusal mid.role l) greeting' ∙ fine_now opts octets piece given old mid n k g open_ in
    subst (λ (r : Option Refusal). ListensAt opts (octets ++ part) given new r) (sym (fault' ∙ open_)) (record {
      more = k.more ++ drop n part;
      all = ap (λ (l : List ℕ). l ++ part) k.all ∙ regroup old.greeting k.more part n (either opts octets piece given old mid n k g) ∙ ap (λ (l : List ℕ). (old.greeting ++ l) ++ (k.more ++ drop n part)) front ∙ ap (λ (l : List ℕ). l ++ (k.more ++ drop n part)) (sym filled);
      fine = fine;
      fits = omega (arith, long, g.few);
      short = λ lt. ap (λ (l : List ℕ). l ++ drop n part) (k.short (omega (arith, long, lt))) ∙ early (omega (arith, lt, ap (λ (l : List ℕ). length l) greeting'));
      hears = hears;
      role = role;
    })

pub greeting_goes_on : (opts : EngineOpts) (octets piece part : List ℕ) (given : List (List (List ℕ))) (old new mid : Listening) (n : ℕ) → old.fault ≡ None → ListensTo opts octets given old → Greets old mid piece n
    → new.role ≡ mid.role → new.greeting ≡ mid.greeting → new.fault ≡ mid.fault → mid.fault ≡ None → (length mid.greeting < 64 → drop n part ≡ []) → take n part ≡ take n piece
    → ((more : List ℕ) → Hears opts more given old.hearing → Hears opts (more ++ drop n part) given new.hearing) → ListensTo opts (octets ++ part) given new
greeting_goes_on opts octets piece part given old new mid n none h g role' greeting' fault' open_ early front step =
    let k = open_listening opts octets given old none h in
    goes_on opts octets piece part given old new mid n k g role' greeting' fault' open_ early front (step k.more k.hears)

-- the same of a whole greeting, by what was heard of this very part
pub greeting_accepted : (opts : EngineOpts) (octets piece part : List ℕ) (given : List (List (List ℕ))) (old new mid : Listening) (n : ℕ) → (k : Greeted opts octets given old) → Greets old mid piece n
    → new.role ≡ mid.role → new.greeting ≡ mid.greeting → new.fault ≡ mid.fault → mid.fault ≡ None → 64 ≤ length mid.greeting → take n part ≡ take n piece
    → Hears opts (k.more ++ drop n part) given new.hearing → ListensTo opts (octets ++ part) given new
greeting_accepted opts octets piece part given old new mid n k g role' greeting' fault' open_ le front hears =
    goes_on opts octets piece part given old new mid n k g role' greeting' fault' open_ (λ lt. absurd (omega (arith, lt, le))) front hears

-- the greeting, and what follows it, in what was heard
pub all_behind : (opts : EngineOpts) (octets piece part : List ℕ) (given : List (List (List ℕ))) (old mid : Listening) (n : ℕ) → (k : Greeted opts octets given old) → Greets old mid piece n → take n part ≡ take n piece
    → octets ++ part ≡ mid.greeting ++ (k.more ++ drop n part)
all_behind opts octets piece part given old mid n k g front =
    ap (λ (l : List ℕ). l ++ part) k.all ∙ regroup old.greeting k.more part n (either opts octets piece given old mid n k g) ∙ ap (λ (l : List ℕ). (old.greeting ++ l) ++ (k.more ++ drop n part)) front ∙ ap (λ (l : List ℕ). l ++ (k.more ++ drop n part)) (sym g.filled)

-- a whole greeting that is not refused is accepted
pub good_now : (opts : EngineOpts) (octets piece : List ℕ) (given : List (List (List ℕ))) (old mid : Listening) (n : ℕ) → Greeted opts octets given old → Greets old mid piece n → mid.fault ≡ None → 64 ≤ length mid.greeting
    → (length mid.greeting ≡ 64) × (judged opts.role mid.greeting ≡ Good)
good_now opts octets piece given old mid n k g open_ le = (
  omega (arith, le, long_greeting old mid piece n g, g.few),
  long_judged opts.role mid.greeting (ap (λ (r : Role). greeting_refusal r mid.greeting) (sym (g.role ∙ k.role)) ∙ fine_now opts octets piece given old mid n k g open_) le,
)

-- what is heard behind an unchanged hearing
pub hearing_still : (old mid : Listening) (piece : List ℕ) (n : ℕ) → Greets old mid piece n → Grows old.hearing mid.hearing
hearing_still old mid piece n g = subst (λ (h : Hearing). Grows old.hearing h) (sym g.hearing) (same_grows old.hearing old.hearing refl refl)
