-- One step after what was heard, and whole feeds.
use Rattle.std.proofs.Common.{◌≡◌, ℕ, ◌+◌, ◌-◌, true, false, List, ◌++◌, length, take, drop, Option, Some, None, refl, sym, ap, subst, ◌∙◌, append_assoc, arith}
use Rattle.std.specs.Option.{is_some}
use Rattle.std.specs.Prelude.{IsSome}
use Rattle.std.proofs.lemmas.List.{take-append-drop, take-take, drop-take, take_rest}
use Rattle.zq_base.specs.declared.options.EngineOpts.{EngineOpts}
use Rattle.spec_zmtp.specs.declared.cause.Refusal.{Refusal}
use Rattle.spec_zmtp.specs.DecodedStream.{stream_of}
use Rattle.spec_zmtp.proofs.StreamLemmas.{breaks_more}
use Rattle.zmtp_frame.specs.Reading.{Stage, InHead, InBody, SawBadFlags, SawTooLong, left_at}
use Rattle.zmtp_engine.specs.Hearing.{Hearing, Listens, Stopped, Hears, HearsAt, IsBegun}

pub hears_open : (opts : EngineOpts) (octets : List ℕ) (given : List (List (List ℕ))) (h : Hearing) → h.refused ≡ None → Hears opts octets given h → Listens opts octets given h
hears_open opts octets given h none k = subst (λ (r : Option Refusal). HearsAt opts octets given h r) none k

-- what comes behind a refusal changes nothing
pub hears_more : (opts : EngineOpts) (octets more : List ℕ) (given : List (List (List ℕ))) (h : Hearing) (r : Refusal) → h.refused ≡ Some r → Hears opts octets given h → Hears opts (octets ++ more) given h
hears_more opts octets more given h r some k =
    let s : Stopped opts octets given h r = subst (λ (x : Option Refusal). HearsAt opts octets given h x) some k in
    subst (λ (x : Option Refusal). HearsAt opts (octets ++ more) given h x) (sym some) (record {
      frames = s.frames;
      rest = s.rest ++ more;
      items = s.items;
      all = ap (λ (l : List ℕ). l ++ more) s.all ∙ append_assoc (stream_of s.frames) s.rest more;
      keep = s.keep;
      breaks = breaks_more opts s.frames s.rest more r.cause s.items s.breaks;
      shaken = s.shaken;
      whole = s.whole;
      offset = s.offset;
    })

pub not_refused : (o : Option Refusal) → is_some o ≡ false → o ≡ None
not_refused None e = refl
not_refused (Some r) e = absurd cc

pub was_refused : (o : Option Refusal) → is_some o ≡ true → (r : Refusal) × (o ≡ Some r)
was_refused None e = absurd cc
was_refused (Some r) e = (r, refl)

pub take_add : (n k : ℕ) (xs : List ℕ) → take (n + k) xs ≡ take n xs ++ take k (drop n xs)
take_add n k xs = sym (take-append-drop n (take (n + k) xs)) ∙ rw (take-take n (n + k) xs (omega arith), drop-take n k xs) refl

-- one step after what was heard
pub then_hears : (opts : EngineOpts) (octets piece : List ℕ) (n k : ℕ) (given : List (List (List ℕ))) (old new : Hearing) → old.refused ≡ None → Hears opts (octets ++ take n piece) given old
    → (Listens opts (octets ++ take n piece) given old → Hears opts ((octets ++ take n piece) ++ take k (take (length piece - n) (drop n piece))) given new) → Hears opts (octets ++ take (n + k) piece) given new
then_hears opts octets piece n k given old new none h step =
    let step' = subst (λ (l : List ℕ). Listens opts (octets ++ take n piece) given old → Hears opts ((octets ++ take n piece) ++ take k l) given new) (take_rest piece n) step in
    subst (λ (l : List ℕ). Hears opts l given new) (append_assoc octets (take n piece) (take k (drop n piece)) ∙ ap (λ (l : List ℕ). octets ++ l) (sym (take_add n k piece))) (step' (hears_open opts (octets ++ take n piece) given old none h))

-- a refusal settles the whole piece
pub settles : (opts : EngineOpts) (octets piece : List ℕ) (n : ℕ) (given : List (List (List ℕ))) (h : Hearing) → is_some h.refused ≡ true → Hears opts (octets ++ take n piece) given h → Hears opts (octets ++ piece) given h
settles opts octets piece n given h some k =
    let r = was_refused h.refused some in
    subst (λ (l : List ℕ). Hears opts l given h) (append_assoc octets (take n piece) (drop n piece) ∙ ap (λ (l : List ℕ). octets ++ l) (take-append-drop n piece)) (hears_more opts (octets ++ take n piece) (drop n piece) given h r.0 r.1 k)

-- a reader that tells of no body is in a head
head_at : (s : Stage) (opts : EngineOpts) (octets : List ℕ) (given : List (List (List ℕ))) (h : Hearing) → h.reader ≡ s → Listens opts octets given h → left_at s ≡ None → (begun : List ℕ) × (s ≡ InHead begun)
head_at (InHead begun) opts octets given h e l none = (begun, refl)
head_at (InBody left) opts octets given h e l none = absurd cc
head_at (SawBadFlags flags) opts octets given h e l none =
    absurd (let b = l.begins in subst (λ (s : Stage). IsBegun opts l.frames l.rest s h.kind h.body) e b)
head_at (SawTooLong size) opts octets given h e l none =
    absurd (let b = l.begins in subst (λ (s : Stage). IsBegun opts l.frames l.rest s h.kind h.body) e b)

pub in_head_now : (opts : EngineOpts) (octets : List ℕ) (given : List (List (List ℕ))) (h : Hearing) → Listens opts octets given h → left_at h.reader ≡ None → (begun : List ℕ) × (h.reader ≡ InHead begun)
in_head_now opts octets given h l none = head_at h.reader opts octets given h refl l none

pub some_refused : (o : Option Refusal) → IsSome o → (r : Refusal) × (o ≡ Some r)
some_refused None some = absurd cc
some_refused (Some r) some = (r, refl)
