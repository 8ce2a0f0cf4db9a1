-- How much of a message can be unfinished.
use Rattle.std.proofs.Common.{ltb, inl, inr, ◌≡◌, ℕ, ◌+◌, ◌*◌, ◌<◌, ◌≤◌, Bool, true, false, cond, List, [], ◌∷◌, ◌++◌, length, Option, Some, None, sym, ap, subst, ◌∙◌, append_assoc, arith}
use Rattle.std.specs.Prelude.{MatchOption}
use Rattle.std.proofs.lemmas.Bool.{eq-eqb, cases_lt, lt-ltb, le-ltb}
use Rattle.std.proofs.lemmas.List.{length-append, append-nil}
use Rattle.zq_base.specs.declared.options.EngineOpts.{EngineOpts}
use Rattle.spec_zmtp.specs.declared.cause.Cause.{Cause}
use Rattle.spec_zmtp.specs.declared.cause.Cause.TheVariants.{TooManyParts}
use Rattle.spec_zmtp.specs.declared.flags.FrameKind.{FrameKind}
use Rattle.spec_zmtp.specs.declared.flags.FrameKind.TheVariants.{Last, More, Command}
use Rattle.spec_zmtp.specs.declared.flags.Flags.{Flags}
use Rattle.spec_zmtp.specs.FrameFlags.{flags_octet, flags_at, limit}
use Rattle.spec_zmtp.specs.FrameEncoding.{WireFrame, FitsSize, IsWireFrame, IsCutHead, head_octets, size_length, octets_of}
use Rattle.spec_zmtp.specs.FrameRules.{Gathered, gathered, gather_at, count_refusal, first_cause, kind_refusal, flags_refusal, octet_refusal, AllKeep, IsCutFrame, at_flags, in_head, in_body}
use Rattle.spec_zmtp.specs.DecodedStream.{stream_of}
use Rattle.spec_zmtp.proofs.FlagLemmas.{flags_at-flags_octet}
use Rattle.spec_zmtp.proofs.FrameLemmas.{length-size_octets}
use Rattle.spec_zmtp.proofs.RuleLemmas.{stream_of-push, gathered-push}

-- at most 1,023 frames of a message are unfinished, and each has at most so many octets
pub record IsSmall (g : Gathered) : Type 0 where
  pub few : length g.unfinished ≤ 1023
  pub octets : length (stream_of g.unfinished) ≤ 16777225 * length g.unfinished

-- the rule of a frame's kind is kept
pub kind_kept : (opts : EngineOpts) (before : List WireFrame) (kind : FrameKind) (long : Bool) → octet_refusal opts before (flags_octet kind long) ≡ None → kind_refusal opts before kind ≡ None
kind_kept opts before kind long e = sym (ap (λ (f : Option Flags). flags_refusal opts before f) (flags_at-flags_octet kind long)) ∙ e

second_none : (first second : Option Cause) → first_cause first second ≡ None → second ≡ None
second_none None second e = e
second_none (Some cause) second e = absurd cc

not_full : (b : Bool) → cond b (Some TooManyParts) None ≡ None → b ≡ true → ⊥
not_full true e t = absurd cc
not_full false e t = absurd cc

-- a message frame is no 1,024th
pub not_last_place : (opts : EngineOpts) (before : List WireFrame) → (first : Option Cause) → first_cause first (count_refusal (gathered before).unfinished) ≡ None → length (gathered before).unfinished ≡ 1023 → ⊥
not_last_place opts before first e full = not_full _ (second_none first (count_refusal (gathered before).unfinished) e) (eq-eqb (length (gathered before).unfinished) 1023 full)

most_size : (long : Bool) → size_length long ≤ 8
most_size true = omega arith
most_size false = omega arith

pub most_limit : (kind : FrameKind) → limit kind ≤ 16777216
most_limit Last = omega arith
most_limit More = omega arith
most_limit Command = omega arith

pub length-head : (kind : FrameKind) (long : Bool) (size : ℕ) → length (head_octets kind long size) ≤ 9
length-head kind long size = omega (arith, length-size_octets long size, most_size long)

pub length-octets_of : (f : WireFrame) → IsWireFrame f → length (octets_of f) ≤ 16777225
length-octets_of f w = omega (arith, length-append (head_octets f.kind f.long (length f.body)) f.body, length-head f.kind f.long (length f.body), w.within, most_limit f.kind)

small_at : (opts : EngineOpts) (before : List WireFrame) (k : FrameKind) (f : WireFrame) → IsWireFrame f → kind_refusal opts before k ≡ None → IsSmall (gathered before) → IsSmall (gather_at k f (gathered before))
small_at opts before Last f w e s = record { few = omega arith; octets = omega arith }
small_at opts before More f w e s =
    let room = not_last_place opts before _ e in
    let n : ℕ = length (gathered before).unfinished in
    let more : length ((gathered before).unfinished ++ f ∷ []) ≡ n + 1 = length-append (gathered before).unfinished (f ∷ []) in
    let octets : length (stream_of ((gathered before).unfinished ++ f ∷ [])) ≡ length (stream_of (gathered before).unfinished) + length (octets_of f) =
    ap (λ (l : List ℕ). length l) (stream_of-push (gathered before).unfinished f) ∙ length-append (stream_of (gathered before).unfinished) (octets_of f) in
    record { few = omega (arith, more, s.few, room); octets = omega (arith, octets, more, s.octets, length-octets_of f w) }
small_at opts before Command f w e s = s

pub all_small : (opts : EngineOpts) (before fs : List WireFrame) → AllKeep opts before fs → IsSmall (gathered before) → IsSmall (gathered (before ++ fs))
all_small opts before [] k s = subst (λ (l : List WireFrame). IsSmall (gathered l)) (sym (append-nil before)) s
all_small opts before (f ∷ fs) k s =
    let one : IsSmall (gathered (before ++ f ∷ [])) = subst (λ (g : Gathered). IsSmall g) (sym (gathered-push before f)) (small_at opts before f.kind f k.0.frame (kind_kept opts before f.kind f.long k.0.in_place) s) in
    subst (λ (l : List WireFrame). IsSmall (gathered l)) (append_assoc before (f ∷ []) fs) (all_small opts (before ++ f ∷ []) fs k.1 one)

-- what frames that keep the rules leave unfinished is small
pub unfinished_small : (opts : EngineOpts) (fs : List WireFrame) → AllKeep opts [] fs → IsSmall (gathered fs)
unfinished_small opts fs k = all_small opts [] fs k (record { few = omega arith; octets = omega arith })

few_octets : (o : Option Flags) (n : ℕ) → MatchOption o ⊥ (λ f. n < size_length f.long) → n < 9
few_octets None n h = absurd h
few_octets (Some f) n h = omega (arith, h, most_size f.long)

head_rest : (flags : ℕ) (size : List ℕ) → IsCutHead (flags ∷ size) → length size < 9
head_rest flags size cut = few_octets (flags_at flags) (length size) cut

-- a frame that is cut is small
pub cut_small : (opts : EngineOpts) (before : List WireFrame) (rest : List ℕ) → IsCutFrame opts before rest → length rest ≤ 16777225
cut_small opts before rest (at_flags e) = omega (arith, ap (λ (l : List ℕ). length l) e)
cut_small opts before rest (in_head flags size shape cut none) = omega (arith, ap (λ (l : List ℕ). length l) shape, head_rest flags size (subst (λ (l : List ℕ). IsCutHead l) shape cut))
cut_small opts before rest (in_body kind long size body shape short fits le none) =
    omega (arith, ap (λ (l : List ℕ). length l) shape, length-append (head_octets kind long size) body, length-head kind long size, short, le, most_limit kind)

-- a size that is written can be told
pub fits_size : (n : ℕ) → n ≤ 16777216 → FitsSize (ltb 255 n) n
fits_size n le =
    elim (cases_lt 255 n) [
      | inl lt ↦ subst (λ (b : Bool). FitsSize b n) (sym (lt-ltb 255 n lt)) (omega arith)
      | inr ge ↦ subst (λ (b : Bool). FitsSize b n) (sym (le-ltb 255 n ge)) (omega arith)
    ]
