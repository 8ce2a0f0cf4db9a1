-- All octets have a meaning.
use Rattle.std.proofs.Common.{◌≡◌, ℕ, zero, suc, ◌^◌, ◌<◌, ◌≤◌, Bool, true, false, List, [], ◌∷◌, ◌++◌, length, get_or, take, drop, Option, Some, None, refl, sym, ap, subst, inl, inr, ◌∙◌, append_assoc, arith}
use Rattle.std.specs.Prelude.{◌⊎◌, MatchOption}
use Rattle.std.specs.Int.{w64, to_be_bytes, from_be_bytes}
use Rattle.std.proofs.lemmas.Bool.{cases_lt}
use Rattle.std.proofs.lemmas.List.{append-nil, nil_from_length, length-append, length-take-le, take-append-drop, get_or-take, get_or_past}
use Rattle.std.proofs.lemmas.Nat.{be_bytes_8}
use Rattle.zq_base.specs.declared.options.EngineOpts.{EngineOpts}
use Rattle.zq_base.specs.declared.options.Role.{Role}
use Rattle.spec_zmtp.specs.declared.cause.Cause.{Cause}
use Rattle.spec_zmtp.specs.declared.cause.Cause.TheVariants.{BadFlags, TooLong}
use Rattle.spec_zmtp.specs.declared.flags.FrameKind.{FrameKind}
use Rattle.spec_zmtp.specs.declared.flags.Flags.{Flags}
use Rattle.spec_zmtp.specs.declared.greeting.Judgement.{Judgement}
use Rattle.spec_zmtp.specs.declared.greeting.Judgement.TheVariants.{NeedMore, Good, BadSignature, OldVersion, OtherMechanism}
use Rattle.spec_zmtp.specs.FrameFlags.{flags_octet, flags_at, limit}
use Rattle.spec_zmtp.specs.FrameEncoding.{WireFrame, FitsSize, IsCutHead, head_octets, size_octets, size_length, octets_of}
use Rattle.spec_zmtp.specs.FrameRules.{flags_refusal, octet_refusal, item_refusal, item_at, Keeps, AllKeep, Breaks, by_flags, by_size, by_item, IsCutFrame, at_flags, in_head, in_body}
use Rattle.spec_zmtp.specs.Greeting.{judged, refusal_in}
use Rattle.spec_zmtp.specs.Handshake.{Item}
use Rattle.spec_zmtp.specs.Metadata.{IsOctets}
use Rattle.spec_zmtp.specs.DecodedStream.{Decoded, Decodes, Refused, Unfinished, IsStream, stream_of, at_greeting, behind_frames, unfinished_behind, refused_behind, greeting_unfinished, greeting_refused, unfinished, refused}
use Rattle.spec_zmtp.proofs.FlagLemmas.{octet_of_flags}
use Rattle.spec_zmtp.proofs.GreetingLemmas.{judged-append}
use Rattle.spec_zmtp.proofs.JudgementLemmas.{long_judged, short_judged}
use Rattle.spec_zmtp.proofs.MoreLemmas.{front_of}

-- ---- octets behind octets

octets_tail : (x : ℕ) (xs : List ℕ) → IsOctets (x ∷ xs) → IsOctets xs
octets_tail x xs o = λ i. o (suc i)

octets_behind : (xs ys : List ℕ) → IsOctets (xs ++ ys) → IsOctets ys
octets_behind [] ys o = o
octets_behind (x ∷ xs) ys o = octets_behind xs ys (octets_tail x (xs ++ ys) o)

-- ---- a size

-- a size at the front, and what follows it
record Sized (long : Bool) (xs : List ℕ) : Type 0 where
  size : ℕ
  rest : List ℕ
  fits : FitsSize long size
  all : xs ≡ size_octets long size ++ rest

sized : (long : Bool) (xs : List ℕ) → size_length long ≤ length xs → IsOctets xs → Sized long xs
sized false [] le o = absurd (omega arith)
sized false (x ∷ xs) le o = record { size = x; rest = xs; fits = o 0; all = refl }
sized true [] le o = absurd (omega arith)
sized true (o1 ∷ []) le o = absurd (omega arith)
sized true (o1 ∷ o2 ∷ []) le o = absurd (omega arith)
sized true (o1 ∷ o2 ∷ o3 ∷ []) le o = absurd (omega arith)
sized true (o1 ∷ o2 ∷ o3 ∷ o4 ∷ []) le o = absurd (omega arith)
sized true (o1 ∷ o2 ∷ o3 ∷ o4 ∷ o5 ∷ []) le o = absurd (omega arith)
sized true (o1 ∷ o2 ∷ o3 ∷ o4 ∷ o5 ∷ o6 ∷ []) le o = absurd (omega arith)
sized true (o1 ∷ o2 ∷ o3 ∷ o4 ∷ o5 ∷ o6 ∷ o7 ∷ []) le o = absurd (omega arith)
sized true (o1 ∷ o2 ∷ o3 ∷ o4 ∷ o5 ∷ o6 ∷ o7 ∷ o8 ∷ rest) le o =
    let size : List ℕ = o1 ∷ o2 ∷ o3 ∷ o4 ∷ o5 ∷ o6 ∷ o7 ∷ o8 ∷ [] in
    let all : (i : ℕ) → get_or size i 0 < 256 = λ i. elim (cases_lt i 8) [ inl lt ↦ rw (← get_or-take 8 (o1 ∷ o2 ∷ o3 ∷ o4 ∷ o5 ∷ o6 ∷ o7 ∷ o8 ∷ rest) i 0 lt) at (o i) | inr ge ↦ rw (get_or_past size i 0 ge) (omega arith) ] in
    let back : to_be_bytes w64 (from_be_bytes w64 size) ≡ size = be_bytes_8 size _ refl all refl in
    record {
      size = from_be_bytes w64 size;
      rest = rest;
      fits = omega (arith, all 0, all 1, all 2, all 3, all 4, all 5, all 6, all 7);
      all = ap (λ (l : List ℕ). l ++ rest) (sym back);
    }

-- ---- what stands behind frames

-- octets behind frames are cut, or break a rule, or begin with a frame that keeps them
data Stands (opts : EngineOpts) (before : List WireFrame) (octets : List ℕ) : Type 0 where
  is_cut : IsCutFrame opts before octets → Stands opts before octets
  breaks : (cause : Cause) (heard : List Item) → Breaks opts before octets cause heard → Stands opts before octets
  begins : (f : WireFrame) (more : List ℕ) → octets ≡ octets_of f ++ more → Keeps opts before f → Stands opts before octets

known_flags : (opts : EngineOpts) (before : List WireFrame) (o : Option Flags) → flags_refusal opts before o ≡ None → (f : Flags) × (o ≡ Some f)
known_flags opts before None e = let both : Some BadFlags ≡ None = e in absurd cc
known_flags opts before (Some f) e = (f, refl)

judged_item : (opts : EngineOpts) (before : List WireFrame) (octets rest : List ℕ) (f : WireFrame) (o : Option Cause) → item_refusal opts before (item_at f.kind f.body) ≡ o → octets ≡ octets_of f ++ rest
    → FitsSize f.long (length f.body) → length f.body ≤ limit f.kind → octet_refusal opts before (flags_octet f.kind f.long) ≡ None → Stands opts before octets
judged_item opts before octets rest f None e split fits le flags = begins f rest split (record { frame = record { fits = fits; within = le }; in_place = flags; heard = e })
judged_item opts before octets rest f (Some cause) e split fits le flags =
    breaks cause (item_at f.kind f.body ∷ []) (by_item f rest split (record { fits = fits; within = le }) flags e refl)

behind_head : (opts : EngineOpts) (before : List WireFrame) (octets : List ℕ) (kind : FrameKind) (long : Bool) (size : ℕ) (rest : List ℕ) → octets ≡ head_octets kind long size ++ rest
    → FitsSize long size → octet_refusal opts before (flags_octet kind long) ≡ None → Stands opts before octets
behind_head opts before octets kind long size rest split fits flags =
    elim (cases_lt (limit kind) size) [
      | inl over ↦ breaks TooLong [] (by_size kind long size rest split flags fits over refl refl)
      | inr le ↦
          elim (cases_lt (length rest) size) [
            | inl short ↦ is_cut (in_body kind long size rest split short fits le flags)
            | inr whole ↦
                let body : List ℕ = take size rest in
                let n : length body ≡ size = length-take-le size rest whole in
                let f : WireFrame = record { kind = kind; long = long; body = body } in
                judged_item opts before octets (drop size rest) f (item_refusal opts before (item_at kind body)) refl
                (split ∙ ap (λ (l : List ℕ). head_octets kind long size ++ l) (sym (take-append-drop size rest)) ∙ sym (append_assoc (head_octets kind long size) body (drop size rest))
                ∙ ap (λ (k : ℕ). (head_octets kind long k ++ body) ++ drop size rest) (sym n))
                (subst (λ (k : ℕ). FitsSize long k) (sym n) fits) (omega (arith, n, le)) flags
          ]
    ]

behind_flags : (opts : EngineOpts) (before : List WireFrame) (x : ℕ) (xs : List ℕ) (o : Option Cause) → octet_refusal opts before x ≡ o → IsOctets xs → Stands opts before (x ∷ xs)
behind_flags opts before x xs (Some cause) e octets = breaks cause [] (by_flags x xs refl e refl)
behind_flags opts before x xs None e octets =
    let f = known_flags opts before (flags_at x) e in
    let is : x ≡ flags_octet f.0.kind f.0.long = octet_of_flags x f.0 f.1 in
    elim (cases_lt (length xs) (size_length f.0.long)) [
      | inl short ↦ is_cut (in_head x xs refl (subst (λ (o : Option Flags). MatchOption o ⊥ (λ f. length xs < size_length f.long)) (sym f.1) short) e)
      | inr enough ↦
          let s = sized f.0.long xs enough octets in
          behind_head opts before (x ∷ xs) f.0.kind f.0.long s.size s.rest
          (ap (λ (o : ℕ). o ∷ xs) is ∙ ap (λ (l : List ℕ). flags_octet f.0.kind f.0.long ∷ l) s.all) s.fits
          (ap (λ (o : ℕ). octet_refusal opts before o) (sym is) ∙ e)
    ]

stands : (opts : EngineOpts) (before : List WireFrame) (octets : List ℕ) → IsOctets octets → Stands opts before octets
stands opts before [] o = is_cut (at_flags refl)
stands opts before (x ∷ xs) o = behind_flags opts before x xs (octet_refusal opts before x) refl (octets_tail x xs o)

-- ---- all frames

-- frames that keep the rules, and behind them octets that are cut or break one
record Cut (opts : EngineOpts) (before : List WireFrame) (octets : List ℕ) : Type 0 where
  frames : List WireFrame
  rest : List ℕ
  all : octets ≡ stream_of frames ++ rest
  keep : AllKeep opts before frames
  ends : IsCutFrame opts (before ++ frames) rest ⊎ ((cause : Cause) × (heard : List Item) × Breaks opts (before ++ frames) rest cause heard)

nothing_more : (opts : EngineOpts) (before : List WireFrame) (octets : List ℕ)
    → IsCutFrame opts before octets ⊎ ((cause : Cause) × (heard : List Item) × Breaks opts before octets cause heard) → Cut opts before octets
nothing_more opts before octets e = record {
  frames = [];
  rest = octets;
  all = refl;
  keep = tt;
  ends = subst (λ (l : List WireFrame). IsCutFrame opts l octets ⊎ ((cause : Cause) × (heard : List Item) × Breaks opts l octets cause heard)) (sym (append-nil before)) e;
}

one_more : (opts : EngineOpts) (before : List WireFrame) (octets : List ℕ) (f : WireFrame) (more : List ℕ) → octets ≡ octets_of f ++ more → Keeps opts before f → Cut opts (before ++ f ∷ []) more → Cut opts before octets
one_more opts before octets f more split keeps c = record {
  frames = f ∷ c.frames;
  rest = c.rest;
  all = split ∙ ap (λ (l : List ℕ). octets_of f ++ l) c.all ∙ sym (front_of f c.frames c.rest);
  keep = (keeps, c.keep);
  ends = subst (λ (l : List WireFrame). IsCutFrame opts l c.rest ⊎ ((cause : Cause) × (heard : List Item) × Breaks opts l c.rest cause heard)) (append_assoc before (f ∷ []) c.frames) c.ends;
}

cut_up : (n : ℕ) (opts : EngineOpts) (before : List WireFrame) (octets : List ℕ) → length octets ≤ n → IsOctets octets → Cut opts before octets
cut_up zero opts before octets le o = nothing_more opts before octets (inl (at_flags (nil_from_length octets (omega (arith, le)))))
cut_up (suc n) opts before octets le o =
    elim (stands opts before octets o) [
      | is_cut c ↦ nothing_more opts before octets (inl c)
      | breaks cause heard b ↦ nothing_more opts before octets (inr (cause, heard, b))
      | begins f more split keeps ↦
          one_more opts before octets f more split keeps
          (cut_up n opts (before ++ f ∷ []) more (omega (arith, le, ap (λ (l : List ℕ). length l) split, length-append (octets_of f) more))
          (octets_behind (octets_of f) more (subst (λ (l : List ℕ). IsOctets l) split o)))
    ]

-- ---- the greeting

clash : {A : Type 0} → NeedMore ≡ Good → A
clash e = absurd cc

good_front : (role : Role) (octets : List ℕ) → judged role octets ≡ Good → (64 ≤ length octets) × (judged role (take 64 octets) ≡ Good)
good_front role octets good =
    let fine : refusal_in (judged role octets) ≡ None = ap refusal_in good in
    let long : length octets < 64 → ⊥ = λ lt. clash (sym (short_judged role octets fine lt) ∙ good) in
    let le : 64 ≤ length octets = omega (arith, long) in
    let n : length (take 64 octets) ≡ 64 = length-take-le 64 octets le in (
      le,
      elim (judged-append role (take 64 octets) (drop 64 octets)) [
        | inl more ↦ clash (sym more ∙ long_judged role (take 64 octets) (ap refusal_in more) (omega (arith, n)))
        | inr same ↦ sym same ∙ ap (λ (l : List ℕ). judged role l) (take-append-drop 64 octets) ∙ good
      ],
    )

behind_greeting : (opts : EngineOpts) (octets : List ℕ) → IsOctets octets → judged opts.role octets ≡ Good → (d : Decoded) × Decodes opts octets d
behind_greeting opts octets o good =
    let g = good_front opts.role octets good in
    let c = cut_up (length (drop 64 octets)) opts [] (drop 64 octets) (omega arith) (octets_behind (take 64 octets) (drop 64 octets) (subst (λ (l : List ℕ). IsOctets l) (sym (take-append-drop 64 octets)) o)) in
    let all : octets ≡ take 64 octets ++ (stream_of c.frames ++ c.rest) = sym (take-append-drop 64 octets) ∙ ap (λ (l : List ℕ). take 64 octets ++ l) c.all in
    let stream : IsStream opts octets c.frames c.rest = record { greeting = take 64 octets; whole = length-take-le 64 octets g.0; accepted = g.1; all = all; keep = c.keep } in
    elim c.ends [
      | inl cut ↦ (behind_frames opts c.frames [] (unfinished_behind c.frames c.rest), unfinished c.frames c.rest stream cut refl)
      | inr b ↦ (behind_frames opts c.frames b.1 (refused_behind c.frames b.0), refused c.frames c.rest b.0 b.1 stream b.2 refl)
    ]

by_judgement : (opts : EngineOpts) (octets : List ℕ) (j : Judgement) → IsOctets octets → judged opts.role octets ≡ j → (d : Decoded) × Decodes opts octets d
by_judgement opts octets NeedMore o e = (at_greeting (Unfinished (length octets)), greeting_unfinished e refl)
by_judgement opts octets Good o e = behind_greeting opts octets o e
by_judgement opts octets (BadSignature n) o e = (at_greeting (Refused _), greeting_refused _ (ap refusal_in e) refl)
by_judgement opts octets (OldVersion n) o e = (at_greeting (Refused _), greeting_refused _ (ap refusal_in e) refl)
by_judgement opts octets OtherMechanism o e = (at_greeting (Refused _), greeting_refused _ (ap refusal_in e) refl)

pub some_meaning : (opts : EngineOpts) (octets : List ℕ) → IsOctets octets → (d : Decoded) × Decodes opts octets d
some_meaning opts octets o = by_judgement opts octets (judged opts.role octets) o refl
