-- The octets of a refusal, the last one aside, break no rule.
use Rattle.std.proofs.Common.{◌≡◌, ℕ, ◌+◌, ◌-◌, ◌<◌, ◌≤◌, Bool, true, false, List, [], ◌∷◌, ◌++◌, length, take, drop, get_or, Option, None, refl, sym, ap, subst, ◌∙◌, append_assoc, arith}
use Rattle.std.specs.Prelude.{MatchOption, IsSome}
use Rattle.std.proofs.lemmas.List.{append-nil, length-append, length-take-le, get_or-take, take_rest}
use Rattle.zq_base.specs.declared.options.EngineOpts.{EngineOpts}
use Rattle.spec_zmtp.specs.declared.greeting.Judgement.TheVariants.{Good}
use Rattle.spec_zmtp.specs.declared.flags.FrameKind.{FrameKind}
use Rattle.spec_zmtp.specs.declared.flags.Flags.{Flags}
use Rattle.spec_zmtp.specs.FrameFlags.{flags_octet}
use Rattle.spec_zmtp.specs.FrameEncoding.{WireFrame, IsWireFrame, IsHead, head_octets, size_octets, size_length}
use Rattle.spec_zmtp.specs.FrameRules.{octet_refusal, AllKeep, IsCutFrame, at_flags, in_head, in_body}
use Rattle.spec_zmtp.specs.Greeting.{judged}
use Rattle.spec_zmtp.specs.DecodedStream.{offset_of, Decoded, Decodes, Unfinished, stream_of, behind_frames, unfinished_behind, IsStream, unfinished}
use Rattle.spec_zmtp.proofs.FlagLemmas.{flags_at-flags_octet}
use Rattle.spec_zmtp.proofs.FrameLemmas.{same_front, length-size_octets}
use Rattle.zmtp_frame.specs.Reading.{InHead, InBody}
use Rattle.zmtp_engine.specs.Hearing.{Hearing, Listens}
use Rattle.zmtp_engine.specs.Refusing.{JustBroken}
use Rattle.zmtp_engine.specs.Verdict.{octet_verdict}
use Rattle.spec_zmtp.specs.declared.cause.Refusal.{Refusal}
use Rattle.zmtp_engine.proofs.Ends.{whole_now}
use Rattle.zmtp_engine.proofs.Feeds.{take_add}
use Rattle.zmtp_engine.proofs.Steps.{at_head, none_begun, first_of_head, passes_flags}

-- ---- the last octet

-- octets, and one behind them
record Split (xs : List ℕ) : Type 0 where
  front : List ℕ
  octet : ℕ
  all : xs ≡ front ++ octet ∷ []
  count : length xs ≡ length front + 1

split_last : (xs : List ℕ) → 0 < length xs → Split xs
split_last [] lt = absurd (omega arith)
split_last (x ∷ []) lt = record { front = []; octet = x; all = refl; count = refl }
split_last (x ∷ y ∷ xs) lt =
    let s = split_last (y ∷ xs) (omega arith) in
    record { front = x ∷ s.front; octet = s.octet; all = ap (λ (l : List ℕ). x ∷ l) s.all; count = omega (arith, s.count) }

pub last_off : (xs ys : List ℕ) (x y : ℕ) → xs ++ x ∷ [] ≡ ys ++ y ∷ [] → xs ≡ ys
last_off xs ys x y e =
    (same_front xs ys (x ∷ []) (y ∷ []) (omega (arith, ap (λ (l : List ℕ). length l) e, length-append xs (x ∷ []), length-append ys (y ∷ []))) e).0

-- ---- heads and frames

-- octets whose last one aside are cut
record Cut (opts : EngineOpts) (before : List WireFrame) (xs : List ℕ) : Type 0 where
  front : List ℕ
  octet : ℕ
  all : xs ≡ front ++ octet ∷ []
  cut : IsCutFrame opts before front

some_size : (long : Bool) → 0 < size_length long
some_size true = omega arith
some_size false = omega arith

head_cut : (opts : EngineOpts) (before : List WireFrame) (kind : FrameKind) (long : Bool) (size : ℕ) → octet_refusal opts before (flags_octet kind long) ≡ None → Cut opts before (head_octets kind long size)
head_cut opts before kind long size none =
    let n = length-size_octets long size in
    let s = split_last (size_octets long size) (omega (arith, n, some_size long)) in
    let short : length s.front < size_length long = omega (arith, n, s.count) in
    record {
      front = flags_octet kind long ∷ s.front;
      octet = s.octet;
      all = ap (λ (l : List ℕ). flags_octet kind long ∷ l) s.all;
      cut = in_head (flags_octet kind long) s.front refl
          (subst (λ (o : Option Flags). MatchOption o ⊥ (λ f. length s.front < size_length f.long)) (sym (flags_at-flags_octet kind long)) short) none;
    }

frame_cut : (opts : EngineOpts) (before : List WireFrame) (kind : FrameKind) (long : Bool) (body : List ℕ) → IsWireFrame (record { kind = kind; long = long; body = body })
    → octet_refusal opts before (flags_octet kind long) ≡ None → Cut opts before (head_octets kind long (length body) ++ body)
frame_cut opts before kind long [] w none =
    let h = head_cut opts before kind long 0 none in
    record { front = h.front; octet = h.octet; all = append-nil (head_octets kind long 0) ∙ h.all; cut = h.cut }
frame_cut opts before kind long (x ∷ body) w none =
    let s = split_last (x ∷ body) (omega arith) in
    let head : List ℕ = head_octets kind long (length (x ∷ body)) in
    record {
      front = head ++ s.front;
      octet = s.octet;
      all = ap (λ (l : List ℕ). head ++ l) s.all ∙ sym (append_assoc head s.front (s.octet ∷ []));
      cut = in_body kind long (length (x ∷ body)) s.front refl (omega (arith, s.count)) w.fits w.within none;
    }

broken_by : (opts : EngineOpts) (octets : List ℕ) (frames : List WireFrame) (rest : List ℕ) → octets ≡ stream_of frames ++ rest → AllKeep opts [] frames → Cut opts frames rest → JustBroken opts octets
broken_by opts octets frames rest all keep c = record {
  frames = frames;
  front = c.front;
  octet = c.octet;
  all = all ∙ ap (λ (l : List ℕ). stream_of frames ++ l) c.all;
  keep = keep;
  cut = c.cut;
}

-- ---- the steps that refuse

-- a flags octet
pub flags_broken : (opts : EngineOpts) (octets piece : List ℕ) (given : List (List (List ℕ))) (h : Hearing) → Listens opts octets given h → h.begun ≡ 0 → 0 < length piece → JustBroken opts (octets ++ take 1 piece)
flags_broken opts octets [] given h l zero_begun lt = absurd (omega arith)
flags_broken opts octets (x ∷ piece) given h l zero_begun lt =
    let none : l.rest ≡ [] = none_begun h.begun zero_begun l.rest l.begun in
    record {
      frames = l.frames;
      front = [];
      octet = x;
      all = ap (λ (o : List ℕ). o ++ x ∷ []) (l.all ∙ ap (λ (r : List ℕ). stream_of l.frames ++ r) none ∙ append-nil (stream_of l.frames));
      keep = l.keep;
      cut = at_flags refl;
    }

-- a flags octet that a reader refuses
pub octet_broken : (opts : EngineOpts) (octets piece : List ℕ) (given : List (List (List ℕ))) (h : Hearing) (begun : List ℕ) (taken : ℕ) → Listens opts octets given h → h.reader ≡ InHead begun → begun ≡ [] → taken ≡ 1 → 0 < length piece
    → JustBroken opts (octets ++ take taken piece)
octet_broken opts octets piece given h begun taken l stage none one lt =
    let at = at_head opts octets given h begun l stage in
    let zero_begun : h.begun ≡ 0 = l.begun ∙ ap (λ (r : List ℕ). offset_of (length r)) (at.0 ∙ none) in
    subst (λ (n : ℕ). JustBroken opts (octets ++ take n piece)) (sym one) (flags_broken opts octets piece given h l zero_begun lt)

-- a head
pub head_broken : (opts : EngineOpts) (octets piece : List ℕ) (given : List (List (List ℕ))) (h : Hearing) (begun : List ℕ) (taken size : ℕ) (kind : FrameKind) → Listens opts octets given h → h.reader ≡ InHead begun → 0 < taken → taken ≤ length piece
    → (h.begun ≡ 0 → octet_verdict h.stage h.parts (get_or piece 0 0) ≡ None) → IsHead kind size (begun ++ take taken piece) → JustBroken opts (octets ++ take taken piece)
head_broken opts octets piece given h begun taken size kind l stage lt le judged is_head =
    let at = at_head opts octets given h begun l stage in
    let more : List ℕ = take taken piece in
    let len : length more ≡ taken = length-take-le taken piece le in
    let flags : octet_refusal opts l.frames (flags_octet kind is_head.0) ≡ None =
    ap (λ (o : ℕ). octet_refusal opts l.frames o) (sym (first_of_head kind is_head.0 size (begun ++ more) is_head.2))
    ∙ passes_flags opts octets more given h begun l stage (omega (arith, len, lt)) (λ z. ap (λ (o : ℕ). octet_verdict h.stage h.parts o) (get_or-take taken piece 0 0 lt) ∙ judged z) in
    let c = head_cut opts l.frames kind is_head.0 size flags in
    broken_by opts (octets ++ more) l.frames (l.rest ++ more) (ap (λ (o : List ℕ). o ++ more) l.all ∙ append_assoc (stream_of l.frames) l.rest more) l.keep
    (record { front = c.front; octet = c.octet; all = ap (λ (r : List ℕ). r ++ more) at.0 ∙ is_head.2 ∙ c.all; cut = c.cut })

-- a whole frame
pub frame_broken : (opts : EngineOpts) (octets : List ℕ) (given : List (List (List ℕ))) (h : Hearing) → Listens opts octets given h → h.reader ≡ InBody 0 → JustBroken opts octets
frame_broken opts octets given h l at_end =
    let w = whole_now opts octets given h l at_end in
    let c = frame_cut opts l.frames h.kind w.long h.body w.frame w.in_place in
    broken_by opts octets l.frames l.rest l.all l.keep (record { front = c.front; octet = c.octet; all = w.rest_is ∙ c.all; cut = c.cut })

-- nothing is refused
pub none_refused : {A : Type 0} (o : Option Refusal) → o ≡ None → IsSome o → A
none_refused o e some = let s : IsSome {T = Refusal} None = subst (λ (q : Option Refusal). IsSome q) e some in absurd cc

-- one step after what was heard
pub then_broken : (opts : EngineOpts) (octets piece : List ℕ) (n k : ℕ) → JustBroken opts ((octets ++ take n piece) ++ take k (take (length piece - n) (drop n piece))) → JustBroken opts (octets ++ take (n + k) piece)
then_broken opts octets piece n k b =
    let b' = subst (λ (l : List ℕ). JustBroken opts ((octets ++ take n piece) ++ take k l)) (take_rest piece n) b in
    subst (λ (l : List ℕ). JustBroken opts l) (append_assoc octets (take n piece) (take k (drop n piece)) ∙ ap (λ (l : List ℕ). octets ++ l) (sym (take_add n k piece))) b'

-- ---- behind a greeting

-- without the last octet all are unfinished
pub unfinished_before : (opts : EngineOpts) (octets front greeting more : List ℕ) (octet : ℕ) → length greeting ≡ 64 → judged opts.role greeting ≡ Good → JustBroken opts more → octets ++ (front ++ octet ∷ []) ≡ greeting ++ more
    → (d : Decoded) × (n : ℕ) × Decodes opts (octets ++ front) d × (d.outcome ≡ Unfinished n)
unfinished_before opts octets front greeting more octet len good b all =
    let whole : (octets ++ front) ++ octet ∷ [] ≡ (greeting ++ (stream_of b.frames ++ b.front)) ++ b.octet ∷ [] =
    append_assoc octets front (octet ∷ []) ∙ all ∙ ap (λ (l : List ℕ). greeting ++ l) (b.all ∙ sym (append_assoc (stream_of b.frames) b.front (b.octet ∷ []))) ∙ sym (append_assoc greeting (stream_of b.frames ++ b.front) (b.octet ∷ [])) in
    let is : octets ++ front ≡ greeting ++ (stream_of b.frames ++ b.front) = last_off (octets ++ front) (greeting ++ (stream_of b.frames ++ b.front)) octet b.octet whole in
    let stream : IsStream opts (octets ++ front) b.frames b.front = record { greeting = greeting; whole = len; accepted = good; all = is; keep = b.keep } in
    (behind_frames opts b.frames [] (unfinished_behind b.frames b.front), _, unfinished b.frames b.front stream b.cut refl, refl)
