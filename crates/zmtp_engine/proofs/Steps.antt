-- What one step within a frame does to what is kept.
use Rattle.std.proofs.Common.{◌≡◌, ℕ, ◌+◌, ◌<◌, ◌≤◌, Bool, List, [], ◌∷◌, ◌++◌, length, take, get_or, Option, Some, None, refl, sym, ap, subst, ◌∙◌, append_assoc, arith}
use Rattle.std.proofs.lemmas.List.{length-append, length-take-le, get_or-take, append-nil, nil_from_length}
use Rattle.zq_base.specs.declared.options.EngineOpts.{EngineOpts}
use Rattle.spec_zmtp.specs.declared.cause.Cause.TheVariants as cause
use Rattle.spec_zmtp.specs.declared.cause.Refusal.{Refusal}
use Rattle.spec_zmtp.specs.declared.flags.FrameKind.{FrameKind}
use Rattle.spec_zmtp.specs.FrameFlags.{flags_octet, flags_at, limit}
use Rattle.spec_zmtp.specs.FrameEncoding.{WireFrame, IsHead, IsCutHead, FitsSize, head_octets}
use Rattle.spec_zmtp.specs.FrameRules.{items_of, octet_refusal, Breaks, by_flags, by_size}
use Rattle.spec_zmtp.specs.Handshake.{Item}
use Rattle.spec_zmtp.specs.DecodedStream.{stream_of, offset_of}
use Rattle.zmtp_frame.specs.Reading.{Stage, InHead, InBody, SawBadFlags, SawTooLong, Feeds, left_at}
use Rattle.zmtp_frame.specs.declared.step.Step.{Step}
use Rattle.zmtp_frame.specs.declared.step.Step.TheVariants.{NeedMore, Head, Piece, FrameEnd, BadFlags, TooLong}
use Rattle.zmtp_engine.specs.Hearing.{Hearing, Listens, Hears, HearsAt, HasShaken, IsBegun}
use Rattle.zmtp_engine.specs.Verdict.{octet_verdict, IsToldOf}
use Rattle.spec_zmtp.proofs.FlagLemmas.{flags_of, flags_at-flags_octet}
use Rattle.zmtp_engine.proofs.Verdicts.{octet_is}

-- what a step within a frame leaves as it is
pub record Same (h new : Hearing) : Type 0 where
  pub opts : new.opts ≡ h.opts
  pub stage : new.stage ≡ h.stage
  pub peer : new.peer ≡ h.peer
  pub said : new.said ≡ h.said
  pub parts : new.parts ≡ h.parts
  pub queue : new.queue ≡ h.queue
  pub offset : new.offset ≡ h.offset
  pub earlier : new.earlier ≡ h.earlier

shaken_still : (opts : EngineOpts) (items : List Item) (h new : Hearing) → new.opts ≡ h.opts → new.said ≡ h.said → new.peer ≡ h.peer → HasShaken opts items h → HasShaken opts items new
shaken_still opts items h new o s p k = record { opts_is = o ∙ k.opts_is; said = s ∙ k.said; peer = p ∙ k.peer }

-- the octets of a frame go on
pub moved : (opts : EngineOpts) (octets more : List ℕ) (given : List (List (List ℕ))) (h new : Hearing) (l : Listens opts octets given h) → Same h new → new.refused ≡ None → new.begun ≡ offset_of (h.begun + length more)
    → IsBegun opts l.frames (l.rest ++ more) new.reader new.kind new.body → Hears opts (octets ++ more) given new
moved opts octets more given h new l same none begun at =
    subst (λ (r : Option Refusal). HearsAt opts (octets ++ more) given new r) (sym none) (record {
      frames = l.frames;
      rest = l.rest ++ more;
      all = ap (λ (x : List ℕ). x ++ more) l.all ∙ append_assoc (stream_of l.frames) l.rest more;
      keep = l.keep;
      shaken = shaken_still opts (items_of l.frames) h new same.opts same.said same.peer l.shaken;
      stage = same.stage ∙ l.stage;
      unrefused = rw same.stage l.unrefused;
      parts = same.parts ∙ l.parts;
      whole = l.whole ∙ ap (λ (q : List (List (List ℕ))). given ++ q) (sym same.queue);
      offset = same.offset ∙ l.offset;
      begun = begun ∙ ap (λ (n : ℕ). offset_of (n + length more)) l.begun ∙ omega (arith, length-append l.rest more);
      earlier = same.earlier ∙ l.earlier;
      begins = at;
    })

-- a rule is broken by octets of a frame that has begun
pub stops : (opts : EngineOpts) (octets more : List ℕ) (given : List (List (List ℕ))) (h new : Hearing) (r : Refusal) (l : Listens opts octets given h) → Same h new → new.refused ≡ Some r → r.offset ≡ h.offset
    → Breaks opts l.frames (l.rest ++ more) r.cause [] → Hears opts (octets ++ more) given new
stops opts octets more given h new r l same refused offset breaks =
    subst (λ (x : Option Refusal). HearsAt opts (octets ++ more) given new x) (sym refused) (record {
      frames = l.frames;
      rest = l.rest ++ more;
      items = [];
      all = ap (λ (x : List ℕ). x ++ more) l.all ∙ append_assoc (stream_of l.frames) l.rest more;
      keep = l.keep;
      breaks = breaks;
      shaken = subst (λ (i : List Item). HasShaken opts i new) (sym (append-nil (items_of l.frames))) (shaken_still opts (items_of l.frames) h new same.opts same.said same.peer l.shaken);
      whole = l.whole ∙ ap (λ (q : List (List (List ℕ))). given ++ q) (sym same.queue);
      offset = offset ∙ l.offset;
    })

-- ---- heads

pub head_stage : (s : Stage) (k : FrameKind) (b : List ℕ) (opts : EngineOpts) (fs : List WireFrame) (rest : List ℕ) → IsBegun opts fs rest s k b → left_at s ≡ None → (octets : List ℕ) × (s ≡ InHead octets)
head_stage (InHead octets) k b opts fs rest at e = (octets, refl)
head_stage (InBody left) k b opts fs rest at e = absurd cc
head_stage (SawBadFlags flags) k b opts fs rest at e = absurd at
head_stage (SawTooLong size) k b opts fs rest at e = absurd at

pub at_head : (opts : EngineOpts) (octets : List ℕ) (given : List (List (List ℕ))) (h : Hearing) (begun : List ℕ) (l : Listens opts octets given h) → h.reader ≡ InHead begun → IsBegun opts l.frames l.rest (InHead begun) h.kind h.body
at_head opts octets given h begun l stage = subst (λ (s : Stage). IsBegun opts l.frames l.rest s h.kind h.body) stage l.begins

-- the verdict on the next flags octet is that of the stream
verdict_now : (opts : EngineOpts) (octets : List ℕ) (given : List (List (List ℕ))) (h : Hearing) (octet : ℕ) (l : Listens opts octets given h) → octet_refusal opts l.frames octet ≡ octet_verdict h.stage h.parts octet
verdict_now opts octets given h octet l = octet_is opts l.frames h.stage h.parts octet l.stage l.unrefused l.parts

-- a flags octet in front: what begins one is none
pub none_begun : (n : ℕ) → n ≡ 0 → (xs : List ℕ) → n ≡ offset_of (length xs) → xs ≡ []
none_begun n e xs b = nil_from_length xs (omega arith)

-- the flags octet in front of octets passes, as it did before or as it was judged now
pub passes_flags : (opts : EngineOpts) (octets more : List ℕ) (given : List (List (List ℕ))) (h : Hearing) (begun : List ℕ) (l : Listens opts octets given h) → h.reader ≡ InHead begun → 0 < length more
    → (h.begun ≡ 0 → octet_verdict h.stage h.parts (get_or more 0 0) ≡ None) → octet_refusal opts l.frames (get_or (begun ++ more) 0 0) ≡ None
passes_flags opts octets more given h [] l stage lt judged =
    let at = at_head opts octets given h [] l stage in
    let zero_begun : h.begun ≡ 0 = l.begun ∙ ap (λ (x : List ℕ). offset_of (length x)) at.0 in
    verdict_now opts octets given h (get_or more 0 0) l ∙ judged zero_begun
passes_flags opts octets more given h (b ∷ begun) l stage lt judged = (at_head opts octets given h (b ∷ begun) l stage).2 (omega arith)

-- a flags octet that is refused
pub judged_bad : (opts : EngineOpts) (octets piece : List ℕ) (given : List (List (List ℕ))) (h new : Hearing) (r : Refusal) (l : Listens opts octets given h) → h.begun ≡ 0 → 0 < length piece
    → octet_verdict h.stage h.parts (get_or piece 0 0) ≡ Some r.cause → Same h new → new.refused ≡ Some r → r.offset ≡ h.offset → Hears opts (octets ++ take 1 piece) given new
judged_bad opts octets [] given h new r l zero_begun lt judged same refused offset = absurd (omega arith)
judged_bad opts octets (x ∷ piece) given h new r l zero_begun lt judged same refused offset =
    let none : l.rest ≡ [] = none_begun h.begun zero_begun l.rest l.begun in
    stops opts octets (x ∷ []) given h new r l same refused offset
    (subst (λ (y : List ℕ). Breaks opts l.frames (y ++ x ∷ []) r.cause []) (sym none) (by_flags x [] refl (verdict_now opts octets given h x l ∙ judged) refl))

-- the first octet of a head is its flags octet
pub first_of_head : (kind : FrameKind) (long : Bool) (size : ℕ) (octets : List ℕ) → octets ≡ head_octets kind long size → get_or octets 0 0 ≡ flags_octet kind long
first_of_head kind long size octets e = ap (λ (o : List ℕ). get_or o 0 0) e

pub began : (opts : EngineOpts) (octets piece : List ℕ) (given : List (List (List ℕ))) (h new : Hearing) (begun : List ℕ) (taken size : ℕ) (kind : FrameKind) (l : Listens opts octets given h) → h.reader ≡ InHead begun → 0 < taken → taken ≤ length piece
    → (h.begun ≡ 0 → octet_verdict h.stage h.parts (get_or piece 0 0) ≡ None) → IsHead kind size (begun ++ take taken piece) → size ≤ limit kind
    → Same h new → new.refused ≡ None → new.reader ≡ InBody size → new.kind ≡ kind → new.body ≡ [] → new.begun ≡ offset_of (h.begun + taken) → Hears opts (octets ++ take taken piece) given new
began opts octets piece given h new begun taken size kind l stage lt le judged is_head fits same none stage' kind' body' count =
    let at = at_head opts octets given h begun l stage in
    let more : List ℕ = take taken piece in
    let len : length more ≡ taken = length-take-le taken piece le in
    let eq : l.rest ++ more ≡ begun ++ more = ap (λ (x : List ℕ). x ++ more) at.0 in
    let flags : octet_refusal opts l.frames (flags_octet kind is_head.0) ≡ None =
    ap (λ (o : ℕ). octet_refusal opts l.frames o) (sym (first_of_head kind is_head.0 size (begun ++ more) is_head.2)) ∙ passes_flags opts octets more given h begun l stage (omega arith) (λ z. ap (λ (o : ℕ). octet_verdict h.stage h.parts o) (get_or-take taken piece 0 0 lt) ∙ judged z) in
    let zero_more : size ≡ 0 + size = omega arith in
    let whole : l.rest ++ more ≡ head_octets kind is_head.0 size ++ [] = eq ∙ is_head.2 ∙ sym (append-nil (head_octets kind is_head.0 size)) in
    moved opts octets more given h new l same none (count ∙ ap (λ (n : ℕ). offset_of (h.begun + n)) (sym len))
    (subst (λ (s : Stage). IsBegun opts l.frames (l.rest ++ more) s new.kind new.body) (sym stage')
    (subst (λ (k : FrameKind). IsBegun opts l.frames (l.rest ++ more) (InBody size) k new.body) (sym kind')
    (subst (λ (b : List ℕ). IsBegun opts l.frames (l.rest ++ more) (InBody size) kind b) (sym body')
    (is_head.0, subst (λ (n : ℕ). FitsSize is_head.0 n) zero_more is_head.1, subst (λ (n : ℕ). n ≤ limit kind) zero_more fits, flags, whole ∙ ap (λ (n : ℕ). head_octets kind is_head.0 n ++ []) zero_more))))

pub too_long : (opts : EngineOpts) (octets piece : List ℕ) (given : List (List (List ℕ))) (h new : Hearing) (begun : List ℕ) (taken size : ℕ) (kind : FrameKind) (r : Refusal) (l : Listens opts octets given h) → h.reader ≡ InHead begun → 0 < taken → taken ≤ length piece
    → (h.begun ≡ 0 → octet_verdict h.stage h.parts (get_or piece 0 0) ≡ None) → IsHead kind size (begun ++ take taken piece) → limit kind < size
    → Same h new → new.refused ≡ Some r → r.offset ≡ h.offset → r.cause ≡ cause.TooLong → Hears opts (octets ++ take taken piece) given new
too_long opts octets piece given h new begun taken size kind r l stage lt le judged is_head over same refused offset is =
    let at = at_head opts octets given h begun l stage in
    let more : List ℕ = take taken piece in
    let len : length more ≡ taken = length-take-le taken piece le in
    let eq : l.rest ++ more ≡ begun ++ more = ap (λ (x : List ℕ). x ++ more) at.0 in
    let flags : octet_refusal opts l.frames (flags_octet kind is_head.0) ≡ None =
    ap (λ (o : ℕ). octet_refusal opts l.frames o) (sym (first_of_head kind is_head.0 size (begun ++ more) is_head.2)) ∙ passes_flags opts octets more given h begun l stage (omega arith) (λ z. ap (λ (o : ℕ). octet_verdict h.stage h.parts o) (get_or-take taken piece 0 0 lt) ∙ judged z) in
    stops opts octets more given h new r l same refused offset
    (by_size kind is_head.0 size [] (eq ∙ is_head.2 ∙ sym (append-nil (head_octets kind is_head.0 size))) flags is_head.1 over is refl)

pub head_goes_on : (opts : EngineOpts) (octets piece more : List ℕ) (given : List (List (List ℕ))) (h new : Hearing) (begun : List ℕ) (l : Listens opts octets given h) → h.reader ≡ InHead begun → 0 < length piece
    → (h.begun ≡ 0 → octet_verdict h.stage h.parts (get_or piece 0 0) ≡ None) → IsCutHead (begun ++ piece)
    → Same h new → new.refused ≡ None → new.reader ≡ InHead (begun ++ piece) → new.begun ≡ offset_of (h.begun + length piece) → more ≡ piece → Hears opts (octets ++ more) given new
head_goes_on opts octets piece more given h new begun l stage lt judged cut same none stage' count more_is =
    let at = at_head opts octets given h begun l stage in
    subst (λ (x : List ℕ). Hears opts (octets ++ x) given new) (sym more_is) (moved opts octets piece given h new l same none count
    (subst (λ (s : Stage). IsBegun opts l.frames (l.rest ++ piece) s new.kind new.body) (sym stage')
    (ap (λ (x : List ℕ). x ++ piece) at.0, cut, λ _. passes_flags opts octets piece given h begun l stage lt judged)))

-- ---- bodies

pub at_body : (opts : EngineOpts) (octets : List ℕ) (given : List (List (List ℕ))) (h : Hearing) (left : ℕ) (l : Listens opts octets given h) → h.reader ≡ InBody left → IsBegun opts l.frames l.rest (InBody left) h.kind h.body
at_body opts octets given h left l stage = subst (λ (s : Stage). IsBegun opts l.frames l.rest s h.kind h.body) stage l.begins

pub body_goes_on : (opts : EngineOpts) (octets part more : List ℕ) (given : List (List (List ℕ))) (h new : Hearing) (left rest : ℕ) (l : Listens opts octets given h) → h.reader ≡ InBody left → left ≡ length part + rest
    → Same h new → new.refused ≡ None → new.reader ≡ InBody rest → new.kind ≡ h.kind → new.body ≡ h.body ++ part → new.begun ≡ offset_of (h.begun + length part) → more ≡ part → Hears opts (octets ++ more) given new
body_goes_on opts octets part more given h new left rest l stage split same none stage' kind' body' count more_is =
    let at = at_body opts octets given h left l stage in
    let size : length h.body + left ≡ length (h.body ++ part) + rest = omega (arith, split, length-append h.body part) in
    let whole : l.rest ++ part ≡ head_octets h.kind at.0 (length (h.body ++ part) + rest) ++ (h.body ++ part) =
    ap (λ (x : List ℕ). x ++ part) at.4 ∙ append_assoc (head_octets h.kind at.0 (length h.body + left)) h.body part ∙ ap (λ (n : ℕ). head_octets h.kind at.0 n ++ (h.body ++ part)) size in
    subst (λ (x : List ℕ). Hears opts (octets ++ x) given new) (sym more_is) (moved opts octets part given h new l same none count
    (subst (λ (s : Stage). IsBegun opts l.frames (l.rest ++ part) s new.kind new.body) (sym stage')
    (subst (λ (k : FrameKind). IsBegun opts l.frames (l.rest ++ part) (InBody rest) k new.body) (sym kind')
    (subst (λ (b : List ℕ). IsBegun opts l.frames (l.rest ++ part) (InBody rest) h.kind b) (sym body')
    (at.0, subst (λ (n : ℕ). FitsSize at.0 n) size at.1, subst (λ (n : ℕ). n ≤ limit h.kind) size at.2, at.3, whole)))))

-- a reader in a body takes a part that isn't longer than what is to come
pub body_feeds : (left : ℕ) (part : List ℕ) (taken : ℕ) (s : Step) (new : Stage) → 0 < length part → length part ≤ left → Feeds (InBody left) part taken s new
    → (taken ≡ length part) × ((rest : ℕ) × (left ≡ length part + rest) × (new ≡ InBody rest))
body_feeds left part taken NeedMore new lt le f = absurd (omega (arith, ap length f.1))
body_feeds left part taken (Head kind size) new lt le f = absurd f
body_feeds left part taken (Piece from to) new lt le f = let e : taken ≡ length part = omega (arith, f.3) in (e, (f.4.0, omega (arith, f.4.1, e), f.4.2))
body_feeds left part taken FrameEnd new lt le f = absurd (omega (arith, f.1))
body_feeds left part taken (BadFlags flags) new lt le f = absurd f
body_feeds left part taken (TooLong size) new lt le f = absurd f

-- a reader in a head tells of no body
pub head_feeds : (begun piece : List ℕ) (taken : ℕ) (s : Step) (new : Stage) → Feeds (InHead begun) piece taken s new → 0 < length piece → 0 < taken
head_feeds begun piece taken NeedMore new f lt = omega (arith, f.0)
head_feeds begun piece taken (Head kind size) new f lt = f.0
head_feeds begun piece taken (Piece from to) new f lt = absurd f
head_feeds begun piece taken FrameEnd new f lt = absurd f
head_feeds begun piece taken (BadFlags flags) new f lt = omega (arith, f.0)
head_feeds begun piece taken (TooLong size) new f lt = f.0

-- what a reader before a head tells of the octet in front
pub told_first : (begun piece : List ℕ) (taken : ℕ) (s : Step) (new : Stage) → begun ≡ [] → Feeds (InHead begun) piece taken s new → IsToldOf s (get_or piece 0 0)
told_first begun piece taken NeedMore new none f = tt
told_first begun piece taken (Head kind size) new none f =
    let first : get_or piece 0 0 ≡ flags_octet kind f.2.0 =
    sym (get_or-take taken piece 0 0 f.0) ∙ ap (λ (o : List ℕ). get_or (o ++ take taken piece) 0 0) (sym none) ∙ first_of_head kind f.2.0 size (begun ++ take taken piece) f.2.2 in
    (flags_of kind f.2.0, ap (λ (o : ℕ). flags_at o) first ∙ flags_at-flags_octet kind f.2.0, refl)
told_first begun piece taken (Piece from to) new none f = tt
told_first begun piece taken FrameEnd new none f = tt
told_first begun piece taken (BadFlags flags) new none f = tt
told_first begun piece taken (TooLong size) new none f = tt

-- of a frame that has not begun
pub told_now : (opts : EngineOpts) (octets : List ℕ) (given : List (List (List ℕ))) (h : Hearing) (begun piece : List ℕ) (taken : ℕ) (s : Step) (new : Stage) → Listens opts octets given h → h.begun ≡ 0 → h.reader ≡ InHead begun
    → Feeds h.reader piece taken s new → IsToldOf s (get_or piece 0 0)
told_now opts octets given h begun piece taken s new l zero_begun stage f =
    let none : begun ≡ [] = sym (at_head opts octets given h begun l stage).0 ∙ none_begun h.begun zero_begun l.rest l.begun in
    told_first begun piece taken s new none (subst (λ (x : Stage). Feeds x piece taken s new) stage f)
