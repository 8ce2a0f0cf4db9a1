-- One more frame at the end; and at the front of octets a frame keeps the rules, or breaks one, or is cut.
use Rattle.std.proofs.Common.{◌≡◌, ℕ, List, [], ◌∷◌, ◌++◌, length, Option, Some, None, sym, ap, subst, ◌∙◌, append_assoc, arith}
use Rattle.std.proofs.lemmas.List.{length-append, append-nil, flat_map_more, map_push}
use Rattle.std.proofs.lemmas.List.Sums.{fold-append}
use Rattle.zq_base.specs.declared.options.EngineOpts.{EngineOpts}
use Rattle.spec_zmtp.specs.declared.cause.Cause.{Cause}
use Rattle.spec_zmtp.specs.FrameFlags.{flags_octet, limit}
use Rattle.spec_zmtp.specs.FrameEncoding.{WireFrame, IsCutHead, head_octets, octets_of}
use Rattle.spec_zmtp.specs.FrameRules.{gathered, gather_at, items_of, item_at, item_refusal, octet_refusal, Keeps, AllKeep, Breaks, by_flags, by_size, by_item, IsCutFrame, at_flags, in_head, in_body}
use Rattle.spec_zmtp.specs.Handshake.{Item}
use Rattle.spec_zmtp.specs.DecodedStream.{stream_of}
use Rattle.spec_zmtp.proofs.FrameLemmas.{one_head, one_frame, not_cut}

-- ---- one more frame

pub stream_of-push : (fs : List WireFrame) (f : WireFrame) → stream_of (fs ++ f ∷ []) ≡ stream_of fs ++ octets_of f
stream_of-push fs f = sym (flat_map_more (λ f. octets_of f) [] fs f)

pub items_of-push : (fs : List WireFrame) (f : WireFrame) → items_of (fs ++ f ∷ []) ≡ items_of fs ++ item_at f.kind f.body ∷ []
items_of-push fs f = map_push _ fs f

pub gathered-push : (fs : List WireFrame) (f : WireFrame) → gathered (fs ++ f ∷ []) ≡ gather_at f.kind f (gathered fs)
gathered-push fs f = fold-append _ _ fs (f ∷ [])

pub AllKeep-push : (opts : EngineOpts) (before fs : List WireFrame) (f : WireFrame) → AllKeep opts before fs → Keeps opts (before ++ fs) f → AllKeep opts before (fs ++ f ∷ [])
AllKeep-push opts before [] f h one = (subst (λ (b : List WireFrame). Keeps opts b f) (append-nil before) one, tt)
AllKeep-push opts before (g ∷ fs) f h one =
    (h.0, AllKeep-push opts (before ++ g ∷ []) fs f h.1 (subst (λ (b : List WireFrame). Keeps opts b f) (sym (append_assoc before (g ∷ []) fs)) one))

-- ---- at the front of octets

-- no frame is at the front of what is cut
pub cut_no_frame : (opts : EngineOpts) (before : List WireFrame) (rest more : List ℕ) (q : WireFrame) → IsCutFrame opts before rest → Keeps opts before q → rest ≡ octets_of q ++ more → ⊥
cut_no_frame opts before rest more q (at_flags e) one split = let both : [] ≡ octets_of q ++ more = sym e ∙ split in absurd cc
cut_no_frame opts before rest more q (in_head flags size shape cut none) one split =
    not_cut q.kind q.long (length q.body) (q.body ++ more) (subst (λ (l : List ℕ). IsCutHead l) (split ∙ append_assoc (head_octets q.kind q.long (length q.body)) q.body more) cut)
cut_no_frame opts before rest more q (in_body kind long size body shape short fits le none) one split =
    let h = one_head kind q.kind long q.long size (length q.body) body (q.body ++ more) fits one.frame.fits (sym shape ∙ split ∙ append_assoc (head_octets q.kind q.long (length q.body)) q.body more) in
    omega (arith, h.size, short, ap length h.rest, length-append q.body more)

-- what two flags octets that begin one list are
same_octet : (f g : ℕ) (x y : List ℕ) → f ∷ x ≡ g ∷ y → f ≡ g
same_octet f g x y e = cc

clash : (opts : EngineOpts) (before : List WireFrame) (f g : ℕ) (cause : Cause) → f ≡ g → octet_refusal opts before f ≡ None → octet_refusal opts before g ≡ Some cause → ⊥
clash opts before f g cause e none some = let both : None ≡ Some cause = sym none ∙ ap (λ (o : ℕ). octet_refusal opts before o) e ∙ some in absurd cc

-- no frame that keeps the rules is at the front of what breaks one
pub break_no_frame : (opts : EngineOpts) (before : List WireFrame) (rest more : List ℕ) (cause : Cause) (heard : List Item) (q : WireFrame) → Breaks opts before rest cause heard → Keeps opts before q → rest ≡ octets_of q ++ more → ⊥
break_no_frame opts before rest more cause heard q (by_flags flags tail shape rule nothing) one split =
    clash opts before (flags_octet q.kind q.long) flags cause (same_octet _ _ _ tail (sym split ∙ shape)) one.in_place rule
break_no_frame opts before rest more cause heard q (by_size kind long size tail shape none fits over is nothing) one split =
    let h = one_head kind q.kind long q.long size (length q.body) tail (q.body ++ more) fits one.frame.fits (sym shape ∙ split ∙ append_assoc (head_octets q.kind q.long (length q.body)) q.body more) in
    omega (arith, h.size, over, one.frame.within, ap limit h.kind)
break_no_frame opts before rest more cause heard q (by_item f tail shape frame none rule told) one split =
    let h = one_frame f q tail more frame one.frame (sym shape ∙ split) in
    let both : None ≡ Some cause = sym one.heard ∙ ap (λ (g : WireFrame). item_refusal opts before (item_at g.kind g.body)) (sym h.frame) ∙ rule in absurd cc

-- what is cut breaks no rule
pub cut_no_break : (opts : EngineOpts) (before : List WireFrame) (rest : List ℕ) (cause : Cause) (heard : List Item) → IsCutFrame opts before rest → Breaks opts before rest cause heard → ⊥
cut_no_break opts before rest cause heard (at_flags e) (by_flags flags tail shape rule nothing) = let both : [] ≡ flags ∷ tail = sym e ∙ shape in absurd cc
cut_no_break opts before rest cause heard (at_flags e) (by_size kind long size tail shape none fits over is nothing) = let both : [] ≡ head_octets kind long size ++ tail = sym e ∙ shape in absurd cc
cut_no_break opts before rest cause heard (at_flags e) (by_item f tail shape frame none rule told) = let both : [] ≡ octets_of f ++ tail = sym e ∙ shape in absurd cc
cut_no_break opts before rest cause heard (in_head flags size shape cut none) (by_flags flags' tail shape' rule nothing) =
    clash opts before flags flags' cause (same_octet flags flags' size tail (sym shape ∙ shape')) none rule
cut_no_break opts before rest cause heard (in_head flags size shape cut none) (by_size kind long size' tail shape' none' fits over is nothing) =
    not_cut kind long size' tail (subst (λ (l : List ℕ). IsCutHead l) shape' cut)
cut_no_break opts before rest cause heard (in_head flags size shape cut none) (by_item f tail shape' frame none' rule told) =
    not_cut f.kind f.long (length f.body) (f.body ++ tail) (subst (λ (l : List ℕ). IsCutHead l) (shape' ∙ append_assoc (head_octets f.kind f.long (length f.body)) f.body tail) cut)
cut_no_break opts before rest cause heard (in_body kind long size body shape short fits le none) (by_flags flags tail shape' rule nothing) =
    clash opts before (flags_octet kind long) flags cause (same_octet _ flags _ tail (sym shape ∙ shape')) none rule
cut_no_break opts before rest cause heard (in_body kind long size body shape short fits le none) (by_size kind' long' size' tail shape' none' fits' over is nothing) =
    let h = one_head kind kind' long long' size size' body tail fits fits' (sym shape ∙ shape') in
    omega (arith, h.size, le, over, ap limit h.kind)
cut_no_break opts before rest cause heard (in_body kind long size body shape short fits le none) (by_item f tail shape' frame none' rule told) =
    let h = one_head kind f.kind long f.long size (length f.body) body (f.body ++ tail) fits frame.fits (sym shape ∙ shape' ∙ append_assoc (head_octets f.kind f.long (length f.body)) f.body tail) in
    omega (arith, h.size, short, ap length h.rest, length-append f.body tail)

-- two breaks of the rules at one front are one
pub record SameBreak (a b : Cause) (x y : List Item) : Type 0 where
  pub cause : a ≡ b
  pub heard : x ≡ y

some_is : (a b : Cause) (o : Option Cause) → o ≡ Some a → o ≡ Some b → a ≡ b
some_is a b o p q = let e : Some a ≡ Some b = sym p ∙ q in cc

pub one_break : (opts : EngineOpts) (before : List WireFrame) (rest : List ℕ) (a b : Cause) (x y : List Item) → Breaks opts before rest a x → Breaks opts before rest b y → SameBreak a b x y
one_break opts before rest a b x y (by_flags f s shape rule nothing) (by_flags g t shape' rule' nothing') =
    let e : f ≡ g = same_octet f g s t (sym shape ∙ shape') in
    record { cause = some_is a b (octet_refusal opts before g) (ap (λ (o : ℕ). octet_refusal opts before o) (sym e) ∙ rule) rule'; heard = nothing ∙ sym nothing' }
one_break opts before rest a b x y (by_flags f s shape rule nothing) (by_size kind long size t shape' none' fits over is nothing') =
    absurd (clash opts before (flags_octet kind long) f a (same_octet _ f _ s (sym shape' ∙ shape)) none' rule)
one_break opts before rest a b x y (by_flags f s shape rule nothing) (by_item g t shape' frame none' rule' told) =
    absurd (clash opts before (flags_octet g.kind g.long) f a (same_octet _ f _ s (sym shape' ∙ shape)) none' rule)
one_break opts before rest a b x y (by_size kind long size s shape none fits over is nothing) (by_flags f t shape' rule' nothing') =
    absurd (clash opts before (flags_octet kind long) f b (same_octet _ f _ t (sym shape ∙ shape')) none rule')
one_break opts before rest a b x y (by_size kind long size s shape none fits over is nothing) (by_size kind' long' size' t shape' none' fits' over' is' nothing') =
    record { cause = is ∙ sym is'; heard = nothing ∙ sym nothing' }
one_break opts before rest a b x y (by_size kind long size s shape none fits over is nothing) (by_item g t shape' frame none' rule' told) =
    let h = one_head kind g.kind long g.long size (length g.body) s (g.body ++ t) fits frame.fits (sym shape ∙ shape' ∙ append_assoc (head_octets g.kind g.long (length g.body)) g.body t) in
    absurd (omega (arith, h.size, over, frame.within, ap limit h.kind))
one_break opts before rest a b x y (by_item f s shape frame none rule told) (by_flags g t shape' rule' nothing') =
    absurd (clash opts before (flags_octet f.kind f.long) g b (same_octet _ g _ t (sym shape ∙ shape')) none rule')
one_break opts before rest a b x y (by_item g s shape frame none rule told) (by_size kind long size t shape' none' fits over is nothing') =
    let h = one_head kind g.kind long g.long size (length g.body) t (g.body ++ s) fits frame.fits (sym shape' ∙ shape ∙ append_assoc (head_octets g.kind g.long (length g.body)) g.body s) in
    absurd (omega (arith, h.size, over, frame.within, ap limit h.kind))
one_break opts before rest a b x y (by_item f s shape frame none rule told) (by_item g t shape' frame' none' rule' told') =
    let h = one_frame f g s t frame frame' (sym shape ∙ shape') in
    record {
      cause = some_is a b (item_refusal opts before (item_at g.kind g.body)) (ap (λ (k : WireFrame). item_refusal opts before (item_at k.kind k.body)) (sym h.frame) ∙ rule) rule';
      heard = told ∙ ap (λ (k : WireFrame). item_at k.kind k.body ∷ []) h.frame ∙ sym told';
    }
