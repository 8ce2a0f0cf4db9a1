-- Octets mean one thing, and once they are refused more of them change nothing.
use Rattle.std.proofs.Common.{◌≡◌, ℕ, List, [], ◌∷◌, ◌++◌, length, Some, None, refl, sym, ap, subst, inl, inr, ◌∙◌, append_assoc}
use Rattle.std.proofs.lemmas.List.{append-nil}
use Rattle.std.proofs.lemmas.List.Concat.{flat_map-cons}
use Rattle.zq_base.specs.declared.options.EngineOpts.{EngineOpts}
use Rattle.spec_zmtp.specs.declared.cause.Cause.{Cause}
use Rattle.spec_zmtp.specs.declared.cause.Refusal.{Refusal}
use Rattle.spec_zmtp.specs.declared.greeting.Judgement.{Judgement}
use Rattle.spec_zmtp.specs.declared.greeting.Judgement.TheVariants.{NeedMore, Good}
use Rattle.spec_zmtp.specs.FrameEncoding.{WireFrame, head_octets, octets_of}
use Rattle.spec_zmtp.specs.FrameRules.{Keeps, AllKeep, Breaks, by_flags, by_size, by_item, IsCutFrame}
use Rattle.spec_zmtp.specs.Greeting.{judged, refusal_in}
use Rattle.spec_zmtp.specs.Handshake.{Item}
use Rattle.spec_zmtp.specs.DecodedStream.{Unfinished, Refused, Decoded, stream_of, at_greeting, behind_frames, unfinished_behind, refused_behind, IsStream, Decodes, greeting_unfinished, greeting_refused, unfinished, refused}
use Rattle.spec_zmtp.proofs.FrameLemmas.{same_front, one_frame}
use Rattle.spec_zmtp.proofs.GreetingLemmas.{judged-append}
use Rattle.spec_zmtp.proofs.RuleLemmas.{cut_no_frame, break_no_frame, cut_no_break, one_break}

-- ---- two ways to cut one list into frames

data Cuts (opts : EngineOpts) (before fs gs : List WireFrame) (x y : List ℕ) : Type 0 where
  same : fs ≡ gs → x ≡ y → Cuts opts before fs gs x y
  shorter : (g : WireFrame) (more : List ℕ) → x ≡ octets_of g ++ more → Keeps opts (before ++ fs) g → Cuts opts before fs gs x y
  longer : (f : WireFrame) (more : List ℕ) → y ≡ octets_of f ++ more → Keeps opts (before ++ gs) f → Cuts opts before fs gs x y

cons_cuts : (opts : EngineOpts) (before fs gs : List WireFrame) (f g : WireFrame) (x y : List ℕ) → f ≡ g → Cuts opts (before ++ f ∷ []) fs gs x y → Cuts opts before (f ∷ fs) (g ∷ gs) x y
cons_cuts opts before fs gs f g x y e (same frames rest) = same (ap (λ (l : List WireFrame). f ∷ l) frames ∙ ap (λ (h : WireFrame). h ∷ gs) e) rest
cons_cuts opts before fs gs f g x y e (shorter r more split one) = shorter r more split (subst (λ (l : List WireFrame). Keeps opts l r) (append_assoc before (f ∷ []) fs) one)
cons_cuts opts before fs gs f g x y e (longer r more split one) =
    longer r more split (subst (λ (h : WireFrame). Keeps opts (before ++ (h ∷ gs)) r) e (subst (λ (l : List WireFrame). Keeps opts l r) (append_assoc before (f ∷ []) gs) one))

front_of : (f : WireFrame) (fs : List WireFrame) (x : List ℕ) → stream_of (f ∷ fs) ++ x ≡ octets_of f ++ (stream_of fs ++ x)
front_of f fs x = ap (λ (l : List ℕ). l ++ x) (flat_map-cons (λ r. octets_of r) f fs) ∙ append_assoc (octets_of f) (stream_of fs) x

cuts : (opts : EngineOpts) (before fs gs : List WireFrame) (x y : List ℕ) → AllKeep opts before fs → AllKeep opts before gs → stream_of fs ++ x ≡ stream_of gs ++ y → Cuts opts before fs gs x y
cuts opts before [] [] x y h k e = same refl e
cuts opts before [] (g ∷ gs) x y h k e = shorter g (stream_of gs ++ y) (e ∙ front_of g gs y) (subst (λ (l : List WireFrame). Keeps opts l g) (sym (append-nil before)) k.0)
cuts opts before (f ∷ fs) [] x y h k e = longer f (stream_of fs ++ x) (sym e ∙ front_of f fs x) (subst (λ (l : List WireFrame). Keeps opts l f) (sym (append-nil before)) h.0)
cuts opts before (f ∷ fs) (g ∷ gs) x y h k e =
    let one = one_frame f g (stream_of fs ++ x) (stream_of gs ++ y) h.0.frame k.0.frame (sym (front_of f fs x) ∙ e ∙ front_of g gs y) in
    cons_cuts opts before fs gs f g x y one.frame (cuts opts (before ++ f ∷ []) fs gs x y h.1 (subst (λ (z : WireFrame). AllKeep opts (before ++ z ∷ []) gs) (sym one.frame) k.1) one.rest)

stream_cuts : (opts : EngineOpts) (octets : List ℕ) (fs gs : List WireFrame) (x y : List ℕ) → IsStream opts octets fs x → IsStream opts octets gs y → Cuts opts [] fs gs x y
stream_cuts opts octets fs gs x y h k =
    cuts opts [] fs gs x y h.keep k.keep (same_front h.greeting k.greeting (stream_of fs ++ x) (stream_of gs ++ y) (h.whole ∙ sym k.whole) (sym h.all ∙ k.all)).1

-- ---- one meaning

-- a greeting that is judged stays so
pub judged_stays : (opts : EngineOpts) (octets more : List ℕ) (j : Judgement) → judged opts.role octets ≡ j → (j ≡ NeedMore → ⊥) → judged opts.role (octets ++ more) ≡ j
judged_stays opts octets more j e nothing = elim (judged-append opts.role octets more) [ inl h ↦ absurd (nothing (sym e ∙ h)) | inr h ↦ h ∙ e ]

good_stays : (opts : EngineOpts) (octets : List ℕ) (fs : List WireFrame) (x : List ℕ) → IsStream opts octets fs x → judged opts.role octets ≡ Good
good_stays opts octets fs x h = ap (λ (l : List ℕ). judged opts.role l) h.all ∙ judged_stays opts h.greeting (stream_of fs ++ x) Good h.accepted (λ e. absurd cc)

no_greeting_refused : (j : Judgement) (r : Refusal) → refusal_in j ≡ Some r → (j ≡ NeedMore) → ⊥
no_greeting_refused j r some e = let both : None ≡ Some r = ap refusal_in (sym e) ∙ some in absurd cc

no_good_refused : (j : Judgement) (r : Refusal) → refusal_in j ≡ Some r → (j ≡ Good) → ⊥
no_good_refused j r some e = let both : None ≡ Some r = ap refusal_in (sym e) ∙ some in absurd cc

two_unfinished : (opts : EngineOpts) (octets : List ℕ) (fs gs : List WireFrame) (x y : List ℕ) → IsStream opts octets fs x → IsStream opts octets gs y → IsCutFrame opts fs x → IsCutFrame opts gs y
    → behind_frames opts fs [] (unfinished_behind fs x) ≡ behind_frames opts gs [] (unfinished_behind gs y)
two_unfinished opts octets fs gs x y h k cut cut' =
    elim (stream_cuts opts octets fs gs x y h k) [
      | same e f ↦ ap (λ (l : List WireFrame). behind_frames opts l [] (unfinished_behind l x)) e ∙ ap (λ (r : List ℕ). behind_frames opts gs [] (unfinished_behind gs r)) f
      | shorter q more split one ↦ absurd (cut_no_frame opts fs x more q cut one split)
      | longer q more split one ↦ absurd (cut_no_frame opts gs y more q cut' one split)
    ]

unfinished_refused : (opts : EngineOpts) (octets : List ℕ) (fs gs : List WireFrame) (x y : List ℕ) (cause : Cause) (heard : List Item) → IsStream opts octets fs x → IsStream opts octets gs y → IsCutFrame opts fs x → Breaks opts gs y cause heard → ⊥
unfinished_refused opts octets fs gs x y cause heard h k cut break_ =
    elim (stream_cuts opts octets fs gs x y h k) [
      | same e f ↦ cut_no_break opts fs x cause heard cut (subst (λ (r : List ℕ). Breaks opts fs r cause heard) (sym f) (subst (λ (l : List WireFrame). Breaks opts l y cause heard) (sym e) break_))
      | shorter q more split one ↦ cut_no_frame opts fs x more q cut one split
      | longer q more split one ↦ break_no_frame opts gs y more cause heard q break_ one split
    ]

two_refused : (opts : EngineOpts) (octets : List ℕ) (fs gs : List WireFrame) (x y : List ℕ) (a b : Cause) (s t : List Item) → IsStream opts octets fs x → IsStream opts octets gs y → Breaks opts fs x a s → Breaks opts gs y b t
    → behind_frames opts fs s (refused_behind fs a) ≡ behind_frames opts gs t (refused_behind gs b)
two_refused opts octets fs gs x y a b s t h k break_ break' =
    elim (stream_cuts opts octets fs gs x y h k) [
      | same e f ↦
          let one = one_break opts fs x a b s t break_ (subst (λ (r : List ℕ). Breaks opts fs r b t) (sym f) (subst (λ (l : List WireFrame). Breaks opts l y b t) (sym e) break')) in
          ap (λ (l : List WireFrame). behind_frames opts l s (refused_behind l a)) e ∙ ap (λ (c : Cause). behind_frames opts gs s (refused_behind gs c)) one.cause ∙ ap (λ (i : List Item). behind_frames opts gs i (refused_behind gs b)) one.heard
      | shorter q more split one ↦ absurd (break_no_frame opts fs x more a s q break_ one split)
      | longer q more split one ↦ absurd (break_no_frame opts gs y more b t q break' one split)
    ]

pub one_meaning : (opts : EngineOpts) (octets : List ℕ) (d e : Decoded) → Decodes opts octets d → Decodes opts octets e → d ≡ e
one_meaning opts octets d e (greeting_unfinished j p) (greeting_unfinished k q) = p ∙ sym q
one_meaning opts octets d e (greeting_unfinished j p) (greeting_refused r k q) = absurd (no_greeting_refused _ r k j)
one_meaning opts octets d e (greeting_unfinished j p) (unfinished fs x s cut q) = let both : NeedMore ≡ Good = sym j ∙ good_stays opts octets fs x s in absurd cc
one_meaning opts octets d e (greeting_unfinished j p) (refused fs x c heard s break_ q) = let both : NeedMore ≡ Good = sym j ∙ good_stays opts octets fs x s in absurd cc
one_meaning opts octets d e (greeting_refused r k p) (greeting_unfinished j q) = absurd (no_greeting_refused _ r k j)
one_meaning opts octets d e (greeting_refused r k p) (greeting_refused r' k' q) =
    let both : Some r ≡ Some r' = sym k ∙ k' in
    let one : r ≡ r' = cc in
    p ∙ ap (λ (z : Refusal). at_greeting (Refused z)) one ∙ sym q
one_meaning opts octets d e (greeting_refused r k p) (unfinished fs x s cut q) = absurd (no_good_refused _ r k (good_stays opts octets fs x s))
one_meaning opts octets d e (greeting_refused r k p) (refused fs x c heard s break_ q) = absurd (no_good_refused _ r k (good_stays opts octets fs x s))
one_meaning opts octets d e (unfinished fs x s cut p) (greeting_unfinished j q) = let both : NeedMore ≡ Good = sym j ∙ good_stays opts octets fs x s in absurd cc
one_meaning opts octets d e (unfinished fs x s cut p) (greeting_refused r k q) = absurd (no_good_refused _ r k (good_stays opts octets fs x s))
one_meaning opts octets d e (unfinished fs x s cut p) (unfinished gs y t cut' q) = p ∙ two_unfinished opts octets fs gs x y s t cut cut' ∙ sym q
one_meaning opts octets d e (unfinished fs x s cut p) (refused gs y c heard t break_ q) = absurd (unfinished_refused opts octets fs gs x y c heard s t cut break_)
one_meaning opts octets d e (refused fs x c heard s break_ p) (greeting_unfinished j q) = let both : NeedMore ≡ Good = sym j ∙ good_stays opts octets fs x s in absurd cc
one_meaning opts octets d e (refused fs x c heard s break_ p) (greeting_refused r k q) = absurd (no_good_refused _ r k (good_stays opts octets fs x s))
one_meaning opts octets d e (refused fs x c heard s break_ p) (unfinished gs y t cut q) = absurd (unfinished_refused opts octets gs fs y x c heard t s cut break_)
one_meaning opts octets d e (refused fs x a heard s break_ p) (refused gs y b heard' t break' q) = p ∙ two_refused opts octets fs gs x y a b heard heard' s t break_ break' ∙ sym q

-- ---- refused for good

pub stream_more : (opts : EngineOpts) (octets more : List ℕ) (fs : List WireFrame) (x : List ℕ) → IsStream opts octets fs x → IsStream opts (octets ++ more) fs (x ++ more)
stream_more opts octets more fs x h = record {
  greeting = h.greeting;
  whole = h.whole;
  accepted = h.accepted;
  all = ap (λ (l : List ℕ). l ++ more) h.all ∙ append_assoc h.greeting (stream_of fs ++ x) more ∙ ap (λ (l : List ℕ). h.greeting ++ l) (append_assoc (stream_of fs) x more);
  keep = h.keep;
}

pub breaks_more : (opts : EngineOpts) (before : List WireFrame) (rest more : List ℕ) (cause : Cause) (heard : List Item) → Breaks opts before rest cause heard → Breaks opts before (rest ++ more) cause heard
breaks_more opts before rest more cause heard (by_flags f s shape rule nothing) = by_flags f (s ++ more) (ap (λ (l : List ℕ). l ++ more) shape) rule nothing
breaks_more opts before rest more cause heard (by_size kind long size s shape none fits over is nothing) = by_size kind long size (s ++ more) (ap (λ (l : List ℕ). l ++ more) shape ∙ append_assoc (head_octets kind long size) s more) none fits over is nothing
breaks_more opts before rest more cause heard (by_item f s shape frame none rule told) = by_item f (s ++ more) (ap (λ (l : List ℕ). l ++ more) shape ∙ append_assoc (octets_of f) s more) frame none rule told

pub refused_stays : (opts : EngineOpts) (octets more : List ℕ) (d : Decoded) (r : Refusal) → Decodes opts octets d → d.outcome ≡ Refused r → Decodes opts (octets ++ more) d
refused_stays opts octets more d r (greeting_unfinished j p) is = let both : Refused r ≡ Unfinished (length octets) = sym is ∙ ap (λ (d : Decoded). d.outcome) p in absurd cc
refused_stays opts octets more d r (greeting_refused r' k p) is =
    greeting_refused r' (ap refusal_in (judged_stays opts octets more (judged opts.role octets) refl (no_greeting_refused _ r' k)) ∙ k) p
refused_stays opts octets more d r (unfinished fs x s cut p) is = let both : Refused r ≡ unfinished_behind fs x = sym is ∙ ap (λ (d : Decoded). d.outcome) p in absurd cc
refused_stays opts octets more d r (refused fs x c heard s break_ p) is = refused fs (x ++ more) c heard (stream_more opts octets more fs x s) (breaks_more opts fs x more c heard break_) p
