-- More octets mean more.
use Rattle.std.proofs.Common.{◌≡◌, ℕ, List, [], ◌∷◌, ◌++◌, Option, Some, None, refl, sym, ap, subst, ◌∙◌, append_assoc}
use Rattle.std.specs.Prelude.{IsSome}
use Rattle.std.specs.Option.{option_or}
use mathlib.Core.List.{IsPrefix}
use Rattle.std.proofs.lemmas.List.{append-nil, map-append}
use Rattle.std.proofs.lemmas.List.Concat.{flat_map-cons}
use Rattle.zq_base.specs.declared.options.EngineOpts.{EngineOpts}
use Rattle.zq_base.specs.declared.options.Peer.{Peer}
use Rattle.spec_zmtp.specs.declared.cause.Refusal.{Refusal}
use Rattle.spec_zmtp.specs.declared.command.Command as command
use Rattle.spec_zmtp.specs.declared.flags.FrameKind.{FrameKind}
use Rattle.spec_zmtp.specs.declared.flags.FrameKind.TheVariants.{Last, More, Command}
use Rattle.spec_zmtp.specs.declared.greeting.Judgement.{Judgement}
use Rattle.spec_zmtp.specs.declared.greeting.Judgement.TheVariants.{NeedMore, Good}
use Rattle.spec_zmtp.specs.declared.handshake.Awaited.{Awaited}
use Rattle.spec_zmtp.specs.declared.handshake.Stage.{Stage}
use Rattle.spec_zmtp.specs.declared.handshake.Stage.TheVariants as stage
use Rattle.spec_zmtp.specs.FrameEncoding.{WireFrame, octets_of}
use Rattle.spec_zmtp.specs.FrameRules.{Gathered, gathered, gather_at, bodies, items_of, Keeps, AllKeep}
use Rattle.spec_zmtp.specs.Greeting.{judged, refusal_in}
use Rattle.spec_zmtp.specs.Handshake.{Item, Handshake, followed_by, handshake, next}
use Rattle.spec_zmtp.specs.DecodedStream.{Unfinished, Outcome, Decoded, Decodes, GoesOn, stream_of, at_greeting, behind_frames, unfinished_behind, refused_behind, IsStream, greeting_unfinished, greeting_refused, unfinished, refused}
use Rattle.spec_zmtp.proofs.FrameLemmas.{same_front, one_frame}
use Rattle.spec_zmtp.proofs.HandshakeLemmas.{handshake-more, peer-waiting}
use Rattle.spec_zmtp.proofs.RuleLemmas.{gathered-push, cut_no_frame, break_no_frame}
use Rattle.spec_zmtp.proofs.StreamLemmas.{judged_stays, one_meaning, stream_more, refused_stays}

-- ---- fronts

pub front_refl : {A : Type 0} (xs : List A) → IsPrefix xs xs
front_refl xs = ([], append-nil xs)

pub front_trans : {A : Type 0} (xs ys zs : List A) → IsPrefix xs ys → IsPrefix ys zs → IsPrefix xs zs
front_trans xs ys zs p q = (p.0 ++ q.0, sym (append_assoc xs p.0 q.0) ∙ ap (λ (l : List _). l ++ q.0) p.1 ∙ q.1)

gather_front : (k : FrameKind) (f : WireFrame) (g : Gathered) → IsPrefix g.whole (gather_at k f g).whole
gather_front Last f g = (bodies (g.unfinished ++ f ∷ []) ∷ [], refl)
gather_front More f g = front_refl g.whole
gather_front Command f g = front_refl g.whole

pub gathered_front : (fs gs : List WireFrame) → IsPrefix (gathered fs).whole (gathered (fs ++ gs)).whole
gathered_front fs [] = subst (λ (l : List WireFrame). IsPrefix (gathered fs).whole (gathered l).whole) (sym (append-nil fs)) (front_refl (gathered fs).whole)
gathered_front fs (g ∷ gs) =
    let one : IsPrefix (gathered fs).whole (gathered (fs ++ g ∷ [])).whole =
    subst (λ (x : Gathered). IsPrefix (gathered fs).whole x.whole) (sym (gathered-push fs g)) (gather_front g.kind g (gathered fs)) in
    front_trans (gathered fs).whole (gathered (fs ++ g ∷ [])).whole (gathered (fs ++ (g ∷ gs))).whole one
    (subst (λ (l : List WireFrame). IsPrefix (gathered (fs ++ g ∷ [])).whole (gathered l).whole) (append_assoc fs (g ∷ []) gs) (gathered_front (fs ++ g ∷ []) gs))

-- ---- the handshake

-- it goes on at its end
pub record ShakesOn (a b : Handshake) : Type 0 where
  pub said : IsPrefix a.said b.said
  pub known : IsSome a.peer → (b.peer ≡ a.peer) × (b.said ≡ a.said)

shakes_refl : (a : Handshake) → ShakesOn a a
shakes_refl a = record { said = front_refl a.said; known = λ some. (refl, refl) }

shakes_trans : (a b c : Handshake) → ShakesOn a b → ShakesOn b c → ShakesOn a c
shakes_trans a b c p q = record {
  said = front_trans a.said b.said c.said p.said q.said;
  known = λ some.
      let first = p.known some in
      let second = q.known (subst (λ (o : Option Peer). IsSome o) (sym first.0) some) in
      (second.0 ∙ first.0, second.1 ∙ first.1);
}

no_some : {A : Type 0} → IsSome {T = Peer} None → A
no_some e = absurd cc

-- a peer that is known stays
stays_known : (p q : Option Peer) → IsSome p → option_or p q ≡ p
stays_known None q some = no_some some
stays_known (Some p) q some = refl

-- nothing is said by what isn't waiting
quiet_at : (opts : EngineOpts) (s : Stage) (item : Item) → ((a : Awaited) → s ≡ stage.Waiting a → ⊥) → (next opts s item).said ≡ []
quiet_at opts (stage.Waiting a) item open_ = absurd (open_ a refl)
quiet_at opts stage.Running item open_ = refl
quiet_at opts (stage.Refused cause) item open_ = refl

one_more : (opts : EngineOpts) (xs : List Item) (y : Item) → ShakesOn (handshake opts xs) (handshake opts (xs ++ y ∷ []))
one_more opts xs y =
    let h : Handshake = handshake opts xs in
    let n : Handshake = next opts h.stage y in
    subst (λ (x : Handshake). ShakesOn h x) (sym (handshake-more opts xs y)) (record {
      said = (n.said, refl);
      known = λ some. (
        stays_known h.peer n.peer some,
        ap (λ (l : List command.Command). h.said ++ l)
            (quiet_at opts h.stage y (λ a is. no_some (subst (λ (o : Option Peer). IsSome o) (peer-waiting opts xs a is) some)))
            ∙ append-nil h.said,
      );
    })

pub shakes_on : (opts : EngineOpts) (xs ys : List Item) → ShakesOn (handshake opts xs) (handshake opts (xs ++ ys))
shakes_on opts xs [] = subst (λ (l : List Item). ShakesOn (handshake opts xs) (handshake opts l)) (sym (append-nil xs)) (shakes_refl (handshake opts xs))
shakes_on opts xs (y ∷ ys) =
    shakes_trans (handshake opts xs) (handshake opts (xs ++ y ∷ [])) (handshake opts (xs ++ (y ∷ ys))) (one_more opts xs y)
    (subst (λ (l : List Item). ShakesOn (handshake opts (xs ++ y ∷ [])) (handshake opts l)) (append_assoc xs (y ∷ []) ys) (shakes_on opts (xs ++ y ∷ []) ys))

-- ---- more octets

-- no frame that keeps the rules stands behind these
abbrev pub NoFrame : EngineOpts → List WireFrame → List ℕ → Type 0
NoFrame opts before y = (q : WireFrame) (more : List ℕ) → Keeps opts before q → y ≡ octets_of q ++ more → ⊥

pub front_of : (f : WireFrame) (fs : List WireFrame) (x : List ℕ) → stream_of (f ∷ fs) ++ x ≡ octets_of f ++ (stream_of fs ++ x)
front_of f fs x = ap (λ (l : List ℕ). l ++ x) (flat_map-cons (λ r. octets_of r) f fs) ∙ append_assoc (octets_of f) (stream_of fs) x

pub more_frames : (opts : EngineOpts) (before fs gs : List WireFrame) (x y : List ℕ) → AllKeep opts before fs → AllKeep opts before gs → stream_of fs ++ x ≡ stream_of gs ++ y
    → NoFrame opts (before ++ gs) y → (zs : List WireFrame) × (gs ≡ fs ++ zs)
more_frames opts before [] gs x y h k e none = (gs, refl)
more_frames opts before (f ∷ fs) [] x y h k e none =
    absurd (none f (stream_of fs ++ x) (subst (λ (l : List WireFrame). Keeps opts l f) (sym (append-nil before)) h.0) (sym e ∙ front_of f fs x))
more_frames opts before (f ∷ fs) (g ∷ gs) x y h k e none =
    let one = one_frame f g (stream_of fs ++ x) (stream_of gs ++ y) h.0.frame k.0.frame (sym (front_of f fs x) ∙ e ∙ front_of g gs y) in
    let keeps : AllKeep opts (before ++ f ∷ []) gs = subst (λ (z : WireFrame). AllKeep opts (before ++ z ∷ []) gs) (sym one.frame) k.1 in
    let none' : NoFrame opts ((before ++ f ∷ []) ++ gs) y =
    subst (λ (l : List WireFrame). NoFrame opts l y) (sym (append_assoc before (f ∷ []) gs)) (subst (λ (z : WireFrame). NoFrame opts (before ++ (z ∷ gs)) y) (sym one.frame) none) in
    let k' = more_frames opts (before ++ f ∷ []) fs gs x y h.1 keeps one.rest none' in
    (k'.0, ap (λ (z : WireFrame). z ∷ gs) (sym one.frame) ∙ ap (λ (l : List WireFrame). f ∷ l) k'.1)

pub stream_frames : (opts : EngineOpts) (octets : List ℕ) (fs gs : List WireFrame) (x y : List ℕ) → IsStream opts octets fs x → IsStream opts octets gs y → NoFrame opts gs y → (zs : List WireFrame) × (gs ≡ fs ++ zs)
stream_frames opts octets fs gs x y h k none =
    more_frames opts [] fs gs x y h.keep k.keep (same_front h.greeting k.greeting (stream_of fs ++ x) (stream_of gs ++ y) (h.whole ∙ sym k.whole) (sym h.all ∙ k.all)).1 none

good_stays : (opts : EngineOpts) (octets : List ℕ) (fs : List WireFrame) (x : List ℕ) → IsStream opts octets fs x → judged opts.role octets ≡ Good
good_stays opts octets fs x h = ap (λ (l : List ℕ). judged opts.role l) h.all ∙ judged_stays opts h.greeting (stream_of fs ++ x) Good h.accepted (λ e. absurd cc)

-- what is meant by frames, with how the stream stands behind them, goes on behind more frames
pub behind : (opts : EngineOpts) (fs zs : List WireFrame) (heard : List Item) (o o' : Outcome) → GoesOn (behind_frames opts fs [] o) (behind_frames opts (fs ++ zs) heard o')
behind opts fs zs heard o o' =
    let items : items_of (fs ++ zs) ++ heard ≡ (items_of fs ++ []) ++ (items_of zs ++ heard) =
    ap (λ (l : List Item). l ++ heard) (map-append _ fs zs) ∙ append_assoc (items_of fs) (items_of zs) heard ∙ ap (λ (l : List Item). l ++ (items_of zs ++ heard)) (sym (append-nil (items_of fs))) in
    let on : ShakesOn (handshake opts (items_of fs ++ [])) (handshake opts (items_of (fs ++ zs) ++ heard)) =
    subst (λ (l : List Item). ShakesOn (handshake opts (items_of fs ++ [])) (handshake opts l)) (sym items) (shakes_on opts (items_of fs ++ []) (items_of zs ++ heard)) in
    record { said = on.said; messages = gathered_front fs zs; known = on.known }

goes_by : (d d' e e' : Decoded) → d ≡ d' → e ≡ e' → GoesOn d' e' → GoesOn d e
goes_by d d' e e' p q f = subst (λ (x : Decoded). GoesOn x e) (sym p) (subst (λ (x : Decoded). GoesOn d' x) (sym q) f)

same_goes : (d e : Decoded) → e ≡ d → GoesOn d e
same_goes d e p = subst (λ (x : Decoded). GoesOn d x) (sym p) (record { said = front_refl d.said; messages = front_refl d.messages; known = λ some. (refl, refl) })

first_goes : (o : Outcome) (e : Decoded) → GoesOn (at_greeting o) e
first_goes o e = record { said = (e.said, refl); messages = (e.messages, refl); known = λ some. no_some some }

no_good : (j : Judgement) (r : Refusal) → refusal_in j ≡ Some r → (j ≡ Good) → ⊥
no_good j r some e = let both : None ≡ Some r = ap refusal_in (sym e) ∙ some in absurd cc

-- frames that keep the rules, read of octets, stand at the front of what all octets mean
pub stands_in : (opts : EngineOpts) (octets : List ℕ) (e : Decoded) (fs : List WireFrame) (x : List ℕ) (o : Outcome) → IsStream opts octets fs x → Decodes opts octets e → GoesOn (behind_frames opts fs [] o) e
stands_in opts octets e fs x o s (greeting_unfinished j q) = let both : NeedMore ≡ Good = sym j ∙ good_stays opts octets fs x s in absurd cc
stands_in opts octets e fs x o s (greeting_refused r g q) = absurd (no_good _ r g (good_stays opts octets fs x s))
stands_in opts octets e fs x o s (unfinished gs y t cut q) =
    let z = stream_frames opts octets fs gs x y s t (λ f rest keeps split. cut_no_frame opts gs y rest f cut keeps split) in
    goes_by (behind_frames opts fs [] o) (behind_frames opts fs [] o) e (behind_frames opts (fs ++ z.0) [] (unfinished_behind gs y)) refl
    (q ∙ ap (λ (l : List WireFrame). behind_frames opts l [] (unfinished_behind gs y)) z.1) (behind opts fs z.0 [] o (unfinished_behind gs y))
stands_in opts octets e fs x o s (refused gs y c heard t b q) =
    let z = stream_frames opts octets fs gs x y s t (λ f rest keeps split. break_no_frame opts gs y rest c heard f b keeps split) in
    goes_by (behind_frames opts fs [] o) (behind_frames opts fs [] o) e (behind_frames opts (fs ++ z.0) heard (refused_behind gs c)) refl
    (q ∙ ap (λ (l : List WireFrame). behind_frames opts l heard (refused_behind gs c)) z.1) (behind opts fs z.0 heard o (refused_behind gs c))

pub more_means : (opts : EngineOpts) (octets more : List ℕ) (d e : Decoded) → Decodes opts octets d → Decodes opts (octets ++ more) e → GoesOn d e
more_means opts octets more d e (greeting_unfinished j p) k = subst (λ (x : Decoded). GoesOn x e) (sym p) (first_goes (Unfinished _) e)
more_means opts octets more d e (greeting_refused r g p) k =
    same_goes d e (one_meaning opts (octets ++ more) e d k (refused_stays opts octets more d r (greeting_refused r g p) (ap (λ (x : Decoded). x.outcome) p)))
more_means opts octets more d e (unfinished fs x s cut p) k =
    goes_by d (behind_frames opts fs [] (unfinished_behind fs x)) e e p refl
    (stands_in opts (octets ++ more) e fs (x ++ more) (unfinished_behind fs x) (stream_more opts octets more fs x s) k)
more_means opts octets more d e (refused fs x c heard s b p) k =
    same_goes d e (one_meaning opts (octets ++ more) e d k (refused_stays opts octets more d _ (refused fs x c heard s b p) (ap (λ (x : Decoded). x.outcome) p)))
