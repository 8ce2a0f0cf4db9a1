-- Each whole message of a stream is one that a peer accepts.
use Rattle.std.proofs.Common.{◌≡◌, ℕ, ◌+◌, ◌≤◌, None, List, [], ◌∷◌, ◌++◌, length, sym, ap, subst, append_assoc, arith}
use Rattle.std.specs.Prelude.{All}
use Rattle.std.proofs.lemmas.List.{append-nil, length-append, length-map, map_push}
use Rattle.std.proofs.lemmas.List.Elements.{All-nil, All-cons, All-head, All-tail}
use Rattle.zq_base.specs.Message.{IsFrame}
use Rattle.zq_base.specs.declared.options.EngineOpts.{EngineOpts}
use Rattle.spec_zmtp.specs.declared.flags.FrameKind.{FrameKind}
use Rattle.spec_zmtp.specs.declared.flags.FrameKind.TheVariants.{Last, More, Command}
use Rattle.spec_zmtp.specs.FrameEncoding.{WireFrame, IsWireFrame}
use Rattle.spec_zmtp.specs.FrameRules.{Gathered, gathered, gather_at, bodies, kind_refusal, AllKeep}
use Rattle.spec_zmtp.specs.Put.{IsSendable}
use Rattle.spec_zmtp.specs.DecodedStream.{Decoded, Decodes, greeting_unfinished, greeting_refused, unfinished, refused}
use Rattle.spec_zmtp.proofs.RuleLemmas.{gathered-push}
use Rattle.spec_zmtp.proofs.SizeLemmas.{kind_kept, not_last_place, most_limit}

-- whole messages that a peer accepts, and less than a full one unfinished
record Fits (g : Gathered) : Type 0 where
  whole : All IsSendable g.whole
  few : length g.unfinished ≤ 1023
  frames : All IsFrame (bodies g.unfinished)

all-push : {A : Type 0} (P : A → Type 0) (xs : List A) (x : A) → All P xs → P x → All P (xs ++ x ∷ [])
all-push P [] x a one = All-cons P x [] one (All-nil P)
all-push P (y ∷ xs) x a one = All-cons P y (xs ++ x ∷ []) (All-head P y xs a) (all-push P xs x (All-tail P y xs a) one)

bodies-push : (fs : List WireFrame) (f : WireFrame) → All IsFrame (bodies fs) → IsFrame f.body → All IsFrame (bodies (fs ++ f ∷ []))
bodies-push fs f a one = subst (λ (l : List (List ℕ)). All IsFrame l) (sym (map_push _ fs f)) (all-push IsFrame (bodies fs) f.body a one)

fits_at : (opts : EngineOpts) (before : List WireFrame) (k : FrameKind) (f : WireFrame) → IsWireFrame f → kind_refusal opts before k ≡ None → Fits (gathered before) → Fits (gather_at k f (gathered before))
fits_at opts before Last f w e s =
    let room = not_last_place opts before _ e in
    let u : List WireFrame = (gathered before).unfinished in
    let more : length (u ++ f ∷ []) ≡ length u + 1 = length-append u (f ∷ []) in
    let frames : length (bodies (u ++ f ∷ [])) ≡ length (u ++ f ∷ []) = length-map (u ++ f ∷ []) (λ (g : WireFrame). g.body) in
    let body : IsFrame f.body = omega (arith, w.within, most_limit f.kind) in
    record {
      whole = all-push IsSendable (gathered before).whole (bodies (u ++ f ∷ [])) s.whole
          (omega (arith, frames, more), omega (arith, frames, more, s.few, room), bodies-push u f s.frames body);
      few = omega arith;
      frames = All-nil IsFrame;
    }
fits_at opts before More f w e s =
    let room = not_last_place opts before _ e in
    let u : List WireFrame = (gathered before).unfinished in
    let more : length (u ++ f ∷ []) ≡ length u + 1 = length-append u (f ∷ []) in
    record { whole = s.whole; few = omega (arith, more, s.few, room); frames = bodies-push u f s.frames (omega (arith, w.within, most_limit f.kind)) }
fits_at opts before Command f w e s = s

all_fit : (opts : EngineOpts) (before fs : List WireFrame) → AllKeep opts before fs → Fits (gathered before) → Fits (gathered (before ++ fs))
all_fit opts before [] k s = subst (λ (l : List WireFrame). Fits (gathered l)) (sym (append-nil before)) s
all_fit opts before (f ∷ fs) k s =
    let one : Fits (gathered (before ++ f ∷ [])) = subst (λ (g : Gathered). Fits g) (sym (gathered-push before f)) (fits_at opts before f.kind f k.0.frame (kind_kept opts before f.kind f.long k.0.in_place) s) in
    subst (λ (l : List WireFrame). Fits (gathered l)) (append_assoc before (f ∷ []) fs) (all_fit opts (before ++ f ∷ []) fs k.1 one)

fit : (opts : EngineOpts) (fs : List WireFrame) → AllKeep opts [] fs → All IsSendable (gathered fs).whole
fit opts fs k = (all_fit opts [] fs k (record { whole = All-nil IsSendable; few = omega arith; frames = All-nil IsFrame })).whole

messages_fit : (d e : Decoded) → d ≡ e → All IsSendable e.messages → All IsSendable d.messages
messages_fit d e is a = subst (λ (x : Decoded). All IsSendable x.messages) (sym is) a

pub all_sendable : (opts : EngineOpts) (octets : List ℕ) (d : Decoded) → Decodes opts octets d → All IsSendable d.messages
all_sendable opts octets d (greeting_unfinished j e) = messages_fit d _ e (All-nil IsSendable)
all_sendable opts octets d (greeting_refused r g e) = messages_fit d _ e (All-nil IsSendable)
all_sendable opts octets d (unfinished fs x s cut e) = messages_fit d _ e (fit opts fs s.keep)
all_sendable opts octets d (refused fs x c heard s b e) = messages_fit d _ e (fit opts fs s.keep)
