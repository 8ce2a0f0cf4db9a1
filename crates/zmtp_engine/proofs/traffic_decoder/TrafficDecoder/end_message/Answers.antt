use Rattle.std.proofs.Common.{◌≡◌, ℕ, ◌+◌, List, [], ◌∷◌, ◌++◌, length, refl, sym, ap, subst, inl, ◌∙◌, arith}
use Rattle.std.proofs.lemmas.List.{length-append, length-map}
use Rattle.spec_zmtp.specs.FrameEncoding.{WireFrame}
use Rattle.spec_zmtp.specs.FrameRules.{gathered}
use Rattle.zmtp_engine.specs.Hearing.{Hearing, Hears}
use Rattle.zmtp_engine.specs.TrafficView.{hearing_of}
use Rattle.spec_zmtp.proofs.SizeLemmas.{unfinished_small}
use Rattle.zmtp_engine.proofs.Ends.{frame_ends, message_shakes}
use Rattle.zmtp_engine.proofs.traffic_decoder.TrafficDecoder.end_message.Goals as goal

pub of_frames-requires : goal.of_frames-requires
of_frames-requires c =
    let k = c.requires.known in
    let few = unfinished_small k.0 k.3.frames k.3.keep in
    let parts : length c.args.self.now.parts.items ≡ length (gathered k.3.frames).unfinished =
    ap (λ (l : List (List ℕ)). length l) k.3.parts ∙ length-map (gathered k.3.frames).unfinished (λ (f : WireFrame). f.body) in
    let all : length c.replace-parts.result.items ≡ length c.args.self.now.parts.items + 1 =
    ap (λ (l : List (List ℕ)). length l) (ap (λ v. v.items) c.replace-parts.ensures.value ∙ c.push_reserved.ensures.items) ∙ length-append _ (c.of_bytes.result ∷ []) ∙ ap (λ (l : List (List ℕ)). length l + 1) c.in_ok-reserve_exact.ensures.items in
    (omega (arith, all), omega (arith, all, parts, few.few))

pub returns-clause-hears : goal.returns-clause-hears
returns-clause-hears c = λ opts octets given l.
    let old : Hearing = hearing_of c.args.self.now in
    let whole : c.of_bytes.result ≡ c.args.self.now.body =
    c.of_bytes.ensures ∙ c.in_ok-body.ensures.ok in
    let parts : c.push_reserved.new.self.items ≡ c.args.self.now.parts.items ++ c.args.self.now.body ∷ [] =
    c.push_reserved.ensures.items ∙ ap (λ (l : List (List ℕ)). l ++ c.of_bytes.result ∷ []) c.in_ok-reserve_exact.ensures.items ∙ ap (λ (b : List ℕ). c.args.self.now.parts.items ++ b ∷ []) whole in
    let message : c.of_frames.result ≡ c.args.self.now.parts.items ++ c.args.self.now.body ∷ [] = c.of_frames.ensures ∙ ap (λ v. v.items) c.replace-parts.ensures.value ∙ parts in
    let queue : c.push_back_reserved.new.self.items ≡ c.args.self.now.queue.items ++ (c.args.self.now.parts.items ++ c.args.self.now.body ∷ []) ∷ [] =
    c.push_back_reserved.ensures.items ∙ ap (λ (q : List (List (List ℕ))). q ++ c.of_frames.result ∷ []) c.in_ok-reserve.ensures.items ∙ ap (λ (m : List (List ℕ)). c.args.self.now.queue.items ++ m ∷ []) message in
    let none : c.replace-parts.new.dest.items ≡ [] = ap (λ v. v.items) c.replace-parts.ensures.after ∙ c.new.ensures.items in
    let new : Hearing = record old { reader = _; parts = c.replace-parts.new.dest.items; body = c.take.new.self; queue = c.push_back_reserved.new.self.items; offset = _; begun = 0; earlier = 0 } in
    let shakes = message_shakes opts octets given old new l c.requires.body (inl c.requires.kind) refl refl refl refl in
    subst (λ (x : Hearing). Hears opts octets given x) (sym c.next_frame.ensures.next) (frame_ends opts octets given old new l c.requires.body (record {
      shakes = shakes.0;
      reader = refl;
      stage = shakes.1.0;
      unrefused = shakes.1.1;
      parts = rw c.requires.kind none;
      queue = rw c.requires.kind queue;
      offset = refl;
      begun = refl;
      earlier = rw c.requires.kind refl;
      refused = c.requires.unrefused;
    }))
