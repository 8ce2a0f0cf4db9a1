use Rattle.std.proofs.Common.{◌≡◌, ℕ, List, [], ◌∷◌, ◌++◌, refl, sym, ap, subst, inr, ◌∙◌}
use Rattle.zmtp_engine.specs.Hearing.{Hearing, Hears}
use Rattle.zmtp_engine.specs.TrafficView.{hearing_of}
use Rattle.zmtp_engine.proofs.Ends.{frame_ends, message_shakes}
use Rattle.zmtp_engine.proofs.traffic_decoder.TrafficDecoder.end_part.Goals as goal

pub returns-clause-hears : goal.returns-clause-hears
returns-clause-hears c = λ opts octets given l.
    let old : Hearing = hearing_of c.args.self.now in
    let whole : c.of_bytes.result ≡ c.args.self.now.body =
    c.of_bytes.ensures ∙ c.in_ok-body.ensures.ok in
    let parts : c.push_reserved.new.self.items ≡ c.args.self.now.parts.items ++ c.args.self.now.body ∷ [] =
    c.push_reserved.ensures.items ∙ ap (λ (l : List (List ℕ)). l ++ c.of_bytes.result ∷ []) c.in_ok-reserve.ensures.items ∙ ap (λ (b : List ℕ). c.args.self.now.parts.items ++ b ∷ []) whole in
    let new : Hearing = record old { reader = _; parts = c.push_reserved.new.self.items; body = c.take.new.self; offset = _; begun = 0; earlier = c.saturating_add.result } in
    let shakes = message_shakes opts octets given old new l c.requires.body (inr c.requires.kind) refl refl refl refl in
    subst (λ (x : Hearing). Hears opts octets given x) (sym c.next_frame.ensures.next) (frame_ends opts octets given old new l c.requires.body (record {
      shakes = shakes.0;
      reader = refl;
      stage = shakes.1.0;
      unrefused = shakes.1.1;
      parts = rw c.requires.kind parts;
      queue = rw c.requires.kind refl;
      offset = refl;
      begun = refl;
      earlier = rw c.requires.kind c.saturating_add.ensures;
      refused = c.requires.unrefused;
    }))
