use Rattle.std.proofs.Common.{◌≡◌, ℕ, ◌+◌, ◌-◌, ◌^◌, ◌<◌, ◌≤◌, min, List, length, take, refl, ap, ◌∙◌, arith}
use Rattle.std.proofs.lemmas.List.{length-take-le}
use Rattle.zmtp_frame.specs.Reading.{InBody, Feeds}
use Rattle.zmtp_engine.specs.TrafficView.{hearing_of}
use Rattle.zmtp_engine.proofs.Steps.{body_feeds, body_goes_on}
use Rattle.zmtp_engine.proofs.traffic_decoder.TrafficDecoder.hear_body.Goals as goal
use Rattle.zmtp_engine.proofs.traffic_decoder.TrafficDecoder.hear_body.Goals.{then-left-piece, else-left-piece}

pub returns-clause-hears : goal.returns-clause-hears
returns-clause-hears c = λ opts octets given l.
    let n = c.if-left-piece.count in
    let bound : (n ≤ length c.args.piece.now) × (n ≤ c.args.left) × (0 < n) =
    elim c.if-left-piece.branch [ then-left-piece w ↦ (omega arith, omega arith, omega (arith, c.requires.left)) | else-left-piece w ↦ (omega arith, omega arith, omega (arith, c.requires.some)) ] in
    let part : List ℕ = take n c.args.piece.now in
    let len : length part ≡ n = length-take-le n c.args.piece.now bound.0 in
    let f : Feeds (InBody c.args.left) part c.feed-taken.result.0 c.feed-taken.result.1 c.feed-taken.new.self = rw c.requires.body at c.feed-taken.ensures.step in
    let b = body_feeds c.args.left part c.feed-taken.result.0 c.feed-taken.result.1 c.feed-taken.new.self (omega (arith, len, bound.2)) (omega (arith, len, bound.1)) f in
    let taken : c.feed-taken.result.0 ≡ n = b.0 ∙ len in
    let same : take c.feed-taken.result.0 c.args.piece.now ≡ part = ap (λ (k : ℕ). take k c.args.piece.now) taken in
    body_goes_on opts octets part (take c.feed-taken.result.0 c.args.piece.now) given (hearing_of c.args.self.now) _ c.args.left b.1.0 l c.requires.body b.1.1
    (record { opts = refl; stage = refl; peer = refl; said = refl; parts = refl; queue = refl; offset = refl; earlier = refl }) c.requires.unrefused b.1.2 refl c.in_ok-add.ensures.ok
    (c.saturating_add-self.ensures ∙ ap (λ (k : ℕ). min (c.args.self.now.begun + k) (2 ^ 64 - 1)) b.0) same
