use Rattle.std.proofs.Common.{sym, take}
use Rattle.zmtp_engine.specs.Conversation.{Follows, IsCurrent, no_past, fed}
use Rattle.zq_call.proofs.TellsLemmas.{feed_ok, nothing_told}
use Rattle.zq_call.proofs.speech.listen.Goals as goal

pub returns : goal.returns
returns c =
    let f = c.feed.ensures.follows (no_past c.args.opts) c.in_ok-engine.ensures.follows in
    let k = feed_ok (Follows (fed c.args.octets.now f.0 (no_past c.args.opts)) c.feed.new.self)
    (λ e. Follows (fed (take e.taken c.args.octets.now) f.0 (no_past c.args.opts)) c.feed.new.self) (IsCurrent c.feed.new.self)
    c.feed.result (sym c.in_ok-map_err.ensures.variant) f.1 c.feed.ensures.current in
    nothing_told c.args.opts c.args.octets.now f.0 c.feed.new.self k.0 k.1
