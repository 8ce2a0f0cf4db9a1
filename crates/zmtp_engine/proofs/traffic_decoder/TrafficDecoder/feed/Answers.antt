use Rattle.std.proofs.Common.{◌≡◌, ℕ, List, refl, ◌++◌, take, sym, subst, ◌∙◌, arith}
use Rattle.std.proofs.lemmas.List.{take_all, append-nil}
use Rattle.zmtp_engine.specs.Hearing.{Hearing, Hears}
use Rattle.zmtp_engine.specs.TrafficView.{hearing_of}
use Rattle.zmtp_engine.proofs.Commands.{same_grows, grows_on}
use Rattle.zmtp_engine.proofs.Breaking.{none_refused, then_broken}
use Rattle.zmtp_engine.proofs.Feeds.{hears_open, not_refused, then_hears, settles, in_head_now}
use Rattle.zmtp_engine.proofs.traffic_decoder.TrafficDecoder.feed.Goals as goal

pub octets-init : goal.octets-init
octets-init c = record {
  within = omega arith;
  grows = same_grows (hearing_of c.args.self.now) (hearing_of c.args.self.now) refl refl;
  hears = λ opts octets given h. subst (λ (l : List ℕ). Hears opts l given (hearing_of c.args.self.now)) (sym (append-nil octets)) h;
  breaks = λ opts octets given h none some. none_refused c.args.self.now.refused none some;
}

pub end_frame-requires-clause-known : goal.end_frame-requires-clause-known
end_frame-requires-clause-known c =
    let w = c.requires.heard in (
      w.0,
      w.1 ++ take c.octets.taken c.args.piece.now,
      w.2,
      hears_open w.0 (w.1 ++ take c.octets.taken c.args.piece.now) w.2 (hearing_of c.octets.self) (not_refused c.octets.self.refused c.octets-test.ensures) (c.octets.invariant.hears w.0 w.1 w.2 w.3),
    )

pub octets-preserved-in-Ok : goal.octets-preserved-in-Ok
octets-preserved-in-Ok c = record {
  within = c.octets.invariant.within;
  grows = grows_on (hearing_of c.args.self.now) (hearing_of c.octets.self) (hearing_of c.end_frame.new.self) c.octets.invariant.grows c.in-Ok.ensures.grows;
  hears = λ opts octets given h.
      c.in-Ok.ensures.hears opts (octets ++ take c.octets.taken c.args.piece.now) given
      (hears_open opts (octets ++ take c.octets.taken c.args.piece.now) given (hearing_of c.octets.self) (not_refused c.octets.self.refused c.octets-test.ensures) (c.octets.invariant.hears opts octets given h));
  breaks = λ opts octets given h none some.
      c.in-Ok.ensures.breaks opts (octets ++ take c.octets.taken c.args.piece.now) given
      (hears_open opts (octets ++ take c.octets.taken c.args.piece.now) given (hearing_of c.octets.self) (not_refused c.octets.self.refused c.octets-test.ensures) (c.octets.invariant.hears opts octets given h)) some;
}

pub returns-in-Err-clause-hears : goal.returns-in-Err-clause-hears
returns-in-Err-clause-hears c = λ opts octets given h.
    subst (λ (x : Hearing). Hears opts (octets ++ take c.octets.taken c.args.piece.now) given x) (sym c.in-Err.ensures.err) (c.octets.invariant.hears opts octets given h)

pub hear_head-taken-requires-clause-head : goal.hear_head-taken-requires-clause-head
hear_head-taken-requires-clause-head c =
    let w = c.requires.heard in
    in_head_now w.0 (w.1 ++ take c.octets.taken c.args.piece.now) w.2 (hearing_of c.octets.self)
    (hears_open w.0 (w.1 ++ take c.octets.taken c.args.piece.now) w.2 (hearing_of c.octets.self) (not_refused c.octets.self.refused c.octets-test.ensures) (c.octets.invariant.hears w.0 w.1 w.2 w.3))
    (sym c.left.ensures ∙ c.in-None.is)

pub hear_head-taken-requires-clause-known : goal.hear_head-taken-requires-clause-known
hear_head-taken-requires-clause-known c =
    let w = c.requires.heard in (
      w.0,
      w.1 ++ take c.octets.taken c.args.piece.now,
      w.2,
      hears_open w.0 (w.1 ++ take c.octets.taken c.args.piece.now) w.2 (hearing_of c.octets.self) (not_refused c.octets.self.refused c.octets-test.ensures) (c.octets.invariant.hears w.0 w.1 w.2 w.3),
    )

pub octets-preserved : goal.octets-preserved
octets-preserved c = record {
  within = omega (arith, c.hear_head-taken.ensures.within, c.octets.invariant.within);
  grows = grows_on (hearing_of c.args.self.now) (hearing_of c.octets.self) (hearing_of c.hear_head-taken.new.self) c.octets.invariant.grows
      (same_grows (hearing_of c.octets.self) (hearing_of c.hear_head-taken.new.self) c.hear_head-taken.ensures.said c.hear_head-taken.ensures.peer);
  hears = λ opts octets given h.
      then_hears opts octets c.args.piece.now c.octets.taken c.hear_head-taken.result given (hearing_of c.octets.self) (hearing_of c.hear_head-taken.new.self) (not_refused c.octets.self.refused c.octets-test.ensures) (c.octets.invariant.hears opts octets given h)
      (λ l. c.hear_head-taken.ensures.hears opts (octets ++ take c.octets.taken c.args.piece.now) given l);
  breaks = λ opts octets given h none some.
      then_broken opts octets c.args.piece.now c.octets.taken c.hear_head-taken.result
      (c.hear_head-taken.ensures.breaks opts (octets ++ take c.octets.taken c.args.piece.now) given
      (hears_open opts (octets ++ take c.octets.taken c.args.piece.now) given (hearing_of c.octets.self) (not_refused c.octets.self.refused c.octets-test.ensures) (c.octets.invariant.hears opts octets given h)) some);
}

pub octets-preserved-in-Ok-hear_body : goal.octets-preserved-in-Ok-hear_body
octets-preserved-in-Ok-hear_body c = record {
  within = omega (arith, c.in-Ok-hear_body.ensures.ok, c.octets.invariant.within);
  grows = grows_on (hearing_of c.args.self.now) (hearing_of c.octets.self) (hearing_of c.hear_body.new.self) c.octets.invariant.grows
      (same_grows (hearing_of c.octets.self) (hearing_of c.hear_body.new.self) c.in-Ok-hear_body.ensures.said c.in-Ok-hear_body.ensures.peer);
  hears = λ opts octets given h.
      then_hears opts octets c.args.piece.now c.octets.taken c.in-Ok-hear_body.count given (hearing_of c.octets.self) (hearing_of c.hear_body.new.self) (not_refused c.octets.self.refused c.octets-test.ensures) (c.octets.invariant.hears opts octets given h)
      (λ l. c.in-Ok-hear_body.ensures.hears opts (octets ++ take c.octets.taken c.args.piece.now) given l);
  breaks = λ opts octets given h none some. none_refused c.hear_body.new.self.refused (c.in-Ok-hear_body.ensures.refused ∙ not_refused c.octets.self.refused c.octets-test.ensures) some;
}

pub returns-in-Err-hear_body-clause-hears : goal.returns-in-Err-hear_body-clause-hears
returns-in-Err-hear_body-clause-hears c = λ opts octets given h.
    subst (λ (x : Hearing). Hears opts (octets ++ take c.octets.taken c.args.piece.now) given x) (sym c.in-Err-hear_body.ensures.err) (c.octets.invariant.hears opts octets given h)

pub returns-then-taken-piece-clause-hears : goal.returns-then-taken-piece-clause-hears
returns-then-taken-piece-clause-hears c = λ opts octets given h.
    let all : take c.octets.taken c.args.piece.now ≡ c.args.piece.now = take_all c.octets.taken c.args.piece.now (omega arith) in
    rw all at (c.octets.invariant.hears opts octets given h)

pub returns-then-taken-piece-2-clause-hears : goal.returns-then-taken-piece-2-clause-hears
returns-then-taken-piece-2-clause-hears c = λ opts octets given h.
    let all : take c.octets.taken c.args.piece.now ≡ c.args.piece.now = take_all c.octets.taken c.args.piece.now (omega arith) in
    rw all at (c.octets.invariant.hears opts octets given h)

pub returns-clause-hears : goal.returns-clause-hears
returns-clause-hears c = λ opts octets given h.
    settles opts octets c.args.piece.now c.octets.taken given (hearing_of c.octets.self) c.octets-test.ensures (c.octets.invariant.hears opts octets given h)

pub returns-then-taken-piece-clause-breaks : goal.returns-then-taken-piece-clause-breaks
returns-then-taken-piece-clause-breaks c = λ opts octets given h none some. none_refused c.octets.self.refused (not_refused c.octets.self.refused c.octets-test.ensures) some

pub returns-then-taken-piece-2-clause-breaks : goal.returns-then-taken-piece-2-clause-breaks
returns-then-taken-piece-2-clause-breaks c = λ opts octets given h none some. none_refused c.octets.self.refused (not_refused c.octets.self.refused c.octets-test.ensures) some

pub returns-clause-breaks : goal.returns-clause-breaks
returns-clause-breaks c = λ opts octets given h none some. (c.octets.invariant.hears opts octets given h, c.octets.invariant.breaks opts octets given h none some)
