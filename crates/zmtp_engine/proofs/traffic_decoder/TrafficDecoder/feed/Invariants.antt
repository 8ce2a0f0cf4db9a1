use Rattle.std.proofs.Common.{◌≡◌, None, ℕ, ◌+◌, ◌-◌, ◌*◌, ◌≤◌, ◌++◌, List, length, take}
use Rattle.std.specs.Prelude.{IsSome}
use Rattle.zq_base.specs.declared.options.EngineOpts.{EngineOpts}
use Rattle.zmtp_engine.specs.Hearing.{Hears, Grows, weight}
use Rattle.zmtp_engine.specs.TrafficView.{hearing_of}
use Rattle.zmtp_engine.specs.Refusing.{JustBroken}
use Rattle.zmtp_engine.proofs.traffic_decoder.TrafficDecoder.feed.Given as goal

abbrev pub invariant-octets : goal.invariant-octets
invariant-octets l = record {
  within : l.taken ≤ length l.piece;
  grows : Grows (hearing_of l.fn.self) (hearing_of l.self);
  hears : (opts : EngineOpts) (octets : List ℕ) (given : List (List (List ℕ))) → Hears opts octets given (hearing_of l.fn.self) → Hears opts (octets ++ take l.taken l.piece) given (hearing_of l.self);
  breaks : (opts : EngineOpts) (octets : List ℕ) (given : List (List (List ℕ))) → Hears opts octets given (hearing_of l.fn.self) → l.fn.self.refused ≡ None → IsSome l.self.refused → JustBroken opts (octets ++ take l.taken l.piece);
}

abbrev pub decreases-octets : goal.decreases-octets
decreases-octets l = 3 * (length l.piece - l.taken) + weight l.self.reader l.self.refused
