use Rattle.std.proofs.Common.{◌≡◌, ◌+◌, ◌-◌, ◌<◌, ◌≤◌, ◌++◌, None, length, take}
use Rattle.std.specs.Prelude.{vec_capacity}
use Rattle.spec_zmtp.specs.Greeting.{greeting_refusal}
use Rattle.zmtp_engine.specs.TrafficView.{hearing_of}
use Rattle.zmtp_engine.proofs.stream_decoder.StreamDecoder.greet.Given as goal

abbrev pub invariant-octets : goal.invariant-octets
invariant-octets l = record {
  role : l.self.role ≡ l.fn.self.role;
  hearing : hearing_of l.self.traffic ≡ hearing_of l.fn.self.traffic;
  filled : l.self.greeting.items ≡ l.fn.self.greeting.items ++ take l.count l.piece;
  within : l.count ≤ length l.piece;
  room : 64 ≤ vec_capacity l.self.greeting;
  few : length l.fn.self.greeting.items + l.count ≤ 64;
  long : length l.self.greeting.items ≡ length l.fn.self.greeting.items + l.count;
  open_ : l.self.fault ≡ None;
  fine : 0 < l.count → greeting_refusal l.self.role l.self.greeting.items ≡ None;
}

abbrev pub decreases-octets : goal.decreases-octets
decreases-octets l = length l.piece - l.count
