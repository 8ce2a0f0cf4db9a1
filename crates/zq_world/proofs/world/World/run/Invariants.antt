use Rattle.std.proofs.Common.{◌≡◌, ◌<◌, ◌++◌, false, map, take}
use Rattle.zq_world.specs.ByEvents.{core_event}
use Rattle.zq_world.proofs.world.World.run.Given as goal

-- the events so far are done, and none of them where memory was wanting before
abbrev pub invariant-events : goal.invariant-events
invariant-events g l = record {
  done : l.self ≡ record l.fn.self { events = l.fn.self.events ++ map core_event (take l.event-index l.events) };
  stops : 0 < l.event-index → l.fn.self.wanted ≡ false;
}
