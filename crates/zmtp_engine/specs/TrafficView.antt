-- What a traffic decoder's fields stand for.
use Rattle.zmtp_engine.specs.declared.traffic_decoder.TrafficDecoder.{TrafficDecoder}
use Rattle.zmtp_engine.specs.Hearing.{Hearing}

-- what is kept, without where it lies in memory
abbrev pub hearing_of : TrafficDecoder → Hearing
hearing_of h = record {
  opts = h.mech.opts;
  reader = h.reader;
  stage = h.mech.stage;
  peer = h.peer;
  said = h.said.items;
  kind = h.kind;
  body = h.body;
  parts = h.parts.items;
  queue = h.queue.items;
  offset = h.offset;
  begun = h.begun;
  earlier = h.earlier;
  refused = h.refused;
}
