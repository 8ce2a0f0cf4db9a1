-- What a stream decoder's fields stand for.
use Rattle.zmtp_engine.specs.declared.stream_decoder.StreamDecoder.{StreamDecoder}
use Rattle.zmtp_engine.specs.TrafficView.{hearing_of}
use Rattle.zmtp_engine.specs.Listening.{Listening}

-- what is kept, without where it lies in memory
abbrev pub listening_of : StreamDecoder → Listening
listening_of l = record { role = l.role; greeting = l.greeting.items; fault = l.fault; hearing = hearing_of l.traffic }
