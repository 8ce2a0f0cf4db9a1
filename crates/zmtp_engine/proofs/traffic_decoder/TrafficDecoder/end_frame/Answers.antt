use Rattle.zmtp_engine.specs.TrafficView.{hearing_of}
use Rattle.zmtp_engine.proofs.Commands.{same_grows, on_ok}
use Rattle.zmtp_engine.proofs.Breaking.{frame_broken}
use Rattle.zmtp_engine.proofs.traffic_decoder.TrafficDecoder.end_frame.Goals as goal

pub returns-in-More-clause-grows : goal.returns-in-More-clause-grows
returns-in-More-clause-grows c = on_ok c.end_part.result _ (same_grows (hearing_of c.args.self.now) (hearing_of c.end_part.new.self) c.end_part.ensures.said c.end_part.ensures.peer)

pub returns-in-Last-clause-grows : goal.returns-in-Last-clause-grows
returns-in-Last-clause-grows c = on_ok c.end_message.result _ (same_grows (hearing_of c.args.self.now) (hearing_of c.end_message.new.self) c.end_message.ensures.said c.end_message.ensures.peer)

pub returns-in-Command-clause-breaks : goal.returns-in-Command-clause-breaks
returns-in-Command-clause-breaks c = λ opts octets given l some. frame_broken opts octets given (hearing_of c.args.self.now) l c.requires.body

pub returns-in-More-clause-breaks : goal.returns-in-More-clause-breaks
returns-in-More-clause-breaks c = λ opts octets given l some. frame_broken opts octets given (hearing_of c.args.self.now) l c.requires.body

pub returns-in-Last-clause-breaks : goal.returns-in-Last-clause-breaks
returns-in-Last-clause-breaks c = λ opts octets given l some. frame_broken opts octets given (hearing_of c.args.self.now) l c.requires.body
