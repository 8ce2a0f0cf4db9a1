-- The counts of the worked runs, computed.
use Rattle.std.specs.Prelude.{refl}
use Rattle.control_laws.specs.OnceExamples.{TakenExamples}

pub taken_examples : TakenExamples
taken_examples stories = record {
  crossed_terms = refl;
  crossed_pipe_terms = refl;
  crossed_pipe_acks = refl;
  root_terms = refl;
  session_pipe_terms = refl;
  socket_pipe_terms = refl;
  socket_pipe_acks = refl;
}
