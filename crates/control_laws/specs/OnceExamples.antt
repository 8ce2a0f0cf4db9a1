-- How often commands come in the worked control runs, by hand from the tables.
use Rattle.std.specs.Prelude.{◌≡◌, true, false, count_by}
use Rattle.spec_control.specs.Control.{end_of}
use Rattle.spec_control.specs.ControlExamples.{Stories, crossed_run, session_run}
use Rattle.control_laws.specs.Once.{all_taken, is_term, is_pipe_term, is_pipe_ack}

module _ (stories : Stories) where
  -- where both ends are asked before either PipeTerm comes, and where the session's end is asked by nobody
  pub record TakenAreSo : Type 0 where
    pub crossed_terms : count_by (is_term 1) (all_taken (crossed_run stories)) ≡ 1
    pub crossed_pipe_terms : count_by (is_pipe_term (end_of 1 true)) (all_taken (crossed_run stories)) ≡ 1
    pub crossed_pipe_acks : count_by (is_pipe_ack (end_of 1 true)) (all_taken (crossed_run stories)) ≡ 1
    -- nobody tells the root
    pub root_terms : count_by (is_term 0) (all_taken (session_run stories)) ≡ 0
    -- the socket's end asks the session's, which asks nothing back
    pub session_pipe_terms : count_by (is_pipe_term (end_of 1 false)) (all_taken (session_run stories)) ≡ 1
    pub socket_pipe_terms : count_by (is_pipe_term (end_of 1 true)) (all_taken (session_run stories)) ≡ 0
    pub socket_pipe_acks : count_by (is_pipe_ack (end_of 1 true)) (all_taken (session_run stories)) ≡ 1

-- whatever the holder tells
abbrev pub TakenExamples : Type 0
TakenExamples = (stories : Stories) → TakenAreSo stories
