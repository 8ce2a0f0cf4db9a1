-- What the laws' counts are at first, and in the worked control runs, by hand from the tables.
use Rattle.std.specs.Prelude.{◌≡◌, ◌==◌, ℕ, cond, take, drop, sum_by}
use Rattle.spec_control.specs.Control.{begun}
use Rattle.spec_control.specs.ControlRun.{after_all, MayBeOver}
use Rattle.spec_control.specs.Quiescence.{tokens_left, item_costs}
use Rattle.spec_control.specs.ControlExamples.{Stories, crossed_run, session_run}
use Rattle.control_laws.specs.Room.{to_come}
use Rattle.control_laws.specs.History.{entries_left}

-- at a context's making: a Term of the root, which never comes, its asking, and as much in the history
pub record FirstRoomIsSo : Type 0 where
  pub mailboxes : (workers m : ℕ) → to_come (begun workers) m ≡ cond (0 == m) 1 0
  pub history : (workers : ℕ) → entries_left (begun workers).rows ≡ 2

module _ (stories : Stories) where
  -- two sockets and a pair, that are closed; a socket over tcp, of which the root is asked behind six events
  pub record CountsAreSo : Type 0 where
    -- for socket 1 a Term, a Stop, a PipeTerm and a PipeTermAck
    pub socket_room : to_come (after_all (take 5 (crossed_run stories)) (begun 1)) 2 ≡ 4
    -- for the root a Reap and a TermAck of each socket, and the Term of its own
    pub root_room : to_come (after_all (take 5 (crossed_run stories)) (begun 1)) 0 ≡ 5
    -- nothing comes for a socket that has ended
    pub room_left : to_come (after_all (take 17 (crossed_run stories)) (begun 1)) 2 ≡ 0
    -- one of the root, three of the socket, six of the session, four of the pair; of these nine come
    pub tokens : tokens_left (after_all (take 6 (session_run stories)) (begun 1)).rows ≡ 14
    pub costs : sum_by item_costs (drop 6 (session_run stories)) ≡ 9
    -- the same and two delimiters
    pub entries : entries_left (after_all (take 6 (session_run stories)) (begun 1)).rows ≡ 16

-- whatever the holder tells
abbrev pub WorkedCounts : Type 0
WorkedCounts = (stories : Stories) → CountsAreSo stories

-- a session that was asked can't say that its output is over while its end waits for an acknowledgement, and can behind that
module _ (stories : Stories) where
  pub record OutputWaits : Type 0 where
    pub not_yet : MayBeOver (after_all (take 12 (session_run stories)) (begun 1)) 2 → ⊥
    pub behind : MayBeOver (after_all (take 13 (session_run stories)) (begun 1)) 2

-- whatever the holder tells
abbrev pub OutputsWait : Type 0
OutputsWait = (stories : Stories) → OutputWaits stories
