-- How often a command comes in a control run (own choice, after libzmq's `own_t` and `pipe_t`).
use Rattle.std.specs.Prelude.{◌≡◌, ◌≢◌, ◌<◌, ◌≤◌, ◌+◌, ◌==◌, ◌&&◌, ℕ, Bool, true, false, List, [], ◌∷◌, flat_map, count_by}
use Rattle.zq_base.specs.Ends.{other_end}
use Rattle.zq_base.specs.declared.ids.EndId.{EndId}
use Rattle.spec_control.specs.declared.end.EndState.TheVariants.{Gone}
use Rattle.spec_control.specs.declared.letter.Letter.{Letter}
use Rattle.spec_control.specs.declared.letter.Word.{Word}
use Rattle.spec_control.specs.declared.letter.Word.TheVariants.{Own, Plug, TermReq, Term, TermAck, PipeBind, PipeTerm, PipeTermAck, Stop, Reap}
use Rattle.spec_control.specs.declared.entry.Did.{Did}
use Rattle.spec_control.specs.declared.entry.Did.TheVariants.{Asked, Delivered, Delimited}
use Rattle.spec_control.specs.declared.entry.Item.{Item}
use Rattle.spec_control.specs.declared.entry.Item.TheVariants.{Event, Seen}
use Rattle.spec_control.specs.Place.{At}
use Rattle.spec_control.specs.Rows.{obj}
use Rattle.spec_control.specs.Control.{Control, begun, is_end, place_of, owner_of, next_pair}
use Rattle.spec_control.specs.ControlRun.{after_all, IsControlRun}

-- the command that an event takes from its mailbox, if any
abbrev pub letters_in : {N S : Type 0} → Did N S → List Letter
letters_in (Asked req reply h) = []
letters_in (Delivered slot letter h) = letter ∷ []
letters_in (Delimited e h) = []

-- and an event or a look
abbrev pub letters_of : {N S : Type 0} → Item N S → List Letter
letters_of (Event entry) = letters_in entry.did
letters_of (Seen sight) = []

-- all that a run takes, in order
abbrev pub all_taken : {N S : Type 0} → List (Item N S) → List Letter
all_taken items = flat_map letters_of items

-- the command is a Term
abbrev pub is_term_word : Word → Bool
is_term_word (Own child) = false
is_term_word (Plug end) = false
is_term_word (TermReq child) = false
is_term_word Term = true
is_term_word (TermAck child) = false
is_term_word (PipeBind e peer) = false
is_term_word (PipeTerm e) = false
is_term_word (PipeTermAck e) = false
is_term_word Stop = false
is_term_word (Reap socket) = false

-- the command tells this object to end
abbrev pub is_term : ℕ → Letter → Bool
is_term i letter = is_term_word letter.word && i == letter.to.0

-- the command is a PipeTerm for this end
abbrev pub is_pipe_term_word : EndId → Word → Bool
is_pipe_term_word e (Own child) = false
is_pipe_term_word e (Plug end) = false
is_pipe_term_word e (TermReq child) = false
is_pipe_term_word e Term = false
is_pipe_term_word e (TermAck child) = false
is_pipe_term_word e (PipeBind d peer) = false
is_pipe_term_word e (PipeTerm d) = is_end e d
is_pipe_term_word e (PipeTermAck d) = false
is_pipe_term_word e Stop = false
is_pipe_term_word e (Reap socket) = false

-- the same of a letter
abbrev pub is_pipe_term : EndId → Letter → Bool
is_pipe_term e letter = is_pipe_term_word e letter.word

-- the command is a PipeTermAck for this end
abbrev pub is_pipe_ack_word : EndId → Word → Bool
is_pipe_ack_word e (Own child) = false
is_pipe_ack_word e (Plug end) = false
is_pipe_ack_word e (TermReq child) = false
is_pipe_ack_word e Term = false
is_pipe_ack_word e (TermAck child) = false
is_pipe_ack_word e (PipeBind d peer) = false
is_pipe_ack_word e (PipeTerm d) = false
is_pipe_ack_word e (PipeTermAck d) = is_end e d
is_pipe_ack_word e Stop = false
is_pipe_ack_word e (Reap socket) = false

-- the same of a letter
abbrev pub is_pipe_ack : EndId → Letter → Bool
is_pipe_ack e letter = is_pipe_ack_word e letter.word

-- of the commands that pass a test one was put at the most: what was put is taken, or waits in this mailbox
pub record ComesOnce (test : Letter → Bool) (slot : ℕ) (past : List Letter) (boxes : ℕ → List Letter) : Type 0 where
  pub here : count_by test past + count_by test (boxes slot) ≤ 1
  pub elsewhere : (m : ℕ) → m ≢ slot → count_by test (boxes m) ≡ 0

-- an end has got one PipeTermAck, settled its pipe once and put one PipeTermAck for the other end
pub record HasSettled (e : EndId) (past : List Letter) (c : Control) : Type 0 where
  pub heard : count_by (is_pipe_ack e) past ≡ 1
  pub settled : count_by (λ s. is_end e s.end) c.settlements ≡ 1
  pub sent : count_by (is_pipe_ack (other_end e)) past + count_by (is_pipe_ack (other_end e)) (c.boxes (obj c.rows (owner_of c (other_end e))).slot) ≡ 1

-- where these commands were taken
pub record AreOrderly (past : List Letter) (c : Control) : Type 0 where
  -- each object is told to end at most once
  pub terms : (i : ℕ) → ComesOnce (is_term i) (obj c.rows i).slot past c.boxes
  -- each end gets at most one PipeTerm and one PipeTermAck, and so sends at most one of each: what it gets only the other end sends
  pub pipe_terms : (e : EndId) → ComesOnce (is_pipe_term e) (obj c.rows (owner_of c e)).slot past c.boxes
  pub pipe_acks : (e : EndId) → ComesOnce (is_pipe_ack e) (obj c.rows (owner_of c e)).slot past c.boxes
  -- and settles its pipe at most once
  pub settlements : (e : EndId) → count_by (λ s. is_end e s.end) c.settlements ≤ 1
  -- an end of a pair that was made, and is gone, has done all of it
  pub gone : (e : EndId) → 0 < e.pair.0 → e.pair.0 < next_pair c → place_of c e ≡ At Gone → HasSettled e past c

-- whatever order commands are taken in, after each control run
abbrev pub CommandsComeOnce : (N S : Type 0) → Type 0
CommandsComeOnce N S = (workers : ℕ) (items : List (Item N S)) → IsControlRun (begun workers) items →
    AreOrderly (all_taken items) (after_all items (begun workers))
