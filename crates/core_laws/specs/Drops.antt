-- How many messages of a pipe were dropped by receives, and the row that a settled pipe has by that count (own choice).
use Rattle.std.specs.Prelude.{◌≡◌, ◌≢◌, ◌+◌, ◌-◌, ◌==◌, ℕ, Bool, true, false, List, [], ◌++◌, Some, filter, length, nat_eq, sum_by, take, if◌then◌else◌}
use Rattle.zq_base.specs.Ends.{PipeId, other_end}
use Rattle.spec_pattern.specs.PipeStep.{same_pipe, taken_from}
use Rattle.spec_pattern.specs.declared.answers.Skip.{Skip}
use Rattle.spec_control.specs.declared.entry.Item.{Item}
use Rattle.spec_control.specs.Control.{Control, Settlement, begun, owner_of}
use Rattle.spec_control.specs.ControlRun.{after_all, IsControlRun}
use Rattle.spec_run.specs.declared.answer.Answer.{Answer}
use Rattle.spec_run.specs.declared.journal.SettledRow.{SettledRow}
use Rattle.spec_run.specs.declared.script.Call.{Call}
use Rattle.spec_run.specs.Act.{Act, steps_in}
use Rattle.spec_run.specs.Fate.{is_heard_at}
use Rattle.spec_run.specs.OpenSocket.{OpenSock}
use Rattle.spec_run.specs.OwnedRun.{settlement_of, IsCountedBy}
use Rattle.zq_world.specs.Piece.{Piece, piece_of, pipe_steps}
use Rattle.zq_world.specs.Way.{CallsOne}
use Rattle.zq_world.specs.Shown.{row_in_pieces}
use Rattle.socket_laws.specs.Given.{pipes_taken, given_at}
use Rattle.socket_laws.specs.Sides.{AreAtEnds}

-- the row of a settled pipe by how many of its messages were dropped: a reader that publishes hears what it takes, and any other gives what it doesn't drop
abbrev pub row_dropped : (hears : Bool) → PipeId → (drops : ℕ) → Settlement → SettledRow
row_dropped true p drops s = record {
  counts = record { pipe = p; sent = s.counts.sent; given = 0; heard = s.counts.got; dropped = 0; written = 0; lost = 0; rest = s.counts.rest };
  reason = s.reason;
}
row_dropped false p drops s = record {
  counts = record { pipe = p; sent = s.counts.sent; given = s.counts.got - drops; heard = 0; dropped = drops; written = 0; lost = 0; rest = s.counts.rest };
  reason = s.reason;
}

-- a drop is of a pipe of this pair
abbrev pub is_told_of : PipeId → Skip → Bool
is_told_of p skip = nat_eq skip.pair.0 p.pair.0

-- how many of these drops of an object's call are of the pipe: those of its pair, where the object reads it
abbrev pub drops_told : Control → (object : ℕ) → PipeId → List Skip → ℕ
drops_told c o p skips = if owner_of c (other_end p) == o then length (filter (is_told_of p) skips) else 0

module _ {N S : Type 0} where
  -- how many of the messages that a call took from the pipe it dropped, where the reader doesn't publish: of all that it took the first, as many as it tells
  abbrev pub drops_of_call : PipeId → Piece N S → ℕ
  drops_of_call p x = length (filter (same_pipe p) (take (length x.skips) (pipes_taken (steps_in x.acts))))

  -- and how many all these calls dropped
  abbrev pub drops_at : PipeId → List (Piece N S) → ℕ
  drops_at p pieces = sum_by (drops_of_call p) pieces

pub record DropsGoOn (N S : Type 0) : Type 0 where
  -- what was taken was given or dropped
  pub whole : (p : PipeId) (pieces : List (Piece N S)) → given_at p pieces + drops_at p pieces ≡ length (taken_from p (pipe_steps pieces))
  -- by further calls
  pub more : (p : PipeId) (before after : List (Piece N S)) → drops_at p (before ++ after) ≡ drops_at p before + drops_at p after
  -- a call that tells no drop drops nothing
  pub none : (p : PipeId) (pieces : List (Piece N S)) (caller : ℕ) (reaps : Bool) (acts : List (Act N S)) → drops_at p (pieces ++ piece_of caller reaps acts []) ≡ drops_at p pieces
  -- the row of a settled pipe
  pub settled : (c : Control) (pieces : List (Piece N S)) (p : PipeId) (s : Settlement) → settlement_of c p ≡ Some s → IsCountedBy (pipe_steps pieces) s →
      row_in_pieces c pieces p ≡ Some (row_dropped (is_heard_at c p) p (drops_at p pieces) s)

-- behind a control run: a call of a socket at whose ends its steps are adds the drops that it tells of each pipe that the socket reads
abbrev pub CallsTellDrops : (N S : Type 0) → Type 0
CallsTellDrops N S = (workers : ℕ) (items : List (Item N S)) → IsControlRun (begun workers) items → let c = after_all items (begun workers) in
    (o : ℕ) → o ≢ 0 → (caller : ℕ) (asks : Call) (old new : OpenSock) (answer : Answer) (told told_now : List Skip) (before after : List (Piece N S)) →
    (calls : CallsOne caller asks old new answer told told_now before after) → AreAtEnds c (λ i. i == o) (calls.pump ++ calls.acts) →
    (p : PipeId) → drops_at p after ≡ drops_at p before + drops_told c o p calls.skips
