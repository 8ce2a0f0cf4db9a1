-- How a table of dropped messages goes on with what is done (own choice).
use Rattle.std.specs.Prelude.{◌≡◌, ◌≢◌, ◌+◌, ◌==◌, ℕ, Bool, List, [], ◌++◌, drop, length}
use Rattle.zq_base.specs.Ends.{PipeId}
use Rattle.spec_pattern.specs.declared.answers.Skip.{Skip}
use Rattle.spec_control.specs.declared.entry.Item.{Item}
use Rattle.spec_control.specs.Control.{begun}
use Rattle.spec_control.specs.ControlRun.{after_all, IsControlRun}
use Rattle.spec_run.specs.declared.answer.Answer.{Answer}
use Rattle.spec_run.specs.declared.script.Call.{Call}
use Rattle.spec_run.specs.Act.{Act}
use Rattle.spec_run.specs.OpenSocket.{OpenSock}
use Rattle.zq_world.specs.Piece.{Piece, piece_of}
use Rattle.zq_world.specs.Way.{CallsOne}
use Rattle.socket_laws.specs.Sides.{AreAtEnds}
use Rattle.core_laws.specs.Drops.{drops_at, drops_told}
use Rattle.core_laws.specs.Table.{drops_in}

module _ {N S : Type 0} where
  -- a table has what these calls dropped of each pipe
  abbrev pub CountsDrops : List ℕ → List (Piece N S) → Type 0
  CountsDrops drops pieces = (p : PipeId) → drops_in drops p ≡ drops_at p pieces

pub record TablesGoOn (N S : Type 0) : Type 0 where
  -- it has so behind a call that tells no drop
  pub none : (drops : List ℕ) (pieces : List (Piece N S)) (caller : ℕ) (reaps : Bool) (acts : List (Act N S)) → CountsDrops drops pieces → CountsDrops drops (pieces ++ piece_of caller reaps acts [])
  -- and, behind a control run, behind a call of a socket at whose ends its steps are, where what the call tells is added
  pub told : (workers : ℕ) (items : List (Item N S)) → IsControlRun (begun workers) items → let c = after_all items (begun workers) in
      (o : ℕ) → o ≢ 0 → (caller : ℕ) (asks : Call) (old new : OpenSock) (answer : Answer) (told told_now : List Skip) (before after : List (Piece N S)) →
      (calls : CallsOne caller asks old new answer told told_now before after) → AreAtEnds c (λ i. i == o) (calls.pump ++ calls.acts) → (drops now : List ℕ) →
      CountsDrops drops before → ((p : PipeId) → drops_in now p ≡ drops_in drops p + drops_told c o p (drop (length told) told_now)) → CountsDrops now after
