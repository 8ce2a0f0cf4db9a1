-- What is no run, beside the worked runs: for each relation one that it refuses.
use Rattle.std.specs.Prelude.{◌≡◌, ℕ, Bool, true, false, List, [], ◌∷◌, Some, None}
use Rattle.zq_base.specs.Message.{Frames}
use Rattle.zq_base.specs.declared.ids.PairId.{PairId}
use Rattle.zq_base.specs.declared.endpoint.Endpoint.{Endpoint}
use Rattle.zq_base.specs.declared.kind.Kind.TheVariants.{Pull}
use Rattle.spec_run.specs.declared.script.Call.TheVariants as call
use Rattle.spec_pattern.specs.PipeStep.{Commit, DelimiterLook}
use Rattle.spec_control.specs.declared.object.ObjKind.TheVariants.{Root, Socket}
use Rattle.spec_control.specs.Control.{Settlement, end_of}
use Rattle.spec_control.specs.ControlExamples.{Stories}
use Rattle.spec_run.specs.declared.answer.Answer.TheVariants as answer
use Rattle.spec_run.specs.Act.{Act, Try, moments_in}
use Rattle.spec_run.specs.OpenSocket.{OpenSock}
use Rattle.spec_run.specs.Pump.{EndsTaking}
use Rattle.spec_run.specs.SocketCall.{leave_asked, ConnectsWhere}
use Rattle.spec_run.specs.Standing.{ActorStanding, DoesTry}
use Rattle.spec_run.specs.OwnedRun.{OwnedRun, IsSettledSo, LooksHoldAt}
use Rattle.spec_run.specs.InTurns.{ActorStep, IsInTurns}
use Rattle.spec_run.specs.Journal.{run_journal}
use Rattle.spec_run.specs.ExampleParts.{line_nr, line_of_object}
use Rattle.spec_run.specs.ClosingExample.{closing_script, closing_run, closing_journal}
use Rattle.spec_run.specs.ShortExample.{short_turned, short_run}

-- a message is left, and nobody asked the end that reads its pipe
abbrev pub unreasoned : Settlement
unreasoned = record { end = end_of 1 false; counts = record { sent = 1; got = 0; rest = 1 }; reason = None }

-- an actor whose first socket is closed, and which receives from it
abbrev pub receives_closed : ActorStanding
receives_closed = record { lines = line_nr 5 (call.Recv 0 1) ∷ []; tried = 0; told = []; mine = record { names = Some 1 ∷ []; socks = [] } }

-- an actor whose lines are over, and which has left this socket open
abbrev pub leaves_open : OpenSock → ActorStanding
leaves_open s = record { lines = []; tried = 0; told = []; mine = record { names = Some 1 ∷ []; socks = s ∷ [] } }

pub record RefusedRuns : Type 0 where
  -- a rest has a reason
  pub reasoned : (run : OwnedRun ℕ ℕ) → IsSettledSo run unreasoned → ⊥
  -- no message is given behind the close of its socket
  pub given_to_none : (t : Try ℕ ℕ) (new : ActorStanding) (from_ : PairId) (m : Frames) → t.answer ≡ answer.Got from_ m → DoesTry receives_closed t new → ⊥
  -- a pump takes no 65th letter
  pub few_letters : (slot : ℕ) (acts : List (Act ℕ ℕ)) → EndsTaking slot 65 acts → ⊥
  -- an actor that left a socket open goes on to close it
  pub goes_on : (s : OpenSock) (new : ActorStanding) → ActorStep {N = ℕ} {S = ℕ} (leaves_open s) [] new → ⊥
  -- a run that has turns left is not over while the root lives
  pub not_over : (stories : Stories) → IsInTurns closing_script 1 4 (short_turned stories) (short_run stories) → ⊥
  -- a socket does not end behind the root
  pub child_first : (stories : Stories) → run_journal closing_script 1 (closing_run stories) ≡ record closing_journal { ended = line_of_object 0 Root ∷ line_of_object 1 (Socket Pull) ∷ [] } → ⊥
  -- a ROUTER's connect over tcp is not called unsupported where its pump found the root asked
  pub asked_first : (to : Endpoint) (stopped : Bool) (old new : OpenSock) (t : Try ℕ ℕ) → leave_asked (moments_in t.pump) ≡ true → t.answer ≡ answer.NotSupported → ConnectsWhere false stopped to old t new → ⊥
  -- no delimiter is found where a message is left, and no more is committed than there is room for
  pub read_out : LooksHoldAt 2 (end_of 1 true) (Commit (end_of 1 true) [] ∷ DelimiterLook (end_of 1 true) ∷ []) → ⊥
  pub has_room : LooksHoldAt 1 (end_of 1 true) (Commit (end_of 1 true) [] ∷ Commit (end_of 1 true) [] ∷ []) → ⊥
