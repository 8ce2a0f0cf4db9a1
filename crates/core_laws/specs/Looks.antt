-- What a look of the reaper leaves of the steps past (own choice, after libzmq's `pipe_t::check_read`).
use Rattle.std.specs.Prelude.{◌≡◌, ◌<◌, ◌++◌, ℕ, List, [], ◌∷◌, Option, Some, None}
use Rattle.zq_base.specs.declared.ids.EndId.{EndId}
use Rattle.zq_base.specs.Ends.{PipeId}
use Rattle.msg_pipe.specs.Known.{Known}
use Rattle.msg_pipe.specs.Told.{front_step}
use Rattle.msg_pipe.specs.declared.pipes.Front.{Front}
use Rattle.spec_pattern.specs.PipeStep.{PipeStep, read_through}
use Rattle.spec_control.specs.Control.{Control, next_pair}
use Rattle.spec_run.specs.OwnedRun.{settlement_of}
use Rattle.desk.specs.Holding.{Holding, read_in}
use Rattle.socket_laws.specs.Standing.{PastStands}
use Rattle.closed_ends.specs.Ending.{LooksOnce}

-- the steps past stand with the step of the look, at a pipe that goes by its name and was not settled
abbrev pub ReaperLooksGoOn : {S O I N : Type 0} → Known S O I N → Type 0
ReaperLooksGoOn {S} {O} {I} {N} K = (c : Control) (names : PipeId → Option N) → ((p : PipeId) (n : N) → names p ≡ Some n → p.pair.0 < next_pair c) →
    (old new : S) (past : List PipeStep) (o : ℕ) (e : EndId) (found : Front) (h : Holding N) →
    names (read_through e) ≡ read_in (h.ends o) e → settlement_of c (read_through e) ≡ None → LooksOnce K old new o e found h →
    PastStands K c names old past → PastStands K c names new (past ++ front_step (read_through e) found ∷ [])
