-- What a look at the front of a closed socket's pipe leaves of the steps past (own choice, after libzmq's `pipe_t::check_read`).
use Rattle.std.specs.Prelude.{◌≡◌, ◌++◌, ℕ, List, [], ◌∷◌, Option}
use Rattle.zq_base.specs.declared.ids.EndId.{EndId}
use Rattle.zq_base.specs.Ends.{PipeId}
use Rattle.spec_pattern.specs.PipeStep.{PipeStep, read_through}
use Rattle.msg_pipe.specs.Known.{Known}
use Rattle.msg_pipe.specs.Told.{front_step}
use Rattle.msg_pipe.specs.declared.pipes.Front.{Front}
use Rattle.end_table.specs.Past.{OneName, IsPast}
use Rattle.desk.specs.Holding.{Holding, read_in}
use Rattle.closed_ends.specs.Ending.{LooksOnce}

-- where looks are exact, the steps past stand with the step of the look, which follows from them
abbrev pub LooksGoOn : {S O I N : Type 0} → Known S O I N → Type 0
LooksGoOn {S} {O} {I} {N} K = (goes : PipeId → Option N) (capacity : PipeId → ℕ) (old new : S) (past : List PipeStep) (o : ℕ) (e : EndId) (found : Front) (h : Holding N) →
    OneName goes → goes (read_through e) ≡ read_in (h.ends o) e → LooksOnce K old new o e found h →
    IsPast K goes capacity old past → IsPast K goes capacity new (past ++ front_step (read_through e) found ∷ [])
