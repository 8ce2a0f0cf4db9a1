-- What is left where a run is done: nothing (zmq_ctx_term(3)).
use Rattle.std.specs.Prelude.{◌≡◌, ◌<◌, ℕ, Bool, true, false, count_by}
use Rattle.std.specs.List.{list_all}
use Rattle.zq_base.specs.declared.ids.EndId.{EndId}
use Rattle.spec_control.specs.Stage.{has_ended}
use Rattle.spec_control.specs.Place.{is_unmade}
use Rattle.spec_control.specs.Rows.{obj}
use Rattle.spec_control.specs.Control.{Control, is_end, next_pair, place_of}
use Rattle.spec_control.specs.Reply.{root_state}
use Rattle.zq_base.specs.Ends.{PipeId}
use Rattle.spec_run.specs.Script.{Script}
use Rattle.spec_run.specs.OwnedRun.{OwnedRun, IsRun, control_at_end}
use Rattle.spec_run.specs.InTurns.{is_ended}
use Rattle.spec_run.specs.Journal.{run_journal}

-- each object has ended, and of each pair that was made both pipes were settled once
pub record NothingIsLeft (c : Control) : Type 0 where
  pub objects : (i : ℕ) → has_ended (obj c.rows i).stage ≡ true
  -- the pipe that an end reads
  pub pipes : (e : EndId) → 0 < e.pair.0 → e.pair.0 < next_pair c → is_unmade (place_of c e) ≡ false → count_by (λ s. is_end e s.end) c.settlements ≡ 1

-- where the root has ended, nothing is left, and no object is shown as living
pub record IsDoneWhole {N S : Type 0} (script : Script) (io : ℕ) (run : OwnedRun N S) : Type 0 where
  pub nothing_left : NothingIsLeft (control_at_end io run)
  pub none_live : list_all (λ o. o.ended) (run_journal script io run).objects ≡ true

abbrev pub DoneRunsLeaveNothing : (N S : Type 0) → Type 0
DoneRunsLeaveNothing N S = (script : Script) (io : ℕ) (counts : PipeId → Bool) (run : OwnedRun N S) → IsRun script io counts run →
    is_ended (root_state (control_at_end io run)) ≡ true → IsDoneWhole script io run
