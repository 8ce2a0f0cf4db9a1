use Rattle.std.proofs.Common.{[], Err, refl, ap, subst, sym}
use Rattle.std.specs.Prelude.{IfOk}
use Rattle.zq_outer.proofs.ClockLemmas.{reads_none}
use Rattle.spec_run.specs.Script.{Script}
use Rattle.zq_world.specs.MayAsk.{MayAskScript}
use Rattle.zq_top.specs.RunText.{TellsPlay}
use Rattle.zq_top.proofs.ToldLemmas.{tells_if, due_if, fault_due}
use Rattle.zq_top.proofs.text.text_of_run.Goals as goal

pub play-said-requires-clause-may : goal.play-said-requires-clause-may
play-said-requires-clause-may g c =
    subst MayAskScript (sym c.as_slice.ensures) (c.scripts_that_are_read_may_be_asked.ensures c.args.octets.now c.in-Ok.script c.in-Ok.ensures.ok)

pub returns-in-Ok-clause-tells : goal.returns-in-Ok-clause-tells
returns-in-Ok-clause-tells g c = tells_if _ _ c.a_script_has_one_run_journal.ensures _ c.args.octets.now (g.C.Clock.at c.args.clock.now) (g.C.Clock.at c.play-said.new.clock) c.in-Ok.script c.play-said.result c.in-Ok.ensures.ok
    (subst (λ (x : Script). IfOk c.play-said.result (TellsPlay _ _ x (record { seed = c.args.seed; turns = c.args.turns }) (g.C.Clock.at c.args.clock.now) (g.C.Clock.at c.play-said.new.clock))) c.as_slice.ensures c.play-said.ensures.tells)

pub returns-in-Ok-clause-due : goal.returns-in-Ok-clause-due
returns-in-Ok-clause-due g c = due_if _ _ c.a_script_has_one_run_journal.ensures c.scripts_are_done_in_time.ensures _ c.args.octets.now (g.C.Clock.at c.args.clock.now) (g.C.Clock.at c.play-said.new.clock) c.in-Ok.script c.play-said.result c.in-Ok.ensures.ok
    (subst (λ (x : Script). IfOk c.play-said.result (TellsPlay _ _ x (record { seed = c.args.seed; turns = c.args.turns }) (g.C.Clock.at c.args.clock.now) (g.C.Clock.at c.play-said.new.clock))) c.as_slice.ensures c.play-said.ensures.tells)

pub returns-in-Err-OutOfMemory-clause-err : goal.returns-in-Err-OutOfMemory-clause-err
returns-in-Err-OutOfMemory-clause-err g c = ([], reads_none (g.C.Clock.at c.args.clock.now))

pub returns-in-Err-Fault-clause-tells : goal.returns-in-Err-Fault-clause-tells
returns-in-Err-Fault-clause-tells g c = rw c.in-Err-Fault.fault-is (c.in-Err-Fault.ensures.fault c.in-Err-Fault.fault (ap Err c.in-Err-Fault.field-0-is), refl)

pub returns-in-Err-Fault-clause-due : goal.returns-in-Err-Fault-clause-due
returns-in-Err-Fault-clause-due g c = rw c.in-Err-Fault.fault-is (fault_due _ _ _ c.args.octets.now c.in-Err-Fault.fault (c.in-Err-Fault.ensures.fault c.in-Err-Fault.fault (ap Err c.in-Err-Fault.field-0-is)))
