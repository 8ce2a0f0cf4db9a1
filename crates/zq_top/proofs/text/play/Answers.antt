use Rattle.zq_outer.specs.Readings.{GoesOn}
use Rattle.spec_run.specs.InTurns.{readings_of}
use Rattle.zq_world.proofs.RunLemmas.{of_error}
use Rattle.zq_top.proofs.ToldLemmas.{play_told}
use Rattle.zq_top.proofs.text.play.Goals as goal

pub returns-clause-err : goal.returns-clause-err
returns-clause-err g c = of_error (GoesOn (g.C.Clock.at c.args.clock.now) (g.C.Clock.at c.play_script.new.clock)) c.tell-said.result (readings_of c.in_ok-journal.ensures.ok.is_journal.turned, c.in_ok-journal.ensures.ok.reads)

pub play_script-requires-clause-new : goal.play_script-requires-clause-new
play_script-requires-clause-new g c = c.requires.new

pub returns-in_err-journal-clause-err : goal.returns-in_err-journal-clause-err
returns-in_err-journal-clause-err g c = of_error (GoesOn (g.C.Clock.at c.args.clock.now) (g.C.Clock.at c.play_script.new.clock)) c.from_residual.result c.in_err-journal.ensures.err

pub returns-clause-tells : goal.returns-clause-tells
returns-clause-tells g c = play_told _ _ _ _ _ _ c.in_ok-journal.journal c.tell-said.result c.in_ok-journal.ensures.ok c.tell-said.ensures
