use Rattle.std.proofs.Common.{[], rules, ap, map, subst, sym, ◌∙◌}
use Rattle.std.proofs.lemmas.Result.{IfOk-weaker}
use Rattle.zq_outer.specs.Readings.{GoesOn}
use Rattle.zq_outer.proofs.ClockLemmas.{reads_none}
use Rattle.zq_world.specs.Stepping.{lines_of}
use Rattle.zq_world.specs.Timed.{RunsTimed, IsTimedJournal}
use Rattle.zq_world.specs.Turning.{ActorsAgree}
use Rattle.zq_world.proofs.PlayLemmas.{new_agree, plays_timed, journal_timed, written_back, ran_on}
use Rattle.zq_world.proofs.RunLemmas.{of_error}
use Rattle.zq_world.proofs.script.play_script.Goals as goal

pub returns-clause-ok : goal.returns-clause-ok
returns-clause-ok g c =
    IfOk-weaker c.told.result _ _
    (λ journal h. subst (IsTimedJournal g.row.P-Name.Denot g.row.P-Story.Denot c.args.script.now (record { seed = c.args.seed; turns = c.args.turns }) (g.C.Clock.at c.args.clock.now) (g.C.Clock.at c.run.new.clock))
    (sym h.2)
    (journal_timed c.args.script.now (record { seed = c.args.seed; turns = c.args.turns }) _ (g.W.Sockets.pieces c.run.new.way) (g.W.Core.order c.run.new.way) h.0 (g.C.Clock.at c.args.clock.now) (g.C.Clock.at c.run.new.clock)
    (plays_timed g.W.Sockets.as_open c.args.script.now c.args.seed c.args.turns c.in_ok-run.field-0 c.in_ok-actors.actors.items c.run.new.actors (g.W.Sockets.pieces c.args.way.now) (g.W.Sockets.pieces c.run.new.way) (g.W.Core.order c.run.new.way)
    _ (g.C.Clock.at c.args.clock.now) (g.C.Clock.at c.run.new.clock) c.requires.new c.in_ok-actors.ensures
    (subst (λ actors. RunsTimed g.W.Sockets.as_open c.args.seed c.args.turns c.in_ok-run.field-0 actors c.run.new.actors (g.W.Sockets.pieces c.args.way.now) (g.W.Sockets.pieces c.run.new.way) (g.C.Clock.at c.args.clock.now) (g.C.Clock.at c.run.new.clock)) c.deref_mut.ensures.value c.in_ok-run.ensures.ok)
    c.told.ensures.orderly
    (ap (map lines_of) (written_back c.in_ok-actors.actors.len c.run.new.actors c.in_ok-actors.actors.items (c.in_ok-run.ensures.ok.runs.count ∙ (search rules)))))
    h.1))
    c.told.ensures.shows

pub run-requires-clause-agree : goal.run-requires-clause-agree
run-requires-clause-agree g c =
    subst (ActorsAgree g.W.Sockets.as_open g.W.Sockets.agrees g.W.Sockets.was_made c.args.way.now) (sym c.deref_mut.ensures.value)
    (new_agree g.W.Sockets.as_open g.W.Sockets.agrees g.W.Sockets.was_made c.args.way.now c.args.script.now c.in_ok-actors.actors.items c.requires.may c.in_ok-actors.ensures)

pub returns-in_err-actors-clause-err : goal.returns-in_err-actors-clause-err
returns-in_err-actors-clause-err g c = of_error (GoesOn (g.C.Clock.at c.args.clock.now) (g.C.Clock.at c.args.clock.now)) c.from_residual.result ([], reads_none (g.C.Clock.at c.args.clock.now))

pub returns-clause-err : goal.returns-clause-err
returns-clause-err g c = of_error (GoesOn (g.C.Clock.at c.args.clock.now) (g.C.Clock.at c.run.new.clock)) c.told.result
    (ran_on g.W.Sockets.as_open c.args.seed c.args.turns c.in_ok-run.field-0 c.deref_mut.result.now c.run.new.actors (g.W.Sockets.pieces c.args.way.now) (g.W.Sockets.pieces c.run.new.way) (g.C.Clock.at c.args.clock.now) (g.C.Clock.at c.run.new.clock) c.in_ok-run.ensures.ok)
