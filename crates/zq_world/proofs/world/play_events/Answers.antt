use Rattle.std.specs.Prelude.{IfOk, map}
use Rattle.std.proofs.Common.{◌++◌, ap, subst, sym, ◌∙◌}
use Rattle.spec_run.specs.CoreEvents.{IsEventsJournal}
use Rattle.zq_world.specs.ByEvents.{core_event, Events}
use Rattle.zq_world.proofs.WorldLemmas.{both_ok}
use Rattle.zq_world.proofs.world.play_events.Goals as goal

pub returns : goal.returns
returns g c =
    subst (λ r. IfOk r (IsEventsJournal g.row.P-Name.Denot g.row.P-Story.Denot c.args.script.now (map core_event c.args.events.now))) (sym c.and.ensures)
    (both_ok c.run-went.result c.journal-journal.result _ _ c.run-went.ensures.ok
    (λ done. subst (λ (known : Events). IfOk c.journal-journal.result (IsEventsJournal g.row.P-Name.Denot g.row.P-Story.Denot known.script known.events))
    (done ∙ ap (λ (known : Events). record known { events = known.events ++ map core_event c.args.events.now }) c.in_ok-world.ensures)
    c.journal-journal.ensures.ok))
