use Rattle.std.specs.Prelude.{IfOk, map}
use Rattle.std.proofs.Common.{refl, subst, sym}
use Rattle.std.proofs.lemmas.Result.{IfOk-weaker}
use Rattle.spec_run.specs.CoreEvents.{IsEventsJournal}
use Rattle.zq_world.specs.Stepping.{lines_of}
use Rattle.zq_world.specs.ByEvents.{core_event, Events}
use Rattle.zq_world.proofs.GoesLemmas.{journal_made}
use Rattle.zq_world.proofs.world.World.journal.Goals as goal

pub returns-clause-ok : goal.returns-clause-ok
returns-clause-ok g c =
    subst (λ (known : Events). IfOk c.told.result (IsEventsJournal g.row.P-Name.Denot g.row.P-Story.Denot known.script known.events)) c.self.view_is
    (IfOk-weaker c.told.result _ _
    (λ journal h. subst (IsEventsJournal g.row.P-Name.Denot g.row.P-Story.Denot c.self.inside.script.now (map (λ x. core_event x.0) c.self.inside.events.items)) (sym h.2)
    (journal_made g.W.Sockets.as_open c.self.inside.script.now (map (λ x. core_event x.0) c.self.inside.events.items) c.self.inside.actors.items (g.W.Sockets.pieces c.self.inside.way) (g.W.Core.order c.self.inside.way) (map lines_of c.self.inside.actors.items) h.0
    (c.self.invariant c.if-self.false).ran c.told.ensures.orderly h.1 refl))
    c.told.ensures.shows)
