use Rattle.std.specs.Prelude.{◌++◌, List, false, length, map, refl}
use Rattle.std.proofs.Common.{rules, true, true≢false, sym, ap, subst, take, drop}
use Rattle.zq_world.specs.CoreCalls.{IsReaper}
use Rattle.zq_world.specs.declared.event.Event.{Event}
use Rattle.zq_world.specs.Turning.{ActorsAgree}
use Rattle.zq_world.specs.ByEvents.{core_event, known_of, DoesEvent, Events, IsWorld}
use Rattle.zq_world.proofs.WorldLemmas.{world_alone, world_more}
use Rattle.zq_world.proofs.world.World.step.Goals as goal

pub step-requires-clause-alone : goal.step-requires-clause-alone
step-requires-clause-alone g c =
    subst (λ actors. IsReaper (length actors) (g.W.Sockets.pieces c.self.inside.way)) (sym c.deref_mut.ensures.value)
    (world_alone g.W.Sockets.as_open g.W.Sockets.agrees g.W.Sockets.was_made g.W.Sockets.pieces c.self.inside.script.now (map (λ x. core_event x.0) c.self.inside.events.items) c.self.inside.way c.self.inside.actors.items (c.self.invariant c.if-self.false))

pub invariant_of-self : goal.invariant_of-self
invariant_of-self g c wanted =
    subst (λ (done : List (Event × Unit {0})). IsWorld g.W.Sockets.as_open g.W.Sockets.agrees g.W.Sockets.was_made g.W.Sockets.pieces (known_of c.self.inside.script.now done false) c.step.new.way (take c.self.inside.actors.len (c.step.new.actors ++ drop (length c.step.new.actors) c.self.inside.actors.items))) (sym c.and-self-inside.ensures)
    (world_more g.W.Sockets.as_open g.W.Sockets.agrees g.W.Sockets.was_made g.W.Sockets.pieces c.self.inside.script.now c.self.inside.events.items c.args.event c.self.inside.way c.step.new.way c.self.inside.actors.items c.step.new.actors c.self.inside.actors.len (search rules)
    (c.self.invariant c.if-self.false)
    (subst (λ actors. DoesEvent g.W.Sockets.as_open (core_event c.args.event) actors c.step.new.actors (g.W.Sockets.pieces c.self.inside.way) (g.W.Sockets.pieces c.step.new.way)) c.deref_mut.ensures.value c.in-Ok.ensures.ok)
    c.step.ensures.agree) refl

pub invariant_of-self-in-Err : goal.invariant_of-self-in-Err
invariant_of-self-in-Err g c wanted = absurd (true≢false wanted)

pub returns-in-Err-clause-err : goal.returns-in-Err-clause-err
returns-in-Err-clause-err g c = ap (λ (known : Events). record known { wanted = true }) c.self.view_is

pub step-requires-clause-agree : goal.step-requires-clause-agree
step-requires-clause-agree g c =
    subst (ActorsAgree g.W.Sockets.as_open g.W.Sockets.agrees g.W.Sockets.was_made c.self.inside.way) (sym c.deref_mut.ensures.value) (c.self.invariant c.if-self.false).agree
