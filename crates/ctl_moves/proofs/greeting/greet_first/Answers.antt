use Rattle.std.specs.Prelude.{Option, false, refl}
use Rattle.std.proofs.Common.{ap, sym, subst, ◌∙◌}
use Rattle.spec_control.specs.declared.end.EndEvent.TheVariants.{Asked}
use Rattle.spec_control.specs.declared.end.Reason.{Reason}
use Rattle.spec_control.specs.Control.{Control}
use Rattle.desk.specs.declared.load.Load.{Load}
use Rattle.ctl_state.specs.declared.state.State.{State}
use Rattle.ctl_state.specs.Stands.{stepped}
use Rattle.ctl_moves.specs.Attaching.{asked_for}
use Rattle.ctl_moves.specs.Greeting.{Asks}
use Rattle.ctl_moves.proofs.GreetingLemmas.{asked, greeted, tell_room, welcomed}
use Rattle.desk.specs.Holding.{has_end}
use Rattle.spec_control.specs.declared.end.EndState.TheVariants.{Active}
use Rattle.ctl_moves.proofs.greeting.greet_first.Goals as goal

pub step_end-commands-requires-clause-may : goal.step_end-commands-requires-clause-may
step_end-commands-requires-clause-may g c =
    let w = c.requires.may in
    (c.needs.ensures w.control w.stands).may_come c.args.first (Asked c.in-Some.reason false) Active w.there refl

pub set_state-requires : goal.set_state-requires
set_state-requires g c = record { here = c.requires.may.has }

pub seal-requires-clause-here : goal.seal-requires-clause-here
seal-requires-clause-here g c = ap (has_end c.args.first) c.set_state.ensures.stays.now.ends ∙ c.requires.may.has

pub seal-requires-clause-writer : goal.seal-requires-clause-writer
seal-requires-clause-writer g c = c.set_state.ensures.stays.writers c.args.first ∙ c.requires.may.writes

pub tell_other-requires : goal.tell_other-requires
tell_other-requires g c =
    let w = c.requires.may in
    record {
      room = tell_room c.args.state.now (g.H.Holder.holding c.args.holder.now) c.args.o.0 c.args.first w c.in-Some.reason c.step_end-commands.new.self c.step_end-commands.result
          (c.step_end-commands.ensures.stands w.control w.stands) (c.step_end-commands.ensures.commands w.control w.stands)
          (ap (λ (x : State (Load g.row.P-Name.Denot g.row.P-Out.Denot g.row.P-In.Denot)). x.boxes) c.step_end-commands.ensures.next);
    }

pub returns-in-None : goal.returns-in-None
returns-in-None g c = λ w.
    let is = ap (λ (r : Option Reason). asked_for r c.args.first w.control) (sym c.in-None.is ∙ c.refusal_of.ensures) ∙ greeted c.args.state.now (g.H.Holder.holding c.args.holder.now) c.args.o.0 c.args.first w c.args.answer in
    subst (λ (d : Control). Asks g.P.Pipes.known.out_name g.P.Pipes.known.in_name w.control d c.args.o.0 c.args.first c.args.state.now c.args.state.now (g.H.Holder.holding c.args.holder.now) (g.H.Holder.holding c.args.holder.now))
    is (welcomed c.args.state.now (g.H.Holder.holding c.args.holder.now) c.args.o.0 c.args.first w g.P.Pipes.known.out_name g.P.Pipes.known.in_name)

pub returns-in-Some : goal.returns-in-Some
returns-in-Some g c = λ w.
    let is = ap (λ (r : Option Reason). asked_for r c.args.first w.control) (sym c.in-Some.is ∙ c.refusal_of.ensures) ∙ greeted c.args.state.now (g.H.Holder.holding c.args.holder.now) c.args.o.0 c.args.first w c.args.answer in
    let stands = c.step_end-commands.ensures.stands w.control w.stands in
    subst (λ (d : Control). Asks g.P.Pipes.known.out_name g.P.Pipes.known.in_name w.control d c.args.o.0 c.args.first c.args.state.now c.tell_other.new.self (g.H.Holder.holding c.args.holder.now) (g.H.Holder.holding c.seal.new.self))
    is
    (asked c.args.state.now (g.H.Holder.holding c.args.holder.now) c.args.o.0 c.args.first w c.in-Some.reason c.step_end-commands.new.self c.step_end-commands.result stands
    (c.step_end-commands.ensures.commands w.control w.stands) (ap (λ (x : State (Load g.row.P-Name.Denot g.row.P-Out.Denot g.row.P-In.Denot)). x.boxes) c.step_end-commands.ensures.next)
    g.P.Pipes.known.out_name g.P.Pipes.known.in_name (g.H.Holder.holding c.set_state.new.self) (g.H.Holder.holding c.seal.new.self) c.tell_other.new.self c.set_state.ensures.stays c.set_state.ensures.turns c.seal.ensures.stays c.seal.ensures.turns (c.seal.ensures.heard ∙ c.set_state.ensures.heard)
    (ap (λ (x : State (Load g.row.P-Name.Denot g.row.P-Out.Denot g.row.P-In.Denot)). x.objects.lists) c.step_end-commands.ensures.next)
    (c.tell_other.ensures.stands (stepped (Asked c.in-Some.reason false) c.args.first w.control) stands) c.tell_other.ensures.told)
