use Rattle.std.specs.Prelude.{Option, List}
use Rattle.std.proofs.Common.{sym, subst, ap}
use Rattle.spec_control.specs.Hold.{Hold, is_bind_to}
use Rattle.spec_control.specs.EndpointBook.{without_first}
use Rattle.spec_control.specs.After.{strikes}
use Rattle.ctl_state.specs.Lists.{hold_at}
use Rattle.ctl_state.specs.Stands.{Stands, holds_by}
use Rattle.ctl_moves.proofs.NameLemmas.{lists_on}
use Rattle.ctl_moves.proofs.StrikeLemmas.{found_passes}
use Rattle.mailbox.specs.Mail.{Mail}
use Rattle.ctl_state.specs.declared.command.Command.{Command}
use Rattle.ctl_state.specs.declared.state.State.{State}
use Rattle.ctl_state.specs.Boxes.{PutsBare}
use Rattle.ctl_state.proofs.BareLemmas.{bare_not}
use Rattle.ctl_moves.proofs.striking.strike_bind.Goals as goal

pub returns-in-Some-clause-stands : goal.returns-in-Some-clause-stands
returns-in-Some-clause-stands g c = λ k h.
    let to = c.args.to.now in
    let i = c.args.socket.0 in
    let found = c.in-Some.ensures.found k h in
    let now = holds_by (without_first (is_bind_to to)) i k in
    subst (λ (o : Option Hold). Stands c.strike.new.state (strikes i to o now)) found
    (c.strike.ensures.stands c.in-Some.hold.at (found_passes (is_bind_to to) (k.holds i) (hold_at c.in-Some.hold.at c.in-Some.hold.held) (sym found)) now (c.in-Some.ensures.stands k h))

pub returns-in-Some-clause-ends : goal.returns-in-Some-clause-ends
returns-in-Some-clause-ends g c = lists_on c.args.state.now.objects.lists c.strike_bind.new.self.objects.lists c.strike.new.state.objects.lists c.in-Some.ensures.ends c.strike.ensures.ends

pub returns-in-Some-clause-only : goal.returns-in-Some-clause-only
returns-in-Some-clause-only g c =
    subst (λ (b : List (Mail (Command g.row.L.Denot))). PutsBare b c.strike.new.state.boxes) (ap (λ (x : State g.row.L.Denot). x.boxes) c.in-Some.ensures.rest) c.strike.ensures.only

pub returns-in-None-clause-stands : goal.returns-in-None-clause-stands
returns-in-None-clause-stands g c = λ k h.
    subst (λ (o : Option Hold). Stands c.strike_bind.new.self (strikes c.args.socket.0 c.args.to.now o (holds_by (without_first (is_bind_to c.args.to.now)) c.args.socket.0 k))) (c.in-None.ensures.found k h) (c.in-None.ensures.stands k h)

pub returns-in-None-clause-only : goal.returns-in-None-clause-only
returns-in-None-clause-only g c =
    subst (λ (b : List (Mail (Command g.row.L.Denot))). PutsBare b c.strike_bind.new.self.boxes) (ap (λ (x : State g.row.L.Denot). x.boxes) c.in-None.ensures.rest) (bare_not c.strike_bind.new.self.boxes)

pub returns-in-None-clause-ends : goal.returns-in-None-clause-ends
returns-in-None-clause-ends g c = c.in-None.ensures.ends
