use Rattle.std.specs.Prelude.{Option, Some, refl}
use Rattle.std.proofs.Common.{sym, ap, subst}
use Rattle.spec_control.specs.EndpointBook.{without_first}
use Rattle.spec_control.specs.Hold.{Hold, is_connect_to}
use Rattle.spec_control.specs.After.{strikes}
use Rattle.ctl_moves.specs.Turning.{TurnsOnce}
use Rattle.ctl_moves.proofs.TurnedLemmas.{turns_same}
use Rattle.desk.specs.declared.load.Load.{Load}
use Rattle.ctl_state.specs.Lists.{hold_at}
use Rattle.ctl_state.specs.Stands.{holds_by}
use Rattle.ctl_state.specs.declared.state.State.{State}
use Rattle.ctl_moves.proofs.DisconnectLemmas.{holds_may, struck_found, joins_none, struck_none}
use Rattle.ctl_moves.proofs.StrikeLemmas.{found_passes}
use Rattle.ctl_moves.proofs.OnceLemmas.{told_before, told_none}
use Rattle.ctl_moves.proofs.disconnecting.strike_connect.Goals as goal

pub strike-requires : goal.strike-requires
strike-requires g c =
    let w = c.requires.may in
    record {
      may = holds_may g.P.Pipes.known.out_name g.P.Pipes.known.in_name c.args.state.now (g.H.Holder.holding c.args.holder.now) c.args.socket.0 w c.strike_connect.new.self (without_first (is_connect_to c.args.to.now)) (c.in-Some.ensures.stands w.control w.stands)
          (ap (λ (x : State (Load g.row.P-Name.Denot g.row.P-Out.Denot g.row.P-In.Denot)). x.boxes) c.in-Some.ensures.rest);
    }

pub returns-in-Some-clause-struck : goal.returns-in-Some-clause-struck
returns-in-Some-clause-struck g c = λ w.
    let boxes = ap (λ (x : State (Load g.row.P-Name.Denot g.row.P-Out.Denot g.row.P-In.Denot)). x.boxes) c.in-Some.ensures.rest in
    let found = c.in-Some.ensures.found w.control w.stands in
    let hold = hold_at c.in-Some.hold.at c.in-Some.hold.held in
    struck_found g.P.Pipes.known.out_name g.P.Pipes.known.in_name c.args.state.now c.strike_connect.new.self c.strike.new.state (g.H.Holder.holding c.args.holder.now) (g.H.Holder.holding c.strike.new.holder) c.args.socket.0 c.args.to.now w hold found boxes c.in-Some.ensures.ends
    (c.strike.ensures.led (holds_may g.P.Pipes.known.out_name g.P.Pipes.known.in_name c.args.state.now (g.H.Holder.holding c.args.holder.now) c.args.socket.0 w c.strike_connect.new.self (without_first (is_connect_to c.args.to.now)) (c.in-Some.ensures.stands w.control w.stands) boxes)
    c.in-Some.hold.at (found_passes (is_connect_to c.args.to.now) (w.control.holds c.args.socket.0) hold (sym found)))

pub returns-in-Some-clause-turned : goal.returns-in-Some-clause-turned
returns-in-Some-clause-turned g c = λ w.
    let boxes = ap (λ (x : State (Load g.row.P-Name.Denot g.row.P-Out.Denot g.row.P-In.Denot)). x.boxes) c.in-Some.ensures.rest in
    let found = c.in-Some.ensures.found w.control w.stands in
    let hold = hold_at c.in-Some.hold.at c.in-Some.hold.held in
    let before = holds_by (without_first (is_connect_to c.args.to.now)) c.args.socket.0 w.control in
    subst (λ (x : Option Hold). TurnsOnce w.control (strikes c.args.socket.0 c.args.to.now x before) (g.H.Holder.holding c.args.holder.now) (g.H.Holder.holding c.strike.new.holder)) found
    (told_before w.control before (strikes c.args.socket.0 c.args.to.now (Some hold) before) (g.H.Holder.holding c.args.holder.now) (g.H.Holder.holding c.strike.new.holder) refl (λ e. refl)
    (c.strike.ensures.turned (holds_may g.P.Pipes.known.out_name g.P.Pipes.known.in_name c.args.state.now (g.H.Holder.holding c.args.holder.now) c.args.socket.0 w c.strike_connect.new.self (without_first (is_connect_to c.args.to.now)) (c.in-Some.ensures.stands w.control w.stands) boxes)
    c.in-Some.hold.at (found_passes (is_connect_to c.args.to.now) (w.control.holds c.args.socket.0) hold (sym found))))

pub returns-in-None-clause-turned : goal.returns-in-None-clause-turned
returns-in-None-clause-turned g c = λ w.
    let found = c.in-None.ensures.found w.control w.stands in
    let before = holds_by (without_first (is_connect_to c.args.to.now)) c.args.socket.0 w.control in
    subst (λ (x : Option Hold). TurnsOnce w.control (strikes c.args.socket.0 c.args.to.now x before) (g.H.Holder.holding c.args.holder.now) (g.H.Holder.holding c.args.holder.now)) found
    (told_none w.control before (g.H.Holder.holding c.args.holder.now) (g.H.Holder.holding c.args.holder.now) (λ e. refl) (turns_same (g.H.Holder.holding c.args.holder.now)))

pub returns-in-Some-clause-joins : goal.returns-in-Some-clause-joins
returns-in-Some-clause-joins g c = c.strike.ensures.joins

pub returns-in-None-clause-joins : goal.returns-in-None-clause-joins
returns-in-None-clause-joins g c = joins_none (g.H.Holder.holding c.args.holder.now)

pub returns-in-None-clause-struck : goal.returns-in-None-clause-struck
returns-in-None-clause-struck g c = λ w.
    struck_none g.P.Pipes.known.out_name g.P.Pipes.known.in_name c.args.state.now c.strike_connect.new.self (g.H.Holder.holding c.args.holder.now) c.args.socket.0 c.args.to.now w (c.in-None.ensures.found w.control w.stands) (ap (λ (x : State (Load g.row.P-Name.Denot g.row.P-Out.Denot g.row.P-In.Denot)). x.boxes) c.in-None.ensures.rest) c.in-None.ensures.ends (c.in-None.ensures.stands w.control w.stands)
