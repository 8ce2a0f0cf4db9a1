use Rattle.std.specs.Prelude.{Some, true, refl, ◌≡◌}
use Rattle.std.proofs.Common.{sym, subst, ap}
use Rattle.spec_control.specs.After.{strike_end, strikes, tell_struck}
use Rattle.ctl_state.specs.declared.hold.Held.{Held}
use Rattle.ctl_state.specs.declared.hold.Held.TheVariants.{Waits}
use Rattle.ctl_state.specs.Lists.{hold_at, owner_number}
use Rattle.ctl_moves.specs.Striking.{Led}
use Rattle.ctl_moves.proofs.DisconnectLemmas.{struck_ends, struck_may, led_told, joins_none, led_aside}
use Rattle.ctl_moves.specs.Turning.{TurnsOnce}
use Rattle.ctl_moves.proofs.TurnedLemmas.{turns_same}
use Rattle.ctl_moves.proofs.OnceLemmas.{told_behind, told_none}
use Rattle.spec_control.specs.Hold.{is_connect_to}
use Rattle.control_laws.proofs.ListLemmas.{never}
use Rattle.desk.specs.declared.load.Load.{Load}
use Rattle.ctl_state.specs.declared.state.State.{State}
use Rattle.ctl_moves.proofs.disconnecting.strike.Goals as goal

pub tell_struck-requires : goal.tell_struck-requires
tell_struck-requires g c =
    let w = c.requires.may in
    record {
      may = struck_may g.P.Pipes.known.out_name g.P.Pipes.known.in_name c.args.state.now (g.H.Holder.holding c.args.holder.now) c.args.socket.0 w c.strike_end.new.state (g.H.Holder.holding c.strike_end.new.holder) (record { pair = c.in-Joined.pair; a = true })
          (c.strike_end.ensures.led w);
    }

pub returns-in-Joined-clause-led : goal.returns-in-Joined-clause-led
returns-in-Joined-clause-led g c = λ w at is.
    let led = c.strike_end.ensures.led w in
    subst
    (λ (held : Held). Led g.P.Pipes.known.out_name g.P.Pipes.known.in_name w.names (strikes c.args.socket.0 c.args.to.now (Some (hold_at at held)) w.control) c.args.state.now c.tell_struck.new.state (g.H.Holder.holding c.strike_end.new.holder))
    (sym c.in-Joined.is)
    (led_told g.P.Pipes.known.out_name g.P.Pipes.known.in_name c.args.state.now (g.H.Holder.holding c.args.holder.now) c.args.socket.0 w c.strike_end.new.state (g.H.Holder.holding c.strike_end.new.holder) (record { pair = c.in-Joined.pair; a = true })
    led c.tell_struck.new.state (owner_number c.in-Joined.session) (c.tell_struck.ensures.stands (strike_end c.args.socket.0 (record { pair = c.in-Joined.pair; a = true }) w.control) led.stands) c.tell_struck.ensures.only)

pub returns-in-Joined-clause-turned : goal.returns-in-Joined-clause-turned
returns-in-Joined-clause-turned g c = λ w at is.
    let struck = strike_end c.args.socket.0 (record { pair = c.in-Joined.pair; a = true }) w.control in
    subst (λ (held : Held). TurnsOnce w.control (strikes c.args.socket.0 c.args.to.now (Some (hold_at at held)) w.control) (g.H.Holder.holding c.args.holder.now) (g.H.Holder.holding c.strike_end.new.holder)) (sym c.in-Joined.is)
    (told_behind w.control struck (tell_struck c.args.socket.0 (owner_number c.in-Joined.session) struck) (g.H.Holder.holding c.args.holder.now) (g.H.Holder.holding c.strike_end.new.holder) (struck_ends c.args.socket.0 (owner_number c.in-Joined.session) struck) (c.strike_end.ensures.turned w))

pub returns-in-Waits-clause-turned : goal.returns-in-Waits-clause-turned
returns-in-Waits-clause-turned g c = λ w at is.
    subst (λ (held : Held). TurnsOnce w.control (strikes c.args.socket.0 c.args.to.now (Some (hold_at at held)) w.control) (g.H.Holder.holding c.args.holder.now) (g.H.Holder.holding c.args.holder.now)) (sym c.in-Waits.is)
    (told_none w.control (strikes c.args.socket.0 c.args.to.now (Some (hold_at at Waits)) w.control) (g.H.Holder.holding c.args.holder.now) (g.H.Holder.holding c.args.holder.now) (λ e. refl) (turns_same (g.H.Holder.holding c.args.holder.now)))

pub returns-in-Bound-clause-led : goal.returns-in-Bound-clause-led
returns-in-Bound-clause-led g c = λ w at is. absurd (never (subst (λ (held : Held). is_connect_to c.args.to.now (hold_at at held) ≡ true) c.in-Bound.is is))

pub returns-in-Bound-clause-turned : goal.returns-in-Bound-clause-turned
returns-in-Bound-clause-turned g c = λ w at is. absurd (never (subst (λ (held : Held). is_connect_to c.args.to.now (hold_at at held) ≡ true) c.in-Bound.is is))

pub returns-in-Bound-clause-joins : goal.returns-in-Bound-clause-joins
returns-in-Bound-clause-joins g c = joins_none (g.H.Holder.holding c.args.holder.now)

pub returns-in-Waits-clause-joins : goal.returns-in-Waits-clause-joins
returns-in-Waits-clause-joins g c = joins_none (g.H.Holder.holding c.args.holder.now)

pub returns-in-Joined-clause-joins : goal.returns-in-Joined-clause-joins
returns-in-Joined-clause-joins g c = c.strike_end.ensures.joins

pub returns-in-Waits-clause-led : goal.returns-in-Waits-clause-led
returns-in-Waits-clause-led g c = λ w at is.
    subst (λ (held : Held). Led g.P.Pipes.known.out_name g.P.Pipes.known.in_name w.names (strikes c.args.socket.0 c.args.to.now (Some (hold_at at held)) w.control) c.args.state.now c.take_back.new.self (g.H.Holder.holding c.args.holder.now)) (sym c.in-Waits.is)
    (led_aside g.P.Pipes.known.out_name g.P.Pipes.known.in_name c.args.state.now (g.H.Holder.holding c.args.holder.now) c.args.socket.0 w c.take_back.new.self (strikes c.args.socket.0 c.args.to.now (Some (hold_at at Waits)) w.control) (c.take_back.ensures.stands w.control w.stands)
    (record { pairs = refl; attached = refl; reasons = refl }) (ap (λ (x : State (Load g.row.P-Name.Denot g.row.P-Out.Denot g.row.P-In.Denot)). x.boxes) c.take_back.ensures.rest) (ap (λ (x : State (Load g.row.P-Name.Denot g.row.P-Out.Denot g.row.P-In.Denot)). x.objects.lists) c.take_back.ensures.rest))
