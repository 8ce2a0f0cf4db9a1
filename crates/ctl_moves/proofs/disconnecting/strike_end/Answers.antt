use Rattle.std.specs.Prelude.{true, false, refl}
use Rattle.std.proofs.Common.{sym, ap, ◌∙◌, subst}
use Rattle.spec_control.specs.declared.end.EndEvent.TheVariants.{Asked}
use Rattle.spec_control.specs.declared.end.Reason.TheVariants.{Closed}
use Rattle.spec_control.specs.Control.{Control, happens, with_end}
use Rattle.control_laws.proofs.StayLemmas.{ends_stay}
use Rattle.ctl_moves.specs.Turning.{TurnsOnce}
use Rattle.ctl_moves.proofs.TurnedLemmas.{turns_same}
use Rattle.desk.specs.declared.load.Load.{Load}
use Rattle.ctl_state.specs.declared.state.State.{State}
use Rattle.ctl_moves.proofs.DisconnectLemmas.{strikes_away, strikes_theirs, strikes_gone, strikes_here, asks_at, led_not, led_struck, led_asked, joins_none}
use Rattle.ctl_moves.proofs.OnceLemmas.{told_none, told_one}
use Rattle.ctl_moves.proofs.disconnecting.strike_end.Goals as goal

pub returns-then-is_away-clause-led : goal.returns-then-is_away-clause-led
returns-then-is_away-clause-led g c = λ w.
    led_struck g.P.Pipes.known.out_name g.P.Pipes.known.in_name c.args.state.now (g.H.Holder.holding c.args.holder.now) c.args.socket.0 w c.strike.new.self c.args.e (sym (c.is_away.ensures w.control w.stands) ∙ c.if-is_away.true)
    (c.strike.ensures.stands w.control w.stands) (ap (λ (x : State (Load g.row.P-Name.Denot g.row.P-Out.Denot g.row.P-In.Denot)). x.boxes) c.strike.ensures.next)
    (ap (λ (x : State (Load g.row.P-Name.Denot g.row.P-Out.Denot g.row.P-In.Denot)). x.objects.lists) c.strike.ensures.next)

pub returns-then-not-is_of-clause-led : goal.returns-then-not-is_of-clause-led
returns-then-not-is_of-clause-led g c = λ w.
    led_not g.P.Pipes.known.out_name g.P.Pipes.known.in_name c.args.state.now (g.H.Holder.holding c.args.holder.now) c.args.socket.0 w _
    (strikes_theirs c.args.socket.0 c.args.e w.control (sym (c.is_away.ensures w.control w.stands) ∙ c.if-is_away.false) (sym (c.is_of.ensures w.control w.stands) ∙ c.if-not-is_of.true))

pub returns-then-not-is_here-clause-led : goal.returns-then-not-is_here-clause-led
returns-then-not-is_here-clause-led g c = λ w.
    led_not g.P.Pipes.known.out_name g.P.Pipes.known.in_name c.args.state.now (g.H.Holder.holding c.args.holder.now) c.args.socket.0 w _
    (strikes_gone c.args.socket.0 c.args.e w.control (sym (c.is_away.ensures w.control w.stands) ∙ c.if-is_away.false) (sym (c.is_of.ensures w.control w.stands) ∙ c.if-not-is_of.false)
    (sym (c.is_here.ensures w.control w.stands) ∙ c.if-not-is_here.true))

pub turn_end-requires-clause-may : goal.turn_end-requires-clause-may
turn_end-requires-clause-may g c =
    let w = c.requires.may in
    asks_at g.P.Pipes.known.out_name g.P.Pipes.known.in_name c.args.state.now (g.H.Holder.holding c.args.holder.now) c.args.socket.0 w c.args.e (sym (c.is_of.ensures w.control w.stands) ∙ c.if-not-is_of.false)
    (sym (c.is_here.ensures w.control w.stands) ∙ c.if-not-is_here.false)

pub returns-clause-led : goal.returns-clause-led
returns-clause-led g c = λ w.
    let mine = sym (c.is_of.ensures w.control w.stands) ∙ c.if-not-is_of.false in
    let here = sym (c.is_here.ensures w.control w.stands) ∙ c.if-not-is_here.false in
    led_asked g.P.Pipes.known.out_name g.P.Pipes.known.in_name c.args.state.now (g.H.Holder.holding c.args.holder.now) c.args.socket.0 w c.turn_end.new.state (g.H.Holder.holding c.turn_end.new.holder) c.args.e _
    (strikes_here c.args.socket.0 c.args.e w.control (sym (c.is_away.ensures w.control w.stands) ∙ c.if-is_away.false) mine here)
    (c.turn_end.ensures (asks_at g.P.Pipes.known.out_name g.P.Pipes.known.in_name c.args.state.now (g.H.Holder.holding c.args.holder.now) c.args.socket.0 w c.args.e mine here))

pub returns-then-is_away-clause-turned : goal.returns-then-is_away-clause-turned
returns-then-is_away-clause-turned g c = λ w.
    subst (λ (d : Control). TurnsOnce w.control d (g.H.Holder.holding c.args.holder.now) (g.H.Holder.holding c.args.holder.now)) (sym (strikes_away c.args.socket.0 c.args.e w.control (sym (c.is_away.ensures w.control w.stands) ∙ c.if-is_away.true)))
    (told_none w.control (record w.control { struck = with_end c.args.e true w.control.struck }) (g.H.Holder.holding c.args.holder.now) (g.H.Holder.holding c.args.holder.now) (λ e. refl) (turns_same (g.H.Holder.holding c.args.holder.now)))

pub returns-then-not-is_of-clause-turned : goal.returns-then-not-is_of-clause-turned
returns-then-not-is_of-clause-turned g c = λ w.
    subst (λ (d : Control). TurnsOnce w.control d (g.H.Holder.holding c.args.holder.now) (g.H.Holder.holding c.args.holder.now))
    (sym (strikes_theirs c.args.socket.0 c.args.e w.control (sym (c.is_away.ensures w.control w.stands) ∙ c.if-is_away.false) (sym (c.is_of.ensures w.control w.stands) ∙ c.if-not-is_of.true)))
    (told_none w.control w.control (g.H.Holder.holding c.args.holder.now) (g.H.Holder.holding c.args.holder.now) (λ e. refl) (turns_same (g.H.Holder.holding c.args.holder.now)))

pub returns-then-not-is_here-clause-turned : goal.returns-then-not-is_here-clause-turned
returns-then-not-is_here-clause-turned g c = λ w.
    subst (λ (d : Control). TurnsOnce w.control d (g.H.Holder.holding c.args.holder.now) (g.H.Holder.holding c.args.holder.now))
    (sym (strikes_gone c.args.socket.0 c.args.e w.control (sym (c.is_away.ensures w.control w.stands) ∙ c.if-is_away.false) (sym (c.is_of.ensures w.control w.stands) ∙ c.if-not-is_of.false)
    (sym (c.is_here.ensures w.control w.stands) ∙ c.if-not-is_here.true)))
    (told_none w.control w.control (g.H.Holder.holding c.args.holder.now) (g.H.Holder.holding c.args.holder.now) (λ e. refl) (turns_same (g.H.Holder.holding c.args.holder.now)))

pub returns-clause-turned : goal.returns-clause-turned
returns-clause-turned g c = λ w.
    let mine = sym (c.is_of.ensures w.control w.stands) ∙ c.if-not-is_of.false in
    let here = sym (c.is_here.ensures w.control w.stands) ∙ c.if-not-is_here.false in
    let may = asks_at g.P.Pipes.known.out_name g.P.Pipes.known.in_name c.args.state.now (g.H.Holder.holding c.args.holder.now) c.args.socket.0 w c.args.e mine here in
    subst (λ (d : Control). TurnsOnce w.control d (g.H.Holder.holding c.args.holder.now) (g.H.Holder.holding c.turn_end.new.holder))
    (sym (strikes_here c.args.socket.0 c.args.e w.control (sym (c.is_away.ensures w.control w.stands) ∙ c.if-is_away.false) mine here))
    (told_one w.control (happens (Asked Closed false) c.args.e w.control) (Asked Closed false) c.args.e (g.H.Holder.holding c.args.holder.now) (g.H.Holder.holding c.turn_end.new.holder) (ends_stay (happens (Asked Closed false) c.args.e w.control)) may.turns.within may.turns.listed
    (c.turn_end.ensures may).turned)

pub returns-clause-joins : goal.returns-clause-joins
returns-clause-joins g c =
    let w = c.requires.may in
    let mine = sym (c.is_of.ensures w.control w.stands) ∙ c.if-not-is_of.false in
    let here = sym (c.is_here.ensures w.control w.stands) ∙ c.if-not-is_here.false in
    let leads = c.turn_end.ensures (asks_at g.P.Pipes.known.out_name g.P.Pipes.known.in_name c.args.state.now (g.H.Holder.holding c.args.holder.now) c.args.socket.0 w c.args.e mine here) in
    record { joined = leads.joined; holds = leads.holds; kinds = leads.kinds; heard = leads.heard }

pub returns-then-is_away-clause-joins : goal.returns-then-is_away-clause-joins
returns-then-is_away-clause-joins g c = joins_none (g.H.Holder.holding c.args.holder.now)

pub returns-then-not-is_of-clause-joins : goal.returns-then-not-is_of-clause-joins
returns-then-not-is_of-clause-joins g c = joins_none (g.H.Holder.holding c.args.holder.now)

pub returns-then-not-is_here-clause-joins : goal.returns-then-not-is_here-clause-joins
returns-then-not-is_here-clause-joins g c = joins_none (g.H.Holder.holding c.args.holder.now)
