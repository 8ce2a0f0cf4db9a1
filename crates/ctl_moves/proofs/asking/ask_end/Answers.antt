use Rattle.std.specs.Prelude.{◌≡◌, true}
use Rattle.std.proofs.Common.{sym, ◌∙◌}
use Rattle.spec_control.specs.Place.{is_here}
use Rattle.spec_control.specs.Control.{place_of}
use Rattle.ctl_moves.proofs.AskLemmas.{asks_here, asked_here, asked_not}
use Rattle.ctl_moves.proofs.asking.ask_end.Goals as goal

pub turn_end-requires-clause-may : goal.turn_end-requires-clause-may
turn_end-requires-clause-may g c =
    let w = c.requires.may in
    asks_here g.P.Pipes.known.out_name g.P.Pipes.known.in_name c.args.state.now (g.H.Holder.holding c.args.holder.now) c.args.e c.args.reason c.args.delay w
    (sym (c.is_here.ensures w.control w.stands) ∙ c.if-not-is_here.false)

pub returns : goal.returns
returns g c = λ w.
    let here : is_here (place_of w.control c.args.e) ≡ true = sym (c.is_here.ensures w.control w.stands) ∙ c.if-not-is_here.false in
    asked_here g.P.Pipes.known.out_name g.P.Pipes.known.in_name c.args.state.now (g.H.Holder.holding c.args.holder.now) c.args.e c.args.reason c.args.delay w c.turn_end.new.state (g.H.Holder.holding c.turn_end.new.holder) here
    (c.turn_end.ensures (asks_here g.P.Pipes.known.out_name g.P.Pipes.known.in_name c.args.state.now (g.H.Holder.holding c.args.holder.now) c.args.e c.args.reason c.args.delay w here))

pub returns-then-not-is_here : goal.returns-then-not-is_here
returns-then-not-is_here g c = λ w.
    asked_not g.P.Pipes.known.out_name g.P.Pipes.known.in_name c.args.state.now (g.H.Holder.holding c.args.holder.now) c.args.e c.args.reason c.args.delay w (sym (c.is_here.ensures w.control w.stands) ∙ c.if-not-is_here.true)
