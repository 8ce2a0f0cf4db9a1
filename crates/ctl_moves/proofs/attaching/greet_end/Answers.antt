use Rattle.ctl_moves.proofs.BindingLemmas.{greeted_by, greeted_not}
use Rattle.ctl_moves.proofs.attaching.greet_end.Goals as goal

pub returns-in-Some : goal.returns-in-Some
returns-in-Some g c = λ w.
    greeted_by g.P.Pipes.known.out_name g.P.Pipes.known.in_name c.args.state.now c.ask_end.new.state (g.H.Holder.holding c.args.holder.now) (g.H.Holder.holding c.ask_end.new.holder) w.names w.control c.args.e c.args.answer _ c.in-Some.reason c.in-Some.is
    (c.reason_for.ensures w.control w.stands) (c.ask_end.ensures w)

pub returns-in-None : goal.returns-in-None
returns-in-None g c = λ w.
    greeted_not g.P.Pipes.known.out_name g.P.Pipes.known.in_name c.args.state.now (g.H.Holder.holding c.args.holder.now) c.args.e w c.args.answer _ c.in-None.is (c.reason_for.ensures w.control w.stands)
