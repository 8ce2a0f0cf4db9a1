use Rattle.ctl_moves.proofs.UndrawLemmas.{is_last, last_number, taken_less, was_drawn, writes_it}
use Rattle.ctl_moves.proofs.undrawing.undraw_one.Goals as goal

pub take_back-halves-requires-clause-last : goal.take_back-halves-requires-clause-last
take_back-halves-requires-clause-last g c = is_last c.args.state.now (g.H.Holder.holding c.args.holder.now) c.args.socket.0 c.args.drawn c.requires.taken

pub take_back-halves-requires-clause-writer : goal.take_back-halves-requires-clause-writer
take_back-halves-requires-clause-writer g c = writes_it c.args.state.now (g.H.Holder.holding c.args.holder.now) c.args.socket.0 c.args.drawn c.requires.taken

pub undraw_pair-requires-clause-drawn : goal.undraw_pair-requires-clause-drawn
undraw_pair-requires-clause-drawn g c = was_drawn c.args.state.now (g.H.Holder.holding c.args.holder.now) c.args.socket.0 c.args.drawn c.requires.taken

pub undraw_pair-requires-clause-last : goal.undraw_pair-requires-clause-last
undraw_pair-requires-clause-last g c = last_number c.args.state.now (g.H.Holder.holding c.args.holder.now) c.args.socket.0 c.args.drawn c.requires.taken

pub returns-clause-back : goal.returns-clause-back
returns-clause-back g c = λ w. taken_less c.args.state.now (g.H.Holder.holding c.args.holder.now) c.args.socket.0 c.args.drawn w c.undraw_pair.new.state (g.H.Holder.holding c.take_back-halves.new.self) (c.undraw_pair.ensures (was_drawn c.args.state.now (g.H.Holder.holding c.args.holder.now) c.args.socket.0 c.args.drawn w)) c.take_back-halves.ensures.left c.take_back-halves.ensures.turns c.take_back-halves.ensures.joins c.take_back-halves.ensures.heard

pub take_back-halves-requires-clause-calm : goal.take_back-halves-requires-clause-calm
take_back-halves-requires-clause-calm g c = c.requires.calm

pub returns-clause-calm : goal.returns-clause-calm
returns-clause-calm g c = λ came calm. c.take_back-halves.ensures.calm came calm
