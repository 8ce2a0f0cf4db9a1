use Rattle.ctl_moves.proofs.JoinOneLemmas.{joins_next, may_join}
use Rattle.ctl_moves.proofs.pairing.join_one.Goals as goal

pub join_pair-requires : goal.join_pair-requires
join_pair-requires g c = record { may = may_join g.P.Pipes.known.out_name g.P.Pipes.known.in_name c.args.state.now (g.H.Holder.holding c.args.holder.now) c.args.socket c.args.drawn c.requires.may }

pub returns : goal.returns
returns g c = λ w.
    joins_next g.P.Pipes.known.out_name g.P.Pipes.known.in_name c.args.state.now (g.H.Holder.holding c.args.holder.now) c.args.socket c.args.drawn w c.args.at.now c.join_pair.new.state c.fulfil.new.self (g.H.Holder.holding c.join_pair.new.holder) (c.join_pair.ensures (may_join g.P.Pipes.known.out_name g.P.Pipes.known.in_name c.args.state.now (g.H.Holder.holding c.args.holder.now) c.args.socket c.args.drawn w)) c.fulfil.ensures.stands c.fulfil.ensures.ends c.fulfil.ensures.rest
