use Rattle.ctl_moves.proofs.DialingLemmas.{end_back, end_last, end_writes}
use Rattle.ctl_moves.proofs.dialing.make_dialed.Goals as goal

pub take_back-requires-clause-last : goal.take_back-requires-clause-last
take_back-requires-clause-last g c =
    end_last g.P.Pipes.known.out_name g.P.Pipes.known.in_name c.args.socket.0 c.args.first c.in-Ok.end (g.H.Holder.holding c.args.holder.now) (g.H.Holder.holding c.attach_alone.new.holder) c.in-Ok.ensures.ok

pub take_back-requires-clause-writer : goal.take_back-requires-clause-writer
take_back-requires-clause-writer g c =
    end_writes g.P.Pipes.known.out_name g.P.Pipes.known.in_name c.args.socket.0 c.args.first c.in-Ok.end (g.H.Holder.holding c.args.holder.now) (g.H.Holder.holding c.attach_alone.new.holder) c.in-Ok.ensures.ok

pub returns-in-Err-make_session-clause-back : goal.returns-in-Err-make_session-clause-back
returns-in-Err-make_session-clause-back g c =
    end_back g.P.Pipes.known.out_name g.P.Pipes.known.in_name c.args.socket.0 c.args.first c.in-Ok.end (g.H.Holder.holding c.args.holder.now) (g.H.Holder.holding c.attach_alone.new.holder) c.in-Ok.ensures.ok
    (g.H.Holder.holding c.take_back.new.self) c.requires.here c.requires.new c.take_back.ensures.left c.take_back.ensures.turns c.take_back.ensures.joins c.take_back.ensures.heard
