use Rattle.ctl_moves.proofs.OwnAskingLemmas.{ends_over, over_lives, over_none, over_room}
use Rattle.ctl_moves.proofs.over_ending.end_over.Goals as goal

pub try_end-ended-requires : goal.try_end-ended-requires
try_end-ended-requires g c =
    let w = c.requires.may in
    let met = c.needs.ensures w.control w.stands in
    record {
      unended = met.unended c.args.id (over_lives c.args.state.now (g.H.Holder.holding c.args.holder.now) c.args.id w);
      room = over_room c.args.state.now (g.H.Holder.holding c.args.holder.now) c.args.id w;
    }

pub over-requires : goal.over-requires
over-requires g c = record { none = over_none c.args.state.now (g.H.Holder.holding c.args.holder.now) c.args.id c.requires.may }

pub returns : goal.returns
returns g c = λ w. ends_over c.args.state.now (g.H.Holder.holding c.args.holder.now) c.args.id w g.P.Pipes.known.out_name g.P.Pipes.known.in_name c.try_end-ended.new.self (g.H.Holder.holding c.over.new.self)
    (c.try_end-ended.ensures.stands w.control w.stands) c.try_end-ended.ensures.only c.over.ensures.told c.over.ensures.heard
