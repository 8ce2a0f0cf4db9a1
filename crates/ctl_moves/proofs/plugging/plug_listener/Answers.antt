use Rattle.ctl_moves.proofs.PlugLemmas.{address_brought, listener_taken}
use Rattle.ctl_moves.proofs.plugging.plug_listener.Goals as goal

pub address_of-address-requires : goal.address_of-address-requires
address_of-address-requires g c = let w = c.requires.may in address_brought c.args.load w.comes.address w.comes.brings

pub returns-in-Ok-clause-ok : goal.returns-in-Ok-clause-ok
returns-in-Ok-clause-ok g c = λ w.
    listener_taken g.P.Pipes.known.out_name g.P.Pipes.known.in_name c.args.state.now (g.H.Holder.holding c.args.holder.now) c.args.o c.args.load w c.take_in.new.state (g.H.Holder.holding c.take_in.new.holder) _ c.new.ensures
    (c.in-Ok.ensures.stands w.control w.stands) c.in-Ok.ensures.next c.in-Ok.ensures.ok (c.in-Ok.ensures.heard w.control w.stands)
