use Rattle.plain_core.proofs.FreshLemmas as lemmas
use Rattle.plain_core.proofs.fresh.fresh_socket.Goals as goal

pub returns-clause-fresh : goal.returns-clause-fresh
returns-clause-fresh g c = lemmas.fresh_of c.args.number.0 c.args.kind c.args.options.now c.new-sock.result c.new-holder.result.core c.new-holder.ensures.socket c.new-sock.ensures

pub returns-clause-stands : goal.returns-clause-stands
returns-clause-stands g c pipes =
    lemmas.fresh_stands c.args.number.0 c.args.kind c.args.options.now c.new-holder.result.core (returns-clause-fresh g c) g.P.Pipes.known c.new-holder.result.pipes pipes
    (record {
      sound = c.new-holder.result.sound;
      peers_are = c.new-holder.result.peers;
      room = c.new-holder.result.room;
      gone = c.new-holder.result.gone;
      stopped_is = c.new-holder.result.stopped;
      flagged = c.new-holder.result.flagged;
      in_use = c.new-holder.result.in_use;
      settled_are = c.new-holder.result.settled_are;
      sealed_are = c.new-holder.result.sealed_are;
    })

pub returns-clause-view : goal.returns-clause-view
returns-clause-view g c slot = lemmas.fresh_view c.args.number.0 c.args.kind c.args.options.now c.new-holder.result.core (returns-clause-fresh g c) slot
