use Rattle.std.proofs.Common.{All, ap, subst, ◌∙◌, arith}
use Rattle.msg_pipe.proofs.TurnsLemmas.{All-middle}
use Rattle.load_balancer.proofs.SendingLemmas.{Sends-put, Sends-none, Sends-peerless}
use Rattle.load_balancer.proofs.sending.send_by_turn.Goals as goal

pub pair-requires : goal.pair-requires
pair-requires g c =
    let put = c.in-Put.ensures.next in
    let P = g.E.Peers.here c.args.peers.now in
    c.next_out.ensures.keeps.stay c.in-Put.place
    (All-middle P put.before put.after c.in-Put.place (subst (All P) put.turns_are c.requires.there))

pub returns-in-Put-clause-step : goal.returns-in-Put-clause-step
returns-in-Put-clause-step g c =
    Sends-put g.E.Peers.runs (g.E.Peers.end_at c.args.peers.now) (g.E.Peers.writable c.args.peers.now) c.args.message c.args.peers.now c.next_out.new.peers
    c.args.turns.now c.next_out.new.turns c.in-Put.place c.pair.result (omega arith) c.in-Put.ensures.next
    (c.pair.ensures ∙ ap (λ ends. (ends c.in-Put.place).pair) c.next_out.ensures.keeps.ends)

pub returns-in-AllFull-clause-step : goal.returns-in-AllFull-clause-step
returns-in-AllFull-clause-step g c =
    Sends-none g.E.Peers.runs (g.E.Peers.end_at c.args.peers.now) (g.E.Peers.writable c.args.peers.now) c.args.message c.args.peers.now c.next_out.new.peers
    c.args.turns.now c.next_out.new.turns c.in-AllFull.back (omega arith) c.in-AllFull.ensures.next

pub returns-in-NoPeer-clause-step : goal.returns-in-NoPeer-clause-step
returns-in-NoPeer-clause-step g c =
    Sends-peerless g.E.Peers.runs (g.E.Peers.end_at c.args.peers.now) (g.E.Peers.writable c.args.peers.now) c.args.message c.args.peers.now c.next_out.new.peers
    c.args.turns.now c.next_out.new.turns g.met.E.Peers.runs_none c.in-NoPeer.back (omega arith) c.in-NoPeer.ensures.next
