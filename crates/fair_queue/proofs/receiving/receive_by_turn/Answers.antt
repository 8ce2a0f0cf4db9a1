use Rattle.std.proofs.Common.{All, ap, subst, ◌∙◌}
use Rattle.msg_pipe.proofs.TurnsLemmas.{All-middle}
use Rattle.fair_queue.proofs.ReceivingLemmas.{Receives-taken}
use Rattle.fair_queue.proofs.receiving.receive_by_turn.Goals as goal

pub pair-requires : goal.pair-requires
pair-requires g c =
    let s = c.in-Got.ensures.next.next in
    let P = g.E.Peers.here c.args.peers.now in
    c.next_in.ensures.keeps.stay c.in-Got.place
    (All-middle P s.before s.after c.in-Got.place (subst (All P) s.turns_are c.requires.there))

pub returns-in-Got-clause-step : goal.returns-in-Got-clause-step
returns-in-Got-clause-step g c =
    Receives-taken g.E.Peers.runs (g.E.Peers.end_at c.args.peers.now) c.args.peers.now c.next_in.new.peers c.args.turns.now c.next_in.new.turns
    c.in-Got.message c.in-Got.place c.pair.result c.in-Got.ensures.next
    (c.pair.ensures ∙ ap (λ ends. (ends c.in-Got.place).pair) c.next_in.ensures.keeps.ends)
