use Rattle.std.proofs.Common.{arith, ◌∙◌, subst}
use Rattle.std.proofs.lemmas.List.Sorted.{length_permutation}
use Rattle.zq_base.specs.declared.kind.Kind.TheVariants.{Push, Pair}
use Rattle.spec_pattern.proofs.ResultsLemmas.{MatchSend-as}
use Rattle.spec_pattern.specs.AtPlaces.{Sends}
use Rattle.load_balancer.proofs.SendingLemmas.{Sends-pair}
use Rattle.push_pull.proofs.OnePeerLemmas.{one_order}
use Rattle.push_pull.proofs.pair_sock.PairSock.send.Goals as goal

pub invariant_of-self : goal.invariant_of-self
invariant_of-self g c =
    let same = length_permutation c.self.inside.turns c.send_by_turn.new.turns c.send_by_turn.ensures.places in
    let one = c.self.invariant in
    omega (arith, same, one)

pub returns-clause-step : goal.returns-clause-step
returns-clause-step g c =
    let runs = g.E.Peers.runs in
    let ends = g.E.Peers.end_at c.args.peers.now in
    let writable = g.E.Peers.writable c.args.peers.now in
    let m = c.args.message in
    let old = c.args.peers.now in
    let new = c.send_by_turn.new.peers in
    let turns' = c.send_by_turn.new.turns in
    MatchSend-as ⊥ (λ answer. Sends runs ends writable Push m old new c.self.inside.turns answer turns') (λ answer. Sends runs ends writable Pair m old new c.args.self.now answer turns') c.send_by_turn.result
    (λ answer sends. subst (λ l. Sends runs ends writable Pair m old new l answer turns') c.self.view_is (Sends-pair runs ends writable m old new c.self.inside.turns turns' answer sends))
    c.send_by_turn.ensures.step

pub returns-clause-peer : goal.returns-clause-peer
returns-clause-peer g c = one_order c.self.inside.turns c.send_by_turn.new.turns c.self.invariant c.send_by_turn.ensures.places ∙ c.self.view_is
