use Rattle.std.proofs.Common.{ap, subst, ◌∙◌}
use Rattle.zq_base.specs.declared.kind.Kind.TheVariants.{Push, Dealer}
use Rattle.spec_pattern.proofs.ResultsLemmas.{MatchSend-as}
use Rattle.msg_pipe.specs.BothTurns.{Both}
use Rattle.spec_pattern.specs.AtPlaces.{Sends}
use Rattle.load_balancer.proofs.SendingLemmas.{Sends-dealer}
use Rattle.router_dealer.specs.contracts.dealer.Dealer.{the_view}
use Rattle.router_dealer.proofs.dealer.Dealer.send.Goals as goal

pub returns-clause-step : goal.returns-clause-step
returns-clause-step g c =
    let runs = g.E.Peers.runs in
    let ends = g.E.Peers.end_at c.args.peers.now in
    let writable = g.E.Peers.writable c.args.peers.now in
    let m = c.args.message in
    let old = c.args.peers.now in
    let new = c.send_by_turn.new.peers in
    let turns = c.self-inside.inside.0.0.outs in
    let turns' = c.send_by_turn.new.turns in
    MatchSend-as ⊥ (λ answer. Sends runs ends writable Push m old new turns answer turns') (λ answer. Sends runs ends writable Dealer m old new c.args.self.now.outs answer turns') c.send_by_turn.result
    (λ answer sends. subst (λ (s : Both). Sends runs ends writable Dealer m old new s.outs answer turns') (ap the_view c.self-inside.view_is ∙ c.self.view_is) (Sends-dealer runs ends writable m old new turns turns' answer sends))
    c.send_by_turn.ensures.step
