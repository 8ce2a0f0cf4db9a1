use Rattle.std.proofs.Common.{◌≡◌, ◌∙◌, ◌≤◌, All, Some, filter, length, nat_eq, true, ap, sym, subst, arith}
use Rattle.std.proofs.lemmas.List.Elements.{All-filter, filter_passes}
use Rattle.std.specs.List.{slice_get}
use Rattle.std.specs.Map.{keys_of}
use Rattle.spec_pattern.specs.Topics.{matching}
use Rattle.spec_pattern.proofs.ResultsLemmas.{MatchSend-as}
use Rattle.pub_sub.specs.Many.{SendsMany}
use Rattle.pub_sub.specs.Publishers.{PubState, Publishes}
use Rattle.pub_sub.proofs.SendLemmas.{Publishes-many, Publishes-too_large, All-matching}
use Rattle.pub_sub.proofs.publisher.Publisher.send.Goals as goal

pub returns-then-len-gt-MAX_COMMITTED-clause-step : goal.returns-then-len-gt-MAX_COMMITTED-clause-step
returns-then-len-gt-MAX_COMMITTED-clause-step g c =
    Publishes-too_large g.E.Peers.runs (g.E.Peers.end_at c.args.peers.now) (g.E.Peers.writable c.args.peers.now) c.args.message c.args.peers.now c.args.self.now
    (g.met.E.Peers.runs_none c.args.peers.now) (omega arith)

pub open_places-requires : goal.open_places-requires
open_places-requires g c = record {
  there = subst (All (g.E.Peers.here c.args.peers.now)) (sym (c.as_slice-2.ensures.value ∙ c.in-Ok.ensures)) (All-matching (g.E.Peers.here c.args.peers.now) c.self.inside.audience.topics c.as_slice.result.now
      (subst (λ (p : PubState). All (g.E.Peers.here c.args.peers.now) (keys_of p.subs)) (sym c.self.view_is) c.requires.there));
}

pub send_to_many-requires-clause-there : goal.send_to_many-requires-clause-there
send_to_many-requires-clause-there g c =
    subst (All (g.E.Peers.here c.args.peers.now)) (sym (c.as_slice-3.ensures.value ∙ c.in-Ok-open_places.ensures))
    (All-filter (g.E.Peers.writable c.args.peers.now) (g.E.Peers.here c.args.peers.now) c.as_slice-2.result.now
    (subst (All (g.E.Peers.here c.args.peers.now)) (sym (c.as_slice-2.ensures.value ∙ c.in-Ok.ensures)) (All-matching (g.E.Peers.here c.args.peers.now) c.self.inside.audience.topics c.as_slice.result.now
    (subst (λ (p : PubState). All (g.E.Peers.here c.args.peers.now) (keys_of p.subs)) (sym c.self.view_is) c.requires.there))))

pub send_to_many-requires-clause-open : goal.send_to_many-requires-clause-open
send_to_many-requires-clause-open g c =
    subst (All (λ place. g.E.Peers.writable c.args.peers.now place ≡ true)) (sym (c.as_slice-3.ensures.value ∙ c.in-Ok-open_places.ensures))
    (filter_passes (g.E.Peers.writable c.args.peers.now) c.as_slice-2.result.now)

pub returns-clause-step : goal.returns-clause-step
returns-clause-step g c =
    let few : length c.args.message ≤ 1023 = omega arith in
    let first : slice_get c.args.message 0 ≡ Some c.as_slice.result.now = c.frame.ensures ∙ ap (λ f. Some f) (sym c.as_slice.ensures) in
    let are : c.as_slice-3.result.now ≡ filter (g.E.Peers.writable c.args.peers.now) (matching nat_eq c.args.self.now.subs c.as_slice.result.now) =
    c.as_slice-3.ensures.value ∙ c.in-Ok-open_places.ensures
    ∙ ap (filter (g.E.Peers.writable c.args.peers.now)) (c.as_slice-2.ensures.value ∙ c.in-Ok.ensures ∙ ap (λ (p : PubState). matching nat_eq p.subs c.as_slice.result.now) c.self.view_is) in
    MatchSend-as (c.send_to_many.new.peers ≡ c.args.peers.now)
    (λ answer. SendsMany g.E.Peers.runs (g.E.Peers.end_at c.args.peers.now) c.args.message c.args.peers.now c.send_to_many.new.peers c.as_slice-3.result.now answer)
    (λ answer. Publishes g.E.Peers.runs (g.E.Peers.end_at c.args.peers.now) (g.E.Peers.writable c.args.peers.now) c.args.message c.args.peers.now c.send_to_many.new.peers c.args.self.now answer)
    c.send_to_many.result
    (λ answer s. Publishes-many g.E.Peers.runs (g.E.Peers.end_at c.args.peers.now) (g.E.Peers.writable c.args.peers.now) c.args.message c.args.peers.now c.send_to_many.new.peers c.args.self.now answer
    c.as_slice.result.now c.as_slice-3.result.now few first are s)
    c.send_to_many.ensures.step
