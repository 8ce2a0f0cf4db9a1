use Rattle.std.proofs.Common.{◌≡◌, ◌∙◌, All, filter, true, ap, sym, subst}
use Rattle.std.proofs.lemmas.List.Elements.{All-filter, filter_passes}
use Rattle.std.specs.Map.{keys_of}
use Rattle.spec_pattern.specs.Results.{MatchSend}
use Rattle.pub_sub.specs.Many.{SendsMany}
use Rattle.pub_sub.specs.Followers.{places_of}
use Rattle.pub_sub.specs.Subscribing.{SubState}
use Rattle.pub_sub.specs.XSubs.{MatchXSend, IfXBack}
use Rattle.pub_sub.proofs.SubscriberLemmas.{keys_rows}
use Rattle.pub_sub.proofs.XSubLemmas.{IfXBack-passed, MatchXSend-passed}
use Rattle.pub_sub.proofs.subscriber.Subscriber.pass_on.Goals as goal

pub open_followers-requires : goal.open_followers-requires
open_followers-requires g c = record {
  there =
      subst (All (g.E.Peers.here c.args.peers.now))
      (ap (λ (s : SubState). keys_of s.followers) (sym c.self.view_is) ∙ keys_rows c.self.inside.followers.items ∙ ap places_of (sym c.as_slice.ensures.value)) c.requires.there;
}

pub send_to_many-sent-requires-clause-there : goal.send_to_many-sent-requires-clause-there
send_to_many-sent-requires-clause-there g c =
    subst (All (g.E.Peers.here c.args.peers.now)) (sym (c.as_slice-2.ensures.value ∙ c.in-Ok.ensures))
    (All-filter (g.E.Peers.writable c.args.peers.now) (g.E.Peers.here c.args.peers.now) (places_of c.as_slice.result.now)
    (subst (All (g.E.Peers.here c.args.peers.now))
    (ap (λ (s : SubState). keys_of s.followers) (sym c.self.view_is) ∙ keys_rows c.self.inside.followers.items ∙ ap places_of (sym c.as_slice.ensures.value)) c.requires.there))

pub send_to_many-sent-requires-clause-open : goal.send_to_many-sent-requires-clause-open
send_to_many-sent-requires-clause-open g c =
    subst (All (λ place. g.E.Peers.writable c.args.peers.now place ≡ true)) (sym (c.as_slice-2.ensures.value ∙ c.in-Ok.ensures))
    (filter_passes (g.E.Peers.writable c.args.peers.now) (places_of c.as_slice.result.now))

pub returns-clause-step : goal.returns-clause-step
returns-clause-step g c =
    let ends = g.E.Peers.end_at c.args.peers.now in
    let writable = g.E.Peers.writable c.args.peers.now in
    let old = c.args.peers.now in
    let new = c.send_to_many-sent.new.peers in
    let are : c.as_slice-2.result.now ≡ filter writable (keys_of c.args.self.now.followers) =
    c.as_slice-2.ensures.value ∙ c.in-Ok.ensures
    ∙ ap (filter writable) (ap places_of c.as_slice.ensures.value ∙ sym (keys_rows c.self.inside.followers.items) ∙ ap (λ (s : SubState). keys_of s.followers) c.self.view_is) in
    subst (λ r. MatchXSend r (new ≡ old) ⊥ (λ answer. SendsMany g.E.Peers.runs ends c.args.message old new (filter writable (keys_of c.args.self.now.followers)) answer)) (sym c.passed_on.ensures)
    (MatchXSend-passed c.send_to_many-sent.result (new ≡ old) ⊥ (λ answer. SendsMany g.E.Peers.runs ends c.args.message old new (filter writable (keys_of c.args.self.now.followers)) answer)
    (subst (λ l. MatchSend c.send_to_many-sent.result (new ≡ old) (λ answer. SendsMany g.E.Peers.runs ends c.args.message old new l answer)) are c.send_to_many-sent.ensures.step))

pub returns-clause-back : goal.returns-clause-back
returns-clause-back g c =
    subst (λ r. IfXBack r (λ back. back ≡ c.args.message)) (sym c.passed_on.ensures) (IfXBack-passed c.send_to_many-sent.result (λ back. back ≡ c.args.message) c.send_to_many-sent.ensures.back)
