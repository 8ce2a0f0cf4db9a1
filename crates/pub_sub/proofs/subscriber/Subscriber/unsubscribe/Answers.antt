use Rattle.std.proofs.Common.{◌≡◌, ◌∙◌, All, true, nat_eq, is_ok, sym, ap, subst, arith, true≢false}
use Rattle.std.proofs.lemmas.Bool.{false_from_ne_true}
use Rattle.std.proofs.lemmas.List.{with_items_is}
use Rattle.std.specs.List.{IsDistinct}
use Rattle.std.specs.Map.{keys_of}
use Rattle.spec_pattern.specs.Wanted.{wants}
use Rattle.spec_pattern.specs.PatternCalls.{Unsubscribe}
use Rattle.pub_sub.specs.Telling.{IsFollower}
use Rattle.pub_sub.specs.Followers.{rows_of, places_of}
use Rattle.pub_sub.specs.Subscribing.{SubState}
use Rattle.pub_sub.proofs.ChangeLemmas.{ChangesAt-done, ChangesUntold-made, ChangesAt-not, KeepsFollowers-made, KeepsFollowers-unchanged}
use Rattle.pub_sub.proofs.SubscriberLemmas.{apart_rows, alike-less, short-less}
use Rattle.pub_sub.proofs.subscriber.Subscriber.unsubscribe.Goals as goal

pub invariant_of-self-2 : goal.invariant_of-self-2
invariant_of-self-2 g c =
    let ok = c.in-Ok.ensures.ok in
    let short = short-less c.args.topic.now c.self.inside.wanted c.unsubscribe.new.self ok c.self.invariant.short in
    record {
      short = short;
      apart =
          subst (λ l. IsDistinct nat_eq (places_of l)) (sym (with_items_is c.self.inside.followers c.note_all.new.followers (omega (arith, c.note_all.auto.followers, c.as_mut_slice.ensures.len))))
          (apart_rows c.as_mut_slice.result.now c.note_all.new.followers c.note_all.ensures.same
          (subst (λ l. IsDistinct nat_eq (places_of l)) (sym c.as_mut_slice.ensures.value) c.self.invariant.apart));
      follow =
          subst (All (IsFollower c.unsubscribe.new.self)) (sym (with_items_is c.self.inside.followers c.note_all.new.followers (omega (arith, c.note_all.auto.followers, c.as_mut_slice.ensures.len))))
          (c.note_all.ensures.follow c.self.inside.wanted c.unsubscribe.new.self (alike-less c.args.topic.now c.self.inside.wanted c.unsubscribe.new.self ok) short
          (subst (All (IsFollower c.self.inside.wanted)) (sym c.as_mut_slice.ensures.value) c.self.invariant.follow));
      none_left = λ e. absurd (true≢false (sym e));
    }

pub tell-requires : goal.tell-requires
tell-requires g c = record {
  there = subst (All (g.E.Peers.here c.args.peers.now))
      (ap (λ (s : SubState). keys_of s.followers) (sym c.self.view_is) ∙ ap (λ l. keys_of (rows_of l)) (sym c.as_mut_slice.ensures.value) ∙ ap keys_of (sym c.note_all.ensures.same)
      ∙ ap (λ l. keys_of (rows_of l)) (sym (with_items_is c.self.inside.followers c.note_all.new.followers (omega (arith, c.note_all.auto.followers, c.as_mut_slice.ensures.len))))) c.requires.there;
}

pub returns-in-Ok-tell-clause-step : goal.returns-in-Ok-tell-clause-step
returns-in-Ok-tell-clause-step g c =
    let s0 : SubState = record { ins = c.self.inside.ins; wanted = c.self.inside.wanted; followers = rows_of c.self.inside.followers.items } in
    let rows = ap rows_of (with_items_is c.self.inside.followers c.note_all.new.followers (omega (arith, c.note_all.auto.followers, c.as_mut_slice.ensures.len)))
    ∙ c.note_all.ensures.same ∙ ap rows_of c.as_mut_slice.ensures.value in
    let may : wants c.self.inside.wanted c.args.topic.now ≡ true = c.unsubscribe.ensures.wanted.0 (ap is_ok c.in-Ok.is) in
    ChangesAt-done g.E.Peers.runs (g.E.Peers.end_at c.args.peers.now) (g.E.Peers.writable c.args.peers.now) c.args.peers.now c.tell.new.peers s0 c.args.self.now c.self.view_is
    Unsubscribe c.args.topic.now c.unsubscribe.new.self _ c.in-Ok.ensures.ok rows c.tell.new.self may c.in-Ok-tell.ensures.told

pub returns-in-Ok-tell-clause-same : goal.returns-in-Ok-tell-clause-same
returns-in-Ok-tell-clause-same g c =
    let s0 : SubState = record { ins = c.self.inside.ins; wanted = c.self.inside.wanted; followers = rows_of c.self.inside.followers.items } in
    let rows = ap rows_of (with_items_is c.self.inside.followers c.note_all.new.followers (omega (arith, c.note_all.auto.followers, c.as_mut_slice.ensures.len)))
    ∙ c.note_all.ensures.same ∙ ap rows_of c.as_mut_slice.ensures.value in
    KeepsFollowers-made g.E.Peers.runs (g.E.Peers.end_at c.args.peers.now) (g.E.Peers.writable c.args.peers.now) c.args.peers.now c.tell.new.peers s0 c.args.self.now c.self.view_is
    Unsubscribe c.args.topic.now c.unsubscribe.new.self _ c.in-Ok.ensures.ok rows c.tell.new.self c.tell.ensures.same

pub returns-in-Err-tell-clause-step : goal.returns-in-Err-tell-clause-step
returns-in-Err-tell-clause-step g c =
    let s0 : SubState = record { ins = c.self.inside.ins; wanted = c.self.inside.wanted; followers = rows_of c.self.inside.followers.items } in
    let rows = ap rows_of (with_items_is c.self.inside.followers c.note_all.new.followers (omega (arith, c.note_all.auto.followers, c.as_mut_slice.ensures.len)))
    ∙ c.note_all.ensures.same ∙ ap rows_of c.as_mut_slice.ensures.value in
    let may : wants c.self.inside.wanted c.args.topic.now ≡ true = c.unsubscribe.ensures.wanted.0 (ap is_ok c.in-Ok.is) in
    ChangesUntold-made g.E.Peers.runs (g.E.Peers.end_at c.args.peers.now) (g.E.Peers.writable c.args.peers.now) c.args.peers.now c.tell.new.peers s0 c.args.self.now c.self.view_is
    Unsubscribe c.args.topic.now c.unsubscribe.new.self _ c.in-Ok.ensures.ok rows c.tell.new.self may c.in-Err-tell.ensures.memory

pub returns-in-Err-tell-clause-same : goal.returns-in-Err-tell-clause-same
returns-in-Err-tell-clause-same g c =
    let s0 : SubState = record { ins = c.self.inside.ins; wanted = c.self.inside.wanted; followers = rows_of c.self.inside.followers.items } in
    let rows = ap rows_of (with_items_is c.self.inside.followers c.note_all.new.followers (omega (arith, c.note_all.auto.followers, c.as_mut_slice.ensures.len)))
    ∙ c.note_all.ensures.same ∙ ap rows_of c.as_mut_slice.ensures.value in
    KeepsFollowers-made g.E.Peers.runs (g.E.Peers.end_at c.args.peers.now) (g.E.Peers.writable c.args.peers.now) c.args.peers.now c.tell.new.peers s0 c.args.self.now c.self.view_is
    Unsubscribe c.args.topic.now c.unsubscribe.new.self _ c.in-Ok.ensures.ok rows c.tell.new.self c.tell.ensures.same

pub returns-in-Err-clause-step : goal.returns-in-Err-clause-step
returns-in-Err-clause-step g c =
    let s0 : SubState = record { ins = c.self.inside.ins; wanted = c.self.inside.wanted; followers = rows_of c.self.inside.followers.items } in
    ChangesAt-not g.E.Peers.runs (g.E.Peers.end_at c.args.peers.now) (g.E.Peers.writable c.args.peers.now) c.args.peers.now c.args.peers.now s0 c.args.self.now c.self.view_is
    c.args.topic.now c.unsubscribe.new.self c.in-Err.ensures.err
    (false_from_ne_true (wants c.self.inside.wanted c.args.topic.now) (λ w. true≢false (sym (c.unsubscribe.ensures.wanted.1 w) ∙ ap is_ok c.in-Err.is)))
    (g.met.E.Peers.runs_none c.args.peers.now)

pub returns-in-Err-clause-same : goal.returns-in-Err-clause-same
returns-in-Err-clause-same g c =
    let s0 : SubState = record { ins = c.self.inside.ins; wanted = c.self.inside.wanted; followers = rows_of c.self.inside.followers.items } in
    KeepsFollowers-unchanged g.E.Peers.runs (g.E.Peers.end_at c.args.peers.now) (g.E.Peers.writable c.args.peers.now) c.args.peers.now c.args.peers.now s0 c.args.self.now c.self.view_is
    c.args.topic.now c.unsubscribe.new.self c.in-Err.ensures.err
