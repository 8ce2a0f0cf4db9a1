use Rattle.std.proofs.Common.{◌∙◌, All, nat_eq, sym, ap, subst, arith, true≢false}
use Rattle.std.proofs.lemmas.List.{with_items_is}
use Rattle.std.specs.List.{IsDistinct}
use Rattle.std.specs.Map.{keys_of}
use Rattle.pub_sub.specs.Telling.{IsFollower, IsTold}
use Rattle.pub_sub.specs.Followers.{rows_of, places_of}
use Rattle.pub_sub.specs.Subscribing.{SubState}
use Rattle.pub_sub.proofs.KnownLemmas.{on_err}
use Rattle.pub_sub.proofs.ChangeLemmas.{TellsPeers-rows, StopsTelling-rows}
use Rattle.pub_sub.proofs.SubscriberLemmas.{keys_rows}
use Rattle.pub_sub.proofs.subscriber.Subscriber.tell_each.Goals as goal

pub tell_all-requires-clause-there : goal.tell_all-requires-clause-there
tell_all-requires-clause-there g c =
    subst (All (g.E.Peers.here c.args.peers.now))
    (ap (λ (s : SubState). keys_of s.followers) (sym c.self.view_is) ∙ keys_rows c.self.inside.followers.items ∙ ap places_of (sym c.as_mut_slice.ensures.value)) c.requires.there

pub tell_all-requires-clause-follow : goal.tell_all-requires-clause-follow
tell_all-requires-clause-follow g c = subst (All (IsFollower c.self.inside.wanted)) (sym c.as_mut_slice.ensures.value) c.self.invariant.follow

pub invariant_of-self : goal.invariant_of-self
invariant_of-self g c = record {
  short = c.self.invariant.short;
  apart = subst (IsDistinct nat_eq)
      (ap places_of (sym c.as_mut_slice.ensures.value) ∙ sym c.tell_all.ensures.same.places_are
      ∙ ap places_of (sym (with_items_is c.self.inside.followers c.tell_all.new.followers (omega (arith, c.tell_all.auto.followers, c.as_mut_slice.ensures.len))))) c.self.invariant.apart;
  follow = subst (All (IsFollower c.self.inside.wanted)) (sym (with_items_is c.self.inside.followers c.tell_all.new.followers (omega (arith, c.tell_all.auto.followers, c.as_mut_slice.ensures.len)))) c.tell_all.ensures.same.follow;
  none_left = λ e. absurd (true≢false (sym e));
}

pub invariant_of-self-2 : goal.invariant_of-self-2
invariant_of-self-2 g c = record {
  short = c.self.invariant.short;
  apart = subst (IsDistinct nat_eq)
      (ap places_of (sym c.as_mut_slice.ensures.value) ∙ sym c.tell_all.ensures.same.places_are
      ∙ ap places_of (sym (with_items_is c.self.inside.followers c.tell_all.new.followers (omega (arith, c.tell_all.auto.followers, c.as_mut_slice.ensures.len))))) c.self.invariant.apart;
  follow = subst (All (IsFollower c.self.inside.wanted)) (sym (with_items_is c.self.inside.followers c.tell_all.new.followers (omega (arith, c.tell_all.auto.followers, c.as_mut_slice.ensures.len)))) c.tell_all.ensures.same.follow;
  none_left = λ e. subst (All (IsTold c.self.inside.wanted)) (sym (with_items_is c.self.inside.followers c.tell_all.new.followers (omega (arith, c.tell_all.auto.followers, c.as_mut_slice.ensures.len)))) (c.in_ok-none.ensures.none e);
}

pub returns-clause-same : goal.returns-clause-same
returns-clause-same g c = record {
  ins_are = ap (λ (s : SubState). s.ins) c.self.view_is;
  places_are =
      ap (λ l. keys_of (rows_of l)) (with_items_is c.self.inside.followers c.tell_all.new.followers (omega (arith, c.tell_all.auto.followers, c.as_mut_slice.ensures.len)))
      ∙ keys_rows c.tell_all.new.followers ∙ c.tell_all.ensures.same.places_are ∙ ap places_of c.as_mut_slice.ensures.value
      ∙ sym (keys_rows c.self.inside.followers.items) ∙ ap (λ (s : SubState). keys_of s.followers) c.self.view_is;
}

pub returns-in_err-none-clause-same : goal.returns-in_err-none-clause-same
returns-in_err-none-clause-same g c = record {
  ins_are = ap (λ (s : SubState). s.ins) c.self.view_is;
  places_are =
      ap (λ l. keys_of (rows_of l)) (with_items_is c.self.inside.followers c.tell_all.new.followers (omega (arith, c.tell_all.auto.followers, c.as_mut_slice.ensures.len)))
      ∙ keys_rows c.tell_all.new.followers ∙ c.tell_all.ensures.same.places_are ∙ ap places_of c.as_mut_slice.ensures.value
      ∙ sym (keys_rows c.self.inside.followers.items) ∙ ap (λ (s : SubState). keys_of s.followers) c.self.view_is;
}

pub returns-clause-told : goal.returns-clause-told
returns-clause-told g c =
    let s0 : SubState = record { ins = c.self.inside.ins; wanted = c.self.inside.wanted; followers = rows_of c.self.inside.followers.items } in
    TellsPeers-rows g.E.Peers.runs (g.E.Peers.end_at c.args.peers.now) (g.E.Peers.writable c.args.peers.now) c.args.peers.now c.tell_all.new.peers s0 c.args.self.now c.self.view_is _ _ _
    (ap rows_of c.as_mut_slice.ensures.value)
    (ap rows_of (with_items_is c.self.inside.followers c.tell_all.new.followers (omega (arith, c.tell_all.auto.followers, c.as_mut_slice.ensures.len)))) c.in_ok-none.ensures.told

pub returns-in_err-none-clause-memory : goal.returns-in_err-none-clause-memory
returns-in_err-none-clause-memory g c =
    let s0 : SubState = record { ins = c.self.inside.ins; wanted = c.self.inside.wanted; followers = rows_of c.self.inside.followers.items } in
    on_err c.from_residual.result _
    (StopsTelling-rows g.E.Peers.runs (g.E.Peers.end_at c.args.peers.now) (g.E.Peers.writable c.args.peers.now) c.args.peers.now c.tell_all.new.peers s0 c.args.self.now c.self.view_is _ _ _
    (ap rows_of c.as_mut_slice.ensures.value)
    (ap rows_of (with_items_is c.self.inside.followers c.tell_all.new.followers (omega (arith, c.tell_all.auto.followers, c.as_mut_slice.ensures.len)))) c.in_err-none.ensures.memory)
