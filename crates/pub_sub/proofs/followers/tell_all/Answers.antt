use Rattle.std.proofs.Common.{refl, sym, ap, subst, ◌∙◌, All, arith, get_or}
use Rattle.pub_sub.specs.Telling.{TellsAt, IsTelling, IsTold}
use Rattle.pub_sub.proofs.KnownLemmas.{on_err, KeepsPlaces-on}
use Rattle.pub_sub.proofs.FollowerLemmas.{IsTellingAll-none, IsTellingAll-more, StopsRows-at, StayFollowers-written, one_of, told_more, both_true, take_all}
use Rattle.pub_sub.proofs.followers.tell_all.Goals as goal

pub loop-follower-init : goal.loop-follower-init
loop-follower-init g c = record {
  telling = IsTellingAll-none g.E.Peers.runs (g.E.Peers.end_at c.args.peers.now) (g.E.Peers.writable c.args.peers.now) c.args.wanted.now c.args.peers.now c.args.followers.now
      (g.met.E.Peers.runs_none c.args.peers.now);
  same = record { places_are = refl; follow = c.requires.follow };
  none = λ e k d lt. absurd (omega arith);
  keeps = record { stay = λ k h. h; ends = refl; states = refl };
}

pub tell-requires-clause-there : goal.tell-requires-clause-there
tell-requires-clause-there g c =
    c.loop-follower.invariant.keeps.stay (get_or c.loop-follower.followers c.loop-follower.follower-index c.follower-item.result).place
    (one_of (g.E.Peers.here c.args.peers.now) c.loop-follower.followers c.loop-follower.follower-index (get_or c.loop-follower.followers c.loop-follower.follower-index c.follower-item.result) (omega (arith, c.loop-follower.auto.followers, c.loop-follower-test.true)) (ap (get_or c.loop-follower.followers c.loop-follower.follower-index) c.follower-item.is)
    (subst (All (g.E.Peers.here c.args.peers.now)) (sym c.loop-follower.invariant.same.places_are) c.requires.there))

pub returns-in_err-told-clause-memory : goal.returns-in_err-told-clause-memory
returns-in_err-told-clause-memory g c =
    on_err c.from_residual.result _
    (StopsRows-at g.E.Peers.runs (g.E.Peers.end_at c.args.peers.now) (g.E.Peers.writable c.args.peers.now) c.args.wanted.now c.args.peers.now c.loop-follower.peers c.tell.new.peers
    c.args.followers.now c.loop-follower.followers c.loop-follower.follower-index (get_or c.loop-follower.followers c.loop-follower.follower-index c.follower-item.result) c.tell.new.self (omega (arith, c.loop-follower.auto.followers, c.loop-follower-test.true)) (ap (get_or c.loop-follower.followers c.loop-follower.follower-index) c.follower-item.is)
    c.in_err-told.ensures.same.place_is c.loop-follower.invariant.telling
    (subst (λ e. IsTelling g.E.Peers.runs e c.loop-follower.peers c.tell.new.peers c.args.wanted.now (get_or c.loop-follower.followers c.loop-follower.follower-index c.follower-item.result).place (get_or c.loop-follower.followers c.loop-follower.follower-index c.follower-item.result).told.told c.tell.new.self.told.told)
    c.loop-follower.invariant.keeps.ends c.in_err-told.ensures.memory))

pub returns-in_err-told-clause-same : goal.returns-in_err-told-clause-same
returns-in_err-told-clause-same g c =
    StayFollowers-written c.args.wanted.now c.args.followers.now c.loop-follower.followers c.loop-follower.follower-index (get_or c.loop-follower.followers c.loop-follower.follower-index c.follower-item.result) c.tell.new.self
    (omega (arith, c.loop-follower.auto.followers, c.loop-follower-test.true)) (ap (get_or c.loop-follower.followers c.loop-follower.follower-index) c.follower-item.is) c.in_err-told.ensures.same c.loop-follower.invariant.same

pub loop-follower-preserved : goal.loop-follower-preserved
loop-follower-preserved g c = record {
  telling = IsTellingAll-more g.E.Peers.runs g.met.E.Peers.runs_on (g.E.Peers.end_at c.args.peers.now) (g.E.Peers.writable c.args.peers.now) c.args.wanted.now c.args.peers.now c.loop-follower.peers c.tell.new.peers
      c.args.followers.now c.loop-follower.followers c.loop-follower.follower-index (get_or c.loop-follower.followers c.loop-follower.follower-index c.follower-item.result) c.tell.new.self (omega (arith, c.loop-follower.auto.followers, c.loop-follower-test.true)) (ap (get_or c.loop-follower.followers c.loop-follower.follower-index) c.follower-item.is)
      c.in_ok-told.ensures.same.place_is c.loop-follower.invariant.telling
      (subst (λ e. TellsAt g.E.Peers.runs e (g.E.Peers.writable c.args.peers.now (get_or c.loop-follower.followers c.loop-follower.follower-index c.follower-item.result).place) c.loop-follower.peers c.tell.new.peers c.args.wanted.now (get_or c.loop-follower.followers c.loop-follower.follower-index c.follower-item.result).place (get_or c.loop-follower.followers c.loop-follower.follower-index c.follower-item.result).told.told c.tell.new.self.told.told)
      c.loop-follower.invariant.keeps.ends
      (subst (λ w. TellsAt g.E.Peers.runs (g.E.Peers.end_at c.loop-follower.peers) (w (get_or c.loop-follower.followers c.loop-follower.follower-index c.follower-item.result).place) c.loop-follower.peers c.tell.new.peers c.args.wanted.now (get_or c.loop-follower.followers c.loop-follower.follower-index c.follower-item.result).place (get_or c.loop-follower.followers c.loop-follower.follower-index c.follower-item.result).told.told c.tell.new.self.told.told)
      c.loop-follower.invariant.keeps.states c.in_ok-told.ensures.told));
  same = StayFollowers-written c.args.wanted.now c.args.followers.now c.loop-follower.followers c.loop-follower.follower-index (get_or c.loop-follower.followers c.loop-follower.follower-index c.follower-item.result) c.tell.new.self
      (omega (arith, c.loop-follower.auto.followers, c.loop-follower-test.true)) (ap (get_or c.loop-follower.followers c.loop-follower.follower-index) c.follower-item.is) c.in_ok-told.ensures.same c.loop-follower.invariant.same;
  none = λ e.
      let both = both_true c.loop-follower.none c.in_ok-told.told (sym c.both-none.ensures ∙ e) in
      told_more (IsTold c.args.wanted.now) c.loop-follower.followers c.loop-follower.follower-index c.tell.new.self (omega (arith, c.loop-follower.auto.followers, c.loop-follower-test.true))
      (c.loop-follower.invariant.none both.0) (c.in_ok-told.ensures.none both.1);
  keeps = KeepsPlaces-on g.E.Peers.here g.E.Peers.end_at g.E.Peers.writable c.args.peers.now c.loop-follower.peers c.tell.new.peers c.loop-follower.invariant.keeps c.in_ok-told.ensures.keeps;
}

pub returns-clause-none : goal.returns-clause-none
returns-clause-none g c = λ e.
    subst (All (IsTold c.args.wanted.now)) (take_all c.loop-follower.followers c.loop-follower.follower-index (omega (arith, c.loop-follower.auto.followers, c.loop-follower-test.false)))
    (c.loop-follower.invariant.none e)
