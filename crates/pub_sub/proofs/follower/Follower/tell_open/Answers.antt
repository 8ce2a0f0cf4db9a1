use Rattle.std.proofs.Common.{◌∙◌, Some, ◌<◌, true, false, refl, ap, sym, subst}
use Rattle.std.specs.Option.{option_map}
use Rattle.spec_pattern.specs.Wanted.{difference}
use Rattle.pub_sub.specs.Telling.{weight, TellsChange, TellsAt}
use Rattle.pub_sub.proofs.KnownLemmas.{KeepsPlaces-on}
use Rattle.pub_sub.proofs.TellLemmas.{TellsChange-as, TellsAt-full, TellsAt-all, IsTelling-more}
use Rattle.pub_sub.proofs.WeightLemmas.{weight-falls}
use Rattle.pub_sub.proofs.follower.Follower.tell_open.Goals as goal

pub returns-then-not-room-clause-told : goal.returns-then-not-room-clause-told
returns-then-not-room-clause-told g c =
    TellsAt-full g.E.Peers.runs g.met.E.Peers.runs_on (g.E.Peers.end_at c.args.peers.now) c.args.peers.now c.changes.peers c.tell_one.new.peers c.args.wanted.now c.args.self.now.place
    c.args.self.now.told.told c.changes.self.told.told c.tell_one.new.self.told.told (c.in-Some.octet, c.as_slice.result.now)
    (sym c.in_ok-octet.ensures.value ∙ ap (option_map (λ x. (x.0, x.1.items))) c.in-Some.is ∙ ap (λ l. Some (c.in-Some.octet, l)) (sym c.as_slice.ensures.value))
    c.changes.invariant.telling
    (TellsChange-as g.E.Peers.runs (g.E.Peers.end_at c.changes.peers) (g.E.Peers.end_at c.args.peers.now) c.changes.peers c.tell_one.new.peers c.changes.self.place c.args.self.now.place
    (c.in-Some.octet, c.as_slice.result.now) c.in_ok-room.room false c.difference.new.self.told c.changes.self.told.told c.tell_one.new.self.told.told
    c.changes.invariant.keeps.ends c.changes.invariant.same.place_is c.if-not-room.true c.in_ok-octet.ensures.told c.in_ok-room.ensures.told)

pub changes-smaller : goal.changes-smaller
changes-smaller g c =
    let one : TellsChange g.E.Peers.runs (g.E.Peers.end_at c.changes.peers) c.changes.peers c.tell_one.new.peers c.changes.self.place (c.in-Some.octet, c.as_slice.result.now) true c.changes.self.told.told c.tell_one.new.self.told.told =
    TellsChange-as g.E.Peers.runs (g.E.Peers.end_at c.changes.peers) (g.E.Peers.end_at c.changes.peers) c.changes.peers c.tell_one.new.peers c.changes.self.place c.changes.self.place
    (c.in-Some.octet, c.as_slice.result.now) c.in_ok-room.room true c.difference.new.self.told c.changes.self.told.told c.tell_one.new.self.told.told
    refl refl c.if-not-room.false c.in_ok-octet.ensures.told c.in_ok-room.ensures.told in
    subst (λ l. weight c.args.wanted.now l < weight c.args.wanted.now c.changes.self.told.told) (sym one.told_is)
    (weight-falls c.args.wanted.now c.changes.self.told.told (c.in-Some.octet, c.as_slice.result.now)
    (sym c.in_ok-octet.ensures.value ∙ ap (option_map (λ x. (x.0, x.1.items))) c.in-Some.is ∙ ap (λ l. Some (c.in-Some.octet, l)) (sym c.as_slice.ensures.value)))

pub changes-preserved : goal.changes-preserved
changes-preserved g c = record {
  telling =
      IsTelling-more g.E.Peers.runs g.met.E.Peers.runs_on (g.E.Peers.end_at c.args.peers.now) c.args.peers.now c.changes.peers c.tell_one.new.peers c.args.wanted.now c.args.self.now.place
      c.args.self.now.told.told c.changes.self.told.told c.tell_one.new.self.told.told (c.in-Some.octet, c.as_slice.result.now)
      (sym c.in_ok-octet.ensures.value ∙ ap (option_map (λ x. (x.0, x.1.items))) c.in-Some.is ∙ ap (λ l. Some (c.in-Some.octet, l)) (sym c.as_slice.ensures.value))
      c.changes.invariant.telling
      (TellsChange-as g.E.Peers.runs (g.E.Peers.end_at c.changes.peers) (g.E.Peers.end_at c.args.peers.now) c.changes.peers c.tell_one.new.peers c.changes.self.place c.args.self.now.place
      (c.in-Some.octet, c.as_slice.result.now) c.in_ok-room.room true c.difference.new.self.told c.changes.self.told.told c.tell_one.new.self.told.told
      c.changes.invariant.keeps.ends c.changes.invariant.same.place_is c.if-not-room.false c.in_ok-octet.ensures.told c.in_ok-room.ensures.told);
  same = record { place_is = c.in_ok-room.ensures.same.place_is ∙ c.changes.invariant.same.place_is; follows = c.in_ok-room.ensures.same.follows };
  keeps = KeepsPlaces-on g.E.Peers.here g.E.Peers.end_at g.E.Peers.writable c.args.peers.now c.changes.peers c.tell_one.new.peers c.changes.invariant.keeps c.in_ok-room.ensures.keeps;
}

pub returns-clause-told : goal.returns-clause-told
returns-clause-told g c =
    subst (TellsAt g.E.Peers.runs (g.E.Peers.end_at c.args.peers.now) true c.args.peers.now c.changes.peers c.args.wanted.now c.args.self.now.place c.args.self.now.told.told) (sym c.in_ok-octet.ensures.told)
    (TellsAt-all g.E.Peers.runs (g.E.Peers.end_at c.args.peers.now) c.args.peers.now c.changes.peers c.args.wanted.now c.args.self.now.place c.args.self.now.told.told c.changes.self.told.told
    (sym c.in_ok-octet.ensures.value ∙ ap (option_map (λ x. (x.0, x.1.items))) c.in_default.is) c.changes.invariant.telling)

pub returns-clause-none : goal.returns-clause-none
returns-clause-none g c = λ _.
    ap (λ l. difference l c.args.wanted.now) c.in_ok-octet.ensures.told
    ∙ sym c.in_ok-octet.ensures.value ∙ ap (option_map (λ x. (x.0, x.1.items))) c.in_default.is
