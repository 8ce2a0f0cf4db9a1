use Rattle.std.proofs.Common.{◌≡◌, ◌∙◌, All, true, ap, sym, subst, Some}
use Rattle.std.specs.Map.{keys_of}
use Rattle.fair_queue.specs.FairQueue.{ServesNext}
use Rattle.pub_sub.specs.Places.{is_place}
use Rattle.pub_sub.specs.Publishers.{PubState, obeyed}
use Rattle.pub_sub.proofs.KnownLemmas.{all_heard, place_of_all, serving_place}
use Rattle.pub_sub.proofs.publisher.Publisher.hear_next.Goals as goal

pub next_in-requires : goal.next_in-requires
next_in-requires g c = record {
  there = all_heard (g.E.Peers.here c.args.peers.now) (record {
    ins = c.self.inside.ins;
    subs = c.self.inside.audience.topics;
    kept = c.self.inside.kept;
    inbox = c.self.inside.audience.inbox.notices;
    verbose = c.self.inside.audience.verbose;
    tells = c.self.inside.audience.tells;
  }) c.self.invariant.known
      (subst (λ (p : PubState). All (g.E.Peers.here c.args.peers.now) (keys_of p.subs)) (sym c.self.view_is) c.requires.there);
}

pub pair-pair-requires : goal.pair-pair-requires
pair-pair-requires g c =
    let n : ServesNext (g.E.Peers.end_at c.args.peers.now) c.self.inside.ins c.in-Got.ensures.next.steps c.in-Got.place c.in-Got.message c.next_in.new.turns = c.in-Got.ensures.next.next in
    let served : is_place c.self.inside.ins c.in-Got.place ≡ true = serving_place c.self.inside.ins n.before n.after c.in-Got.place n.turns_are in
    c.in-Got.ensures.keeps.stay c.in-Got.place
    (place_of_all (g.E.Peers.here c.args.peers.now) c.self.inside.ins c.in-Got.place
    (all_heard (g.E.Peers.here c.args.peers.now) (record {
      ins = c.self.inside.ins;
      subs = c.self.inside.audience.topics;
      kept = c.self.inside.kept;
      inbox = c.self.inside.audience.inbox.notices;
      verbose = c.self.inside.audience.verbose;
      tells = c.self.inside.audience.tells;
    }) c.self.invariant.known
    (subst (λ (p : PubState). All (g.E.Peers.here c.args.peers.now) (keys_of p.subs)) (sym c.self.view_is) c.requires.there)) served)

pub returns-in-Ok-clause-heard : goal.returns-in-Ok-clause-heard
returns-in-Ok-clause-heard g c =
    let n : ServesNext (g.E.Peers.end_at c.args.peers.now) c.self.inside.ins c.in-Got.ensures.next.steps c.in-Got.place c.in-Got.message c.next_in.new.turns = c.in-Got.ensures.next.next in
    let served : is_place c.self.inside.ins c.in-Got.place ≡ true = serving_place c.self.inside.ins n.before n.after c.in-Got.place n.turns_are in
    record {
      place = c.in-Got.place;
      message = c.in-Got.message;
      turns = c.next_in.new.turns;
      steps = c.in-Got.ensures.next.steps;
      runs_are = c.in-Got.ensures.next.runs_are;
      comes = subst (λ l. ServesNext (g.E.Peers.end_at c.args.peers.now) l c.in-Got.ensures.next.steps c.in-Got.place c.in-Got.message c.next_in.new.turns) (ap (λ (p : PubState). p.ins) c.self.view_is) n;
      known = ap (λ (p : PubState). is_place (keys_of p.subs) c.in-Got.place) (sym c.self.view_is) ∙ c.self.invariant.known.ins c.in-Got.place served;
      new_is =
          c.in-Ok.ensures.ok
          ∙ (λ j. obeyed ((c.pair-pair.ensures ∙ ap (λ ends. (ends c.in-Got.place).pair) c.in-Got.ensures.keeps.ends) j) c.in-Got.place c.in-Got.message (record (c.self.view_is j) { ins = c.next_in.new.turns }));
    }

pub returns-in-Err-clause-memory : goal.returns-in-Err-clause-memory
returns-in-Err-clause-memory g c =
    let n : ServesNext (g.E.Peers.end_at c.args.peers.now) c.self.inside.ins c.in-Got.ensures.next.steps c.in-Got.place c.in-Got.message c.next_in.new.turns = c.in-Got.ensures.next.next in
    let served : is_place c.self.inside.ins c.in-Got.place ≡ true = serving_place c.self.inside.ins n.before n.after c.in-Got.place n.turns_are in
    record {
      place = c.in-Got.place;
      message = c.in-Got.message;
      turns = c.next_in.new.turns;
      steps = c.in-Got.ensures.next.steps;
      runs_are = c.in-Got.ensures.next.runs_are;
      comes = subst (λ l. ServesNext (g.E.Peers.end_at c.args.peers.now) l c.in-Got.ensures.next.steps c.in-Got.place c.in-Got.message c.next_in.new.turns) (ap (λ (p : PubState). p.ins) c.self.view_is) n;
      known = ap (λ (p : PubState). is_place (keys_of p.subs) c.in-Got.place) (sym c.self.view_is) ∙ c.self.invariant.known.ins c.in-Got.place served;
      new_is = c.in-Err.ensures.err ∙ (λ j. record (c.self.view_is j) { ins = c.next_in.new.turns; kept = Some (c.in-Got.place, c.in-Got.message) });
    }
