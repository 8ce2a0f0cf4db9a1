use Rattle.std.proofs.Common.{ℕ, List, Option, refl, sym, ap, subst, ◌∙◌, arith}
use Rattle.std.proofs.lemmas.List.Sorted.{IsPermutation-refl, IsPermutation-sym, IsPermutation-trans, All-permutation, Contains-permutation}
use Rattle.zq_base.specs.Message.{Frames}
use Rattle.spec_pattern.specs.TurnList.{End}
use Rattle.spec_pattern.specs.Drops.{Given}
use Rattle.spec_pattern.specs.declared.answers.Skip.{Skip}
use Rattle.msg_pipe.proofs.PlacesLemmas.{keeps_none, keeps_on, all_here}
use Rattle.spec_pattern.specs.Dropping.{receiving, DropsMore, GivesAt, FindsNone}
use Rattle.fair_queue.proofs.DroppingLemmas.{DropsMore-none, DropsMore-more, Receives-given, Receives-again, Receives-busy}
use Rattle.fair_queue.proofs.dropping.receive_dropping.Goals as goal

pub looks-init : goal.looks-init
looks-init g c = record {
  drops = DropsMore-none g.E.Peers.runs (g.E.Peers.end_at c.args.peers.now) (g.S.Sieve.gives c.args.sieve.now) c.args.rule g.met.E.Peers.runs_none
      (receiving c.args.peers.now c.args.turns.now c.args.skips.now.items);
  kept = refl;
  places = IsPermutation-refl c.args.turns.now;
  keeps = keeps_none g.E.Peers.here g.E.Peers.end_at g.E.Peers.writable c.args.peers.now;
}

pub look-requires-clause-there : goal.look-requires-clause-there
look-requires-clause-there g c =
    let inv = c.looks.invariant in
    All-permutation (g.E.Peers.here c.looks.peers) c.args.turns.now c.looks.turns inv.places
    (all_here g.E.Peers.here g.E.Peers.end_at g.E.Peers.writable c.args.peers.now c.looks.peers c.args.turns.now inv.keeps c.requires.there)

pub returns-in-Given-clause-step : goal.returns-in-Given-clause-step
returns-in-Given-clause-step g c = λ duty.
    let inv = c.looks.invariant in
    let ends = g.E.Peers.end_at c.args.peers.now in
    let new = receiving c.look.new.peers c.look.new.turns c.look.new.skips.items in
    let after = g.S.Sieve.duty c.look.new.sieve in
    Receives-given g.E.Peers.runs ends (g.S.Sieve.gives c.args.sieve.now) c.args.rule g.met.E.Peers.runs_on
    (receiving c.args.peers.now c.args.turns.now c.args.skips.now.items) (receiving c.looks.peers c.looks.turns c.looks.skips.items) new c.looks._count
    c.in-Given.place c.in-Given.message duty (after (ends c.in-Given.place)) (omega arith) inv.drops
    (subst (λ (x : (ℕ → End) × (End → Frames → Option Given) × List Skip). GivesAt g.E.Peers.runs x.0 x.1 c.args.rule (receiving c.looks.peers c.looks.turns x.2) new c.in-Given.place c.in-Given.message (after (x.0 c.in-Given.place)))
    (λ k. (inv.keeps.ends k, ap g.S.Sieve.gives inv.kept k, c.reserve.ensures.items k)) c.in-Given.ensures.looks)

pub returns-in-Given-clause-given : goal.returns-in-Given-clause-given
returns-in-Given-clause-given g c =
    Contains-permutation c.looks.turns c.args.turns.now c.in-Given.place (IsPermutation-sym c.args.turns.now c.looks.turns c.looks.invariant.places) c.in-Given.ensures.given

pub returns-in-Given-clause-places : goal.returns-in-Given-clause-places
returns-in-Given-clause-places g c = IsPermutation-trans c.args.turns.now c.looks.turns c.look.new.turns c.looks.invariant.places c.look.ensures.places

pub returns-in-Empty-clause-step : goal.returns-in-Empty-clause-step
returns-in-Empty-clause-step g c = λ duty.
    let inv = c.looks.invariant in
    let new = receiving c.look.new.peers c.look.new.turns c.look.new.skips.items in
    Receives-again g.E.Peers.runs (g.E.Peers.end_at c.args.peers.now) (g.S.Sieve.gives c.args.sieve.now) c.args.rule g.met.E.Peers.runs_on
    (receiving c.args.peers.now c.args.turns.now c.args.skips.now.items) (receiving c.looks.peers c.looks.turns c.looks.skips.items) new c.looks._count
    duty (omega arith) inv.drops
    (subst (λ (x : (ℕ → End) × (End → Frames → Option Given) × List Skip). FindsNone g.E.Peers.runs x.0 x.1 c.args.rule (receiving c.looks.peers c.looks.turns x.2) new)
    (λ k. (inv.keeps.ends k, ap g.S.Sieve.gives inv.kept k, c.reserve.ensures.items k)) c.in-Empty.ensures.looks)

pub returns-in-Empty-clause-places : goal.returns-in-Empty-clause-places
returns-in-Empty-clause-places g c = IsPermutation-trans c.args.turns.now c.looks.turns c.look.new.turns c.looks.invariant.places c.look.ensures.places

pub looks-preserved : goal.looks-preserved
looks-preserved g c =
    let inv = c.looks.invariant in
    let new = receiving c.look.new.peers c.look.new.turns c.look.new.skips.items in
    record {
      drops = DropsMore-more g.E.Peers.runs (g.E.Peers.end_at c.args.peers.now) (g.S.Sieve.gives c.args.sieve.now) c.args.rule g.met.E.Peers.runs_on
          (receiving c.args.peers.now c.args.turns.now c.args.skips.now.items) (receiving c.looks.peers c.looks.turns c.looks.skips.items) new c.looks._count
          inv.drops
          (subst (λ (x : (ℕ → End) × (End → Frames → Option Given) × List Skip). DropsMore g.E.Peers.runs x.0 x.1 c.args.rule 1 (receiving c.looks.peers c.looks.turns x.2) new)
          (λ k. (inv.keeps.ends k, ap g.S.Sieve.gives inv.kept k, c.reserve.ensures.items k)) c.in-Dropped.ensures.looks);
      kept = c.in-Dropped.ensures.kept ∙ inv.kept;
      places = IsPermutation-trans c.args.turns.now c.looks.turns c.look.new.turns inv.places c.look.ensures.places;
      keeps = keeps_on g.E.Peers.here g.E.Peers.end_at g.E.Peers.writable c.args.peers.now c.looks.peers c.look.new.peers inv.keeps c.look.ensures.keeps;
    }

pub returns-clause-step : goal.returns-clause-step
returns-clause-step g c = λ duty.
    let old = receiving c.args.peers.now c.args.turns.now c.args.skips.now.items in
    let new = receiving c.looks.peers c.looks.turns c.looks.skips.items in
    let ends = g.E.Peers.end_at c.args.peers.now in
    let gives = g.S.Sieve.gives c.args.sieve.now in
    Receives-busy g.E.Peers.runs ends gives c.args.rule old new duty
    (subst (λ (n : ℕ). DropsMore g.E.Peers.runs ends gives c.args.rule n old new) (omega arith) c.looks.invariant.drops)

pub look-requires-clause-ready : goal.look-requires-clause-ready
look-requires-clause-ready g c = subst g.S.Sieve.ready (sym c.looks.invariant.kept) c.requires.ready

pub returns-in_default-clause-step : goal.returns-in_default-clause-step
returns-in_default-clause-step g c =
    let old = receiving c.args.peers.now c.args.turns.now c.args.skips.now.items in
    record {
      count = c.looks._count;
      few = omega arith;
      drops = subst (λ (l : List Skip). DropsMore g.E.Peers.runs (g.E.Peers.end_at c.args.peers.now) (g.S.Sieve.gives c.args.sieve.now) c.args.rule c.looks._count old (receiving c.looks.peers c.looks.turns l))
          (sym c.reserve.ensures.items) c.looks.invariant.drops;
    }

pub returns-in_default-clause-kept : goal.returns-in_default-clause-kept
returns-in_default-clause-kept g c = c.looks.invariant.kept

pub returns-in_default-clause-places : goal.returns-in_default-clause-places
returns-in_default-clause-places g c = c.looks.invariant.places

pub returns-in_default-clause-keeps : goal.returns-in_default-clause-keeps
returns-in_default-clause-keeps g c = c.looks.invariant.keeps

pub returns-in-Given-clause-keeps : goal.returns-in-Given-clause-keeps
returns-in-Given-clause-keeps g c =
    keeps_on g.E.Peers.here g.E.Peers.end_at g.E.Peers.writable c.args.peers.now c.looks.peers c.look.new.peers c.looks.invariant.keeps c.look.ensures.keeps

pub returns-in-Empty-clause-kept : goal.returns-in-Empty-clause-kept
returns-in-Empty-clause-kept g c = c.in-Empty.ensures.kept ∙ c.looks.invariant.kept

pub returns-in-Empty-clause-keeps : goal.returns-in-Empty-clause-keeps
returns-in-Empty-clause-keeps g c =
    keeps_on g.E.Peers.here g.E.Peers.end_at g.E.Peers.writable c.args.peers.now c.looks.peers c.look.new.peers c.looks.invariant.keeps c.look.ensures.keeps

pub returns-clause-kept : goal.returns-clause-kept
returns-clause-kept g c = c.looks.invariant.kept

pub returns-clause-places : goal.returns-clause-places
returns-clause-places g c = c.looks.invariant.places

pub returns-clause-keeps : goal.returns-clause-keeps
returns-clause-keeps g c = c.looks.invariant.keeps
