use Rattle.std.proofs.Common.{◌≡◌, ◌++◌, [], ◌∷◌, ℕ, All, Some, None, refl, sym, ap, subst, ◌∙◌}
use Rattle.std.proofs.lemmas.List.Elements.{Contains-append_right}
use Rattle.std.specs.Prelude.{Contains}
use Rattle.std.specs.Option.{option_map}
use Rattle.zq_base.specs.declared.ids.PairId.{PairId}
use Rattle.msg_pipe.proofs.TurnsLemmas.{All-middle}
use Rattle.spec_pattern.specs.Dropping.{receiving, with_duty}
use Rattle.fair_queue.proofs.DroppingLemmas.{GivesAt-served, DropsMore-served, in_the_middle}
use Rattle.fair_queue.proofs.dropping.look.Goals as goal

pub pair-pair-requires : goal.pair-pair-requires
pair-pair-requires g c =
    let s = c.in-Got.ensures.next.next in
    let P = g.E.Peers.here c.args.peers.now in
    c.next_in.ensures.keeps.stay c.in-Got.place
    (All-middle P s.before s.after c.in-Got.place (subst (All P) s.turns_are c.requires.there))

pub returns-in-Some-clause-looks : goal.returns-in-Some-clause-looks
returns-in-Some-clause-looks g c =
    let ends = g.E.Peers.end_at c.args.peers.now in
    let pair_is = ap (λ e. (e c.in-Got.place).pair) (sym c.next_in.ensures.keeps.ends) ∙ sym c.pair-pair.ensures in
    GivesAt-served g.E.Peers.runs ends (g.S.Sieve.gives c.args.sieve.now) c.args.rule
    (receiving c.args.peers.now c.args.turns.now c.args.skips.now.items) (receiving c.next_in.new.peers c.next_in.new.turns c.args.skips.now.items)
    c.in-Got.place c.in-Got.message c.in-Some.rest (g.S.Sieve.duty c.sift.new.self (ends c.in-Got.place)) c.in-Got.ensures.next
    (c.sift.ensures.gives (ends c.in-Got.place) pair_is ∙ ap (option_map (with_duty (g.S.Sieve.duty c.sift.new.self (ends c.in-Got.place)))) c.in-Some.is) refl

pub returns-in-Some-clause-given : goal.returns-in-Some-clause-given
returns-in-Some-clause-given g c =
    let s = c.in-Got.ensures.next.next in
    in_the_middle s.before s.after c.args.turns.now c.in-Got.place s.turns_are

pub returns-in-None-clause-looks : goal.returns-in-None-clause-looks
returns-in-None-clause-looks g c =
    let ends = g.E.Peers.end_at c.args.peers.now in
    let pair_is = ap (λ e. (e c.in-Got.place).pair) (sym c.next_in.ensures.keeps.ends) ∙ sym c.pair-pair.ensures in
    DropsMore-served g.E.Peers.runs ends (g.S.Sieve.gives c.args.sieve.now) c.args.rule
    (receiving c.args.peers.now c.args.turns.now c.args.skips.now.items) (receiving c.next_in.new.peers c.next_in.new.turns c.push_reserved.new.self.items)
    c.in-Got.place c.in-Got.message c.in-Got.ensures.next
    (c.sift.ensures.gives (ends c.in-Got.place) pair_is ∙ ap (option_map (with_duty (g.S.Sieve.duty c.sift.new.self (ends c.in-Got.place)))) c.in-None.is)
    (subst (λ (p : PairId). c.push_reserved.new.self.items ≡ c.args.skips.now.items ++ record { rule = c.args.rule; pair = p } ∷ []) (sym pair_is) c.push_reserved.ensures.items)
