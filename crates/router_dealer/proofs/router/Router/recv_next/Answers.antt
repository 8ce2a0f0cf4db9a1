use Rattle.std.proofs.Common.{All, refl, sym, ap, subst, ◌∙◌}
use Rattle.std.specs.Prelude.{IsPermutation}
use Rattle.msg_pipe.proofs.TurnsLemmas.{All-middle}
use Rattle.router_dealer.specs.Named.{RouterState, HasName}
use Rattle.router_dealer.specs.NameTable.{state_of}
use Rattle.router_dealer.specs.contracts.router.Router.{the_view}
use Rattle.router_dealer.proofs.RecvLemmas.{IsReady-turned, given_ins, Takes-given}
use Rattle.router_dealer.proofs.router.Router.recv_next.Goals as goal

pub pair-pair-requires : goal.pair-pair-requires
pair-pair-requires g c =
    let s = c.in-Got.ensures.next.next in
    let P = g.E.Peers.here c.args.peers.now in
    c.next_in.ensures.keeps.stay c.in-Got.place
    (All-middle P s.before s.after c.in-Got.place (subst (All P) (ap (λ (r : RouterState). r.ins) (sym c.self.view_is) ∙ s.turns_are) c.requires.there))

pub invariant_of-self-in-Got : goal.invariant_of-self-in-Got
invariant_of-self-in-Got g c =
    let r : RouterState = the_view c.self.inside in
    let r' : RouterState = state_of c.next_in.new.turns c.self.inside.names c.self.inside.drawn c.self.inside.mandatory c.self.inside.held.kept in
    IsReady-turned r r' c.self.inside.held.room c.self.inside.back.items c.self.invariant refl refl c.next_in.ensures.places

pub give_named-requires-clause-named : goal.give_named-requires-clause-named
give_named-requires-clause-named g c =
    let s = c.in-Got.ensures.next.next in
    All-middle (HasName c.self.inside.names) s.before s.after c.in-Got.place (subst (All (HasName c.self.inside.names)) s.turns_are c.self.invariant.router.named)

pub returns-in-Got-clause-takes : goal.returns-in-Got-clause-takes
returns-in-Got-clause-takes g c =
    let between : RouterState = state_of c.next_in.new.turns c.self.inside.names c.self.inside.drawn c.self.inside.mandatory c.self.inside.held.kept in
    Takes-given g.E.Peers.runs (g.E.Peers.end_at c.args.peers.now) c.args.peers.now c.next_in.new.peers c.args.self.now c.self.inside.ins c.next_in.new.turns
    (ap (λ (s : RouterState). s.ins) c.self.view_is) c.in-Got.place c.in-Got.message c.in-Got.ensures.next c.pair-pair.result
    (c.pair-pair.ensures ∙ ap (λ ends. (ends c.in-Got.place).pair) c.next_in.ensures.keeps.ends)
    between c.give_named.new.self c.give_named.result (ap (λ (s : RouterState). s.names) c.self.view_is) (ap (λ (s : RouterState). s.kept) c.self.view_is ∙ c.requires.none) refl
    c.give_named.ensures

pub returns-in-Got-clause-places : goal.returns-in-Got-clause-places
returns-in-Got-clause-places g c =
    let between : RouterState = state_of c.next_in.new.turns c.self.inside.names c.self.inside.drawn c.self.inside.mandatory c.self.inside.held.kept in
    subst (λ l. IsPermutation l c.give_named.new.self.ins) (ap (λ (r : RouterState). r.ins) c.self.view_is)
    (subst (IsPermutation c.self.inside.ins) (sym (given_ins c.in-Got.place c.pair-pair.result c.in-Got.message between c.give_named.new.self c.give_named.result c.give_named.ensures)) c.next_in.ensures.places)
