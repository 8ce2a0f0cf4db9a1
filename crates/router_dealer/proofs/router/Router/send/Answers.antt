use Rattle.std.proofs.Common.{◌≤◌, length, Some, All, sym, ap, subst, ◌∙◌, arith}
use Rattle.router_dealer.specs.PlaceNames.{place_named}
use Rattle.std.proofs.lemmas.List.Elements.{All-contains}
use Rattle.router_dealer.specs.Named.{RouterState, where_missing, SendsNamed, PutsRest}
use Rattle.router_dealer.proofs.SendLemmas.{Sends-unknown, Sends-closed, Sends-put}
use Rattle.router_dealer.proofs.router.Router.send.Goals as goal

pub returns-in_default-clause-sends : goal.returns-in_default-clause-sends
returns-in_default-clause-sends g c =
    let m = c.args.message in
    let name = c.as_slice.result.now in
    let long : 2 ≤ length m = omega arith in
    subst (SendsNamed g.E.Peers.runs (g.E.Peers.end_at c.args.peers.now) (g.E.Peers.writable c.args.peers.now) m c.args.peers.now c.args.peers.now c.args.self.now)
    (sym (c.unroutable.ensures ∙ ap (λ (s : RouterState). where_missing s.mandatory m) c.self.view_is))
    (Sends-unknown g.E.Peers.runs (g.E.Peers.end_at c.args.peers.now) (g.E.Peers.writable c.args.peers.now) c.args.self.now m name long
    (c.frame.ensures ∙ ap Some (sym c.as_slice.ensures)) c.args.peers.now g.met.E.Peers.runs_none
    (ap (λ (s : RouterState). place_named s.names name) (sym c.self.view_is) ∙ sym c.in_default.ensures))

pub can_write-requires : goal.can_write-requires
can_write-requires g c =
    All-contains (g.E.Peers.here c.args.peers.now) c.self.inside.ins c.in-Some.place (subst (λ (s : RouterState). All (g.E.Peers.here c.args.peers.now) s.ins) (sym c.self.view_is) c.requires.there)
    (c.self.invariant.router.have_turns c.as_slice.result.now c.in-Some.place (sym c.in-Some.ensures))

pub returns-then-not-can_write-clause-sends : goal.returns-then-not-can_write-clause-sends
returns-then-not-can_write-clause-sends g c =
    let m = c.args.message in
    let name = c.as_slice.result.now in
    let long : 2 ≤ length m = omega arith in
    subst (SendsNamed g.E.Peers.runs (g.E.Peers.end_at c.args.peers.now) (g.E.Peers.writable c.args.peers.now) m c.args.peers.now c.args.peers.now c.args.self.now)
    (sym (c.unroutable-then-not-can_write.ensures ∙ ap (λ (s : RouterState). where_missing s.mandatory m) c.self.view_is))
    (Sends-closed g.E.Peers.runs (g.E.Peers.end_at c.args.peers.now) (g.E.Peers.writable c.args.peers.now) c.args.self.now m name long
    (c.frame.ensures ∙ ap Some (sym c.as_slice.ensures)) c.in-Some.place
    (ap (λ (s : RouterState). place_named s.names name) (sym c.self.view_is) ∙ sym c.in-Some.ensures)
    c.args.peers.now g.met.E.Peers.runs_none (sym c.if-not-can_write.ensures))

pub put_or_hand_back-requires-clause-there : goal.put_or_hand_back-requires-clause-there
put_or_hand_back-requires-clause-there g c =
    All-contains (g.E.Peers.here c.args.peers.now) c.self.inside.ins c.in-Some.place (subst (λ (s : RouterState). All (g.E.Peers.here c.args.peers.now) s.ins) (sym c.self.view_is) c.requires.there)
    (c.self.invariant.router.have_turns c.as_slice.result.now c.in-Some.place (sym c.in-Some.ensures))

pub put_or_drop-requires-clause-there : goal.put_or_drop-requires-clause-there
put_or_drop-requires-clause-there g c =
    All-contains (g.E.Peers.here c.args.peers.now) c.self.inside.ins c.in-Some.place (subst (λ (s : RouterState). All (g.E.Peers.here c.args.peers.now) s.ins) (sym c.self.view_is) c.requires.there)
    (c.self.invariant.router.have_turns c.as_slice.result.now c.in-Some.place (sym c.in-Some.ensures))

pub returns-then-self-clause-sends : goal.returns-then-self-clause-sends
returns-then-self-clause-sends g c =
    let m = c.args.message in
    let name = c.as_slice.result.now in
    let long : 2 ≤ length m = omega arith in
    Sends-put g.E.Peers.runs (g.E.Peers.end_at c.args.peers.now) (g.E.Peers.writable c.args.peers.now) c.args.self.now m name long
    (c.frame.ensures ∙ ap Some (sym c.as_slice.ensures)) c.in-Some.place
    (ap (λ (s : RouterState). place_named s.names name) (sym c.self.view_is) ∙ sym c.in-Some.ensures)
    c.args.peers.now c.put_or_hand_back.new.peers c.put_or_hand_back.result (sym c.if-not-can_write.ensures)
    (subst (λ b. PutsRest g.E.Peers.runs b (g.E.Peers.end_at c.args.peers.now c.in-Some.place) m c.args.peers.now c.put_or_hand_back.new.peers c.put_or_hand_back.result)
    (sym c.if-self.true ∙ ap (λ (s : RouterState). s.mandatory) c.self.view_is) c.put_or_hand_back.ensures.put)

pub returns-clause-sends : goal.returns-clause-sends
returns-clause-sends g c =
    let m = c.args.message in
    let name = c.as_slice.result.now in
    let long : 2 ≤ length m = omega arith in
    Sends-put g.E.Peers.runs (g.E.Peers.end_at c.args.peers.now) (g.E.Peers.writable c.args.peers.now) c.args.self.now m name long
    (c.frame.ensures ∙ ap Some (sym c.as_slice.ensures)) c.in-Some.place
    (ap (λ (s : RouterState). place_named s.names name) (sym c.self.view_is) ∙ sym c.in-Some.ensures)
    c.args.peers.now c.put_or_drop.new.peers c.put_or_drop.result (sym c.if-not-can_write.ensures)
    (subst (λ b. PutsRest g.E.Peers.runs b (g.E.Peers.end_at c.args.peers.now c.in-Some.place) m c.args.peers.now c.put_or_drop.new.peers c.put_or_drop.result)
    (sym c.if-self.false ∙ ap (λ (s : RouterState). s.mandatory) c.self.view_is) c.put_or_drop.ensures.put)
