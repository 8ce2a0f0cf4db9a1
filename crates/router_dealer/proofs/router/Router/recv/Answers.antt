use Rattle.std.proofs.Common.{refl, sym, subst}
use Rattle.std.proofs.lemmas.List.Sorted.{IsPermutation-refl}
use Rattle.router_dealer.specs.Named.{RouterState}
use Rattle.router_dealer.specs.NameTable.{IsReady}
use Rattle.router_dealer.specs.contracts.router.Router.{the_view}
use Rattle.router_dealer.proofs.RecvLemmas.{IsReady-turned, Receives-held, Receives-want, Receives-next}
use Rattle.router_dealer.proofs.router.Router.recv.Goals as goal

pub invariant_of-self : goal.invariant_of-self
invariant_of-self g c =
    let r : RouterState = the_view c.self.inside in
    let r' : RouterState = record r { kept = c.give.new.self.kept } in
    subst (λ n. IsReady r' n c.self.inside.back.items) (sym c.give.ensures.room)
    (IsReady-turned r r' c.self.inside.held.room c.self.inside.back.items c.self.invariant refl refl (IsPermutation-refl r.ins))

pub invariant_of-self-2 : goal.invariant_of-self-2
invariant_of-self-2 g c =
    let r : RouterState = the_view c.self.inside in
    let r' : RouterState = record r { kept = c.give.new.self.kept } in
    subst (λ n. IsReady r' n c.self.inside.back.items) (sym c.give.ensures.room)
    (IsReady-turned r r' c.self.inside.held.room c.self.inside.back.items c.self.invariant refl refl (IsPermutation-refl r.ins))

pub invariant_of-self-in-Err : goal.invariant_of-self-in-Err
invariant_of-self-in-Err g c =
    let r : RouterState = the_view c.self.inside in
    let r' : RouterState = record r { kept = c.give.new.self.kept } in
    subst (λ n. IsReady r' n c.self.inside.back.items) (sym c.give.ensures.room)
    (IsReady-turned r r' c.self.inside.held.room c.self.inside.back.items c.self.invariant refl refl (IsPermutation-refl r.ins))

pub returns-in-Ok-Some-clause-receives : goal.returns-in-Ok-Some-clause-receives
returns-in-Ok-Some-clause-receives g c =
    Receives-held _ g.E.Peers.runs (g.E.Peers.end_at c.args.peers.now) c.args.peers.now (the_view c.self.inside) c.args.self.now c.self.view_is c.give.new.self.kept
    c.in-Ok-Some.field-0 c.in-Ok-Some.item c.in-Ok-Some.field-0-is c.in-Ok-Some.ensures.gives

pub returns-in-Err-clause-receives : goal.returns-in-Err-clause-receives
returns-in-Err-clause-receives g c =
    Receives-want _ g.E.Peers.runs (g.E.Peers.end_at c.args.peers.now) c.args.peers.now (the_view c.self.inside) c.args.self.now c.self.view_is c.give.new.self.kept
    _ c.in-Err.ensures.gives

pub returns-clause-receives : goal.returns-clause-receives
returns-clause-receives g c =
    Receives-next _ g.E.Peers.runs (g.E.Peers.end_at c.args.peers.now) c.args.peers.now (the_view c.self.inside) c.args.self.now c.self.view_is c.give.new.self.kept
    c.in-Ok-None.field-0 c.in-Ok-None.field-0-is c.in-Ok-None.ensures.gives c.recv_next.new.peers c.recv_next.result c.recv_next.new.self c.recv_next.ensures.takes
