use Rattle.std.proofs.Common.{◌∷◌, ℕ, All, Contains, List, sym, ap, subst, ◌∙◌, arith, rules}
use Rattle.spec_pattern.specs.TurnList.{End}
use Rattle.msg_pipe.proofs.TurnsLemmas.{All-middle}
use Rattle.req_rep.specs.Asking.{ReqState}
use Rattle.req_rep.specs.Partners.{IsReq, IsAt}
use Rattle.req_rep.specs.contracts.req.Req.{the_view}
use Rattle.req_rep.proofs.PartnersLemmas.{IsReq-asked}
use Rattle.req_rep.proofs.ReqLemmas.{ReqSent-put, ReqSent-full, ReqSent-peerless}
use Rattle.req_rep.proofs.req.Req.send.Goals as goal

pub invariant_of-self : goal.invariant_of-self
invariant_of-self g c =
    let put = c.in-Put.ensures.next in
    let h = subst (λ (s : ReqState). IsReq s.outs s.ins s.asked) (sym (ap the_view c.self-inside.view_is)) c.self.invariant in
    IsReq-asked _ c.next_out.new.turns _ put.before put.after _ c.in-Put.place c.next_out.ensures.places put.turns_are h

pub pair-requires : goal.pair-requires
pair-requires g c =
    let put = c.in-Put.ensures.next in
    let P = g.E.Peers.here c.args.peers.now in
    let there = subst (λ (r : ReqState). All P r.outs) (sym (ap the_view c.self-inside.view_is ∙ c.self.view_is)) c.requires.there in
    c.next_out.ensures.keeps.stay c.in-Put.place (All-middle P put.before put.after c.in-Put.place (subst (All P) put.turns_are there))

pub returns-in-Put-clause-step : goal.returns-in-Put-clause-step
returns-in-Put-clause-step g c =
    let is = ap the_view c.self-inside.view_is ∙ c.self.view_is in
    ReqSent-put g.E.Peers.runs (g.E.Peers.end_at c.args.peers.now) c.args.peers.now c.next_out.new.peers _ c.args.self.now is
    (g.E.Peers.writable c.args.peers.now) (search rules) c.args.message c.push_front.new.self
    (c.in-Ok.ensures.ok ∙ ap (λ (f : List ℕ). f ∷ c.args.message) (c.of_bytes.ensures ∙ c.new.ensures)) (omega arith) c.next_out.new.turns
    c.in-Put.place c.pair.result c.in-Put.ensures.next (c.pair.ensures ∙ ap (λ (e : ℕ → End). (e c.in-Put.place).pair) c.next_out.ensures.keeps.ends)

pub returns-in-AllFull-clause-step : goal.returns-in-AllFull-clause-step
returns-in-AllFull-clause-step g c =
    let is = ap the_view c.self-inside.view_is ∙ c.self.view_is in
    ReqSent-full g.E.Peers.runs (g.E.Peers.end_at c.args.peers.now) c.args.peers.now c.next_out.new.peers _ c.args.self.now is
    (g.E.Peers.writable c.args.peers.now) (search rules) c.args.message c.push_front.new.self
    (c.in-Ok.ensures.ok ∙ ap (λ (f : List ℕ). f ∷ c.args.message) (c.of_bytes.ensures ∙ c.new.ensures)) (omega arith) c.next_out.new.turns
    c.in-AllFull.back c.in-AllFull.ensures.next

pub returns-in-NoPeer-clause-step : goal.returns-in-NoPeer-clause-step
returns-in-NoPeer-clause-step g c =
    let is = ap the_view c.self-inside.view_is ∙ c.self.view_is in
    ReqSent-peerless g.E.Peers.runs (g.E.Peers.end_at c.args.peers.now) c.args.peers.now c.next_out.new.peers _ c.args.self.now is
    (g.E.Peers.writable c.args.peers.now) (search rules) c.args.message c.push_front.new.self
    (c.in-Ok.ensures.ok ∙ ap (λ (f : List ℕ). f ∷ c.args.message) (c.of_bytes.ensures ∙ c.new.ensures)) (omega arith) c.next_out.new.turns
    g.met.E.Peers.runs_none c.in-NoPeer.back c.in-NoPeer.ensures.next

pub returns-then-not-is_nobody-clause-partner : goal.returns-then-not-is_nobody-clause-partner
returns-then-not-is_nobody-clause-partner g c = subst (λ (s : ReqState). IsAt (Contains s.ins) s.asked) c.self.view_is c.self.invariant.peer

pub returns-then-len-ge-MAX_COMMITTED-clause-partner : goal.returns-then-len-ge-MAX_COMMITTED-clause-partner
returns-then-len-ge-MAX_COMMITTED-clause-partner g c = subst (λ (s : ReqState). IsAt (Contains s.ins) s.asked) c.self.view_is c.self.invariant.peer

pub returns-in_default-clause-partner : goal.returns-in_default-clause-partner
returns-in_default-clause-partner g c = subst (λ (s : ReqState). IsAt (Contains s.ins) s.asked) c.self.view_is c.self.invariant.peer

pub returns-in-AllFull-clause-partner : goal.returns-in-AllFull-clause-partner
returns-in-AllFull-clause-partner g c = subst (λ (s : ReqState). IsAt (Contains s.ins) s.asked) c.self.view_is c.self.invariant.peer

pub returns-in-NoPeer-clause-partner : goal.returns-in-NoPeer-clause-partner
returns-in-NoPeer-clause-partner g c = subst (λ (s : ReqState). IsAt (Contains s.ins) s.asked) c.self.view_is c.self.invariant.peer

pub returns-in-Put-clause-partner : goal.returns-in-Put-clause-partner
returns-in-Put-clause-partner g c = subst (λ (s : ReqState). IsAt (Contains s.ins) s.asked) c.self.view_is c.self.invariant.peer
