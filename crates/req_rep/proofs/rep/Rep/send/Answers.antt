use Rattle.std.proofs.Common.{◌≡◌, ◌∙◌, ◌≤◌, ◌<◌, ◌+◌, ℕ, true, false, All, Contains, length, refl, sym, ap, subst, arith, rules}
use Rattle.std.proofs.lemmas.List.Elements.{All-contains}
use Rattle.spec_pattern.specs.TurnList.{End}
use Rattle.zq_base.specs.Message.{max_committed}
use Rattle.msg_pipe.proofs.PlacesLemmas.{keeps_none}
use Rattle.req_rep.specs.Answering.{RepState}
use Rattle.req_rep.specs.Partners.{is_nobody, IsAt}
use Rattle.req_rep.proofs.RepLemmas.{RepSent-large, RepSent-gone, RepSent-shut, RepSent-fsm, RepSent-put, RepSent-full, stays_so}
use Rattle.req_rep.proofs.rep.Rep.send.Goals as goal

pub returns-then-len-gt-MAX_COMMITTED-clause-step : goal.returns-then-len-gt-MAX_COMMITTED-clause-step
returns-then-len-gt-MAX_COMMITTED-clause-step g c =
    let r : RepState = record { ins = c.self.inside.ins; owed = c.self.inside.owed; envelope = c.self.inside.envelope.frames.items } in
    let some : is_nobody c.self.inside.owed ≡ false = search rules in
    let many : max_committed < length c.self.inside.envelope.frames.items + length c.args.message = omega (arith, c.self.inside.envelope.frames.ok.0) in
    RepSent-large g.E.Peers.runs (g.E.Peers.end_at c.args.peers.now) r c.args.self.now c.self.view_is c.args.peers.now (g.met.E.Peers.runs_none c.args.peers.now)
    (g.E.Peers.writable c.args.peers.now) c.args.message some many

pub returns-in_default : goal.returns-in_default
returns-in_default g c =
    let r : RepState = record { ins = c.self.inside.ins; owed = c.self.inside.owed; envelope = c.self.inside.envelope.frames.items } in
    let some : is_nobody c.self.inside.owed ≡ false = search rules in
    let few : length c.self.inside.envelope.frames.items + length c.args.message ≤ max_committed = omega (arith, c.self.inside.envelope.frames.ok.0) in
    record {
      step = RepSent-gone g.E.Peers.runs (g.E.Peers.end_at c.args.peers.now) r c.args.self.now c.self.view_is c.args.peers.now (g.met.E.Peers.runs_none c.args.peers.now)
          (g.E.Peers.writable c.args.peers.now) c.args.message some c.clear.new.self.items c.in_default.not-At few;
      back = tt;
      ins = ap (λ (s : RepState). s.ins) c.self.view_is;
      partner = subst (λ (s : RepState). IsAt (Contains s.ins) s.owed) c.self.view_is c.self.invariant.peer;
      keeps = keeps_none g.E.Peers.here g.E.Peers.end_at g.E.Peers.writable c.args.peers.now;
    }

pub returns-then-not-can_write-clause-step : goal.returns-then-not-can_write-clause-step
returns-then-not-can_write-clause-step g c =
    let r : RepState = record { ins = c.self.inside.ins; owed = c.self.inside.owed; envelope = c.self.inside.envelope.frames.items } in
    let some : is_nobody c.self.inside.owed ≡ false = search rules in
    let closed : g.E.Peers.writable c.args.peers.now c.in-At.place ≡ false = search rules in
    let few : length c.self.inside.envelope.frames.items + length c.args.message ≤ max_committed = omega (arith, c.self.inside.envelope.frames.ok.0) in
    RepSent-shut g.E.Peers.runs (g.E.Peers.end_at c.args.peers.now) r c.args.self.now c.self.view_is c.args.peers.now (g.met.E.Peers.runs_none c.args.peers.now)
    (g.E.Peers.writable c.args.peers.now) c.args.message some c.clear-then-not-can_write.new.self.items c.in-At.place c.in-At.is closed few

pub returns-then-is_nobody-clause-step : goal.returns-then-is_nobody-clause-step
returns-then-is_nobody-clause-step g c =
    let r : RepState = record { ins = c.self.inside.ins; owed = c.self.inside.owed; envelope = c.self.inside.envelope.frames.items } in
    let nobody : is_nobody c.self.inside.owed ≡ true = search rules in
    RepSent-fsm g.E.Peers.runs (g.E.Peers.end_at c.args.peers.now) r c.args.self.now c.self.view_is c.args.peers.now (g.met.E.Peers.runs_none c.args.peers.now)
    (g.E.Peers.writable c.args.peers.now) c.args.message nobody

pub can_write-requires : goal.can_write-requires
can_write-requires g c =
    All-contains (g.E.Peers.here c.args.peers.now) c.self.inside.ins c.in-At.place
    (subst (λ (s : RepState). All (g.E.Peers.here c.args.peers.now) s.ins) (sym c.self.view_is) c.requires.there)
    (subst (IsAt (Contains c.self.inside.ins)) c.in-At.is c.self.invariant.peer)

pub put-requires-clause-there : goal.put-requires-clause-there
put-requires-clause-there g c =
    All-contains (g.E.Peers.here c.args.peers.now) c.self.inside.ins c.in-At.place
    (subst (λ (s : RepState). All (g.E.Peers.here c.args.peers.now) s.ins) (sym c.self.view_is) c.requires.there)
    (subst (IsAt (Contains c.self.inside.ins)) c.in-At.is c.self.invariant.peer)

pub pair-requires : goal.pair-requires
pair-requires g c =
    c.in-Ok-put.ensures.keeps.stay c.in-At.place
    (All-contains (g.E.Peers.here c.args.peers.now) c.self.inside.ins c.in-At.place
    (subst (λ (s : RepState). All (g.E.Peers.here c.args.peers.now) s.ins) (sym c.self.view_is) c.requires.there)
    (subst (IsAt (Contains c.self.inside.ins)) c.in-At.is c.self.invariant.peer))

pub invariant_of-self-in-Ok-put : goal.invariant_of-self-in-Ok-put
invariant_of-self-in-Ok-put g c = record { peer = tt; none = λ e. c.in-Ok.ensures.taken }

pub invariant_of-self-in-Full : goal.invariant_of-self-in-Full
invariant_of-self-in-Full g c = record { peer = tt; none = λ e. c.in-Ok.ensures.taken }

pub invariant_of-self-in-Err : goal.invariant_of-self-in-Err
invariant_of-self-in-Err g c = record { peer = c.self.invariant.peer; none = λ e. c.in-Err.ensures.err ∙ c.self.invariant.none e }

pub returns-in-Ok-put-clause-step : goal.returns-in-Ok-put-clause-step
returns-in-Ok-put-clause-step g c =
    let r : RepState = record { ins = c.self.inside.ins; owed = c.self.inside.owed; envelope = c.self.inside.envelope.frames.items } in
    let unshut : g.E.Peers.writable c.args.peers.now c.in-At.place ≡ true = search rules in
    let few : length c.self.inside.envelope.frames.items + length c.args.message ≤ max_committed = omega (arith, c.self.inside.envelope.frames.ok.0) in
    RepSent-put g.E.Peers.runs (g.E.Peers.end_at c.args.peers.now) r c.args.self.now c.self.view_is c.args.peers.now c.put.new.self
    (g.E.Peers.writable c.args.peers.now) c.args.message c.in-Ok.whole c.in-At.place c.in-At.is unshut few c.in-Ok.ensures.ok c.put_before.new.envelope.items
    c.pair.result c.in-Ok-put.ensures.runs (c.pair.ensures ∙ ap (λ (e : ℕ → End). (e c.in-At.place).pair) c.in-Ok-put.ensures.keeps.ends)

pub returns-in-Full-clause-step : goal.returns-in-Full-clause-step
returns-in-Full-clause-step g c =
    let r : RepState = record { ins = c.self.inside.ins; owed = c.self.inside.owed; envelope = c.self.inside.envelope.frames.items } in
    let unshut : g.E.Peers.writable c.args.peers.now c.in-At.place ≡ true = search rules in
    let few : length c.self.inside.envelope.frames.items + length c.args.message ≤ max_committed = omega (arith, c.self.inside.envelope.frames.ok.0) in
    RepSent-full g.E.Peers.runs (g.E.Peers.end_at c.args.peers.now) r c.args.self.now c.self.view_is c.args.peers.now c.put.new.self
    (g.E.Peers.writable c.args.peers.now) c.args.message c.in-Ok.whole c.in-At.place c.in-At.is unshut few c.in-Ok.ensures.ok c.put_before.new.envelope.items
    c.in-Full.ensures.runs

pub returns-in-Err-clause-step : goal.returns-in-Err-clause-step
returns-in-Err-clause-step g c =
    let r : RepState = record { ins = c.self.inside.ins; owed = c.self.inside.owed; envelope = c.self.inside.envelope.frames.items } in
    (stays_so g.E.Peers.runs (g.E.Peers.end_at c.args.peers.now) r c.args.self.now c.self.view_is c.put_before.new.envelope.items c.in-Err.ensures.err, refl)

pub returns-then-is_nobody-clause-partner : goal.returns-then-is_nobody-clause-partner
returns-then-is_nobody-clause-partner g c = subst (λ (s : RepState). IsAt (Contains s.ins) s.owed) c.self.view_is c.self.invariant.peer

pub returns-then-len-gt-MAX_COMMITTED-clause-partner : goal.returns-then-len-gt-MAX_COMMITTED-clause-partner
returns-then-len-gt-MAX_COMMITTED-clause-partner g c = subst (λ (s : RepState). IsAt (Contains s.ins) s.owed) c.self.view_is c.self.invariant.peer

pub returns-then-not-can_write-clause-partner : goal.returns-then-not-can_write-clause-partner
returns-then-not-can_write-clause-partner g c = subst (λ (s : RepState). IsAt (Contains s.ins) s.owed) c.self.view_is c.self.invariant.peer

pub returns-in-Err-clause-partner : goal.returns-in-Err-clause-partner
returns-in-Err-clause-partner g c = subst (λ (s : RepState). IsAt (Contains s.ins) s.owed) c.self.view_is c.self.invariant.peer

pub returns-in-Full-clause-partner : goal.returns-in-Full-clause-partner
returns-in-Full-clause-partner g c = subst (λ (s : RepState). IsAt (Contains s.ins) s.owed) c.self.view_is c.self.invariant.peer

pub returns-in-Ok-put-clause-partner : goal.returns-in-Ok-put-clause-partner
returns-in-Ok-put-clause-partner g c = subst (λ (s : RepState). IsAt (Contains s.ins) s.owed) c.self.view_is c.self.invariant.peer
