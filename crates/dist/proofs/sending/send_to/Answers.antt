use Rattle.std.proofs.Common.{◌≡◌, ◌<◌, ◌+◌, ℕ, Bool, List, cond, not, [], ◌∷◌, ◌++◌, length, take, get_or, vec_len, vec_capacity, sym, ap, subst, ◌∙◌, append-nil, arith}
use Rattle.std.proofs.lemmas.Grind.{common_steps, elements}
use Rattle.std.proofs.lemmas.List.{take_more, take_all}
use Rattle.spec_pattern.specs.Pipe.{IsCommittable}
use Rattle.msg_pipe.proofs.PlacesLemmas.{keeps_none, keeps_on}
use Rattle.dist.specs.Distribution.{step_of, Distributes}
use Rattle.dist.proofs.DistributionLemmas.{Distributes-as, IsDistribution-none}
use Rattle.dist.proofs.sending.send_to.Goals as goal
use Rattle.dist.proofs.sending.send_to.Goals.{then-put_at, else-put_at}

pub places-preserved : goal.places-preserved
places-preserved g c =
    let inv = c.places.invariant in
    let i = c.places.place-index in
    let places = c.args.places.now in
    let p : ℕ = get_or places i 0 in
    let within : i < length places = omega arith in
    let copy : c.unwrap-copy.result ≡ c.args.message = grind (arith, elements) in
    let step : g.P.Peers.runs c.places.peers (step_of (g.P.Peers.end_at c.args.peers.now) c.args.message (record { place = p; room = c.put_at.result }) ∷ []) c.put_at.new.peers =
    subst (λ ends. g.P.Peers.runs c.places.peers (step_of ends c.args.message (record { place = p; room = c.put_at.result }) ∷ []) c.put_at.new.peers) inv.keeps.ends
    (subst (λ m. g.P.Peers.runs c.places.peers (step_of (g.P.Peers.end_at c.places.peers) m (record { place = p; room = c.put_at.result }) ∷ []) c.put_at.new.peers) copy c.put_at.ensures.runs) in
    let sent = Distributes-as g.P.Peers.runs g.met.P.Peers.runs_on (g.P.Peers.end_at c.args.peers.now) c.args.message
    c.args.peers.now c.places.peers c.put_at.new.peers (take i places) c.places.put.items c.places.full.items p c.put_at.result
    (take (i + 1) places) c.if-put_at.put.items c.if-put_at.full.items inv.sent step (take_more places i 0 within) in
    record {
      sent = elim c.if-put_at.branch [
        | then-put_at w ↦ sent
            (ap (λ v. v.items) w.put-is ∙ w.push_reserved.ensures.items ∙ ap (λ b. c.places.put.items ++ cond b (p ∷ []) []) (sym w.if-put_at.true))
            (ap (λ v. v.items) w.full-is ∙ sym (append-nil c.places.full.items) ∙ ap (λ b. c.places.full.items ++ cond (not b) (p ∷ []) []) (sym w.if-put_at.true))
        | else-put_at w ↦ sent
            (ap (λ v. v.items) w.put-is ∙ sym (append-nil c.places.put.items) ∙ ap (λ b. c.places.put.items ++ cond b (p ∷ []) []) (sym w.if-put_at.false))
            (ap (λ v. v.items) w.full-is ∙ w.push_reserved-else-put_at.ensures.items ∙ ap (λ b. c.places.full.items ++ cond (not b) (p ∷ []) []) (sym w.if-put_at.false))
      ];
      copies = grind (arith, elements);
      left = grind (arith, common_steps);
      filled = elim c.if-put_at.branch [
        | then-put_at w ↦ omega (arith, ap vec_len w.put-is, ap vec_len w.full-is, w.push_reserved.ensures.len)
        | else-put_at w ↦ omega (arith, ap vec_len w.put-is, ap vec_len w.full-is, w.push_reserved-else-put_at.ensures.len)
      ];
      put_room = elim c.if-put_at.branch [
        | then-put_at w ↦ omega (arith, ap vec_capacity w.put-is, w.push_reserved.ensures.capacity)
        | else-put_at w ↦ omega (arith, ap vec_capacity w.put-is)
      ];
      full_room = elim c.if-put_at.branch [
        | then-put_at w ↦ omega (arith, ap vec_capacity w.full-is)
        | else-put_at w ↦ omega (arith, ap vec_capacity w.full-is, w.push_reserved-else-put_at.ensures.capacity)
      ];
      keeps = keeps_on g.P.Peers.here g.P.Peers.end_at g.P.Peers.writable c.args.peers.now c.places.peers c.put_at.new.peers inv.keeps c.put_at.ensures.keeps;
    }

pub places-init : goal.places-init
places-init g c = record {
  sent = subst (λ (x : List ℕ × List ℕ). Distributes g.P.Peers.runs (g.P.Peers.end_at c.args.peers.now) c.args.message c.args.peers.now c.args.peers.now [] x.0 x.1)
      (λ j. (sym c.in-Ok-with_capacity.ensures.items j, sym c.in-Ok-with_capacity-2.ensures.items j)) (record {
        steps = [];
        runs_are = g.met.P.Peers.runs_none c.args.peers.now;
        sent = IsDistribution-none (g.P.Peers.end_at c.args.peers.now) c.args.message;
      });
  copies = c.in-Ok.ensures.copies;
  left = omega (arith, c.in-Ok.ensures.len);
  filled = omega (arith, c.in-Ok-with_capacity.ensures.len, c.in-Ok-with_capacity-2.ensures.len);
  put_room = c.in-Ok-with_capacity.ensures.capacity;
  full_room = c.in-Ok-with_capacity-2.ensures.capacity;
  keeps = keeps_none g.P.Peers.here g.P.Peers.end_at g.P.Peers.writable c.args.peers.now;
}

pub put_at-requires-clause-there : goal.put_at-requires-clause-there
put_at-requires-clause-there g c = c.places.invariant.keeps.stay _ (c.requires.there c.places.place-index 0 c.places-test.true)

pub put_at-requires-clause-open : goal.put_at-requires-clause-open
put_at-requires-clause-open g c =
    ap (λ (w : ℕ → Bool). w (get_or c.args.places.now c.places.place-index 0)) c.places.invariant.keeps.states
    ∙ c.requires.open c.places.place-index 0 c.places-test.true

pub put_at-requires-clause-whole : goal.put_at-requires-clause-whole
put_at-requires-clause-whole g c =
    let copy : c.unwrap-copy.result ≡ c.args.message = grind (arith, elements) in
    subst IsCommittable (sym copy) c.requires.whole

pub push_reserved-requires : goal.push_reserved-requires
push_reserved-requires g c = omega (arith, c.places.invariant.filled, c.places.invariant.put_room, c.places-test.true)

pub push_reserved-requires-else-put_at : goal.push_reserved-requires-else-put_at
push_reserved-requires-else-put_at g c = omega (arith, c.places.invariant.filled, c.places.invariant.full_room, c.places-test.true)

pub returns-clause-ok : goal.returns-clause-ok
returns-clause-ok g c =
    let all : take c.places.place-index c.args.places.now ≡ c.args.places.now = take_all c.places.place-index c.args.places.now (omega (arith, c.places-test.false)) in
    subst (λ (x : List ℕ × List ℕ × List ℕ). Distributes g.P.Peers.runs (g.P.Peers.end_at c.args.peers.now) c.args.message c.args.peers.now c.places.peers x.0 x.1 x.2)
    (λ j. (all j, sym c.of_vec.ensures j, sym c.of_vec-2.ensures j)) c.places.invariant.sent
