use Rattle.std.proofs.Common.{◌≡◌, ◌∙◌, ◌≤◌, All, length, ap, sym, subst, arith}
use Rattle.std.proofs.lemmas.List.Elements.{All-weaker}
use Rattle.std.specs.Vec.{vec_capacity}
use Rattle.spec_pattern.specs.Results.{answer_of}
use Rattle.pub_sub.specs.Many.{pairs_at, answer_by}
use Rattle.pub_sub.proofs.ManyLemmas.{SendsMany-distribution, All-put, All-full, length-put, length-full}
use Rattle.pub_sub.proofs.many.send_to_many.Goals as goal

pub pairs_at-put-requires-clause-there : goal.pairs_at-put-requires-clause-there
pairs_at-put-requires-clause-there g c =
    subst (All (g.E.Peers.here c.send_to.new.peers)) (sym c.as_slice.ensures)
    (All-weaker (g.E.Peers.here c.args.peers.now) (g.E.Peers.here c.send_to.new.peers) c.in-Ok-send_to.ensures.keeps.stay c.in-Ok-send_to.report.put
    (All-put g.E.Peers.runs (g.E.Peers.end_at c.args.peers.now) c.args.message c.args.peers.now c.send_to.new.peers
    c.args.places.now c.in-Ok-send_to.report.put c.in-Ok-send_to.report.full (g.E.Peers.here c.args.peers.now) c.in-Ok-send_to.ensures.ok c.requires.there))

pub pairs_at-put-requires-clause-room : goal.pairs_at-put-requires-clause-room
pairs_at-put-requires-clause-room g c =
    let l : length c.in-Ok-send_to.report.put ≤ length c.args.places.now = length-put g.E.Peers.runs (g.E.Peers.end_at c.args.peers.now) c.args.message c.args.peers.now c.send_to.new.peers
    c.args.places.now c.in-Ok-send_to.report.put c.in-Ok-send_to.report.full c.in-Ok-send_to.ensures.ok in
    let e : length c.as_slice.result.now ≡ length c.in-Ok-send_to.report.put = ap length c.as_slice.ensures in
    let k : length c.args.places.now ≤ vec_capacity c.in-Ok.put = c.in-Ok.ensures.capacity in
    omega arith

pub pairs_at-full-requires-clause-there : goal.pairs_at-full-requires-clause-there
pairs_at-full-requires-clause-there g c =
    subst (All (g.E.Peers.here c.send_to.new.peers)) (sym c.as_slice-in-Ok-send_to.ensures)
    (All-weaker (g.E.Peers.here c.args.peers.now) (g.E.Peers.here c.send_to.new.peers) c.in-Ok-send_to.ensures.keeps.stay c.in-Ok-send_to.report.full
    (All-full g.E.Peers.runs (g.E.Peers.end_at c.args.peers.now) c.args.message c.args.peers.now c.send_to.new.peers
    c.args.places.now c.in-Ok-send_to.report.put c.in-Ok-send_to.report.full (g.E.Peers.here c.args.peers.now) c.in-Ok-send_to.ensures.ok c.requires.there))

pub pairs_at-full-requires-clause-room : goal.pairs_at-full-requires-clause-room
pairs_at-full-requires-clause-room g c =
    let l : length c.in-Ok-send_to.report.full ≤ length c.args.places.now = length-full g.E.Peers.runs (g.E.Peers.end_at c.args.peers.now) c.args.message c.args.peers.now c.send_to.new.peers
    c.args.places.now c.in-Ok-send_to.report.put c.in-Ok-send_to.report.full c.in-Ok-send_to.ensures.ok in
    let e : length c.as_slice-in-Ok-send_to.result.now ≡ length c.in-Ok-send_to.report.full = ap length c.as_slice-in-Ok-send_to.ensures in
    let k : length c.args.places.now ≤ vec_capacity c.in-Ok-with_capacity.full = c.in-Ok-with_capacity.ensures.capacity in
    omega arith

pub returns-in-Ok-send_to-clause-step : goal.returns-in-Ok-send_to-clause-step
returns-in-Ok-send_to-clause-step g c =
    SendsMany-distribution g.E.Peers.runs (g.E.Peers.end_at c.args.peers.now) c.args.message c.args.peers.now c.send_to.new.peers
    c.args.places.now c.in-Ok-send_to.report.put c.in-Ok-send_to.report.full (answer_of c.many.result) c.in-Ok-send_to.ensures.ok
    (c.many.ensures
    ∙ (λ j. answer_by
    ((c.pairs_at-put.ensures ∙ (λ i. pairs_at (c.in-Ok-send_to.ensures.keeps.ends i) (c.as_slice.ensures i))) j)
    ((c.pairs_at-full.ensures ∙ (λ i. pairs_at (c.in-Ok-send_to.ensures.keeps.ends i) (c.as_slice-in-Ok-send_to.ensures i))) j)))
