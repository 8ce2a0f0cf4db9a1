use Rattle.std.proofs.Common.{rules, ap, refl}
use Rattle.any_sock.specs.Over.{peer_places, left_of}
use Rattle.end_table.proofs.EndsLemmas.{ends_held}
use Rattle.sock_core.specs.Lent.{lent}
use Rattle.sock_core.proofs.LentLemmas.{rows_there}
use Rattle.sock_core.proofs.CallLemmas.{received}
use Rattle.sock_core.proofs.over.recv_over.Goals as goal

pub recv-done-requires : goal.recv-done-requires
recv-done-requires g c = record { there = λ k d within. (ends_held g.P.Pipes.known c.args.pipes.now c.args.rows.now.items c.args.places.now c.requires.whole.sound, rows_there g.P.Pipes.known c.args.pipes.now c.args.rows.now.items c.args.places.now c.requires.whole.sound (peer_places c.args.kind.now) c.requires.whole.peers k d within) }

pub returns-clause-whole : goal.returns-clause-whole
returns-clause-whole g c =
    let at = c.recv-done.new.peers in
    let x = received g.P.Pipes.known (lent c.args.pipes.now c.args.rows.now.items c.args.places.now c.args.kind.now) (lent at.pipes.now at.rows.now.items c.args.places.now c.recv-done.new.self)
    c.requires.whole refl c.recv-done.ensures.places c.is_told_by_its_peers.ensures c.is_told_by_its_peers-2.ensures _ _ at (λ steps r. record { does = r.0; unsealing = r.3 }) _ _ (λ steps r. (r.1, r.2))
    (λ e. (ap (λ s. s.pipes.now) e, ap (λ s. s.rows.now.items) e, ap (λ s. s.pipes.ghost_name) e, ap (λ s. s.rows.ghost_name) e)) c.args.skips.now.items c.recv-done.new.skips.items (left_of c.args.kind.now).to_give c.recv-done.result c.recv-done.ensures.step in
    let pipes = x.pipes in
    let rows = x.rows in
    let is = x.whole in
    search rules

pub returns-clause-made : goal.returns-clause-made
returns-clause-made g c =
    let at = c.recv-done.new.peers in
    let x = received g.P.Pipes.known (lent c.args.pipes.now c.args.rows.now.items c.args.places.now c.args.kind.now) (lent at.pipes.now at.rows.now.items c.args.places.now c.recv-done.new.self)
    c.requires.whole refl c.recv-done.ensures.places c.is_told_by_its_peers.ensures c.is_told_by_its_peers-2.ensures _ _ at (λ steps r. record { does = r.0; unsealing = r.3 }) _ _ (λ steps r. (r.1, r.2))
    (λ e. (ap (λ s. s.pipes.now) e, ap (λ s. s.rows.now.items) e, ap (λ s. s.pipes.ghost_name) e, ap (λ s. s.rows.ghost_name) e)) c.args.skips.now.items c.recv-done.new.skips.items (left_of c.args.kind.now).to_give c.recv-done.result c.recv-done.ensures.step in
    let pipes = x.pipes in
    let rows = x.rows in
    let is = x.made in
    search rules

pub returns-clause-step : goal.returns-clause-step
returns-clause-step g c =
    let at = c.recv-done.new.peers in
    let x = received g.P.Pipes.known (lent c.args.pipes.now c.args.rows.now.items c.args.places.now c.args.kind.now) (lent at.pipes.now at.rows.now.items c.args.places.now c.recv-done.new.self)
    c.requires.whole refl c.recv-done.ensures.places c.is_told_by_its_peers.ensures c.is_told_by_its_peers-2.ensures _ _ at (λ steps r. record { does = r.0; unsealing = r.3 }) _ _ (λ steps r. (r.1, r.2))
    (λ e. (ap (λ s. s.pipes.now) e, ap (λ s. s.rows.now.items) e, ap (λ s. s.pipes.ghost_name) e, ap (λ s. s.rows.ghost_name) e)) c.args.skips.now.items c.recv-done.new.skips.items (left_of c.args.kind.now).to_give c.recv-done.result c.recv-done.ensures.step in
    let pipes = x.pipes in
    let rows = x.rows in
    let is = x.step in
    search rules
