use Rattle.std.proofs.Common.{ℕ, suc, ◌++◌, List, drop, sym, ap, eqb-true, ◌∙◌, arith}
use Rattle.zmtp_engine.specs.Output.{Run, piece_of, pieces_of, filled_run, next_run}
use Rattle.zmtp_engine.specs.WriterView.{body_at, pieces_behind}
use Rattle.zmtp_engine.proofs.WriterLemmas.{is_lent, solid_at, after_some}
use Rattle.zmtp_engine.proofs.sending.Sending.go_on.Goals as goal

pub returns-clause-run : goal.returns-clause-run
returns-clause-run c =
    let r0 : List ℕ = c.args.run.now.items in
    let s = c.gather.new.self in
    let e = ap (λ (l : List (List ℕ)). filled_run r0 l) (sym c.past_lent-sending.ensures.pieces) ∙ c.gather.ensures.gathered in
    let l = is_lent s.next r0 c.gather.new.run.items (pieces_behind c.args.self) s.message s.frame e (eqb-true _ _ (sym c.if-not-is_empty.ensures)) (solid_at c.args.self.next c.args.self.message c.args.self.frame)
    c.gather.ensures.sending.0 c.gather.ensures.sending.1 (λ z. c.if-sending-len.false (z ∙ sym c.len.ensures.value)) c.gather.ensures.over in
    sym (ap (λ (r : Run). r.octets) l.0)

pub returns-clause-later : goal.returns-clause-later
returns-clause-later c =
    let r0 : List ℕ = c.args.run.now.items in
    let s = c.gather.new.self in
    let e = ap (λ (l : List (List ℕ)). filled_run r0 l) (sym c.past_lent-sending.ensures.pieces) ∙ c.gather.ensures.gathered in
    let l = is_lent s.next r0 c.gather.new.run.items (pieces_behind c.args.self) s.message s.frame e (eqb-true _ _ (sym c.if-not-is_empty.ensures)) (solid_at c.args.self.next c.args.self.message c.args.self.frame)
    c.gather.ensures.sending.0 c.gather.ensures.sending.1 (λ z. c.if-sending-len.false (z ∙ sym c.len.ensures.value)) c.gather.ensures.over in
    after_some (next_run (piece_of r0 ++ pieces_behind c.args.self)) (body_at s.message s.frame) (pieces_behind c.args.self) (pieces_of (drop (suc s.frame) s.message)) l.0 (omega (arith, l.1))
