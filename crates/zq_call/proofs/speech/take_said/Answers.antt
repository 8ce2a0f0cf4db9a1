use Rattle.std.proofs.Common.{◌++◌, ◌≤◌, List, ℕ, length, eqb-true, sym, ap, subst, ◌∙◌, append-nil, arith}
use Rattle.std.proofs.lemmas.List.{nil_from_length}
use Rattle.spec_zmtp.proofs.MetadataLemmas.{not_zero}
use Rattle.spec_zmtp.specs.Put.{says}
use Rattle.zmtp_engine.specs.Conversation.{Follows}
use Rattle.zq_call.specs.Told.{Told, Tells, with_written}
use Rattle.zq_call.proofs.TellsLemmas.{all_said, piece_written, less_left}
use Rattle.zq_call.proofs.speech.take_said.Goals as goal

pub pieces-init : goal.pieces-init
pieces-init c = λ t k. record {
  decodes = k.decodes;
  follows = subst (λ (l : List ℕ). Follows (record { opts = t.opts; heard = t.heard; given = t.given; put = says t.means.said; written = l }) c.args.engine.now)
      (sym (append-nil t.written) ∙ ap (λ (l : List ℕ). t.written ++ l) (sym c.new-said.ensures.items)) k.follows;
  current = k.current;
}

pub pieces-smaller : goal.pieces-smaller
pieces-smaller c =
    let t : Told = c.requires.hears.0 in
    let some : 1 ≤ length c.out-piece.result.now = subst (λ (l : List ℕ). 1 ≤ length l) (c.out.ensures.lent ∙ sym c.out-piece.ensures.lent) (not_zero _ (sym c.pieces-test.ensures)) in
    let k : Tells (with_written c.pieces.said.items t) c.pieces.engine = c.pieces.invariant t c.requires.hears.1 in
    less_left t c.pieces.engine c.wrote.new.self c.pieces.said.items c.out-piece.result.now (omega (arith, some)) k
    (piece_written t c.pieces.engine c.wrote.new.self c.pieces.said.items c.out-piece.result.now c.out-piece.ensures.lent (λ p f. c.wrote.ensures.follows p f) c.wrote.ensures.heard k)

pub pieces-preserved : goal.pieces-preserved
pieces-preserved c = λ t k.
    subst (λ (l : List ℕ). Tells (with_written l t) c.wrote.new.self) (sym c.in_ok-extend_from_slice.ensures.items)
    (piece_written t c.pieces.engine c.wrote.new.self c.pieces.said.items c.out-piece.result.now c.out-piece.ensures.lent (λ p f. c.wrote.ensures.follows p f) c.wrote.ensures.heard (c.pieces.invariant t k))

pub returns-clause-all : goal.returns-clause-all
returns-clause-all c = λ t k.
    all_said t c.pieces.engine c.pieces.said.items (c.out.ensures.empty (nil_from_length _ (eqb-true _ _ (sym c.pieces-test.ensures)))).unwritten (c.pieces.invariant t k)
