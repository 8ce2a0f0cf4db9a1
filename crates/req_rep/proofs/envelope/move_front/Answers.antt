use lib.Seq.{length-take-le}
use Rattle.std.proofs.Common.{◌≡◌, ◌++◌, ◌+◌, ◌∷◌, [], length, take, drop, reverse, sym, ap, ◌∙◌, length-drop, arith}
use Rattle.std.proofs.lemmas.List.{length-reverse, reverse-reverse}
use Rattle.zq_base.specs.Message.{Frames}
use Rattle.req_rep.proofs.EnvelopeLemmas.{next_is}
use Rattle.req_rep.proofs.envelope.move_front.Goals as goal
use Rattle.req_rep.proofs.envelope.move_front.Goals.{in-Some, in-None}

pub moves-preserved : goal.moves-preserved
moves-preserved c =
    let all = c.args.frames.now.items in
    elim c.match-pop.branch [
      | in-Some w ↦ (let next = next_is all c.pop.new.self.items c.moves._moved w.in-Some.frame (omega arith) (sym c.moves.invariant.rest ∙ w.in-Some.ensures.items) in
          let moved : w.push_reserved.new.self.items ≡ take (c.moves._moved + 1) all =
          w.push_reserved.ensures.items ∙ ap (λ (l : Frames). l ++ w.in-Some.frame ∷ []) c.moves.invariant.moved ∙ sym next.0 in
          record {
            moved = cc;
            rest = next.1;
            capacity = cc;
          })
      | in-None w ↦ absurd (let left = ap length c.moves.invariant.rest ∙ length-reverse (drop c.moves._moved all) ∙ length-drop c.moves._moved all in omega (arith, left, w.in-None.ensures.cases.0, c.moves.frames.ok.0))
    ]

pub push_reserved-requires : goal.push_reserved-requires
push_reserved-requires c =
    let long = ap length c.moves.invariant.moved ∙ length-take-le c.moves._moved c.args.frames.now.items (omega (arith, c.requires.within, c.args.frames.now.ok.0)) in
    omega (arith, long, c.moves.into.ok.0, c.moves.invariant.capacity, c.requires.room)

pub returns-clause-moved : goal.returns-clause-moved
returns-clause-moved c =
    let all : c.moves._moved ≡ c.args.count = omega arith in
    c.moves.invariant.moved ∙ ap (λ n. take n c.args.frames.now.items) all

pub returns-clause-rest : goal.returns-clause-rest
returns-clause-rest c =
    let all : c.moves._moved ≡ c.args.count = omega arith in
    c.reverse-2.ensures.items ∙ ap reverse c.moves.invariant.rest ∙ reverse-reverse (drop c.moves._moved c.args.frames.now.items)
    ∙ ap (λ n. drop n c.args.frames.now.items) all
