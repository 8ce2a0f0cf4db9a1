use Rattle.std.proofs.Common.{ℕ, Option, Some, refl, ap, subst}
use Rattle.zq_outer.specs.declared.link.LinkPut.{LinkPut}
use Rattle.std.specs.Prelude.{IfOk}
use Rattle.link_side.specs.Calls.{WriteCounts}
use Rattle.zq_session.specs.Tallies.{TalliesNext, with_takes}
use Rattle.zq_session.proofs.SumLemmas.{none_taken_next}
use Rattle.zq_session.proofs.NextLemmas.{next_none, next_said, next_alone, next_took, unsaid_took, none_when, if_ok_two}
use Rattle.zq_session.proofs.UnlinkedLemmas.{on_errs}
use Rattle.zq_session.proofs.writing.write_with.Goals as goal

pub returns-then-is_none-clause-ok : goal.returns-then-is_none-clause-ok
returns-then-is_none-clause-ok g c =
    next_none g.P.Pipes.known (λ (n : ℕ). TalliesNext (with_takes n) c.args.tally.now c.count_take.new.tally) c.args.can_read c.args.topics.now c.args.topics.now c.args.side.now.kept c.write_at-written.new.side.kept c.write_at-written.result _ _ _ _ _ _ (none_when c.args.topics.now c.if-is_none.ensures) refl c.write_at-written.ensures.writes c.count_take.ensures

pub returns-in-Some-clause-ok : goal.returns-in-Some-clause-ok
returns-in-Some-clause-ok g c =
    next_said g.P.Pipes.known (λ (n : ℕ). TalliesNext (with_takes n) c.args.tally.now c.args.tally.now) c.args.can_read c.args.topics.now c.say_at.new.topics c.args.side.now.kept c.in-Some.written c.say_at.new.side.kept _ _ c.args.pipes.now c.args.input.now c.in-Some.ensures.said (none_taken_next c.args.tally.now)

pub returns-then-not-can_read-clause-ok : goal.returns-then-not-can_read-clause-ok
returns-then-not-can_read-clause-ok g c =
    let n = c.in-None.ensures.none in
    next_alone g.P.Pipes.known (λ (n : ℕ). TalliesNext (with_takes n) c.args.tally.now c.args.tally.now) c.args.can_read c.args.topics.now c.say_at.new.topics c.say_at.new.topics c.args.side.now c.say_at.new.side c.write_only-put.new.self.kept c.write_only-put.result _ _ _ _ _ n.1.0 n.0 (ap (λ l. g.L.Link.said l) n.1.1.0) refl c.if-not-can_read.true n.1.1.1 c.write_only-put.ensures.writes (none_taken_next c.args.tally.now)

pub returns-in-Some-input-clause-ok : goal.returns-in-Some-input-clause-ok
returns-in-Some-input-clause-ok g c =
    let n = c.in-None.ensures.none in
    if_ok_two c.take_at.result _ _ _ (λ done k count.
    next_took g.P.Pipes.known (λ (n : ℕ). TalliesNext (with_takes n) c.args.tally.now c.take_at.new.tally) c.args.can_read c.args.topics.now c.say_at.new.topics c.take_at.new.topics c.args.side.now c.say_at.new.side c.take_at.new.side done (g.L.Link.said c.args.link.now) (g.L.Link.said c.say_at.new.link) (g.L.Link.said c.take_at.new.link)
    c.args.pipes.now c.take_at.new.pipes c.args.input.now (Some c.take_at.new.half) c.in-Some-input.half c.take_at.new.half n.1.0 n.0 (ap (λ l. g.L.Link.said l) n.1.1.0) c.if-not-can_read.false n.1.1.1 c.in-Some-input.is refl k count) c.take_at.ensures.ok c.take_at.ensures.took

pub returns-in-Some-input-clause-err : goal.returns-in-Some-input-clause-err
returns-in-Some-input-clause-err g c =
    let n = c.in-None.ensures.none in
    let m = c.take_at.new.link in
    on_errs c.take_at.result _ _ (λ k.
    unsaid_took g.P.Pipes.known c.args.can_read c.args.topics.now c.say_at.new.topics c.take_at.new.topics c.args.side.now c.say_at.new.side c.take_at.new.side (g.L.Link.said c.args.link.now) (g.L.Link.said c.say_at.new.link) (g.L.Link.said c.take_at.new.link)
    (λ (a : Option LinkPut). WriteCounts a (g.L.Link.faults c.args.link.now) (g.L.Link.faults m) (g.L.Link.stalls c.args.link.now) (g.L.Link.stalls m) (g.L.Link.ends c.args.link.now) (g.L.Link.ends m))
    (λ (a : Option LinkPut). WriteCounts a (g.L.Link.faults c.say_at.new.link) (g.L.Link.faults m) (g.L.Link.stalls c.say_at.new.link) (g.L.Link.stalls m) (g.L.Link.ends c.say_at.new.link) (g.L.Link.ends m))
    c.args.pipes.now c.take_at.new.pipes c.args.input.now (Some c.take_at.new.half) c.in-Some-input.half c.take_at.new.half
    (λ a w. subst (λ l. WriteCounts a (g.L.Link.faults l) (g.L.Link.faults m) (g.L.Link.stalls l) (g.L.Link.stalls m) (g.L.Link.ends l) (g.L.Link.ends m)) n.1.1.0 w) n.1.0 n.0 (ap (λ l. g.L.Link.said l) n.1.1.0) c.if-not-can_read.false n.1.1.1 c.in-Some-input.is refl k) c.take_at.ensures.err

pub returns-then-not-can_read-clause-counts : goal.returns-then-not-can_read-clause-counts
returns-then-not-can_read-clause-counts g c =
    let n = c.in-None.ensures.none in
    let m = c.write_only-put.new.link in
    subst (λ l. WriteCounts c.write_only-put.result (g.L.Link.faults l) (g.L.Link.faults m) (g.L.Link.stalls l) (g.L.Link.stalls m) (g.L.Link.ends l) (g.L.Link.ends m)) n.1.1.0 c.write_only-put.ensures.counts

pub returns-in-Some-input-clause-counts : goal.returns-in-Some-input-clause-counts
returns-in-Some-input-clause-counts g c =
    let n = c.in-None.ensures.none in
    let m = c.take_at.new.link in
    subst (λ l. IfOk c.take_at.result (λ done. WriteCounts done.put (g.L.Link.faults l) (g.L.Link.faults m) (g.L.Link.stalls l) (g.L.Link.stalls m) (g.L.Link.ends l) (g.L.Link.ends m))) n.1.1.0 c.take_at.ensures.counts
