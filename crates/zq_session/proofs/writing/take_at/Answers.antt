use Rattle.std.proofs.Common.{ℕ, Option, ap, subst, sym, ◌∙◌}
use Rattle.zq_outer.specs.declared.link.LinkPut.{LinkPut}
use Rattle.link_side.specs.Calls.{WriteCounts}
use Rattle.link_side.specs.declared.wire.Fetched.{Fetched}
use Rattle.link_side.specs.Kept.{Side}
use Rattle.link_side.specs.Says.{TakesBy}
use Rattle.zq_session.specs.Noting.{takes_of, NotesNotBy}
use Rattle.zq_session.specs.Tallies.{TalliesNext, with_takes}
use Rattle.zq_session.proofs.CountingLemmas.{unsaid_takes}
use Rattle.link_side.proofs.PartLemmas.{on_err}
use Rattle.zq_session.proofs.writing.take_at.Goals as goal

pub returns-clause-ok : goal.returns-clause-ok
returns-clause-ok g c = record { mid = c.take_part-written.new.self; takes = c.take_part-written.ensures.takes; passes = c.in_ok-pass_on.ensures.ok }

pub returns-in_err-pass_on-clause-took_one : goal.returns-in_err-pass_on-clause-took_one
returns-in_err-pass_on-clause-took_one g c =
    let k = c.take_part-written.ensures.takes in
    let e = c.in_err-pass_on.ensures.err.1.1.1 in
    on_err _ _ (subst (λ (n : ℕ). TalliesNext (with_takes n) c.args.tally.now c.count_take.new.tally) (ap (λ (o : Option Fetched). takes_of o) k.look ∙ unsaid_takes k.found e.0 c.take_part-written.new.self.behind k.left e.1) c.count_take.ensures)

pub returns-in_err-pass_on-clause-err : goal.returns-in_err-pass_on-clause-err
returns-in_err-pass_on-clause-err g c =
    let e = c.in_err-pass_on.ensures.err in
    let said = g.L.Link.said c.args.link.now in
    let said' = g.L.Link.said c.take_part-written.new.link in
    let k : NotesNotBy g.P.Pipes.known c.args.topics.now c.pass_on.new.topics c.args.side.now.kept c.pass_on.new.side said said' (λ (a : Option LinkPut). WriteCounts a (g.L.Link.faults c.args.link.now) (g.L.Link.faults c.take_part-written.new.link) (g.L.Link.stalls c.args.link.now) (g.L.Link.stalls c.take_part-written.new.link) (g.L.Link.ends c.args.link.now) (g.L.Link.ends c.take_part-written.new.link)) c.args.pipes.now c.args.half.now c.take_part-written.new.pipes c.take_part-written.new.input = record {
      done = c.take_part-written.result;
      message = e.1.1.1.0;
      takes = subst (λ (x : Side). TakesBy g.P.Pipes.known c.args.side.now.kept c.take_part-written.result x said said' c.args.pipes.now c.args.half.now c.take_part-written.new.pipes c.take_part-written.new.input) (sym e.0) c.take_part-written.ensures.takes;
      waits = ap (λ (x : Side). x.behind) e.0 ∙ e.1.1.1.1;
      some = e.1.1.0;
      same = e.1.0;
      counts = c.take_part-written.ensures.counts;
    } in
    on_err _ _ k
