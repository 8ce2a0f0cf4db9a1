use Rattle.std.proofs.Common.{◌≡◌, [], ◌∷◌, Option, refl, sym, subst, ◌∙◌}
use Rattle.std.specs.List.{flat_map}
use Rattle.spec_control.specs.declared.end.EndState.{EndState}
use Rattle.spec_pattern.specs.PipeStep.{Take}
use Rattle.link_side.specs.Kept.{Side, IsAtRest}
use Rattle.link_side.specs.declared.behind.Behind.TheVariants.{Nothing}
use Rattle.link_side.proofs.PartLemmas.{on_err, some_pipe}
use Rattle.zq_session.specs.Halves.{step_in}
use Rattle.zq_session.specs.LifeView.{IsWritable}
use Rattle.zq_session.specs.Noting.{next_acts}
use Rattle.zq_session.proofs.NotingLemmas.{free_by, ease_at}
use Rattle.zq_session.proofs.HalfLemmas.{steps_there}
use Rattle.zq_session.proofs.ShownLemmas.{shown_none, shown_writing, shown_taking, shown_on}
use Rattle.zq_session.proofs.WorkLemmas.{wrote_by, unnoted_by}
use Rattle.zq_session.proofs.WriteLemmas.{write_refused, write_stands, write_over, write_cut}
use Rattle.zq_session.proofs.course.Course.write_at_link.Goals as goal

pub returns-then-is_refused-clause-did : goal.returns-then-is_refused-clause-did
returns-then-is_refused-clause-did g c =
    write_refused g.P.Pipes.known c.args.now c.args.self.now c.in-Some.side _ _ _ _ _ _ _ (shown_none _ _ _) c.in-Some.is
    (free_by c.in-Some.side.behind (ease_at (λ (x : Side). x.behind ≡ Nothing) c.args.self.now.side c.in-Some.side c.in-Some.is c.requires.rest)) (c.is_refused.ensures.yes c.if-is_refused.true) refl

pub returns-in-None-put_end-clause-did : goal.returns-in-None-put_end-clause-did
returns-in-None-put_end-clause-did g c =
    write_stands g.P.Pipes.known c.args.now c.args.self.now c.delimiter_due.new.self c.in-Some.side c.write_with.new.side c.write_with.new.topics c.write_with.new.tally c.in_ok-done-in-Some.done c.met_delimiter.result _ _ _ _ _ _ _ _ _ _ _
    c.in-Some.is (free_by c.in-Some.side.behind (ease_at (λ (x : Side). x.behind ≡ Nothing) c.args.self.now.side c.in-Some.side c.in-Some.is c.requires.rest)) (free_by c.write_with.new.side.behind c.in_ok-done-in-Some.ensures.rest)
    (ease_at (λ (x : Side). IsAtRest x.kept) c.args.self.now.side c.in-Some.side c.in-Some.is (c.rests.ensures c.requires.rest)) (c.is_refused.ensures.no c.if-is_refused.false) c.met_delimiter.ensures.yes c.met_delimiter.ensures.no c.write_with.ensures.others
    (wrote_by g.P.Pipes.known _ c.args.self.now.life c.args.self.now.topics c.write_with.new.topics c.args.self.now.tally c.write_with.new.tally c.can_read.result c.in-Some.side.kept c.write_with.new.side.kept c.in_ok-done-in-Some.done _ _ _ _ _ _ _
    (λ x n. shown_writing _ _ _ _ _ _ _ c.in_ok-done-in-Some.ensures.counts _ x n) c.can_read.ensures.yes c.can_read.ensures.no c.in_ok-done-in-Some.ensures.ok)
    c.delimiter_due.ensures.does (sym c.put_end.ensures ∙ c.in-None-put_end.is) c.wrote.ensures

pub put_last-requires-clause-here : goal.put_last-requires-clause-here
put_last-requires-clause-here g c = λ e.
    (steps_there g.P.Pipes.known (flat_map step_in (next_acts some_pipe c.in_ok-done-in-Some.ensures.ok.next)) _ _ c.args.self.now.life.state _ _ _ _ (c.in_ok-done-in-Some.ensures.ok.steps some_pipe c.args.out.now) c.requires.there).writes
    (subst (λ (s : Option EndState). IsWritable s) c.delimiter_due.ensures.state (c.puts.ensures.yes e).1)

pub returns-in-Some-put_end-clause-did : goal.returns-in-Some-put_end-clause-did
returns-in-Some-put_end-clause-did g c =
    write_over g.P.Pipes.known c.args.now c.args.self.now c.end_link.new.self c.delimiter_due.new.self c.in-Some.side c.write_with.new.side c.put_last.new.side c.write_with.new.topics c.write_with.new.tally c.in_ok-done-in-Some.done c.in-Some-put_end.cause c.met_delimiter.result c.puts.result _ _ _ _ _ _ _ _ _ _ _ _ _
    c.in-Some.is (free_by c.in-Some.side.behind (ease_at (λ (x : Side). x.behind ≡ Nothing) c.args.self.now.side c.in-Some.side c.in-Some.is c.requires.rest)) (free_by c.write_with.new.side.behind c.in_ok-done-in-Some.ensures.rest) (free_by c.put_last.new.side.behind c.put_last.ensures.rest)
    (ease_at (λ (x : Side). IsAtRest x.kept) c.args.self.now.side c.in-Some.side c.in-Some.is (c.rests.ensures c.requires.rest)) (c.is_refused.ensures.no c.if-is_refused.false) c.met_delimiter.ensures.yes c.met_delimiter.ensures.no c.write_with.ensures.others
    (wrote_by g.P.Pipes.known _ c.args.self.now.life c.args.self.now.topics c.write_with.new.topics c.args.self.now.tally c.write_with.new.tally c.can_read.result c.in-Some.side.kept c.write_with.new.side.kept c.in_ok-done-in-Some.done _ _ _ _ _ _ _
    (λ x n. shown_writing _ _ _ _ _ _ _ c.in_ok-done-in-Some.ensures.counts _ x n) c.can_read.ensures.yes c.can_read.ensures.no c.in_ok-done-in-Some.ensures.ok)
    (λ xs ys x q. shown_on _ _ _ _ _ _ _ _ _ xs ys x (q.shows _ _ _))
    c.delimiter_due.ensures.does (sym c.put_end.ensures ∙ c.in-Some-put_end.is) c.put_last.ensures.puts c.puts.ensures.yes c.puts.ensures.no
    c.end_link.ensures.gone c.end_link.ensures.topics c.end_link.ensures.peer c.end_link.ensures.asks c.end_link.ensures.dials (c.end_link.ensures.counts c.put_last.new.side refl) refl

pub returns-in_err-done-in-Some-clause-cut : goal.returns-in_err-done-in-Some-clause-cut
returns-in_err-done-in-Some-clause-cut g c =
    on_err _ _ (write_cut g.P.Pipes.known c.args.self.now c.in-Some.side c.write_with.new.side c.write_with.new.topics c.write_with.new.tally _ _ _ _ _ _ _ _ _ _
    c.in-Some.is (free_by c.in-Some.side.behind (ease_at (λ (x : Side). x.behind ≡ Nothing) c.args.self.now.side c.in-Some.side c.in-Some.is c.requires.rest)) (ease_at (λ (x : Side). IsAtRest x.kept) c.args.self.now.side c.in-Some.side c.in-Some.is (c.rests.ensures c.requires.rest)) c.in_err-done-in-Some.ensures.took_one (c.is_refused.ensures.no c.if-is_refused.false) c.write_with.ensures.others
    (unnoted_by g.P.Pipes.known _ _ c.args.self.now.life c.args.self.now.topics c.write_with.new.topics c.can_read.result c.in-Some.side.kept c.write_with.new.side _ _ _ _ _ _ _
    (λ a x m w. shown_taking _ _ _ _ _ _ a w _ x m) c.can_read.ensures.yes c.can_read.ensures.no c.in_err-done-in-Some.ensures.err))

pub returns-in-None-put_end-clause-there : goal.returns-in-None-put_end-clause-there
returns-in-None-put_end-clause-there g c =
    steps_there g.P.Pipes.known (flat_map step_in (next_acts some_pipe c.in_ok-done-in-Some.ensures.ok.next)) _ _ c.args.self.now.life.state _ _ _ _ (c.in_ok-done-in-Some.ensures.ok.steps some_pipe c.args.out.now) c.requires.there

pub returns-in_err-done-in-Some-clause-there : goal.returns-in_err-done-in-Some-clause-there
returns-in_err-done-in-Some-clause-there g c =
    let u = c.in_err-done-in-Some.ensures.err in
    steps_there g.P.Pipes.known (Take some_pipe u.message ∷ []) _ _ c.args.self.now.life.state _ _ _ _ (u.steps some_pipe c.args.out.now) c.requires.there

pub returns-in-Some-put_end-clause-there : goal.returns-in-Some-put_end-clause-there
returns-in-Some-put_end-clause-there g c =
    let lb = c.put_last.ensures.puts some_pipe in
    steps_there g.P.Pipes.known (flat_map step_in lb.acts) _ _ c.args.self.now.life.state _ _ _ _ (lb.steps c.write_with.new.input)
    (steps_there g.P.Pipes.known (flat_map step_in (next_acts some_pipe c.in_ok-done-in-Some.ensures.ok.next)) _ _ c.args.self.now.life.state _ _ _ _ (c.in_ok-done-in-Some.ensures.ok.steps some_pipe c.args.out.now) c.requires.there)
