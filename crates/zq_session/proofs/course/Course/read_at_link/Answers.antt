use Rattle.std.proofs.Common.{◌≡◌, Bool, [], ◌++◌, None, Option, refl, ap, subst, ◌∙◌}
use Rattle.std.specs.Prelude.{◌||◌}
use Rattle.std.specs.List.{flat_map}
use Rattle.spec_control.specs.declared.end.EndState.{EndState}
use Rattle.link_side.specs.Kept.{Side}
use Rattle.link_side.specs.Calls.{put_acts}
use Rattle.link_side.specs.declared.behind.Behind.TheVariants.{Nothing}
use Rattle.link_side.proofs.PartLemmas.{on_err, some_pipe}
use Rattle.zq_session.specs.Halves.{step_in}
use Rattle.zq_session.specs.LifeView.{IsWritable}
use Rattle.zq_session.proofs.NotingLemmas.{free_by, ease_at}
use Rattle.zq_session.proofs.HalfLemmas.{steps_there, steps_writes}
use Rattle.zq_session.proofs.ShownLemmas.{shown_read, shown_reading, shown_on}
use Rattle.zq_session.proofs.WorkLemmas.{read_by}
use Rattle.zq_session.proofs.ReadLemmas.{read_stands, read_over}
use Rattle.zq_session.proofs.ReadCutLemmas.{read_cut, read_untold}
use Rattle.zq_session.proofs.course.Course.read_at_link.Goals as goal

pub returns-in-None-over_by-clause-did : goal.returns-in-None-over_by-clause-did
returns-in-None-over_by-clause-did g c =
    read_stands g.P.Pipes.known c.args.now c.args.self.now c.shaken_due.new.life c.shaken_due.new.peer c.in-Some.side c.read_at.new.side c.in_ok-done-in-Some.done c.reading_at-how.result c.is_refused-refused.result c.in_ok-said-in-Some.said _ _ _ _ _ _ _ _ _ _
    c.in-Some.is (free_by c.in-Some.side.behind (ease_at (λ (x : Side). x.behind ≡ Nothing) c.args.self.now.side c.in-Some.side c.in-Some.is c.requires.rest)) (free_by c.read_at.new.side.behind c.in_ok-done-in-Some.ensures.rest)
    c.is_refused-refused.ensures.yes c.is_refused-refused.ensures.no c.reading_at-how.ensures.refused c.reading_at-how.ensures.reading c.read_at.ensures.others
    (read_by g.P.Pipes.known _ c.reading_at-how.result c.args.self.now.life.end c.in-Some.side.kept c.read_at.new.side.kept c.in_ok-done-in-Some.done _ _ _ _ _ _ (λ y ms full. shown_reading _ _ _ _ _ _ _ _ c.in_ok-done-in-Some.ensures.counts y ms full) c.in_ok-done-in-Some.ensures.ok)
    c.in_ok-said-in-Some.ensures.ok c.in-None-over_by.ensures.none (c.either.ensures ∙ ap (λ (b : Bool). b || c.in_ok-said-in-Some.said) c.heard.ensures)

pub put_last-requires-clause-here : goal.put_last-requires-clause-here
put_last-requires-clause-here g c = λ e.
    let r = c.in_ok-done-in-Some.ensures.ok in
    let w = (c.puts_last.ensures.yes e).1.1 in
    let state = c.shaken_due.ensures.state in
    steps_writes g.P.Pipes.known (flat_map step_in (put_acts some_pipe r.messages r.full)) _ _ None None _ _ (r.steps some_pipe None) (c.requires.here (subst (λ (s : Option EndState). IsWritable s) state w))

pub returns-in-Some-over_by-clause-did : goal.returns-in-Some-over_by-clause-did
returns-in-Some-over_by-clause-did g c =
    read_over g.P.Pipes.known c.args.now c.args.self.now c.end_link.new.self c.shaken_due.new.life c.shaken_due.new.peer c.in-Some.side c.read_at.new.side c.put_last.new.side c.say_last.new.side c.in_ok-done-in-Some.done c.reading_at-how.result c.in-Some-over_by.cause
    c.is_refused-refused.result c.in_ok-said-in-Some.said c.puts_last.result c.is_refusal.result _ _ _ _ _ _ _ _ _ _ _ _ _ _ _ _
    c.in-Some.is (free_by c.in-Some.side.behind (ease_at (λ (x : Side). x.behind ≡ Nothing) c.args.self.now.side c.in-Some.side c.in-Some.is c.requires.rest)) (free_by c.read_at.new.side.behind c.in_ok-done-in-Some.ensures.rest) (free_by c.say_last.new.side.behind c.say_last.ensures.rest)
    c.is_refused-refused.ensures.yes c.is_refused-refused.ensures.no c.reading_at-how.ensures.refused c.reading_at-how.ensures.reading c.read_at.ensures.others c.say_last.ensures.others
    (λ xs ys zs x q z. shown_on _ _ _ _ _ _ _ _ _ xs (ys ++ zs) x (shown_on _ _ _ _ _ _ _ _ _ ys zs (q.shows _ _ _) z))
    (read_by g.P.Pipes.known _ c.reading_at-how.result c.args.self.now.life.end c.in-Some.side.kept c.read_at.new.side.kept c.in_ok-done-in-Some.done _ _ _ _ _ _ (λ y ms full. shown_reading _ _ _ _ _ _ _ _ c.in_ok-done-in-Some.ensures.counts y ms full) c.in_ok-done-in-Some.ensures.ok)
    c.in_ok-said-in-Some.ensures.ok c.in-Some-over_by.ensures.some c.put_last.ensures.puts c.puts_last.ensures.yes c.puts_last.ensures.no c.say_last.ensures.says c.is_refusal.ensures.yes c.is_refusal.ensures.no
    c.end_link.ensures.gone c.end_link.ensures.topics c.end_link.ensures.peer c.end_link.ensures.asks c.end_link.ensures.dials (c.end_link.ensures.counts c.say_last.new.side refl) refl

pub returns-in_err-done-in-Some-clause-cut : goal.returns-in_err-done-in-Some-clause-cut
returns-in_err-done-in-Some-clause-cut g c =
    let e = c.in_err-done-in-Some.ensures.err in
    on_err _ _ (read_cut g.P.Pipes.known c.args.self.now c.in-Some.side c.read_at.new.side c.reading_at-how.result c.is_refused-refused.result _ _ _ _ _ _ _ _ _ _ (λ a x w. shown_read _ _ _ _ _ _ a w x)
    c.in-Some.is (free_by c.in-Some.side.behind (ease_at (λ (x : Side). x.behind ≡ Nothing) c.args.self.now.side c.in-Some.side c.in-Some.is c.requires.rest)) c.read_at.ensures.free
    c.is_refused-refused.ensures.yes c.is_refused-refused.ensures.no c.reading_at-how.ensures.refused c.reading_at-how.ensures.reading c.read_at.ensures.others e.0 e.1 e.2)

pub returns-in_err-said-in-Some-clause-cut : goal.returns-in_err-said-in-Some-clause-cut
returns-in_err-said-in-Some-clause-cut g c =
    let e = c.in_err-said-in-Some.ensures.err in
    on_err _ _ (read_untold g.P.Pipes.known c.args.self.now _ c.in-Some.side c.read_at.new.side c.in_ok-done-in-Some.done c.reading_at-how.result c.is_refused-refused.result _ _ _ _ _ _ _ _ _
    c.in-Some.is (free_by c.in-Some.side.behind (ease_at (λ (x : Side). x.behind ≡ Nothing) c.args.self.now.side c.in-Some.side c.in-Some.is c.requires.rest)) (free_by c.read_at.new.side.behind c.in_ok-done-in-Some.ensures.rest)
    c.is_refused-refused.ensures.yes c.is_refused-refused.ensures.no c.reading_at-how.ensures.refused c.reading_at-how.ensures.reading c.read_at.ensures.others
    (read_by g.P.Pipes.known _ c.reading_at-how.result c.args.self.now.life.end c.in-Some.side.kept c.read_at.new.side.kept c.in_ok-done-in-Some.done _ _ _ _ _ _ (λ y ms full. shown_reading _ _ _ _ _ _ _ _ c.in_ok-done-in-Some.ensures.counts y ms full) c.in_ok-done-in-Some.ensures.ok)
    refl refl e.0 e.1 refl refl)

pub returns-in-None-over_by-clause-there : goal.returns-in-None-over_by-clause-there
returns-in-None-over_by-clause-there g c = λ i there.
    let r = c.in_ok-done-in-Some.ensures.ok in
    steps_there g.P.Pipes.known (flat_map step_in (put_acts some_pipe r.messages r.full)) _ _ c.args.self.now.life.state i i _ _ (r.steps some_pipe i) there

pub returns-in_err-done-in-Some-clause-there : goal.returns-in_err-done-in-Some-clause-there
returns-in_err-done-in-Some-clause-there g c = λ i there.
    let e = c.in_err-done-in-Some.ensures.err in
    steps_there g.P.Pipes.known [] _ _ c.args.self.now.life.state i i _ _ (e.0, (refl, e.1)) there

pub returns-in_err-said-in-Some-clause-there : goal.returns-in_err-said-in-Some-clause-there
returns-in_err-said-in-Some-clause-there g c = λ i there.
    let r = c.in_ok-done-in-Some.ensures.ok in
    steps_there g.P.Pipes.known (flat_map step_in (put_acts some_pipe r.messages r.full)) _ _ c.args.self.now.life.state i i _ _ (r.steps some_pipe i) there

pub returns-in-Some-over_by-clause-there : goal.returns-in-Some-over_by-clause-there
returns-in-Some-over_by-clause-there g c = λ i there.
    let r = c.in_ok-done-in-Some.ensures.ok in
    let lb = c.put_last.ensures.puts some_pipe in
    steps_there g.P.Pipes.known (flat_map step_in lb.acts) _ _ c.args.self.now.life.state i i _ _ (lb.steps i)
    (steps_there g.P.Pipes.known (flat_map step_in (put_acts some_pipe r.messages r.full)) _ _ c.args.self.now.life.state i i _ _ (r.steps some_pipe i) there)
