use Rattle.std.proofs.Common.{◌∙◌, refl, sym, subst, ap}
use Rattle.end_table.proofs.SoundLemmas.{one_some}
use Rattle.msg_pipe.specs.Known.{IsThere}
use Rattle.closed_ends.specs.Placing.{place_given}
use Rattle.closed_ends.proofs.CountLemmas.{rolled_counts}
use Rattle.closed_ends.proofs.OnceLemmas.{once_parted}
use Rattle.closed_ends.proofs.ending.yield_out.Goals as goal

pub returns-in-Some-clause-counts : goal.returns-in-Some-clause-counts
returns-in-Some-clause-counts g c = λ writer name.
    rolled_counts g.P.Pipes.known g.met.P.Pipes.one_out c.args.pipes.now c.forget_noted.new.pipes c.in-Some.out c.forget_noted.new.out writer c.forget_noted.ensures.keeps c.forget_noted.ensures.forgets
    (subst (IsThere g.P.Pipes.known c.args.pipes.now) (sym name) c.requires.given.read_there) c.args.end.now.input c.requires.given.read_there

pub returns-in-Some-clause-changes : goal.returns-in-Some-clause-changes
returns-in-Some-clause-changes g c = λ writes.
    once_parted g.P.Pipes.known (place_given g.P.Pipes.known.in_name c.args.end.now) refl writes c.args.did.now.items c.forget_noted.new.did.items c.args.pipes.now c.forget_noted.new.pipes c.in-Some.out c.forget_noted.new.out c.forget_noted.ensures.noted
    (c.requires.given.out_is c.in-Some.out (sym c.take.ensures.value ∙ c.in-Some.is)) c.forget_noted.ensures.forgets c.forget_noted.ensures.keeps

pub returns-in-Some-clause-parted : goal.returns-in-Some-clause-parted
returns-in-Some-clause-parted g c = λ o is.
    ap (λ (w : _). (g.P.Pipes.known.writing c.forget_noted.new.pipes w).parts) (sym (one_some _ _ is)) ∙ ap (λ v. v.parts) c.forget_noted.ensures.forgets
