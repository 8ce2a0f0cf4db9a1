use Rattle.std.proofs.Common.{List, [], ◌∷◌, ◌++◌, sym, ap, ◌∙◌, subst, refl}
use Rattle.end_table.specs.Changes.{MadeWith}
use Rattle.end_table.specs.declared.changes.PipeChange.TheVariants.{Kept}
use Rattle.end_table.proofs.ChangeLemmas.{more_one}
use Rattle.end_table.proofs.MadeLemmas.{makes_for, only_for, none_made}
use Rattle.end_table.proofs.placing.make_noted.Goals as goal

pub returns-in-Ok-clause-changes : goal.returns-in-Ok-clause-changes
returns-in-Ok-clause-changes g c = λ places.
    more_one g.P.Pipes.known places places _ [] c.args.did.now.items c.and-in-Ok.result.items c.args.pipes.now c.make.new.self c.and-in-Ok.ensures
    (subst (λ (l : List _). MadeWith g.P.Pipes.known c.args.capacity l c.args.pipes.now c.make.new.self)
    (sym (c.and.ensures ∙ ap (λ (l : List _). l ++ (c.in-Ok.out, c.in-Ok.input) ∷ []) c.new-halves.ensures))
    (c.in-Ok.ensures.made, c.make.ensures.keeps))
    tt refl

pub returns-in-Err-clause-changes : goal.returns-in-Err-clause-changes
returns-in-Err-clause-changes g c = λ places. more_one g.P.Pipes.known places places _ [] c.args.did.now.items c.and-in-Err.result.items c.args.pipes.now c.make.new.self c.and-in-Err.ensures c.make.ensures.keeps tt refl

pub returns-in-Ok-clause-noted : goal.returns-in-Ok-clause-noted
returns-in-Ok-clause-noted g c =
    makes_for c.args.end c.args.capacity c.and.result c.in-Ok.out c.in-Ok.input c.args.did.now.items c.and-in-Ok.result.items c.make.new.self c.and-in-Ok.ensures
    (c.and.ensures ∙ ap (λ (l : List _). l ++ (c.in-Ok.out, c.in-Ok.input) ∷ []) c.new-halves.ensures)

pub returns-in-Ok-clause-only : goal.returns-in-Ok-clause-only
returns-in-Ok-clause-only g c =
    only_for c.args.end c.args.capacity c.in-Ok.out c.args.did.now.items c.and-in-Ok.result.items
    (makes_for c.args.end c.args.capacity c.and.result c.in-Ok.out c.in-Ok.input c.args.did.now.items c.and-in-Ok.result.items c.make.new.self c.and-in-Ok.ensures
    (c.and.ensures ∙ ap (λ (l : List _). l ++ (c.in-Ok.out, c.in-Ok.input) ∷ []) c.new-halves.ensures))

pub returns-in-Err-clause-only : goal.returns-in-Err-clause-only
returns-in-Err-clause-only g c = λ d other. none_made Kept c.args.did.now.items c.and-in-Err.result.items c.make.new.self c.and-in-Err.ensures (λ e. refl) d

pub returns-in-Ok-clause-makings : goal.returns-in-Ok-clause-makings
returns-in-Ok-clause-makings g c = record { more = _; noted = c.and-in-Ok.ensures; makings = (tt, tt) }

pub returns-in-Err-clause-makings : goal.returns-in-Err-clause-makings
returns-in-Err-clause-makings g c = record { more = _; noted = c.and-in-Err.ensures; makings = (tt, tt) }
