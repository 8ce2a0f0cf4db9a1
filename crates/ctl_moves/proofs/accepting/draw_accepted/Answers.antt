use Rattle.std.specs.Prelude.{◌<◌, ◌^◌, ◌++◌, ◌∷◌, [], length}
use Rattle.std.proofs.Common.{ap, sym, subst, ◌∙◌}
use Rattle.ctl_state.specs.declared.state.State.{State}
use Rattle.ctl_state.specs.Pairs.{entry_drawn}
use Rattle.ctl_state.specs.Parts.{on_pairs}
use Rattle.ctl_state.proofs.KeptLemmas.{so_on_err}
use Rattle.ctl_moves.proofs.accepting.draw_accepted.Goals as goal

pub keep_commands-requires : goal.keep_commands-requires
keep_commands-requires g c = record { there = c.requires.there }

pub draw-requires : goal.draw-requires
draw-requires g c = record {
  few = subst (λ (x : State g.row.L.Denot). length x.pairs < 2 ^ 32) (sym c.in_ok-keep_commands.ensures.next) c.requires.few;
}

pub returns-in-Ok-clause-number : goal.returns-in-Ok-clause-number
returns-in-Ok-clause-number g c = c.in-Ok.ensures.number ∙ ap (λ (x : State g.row.L.Denot). length x.pairs) c.in_ok-keep_commands.ensures.next

pub returns-in-Ok-clause-next : goal.returns-in-Ok-clause-next
returns-in-Ok-clause-next g c =
    c.in-Ok.ensures.next ∙ ap (λ (x : State g.row.L.Denot). on_pairs (λ es. es ++ entry_drawn c.args.o.first c.args.o.last ∷ []) x) c.in_ok-keep_commands.ensures.next

pub returns-in-Ok-clause-ok : goal.returns-in-Ok-clause-ok
returns-in-Ok-clause-ok g c = λ k h. c.in-Ok.ensures.ok k (c.in_ok-keep_commands.ensures.ok k h)

pub give_commands_back-requires : goal.give_commands_back-requires
give_commands_back-requires g c = record {
  kept = record { before = c.args.state.now; boxes = c.requires.there; is = c.in-Err.ensures.err ∙ c.in_ok-keep_commands.ensures.next };
}

pub returns-in-Err-clause-err : goal.returns-in-Err-clause-err
returns-in-Err-clause-err g c = c.give_commands_back.ensures (record { before = c.args.state.now; boxes = c.requires.there; is = c.in-Err.ensures.err ∙ c.in_ok-keep_commands.ensures.next })

pub returns-in_err-keep_commands-clause-err : goal.returns-in_err-keep_commands-clause-err
returns-in_err-keep_commands-clause-err g c = so_on_err _ c.from_residual.result c.in_err-keep_commands.ensures.err
