use Rattle.std.specs.Prelude.{List, length}
use Rattle.std.proofs.Common.{ap, sym, ◌∙◌, subst}
use Rattle.zq_base.specs.declared.ids.EndId.{EndId}
use Rattle.ctl_moves.specs.Batch.{drawn_ends}
use Rattle.ctl_moves.specs.declared.batch.Drawn.{Drawn}
use Rattle.ctl_moves.specs.Drawing.{AreTaken}
use Rattle.ctl_moves.proofs.BindCameLemmas.{came_none, drawn_more}
use Rattle.ctl_moves.proofs.JoinAllLemmas.{nothing_left}
use Rattle.ctl_moves.proofs.TakenLemmas.{gets_none}
use Rattle.ctl_moves.proofs.undrawing.undraw_all.Goals as goal

pub last-init : goal.last-init
last-init g c = record { taken = λ w. w.taken; calm = c.requires.calm }

pub undraw_one-requires-clause-taken : goal.undraw_one-requires-clause-taken
undraw_one-requires-clause-taken g c =
    let w = c.requires.taken in
    record { before = w.before; had = w.had; rest = c.pop_back.new.self.items; taken = subst (λ (xs : List (Drawn g.row.P-Name.Denot g.row.P-Out.Denot g.row.P-In.Denot)). AreTaken c.args.socket.0 xs w.before c.last.state w.had (g.H.Holder.holding c.last.holder)) c.in-Some.ensures.items (c.last.invariant.taken w) }

pub undraw_one-requires-clause-calm : goal.undraw_one-requires-clause-calm
undraw_one-requires-clause-calm g c =
    (drawn_ends c.pop_back.new.self.items, subst (λ (es : List EndId). g.H.Holder.calm c.last.holder es) (ap drawn_ends c.in-Some.ensures.items ∙ drawn_more c.pop_back.new.self.items c.in-Some.pair) c.last.invariant.calm)

pub last-preserved : goal.last-preserved
last-preserved g c = record {
  taken = λ w. c.undraw_one.ensures.back (record { before = w.before; had = w.had; rest = c.pop_back.new.self.items; taken = subst (λ (xs : List (Drawn g.row.P-Name.Denot g.row.P-Out.Denot g.row.P-In.Denot)). AreTaken c.args.socket.0 xs w.before c.last.state w.had (g.H.Holder.holding c.last.holder)) c.in-Some.ensures.items (c.last.invariant.taken w) });
  calm = c.undraw_one.ensures.calm (drawn_ends c.pop_back.new.self.items) (subst (λ (es : List EndId). g.H.Holder.calm c.last.holder es) (ap drawn_ends c.in-Some.ensures.items ∙ drawn_more c.pop_back.new.self.items c.in-Some.pair) c.last.invariant.calm);
}

pub returns-clause-state : goal.returns-clause-state
returns-clause-state g c = λ w.
    let none = nothing_left c.last.left.items (sym c.last.left.ok.0 ∙ c.in_default.ensures.cases.0) in
    (subst (λ (xs : List (Drawn g.row.P-Name.Denot g.row.P-Out.Denot g.row.P-In.Denot)). AreTaken c.args.socket.0 xs w.before c.last.state w.had (g.H.Holder.holding c.last.holder)) none (c.last.invariant.taken w)).is

pub returns-clause-back : goal.returns-clause-back
returns-clause-back g c = λ w.
    let none = nothing_left c.last.left.items (sym c.last.left.ok.0 ∙ c.in_default.ensures.cases.0) in
    let taken = subst (λ (xs : List (Drawn g.row.P-Name.Denot g.row.P-Out.Denot g.row.P-In.Denot)). AreTaken c.args.socket.0 xs w.before c.last.state w.had (g.H.Holder.holding c.last.holder)) none (c.last.invariant.taken w) in
    gets_none (length w.before.pairs) c.args.socket.0 w.had (g.H.Holder.holding c.last.holder) taken.gets taken.turns taken.sealed (came_none w.had (g.H.Holder.holding c.last.holder) taken.came) taken.heard
