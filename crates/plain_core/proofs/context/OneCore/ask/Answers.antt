use Rattle.std.specs.Prelude.{◌++◌, ℕ, List, Result, Ok, Err, OnErr, refl}
use Rattle.std.proofs.Common.{ap, ◌∙◌, subst}
use Rattle.desk.specs.declared.given.Given.{Given}
use Rattle.spec_control.specs.declared.request.Req.TheVariants.{AskTerm}
use Rattle.plain_desk.specs.Lent.{Lent}
use Rattle.zq_world.specs.declared.marks.PieceMark.{PieceMark}
use Rattle.plain_core.specs.Sound.{Core, core_of, pieces_in, IsLentOn, Requests}
use Rattle.plain_core.specs.Leaving.{LeavesSockets}
use Rattle.plain_core.proofs.LeaveLemmas.{ask_leaves}
use Rattle.plain_core.proofs.SoundLemmas as lemmas
use Rattle.plain_core.proofs.context.OneCore.ask.Goals as goal

pub invariant_of-self : goal.invariant_of-self
invariant_of-self g c =
    lemmas.ask_sound g.P.Pipes.known c.asides_go_on.ensures c.tales_go_on.ensures (core_of c.self.inside.lent.desk c.self.inside.lent.pipes c.self.inside.tale.items c.self.inside.wanted) c.lend.new.self c.ask_term.new.self c.args.caller
    c.self.invariant.0 (c.lend.ensures ∙ ap (λ (n : ℕ). let l : Lent (Given g.row.P-Name.Denot g.row.P-Out.Denot g.row.P-In.Denot) g.row.P-Name.Denot g.row.P-Story.Denot = record c.self.inside.lent.desk { caller = n } in l) c.in_ok-by.ensures) c.is_of_one_order-in-Ok.ensures c.is_of_one_order.ensures c.in-Ok.ensures.keeps c.and-self-inside.result.items
    (c.and-self-inside.ensures.behind ∙ ap (λ (ms : List PieceMark). c.self.inside.tale.items ++ ms) c.and-self-inside.ensures.so)
    AskTerm c.in-Ok.reply c.in-Ok.ensures.ok (λ fits. c.root_asks_are_asides.ensures c.self.inside.lent.desk.items c.lend.new.self.caller c.in-Ok.reply c.in-Ok.ensures.ok.answered fits) tt
    (ask_leaves (core_of c.self.inside.lent.desk c.self.inside.lent.pipes c.self.inside.tale.items c.self.inside.wanted) c.lend.new.self c.ask_term.new.self c.args.caller c.self.invariant.0.one (c.lend.ensures ∙ ap (λ (n : ℕ). let l : Lent (Given g.row.P-Name.Denot g.row.P-Out.Denot g.row.P-In.Denot) g.row.P-Name.Denot g.row.P-Story.Denot = record c.self.inside.lent.desk { caller = n } in l) c.in_ok-by.ensures)
    c.is_of_one_order.ensures c.is_of_one_order-in-Ok.ensures c.in-Ok.ensures.keeps c.root_asks_are_asides.ensures c.in-Ok.reply c.in-Ok.ensures.ok)
    c.self.inside.closed c.self.inside.drops.items c.self.invariant.1

pub returns-in-Ok-clause-ok : goal.returns-in-Ok-clause-ok
returns-in-Ok-clause-ok g c =
    let once = lemmas.ask_once g.P.Pipes.known c.asides_go_on.ensures c.tales_go_on.ensures (core_of c.self.inside.lent.desk c.self.inside.lent.pipes c.self.inside.tale.items c.self.inside.wanted) c.lend.new.self c.ask_term.new.self c.args.caller
    c.self.invariant.0 (c.lend.ensures ∙ ap (λ (n : ℕ). let l : Lent (Given g.row.P-Name.Denot g.row.P-Out.Denot g.row.P-In.Denot) g.row.P-Name.Denot g.row.P-Story.Denot = record c.self.inside.lent.desk { caller = n } in l) c.in_ok-by.ensures) c.is_of_one_order-in-Ok.ensures c.is_of_one_order.ensures c.in-Ok.ensures.keeps c.and-self-inside.result.items
    (c.and-self-inside.ensures.behind ∙ ap (λ (ms : List PieceMark). c.self.inside.tale.items ++ ms) c.and-self-inside.ensures.so)
    AskTerm c.in-Ok.reply c.in-Ok.ensures.ok (λ fits. c.root_asks_are_asides.ensures c.self.inside.lent.desk.items c.lend.new.self.caller c.in-Ok.reply c.in-Ok.ensures.ok.answered fits) in
    subst (λ (w : Core g.row.P.Denot (Given g.row.P-Name.Denot g.row.P-Out.Denot g.row.P-In.Denot) g.row.P-Name.Denot g.row.P-Story.Denot). Requests c.args.caller AskTerm c.in-Ok.reply c.ask_term.new.self.items (pieces_in w)
    (pieces_in (core_of c.ask_term.new.self c.self.inside.lent.pipes c.and-self-inside.result.items c.self.inside.wanted))) c.self.view_is once

pub returns-in-Ok-clause-keeps : goal.returns-in-Ok-clause-keeps
returns-in-Ok-clause-keeps g c =
    let v : Core g.row.P.Denot (Given g.row.P-Name.Denot g.row.P-Out.Denot g.row.P-In.Denot) g.row.P-Name.Denot g.row.P-Story.Denot = core_of c.self.inside.lent.desk c.self.inside.lent.pipes c.self.inside.tale.items c.self.inside.wanted in
    subst (λ (w : Core g.row.P.Denot (Given g.row.P-Name.Denot g.row.P-Out.Denot g.row.P-In.Denot) g.row.P-Name.Denot g.row.P-Story.Denot). LeavesSockets c.args.caller w.desk c.ask_term.new.self) c.self.view_is
    (ask_leaves v c.lend.new.self c.ask_term.new.self c.args.caller c.self.invariant.0.one (c.lend.ensures ∙ ap (λ (n : ℕ). let l : Lent (Given g.row.P-Name.Denot g.row.P-Out.Denot g.row.P-In.Denot) g.row.P-Name.Denot g.row.P-Story.Denot = record c.self.inside.lent.desk { caller = n } in l) c.in_ok-by.ensures)
    c.is_of_one_order.ensures c.is_of_one_order-in-Ok.ensures c.in-Ok.ensures.keeps c.root_asks_are_asides.ensures c.in-Ok.reply c.in-Ok.ensures.ok)

where_err : {A E : Type 0} (r : Result A E) (P : Type 0) → P → OnErr r P
where_err (Ok a) P h = tt
where_err (Err e) P h = h

pub returns-in_err-by-clause-err : goal.returns-in_err-by-clause-err
returns-in_err-by-clause-err g c = where_err c.from_residual.result (IsLentOn c.args.self.now c.args.self.now) (record { caller = c.args.self.now.desk.caller; same = refl })

pub invariant_of-self-in-Err : goal.invariant_of-self-in-Err
invariant_of-self-in-Err g c =
    lemmas.lent_core g.P.Pipes.known (core_of c.self.inside.lent.desk c.self.inside.lent.pipes c.self.inside.tale.items c.self.inside.wanted) c.self.inside.closed c.self.inside.drops.items c.ask_term.new.self c.in_ok-by.by (c.in-Err.ensures.err ∙ c.lend.ensures) c.self.invariant
