use Rattle.std.specs.Prelude.{◌++◌, ℕ, List, refl}
use Rattle.std.proofs.Common.{ap, ◌∙◌, subst}
use Rattle.desk.specs.declared.given.Given.{Given}
use Rattle.plain_desk.specs.Lent.{Lent}
use Rattle.zq_world.specs.declared.marks.PieceMark.{PieceMark}
use Rattle.zq_world.specs.CoreCalls.{LooksOnce}
use Rattle.plain_core.specs.Sound.{Core, core_of, pieces_in}
use Rattle.zq_world.specs.Way.{KeepsAll}
use Rattle.plain_core.specs.Agreeing.{was_made, Agrees}
use Rattle.plain_core.proofs.KeepLemmas.{keeps_all, keeps_same}
use Rattle.plain_core.proofs.LeaveLemmas.{look_leaves}
use Rattle.plain_core.proofs.SoundLemmas as lemmas
use Rattle.plain_core.proofs.context.OneCore.look.Goals as goal

pub invariant_of-self : goal.invariant_of-self
invariant_of-self g c =
    lemmas.look_sound g.P.Pipes.known c.asides_go_on.ensures c.tales_go_on.ensures (core_of c.self.inside.lent.desk c.self.inside.lent.pipes c.self.inside.tale.items c.self.inside.wanted) c.lend.new.self c.look_around-sight.new.self c.args.caller
    c.self.invariant.0 (c.lend.ensures ∙ ap (λ (n : ℕ). let l : Lent (Given g.row.P-Name.Denot g.row.P-Out.Denot g.row.P-In.Denot) g.row.P-Name.Denot g.row.P-Story.Denot = record c.self.inside.lent.desk { caller = n } in l) c.in_ok-by.ensures) c.is_of_one_order-2.ensures c.is_of_one_order.ensures c.look_around-sight.ensures.keeps c.and-self-inside.result.items
    (c.and-self-inside.ensures.behind ∙ ap (λ (ms : List PieceMark). c.self.inside.tale.items ++ ms) c.and-self-inside.ensures.so)
    c.looks_are_asides.ensures c.look_around-sight.result c.look_around-sight.ensures.sees c.self.inside.closed c.self.inside.drops.items c.self.invariant.1

pub returns-clause-ok : goal.returns-clause-ok
returns-clause-ok g c =
    let once = lemmas.look_once g.P.Pipes.known c.asides_go_on.ensures c.tales_go_on.ensures (core_of c.self.inside.lent.desk c.self.inside.lent.pipes c.self.inside.tale.items c.self.inside.wanted) c.lend.new.self c.look_around-sight.new.self c.args.caller
    c.self.invariant.0 (c.lend.ensures ∙ ap (λ (n : ℕ). let l : Lent (Given g.row.P-Name.Denot g.row.P-Out.Denot g.row.P-In.Denot) g.row.P-Name.Denot g.row.P-Story.Denot = record c.self.inside.lent.desk { caller = n } in l) c.in_ok-by.ensures) c.is_of_one_order-2.ensures c.is_of_one_order.ensures c.look_around-sight.ensures.keeps c.and-self-inside.result.items
    (c.and-self-inside.ensures.behind ∙ ap (λ (ms : List PieceMark). c.self.inside.tale.items ++ ms) c.and-self-inside.ensures.so)
    c.looks_are_asides.ensures c.look_around-sight.result c.look_around-sight.ensures.sees in
    subst (λ (w : Core g.row.P.Denot (Given g.row.P-Name.Denot g.row.P-Out.Denot g.row.P-In.Denot) g.row.P-Name.Denot g.row.P-Story.Denot). LooksOnce c.args.caller c.look_around-sight.result.root (pieces_in w)
    (pieces_in (core_of c.look_around-sight.new.self c.self.inside.lent.pipes c.and-self-inside.result.items c.self.inside.wanted))) c.self.view_is once

pub returns-clause-keeps : goal.returns-clause-keeps
returns-clause-keeps g c =
    let v : Core g.row.P.Denot (Given g.row.P-Name.Denot g.row.P-Out.Denot g.row.P-In.Denot) g.row.P-Name.Denot g.row.P-Story.Denot = core_of c.self.inside.lent.desk c.self.inside.lent.pipes c.self.inside.tale.items c.self.inside.wanted in
    let now : Core g.row.P.Denot (Given g.row.P-Name.Denot g.row.P-Out.Denot g.row.P-In.Denot) g.row.P-Name.Denot g.row.P-Story.Denot = core_of c.look_around-sight.new.self c.self.inside.lent.pipes c.and-self-inside.result.items c.self.inside.wanted in
    subst (λ (w : Core g.row.P.Denot (Given g.row.P-Name.Denot g.row.P-Out.Denot g.row.P-In.Denot) g.row.P-Name.Denot g.row.P-Story.Denot). KeepsAll (Agrees g.row.P-Waker.Denot g.P.Pipes.known) was_made w now) c.self.view_is
    (keeps_all g.row.P-Waker.Denot g.P.Pipes.known c.args.caller v now refl refl
    (look_leaves v c.lend.new.self c.look_around-sight.new.self c.args.caller c.self.invariant.0.one (c.lend.ensures ∙ ap (λ (n : ℕ). let l : Lent (Given g.row.P-Name.Denot g.row.P-Out.Denot g.row.P-In.Denot) g.row.P-Name.Denot g.row.P-Story.Denot = record c.self.inside.lent.desk { caller = n } in l) c.in_ok-by.ensures)
    c.is_of_one_order.ensures c.is_of_one_order-2.ensures c.look_around-sight.ensures.keeps c.looks_are_asides.ensures c.look_around-sight.result c.look_around-sight.ensures.sees))

pub returns-in_err-by-clause-keeps : goal.returns-in_err-by-clause-keeps
returns-in_err-by-clause-keeps g c = keeps_same g.row.P-Waker.Denot g.P.Pipes.known c.args.self.now c.args.self.now refl
