use Rattle.std.proofs.Common.{◌≡◌, ℕ, true, false, Option, Some, refl, sym, ap, ◌∙◌, subst}
use Rattle.zq_base.specs.declared.ids.EndId.{EndId}
use Rattle.spec_control.specs.Control.{Control}
use Rattle.desk.specs.Making.{IsMadeFor}
use Rattle.end_table.specs.Others.{Leaves}
use Rattle.sock_core.specs.Has.{holding_in}
use Rattle.sock_core.specs.declared.sock.SockCore.{SockCore}
use Rattle.sock_calls.specs.Calls.{owner_of, holding_of, LeavesOthers, HaveDone, OnlyMake, RestsThere}
use Rattle.std.specs.Prelude.{IfOk}
use Rattle.desk.specs.Coming.{SendsEnds}
use Rattle.desk.specs.Desk.{KeepsUp}
use Rattle.sock_calls.specs.Passing.{Passes}
use Rattle.sock_calls.proofs.PassingLemmas.{passes_by}
use Rattle.std.specs.Coded.{Coded-set}
use Rattle.sock_calls.proofs.CallsLemmas.{done_as, done_so, makes_as, makes_so}
use Rattle.sock_calls.proofs.MakingLemmas.{close_makes_none, none_made}
use Rattle.sock_calls.proofs.socket.Socket.ask.Goals as goal

pub returns-in-Some-clause-keeps : goal.returns-in-Some-clause-keeps
returns-in-Some-clause-keeps g c =
    let e : c.args.self.now.core ≡ Some c.in-Some.core = sym c.take.ensures.value ∙ c.in-Some.is in
    let x = c.ask_lent-answer in (
      x.ensures.keeps.0,
      subst (λ (s : Option (SockCore _ _ _ _ _)). KeepsUp (g.D.Desk.number x.new.desk) (g.D.Desk.moments c.args.desk.now) (g.D.Desk.moments x.new.desk) (holding_of g.C.Joins.kind s) (holding_in (g.C.Joins.kind x.result.core.kind) x.result.core)) (sym e) x.ensures.keeps.1,
    )

pub returns-in-Some-clause-owner : goal.returns-in-Some-clause-owner
returns-in-Some-clause-owner g c =
    let e : c.args.self.now.core ≡ Some c.in-Some.core = sym c.take.ensures.value ∙ c.in-Some.is in
    ◌∙◌ {b = c.in-Some.core.number.0} (c.ask_lent-answer.ensures.others c.replace-lent.result c.in-Some.core (refl, refl)).1 (sym (ap owner_of e))

pub returns-in-Some-clause-others : goal.returns-in-Some-clause-others
returns-in-Some-clause-others g c =
    let e : c.args.self.now.core ≡ Some c.in-Some.core = sym c.take.ensures.value ∙ c.in-Some.is in
    let x = c.ask_lent-answer.result in
    subst (λ (s : Option (SockCore _ _ _ _ _)). LeavesOthers g.P.Pipes.known s (Some x.core) c.args.pipes.now x.pipes) (sym e)
    (subst (λ (p : g.row.P.Denot). Leaves g.P.Pipes.known p c.in-Some.core.ends x.pipes x.core.ends) c.replace-lent.ensures.value
    (c.ask_lent-answer.ensures.others c.replace-lent.result c.in-Some.core (refl, refl)).0)

pub returns-in-Some-clause-passes : goal.returns-in-Some-clause-passes
returns-in-Some-clause-passes g c = λ more is.
    let e : c.args.self.now.core ≡ Some c.in-Some.core = sym c.take.ensures.value ∙ c.in-Some.is in
    let x = c.ask_lent-answer in
    let J = g.C.Joins in
    subst (λ (s : Option (SockCore _ _ _ _ _)). Passes J.pattern s (Some x.result.core) more) (sym e)
    (passes_by J.pattern J.names J.sound J.peers c.in-Some.core x.result.core more (x.ensures.others c.replace-lent.result c.in-Some.core (refl, refl)).0.places
    (x.ensures.keeps.1.came more is) (x.ensures.keeps.1.turned more is).turns (x.ensures.way c.replace-lent.result c.in-Some.core (refl, refl)))

pub returns-in-Some-clause-does : goal.returns-in-Some-clause-does
returns-in-Some-clause-does g c =
    let e : c.args.self.now.core ≡ Some c.in-Some.core = sym c.take.ensures.value ∙ c.in-Some.is in
    let x = c.ask_lent-answer in
    let may = λ (d : EndId) (written read : ℕ). (b : Control) × g.D.Desk.finds c.args.desk.now b × IsMadeFor b c.args.request d written read in
    subst (λ (s : Option (SockCore _ _ _ _ _)). HaveDone g.P.Pipes.known true may s (Some x.result.core) c.args.pipes.now x.result.pipes) (sym e)
    (subst (λ (p : g.row.P.Denot). HaveDone g.P.Pipes.known true may (Some c.in-Some.core) (Some x.result.core) p x.result.pipes) c.replace-lent.ensures.value
    (done_so (Coded-set g.row.P-Name.coded) (Coded-set g.row.P.coded) g.P.Pipes.known true false may c.replace-lent.result x.result.pipes c.in-Some.core x.result.core x.result.did.items (λ is. refl)
    (x.ensures.does c.replace-lent.result c.in-Some.core (refl, refl)) (x.ensures.came c.replace-lent.result c.in-Some.core (refl, refl)) (λ is. x.ensures.tied c.replace-lent.result c.in-Some.core (refl, refl) refl)))

pub ask_lent-answer-requires-clause-makes : goal.ask_lent-answer-requires-clause-makes
ask_lent-answer-requires-clause-makes g c = λ b finds d written read made. (b, finds, made)

pub returns-in-Some-clause-rests : goal.returns-in-Some-clause-rests
returns-in-Some-clause-rests g c =
    let e : c.args.self.now.core ≡ Some c.in-Some.core = sym c.take.ensures.value ∙ c.in-Some.is in
    let x = c.ask_lent-answer in
    subst (λ (s : Option (SockCore _ _ _ _ _)). RestsThere g.C.Joins.rests s → g.C.Joins.rests x.result.core.kind) (sym e) (x.ensures.rest c.replace-lent.result c.in-Some.core (refl, refl))

pub returns-in-Some-clause-closes : goal.returns-in-Some-clause-closes
returns-in-Some-clause-closes g c = λ is.
    let e : c.args.self.now.core ≡ Some c.in-Some.core = sym c.take.ensures.value ∙ c.in-Some.is in
    let x = c.ask_lent-answer in
    let K = g.P.Pipes.known in
    let core = c.in-Some.core in
    let may = λ (d : EndId) (written read : ℕ). (b : Control) × g.D.Desk.finds c.args.desk.now b × IsMadeFor b c.args.request d written read in
    let none = λ (d : EndId) (written read : ℕ). ⊥ in
    let turns = λ (d : EndId) (written read : ℕ) (m : may d written read). none_made m.0 c.args.request d written read (close_makes_none m.0 c.args.request is) m.2 in
    let does = x.ensures.does c.replace-lent.result core (refl, refl) in
    let came = x.ensures.came c.replace-lent.result core (refl, refl) in
    let tied = λ (m : true ≡ true). x.ensures.tied c.replace-lent.result core (refl, refl) refl in
    let n_set = Coded-set g.row.P-Name.coded in
    let s_set = Coded-set g.row.P.coded in
    let done = done_so n_set s_set K true false may c.replace-lent.result x.result.pipes core x.result.core x.result.did.items (λ m. refl) does came tied in
    let only = makes_so n_set s_set K true false may c.replace-lent.result x.result.pipes core x.result.core x.result.did.items (λ m. refl) does came tied (x.ensures.closes is) in
    subst (λ (s : Option (SockCore _ _ _ _ _)). (h : HaveDone K true none s (Some x.result.core) c.args.pipes.now x.result.pipes) × OnlyMake K true none s (Some x.result.core) c.args.pipes.now x.result.pipes h) (sym e)
    (subst (λ (p : g.row.P.Denot). (h : HaveDone K true none (Some core) (Some x.result.core) p x.result.pipes) × OnlyMake K true none (Some core) (Some x.result.core) p x.result.pipes h) c.replace-lent.ensures.value
    (done_as K true may none turns (Some core) (Some x.result.core) c.replace-lent.result x.result.pipes done, makes_as K true may none turns core x.result.core c.replace-lent.result x.result.pipes done only))

pub returns-in-Some-clause-given : goal.returns-in-Some-clause-given
returns-in-Some-clause-given g c =
    let e : c.args.self.now.core ≡ Some c.in-Some.core = sym c.take.ensures.value ∙ c.in-Some.is in
    let x = c.ask_lent-answer in
    subst (λ (s : Option (SockCore _ _ _ _ _)). IfOk x.result.answer (λ _. SendsEnds g.P.Pipes.known x.result.pipes (holding_of g.C.Joins.kind s) c.args.request (g.D.Desk.given c.args.desk.now) (g.D.Desk.given x.new.desk))) (sym e) x.ensures.given
