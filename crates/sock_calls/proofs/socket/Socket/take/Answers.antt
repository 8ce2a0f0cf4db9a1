use Rattle.std.proofs.Common.{◌≡◌, true, false, Option, Some, refl, sym, ap, ◌∙◌, subst, true≢false}
use Rattle.end_table.specs.Others.{Leaves}
use Rattle.sock_core.specs.Has.{holding_in}
use Rattle.sock_core.specs.declared.sock.SockCore.{SockCore}
use Rattle.sock_calls.specs.Calls.{owner_of, holding_of, counts_by, MayJoin, LeavesOthers, HaveDone, RestsThere}
use Rattle.std.specs.Prelude.{IfOk}
use Rattle.end_table.specs.Sound.{Fits}
use Rattle.desk.specs.Coming.{BindsFit}
use Rattle.desk.specs.Desk.{CountsWith, KeepsUp, GivesOrNot, slot_after}
use Rattle.desk.specs.Memory.{NoBindWaits}
use Rattle.end_table.specs.Counting.{counts_of}
use Rattle.sock_calls.specs.Passing.{Passes}
use Rattle.sock_calls.proofs.PassingLemmas.{passes_by}
use Rattle.std.specs.Coded.{Coded-set}
use Rattle.sock_calls.proofs.CallsLemmas.{done_so}
use Rattle.sock_calls.proofs.socket.Socket.take.Goals as goal

pub take_lent-answer-requires-clause-binds : goal.take_lent-answer-requires-clause-binds
take_lent-answer-requires-clause-binds g c =
    let e : c.args.self.now.core ≡ Some c.in-Some.core = sym c.take.ensures.value ∙ c.in-Some.is in
    subst (λ (p : g.row.P.Denot). BindsFit g.P.Pipes.known.out_name g.P.Pipes.known.in_name (g.D.Desk.named c.args.desk.now) (g.D.Desk.coming c.args.desk.now (slot_after c.in-Some.core.number.0 (g.D.Desk.moments c.args.desk.now)).0) (λ h. Fits g.P.Pipes.known p c.in-Some.core.ends.places.items h)) (sym c.replace-lent.ensures.value)
    (subst (λ (s : Option (SockCore _ _ _ _ _)). BindsFit g.P.Pipes.known.out_name g.P.Pipes.known.in_name (g.D.Desk.named c.args.desk.now) (g.D.Desk.coming c.args.desk.now (slot_after (owner_of s) (g.D.Desk.moments c.args.desk.now)).0) (MayJoin g.P.Pipes.known c.args.pipes.now s)) e c.requires.binds)

pub returns-in-Some-clause-ok : goal.returns-in-Some-clause-ok
returns-in-Some-clause-ok g c =
    let e : c.args.self.now.core ≡ Some c.in-Some.core = sym c.take.ensures.value ∙ c.in-Some.is in
    let x = c.take_lent-answer in
    subst (λ (s : Option (SockCore _ _ _ _ _)). IfOk x.result.answer (λ found. GivesOrNot (g.D.Desk.number c.args.desk.now) (slot_after (owner_of s) (g.D.Desk.moments c.args.desk.now)) found (g.D.Desk.moments c.args.desk.now) (g.D.Desk.moments x.new.desk))) (sym e) x.ensures.ok

pub returns-in-Some-clause-has_still : goal.returns-in-Some-clause-has_still
returns-in-Some-clause-has_still g c =
    let e : c.args.self.now.core ≡ Some c.in-Some.core = sym c.take.ensures.value ∙ c.in-Some.is in
    let x = c.take_lent-answer in
    subst (λ (s : Option (SockCore _ _ _ _ _)). KeepsUp (g.D.Desk.number x.new.desk) (g.D.Desk.moments c.args.desk.now) (g.D.Desk.moments x.new.desk) (holding_of g.C.Joins.kind s) (holding_in (g.C.Joins.kind x.result.core.kind) x.result.core)) (sym e) x.ensures.keeps.1

pub returns-in-Some-clause-same : goal.returns-in-Some-clause-same
returns-in-Some-clause-same g c =
    let e : c.args.self.now.core ≡ Some c.in-Some.core = sym c.take.ensures.value ∙ c.in-Some.is in
    (◌∙◌ {b = c.in-Some.core.number.0} (c.take_lent-answer.ensures.others c.replace-lent.result c.in-Some.core (refl, refl)).1 (sym (ap owner_of e)), c.take_lent-answer.ensures.keeps.0)

pub returns-in-Some-clause-others : goal.returns-in-Some-clause-others
returns-in-Some-clause-others g c =
    let e : c.args.self.now.core ≡ Some c.in-Some.core = sym c.take.ensures.value ∙ c.in-Some.is in
    let x = c.take_lent-answer.result in
    subst (λ (s : Option (SockCore _ _ _ _ _)). LeavesOthers g.P.Pipes.known s (Some x.core) c.args.pipes.now x.pipes) (sym e)
    (subst (λ (p : g.row.P.Denot). Leaves g.P.Pipes.known p c.in-Some.core.ends x.pipes x.core.ends) c.replace-lent.ensures.value
    (c.take_lent-answer.ensures.others c.replace-lent.result c.in-Some.core (refl, refl)).0)

pub returns-in-Some-clause-counts : goal.returns-in-Some-clause-counts
returns-in-Some-clause-counts g c =
    let e : c.args.self.now.core ≡ Some c.in-Some.core = sym c.take.ensures.value ∙ c.in-Some.is in
    let x = c.take_lent-answer in
    subst (λ (s : Option (SockCore _ _ _ _ _)). CountsWith g.P.Pipes.known.out_name (counts_by g.P.Pipes.known c.args.pipes.now s) (g.D.Desk.moments c.args.desk.now) (g.D.Desk.moments x.new.desk) (holding_of g.C.Joins.kind s)) (sym e)
    (subst (λ (p : g.row.P.Denot). CountsWith g.P.Pipes.known.out_name (λ d writer. counts_of g.P.Pipes.known p c.in-Some.core.ends d writer) (g.D.Desk.moments c.args.desk.now) (g.D.Desk.moments x.new.desk) (holding_in (g.C.Joins.kind c.in-Some.core.kind) c.in-Some.core)) c.replace-lent.ensures.value x.ensures.counts)

pub returns-in-Some-clause-passes : goal.returns-in-Some-clause-passes
returns-in-Some-clause-passes g c = λ more is.
    let e : c.args.self.now.core ≡ Some c.in-Some.core = sym c.take.ensures.value ∙ c.in-Some.is in
    let x = c.take_lent-answer in
    let J = g.C.Joins in
    subst (λ (s : Option (SockCore _ _ _ _ _)). Passes J.pattern s (Some x.result.core) more) (sym e)
    (passes_by J.pattern J.names J.sound J.peers c.in-Some.core x.result.core more (x.ensures.others c.replace-lent.result c.in-Some.core (refl, refl)).0.places
    (x.ensures.keeps.1.came more is) (x.ensures.keeps.1.turned more is).turns (x.ensures.way c.replace-lent.result c.in-Some.core (refl, refl)))

pub returns-in-Some-clause-does : goal.returns-in-Some-clause-does
returns-in-Some-clause-does g c =
    let e : c.args.self.now.core ≡ Some c.in-Some.core = sym c.take.ensures.value ∙ c.in-Some.is in
    let x = c.take_lent-answer in
    subst (λ (s : Option (SockCore _ _ _ _ _)). HaveDone g.P.Pipes.known false (λ d written read. ⊥) s (Some x.result.core) c.args.pipes.now x.result.pipes) (sym e)
    (subst (λ (p : g.row.P.Denot). HaveDone g.P.Pipes.known false (λ d written read. ⊥) (Some c.in-Some.core) (Some x.result.core) p x.result.pipes) c.replace-lent.ensures.value
    (done_so (Coded-set g.row.P-Name.coded) (Coded-set g.row.P.coded) g.P.Pipes.known false true (λ d written read. ⊥) c.replace-lent.result x.result.pipes c.in-Some.core x.result.core x.result.did.items (λ is. absurd (true≢false (sym is)))
    (x.ensures.does c.replace-lent.result c.in-Some.core (refl, refl)) (x.ensures.came c.replace-lent.result c.in-Some.core (refl, refl)) (λ is. absurd (true≢false (sym is)))))

pub returns-in-Some-clause-rests : goal.returns-in-Some-clause-rests
returns-in-Some-clause-rests g c =
    let e : c.args.self.now.core ≡ Some c.in-Some.core = sym c.take.ensures.value ∙ c.in-Some.is in
    let x = c.take_lent-answer in
    subst (λ (s : Option (SockCore _ _ _ _ _)). RestsThere g.C.Joins.rests s → g.C.Joins.rests x.result.core.kind) (sym e) (x.ensures.rest c.replace-lent.result c.in-Some.core (refl, refl))

pub returns-in-Some-clause-succeeds : goal.returns-in-Some-clause-succeeds
returns-in-Some-clause-succeeds g c = λ b finds none.
    let e : c.args.self.now.core ≡ Some c.in-Some.core = sym c.take.ensures.value ∙ c.in-Some.is in
    c.take_lent-answer.ensures.succeeds b finds (subst (λ (s : Option (SockCore _ _ _ _ _)). NoBindWaits b (slot_after (owner_of s) (g.D.Desk.moments c.args.desk.now)).0) e none)
