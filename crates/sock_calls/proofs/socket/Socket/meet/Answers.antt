use Rattle.std.proofs.Common.{◌≡◌, true, false, Option, Some, refl, sym, ap, ◌∙◌, subst, true≢false}
use Rattle.spec_control.specs.Moments.{left_after}
use Rattle.spec_control.specs.Control.{place_of}
use Rattle.spec_control.specs.Place.{looks}
use Rattle.end_table.specs.Others.{Leaves}
use Rattle.sock_core.specs.Has.{holding_in}
use Rattle.sock_core.specs.declared.sock.SockCore.{SockCore}
use Rattle.sock_calls.specs.Calls.{owner_of, holding_of, LeavesOthers, HaveDone, RestsThere}
use Rattle.desk.specs.Desk.{KeepsUp}
use Rattle.sock_calls.specs.Passing.{Passes}
use Rattle.sock_calls.proofs.PassingLemmas.{passes_by}
use Rattle.std.specs.Coded.{Coded-set}
use Rattle.sock_calls.proofs.CallsLemmas.{done_so}
use Rattle.sock_calls.proofs.socket.Socket.meet.Goals as goal

pub returns-in-Some-clause-has_still : goal.returns-in-Some-clause-has_still
returns-in-Some-clause-has_still g c =
    let e : c.args.self.now.core ≡ Some c.in-Some.core = sym c.take.ensures.value ∙ c.in-Some.is in
    let x = c.meet_lent-answer in
    subst (λ (s : Option (SockCore _ _ _ _ _)). KeepsUp (g.D.Desk.number x.new.desk) (g.D.Desk.moments c.args.desk.now) (g.D.Desk.moments x.new.desk) (holding_of g.C.Joins.kind s) (holding_in (g.C.Joins.kind x.result.core.kind) x.result.core)) (sym e) x.ensures.keeps.1

pub returns-in-Some-clause-same : goal.returns-in-Some-clause-same
returns-in-Some-clause-same g c =
    let e : c.args.self.now.core ≡ Some c.in-Some.core = sym c.take.ensures.value ∙ c.in-Some.is in
    (◌∙◌ {b = c.in-Some.core.number.0} (c.meet_lent-answer.ensures.others c.replace-lent.result c.in-Some.core (refl, refl)).1 (sym (ap owner_of e)), c.meet_lent-answer.ensures.keeps.0)

pub returns-in-Some-clause-others : goal.returns-in-Some-clause-others
returns-in-Some-clause-others g c =
    let e : c.args.self.now.core ≡ Some c.in-Some.core = sym c.take.ensures.value ∙ c.in-Some.is in
    let x = c.meet_lent-answer.result in
    subst (λ (s : Option (SockCore _ _ _ _ _)). LeavesOthers g.P.Pipes.known s (Some x.core) c.args.pipes.now x.pipes) (sym e)
    (subst (λ (p : g.row.P.Denot). Leaves g.P.Pipes.known p c.in-Some.core.ends x.pipes x.core.ends) c.replace-lent.ensures.value
    (c.meet_lent-answer.ensures.others c.replace-lent.result c.in-Some.core (refl, refl)).0)

pub returns-in-Some-clause-passes : goal.returns-in-Some-clause-passes
returns-in-Some-clause-passes g c = λ more is.
    let e : c.args.self.now.core ≡ Some c.in-Some.core = sym c.take.ensures.value ∙ c.in-Some.is in
    let x = c.meet_lent-answer in
    let J = g.C.Joins in
    subst (λ (s : Option (SockCore _ _ _ _ _)). Passes J.pattern s (Some x.result.core) more) (sym e)
    (passes_by J.pattern J.names J.sound J.peers c.in-Some.core x.result.core more (x.ensures.others c.replace-lent.result c.in-Some.core (refl, refl)).0.places
    (x.ensures.keeps.1.came more is) (x.ensures.keeps.1.turned more is).turns (x.ensures.way c.replace-lent.result c.in-Some.core (refl, refl)))

pub returns-in-Some-clause-not_looked : goal.returns-in-Some-clause-not_looked
returns-in-Some-clause-not_looked g c = λ none.
    let e : c.args.self.now.core ≡ Some c.in-Some.core = sym c.take.ensures.value ∙ c.in-Some.is in
    subst (λ (s : Option (SockCore _ _ _ _ _)). looks (place_of (left_after (owner_of s) (g.D.Desk.moments c.args.desk.now)) c.args.end) ≡ false) (sym e) (c.meet_lent-answer.ensures.not_looked none)

pub returns-in-Some-clause-does : goal.returns-in-Some-clause-does
returns-in-Some-clause-does g c =
    let e : c.args.self.now.core ≡ Some c.in-Some.core = sym c.take.ensures.value ∙ c.in-Some.is in
    let x = c.meet_lent-answer in
    subst (λ (s : Option (SockCore _ _ _ _ _)). HaveDone g.P.Pipes.known false (λ d written read. ⊥) s (Some x.result.core) c.args.pipes.now x.result.pipes) (sym e)
    (subst (λ (p : g.row.P.Denot). HaveDone g.P.Pipes.known false (λ d written read. ⊥) (Some c.in-Some.core) (Some x.result.core) p x.result.pipes) c.replace-lent.ensures.value
    (done_so (Coded-set g.row.P-Name.coded) (Coded-set g.row.P.coded) g.P.Pipes.known false true (λ d written read. ⊥) c.replace-lent.result x.result.pipes c.in-Some.core x.result.core x.result.did.items (λ is. absurd (true≢false (sym is)))
    (x.ensures.does c.replace-lent.result c.in-Some.core (refl, refl)) (x.ensures.came c.replace-lent.result c.in-Some.core (refl, refl)) (λ is. absurd (true≢false (sym is)))))

pub returns-in-Some-clause-rests : goal.returns-in-Some-clause-rests
returns-in-Some-clause-rests g c =
    let e : c.args.self.now.core ≡ Some c.in-Some.core = sym c.take.ensures.value ∙ c.in-Some.is in
    let x = c.meet_lent-answer in
    subst (λ (s : Option (SockCore _ _ _ _ _)). RestsThere g.C.Joins.rests s → g.C.Joins.rests x.result.core.kind) (sym e) (x.ensures.rest c.replace-lent.result c.in-Some.core (refl, refl))
