use Rattle.std.proofs.Common.{◌≡◌, None, refl, ap, true≢false}
use Rattle.std.proofs.lemmas.Bool.{false≢true}
use Rattle.std.specs.Prelude.{Some}
use Rattle.spec_link.specs.LinkAct.{HostAnswer, Linked, NotReady, Failed}
use Rattle.spec_link.specs.Listening.{with_failure}
use Rattle.zq_session.specs.Accepts.{ListenerState}
use Rattle.zq_session.proofs.listener.Listener.turn.Goals as goal

-- answers differ
linked_failed : {X : Type 0} → Some Linked ≡ Some Failed → X
linked_failed e = absurd cc

linked_stalled : {X : Type 0} → Some Linked ≡ Some NotReady → X
linked_stalled e = absurd cc

stalled_linked : {X : Type 0} → Some NotReady ≡ Some Linked → X
stalled_linked e = absurd cc

stalled_failed : {X : Type 0} → Some NotReady ≡ Some Failed → X
stalled_failed e = absurd cc

failed_linked : {X : Type 0} → Some Failed ≡ Some Linked → X
failed_linked e = absurd cc

failed_stalled : {X : Type 0} → Some Failed ≡ Some NotReady → X
failed_stalled e = absurd cc

some_none : {X : Type 0} {a : HostAnswer} → Some a ≡ None → X
some_none e = absurd cc

pub returns-in-Linked-clause-accepts : goal.returns-in-Linked-clause-accepts
returns-in-Linked-clause-accepts g c = record {
  answer = Some Linked;
  turn = c.may_accept.ensures.yes c.if-not-may_accept.false;
  after = refl;
  linked = λ _. refl;
  idle = λ e. absurd (true≢false e);
  failed = record { kept = c.in-Linked.ensures.faults.kept; rose = λ e. linked_failed e };
  stalled = record { kept = c.in-Linked.ensures.stalls.kept; rose = λ e. linked_stalled e };
  alone = λ e. some_none e;
}

pub returns-in-NotReady-clause-accepts : goal.returns-in-NotReady-clause-accepts
returns-in-NotReady-clause-accepts g c = record {
  answer = Some NotReady;
  turn = c.may_accept.ensures.yes c.if-not-may_accept.false;
  after = refl;
  linked = λ e. absurd (false≢true e);
  idle = λ _ e. stalled_linked e;
  failed = record { kept = c.in-NotReady.ensures.faults.kept; rose = λ e. stalled_failed e };
  stalled = record { kept = c.in-NotReady.ensures.stalls.kept; rose = λ _. c.in-NotReady.ensures.stalls.rose refl };
  alone = λ e. some_none e;
}

pub returns-in-Failed-clause-accepts : goal.returns-in-Failed-clause-accepts
returns-in-Failed-clause-accepts g c = record {
  answer = Some Failed;
  turn = c.may_accept.ensures.yes c.if-not-may_accept.false;
  after = ap (λ (l : ListenerState). with_failure l.standing) c.self.view_is;
  linked = λ e. absurd (false≢true e);
  idle = λ _ e. failed_linked e;
  failed = record { kept = c.in-Failed.ensures.faults.kept; rose = λ _. c.in-Failed.ensures.faults.rose refl };
  stalled = record { kept = c.in-Failed.ensures.stalls.kept; rose = λ e. failed_stalled e };
  alone = λ e. some_none e;
}
