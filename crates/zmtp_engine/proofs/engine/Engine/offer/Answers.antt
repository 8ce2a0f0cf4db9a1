use Rattle.std.proofs.Common.{◌≡◌, ℕ, List, None, Some, length, sym, ap, subst, inr, ◌∙◌, arith}
use Rattle.std.specs.Prelude.{IsSome}
use Rattle.zmtp_engine.specs.Listening.{Listening, said_now}
use Rattle.zmtp_engine.specs.StreamView.{listening_of}
use Rattle.zmtp_engine.specs.Output.{Output, begun_run, pieces_of}
use Rattle.zmtp_engine.specs.WriterView.{output_of, later_in}
use Rattle.zmtp_engine.specs.Conversation.{Past, Conversation, Follows, took}
use Rattle.zmtp_engine.proofs.Calls.{begins_as, spent_by, said_brief, talking, some_later, none_sending}
use Rattle.zmtp_engine.proofs.Conversations.{said_long, takes}
use Rattle.zmtp_engine.proofs.engine.Engine.offer.Goals as goal

pub returns-then-is_some-2-clause-exactly : goal.returns-then-is_some-2-clause-exactly
returns-then-is_some-2-clause-exactly c =
    inr (inr (subst (λ (v : Conversation). IsSome v.output.later) c.self.view_is (some_later c.self.inside.writer.sending (sym c.if-is_some-2.ensures))))

pub take_in-requires : goal.take_in-requires
take_in-requires c = record { writer = c.self.invariant.writer; idle = none_sending c.self.inside.writer.sending (sym c.if-is_some-2.ensures) }

pub said-requires : goal.said-requires
said-requires c =
    let p = c.self.invariant.past in
    record { long = said_long p.opts p.heard p.given (listening_of c.self.inside.stream) c.self.invariant.follows.listens }

pub begin-requires : goal.begin-requires
begin-requires c =
    let f = c.self.invariant.follows in
    let n : length c.said.result.now ≡ length (said_now (listening_of c.self.inside.stream)) = ap (λ (x : List ℕ). length x) c.said.ensures in
    let b : (output_of c.take_in.new.self).begun ≡ c.self.inside.writer.begun = ap (λ (o : Output). o.begun) c.take_in.ensures.taken in
    record { writer = c.take_in.ensures.writer; within = omega (arith, n, b, f.within); brief = omega (arith, n, said_brief c.self.invariant.past _ f) }

-- a message that is taken in
taken : (p : Past) (m : List (List ℕ)) (l : Listening) (o mid new : Output) (said : List ℕ) → IsSome l.hearing.peer → o.later ≡ None → Follows p (talking l o) → mid ≡ record o { later = Some (pieces_of m) } → said ≡ said_now l → new ≡ begun_run said mid
    → Follows (took m p) (talking l new)
taken p m l o mid new said some none f is e n =
    begins_as (took m p) l mid new said e n (subst (λ (x : Output). Follows (took m p) (talking l x)) (sym is) (takes p m (talking l o) some none f))

pub invariant_of-self : goal.invariant_of-self
invariant_of-self c =
    let l : Listening = listening_of c.self.inside.stream in
    let o : Output = output_of c.self.inside.writer in
    record {
      room = c.self.invariant.room;
      writer = c.begin.ensures.writer;
      past = took c.args.message c.self.invariant.past;
      follows = taken c.self.invariant.past c.args.message l o (output_of c.take_in.new.self) (output_of c.begin.new.self) c.said.result.now c.if-is_none.ensures
          (ap later_in (none_sending c.self.inside.writer.sending (sym c.if-is_some-2.ensures))) c.self.invariant.follows c.take_in.ensures.taken c.said.ensures c.begin.ensures.begun;
      lends = λ e. spent_by l (output_of c.begin.new.self) c.said.result.now c.said.ensures c.begin.ensures.spent e;
    }

pub returns-clause-answer : goal.returns-clause-answer
returns-clause-answer c = λ p f.
    let l : Listening = listening_of c.self.inside.stream in
    let o : Output = output_of c.self.inside.writer in
    taken p c.args.message l o (output_of c.take_in.new.self) (output_of c.begin.new.self) c.said.result.now c.if-is_none.ensures
    (ap later_in (none_sending c.self.inside.writer.sending (sym c.if-is_some-2.ensures))) (subst (λ (v : Conversation). Follows p v) (sym c.self.view_is) f) c.take_in.ensures.taken c.said.ensures c.begin.ensures.begun

pub returns-clause-lent : goal.returns-clause-lent
returns-clause-lent c =
    let l : Listening = listening_of c.self.inside.stream in
    c.begin.ensures.begun ∙ ap (λ (s : List ℕ). begun_run s (output_of c.take_in.new.self)) c.said.ensures ∙ ap (λ (x : Output). begun_run (said_now l) x) c.take_in.ensures.taken
    ∙ ap (λ (v : Conversation). begun_run (said_now v.listening) (record v.output { later = Some (pieces_of c.args.message) })) c.self.view_is
