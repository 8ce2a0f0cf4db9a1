use Rattle.std.proofs.Common.{◌≡◌, ℕ, ◌≤◌, List, length, take, drop, sym, ap, subst, ◌∙◌, arith}
use Rattle.zmtp_engine.specs.Listening.{Listening, said_now}
use Rattle.zmtp_engine.specs.StreamView.{listening_of}
use Rattle.zmtp_engine.specs.Output.{Output, begun_run}
use Rattle.zmtp_engine.specs.WriterView.{output_of}
use Rattle.zmtp_engine.specs.Conversation.{Past, Conversation, Follows, wrote, lent}
use Rattle.zmtp_engine.proofs.Calls.{begins_as, spent_by, said_brief, talking}
use Rattle.zmtp_engine.proofs.Conversations.{said_long, writes}
use Rattle.zmtp_engine.proofs.engine.Engine.wrote.Goals as goal

pub wrote-requires : goal.wrote-requires
wrote-requires c = record { writer = c.self.invariant.writer; within = subst (λ (v : Conversation). c.args.n ≤ length (lent v)) (sym c.self.view_is) c.requires.within }

pub said-requires : goal.said-requires
said-requires c =
    let p = c.self.invariant.past in
    record { long = said_long p.opts p.heard p.given (listening_of c.self.inside.stream) c.self.invariant.follows.listens }

pub begin-requires : goal.begin-requires
begin-requires c =
    let f = c.self.invariant.follows in
    let n : length c.said.result.now ≡ length (said_now (listening_of c.self.inside.stream)) = ap (λ (x : List ℕ). length x) c.said.ensures in
    let b : (output_of c.wrote.new.self).begun ≡ c.self.inside.writer.begun = ap (λ (o : Output). o.begun) c.wrote.ensures.written in
    record { writer = c.wrote.ensures.writer; within = omega (arith, n, b, f.within); brief = omega (arith, n, said_brief c.self.invariant.past _ f) }

-- octets that are written
written : (p : Past) (n : ℕ) (l : Listening) (o mid new : Output) (said : List ℕ) → Follows p (talking l o) → mid ≡ record o { run = drop n o.run } → said ≡ said_now l → new ≡ begun_run said mid
    → Follows (wrote (take n o.run) p) (talking l new)
written p n l o mid new said f is e k =
    begins_as (wrote (take n o.run) p) l mid new said e k (subst (λ (x : Output). Follows (wrote (take n o.run) p) (talking l x)) (sym is) (writes p n (talking l o) f))

pub invariant_of-self : goal.invariant_of-self
invariant_of-self c =
    let l : Listening = listening_of c.self.inside.stream in
    let o : Output = output_of c.self.inside.writer in
    record {
      room = c.self.invariant.room;
      writer = c.begin.ensures.writer;
      past = wrote (take c.args.n o.run) c.self.invariant.past;
      follows = written c.self.invariant.past c.args.n l o (output_of c.wrote.new.self) (output_of c.begin.new.self) c.said.result.now c.self.invariant.follows c.wrote.ensures.written c.said.ensures c.begin.ensures.begun;
      lends = λ e. spent_by l (output_of c.begin.new.self) c.said.result.now c.said.ensures c.begin.ensures.spent e;
    }

pub returns-clause-follows : goal.returns-clause-follows
returns-clause-follows c = λ p f.
    let l : Listening = listening_of c.self.inside.stream in
    let o : Output = output_of c.self.inside.writer in
    subst (λ (v : Conversation). Follows (wrote (take c.args.n (lent v)) p) (talking l (output_of c.begin.new.self))) c.self.view_is
    (written p c.args.n l o (output_of c.wrote.new.self) (output_of c.begin.new.self) c.said.result.now (subst (λ (v : Conversation). Follows p v) (sym c.self.view_is) f) c.wrote.ensures.written c.said.ensures c.begin.ensures.begun)

pub returns-clause-lent : goal.returns-clause-lent
returns-clause-lent c =
    let l : Listening = listening_of c.self.inside.stream in
    c.begin.ensures.begun ∙ ap (λ (s : List ℕ). begun_run s (output_of c.wrote.new.self)) c.said.ensures ∙ ap (λ (x : Output). begun_run (said_now l) x) c.wrote.ensures.written
    ∙ ap (λ (v : Conversation). begun_run (said_now v.listening) (record v.output { run = drop c.args.n (lent v) })) c.self.view_is
