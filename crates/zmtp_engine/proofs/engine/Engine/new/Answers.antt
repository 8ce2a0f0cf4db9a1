use Rattle.std.proofs.Common.{◌≡◌, ℕ, [], List, length, sym, ap, subst, arith}
use Rattle.zmtp_engine.specs.Listening.{Listening, said_now}
use Rattle.zmtp_engine.specs.StreamView.{listening_of}
use Rattle.zmtp_engine.specs.Output.{Output}
use Rattle.zmtp_engine.specs.WriterView.{output_of}
use Rattle.zmtp_engine.specs.Conversation.{Follows, no_past}
use Rattle.zmtp_engine.proofs.Calls.{begins_past, begins_as, spent_by, said_brief, talking}
use Rattle.zmtp_engine.proofs.Conversations.{said_long}
use Rattle.zmtp_engine.proofs.engine.Engine.new.Goals as goal

pub said-requires : goal.said-requires
said-requires c = record { long = said_long c.args.opts [] [] (listening_of c.in_ok-stream.stream) c.in_ok-stream.ensures.listens }

pub begin-requires : goal.begin-requires
begin-requires c =
    let l : Listening = listening_of c.in_ok-stream.stream in
    let f = begins_past c.args.opts l c.requires.opts c.in_ok-stream.ensures.listens c.in_ok-stream.ensures.settled in
    let n : length c.said.result.now ≡ length (said_now l) = ap (λ (x : List ℕ). length x) c.said.ensures in
    record {
      writer = c.in_ok-writer.ensures.writer;
      within = omega (arith, ap (λ (o : Output). o.begun) c.in_ok-writer.ensures.none);
      brief = omega (arith, n, said_brief (no_past c.args.opts) _ f);
    }

pub invariant_of-result : goal.invariant_of-result
invariant_of-result c =
    let l : Listening = listening_of c.in_ok-stream.stream in
    let f = begins_past c.args.opts l c.requires.opts c.in_ok-stream.ensures.listens c.in_ok-stream.ensures.settled in
    let g : Follows (no_past c.args.opts) (talking l (output_of c.in_ok-writer.writer)) = subst (λ (o : Output). Follows (no_past c.args.opts) (talking l o)) (sym c.in_ok-writer.ensures.none) f in
    record {
      room = c.in_ok-stream.ensures.room;
      writer = c.begin.ensures.writer;
      past = no_past c.args.opts;
      follows = begins_as (no_past c.args.opts) l (output_of c.in_ok-writer.writer) (output_of c.begin.new.self) c.said.result.now c.said.ensures c.begin.ensures.begun g;
      lends = λ e. spent_by l (output_of c.begin.new.self) c.said.result.now c.said.ensures c.begin.ensures.spent e;
    }

pub returns-clause-follows : goal.returns-clause-follows
returns-clause-follows c =
    let l : Listening = listening_of c.in_ok-stream.stream in
    let f = begins_past c.args.opts l c.requires.opts c.in_ok-stream.ensures.listens c.in_ok-stream.ensures.settled in
    let g : Follows (no_past c.args.opts) (talking l (output_of c.in_ok-writer.writer)) = subst (λ (o : Output). Follows (no_past c.args.opts) (talking l o)) (sym c.in_ok-writer.ensures.none) f in
    begins_as (no_past c.args.opts) l (output_of c.in_ok-writer.writer) (output_of c.begin.new.self) c.said.result.now c.said.ensures c.begin.ensures.begun g
