use Rattle.std.proofs.Common.{◌≡◌, ℕ, List, length, refl, sym, ap, subst, ◌∙◌, arith}
use Rattle.std.specs.Prelude.{IfSome, Ok}
use Rattle.zmtp_engine.specs.Listening.{Listening, refusal_now, said_now}
use Rattle.zmtp_engine.specs.StreamView.{listening_of}
use Rattle.zmtp_engine.specs.Output.{Output, begun_run}
use Rattle.zmtp_engine.specs.WriterView.{output_of}
use Rattle.zmtp_engine.specs.Conversation.{Conversation, Follows}
use Rattle.zmtp_engine.specs.EngineView.{conversation_of}
use Rattle.zmtp_engine.proofs.Calls.{feed_matches, feed_some, begins_as, spent_by, said_brief, talking, if_refused, feeds_nothing}
use Rattle.zmtp_engine.proofs.Conversations.{said_long}
use Rattle.zmtp_engine.proofs.engine.Engine.feed.Goals as goal

pub said-requires : goal.said-requires
said-requires c =
    let p = c.self.invariant.past in
    let k = feed_some c.feed-taken.result p c.args.piece.now (conversation_of c.self.inside) (listening_of c.feed-taken.new.self) c.self.invariant.follows c.feed-taken.ensures.grows (c.feed-taken.ensures.listens p.opts p.heard p.given c.self.invariant.follows.listens) in
    record { long = said_long k.0.opts k.0.heard k.0.given (listening_of c.feed-taken.new.self) k.1.listens }

pub begin-requires : goal.begin-requires
begin-requires c =
    let p = c.self.invariant.past in
    let l : Listening = listening_of c.feed-taken.new.self in
    let k = feed_some c.feed-taken.result p c.args.piece.now (conversation_of c.self.inside) l c.self.invariant.follows c.feed-taken.ensures.grows (c.feed-taken.ensures.listens p.opts p.heard p.given c.self.invariant.follows.listens) in
    let n : length c.said.result.now ≡ length (said_now l) = ap (λ (x : List ℕ). length x) c.said.ensures in
    record { writer = c.self.invariant.writer; within = omega (arith, n, k.1.within); brief = omega (arith, n, said_brief k.0 _ k.1) }

pub invariant_of-self : goal.invariant_of-self
invariant_of-self c =
    let p = c.self.invariant.past in
    let l : Listening = listening_of c.feed-taken.new.self in
    let k = feed_some c.feed-taken.result p c.args.piece.now (conversation_of c.self.inside) l c.self.invariant.follows c.feed-taken.ensures.grows (c.feed-taken.ensures.listens p.opts p.heard p.given c.self.invariant.follows.listens) in
    record {
      room = c.feed-taken.ensures.room;
      writer = c.begin.ensures.writer;
      past = k.0;
      follows = begins_as k.0 l (output_of c.self.inside.writer) (output_of c.begin.new.self) c.said.result.now c.said.ensures c.begin.ensures.begun k.1;
      lends = λ e. spent_by l (output_of c.begin.new.self) c.said.result.now c.said.ensures c.begin.ensures.spent e;
    }

begun_now : (l : Listening) (o new : Output) (said : List ℕ) → said ≡ said_now l → new ≡ begun_run said o → new ≡ begun_run (said_now l) o
begun_now l o new said e is = is ∙ ap (λ (s : List ℕ). begun_run s o) e

pub returns-clause-follows : goal.returns-clause-follows
returns-clause-follows c = λ p f.
    let g : Follows p (conversation_of c.self.inside) = subst (λ (v : Conversation). Follows p v) (sym c.self.view_is) f in
    let l : Listening = listening_of c.feed-taken.new.self in
    feed_matches c.feed-taken.result p c.args.piece.now (conversation_of c.self.inside) l (output_of c.begin.new.self) g c.feed-taken.ensures.grows
    (begun_now l (output_of c.self.inside.writer) (output_of c.begin.new.self) c.said.result.now c.said.ensures c.begin.ensures.begun) (c.feed-taken.ensures.listens p.opts p.heard p.given g.listens)

pub returns-clause-breaks : goal.returns-clause-breaks
returns-clause-breaks c = λ p f none some.
    let g : Follows p (conversation_of c.self.inside) = subst (λ (v : Conversation). Follows p v) (sym c.self.view_is) f in
    c.feed-taken.ensures.breaks p.opts p.heard p.given g.listens (ap (λ (v : Conversation). refusal_now v.listening) c.self.view_is ∙ none) some

pub returns-clause-refused : goal.returns-clause-refused
returns-clause-refused c =
    let old : Conversation = conversation_of c.self.inside in
    let l : Listening = listening_of c.feed-taken.new.self in
    subst (λ (v : Conversation). IfSome (refusal_now v.listening) (λ _. (c.feed-taken.result ≡ Ok 0) × (talking l (output_of c.begin.new.self) ≡ v))) c.self.view_is
    (if_refused (refusal_now old.listening) _ _
    (λ r. (r.0, feeds_nothing l old.listening (output_of c.self.inside.writer) (output_of c.begin.new.self) c.said.result.now old c.self.invariant.follows.within c.self.invariant.lends refl r.1 c.said.ensures c.begin.ensures.begun))
    c.feed-taken.ensures.refused)

pub returns-clause-lent : goal.returns-clause-lent
returns-clause-lent c =
    let l : Listening = listening_of c.feed-taken.new.self in
    begun_now l (output_of c.self.inside.writer) (output_of c.begin.new.self) c.said.result.now c.said.ensures c.begin.ensures.begun ∙ ap (λ (v : Conversation). begun_run (said_now l) v.output) c.self.view_is
