-- What two states that are the same but for counts have alike: replies, joins, and what holders answered.
use Rattle.std.specs.Prelude.{◌≡◌, ◌+◌, ℕ, false, List, [], ◌∷◌, Option, Some, None, cond, is_some, map, refl}
use Rattle.std.proofs.Common.{sym, ap, ◌∙◌, subst}
use Rattle.zq_base.specs.declared.ids.Settled.{Settled}
use Rattle.zq_base.specs.declared.ids.EndId.{EndId}
use Rattle.zq_base.specs.declared.attached.Attached.{Attached}
use Rattle.zq_base.specs.declared.endpoint.Endpoint.TheVariants.{Inproc, Tcp}
use Rattle.spec_pattern.specs.Pattern.{Pattern, attach_answer, attach_as}
use Rattle.spec_control.specs.declared.book.Binding.{Binding}
use Rattle.spec_control.specs.declared.book.Waiting.{Waiting}
use Rattle.spec_control.specs.declared.letter.Word.{Word}
use Rattle.spec_control.specs.declared.letter.Word.TheVariants.{Own, Plug, TermReq, Term, TermAck, PipeBind, PipeTerm, PipeTermAck, Stop, Reap}
use Rattle.spec_control.specs.declared.request.Req.{Req}
use Rattle.spec_control.specs.declared.request.Req.TheVariants.{Socket as MakeSocket, AskTerm, Bind, Connect, Unbind, Disconnect, Close, Accepted, Shaken, AskEnd, AskOver, OutputOver}
use Rattle.spec_control.specs.declared.entry.Joining.{Joining}
use Rattle.spec_control.specs.Register.{fulfilled_by}
use Rattle.spec_control.specs.Control.{Control, is_end, end_of, next_pair}
use Rattle.spec_control.specs.After.{kind_answer, binding_by}
use Rattle.spec_control.specs.Reply.{reply_of, connect_reply_at}
use Rattle.spec_control.specs.ControlRun.{Joins, attaches, identity_of, bind_joins, connect_joins, request_joins, word_joins, Settles}
use Rattle.spec_run.specs.OpenSocket.{attach_all, AreAnswered}
use Rattle.replay_laws.specs.Blank.{blank}

-- ---- replies
connect_reply_blank : (i : ℕ) (held : Option Binding) (c : Control) → connect_reply_at i held (blank c) ≡ connect_reply_at i held c
connect_reply_blank i None c = refl
connect_reply_blank i (Some binding) c = refl

reply_blank : (req : Req) (c : Control) → reply_of (blank c) req ≡ reply_of c req
reply_blank (MakeSocket kind options) c = refl
reply_blank AskTerm c = refl
reply_blank (Bind o (Inproc name)) c = refl
reply_blank (Bind o (Tcp address)) c = refl
reply_blank (Connect o (Inproc name)) c = ap (λ r. Rattle.spec_control.specs.Reply.before_term c r) (connect_reply_blank o.0 (c.names.held (Inproc name)) c)
reply_blank (Connect o (Tcp address)) c = refl
reply_blank (Unbind o at) c = refl
reply_blank (Disconnect o at) c = refl
reply_blank (Close o) c = refl
reply_blank (Accepted o) c = refl
reply_blank (Shaken o peer) c = refl
reply_blank (AskEnd e reason) c = refl
reply_blank (AskOver o) c = refl
reply_blank (OutputOver o) c = refl

pub replies_alike : (req : Req) (c d : Control) → blank c ≡ blank d → reply_of c req ≡ reply_of d req
replies_alike req c d e = sym (reply_blank req c) ∙ ap (λ (x : Control). reply_of x req) e ∙ reply_blank req d

-- ---- which ends join
bind_joins_blank : (c : Control) (k : ℕ) (ws : List Waiting) → bind_joins (blank c) k ws ≡ bind_joins c k ws
bind_joins_blank c k [] = refl
bind_joins_blank c k (w ∷ ws) = ap (λ l. attaches (end_of k false) (identity_of c w.waiter.0) ∷ l) (bind_joins_blank c (k + 1) ws)

connect_joins_blank : (c : Control) (held : Option Binding) → connect_joins (blank c) held ≡ connect_joins c held
connect_joins_blank c None = refl
connect_joins_blank c (Some binding) = refl

request_joins_blank : (req : Req) (c : Control) → request_joins (blank c) req ≡ request_joins c req
request_joins_blank (MakeSocket kind options) c = refl
request_joins_blank AskTerm c = refl
request_joins_blank (Bind o (Inproc name)) c = bind_joins_blank c (next_pair c) (fulfilled_by (Inproc name) (binding_by o.0 c) c.names)
request_joins_blank (Bind o (Tcp address)) c = refl
request_joins_blank (Connect o (Inproc name)) c = connect_joins_blank c (c.names.held (Inproc name))
request_joins_blank (Connect o (Tcp address)) c = refl
request_joins_blank (Unbind o at) c = refl
request_joins_blank (Disconnect o at) c = refl
request_joins_blank (Close o) c = refl
request_joins_blank (Accepted o) c = refl
request_joins_blank (Shaken o peer) c = refl
request_joins_blank (AskEnd e reason) c = refl
request_joins_blank (AskOver o) c = refl
request_joins_blank (OutputOver o) c = refl

pub request_joins_alike : (req : Req) (c d : Control) → blank c ≡ blank d → request_joins c req ≡ request_joins d req
request_joins_alike req c d e = sym (request_joins_blank req c) ∙ ap (λ (x : Control). request_joins x req) e ∙ request_joins_blank req d

word_joins_blank : (word : Word) (c : Control) → word_joins (blank c) word ≡ word_joins c word
word_joins_blank (Own child) c = refl
word_joins_blank (Plug None) c = refl
word_joins_blank (Plug (Some e)) c = refl
word_joins_blank (TermReq child) c = refl
word_joins_blank Term c = refl
word_joins_blank (TermAck child) c = refl
word_joins_blank (PipeBind e peer) c = refl
word_joins_blank (PipeTerm e) c = refl
word_joins_blank (PipeTermAck e) c = refl
word_joins_blank Stop c = refl
word_joins_blank (Reap socket) c = refl

pub word_joins_alike : (word : Word) (c d : Control) → blank c ≡ blank d → word_joins c word ≡ word_joins d word
word_joins_alike word c d e = sym (word_joins_blank word c) ∙ ap (λ (x : Control). word_joins x word) e ∙ word_joins_blank word d

-- ---- whether a pipe is settled
pub settled_alike : (word : Word) (c d : Control) (x y : Option Settled) → Settles c word x → Settles d word y → is_some x ≡ is_some y
settled_alike (PipeTermAck e) c d None y g h = absurd g
settled_alike (PipeTermAck e) c d (Some x) None g h = absurd h
settled_alike (PipeTermAck e) c d (Some x) (Some y) g h = refl
settled_alike (Own child) c d x y g h = ap is_some (g ∙ sym h)
settled_alike (Plug end) c d x y g h = ap is_some (g ∙ sym h)
settled_alike (TermReq child) c d x y g h = ap is_some (g ∙ sym h)
settled_alike Term c d x y g h = ap is_some (g ∙ sym h)
settled_alike (TermAck child) c d x y g h = ap is_some (g ∙ sym h)
settled_alike (PipeBind e peer) c d x y g h = ap is_some (g ∙ sym h)
settled_alike (PipeTerm e) c d x y g h = ap is_some (g ∙ sym h)
settled_alike Stop c d x y g h = ap is_some (g ∙ sym h)
settled_alike (Reap socket) c d x y g h = ap is_some (g ∙ sym h)

-- ---- what a kind answers
module _ {N : Type 0} where
  -- an end that joins, as its event has it
  abbrev pub as_joins : Joining N → Joins
  as_joins j = record { end = j.end; peer = j.peer; met = j.met }

  -- what a holder answered to the ends that joined
  pub record Told (js ks : List (Joining N)) : Type 0 where
    pub ends : map (λ j. j.end) js ≡ map (λ j. j.end) ks
    pub answers : map (λ j. j.answer) js ≡ map (λ j. j.answer) ks

  pub same_kinds : (js ks : List (Joining N)) → Told js ks → (e : EndId) → kind_answer js e ≡ kind_answer ks e
  same_kinds [] [] told e = refl
  same_kinds [] (k ∷ ks) told e = let f = told.ends in cc
  same_kinds (j ∷ js) [] told e = let f = told.ends in cc
  same_kinds (j ∷ js) (k ∷ ks) told e =
      let ends = told.ends in
      let answers = told.answers in
      let end : ◌≡◌ {A = EndId} j.end k.end = cc in
      let answer : ◌≡◌ {A = Attached} j.answer k.answer = cc in
      let rest = same_kinds js ks (record { ends = cc; answers = cc }) e in
      λ i. cond (is_end e (end i)) (answer i) (rest i)

  -- where each is answered as its kind answers, from the same state
  pub record Alike (js ks : List (Joining N)) (p : Pattern) : Type 0 where
    pub told : Told js ks
    pub pattern : attach_all js p ≡ attach_all ks p

  pub same_answers : (js ks : List (Joining N)) (p : Pattern) → map as_joins js ≡ map as_joins ks → AreAnswered js p → AreAnswered ks p → Alike js ks p
  same_answers [] [] p e g h = record { told = record { ends = refl; answers = refl }; pattern = refl }
  same_answers [] (k ∷ ks) p e g h = absurd (nope e)
    where
      nope : ◌≡◌ {A = List Joins} [] (as_joins k ∷ map as_joins ks) → ⊥
      nope f = cc
  same_answers (j ∷ js) [] p e g h = absurd (nope e)
    where
      nope : ◌≡◌ {A = List Joins} (as_joins j ∷ map as_joins js) [] → ⊥
      nope f = cc
  same_answers (j ∷ js) (k ∷ ks) p e g h =
      let head : ◌≡◌ {A = Joins} (as_joins j) (as_joins k) = cc in
      let tail : map as_joins js ≡ map as_joins ks = cc in
      let end : ◌≡◌ {A = EndId} j.end k.end = ap (λ (x : Joins). x.end) head in
      let peer : ◌≡◌ {A = List ℕ} j.peer k.peer = ap (λ (x : Joins). x.peer) head in
      let answer : ◌≡◌ {A = Attached} j.answer k.answer = g.0 ∙ ap (λ x. attach_answer x p) peer ∙ sym h.0 in
      let step : attach_as j.answer j.end j.peer p ≡ attach_as k.answer k.end k.peer p = λ i. attach_as (answer i) (end i) (peer i) p in
      let rest = same_answers js ks (attach_as j.answer j.end j.peer p) tail g.1 (subst (AreAnswered ks) (sym step) h.1) in
      record {
        told = record { ends = (let f = rest.told.ends in λ i. end i ∷ f i); answers = (let f = rest.told.answers in λ i. answer i ∷ f i) };
        pattern = rest.pattern ∙ ap (attach_all ks) step;
      }
