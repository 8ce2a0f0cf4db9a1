-- What an engine that only hears tells, step by step.
use Rattle.std.proofs.Common.{◌≡◌, ℕ, ◌<◌, true, List, [], ◌∷◌, ◌++◌, length, take, Option, Some, None, refl, sym, ap, subst, ◌∙◌, append_assoc, arith}
use Rattle.std.specs.Prelude.{Result, Ok, Err, MatchResult, OnOk}
use Rattle.std.specs.Result.{is_ok}
use Rattle.std.specs.List.{flat_map}
use Rattle.std.proofs.lemmas.List.{append-nil, length-append}
use Rattle.std.proofs.lemmas.Grind.{flat_map-append}
use Rattle.std.proofs.Math.Seq.{take-length}
use Rattle.zq_base.specs.declared.options.EngineOpts.{EngineOpts}
use Rattle.zq_base.specs.declared.options.Peer.{Peer}
use Rattle.spec_zmtp.specs.declared.cause.Refusal.{Refusal}
use Rattle.spec_zmtp.specs.declared.command.Command.{Command}
use Rattle.spec_zmtp.specs.Greeting.{greeting_of}
use Rattle.spec_zmtp.specs.Put.{says, commands_in, encode_said, encode_puts, encode_commands}
use Rattle.spec_zmtp.specs.DecodedStream.{Decoded, Outcome, Unfinished, Refused, octets_said}
use Rattle.zmtp_engine.specs.declared.want.OutOfMemory.{OutOfMemory}
use Rattle.zmtp_engine.specs.Answers.{Standing, IsRefused, standing_at, standing_now}
use Rattle.zmtp_engine.specs.Listening.{Listening, IsSettledNow}
use Rattle.zmtp_engine.specs.Conversation.{Past, Conversation, Follows, IsCurrent, IsMeaning, HasLeft, no_past, fed, unwritten, lent, waiting, wrote, gave}
use Rattle.zmtp_engine.proofs.Calls.{has_left, some_meaning_now, standing_means}
use Rattle.zq_call.specs.HearText.{message_text}
use Rattle.zq_call.specs.Told.{Told, Tells, IsOpen, untold, past_of, with_written, with_given}

-- what an engine that has told this has left
pub left_of : (t : Told) (c : Conversation) → Tells t c → HasLeft (past_of t) c t.means
left_of t c k = has_left (past_of t) c t.means k.follows k.decodes

-- ---- what is heard

-- what holds of a feed that succeeded
pub feed_ok : (X : Type 0) (Y : OutOfMemory → Type 0) (Z : Type 0) (r : Result ℕ OutOfMemory) → is_ok r ≡ true → MatchResult r (λ _. X) Y → OnOk r Z → X × Z
feed_ok X Y Z (Ok n) is x z = (x, z)
feed_ok X Y Z (Err e) is x z = absurd cc

said_commands : (cs : List Command) → commands_in (says cs) ≡ cs
said_commands [] = refl
said_commands (c ∷ cs) = ap (λ (l : List Command). c ∷ l) (said_commands cs)

said_octets : (cs : List Command) → encode_puts (says cs) ≡ encode_commands cs
said_octets [] = refl
said_octets (c ∷ cs) = ap (λ (l : List ℕ). encode_said c ++ l) (said_octets cs)

-- an engine that has heard octets has told nothing of them
pub nothing_told : (opts : EngineOpts) (octets : List ℕ) (commands : List Command) (c : Conversation) → Follows (fed octets commands (no_past opts)) c → IsCurrent c → (d : Decoded) × Tells (untold opts octets d) c
nothing_told opts octets commands c f now =
    let m = some_meaning_now (fed octets commands (no_past opts)) c f now in
    let is : commands ≡ m.0.said = sym (said_commands commands) ∙ m.1.all_said now in (
      m.0,
      record {
        decodes = m.1.meaning.decodes;
        follows = subst (λ (cs : List Command). Follows (record { opts = opts; heard = octets; given = []; put = says cs; written = [] }) c) is f;
        current = now;
      },
    )

-- ---- what is said

-- what is written and what is left are all that is said
pub said_left : (t : Told) (c : Conversation) → Tells t c → t.written ++ unwritten c ≡ octets_said t.opts t.means
said_left t c k = (left_of t c k).written ∙ ap (λ (l : List ℕ). greeting_of t.opts.role ++ l) (said_octets t.means.said)

-- where nothing is left, all is written
pub all_said : (t : Told) (c : Conversation) (said : List ℕ) → unwritten c ≡ [] → Tells (with_written said t) c → t.written ++ said ≡ octets_said t.opts t.means
all_said t c said none k =
    sym (append-nil (t.written ++ said)) ∙ ap (λ (l : List ℕ). (t.written ++ said) ++ l) (sym none) ∙ said_left (with_written said t) c k

-- a piece that was lent is written
pub piece_written : (t : Told) (c new : Conversation) (said piece : List ℕ) → piece ≡ lent c
    → ((p : Past) → Follows p c → Follows (wrote (take (length piece) (lent c)) p) new) → new.listening ≡ c.listening
    → Tells (with_written said t) c → Tells (with_written (said ++ piece) t) new
piece_written t c new said piece is f same k =
    let octets : take (length piece) (lent c) ≡ piece = ap (λ (l : List ℕ). take (length piece) l) (sym is) ∙ take-length piece in
    let all : (t.written ++ said) ++ take (length piece) (lent c) ≡ t.written ++ (said ++ piece) =
    ap (λ (l : List ℕ). (t.written ++ said) ++ l) octets ∙ append_assoc t.written said piece in
    record {
      decodes = k.decodes;
      follows = subst (λ (l : List ℕ). Follows (record { opts = t.opts; heard = t.heard; given = t.given; put = says t.means.said; written = l }) new) all (f (past_of (with_written said t)) k.follows);
      current = subst (λ (l : Listening). IsSettledNow l) (sym same) k.current;
    }

-- a piece that was written is not left
pub less_left : (t : Told) (c new : Conversation) (said piece : List ℕ) → 0 < length piece
    → Tells (with_written said t) c → Tells (with_written (said ++ piece) t) new → length (unwritten new) < length (unwritten c)
less_left t c new said piece some k k' =
    let both : (t.written ++ said) ++ unwritten c ≡ (t.written ++ (said ++ piece)) ++ unwritten new =
    said_left (with_written said t) c k ∙ sym (said_left (with_written (said ++ piece) t) new k') in
    let lengths = ap (λ (l : List ℕ). length l) both in
    omega (
      arith,
      some,
      lengths,
      length-append (t.written ++ said) (unwritten c),
      length-append t.written said,
      length-append (t.written ++ (said ++ piece)) (unwritten new),
      length-append t.written (said ++ piece),
      length-append said piece,
    )

-- ---- the messages

-- a message is given
pub message_given : (t : Told) (c new : Conversation) (more : List (List (List ℕ))) (message : List (List ℕ))
    → ((p : Past) → Follows p c → Follows (gave (message ∷ []) p) new) → (IsCurrent c → IsCurrent new)
    → Tells (with_given more t) c → Tells (with_given (more ++ message ∷ []) t) new
message_given t c new more message f now k = record {
  decodes = k.decodes;
  follows = subst (λ (l : List (List (List ℕ))). Follows (record { opts = t.opts; heard = t.heard; given = l; put = says t.means.said; written = t.written }) new)
      (append_assoc t.given more (message ∷ [])) (f (past_of (with_given more t)) k.follows);
  current = now k.current;
}

-- a message that is given waits no more
pub fewer_left : (c new : Conversation) (message : List (List ℕ)) → waiting c ≡ message ∷ waiting new → length (waiting new) < length (waiting c)
fewer_left c new message e = omega (arith, ap (λ (l : List (List (List ℕ))). length l) e)

-- before the first message
pub none_given : (t : Told) (c : Conversation) → Tells t c → Tells (with_given [] t) c
none_given t c k = record {
  decodes = k.decodes;
  follows = subst (λ (l : List (List (List ℕ))). Follows (record { opts = t.opts; heard = t.heard; given = l; put = says t.means.said; written = t.written }) c) (sym (append-nil t.given)) k.follows;
  current = k.current;
}

-- the text of one message more
pub one_more_text : (o before after : List ℕ) (more : List (List (List ℕ))) (message : List (List ℕ)) → before ≡ o ++ flat_map message_text more
    → after ≡ before ++ message_text message → after ≡ o ++ flat_map message_text (more ++ message ∷ [])
one_more_text o before after more message e e' =
    e' ∙ ap (λ (l : List ℕ). l ++ message_text message) e ∙ append_assoc o (flat_map message_text more) (message_text message)
    ∙ ap (λ (l : List ℕ). o ++ (flat_map message_text more ++ l)) (sym (append-nil (message_text message)))
    ∙ ap (λ (l : List ℕ). o ++ l) (sym (flat_map-append message_text more (message ∷ [])))

-- what an engine says that has no message left
abbrev pub GivesNone : Conversation → Conversation → Type 0
GivesNone c new = (new ≡ c) × (waiting c ≡ [])

-- where no message is left, all are given
pub all_told : (t : Told) (c new : Conversation) (more : List (List (List ℕ))) → GivesNone c new → t.given ≡ [] → Tells (with_given more t) c → t.means.messages ≡ more
all_told t c new more g none k =
    sym ((left_of (with_given more t) c k).all_given k.current) ∙ ap (λ (w : List (List (List ℕ))). (t.given ++ more) ++ w) g.1 ∙ append-nil (t.given ++ more) ∙ ap (λ (l : List (List (List ℕ))). l ++ more) none

pub all_given : (t : Told) (c new : Conversation) (more : List (List (List ℕ))) → GivesNone c new → t.given ≡ [] → Tells (with_given more t) c → Tells (with_given t.means.messages t) new
all_given t c new more g none k =
    subst (λ (v : Conversation). Tells (with_given t.means.messages t) v) (sym g.0)
    (subst (λ (l : List (List (List ℕ))). Tells (with_given l t) c) (sym (all_told t c new more g none k)) k)

-- ---- how the stream stands

refused_at : (r : Refusal) (o : Outcome) (q : Option Peer) → IsRefused r ≡ standing_at o q → o ≡ Refused r
refused_at r (Refused r') q e = cc
refused_at r (Unfinished n) None e = absurd cc
refused_at r (Unfinished n) (Some p) e = absurd cc

unfinished_at : (o : Outcome) (q : Option Peer) → IsOpen (standing_at o q) → (n : ℕ) × (o ≡ Unfinished n)
unfinished_at (Unfinished n) q is = (n, refl)
unfinished_at (Refused r) q is = absurd is

-- the refusal that a state tells is that of the stream
pub refused_is : (t : Told) (c : Conversation) (r : Refusal)
    → ((p : Past) (d : Decoded) → Follows p c → IsCurrent c → IsMeaning p d → IsRefused r ≡ standing_at d.outcome d.peer) → Tells t c → t.means.outcome ≡ Refused r
refused_is t c r f k = refused_at r t.means.outcome t.means.peer (f (past_of t) t.means k.follows k.current (left_of t c k).meaning)

-- the count of what is unfinished is that of the stream
pub unfinished_is : (t : Told) (c : Conversation) (rest : ℕ) → IsOpen (standing_now c)
    → ((p : Past) (d : Decoded) → Follows p c → IsCurrent c → IsMeaning p d → (n : ℕ) → d.outcome ≡ Unfinished n → rest ≡ n)
    → Tells t c → t.means.outcome ≡ Unfinished rest
unfinished_is t c rest is g k =
    let m = (left_of t c k).meaning in
    let same = standing_means (past_of t) c t.means k.follows k.current m in
    let u = unfinished_at t.means.outcome t.means.peer (subst (λ (x : Standing). IsOpen x) same is) in
    u.1 ∙ ap Unfinished (sym (g (past_of t) t.means k.follows k.current m u.0 u.1))

-- ---- the text

-- the lines one behind the other
pub in_order : (o0 o1 o2 o3 o4 said peer messages outcome : List ℕ) → o1 ≡ o0 ++ said → o2 ≡ o1 ++ peer → o3 ≡ o2 ++ messages → o4 ≡ o3 ++ outcome
    → o4 ≡ o0 ++ (said ++ peer ++ messages ++ outcome)
in_order o0 o1 o2 o3 o4 said peer messages outcome e1 e2 e3 e4 = rw (e4, e3, e2, e1) (simp append_assoc)
