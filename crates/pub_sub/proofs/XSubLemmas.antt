-- An XSUB's sends and receives, by places.
use Rattle.std.proofs.Common.{◌≡◌, ◌∙◌, ◌<◌, ◌≤◌, ℕ, Bool, List, [], length, map, filter, refl, sym, ap, subst, inl, inr}
use Rattle.std.proofs.lemmas.Bool.{le-leb, lt-leb}
use Rattle.std.specs.Map.{keys_of}
use Rattle.std.specs.Prelude.{Result, Ok, Err}
use Rattle.zq_base.specs.Message.{Frames}
use Rattle.spec_pattern.specs.PipeStep.{PipeStep}
use Rattle.spec_pattern.specs.TurnList.{End}
use Rattle.spec_pattern.specs.Topics.{Topic, Subscribers}
use Rattle.spec_pattern.specs.Publishing.{Saying, Adds, Cancels, Other, saying_of, SendsToMany}
use Rattle.spec_pattern.specs.Subscribing.{SubAnswer, AsSent, XSubSays, XSubSendsWhere}
use Rattle.spec_pattern.specs.PatternCalls.{Change, Subscribe, Unsubscribe, Changes}
use Rattle.spec_pattern.specs.declared.answers.SendAnswer.{SendAnswer}
use Rattle.zq_base.specs.declared.kind.Kind.TheVariants.{Pull}
use Rattle.spec_pattern.specs.Results.{SendResult, MatchSend, IfBack, answer_of}
use Rattle.spec_pattern.specs.declared.answers.RecvAnswer.{RecvAnswer}
use Rattle.spec_pattern.specs.declared.answers.SendAnswer.TheVariants as sent
use Rattle.spec_pattern.specs.declared.answers.SendFault.TheVariants as send
use Rattle.spec_pattern.specs.declared.answers.SendRefusal.TheVariants.{TooLarge}
use Rattle.spec_pattern.specs.declared.answers.Sent.{Sent}
use Rattle.spec_pattern.specs.AtPlaces.{Receives}
use Rattle.pub_sub.specs.Places.{subs_at, TellsOf}
use Rattle.pub_sub.specs.Many.{SendsMany}
use Rattle.pub_sub.specs.Subscribing.{SubState, subscriber_at, MatchChange, ChangesAt}
use Rattle.pub_sub.specs.XSubs.{MatchXSend, IfXBack, sent_by, passed_on, XSubGives, XSubSent}
use Rattle.pub_sub.specs.declared.change_fault.ChangeFault.{ChangeFault}
use Rattle.pub_sub.specs.declared.change_fault.ChangeFault.TheVariants as fault
use Rattle.pub_sub.specs.declared.xsend_fault.XSendFault.{XSendFault}
use Rattle.pub_sub.specs.declared.xsend_fault.XSendFault.TheVariants as xfault
use Rattle.pub_sub.proofs.PlaceLemmas.{keys_of-subs_at, filter-alike, filter-ends}

-- the peers that can be written, by end and by place
open_at : (ends : ℕ → End) (can_write : End → Bool) (writable : ℕ → Bool) (rows : Subscribers ℕ) → TellsOf can_write ends writable (keys_of rows)
    → filter can_write (keys_of (subs_at ends rows)) ≡ map ends (filter writable (keys_of rows))
open_at ends can_write writable rows tells =
    ap (filter can_write) (keys_of-subs_at ends rows) ∙ filter-ends ends can_write (keys_of rows) ∙ ap (map ends) (filter-alike (λ p. can_write (ends p)) writable (keys_of rows) tells)

module _ {S : Type 0} (runs : S → List PipeStep → S → Type 0) (ends : ℕ → End) (writable : ℕ → Bool) (m : Frames) (old new : S) (s : SubState) where
  -- a message that fits no pipe is refused
  pub XSubSent-too_large : runs old [] old → 1023 < length m → XSubSent runs ends writable m old old s (sent.Refused TooLarge) s
  XSubSent-too_large none many = record {
    steps = [];
    runs_are = none;
    step = λ can_write tells.
        subst (λ b. XSubSendsWhere b can_write m (subscriber_at ends s) [] (sent.Refused TooLarge) (subscriber_at ends s)) (sym (lt-leb (length m) 1023 many)) (refl, refl, refl);
  }

  -- a message that says nothing of topics goes to the peers
  pub XSubSent-other : (answer : SendAnswer) → length m ≤ 1023 → saying_of m ≡ Other → SendsMany runs ends m old new (filter writable (keys_of s.followers)) answer
      → XSubSent runs ends writable m old new s answer s
  XSubSent-other answer few says h = record {
    steps = h.steps;
    runs_are = h.runs_are;
    step = λ can_write tells.
        subst (λ b. XSubSendsWhere b can_write m (subscriber_at ends s) h.steps answer (subscriber_at ends s)) (sym (le-leb (length m) 1023 few))
        (subst (λ w. XSubSays w can_write m (subscriber_at ends s) h.steps answer (subscriber_at ends s)) (sym says)
        (subst (λ es. SendsToMany m es h.steps answer) (sym (open_at ends can_write writable s.followers tells)) h.sends, refl));
  }

  module _ (s' : SubState) (change : Change) (topic : Topic) (few : length m ≤ 1023)
      (says : (can_write : End → Bool) (steps : List PipeStep) (answer : SendAnswer) → AsSent (λ a. Changes change can_write topic (subscriber_at ends s) steps a (subscriber_at ends s')) answer
      → XSubSays (saying_of m) can_write m (subscriber_at ends s) steps answer (subscriber_at ends s')) where
    XSubSent-as : (a : SubAnswer) (answer : SendAnswer) → ((P : SubAnswer → Type 0) → P a → AsSent P answer) → ChangesAt runs ends writable change topic old new s a s'
        → XSubSent runs ends writable m old new s answer s'
    XSubSent-as a answer as_sent h = record {
      steps = h.steps;
      runs_are = h.runs_are;
      step = λ can_write tells.
          subst (λ b. XSubSendsWhere b can_write m (subscriber_at ends s) h.steps answer (subscriber_at ends s')) (sym (le-leb (length m) 1023 few))
          (says can_write h.steps answer (as_sent (λ x. Changes change can_write topic (subscriber_at ends s) h.steps x (subscriber_at ends s')) (h.step can_write tells)));
    }

    -- a change is answered as it is defined
    XSubSent-change : (nothing untold : Type 0) (done : Result (Unit {0}) ChangeFault) → MatchChange done nothing untold (λ a. ChangesAt runs ends writable change topic old new s a s')
        → MatchXSend (sent_by done m) nothing untold (λ answer. XSubSent runs ends writable m old new s answer s')
    XSubSent-change nothing untold (Ok d) h = XSubSent-as _ sent.Subscribed (λ P x. inl (x, refl)) h
    XSubSent-change nothing untold (Err fault.SubLimit) h = XSubSent-as _ _ (λ P x. inr (inl (x, refl))) h
    XSubSent-change nothing untold (Err fault.NotSub) h = XSubSent-as _ _ (λ P x. inr (inr (x, refl))) h
    XSubSent-change nothing untold (Err fault.OutOfMemory) h = h
    XSubSent-change nothing untold (Err fault.Untold) h = h

  -- a subscription
  pub XSubSent-adds : (s' : SubState) (topic : Topic) (nothing : Type 0) (untold : Saying → Type 0) (done : Result (Unit {0}) ChangeFault) → length m ≤ 1023 → saying_of m ≡ Adds topic
      → MatchChange done nothing (untold (Adds topic)) (λ a. ChangesAt runs ends writable Subscribe topic old new s a s')
      → MatchXSend (sent_by done m) nothing (untold (saying_of m)) (λ answer. XSubSent runs ends writable m old new s answer s')
  XSubSent-adds s' topic nothing untold done few is h =
      subst (λ w. MatchXSend (sent_by done m) nothing (untold w) (λ answer. XSubSent runs ends writable m old new s answer s')) (sym is)
      (XSubSent-change s' Subscribe topic few (λ can_write steps answer h. subst (λ w. XSubSays w can_write m (subscriber_at ends s) steps answer (subscriber_at ends s')) (sym is) h)
      nothing (untold (Adds topic)) done h)

  -- a cancel
  pub XSubSent-cancels : (s' : SubState) (topic : Topic) (nothing : Type 0) (untold : Saying → Type 0) (done : Result (Unit {0}) ChangeFault) → length m ≤ 1023 → saying_of m ≡ Cancels topic
      → MatchChange done nothing (untold (Cancels topic)) (λ a. ChangesAt runs ends writable Unsubscribe topic old new s a s')
      → MatchXSend (sent_by done m) nothing (untold (saying_of m)) (λ answer. XSubSent runs ends writable m old new s answer s')
  XSubSent-cancels s' topic nothing untold done few is h =
      subst (λ w. MatchXSend (sent_by done m) nothing (untold w) (λ answer. XSubSent runs ends writable m old new s answer s')) (sym is)
      (XSubSent-change s' Unsubscribe topic few (λ can_write steps answer h. subst (λ w. XSubSays w can_write m (subscriber_at ends s) steps answer (subscriber_at ends s')) (sym is) h)
      nothing (untold (Cancels topic)) done h)

-- ---- results

-- what is handed back of a message that changes what is wanted is the message
pub IfXBack-sent : (done : Result (Unit {0}) ChangeFault) (m : Frames) → IfXBack (sent_by done m) (λ back. back ≡ m)
IfXBack-sent (Ok d) m = tt
IfXBack-sent (Err fault.SubLimit) m = refl
IfXBack-sent (Err fault.NotSub) m = tt
IfXBack-sent (Err fault.OutOfMemory) m = refl
IfXBack-sent (Err fault.Untold) m = tt

-- what is handed back of another
pub IfXBack-passed : (r : SendResult) (P : Frames → Type 0) → IfBack r P → IfXBack (passed_on r) P
IfXBack-passed (Ok s) P h = tt
IfXBack-passed (Err (send.Refused refusal back)) P h = h
IfXBack-passed (Err (send.OutOfMemory back)) P h = h

-- what is answered to another
pub MatchXSend-passed : (r : SendResult) (memory untold : Type 0) (P : SendAnswer → Type 0) → MatchSend r memory P → MatchXSend (passed_on r) memory untold P
MatchXSend-passed (Ok s) memory untold P h = h
MatchXSend-passed (Err (send.Refused refusal back)) memory untold P h = h
MatchXSend-passed (Err (send.OutOfMemory back)) memory untold P h = h

-- what follows from each answer follows from the result
pub MatchXSend-as : (A B untold : Type 0) (P Q : SendAnswer → Type 0) (r : Result Sent XSendFault) → (A → B) → ((answer : SendAnswer) → P answer → Q answer)
    → MatchXSend r A ⊥ P → MatchXSend r B untold Q
MatchXSend-as A B untold P Q (Ok s) memory each h = each (answer_of s) h
MatchXSend-as A B untold P Q (Err (xfault.Refused refusal back)) memory each h = each (sent.Refused refusal) h
MatchXSend-as A B untold P Q (Err (xfault.OutOfMemory back)) memory each h = memory h
MatchXSend-as A B untold P Q (Err xfault.Untold) memory each h = absurd h

-- ---- receiving

-- what was received by turn
pub XSubGives-received : {S : Type 0} (runs : S → List PipeStep → S → Type 0) (ends : ℕ → End) (old new : S) (s0 s : SubState) (ins' : List ℕ) (answer : RecvAnswer) → s0 ≡ s
    → Receives runs ends Pull old new s0.ins answer ins' → XSubGives runs ends old new s answer (record s0 { ins = ins' })
XSubGives-received runs ends old new s0 s ins' answer is h =
    subst (λ (q : SubState). XSubGives runs ends old new q answer (record s0 { ins = ins' })) is (record {
      steps = h.steps;
      runs_are = h.runs_are;
      step = (map ends ins', h.step, refl);
    })
