-- What a caller's items say of an object's output is so, behind an event, and none is left of one that has ended.
use Rattle.std.specs.Prelude.{◌≡◌, ◌≢◌, ◌==◌, ℕ, Bool, true, false, ◌∷◌, Some, None, if◌then◌else◌, refl}
use Rattle.std.proofs.Common.{sym, ap, ◌∙◌, subst, inl, inr}
use Rattle.std.proofs.lemmas.Bool.{eq-eqb, eqb-true}
use Rattle.zq_base.specs.declared.ids.ObjId.{ObjId}
use Rattle.zq_base.specs.declared.ids.SlotId.{SlotId}
use Rattle.spec_control.specs.declared.entry.Answered.{Answered}
use Rattle.spec_control.specs.declared.entry.Did.{Did}
use Rattle.spec_control.specs.declared.entry.Did.TheVariants.{Asked, Delivered, Delimited}
use Rattle.spec_control.specs.declared.letter.Word.{Word}
use Rattle.spec_control.specs.declared.letter.Word.TheVariants.{Own, Plug, TermReq, Term, TermAck, PipeBind, PipeTerm, PipeTermAck, Stop, Reap}
use Rattle.spec_control.specs.declared.request.Req.{Req}
use Rattle.spec_control.specs.declared.request.Req.TheVariants.{Socket as MakeSocket, AskTerm, Bind, Connect, Unbind, Disconnect, Close, Accepted, Shaken, AskEnd, AskOver, OutputOver}
use Rattle.spec_control.specs.declared.request.Reply.{Reply}
use Rattle.spec_control.specs.declared.request.Reply.TheVariants.{Done, Object, Pair, Both, Wait, Asked as WasAsked, Before, Refused}
use Rattle.spec_control.specs.declared.letter.Letter.{Letter}
use Rattle.spec_control.specs.Stage.{has_ended}
use Rattle.spec_control.specs.Rows.{obj, is_owner}
use Rattle.spec_control.specs.Control.{Control, try_end}
use Rattle.spec_control.specs.After.{after, answered, answers_in, processed, without_front}
use Rattle.spec_control.specs.ControlRun.{Fits, tries_end}
use Rattle.spec_control.specs.Has.{made_by}
use Rattle.spec_control.specs.OwnAsks.{Known, known_at_request, known_at_word, known_in}
use Rattle.control_laws.proofs.ListLemmas.{never}
use Rattle.control_laws.specs.Kept.{Kept}
use Rattle.control_laws.proofs.GuardLemmas.{may_come}
use Rattle.control_laws.proofs.OutputLemmas.{AckMay, Rests, Tries, delimited_rests, request_rests, says_over, tries, word_rests, word_tries}
use Rattle.control_laws.proofs.RootLemmas.{oldest_lives}

-- what is known of an object's output is so, and an object that has ended has none left
pub record IsOutput (i : ℕ) (c : Control) (k : Known) : Type 0 where
  pub output : c.output_left i ≡ k.output_left
  pub ended : has_ended (obj c.rows i).stage ≡ true → k.output_left ≡ false

if_output : (b : Bool) (now k : Known) → now.output_left ≡ k.output_left → (if b then now else k).output_left ≡ k.output_left
if_output true now k h = h
if_output false now k h = refl

module _ (i : ℕ) where
  rests_output : (c d : Control) (k now : Known) → Rests i c d → now.output_left ≡ k.output_left → IsOutput i c k → IsOutput i d now
  rests_output c d k now rests same was = record { output = rests.output ∙ was.output ∙ sym same; ended = λ h. same ∙ was.ended (rests.ended h) }

  -- an object that lived tried to end
  tries_output : (out : Bool) (c d : Control) (now : Known) → Tries i out c d → now.output_left ≡ out → has_ended (obj c.rows i).stage ≡ false → IsOutput i d now
  tries_output out c d now tried same lives = record {
    output = tried.output ∙ sym same;
    ended = λ h. elim (tried.ended h) [
      | inl was ↦ absurd (never (sym lives ∙ was))
      | inr none ↦ same ∙ none
    ];
  }

  request_known : (req : Req) (reply : Reply) (k : Known) → says_over i req ≡ false → (known_at_request i req reply k).output_left ≡ k.output_left
  request_known (MakeSocket kind options) reply k none = if_output (is_owner i (made_by reply)) (record k { open_socket = true }) k refl
  request_known AskTerm reply k none = refl
  request_known (Bind o at) reply k none = refl
  request_known (Connect o at) reply k none = refl
  request_known (Unbind o at) reply k none = refl
  request_known (Disconnect o at) reply k none = refl
  request_known (Close o) reply k none = if_output (o.0 == i) (record k { open_socket = false }) k refl
  request_known (Accepted o) reply k none = if_output (is_owner i (made_by reply)) (record k { session = true; accepted = true }) k refl
  request_known (Shaken o peer) reply k none = if_output (o.0 == i) (record k { shaken = true }) k refl
  request_known (AskEnd e reason) reply k none = refl
  request_known (AskOver o) reply k none = if_output (o.0 == i) (record k { asked_over = true }) k refl
  request_known (OutputOver o) reply k none = ap (λ (b : Bool). (if b then record k { output_left = false } else k).output_left) none

  -- a word at which its object does not try to end says nothing of its output
  word_known : (word : Word) (left : Bool) (k : Known) → tries_end word ≡ false → (known_at_word word left k).output_left ≡ k.output_left
  word_known (Own child) left k none = refl
  word_known (Plug None) left k none = refl
  word_known (Plug (Some e)) left k none = refl
  word_known (TermReq child) left k none = refl
  word_known Term left k none = absurd (never (sym none))
  word_known (TermAck child) left k none = absurd (never (sym none))
  word_known (PipeBind e peer) left k none = refl
  word_known (PipeTerm e) left k none = refl
  word_known (PipeTermAck e) left k none = absurd (never (sym none))
  word_known Stop left k none = refl
  word_known (Reap socket) left k none = refl

  word_says : (word : Word) (left : Bool) (k : Known) → tries_end word ≡ true → (known_at_word word left k).output_left ≡ left
  word_says (Own child) left k is = absurd (never is)
  word_says (Plug None) left k is = absurd (never is)
  word_says (Plug (Some e)) left k is = absurd (never is)
  word_says (TermReq child) left k is = absurd (never is)
  word_says Term left k is = refl
  word_says (TermAck child) left k is = refl
  word_says (PipeBind e peer) left k is = absurd (never is)
  word_says (PipeTerm e) left k is = absurd (never is)
  word_says (PipeTermAck e) left k is = refl
  word_says Stop left k is = absurd (never is)
  word_says (Reap socket) left k is = absurd (never is)

module _ {N S : Type 0} (i : ℕ) (more : i ≢ 0) (c : Control) (kept : Kept c) (k : Known) (was : IsOutput i c k) where
  -- a request of another
  asked_rests : (req : Req) (reply : Reply) (h : Answered N S) → says_over i req ≡ false → Rests i c (after (Asked req reply h) c)
  asked_rests req reply h none = by reply
    where
      by : (reply : Reply) → Rests i c (answered req reply (answers_in h) c)
      by Done = request_rests i c req (answers_in h) more none
      by (Object o) = request_rests i c req (answers_in h) more none
      by (Pair p) = request_rests i c req (answers_in h) more none
      by (Both o p) = request_rests i c req (answers_in h) more none
      by Wait = request_rests i c req (answers_in h) more none
      by WasAsked = request_rests i c req (answers_in h) more none
      by Before = record { output = refl; ended = λ x. x }
      by (Refused refusal) = record { output = refl; ended = λ x. x }

  -- its own, that its output is over
  over_output : (o : ObjId) (reply : Reply) (h : Answered N S) → Fits c (Asked (OutputOver o) reply h) → o.0 ≡ i → IsOutput i (after (Asked (OutputOver o) reply h) c) (record k { output_left = false })
  over_output o reply h fits at =
      subst (λ (r : Reply). IsOutput i (answered (OutputOver o) r (answers_in h) c) (record k { output_left = false })) (sym fits.may.1)
      (subst (λ (d : Control). IsOutput i d (record k { output_left = false })) (ap (λ (n : ℕ). try_end n h.output_left c) (sym at))
      (let tried = tries i h.output_left c in record { output = tried.output ∙ fits.answered.output; ended = λ x. refl }))

  asked_output : (req : Req) (reply : Reply) (h : Answered N S) → Fits c (Asked req reply h) → IsOutput i (after (Asked req reply h) c) (known_at_request i req reply k)
  asked_output (MakeSocket kind options) reply h fits = rests_output i c (after (Asked (MakeSocket kind options) reply h) c) k (known_at_request i (MakeSocket kind options) reply k) (asked_rests (MakeSocket kind options) reply h refl) (request_known i (MakeSocket kind options) reply k refl) was
  asked_output AskTerm reply h fits = rests_output i c (after (Asked AskTerm reply h) c) k (known_at_request i AskTerm reply k) (asked_rests AskTerm reply h refl) (request_known i AskTerm reply k refl) was
  asked_output (Bind o at) reply h fits = rests_output i c (after (Asked (Bind o at) reply h) c) k (known_at_request i (Bind o at) reply k) (asked_rests (Bind o at) reply h refl) (request_known i (Bind o at) reply k refl) was
  asked_output (Connect o at) reply h fits = rests_output i c (after (Asked (Connect o at) reply h) c) k (known_at_request i (Connect o at) reply k) (asked_rests (Connect o at) reply h refl) (request_known i (Connect o at) reply k refl) was
  asked_output (Unbind o at) reply h fits = rests_output i c (after (Asked (Unbind o at) reply h) c) k (known_at_request i (Unbind o at) reply k) (asked_rests (Unbind o at) reply h refl) (request_known i (Unbind o at) reply k refl) was
  asked_output (Disconnect o at) reply h fits = rests_output i c (after (Asked (Disconnect o at) reply h) c) k (known_at_request i (Disconnect o at) reply k) (asked_rests (Disconnect o at) reply h refl) (request_known i (Disconnect o at) reply k refl) was
  asked_output (Close o) reply h fits = rests_output i c (after (Asked (Close o) reply h) c) k (known_at_request i (Close o) reply k) (asked_rests (Close o) reply h refl) (request_known i (Close o) reply k refl) was
  asked_output (Accepted o) reply h fits = rests_output i c (after (Asked (Accepted o) reply h) c) k (known_at_request i (Accepted o) reply k) (asked_rests (Accepted o) reply h refl) (request_known i (Accepted o) reply k refl) was
  asked_output (Shaken o peer) reply h fits = rests_output i c (after (Asked (Shaken o peer) reply h) c) k (known_at_request i (Shaken o peer) reply k) (asked_rests (Shaken o peer) reply h refl) (request_known i (Shaken o peer) reply k refl) was
  asked_output (AskEnd e reason) reply h fits = rests_output i c (after (Asked (AskEnd e reason) reply h) c) k (known_at_request i (AskEnd e reason) reply k) (asked_rests (AskEnd e reason) reply h refl) (request_known i (AskEnd e reason) reply k refl) was
  asked_output (AskOver o) reply h fits = rests_output i c (after (Asked (AskOver o) reply h) c) k (known_at_request i (AskOver o) reply k) (asked_rests (AskOver o) reply h refl) (request_known i (AskOver o) reply k refl) was
  asked_output (OutputOver o) reply h fits = by (o.0 == i) refl
    where
      by : (b : Bool) → (o.0 == i) ≡ b → IsOutput i (after (Asked (OutputOver o) reply h) c) (if b then record k { output_left = false } else k)
      by true e = over_output o reply h fits (eqb-true o.0 i e)
      by false e = rests_output i c (after (Asked (OutputOver o) reply h) c) k k (asked_rests (OutputOver o) reply h e) refl was

  ack_may : (slot : SlotId) (letter : Letter) (h : Answered N S) → Fits c (Delivered slot letter h) → AckMay i (without_front slot.0 c) letter.word
  ack_may slot letter h fits = by letter.word refl
    where
      by : (word : Word) → letter.word ≡ word → AckMay i (without_front slot.0 c) word
      by (Own child) is = tt
      by (Plug end) is = tt
      by (TermReq child) is = tt
      by Term is = tt
      by (TermAck child) is = (may_come c kept slot.0 fits.may.behind letter.to.0 (TermAck child) (subst (λ (w : Word). c.boxes slot.0 ≡ record { to = letter.to; word = w } ∷ fits.may.behind) is fits.may.oldest)).comes
      by (PipeBind e peer) is = tt
      by (PipeTerm e) is = tt
      by (PipeTermAck e) is = tt
      by Stop is = tt
      by (Reap socket) is = tt

  delivered_output : (slot : SlotId) (letter : Letter) (h : Answered N S) → Fits c (Delivered slot letter h) → IsOutput i (after (Delivered slot letter h) c) (if letter.to.0 == i then known_at_word letter.word h.output_left k else k)
  delivered_output slot letter h fits = by (letter.to.0 == i) refl (tries_end letter.word) refl
    where
      front : Control
      front = without_front slot.0 c

      now : Bool → Known
      now b = if b then known_at_word letter.word h.output_left k else k

      here : IsOutput i front k
      here = record { output = was.output; ended = was.ended }

      by : (b : Bool) → (letter.to.0 == i) ≡ b → (t : Bool) → tries_end letter.word ≡ t → IsOutput i (after (Delivered slot letter h) c) (now b)
      by true e true t =
          let at = eqb-true letter.to.0 i e in
          let lives = (oldest_lives c kept slot.0 letter.to.0 letter.word fits.may.behind fits.may.oldest).1 in
          tries_output i h.output_left front (after (Delivered slot letter h) c) (now true)
          (subst (λ (n : ℕ). Tries i h.output_left front (processed n letter.word (answers_in h) front)) (sym at) (word_tries i front letter.word (answers_in h) (ack_may slot letter h fits) t))
          (word_says i letter.word h.output_left k t) (subst (λ (n : ℕ). has_ended (obj c.rows n).stage ≡ false) at lives)
      by true e false t =
          rests_output i front (after (Delivered slot letter h) c) k (now true)
          (word_rests i front letter.to.0 letter.word (answers_in h) (ack_may slot letter h fits) (λ x. absurd (never (sym t ∙ x)))) (word_known i letter.word h.output_left k t) here
      by false e t is =
          rests_output i front (after (Delivered slot letter h) c) k k
          (word_rests i front letter.to.0 letter.word (answers_in h) (ack_may slot letter h fits) (λ x same. never (sym e ∙ eq-eqb letter.to.0 i (sym same)))) refl here

  pub output_after : (did : Did N S) → Fits c did → IsOutput i (after did c) (known_in i did k)
  output_after (Asked req reply h) fits = asked_output req reply h fits
  output_after (Delivered slot letter h) fits = delivered_output slot letter h fits
  output_after (Delimited e h) fits = rests_output i c (after (Delimited e h) c) k k (delimited_rests i c e) refl was
