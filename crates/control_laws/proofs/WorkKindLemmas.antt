-- What a caller's items say a listener or a session is, it is by its row, behind an event.
use Rattle.std.specs.Prelude.{◌≡◌, ◌<◌, ◌==◌, ℕ, Bool, true, false, not, List, Option, Some, None, if◌then◌else◌, slice_index_or, refl}
use Rattle.std.proofs.Common.{arith, sym, ap, ◌∙◌, subst}
use Rattle.std.proofs.lemmas.Bool.{eqb-true}
use Rattle.std.proofs.lemmas.List.{get_or_push, get_or-set_same}
use Rattle.std.proofs.lemmas.List.Elements.{All-head}
use Rattle.zq_base.specs.declared.ids.EndId.{EndId}
use Rattle.zq_base.specs.declared.ids.ObjId.{ObjId}
use Rattle.zq_base.specs.declared.ids.SlotId.{SlotId}
use Rattle.spec_control.specs.declared.entry.Answered.{Answered}
use Rattle.spec_control.specs.declared.entry.Did.{Did}
use Rattle.spec_control.specs.declared.entry.Did.TheVariants.{Asked, Delivered, Delimited}
use Rattle.spec_control.specs.declared.letter.Word.{Word}
use Rattle.spec_control.specs.declared.letter.Word.TheVariants.{Own, Plug, TermReq, Term, TermAck, PipeBind, PipeTerm, PipeTermAck, Stop, Reap}
use Rattle.spec_control.specs.declared.object.ObjKind.{ObjKind}
use Rattle.spec_control.specs.declared.object.ObjKind.TheVariants.{Root}
use Rattle.spec_control.specs.declared.request.Req.{Req}
use Rattle.spec_control.specs.declared.request.Req.TheVariants.{Socket as MakeSocket, AskTerm, Bind, Connect, Unbind, Disconnect, Close, Accepted, Shaken, AskEnd, AskOver, OutputOver}
use Rattle.spec_control.specs.declared.request.Reply.{Reply}
use Rattle.spec_control.specs.declared.request.Reply.TheVariants.{Done, Object, Pair, Both, Wait, Asked as WasAsked, Before, Refused}
use Rattle.spec_control.specs.PairPhase.{BindCame}
use Rattle.spec_control.specs.Row.{Row, nobody, PlugComes, is_listener, is_session, link_after}
use Rattle.spec_control.specs.Rows.{obj, is_owner}
use Rattle.spec_control.specs.Control.{Control, attach, link, next_object, next_pair}
use Rattle.spec_control.specs.After.{accepted_row, after, answers_in, without_front}
use Rattle.spec_control.specs.ControlRun.{Fits}
use Rattle.spec_control.specs.Has.{made_by}
use Rattle.spec_control.specs.OwnAsks.{Known, known_at_request, known_at_word, known_in}
use Rattle.control_laws.proofs.ListLemmas.{placed}
use Rattle.control_laws.specs.Kept.{Kept}
use Rattle.control_laws.proofs.AttachLemmas.{greets}
use Rattle.control_laws.proofs.GuardLemmas.{may_come}
use Rattle.control_laws.proofs.HeldOpenLemmas.{none_some, owned_by}
use Rattle.control_laws.proofs.HeldRowLemmas.{event_row, none_touches}
use Rattle.control_laws.proofs.PluggedLemmas.{AreForSockets, IsForSocket, SocketsServe, event_keeps}
use Rattle.control_laws.proofs.SoundLemmas.{link_there}
use Rattle.control_laws.proofs.ThereLemmas.{both_new}
use Rattle.control_laws.specs.Move.{Move}
use Rattle.control_laws.specs.OwnMoves.{own_moves}
use Rattle.control_laws.proofs.WorkFlagLemmas.{accepted_row_is, same_accepted}

-- an object that was taken in, of the kinds that pass this test
pub record IsIn (test : ObjKind → Bool) (o : Row) : Type 0 where
  pub kind : test o.kind ≡ true
  pub plugged : o.plugged ≡ true

-- what is known of it is so
pub record AreKinds (c : Control) (i : ℕ) (k : Known) : Type 0 where
  pub listener : k.listener ≡ true → IsIn is_listener (obj c.rows i)
  pub session : k.session ≡ true → IsIn is_session (obj c.rows i)
  pub accepted : k.accepted ≡ true → ((obj c.rows i).accepted ≡ true) × (k.session ≡ true)

same_kinds : (c : Control) (i : ℕ) (k now : Known) → now.listener ≡ k.listener → now.session ≡ k.session → now.accepted ≡ k.accepted → AreKinds c i k → AreKinds c i now
same_kinds c i k now l s a are = record {
  listener = λ h. are.listener (sym l ∙ h);
  session = λ h. are.session (sym s ∙ h);
  accepted = λ h. (let both = are.accepted (sym a ∙ h) in (both.0, s ∙ both.1));
}

if_kinds : (c : Control) (i : ℕ) (k now : Known) (b : Bool) → now.listener ≡ k.listener → now.session ≡ k.session → now.accepted ≡ k.accepted → AreKinds c i k → AreKinds c i (if b then now else k)
if_kinds c i k now true l s a are = same_kinds c i k now l s a are
if_kinds c i k now false l s a are = are

pub is_there : (test : ObjKind → Bool) (c : Control) (i : ℕ) → test Root ≡ false → test (obj c.rows i).kind ≡ true → i < next_object c
is_there test c i none is = placed (λ (o : Row). not (test o.kind)) c.rows.objects nobody i (ap not none) (ap not is)

module _ {N S : Type 0} (c : Control) (kept : Kept c) (serve : SocketsServe c.rows c.boxes) (i : ℕ) where
  stays_in : (test : ObjKind → Bool) (did : Did N S) → Fits c did → test Root ≡ false → IsIn test (obj c.rows i) → IsIn test (obj (after did c).rows i)
  stays_in test did fits none is =
      let keeps = event_keeps c did kept fits i (is_there test c i none is.kind) in
      record { kind = ap test keeps.kind ∙ is.kind; plugged = keeps.plugged is.plugged }

  stays_accepted : (did : Did N S) → Fits c did → i < next_object c → (obj (after did c).rows i).accepted ≡ (obj c.rows i).accepted
  stays_accepted did fits there =
      event_row accepted_row_is (λ (i : ℕ) (m : Move). false) (λ event o i may_so free. same_accepted event o) (λ o. refl) (λ i m free. refl) c did kept fits i there (none_touches (own_moves c did))

  stay_kinds : (did : Did N S) → Fits c did → (k : Known) → AreKinds c i k → AreKinds (after did c) i k
  stay_kinds did fits k are = record {
    listener = λ h. stays_in is_listener did fits refl (are.listener h);
    session = λ h. stays_in is_session did fits refl (are.session h);
    accepted = λ h. (let both = are.accepted h in (stays_accepted did fits (is_there is_session c i refl (are.session both.1).kind) ∙ both.0, both.1));
  }

  -- ---- a session that is accepted
  accepted_now : (o : ObjId) (reply : Reply) (h : Answered N S) → made_by reply ≡ Some i → next_object c ≡ i → obj (after (let did : Did N S = Asked (Accepted o) reply h in did) c).rows i ≡ accepted_row o.0 c
  accepted_now o Done h e at = absurd (none_some e)
  accepted_now o (Object p) h e at = get_or_push c.rows.objects (accepted_row o.0 c) nobody i at
  accepted_now o (Pair p) h e at = absurd (none_some e)
  accepted_now o (Both p q) h e at = get_or_push c.rows.objects (accepted_row o.0 c) nobody i at
  accepted_now o Wait h e at = absurd (none_some e)
  accepted_now o WasAsked h e at = absurd (none_some e)
  accepted_now o Before h e at = absurd (none_some e)
  accepted_now o (Refused refusal) h e at = absurd (none_some e)

  -- the object that it makes, which nobody knew
  pub made_at : (o : ObjId) (reply : Reply) (h : Answered N S) → Fits c (let did : Did N S = Asked (Accepted o) reply h in did) → made_by reply ≡ Some i → (next_object c ≡ i) × (obj (after (let did : Did N S = Asked (Accepted o) reply h in did) c).rows i ≡ accepted_row o.0 c)
  made_at o reply h fits mine =
      let at : next_object c ≡ i = both_new (next_object c) (next_pair c) _ i (ap made_by (sym fits.may.1) ∙ mine) in
      (at, accepted_now o reply h mine at)

  accepted_kinds : (o : ObjId) (reply : Reply) (h : Answered N S) (k : Known) → Fits c (let did : Did N S = Asked (Accepted o) reply h in did) → AreKinds c i k → AreKinds (after (let did : Did N S = Asked (Accepted o) reply h in did) c) i (if is_owner i (made_by reply) then record k { session = true; accepted = true } else k)
  accepted_kinds o reply h k fits are = by (is_owner i (made_by reply)) refl
    where
      by : (b : Bool) → is_owner i (made_by reply) ≡ b → AreKinds (after (let did : Did N S = Asked (Accepted o) reply h in did) c) i (if b then record k { session = true; accepted = true } else k)
      by true e =
          let made = made_at o reply h fits (owned_by i (made_by reply) e) in
          record {
            listener = λ h. (let there = is_there is_listener c i refl (are.listener h).kind in let at = made.0 in absurd (omega (arith, there, at)));
            session = λ h. record { kind = ap (λ (r : Row). is_session r.kind) made.1; plugged = ap (λ (r : Row). r.plugged) made.1 };
            accepted = λ h. (ap (λ (r : Row). r.accepted) made.1, refl);
          }
      by false e = stay_kinds (Asked (Accepted o) reply h) fits k are

  request_kinds : (req : Req) (reply : Reply) (h : Answered N S) (k : Known) → Fits c (Asked req reply h) → AreKinds c i k → AreKinds (after (Asked req reply h) c) i (known_at_request i req reply k)
  request_kinds (MakeSocket kind options) reply h k fits are = if_kinds (after (Asked (MakeSocket kind options) reply h) c) i k (record k { open_socket = true }) (is_owner i (made_by reply)) refl refl refl (stay_kinds (Asked (MakeSocket kind options) reply h) fits k are)
  request_kinds AskTerm reply h k fits are = stay_kinds (Asked AskTerm reply h) fits k are
  request_kinds (Bind o at) reply h k fits are = stay_kinds (Asked (Bind o at) reply h) fits k are
  request_kinds (Connect o at) reply h k fits are = stay_kinds (Asked (Connect o at) reply h) fits k are
  request_kinds (Unbind o at) reply h k fits are = stay_kinds (Asked (Unbind o at) reply h) fits k are
  request_kinds (Disconnect o at) reply h k fits are = stay_kinds (Asked (Disconnect o at) reply h) fits k are
  request_kinds (Close o) reply h k fits are = if_kinds (after (Asked (Close o) reply h) c) i k (record k { open_socket = false }) (o.0 == i) refl refl refl (stay_kinds (Asked (Close o) reply h) fits k are)
  request_kinds (Accepted o) reply h k fits are = accepted_kinds o reply h k fits are
  request_kinds (Shaken o peer) reply h k fits are = if_kinds (after (Asked (Shaken o peer) reply h) c) i k (record k { shaken = true }) (o.0 == i) refl refl refl (stay_kinds (Asked (Shaken o peer) reply h) fits k are)
  request_kinds (AskEnd e reason) reply h k fits are = stay_kinds (Asked (AskEnd e reason) reply h) fits k are
  request_kinds (AskOver o) reply h k fits are = if_kinds (after (Asked (AskOver o) reply h) c) i k (record k { asked_over = true }) (o.0 == i) refl refl refl (stay_kinds (Asked (AskOver o) reply h) fits k are)
  request_kinds (OutputOver o) reply h k fits are = if_kinds (after (Asked (OutputOver o) reply h) c) i k (record k { output_left = false }) (o.0 == i) refl refl refl (stay_kinds (Asked (OutputOver o) reply h) fits k are)

  -- ---- a Plug
  plug_for : (slot : SlotId) (to : ObjId) (word : Word) (h : Answered N S) → Fits c (let did : Did N S = Delivered slot (record { to = to; word = word }) h in did) → IsForSocket c.rows to.0 word
  plug_for slot to word h fits =
      All-head (λ l. IsForSocket c.rows l.to.0 l.word) (record { to = to; word = word }) fits.may.behind (subst (AreForSockets c.rows) fits.may.oldest (serve.binds slot.0))

  plugged_now : (slot : SlotId) (to : ObjId) (end : Option EndId) (h : Answered N S) → (let did : Did N S = Delivered slot (record { to = to; word = Plug end }) h in Fits c did) →
      (obj (after (let did : Did N S = Delivered slot (record { to = to; word = Plug end }) h in did) c).rows to.0).plugged ≡ true
  plugged_now slot to None h fits =
      let there = link_there c.rows to.0 PlugComes (may_come c kept slot.0 fits.may.behind to.0 (Plug None) fits.may.oldest) in
      ap (λ (o : Row). o.plugged) (get_or-set_same c.rows.objects to.0 (link_after PlugComes (obj c.rows to.0)) nobody there)
  plugged_now slot to (Some e) h fits =
      let there = link_there c.rows to.0 PlugComes (may_come c kept slot.0 fits.may.behind to.0 (Plug (Some e)) fits.may.oldest).0 in
      ap (λ (os : List Row). (slice_index_or os to.0 nobody).plugged) (greets true ((answers_in h).kind e) e (attach BindCame e (link PlugComes to.0 (without_front slot.0 c)))).leaves.objects
      ∙ ap (λ (o : Row). o.plugged) (get_or-set_same c.rows.objects to.0 (link_after PlugComes (obj c.rows to.0)) nobody there)

  plug_in : (test : ObjKind → Bool) (slot : SlotId) (to : ObjId) (end : Option EndId) (h : Answered N S) → (let did : Did N S = Delivered slot (record { to = to; word = Plug end }) h in Fits c did) → test Root ≡ false → test (obj c.rows to.0).kind ≡ true →
      IsIn test (obj (after (let did : Did N S = Delivered slot (record { to = to; word = Plug end }) h in did) c).rows to.0)
  plug_in test slot to end h fits none is = record {
    kind = ap test (event_keeps c (Delivered slot (record { to = to; word = Plug end }) h) kept fits to.0 (is_there test c to.0 none is)).kind ∙ is;
    plugged = plugged_now slot to end h fits;
  }

  word_kinds : (slot : SlotId) (to : ObjId) (word : Word) (h : Answered N S) (k : Known) → (let did : Did N S = Delivered slot (record { to = to; word = word }) h in Fits c did) → to.0 ≡ i → AreKinds (after (let did : Did N S = Delivered slot (record { to = to; word = word }) h in did) c) i k →
      AreKinds (after (let did : Did N S = Delivered slot (record { to = to; word = word }) h in did) c) i (known_at_word word h.output_left k)
  word_kinds slot to (Own child) h k fits at are = same_kinds (after (let did : Did N S = Delivered slot (record { to = to; word = (Own child) }) h in did) c) i k (known_at_word (Own child) h.output_left k) refl refl refl are
  word_kinds slot to (Plug None) h k fits at are = record {
    listener = λ x. subst (λ (n : ℕ). IsIn is_listener (obj (after (let did : Did N S = Delivered slot (record { to = to; word = (Plug None) }) h in did) c).rows n)) at (plug_in is_listener slot to None h fits refl (plug_for slot to (Plug None) h fits));
    session = are.session;
    accepted = are.accepted;
  }
  word_kinds slot to (Plug (Some e)) h k fits at are = record {
    listener = are.listener;
    session = λ x. subst (λ (n : ℕ). IsIn is_session (obj (after (let did : Did N S = Delivered slot (record { to = to; word = (Plug (Some e)) }) h in did) c).rows n)) at (plug_in is_session slot to (Some e) h fits refl (plug_for slot to (Plug (Some e)) h fits));
    accepted = λ x. ((are.accepted x).0, refl);
  }
  word_kinds slot to (TermReq child) h k fits at are = same_kinds (after (let did : Did N S = Delivered slot (record { to = to; word = (TermReq child) }) h in did) c) i k (known_at_word (TermReq child) h.output_left k) refl refl refl are
  word_kinds slot to Term h k fits at are = same_kinds (after (let did : Did N S = Delivered slot (record { to = to; word = Term }) h in did) c) i k (known_at_word Term h.output_left k) refl refl refl are
  word_kinds slot to (TermAck child) h k fits at are = same_kinds (after (let did : Did N S = Delivered slot (record { to = to; word = (TermAck child) }) h in did) c) i k (known_at_word (TermAck child) h.output_left k) refl refl refl are
  word_kinds slot to (PipeBind e peer) h k fits at are = same_kinds (after (let did : Did N S = Delivered slot (record { to = to; word = (PipeBind e peer) }) h in did) c) i k (known_at_word (PipeBind e peer) h.output_left k) refl refl refl are
  word_kinds slot to (PipeTerm e) h k fits at are = same_kinds (after (let did : Did N S = Delivered slot (record { to = to; word = (PipeTerm e) }) h in did) c) i k (known_at_word (PipeTerm e) h.output_left k) refl refl refl are
  word_kinds slot to (PipeTermAck e) h k fits at are = same_kinds (after (let did : Did N S = Delivered slot (record { to = to; word = (PipeTermAck e) }) h in did) c) i k (known_at_word (PipeTermAck e) h.output_left k) refl refl refl are
  word_kinds slot to Stop h k fits at are = same_kinds (after (let did : Did N S = Delivered slot (record { to = to; word = Stop }) h in did) c) i k (known_at_word Stop h.output_left k) refl refl refl are
  word_kinds slot to (Reap socket) h k fits at are = same_kinds (after (let did : Did N S = Delivered slot (record { to = to; word = (Reap socket) }) h in did) c) i k (known_at_word (Reap socket) h.output_left k) refl refl refl are

  pub kinds_after : (did : Did N S) → Fits c did → (k : Known) → AreKinds c i k → AreKinds (after did c) i (known_in i did k)
  kinds_after (Asked req reply h) fits k are = request_kinds req reply h k fits are
  kinds_after (Delivered slot letter h) fits k are = by (letter.to.0 == i) refl
    where
      by : (b : Bool) → (letter.to.0 == i) ≡ b → AreKinds (after (Delivered slot letter h) c) i (if b then known_at_word letter.word h.output_left k else k)
      by true e = word_kinds slot letter.to letter.word h k fits (eqb-true letter.to.0 i e) (stay_kinds (Delivered slot letter h) fits k are)
      by false e = stay_kinds (Delivered slot letter h) fits k are
  kinds_after (Delimited e h) fits k are = stay_kinds (Delimited e h) fits k are
