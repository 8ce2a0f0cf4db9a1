-- That an end which was attached is of an object that had its Plug.
use Rattle.std.specs.Prelude.{◌≡◌, ◌<◌, ◌==◌, ℕ, zero, suc, Bool, true, false, cond, not, List, [], ◌∷◌, Some, None, All, length, filter, slice_index_or, refl}
use Rattle.std.proofs.Common.{sym, ap, ◌∙◌, subst}
use Rattle.std.proofs.lemmas.Bool.{eqb-true}
use Rattle.std.proofs.lemmas.List.{get_or-set_same}
use Rattle.std.proofs.lemmas.List.Elements.{All-nil, All-head, All-tail, All-append, All-weaker}
use Rattle.zq_base.specs.declared.ids.EndId.{EndId}
use Rattle.zq_base.specs.declared.ids.ObjId.{ObjId}
use Rattle.zq_base.specs.declared.ids.SlotId.{SlotId}
use Rattle.spec_control.specs.declared.end.Reason.TheVariants.{Closed, BadId, Second, Linger, Link}
use Rattle.spec_control.specs.declared.entry.Answered.{Answered}
use Rattle.spec_control.specs.declared.entry.Did.{Did}
use Rattle.spec_control.specs.declared.entry.Did.TheVariants.{Asked as DidAsk, Delivered, Delimited}
use Rattle.spec_control.specs.declared.entry.Item.{Item}
use Rattle.spec_control.specs.declared.entry.Item.TheVariants.{Event, Seen}
use Rattle.spec_control.specs.declared.letter.Word.{Word}
use Rattle.spec_control.specs.declared.letter.Word.TheVariants.{Own, Plug, TermReq, Term, TermAck, PipeBind, PipeTerm, PipeTermAck, Stop, Reap}
use Rattle.spec_control.specs.declared.request.Req.{Req}
use Rattle.spec_control.specs.declared.request.Req.TheVariants.{Socket as MakeSocket, AskTerm, Bind, Connect, Unbind, Disconnect, Close, Accepted, Shaken, AskEnd, AskOver, OutputOver}
use Rattle.spec_control.specs.declared.request.Reply.{Reply}
use Rattle.spec_control.specs.declared.request.Reply.TheVariants.{Done, Object, Pair, Both, Wait, Asked as WasAsked, Before, Refused}
use Rattle.spec_control.specs.PairPhase.{BindCame}
use Rattle.spec_control.specs.Place.{is_here}
use Rattle.spec_control.specs.Row.{Row, nobody, PlugComes, is_session, is_socket, link_after}
use Rattle.spec_control.specs.Rows.{obj}
use Rattle.spec_control.specs.Control.{Control, attach, begun, link, owner_of}
use Rattle.spec_control.specs.After.{after, answers_in, without_front}
use Rattle.spec_control.specs.ControlRun.{Fits, IsControlRun, IsOpenSocket, MayAsk, after_all}
use Rattle.spec_control.specs.Held.{subject_of}
use Rattle.desk.specs.Lent.{owner_by, place_by}
use Rattle.control_laws.specs.Kept.{Kept}
use Rattle.control_laws.specs.OwnMoves.{own_moves, request_moves, word_moves}
use Rattle.control_laws.specs.Plugged.{HasNoEndYet, NoEndBeforePlug}
use Rattle.control_laws.proofs.ListLemmas.{clash, placed}
use Rattle.control_laws.proofs.AttachLemmas.{greets}
use Rattle.control_laws.proofs.AttachedLemmas.{attached_after}
use Rattle.control_laws.proofs.AttachedOnceLemmas.{AreOld, IsOld, old_after}
use Rattle.control_laws.proofs.GuardLemmas.{may_come}
use Rattle.control_laws.proofs.HeldOpenLemmas.{some_is}
use Rattle.control_laws.proofs.LeadLemmas.{attached_by, old_end}
use Rattle.control_laws.proofs.OwnerLemmas.{mine_all}
use Rattle.control_laws.proofs.PluggedLemmas.{AreForSockets, IsForSocket, SocketsServe, event_keeps, none_for, serve_after}
use Rattle.control_laws.proofs.RootLemmas.{begun_kept}
use Rattle.control_laws.proofs.RunLemmas.{after_kept}
use Rattle.control_laws.proofs.SoundLemmas.{link_there, socket_there, sound_of}

-- each of these ends is of an object that had its Plug
abbrev pub ArePlugged : Control → List EndId → Type 0
ArePlugged c es = All (λ e. (obj c.rows (owner_of c e)).plugged ≡ true) es

combine : {X : Type 0} (P Q R : X → Type 0) → ((x : X) → P x → Q x → R x) → (xs : List X) → All P xs → All Q xs → All R xs
combine P Q R f xs p q = λ k d within. f _ (p k d within) (q k d within)

module _ {N S : Type 0} (c : Control) (did : Did N S) (kept : Kept c) (fits : Fits c did) where
  still : (i : ℕ) → i < length c.rows.objects → (obj c.rows i).plugged ≡ true → (obj (after did c).rows i).plugged ≡ true
  still i there is = (event_keeps c did kept fits i there).plugged is

  -- those that were attached before
  old_plugged : AreOld c → ArePlugged c c.attached → ArePlugged (after did c) c.attached
  old_plugged old are =
      combine (IsOld c) (λ e. (obj c.rows (owner_of c e)).plugged ≡ true) (λ e. (obj (after did c).rows (owner_of (after did c) e)).plugged ≡ true)
      (λ e o is. ap (λ (i : ℕ). (obj (after did c).rows i).plugged) (old_end c did kept fits e o.within o.at).owner ∙ still (owner_of c e) ((sound_of c kept).ends e.pair.0 e.a) is) c.attached old are

  -- those that are attached now are of the event's object
  by_subject : ((i : ℕ) → subject_of did ≡ Some i → (obj (after did c).rows i).plugged ≡ true) → ArePlugged (after did c) (attached_by (own_moves c did))
  by_subject plugged =
      All-weaker (λ e. subject_of did ≡ Some (owner_of (after did c) e)) (λ e. (obj (after did c).rows (owner_of (after did c) e)).plugged ≡ true) (λ e is. plugged (owner_of (after did c) e) is)
      (attached_by (own_moves c did)) (mine_all c kept did fits)

module _ {N S : Type 0} (c : Control) (kept : Kept c) (serve : SocketsServe c.rows c.boxes) where
  none : (did : Did N S) → ArePlugged (after did c) []
  none did = All-nil (λ e. (obj (after did c).rows (owner_of (after did c) e)).plugged ≡ true)

  of_open : (did : Did N S) (fits : Fits c did) (o : ObjId) → subject_of did ≡ Some o.0 → IsOpenSocket (obj c.rows o.0) → ArePlugged (after did c) (attached_by (own_moves c did))
  of_open did fits o subject is =
      by_subject c did kept fits (λ i its. subst (λ (n : ℕ). (obj (after did c).rows n).plugged ≡ true) (some_is (sym subject ∙ its))
      (still c did kept fits o.0 (socket_there c.rows o.0 is.socket) (serve.plugged o.0 is.socket)))

  of_session : (did : Did N S) (fits : Fits c did) (o : ObjId) → subject_of did ≡ Some o.0 → is_session (obj c.rows o.0).kind ≡ true → (obj c.rows o.0).plugged ≡ true → ArePlugged (after did c) (attached_by (own_moves c did))
  of_session did fits o subject session is =
      by_subject c did kept fits (λ i its. subst (λ (n : ℕ). (obj (after did c).rows n).plugged ≡ true) (some_is (sym subject ∙ its))
      (still c did kept fits o.0 (placed (λ (r : Row). not (is_session r.kind)) c.rows.objects nobody o.0 refl (ap not session)) is))

  asked_plugged : (req : Req) (reply : Reply) (h : Answered N S) (fits : Fits c (DidAsk req reply h)) → own_moves c (let did : Did N S = DidAsk req reply h in did) ≡ request_moves c req → MayAsk c req →
      ArePlugged (after (let did : Did N S = DidAsk req reply h in did) c) (attached_by (request_moves c req))
  asked_plugged (MakeSocket kind options) reply h fits own may = none (DidAsk (MakeSocket kind options) reply h)
  asked_plugged AskTerm reply h fits own may = none (DidAsk AskTerm reply h)
  asked_plugged (Bind o at) reply h fits own may = subst (λ ms. ArePlugged (after (DidAsk (Bind o at) reply h) c) (attached_by ms)) own (of_open (DidAsk (Bind o at) reply h) fits o refl may)
  asked_plugged (Connect o at) reply h fits own may = subst (λ ms. ArePlugged (after (DidAsk (Connect o at) reply h) c) (attached_by ms)) own (of_open (DidAsk (Connect o at) reply h) fits o refl may)
  asked_plugged (Unbind o at) reply h fits own may = none (DidAsk (Unbind o at) reply h)
  asked_plugged (Disconnect o at) reply h fits own may = none (DidAsk (Disconnect o at) reply h)
  asked_plugged (Close o) reply h fits own may = none (DidAsk (Close o) reply h)
  asked_plugged (Accepted o) reply h fits own may = none (DidAsk (Accepted o) reply h)
  asked_plugged (Shaken o peer) reply h fits own may =
      subst (λ ms. ArePlugged (after (DidAsk (Shaken o peer) reply h) c) (attached_by ms)) own (of_session (DidAsk (Shaken o peer) reply h) fits o refl may.session may.taken_in.plugged)
  asked_plugged (AskEnd e Closed) reply h fits own may = none (DidAsk (AskEnd e Closed) reply h)
  asked_plugged (AskEnd e BadId) reply h fits own may = none (DidAsk (AskEnd e BadId) reply h)
  asked_plugged (AskEnd e Second) reply h fits own may = none (DidAsk (AskEnd e Second) reply h)
  asked_plugged (AskEnd e Linger) reply h fits own may = none (DidAsk (AskEnd e Linger) reply h)
  asked_plugged (AskEnd e Link) reply h fits own may = none (DidAsk (AskEnd e Link) reply h)
  asked_plugged (AskOver o) reply h fits own may = none (DidAsk (AskOver o) reply h)
  asked_plugged (OutputOver o) reply h fits own may = none (DidAsk (OutputOver o) reply h)

  -- a Plug takes its object in
  plug_comes : (slot : SlotId) (to : ObjId) (e : EndId) (h : Answered N S) → Fits c (Delivered slot (record { to = to; word = Plug (Some e) }) h) →
      (obj (after (let did : Did N S = Delivered slot (record { to = to; word = Plug (Some e) }) h in did) c).rows to.0).plugged ≡ true
  plug_comes slot to e h fits =
      let there = link_there c.rows to.0 PlugComes (may_come c kept slot.0 fits.may.behind to.0 (Plug (Some e)) fits.may.oldest).0 in
      ap (λ (os : List Row). (slice_index_or os to.0 nobody).plugged) (greets true ((answers_in h).kind e) e (attach BindCame e (link PlugComes to.0 (without_front slot.0 c)))).leaves.objects
      ∙ ap (λ (o : Row). o.plugged) (get_or-set_same c.rows.objects to.0 (link_after PlugComes (obj c.rows to.0)) nobody there)

  -- a PipeBind is for a socket
  bind_for : (slot : SlotId) (to : ObjId) (e : EndId) (peer : List ℕ) (h : Answered N S) → Fits c (Delivered slot (record { to = to; word = PipeBind e peer }) h) → is_socket (obj c.rows to.0).kind ≡ true
  bind_for slot to e peer h fits =
      All-head (λ l. IsForSocket c.rows l.to.0 l.word) (record { to = to; word = PipeBind e peer }) fits.may.behind
      (subst (AreForSockets c.rows) fits.may.oldest (serve.binds slot.0))

  word_plugged : (slot : SlotId) (to : ObjId) (word : Word) (h : Answered N S) → Fits c (Delivered slot (record { to = to; word = word }) h) →
      ArePlugged (after (let did : Did N S = Delivered slot (record { to = to; word = word }) h in did) c) (attached_by (word_moves to.0 word))
  word_plugged slot to (Own child) h fits = none (Delivered slot (record { to = to; word = Own child }) h)
  word_plugged slot to (Plug None) h fits = none (Delivered slot (record { to = to; word = Plug None }) h)
  word_plugged slot to (Plug (Some e)) h fits =
      by_subject c (Delivered slot (record { to = to; word = Plug (Some e) }) h) kept fits
      (λ i its. subst (λ (n : ℕ). (obj (after (Delivered slot (record { to = to; word = Plug (Some e) }) h) c).rows n).plugged ≡ true) (some_is its) (plug_comes slot to e h fits))
  word_plugged slot to (TermReq child) h fits = none (Delivered slot (record { to = to; word = TermReq child }) h)
  word_plugged slot to Term h fits = none (Delivered slot (record { to = to; word = Term }) h)
  word_plugged slot to (TermAck child) h fits = none (Delivered slot (record { to = to; word = TermAck child }) h)
  word_plugged slot to (PipeBind e peer) h fits =
      let socket = bind_for slot to e peer h fits in
      by_subject c (Delivered slot (record { to = to; word = PipeBind e peer }) h) kept fits
      (λ i its. subst (λ (n : ℕ). (obj (after (Delivered slot (record { to = to; word = PipeBind e peer }) h) c).rows n).plugged ≡ true) (some_is its)
      (still c (Delivered slot (record { to = to; word = PipeBind e peer }) h) kept fits to.0 (socket_there c.rows to.0 socket) (serve.plugged to.0 socket)))
  word_plugged slot to (PipeTerm e) h fits = none (Delivered slot (record { to = to; word = PipeTerm e }) h)
  word_plugged slot to (PipeTermAck e) h fits = none (Delivered slot (record { to = to; word = PipeTermAck e }) h)
  word_plugged slot to Stop h fits = none (Delivered slot (record { to = to; word = Stop }) h)
  word_plugged slot to (Reap socket) h fits = none (Delivered slot (record { to = to; word = Reap socket }) h)

  new_plugged : (did : Did N S) → Fits c did → ArePlugged (after did c) (attached_by (own_moves c did))
  new_plugged (DidAsk req Done h) fits = asked_plugged req Done h fits refl fits.may.0
  new_plugged (DidAsk req (Object o) h) fits = asked_plugged req (Object o) h fits refl fits.may.0
  new_plugged (DidAsk req (Pair p) h) fits = asked_plugged req (Pair p) h fits refl fits.may.0
  new_plugged (DidAsk req (Both o p) h) fits = asked_plugged req (Both o p) h fits refl fits.may.0
  new_plugged (DidAsk req Wait h) fits = asked_plugged req Wait h fits refl fits.may.0
  new_plugged (DidAsk req WasAsked h) fits = asked_plugged req WasAsked h fits refl fits.may.0
  new_plugged (DidAsk req Before h) fits = none (DidAsk req Before h)
  new_plugged (DidAsk req (Refused refusal) h) fits = none (DidAsk req (Refused refusal) h)
  new_plugged (Delivered slot letter h) fits = word_plugged slot letter.to letter.word h fits
  new_plugged (Delimited e h) fits = none (Delimited e h)

-- ---- over runs
pub record Serves (c : Control) : Type 0 where
  pub sockets : SocketsServe c.rows c.boxes
  pub old : AreOld c
  pub ends : ArePlugged c c.attached

at_begin : (workers i : ℕ) → is_socket (obj (begun workers).rows i).kind ≡ true → (obj (begun workers).rows i).plugged ≡ true
at_begin workers zero is = refl
at_begin workers (suc i) is = refl

begun_serves : (workers : ℕ) → Serves (begun workers)
begun_serves workers = record {
  sockets = record { plugged = at_begin workers; binds = λ m. none_for (begun workers).rows };
  old = All-nil (IsOld (begun workers));
  ends = All-nil (λ e. (obj (begun workers).rows (owner_of (begun workers) e)).plugged ≡ true);
}

module _ {N S : Type 0} where
  serves_after : (c : Control) (did : Did N S) → Kept c → Fits c did → Serves c → Serves (after did c)
  serves_after c did kept fits serves = record {
    sockets = serve_after c did kept fits serves.sockets;
    old = old_after c did kept fits serves.old;
    ends = subst (ArePlugged (after did c)) (sym (attached_after c did))
        (All-append (λ e. (obj (after did c).rows (owner_of (after did c) e)).plugged ≡ true) c.attached (attached_by (own_moves c did))
        (old_plugged c did kept fits serves.old serves.ends) (new_plugged c kept serves.sockets did fits));
  }

  serves_over : (items : List (Item N S)) (c : Control) → Kept c → Serves c → IsControlRun c items → Serves (after_all items c)
  serves_over [] c kept serves run = serves
  serves_over (Event entry ∷ items) c kept serves run = serves_over items (after entry.did c) (after_kept c entry.did kept run.0) (serves_after c entry.did kept run.0 serves) run.1
  serves_over (Seen sight ∷ items) c kept serves run = serves_over items c kept serves run.1

  pub serves_run : (workers : ℕ) (items : List (Item N S)) → IsControlRun (begun workers) items → Serves (after_all items (begun workers))
  serves_run workers items run = serves_over items (begun workers) (begun_kept workers) (begun_serves workers) run

  -- a socket's Plug is never on its way
  pub sockets_are_plugged : (workers : ℕ) (items : List (Item N S)) → IsControlRun (begun workers) items → (i : ℕ) →
      is_socket (obj (after_all items (begun workers)).rows i).kind ≡ true → (obj (after_all items (begun workers)).rows i).plugged ≡ true
  sockets_are_plugged workers items run = (serves_run workers items run).sockets.plugged

filter_none : {X : Type 0} (f : X → Bool) (xs : List X) → All (λ x. f x ≡ false) xs → filter f xs ≡ []
filter_none f [] all = refl
filter_none f (x ∷ xs) all = ap (λ (b : Bool). cond b (x ∷ filter f xs) (filter f xs)) (All-head (λ y. f y ≡ false) x xs all) ∙ filter_none f xs (All-tail (λ y. f y ≡ false) x xs all)

pub no_end_yet : (c : Control) → Serves c → (i : ℕ) → (obj c.rows i).plugged ≡ false → HasNoEndYet c i
no_end_yet c serves i waits = record {
  no_socket = by (is_socket (obj c.rows i).kind) refl;
  none = ap (filter (λ e. is_here (place_by c.rows.pairs e))) (filter_none (λ e. owner_by c.rows.pairs e == i) c.attached (All-weaker (λ e. (obj c.rows (owner_of c e)).plugged ≡ true) (λ e. (owner_by c.rows.pairs e == i) ≡ false) other c.attached serves.ends));
}
  where
    by : (b : Bool) → is_socket (obj c.rows i).kind ≡ b → b ≡ false
    by true e = absurd (clash (obj c.rows i).plugged (serves.sockets.plugged i e) waits)
    by false e = refl

    other : (e : EndId) → (obj c.rows (owner_of c e)).plugged ≡ true → (owner_by c.rows.pairs e == i) ≡ false
    other e is = its (owner_by c.rows.pairs e == i) refl
      where
        its : (b : Bool) → (owner_by c.rows.pairs e == i) ≡ b → b ≡ false
        its true same = absurd (clash (obj c.rows i).plugged (subst (λ (n : ℕ). (obj c.rows n).plugged ≡ true) (eqb-true (owner_by c.rows.pairs e) i same) is) waits)
        its false same = refl

pub no_end_is_there_before_its_plug : (N S : Type 0) → NoEndBeforePlug N S
no_end_is_there_before_its_plug N S workers items run = no_end_yet (after_all items (begun workers)) (serves_run workers items run)
