-- What a caller's items say of an object's ending is what its row says, behind an event.
use Rattle.std.specs.Prelude.{◌≡◌, ◌≢◌, ◌==◌, ◌&&◌, ◌||◌, ℕ, Bool, true, false, Some, None, if◌then◌else◌, refl}
use Rattle.std.proofs.Common.{arith, sym, ap, ◌∙◌, subst}
use Rattle.std.proofs.lemmas.Bool.{eqb-true, ne_eqb}
use Rattle.spec_control.specs.declared.end.Reason.TheVariants.{Closed, BadId, Second, Linger, Link}
use Rattle.spec_control.specs.declared.entry.Answered.{Answered}
use Rattle.spec_control.specs.declared.entry.Did.{Did}
use Rattle.spec_control.specs.declared.entry.Did.TheVariants.{Asked, Delivered, Delimited}
use Rattle.spec_control.specs.declared.letter.Word.{Word}
use Rattle.spec_control.specs.declared.letter.Word.TheVariants.{Own, Plug, TermReq, Term, TermAck, PipeBind, PipeTerm, PipeTermAck, Stop, Reap}
use Rattle.spec_control.specs.declared.object.ObjKind.{ObjKind}
use Rattle.spec_control.specs.declared.object.ObjKind.TheVariants.{Root, Socket as IsSocket, Listener, Session}
use Rattle.spec_control.specs.declared.request.Req.{Req}
use Rattle.spec_control.specs.declared.request.Req.TheVariants.{Socket as MakeSocket, AskTerm, Bind, Connect, Unbind, Disconnect, Close, Accepted, Shaken, AskEnd, AskOver, OutputOver}
use Rattle.spec_control.specs.declared.request.Reply.{Reply}
use Rattle.spec_control.specs.Row.{is_socket}
use Rattle.spec_control.specs.Rows.{obj, is_owner}
use Rattle.spec_control.specs.Control.{Control, owner_of}
use Rattle.spec_control.specs.After.{after}
use Rattle.spec_control.specs.ControlRun.{Fits}
use Rattle.spec_control.specs.Has.{made_by}
use Rattle.spec_control.specs.OwnAsks.{Known, known_at_request, known_at_word, known_in}
use Rattle.control_laws.proofs.ListLemmas.{never}
use Rattle.control_laws.specs.Kept.{Kept}
use Rattle.control_laws.proofs.FlagLemmas.{Flagged, event_flag, set_by_request, set_by_word, set_in}
use Rattle.control_laws.proofs.HeldRowLemmas.{event_keeps}
use Rattle.control_laws.proofs.SoundLemmas.{socket_there}
use Rattle.control_laws.proofs.ThereLemmas.{event_there}
use Rattle.control_laws.proofs.WorkFlagLemmas.{asked_row, is_worker, put_by, put_flag, put_row, told_by, told_flag, works}
use Rattle.control_laws.proofs.HeldEventLemmas.{no_and}
use Rattle.control_laws.proofs.RunLemmas.{is_granted}

-- ---- its Term
told_same : (b x : Bool) (now k : Known) → now.told ≡ k.told → (if b then now else k).told ≡ ((x && false) || k.told)
told_same true true now k h = h
told_same true false now k h = h
told_same false true now k h = refl
told_same false false now k h = refl

request_told : (i : ℕ) (req : Req) (reply : Reply) (k : Known) → (known_at_request i req reply k).told ≡ k.told
request_told i (MakeSocket kind options) reply k = told_same (is_owner i (made_by reply)) false (record k { open_socket = true }) k refl
request_told i AskTerm reply k = refl
request_told i (Bind o at) reply k = refl
request_told i (Connect o at) reply k = refl
request_told i (Unbind o at) reply k = refl
request_told i (Disconnect o at) reply k = refl
request_told i (Close o) reply k = told_same (o.0 == i) false (record k { open_socket = false }) k refl
request_told i (Accepted o) reply k = told_same (is_owner i (made_by reply)) false (record k { session = true; accepted = true }) k refl
request_told i (Shaken o peer) reply k = told_same (o.0 == i) false (record k { shaken = true }) k refl
request_told i (AskEnd e reason) reply k = refl
request_told i (AskOver o) reply k = told_same (o.0 == i) false (record k { asked_over = true }) k refl
request_told i (OutputOver o) reply k = told_same (o.0 == i) false (record k { output_left = false }) k refl

module _ (i : ℕ) (more : i ≢ 0) (c : Control) where
  told_none : (req : Req) → set_by_request told_by i c req ≡ false
  told_none (MakeSocket kind options) = refl
  told_none AskTerm = ap (λ (b : Bool). b && true) (ne_eqb 0 i (λ same. more (sym same)))
  told_none (Bind o at) = refl
  told_none (Connect o at) = refl
  told_none (Unbind o at) = refl
  told_none (Disconnect o at) = refl
  told_none (Close o) = no_and (o.0 == i)
  told_none (Accepted o) = refl
  told_none (Shaken o peer) = refl
  told_none (AskEnd e Closed) = refl
  told_none (AskEnd e BadId) = refl
  told_none (AskEnd e Second) = refl
  told_none (AskEnd e Linger) = no_and (owner_of c e == i)
  told_none (AskEnd e Link) = no_and (owner_of c e == i)
  told_none (AskOver o) = no_and (o.0 == i)
  told_none (OutputOver o) = refl

  word_told : (at : ℕ) (word : Word) (left : Bool) (k : Known) → (if at == i then known_at_word word left k else k).told ≡ (set_by_word told_by i at word || k.told)
  word_told at (Own child) left k = told_same (at == i) (child.0 == i) (known_at_word (Own child) left k) k refl
  word_told at (Plug None) left k = told_same (at == i) (at == i) (known_at_word (Plug None) left k) k refl
  word_told at (Plug (Some e)) left k = told_same (at == i) (at == i) (known_at_word (Plug (Some e)) left k) k refl
  word_told at (TermReq child) left k = told_same (at == i) (child.0 == i) (known_at_word (TermReq child) left k) k refl
  word_told at Term left k = by (at == i)
    where
      by : (b : Bool) → (if b then record k { told = true; output_left = left } else k).told ≡ ((b && true) || k.told)
      by true = refl
      by false = refl
  word_told at (TermAck child) left k = told_same (at == i) (child.0 == i) (known_at_word (TermAck child) left k) k refl
  word_told at (PipeBind e peer) left k = told_same (at == i) false (known_at_word (PipeBind e peer) left k) k refl
  word_told at (PipeTerm e) left k = told_same (at == i) false (known_at_word (PipeTerm e) left k) k refl
  word_told at (PipeTermAck e) left k = told_same (at == i) false (known_at_word (PipeTermAck e) left k) k refl
  word_told at Stop left k = told_same (at == i) (at == i) (known_at_word Stop left k) k refl
  word_told at (Reap socket) left k = told_same (at == i) (socket.0 == i) (known_at_word (Reap socket) left k) k refl

-- whether it was asked, by its row and by the items
abbrev pub ToldAs : ℕ → Control → Known → Type 0
ToldAs i d k = Flagged works asked_row told_by told_flag d.rows i k.told

module _ {N S : Type 0} (i : ℕ) (more : i ≢ 0) (c : Control) where
  told_step : (did : Did N S) (k : Known) → (known_in i did k).told ≡ (set_in told_by i c did || k.told)
  told_step (Asked req reply h) k = request_told i req reply k ∙ sym (ap (λ (b : Bool). b || k.told) (ap (λ (b : Bool). is_granted reply && b) (told_none i more c req) ∙ no_and (is_granted reply)))
  told_step (Delivered slot letter h) k = word_told i more c letter.to.0 letter.word h.output_left k
  told_step (Delimited e h) k = refl

  pub told_after : (did : Did N S) → Kept c → Fits c did → (k : Known) → ToldAs i c k → ToldAs i (after did c) (known_in i did k)
  told_after did kept fits k was =
      subst (λ (b : Bool). Flagged works asked_row told_by told_flag (after did c).rows i b) (sym (told_step did k)) (event_flag works asked_row told_by told_flag c did kept fits i k.told was)

-- ---- its request
over_same : (b x : Bool) (now k : Known) → now.asked_over ≡ k.asked_over → (if b then now else k).asked_over ≡ ((x && false) || k.asked_over)
over_same true true now k h = h
over_same true false now k h = h
over_same false true now k h = refl
over_same false false now k h = refl

-- the request asks to be told to end
abbrev asks_over_it : ℕ → Req → Bool
asks_over_it i (MakeSocket kind options) = false
asks_over_it i AskTerm = false
asks_over_it i (Bind o at) = false
asks_over_it i (Connect o at) = false
asks_over_it i (Unbind o at) = false
asks_over_it i (Disconnect o at) = false
asks_over_it i (Close o) = false
asks_over_it i (Accepted o) = false
asks_over_it i (Shaken o peer) = false
asks_over_it i (AskEnd e reason) = false
asks_over_it i (AskOver o) = o.0 == i
asks_over_it i (OutputOver o) = false

request_over : (i : ℕ) (req : Req) (reply : Reply) (k : Known) → (known_at_request i req reply k).asked_over ≡ (asks_over_it i req || k.asked_over)
request_over i (MakeSocket kind options) reply k = over_same (is_owner i (made_by reply)) false (record k { open_socket = true }) k refl
request_over i AskTerm reply k = refl
request_over i (Bind o at) reply k = refl
request_over i (Connect o at) reply k = refl
request_over i (Unbind o at) reply k = refl
request_over i (Disconnect o at) reply k = refl
request_over i (Close o) reply k = over_same (o.0 == i) false (record k { open_socket = false }) k refl
request_over i (Accepted o) reply k = over_same (is_owner i (made_by reply)) false (record k { session = true; accepted = true }) k refl
request_over i (Shaken o peer) reply k = over_same (o.0 == i) false (record k { shaken = true }) k refl
request_over i (AskEnd e reason) reply k = refl
request_over i (AskOver o) reply k = by (o.0 == i)
  where
    by : (b : Bool) → (if b then record k { asked_over = true } else k).asked_over ≡ (b || k.asked_over)
    by true = refl
    by false = refl
request_over i (OutputOver o) reply k = over_same (o.0 == i) false (record k { output_left = false }) k refl

module _ (i : ℕ) where
  word_over : (at : ℕ) (word : Word) (left : Bool) (k : Known) → (if at == i then known_at_word word left k else k).asked_over ≡ (set_by_word put_by i at word || k.asked_over)
  word_over at (Own child) left k = over_same (at == i) (child.0 == i) (known_at_word (Own child) left k) k refl
  word_over at (Plug None) left k = over_same (at == i) (at == i) (known_at_word (Plug None) left k) k refl
  word_over at (Plug (Some e)) left k = over_same (at == i) (at == i) (known_at_word (Plug (Some e)) left k) k refl
  word_over at (TermReq child) left k = over_same (at == i) (child.0 == i) (known_at_word (TermReq child) left k) k refl
  word_over at Term left k = over_same (at == i) (at == i) (known_at_word Term left k) k refl
  word_over at (TermAck child) left k = over_same (at == i) (child.0 == i) (known_at_word (TermAck child) left k) k refl
  word_over at (PipeBind e peer) left k = over_same (at == i) false (known_at_word (PipeBind e peer) left k) k refl
  word_over at (PipeTerm e) left k = over_same (at == i) false (known_at_word (PipeTerm e) left k) k refl
  word_over at (PipeTermAck e) left k = over_same (at == i) false (known_at_word (PipeTermAck e) left k) k refl
  word_over at Stop left k = over_same (at == i) (at == i) (known_at_word Stop left k) k refl
  word_over at (Reap socket) left k = over_same (at == i) (socket.0 == i) (known_at_word (Reap socket) left k) k refl

-- whether its request was put
abbrev pub OverAs : ℕ → Control → Known → Type 0
OverAs i d k = Flagged works put_row put_by put_flag d.rows i k.asked_over

module _ {N S : Type 0} (i : ℕ) (c : Control) (kept : Kept c) (k : Known) (was : OverAs i c k) where
  put_so : (did : Did N S) → Fits c did → (known_in i did k).asked_over ≡ (set_in put_by i c did || k.asked_over) → OverAs i (after did c) (known_in i did k)
  put_so did fits same =
      subst (λ (b : Bool). Flagged works put_row put_by put_flag (after did c).rows i b) (sym same) (event_flag works put_row put_by put_flag c did kept fits i k.asked_over was)

  asked_put : (req : Req) (reply : Reply) (h : Answered N S) → Fits c (Asked req reply h) → asks_over_it i req ≡ (is_granted reply && set_by_request put_by i c req) → OverAs i (after (Asked req reply h) c) (known_in i (let did : Did N S = Asked req reply h in did) k)
  asked_put req reply h fits same = put_so (Asked req reply h) fits (request_over i req reply k ∙ ap (λ (b : Bool). b || k.asked_over) same)

  none_put : (req : Req) (reply : Reply) (h : Answered N S) → Fits c (Asked req reply h) → asks_over_it i req ≡ false → set_by_request put_by i c req ≡ false → OverAs i (after (Asked req reply h) c) (known_in i (let did : Did N S = Asked req reply h in did) k)
  none_put req reply h fits a b = asked_put req reply h fits (a ∙ sym (ap (λ (x : Bool). is_granted reply && x) b ∙ no_and (is_granted reply)))

  -- a socket that closes is none of these
  closed_put : (did : Did N S) → Fits c did → is_socket (obj c.rows i).kind ≡ true → OverAs i (after did c) (known_in i did k)
  closed_put did fits socket =
      let there = socket_there c.rows i socket in
      record {
        is = λ w. absurd (none (obj (after did c).rows i).kind (ap is_socket (event_keeps c did kept fits i there).kind ∙ socket) w);
        unmade = λ past. (let still = event_there c did kept fits i there in absurd (omega (arith, past, still)));
      }
    where
      none : (kind : ObjKind) → is_socket kind ≡ true → is_worker kind ≡ true → ⊥
      none Root s w = never w
      none (IsSocket kind) s w = never w
      none Listener s w = never s
      none Session s w = never s

  request_put : (req : Req) (reply : Reply) (h : Answered N S) → Fits c (Asked req reply h) → OverAs i (after (Asked req reply h) c) (known_in i (let did : Did N S = Asked req reply h in did) k)
  request_put (MakeSocket kind options) reply h fits = none_put (MakeSocket kind options) reply h fits refl refl
  request_put AskTerm reply h fits = none_put AskTerm reply h fits refl (no_and (0 == i))
  request_put (Bind o at) reply h fits = none_put (Bind o at) reply h fits refl refl
  request_put (Connect o at) reply h fits = none_put (Connect o at) reply h fits refl refl
  request_put (Unbind o at) reply h fits = none_put (Unbind o at) reply h fits refl refl
  request_put (Disconnect o at) reply h fits = none_put (Disconnect o at) reply h fits refl refl
  request_put (Close o) reply h fits = by (o.0 == i) refl
    where
      by : (b : Bool) → (o.0 == i) ≡ b → OverAs i (after (Asked (Close o) reply h) c) (known_in i (let did : Did N S = Asked (Close o) reply h in did) k)
      by true e = closed_put (Asked (Close o) reply h) fits (subst (λ (n : ℕ). is_socket (obj c.rows n).kind ≡ true) (eqb-true o.0 i e) fits.may.0.socket)
      by false e = none_put (Close o) reply h fits refl (ap (λ (x : Bool). x && true) e)
  request_put (Accepted o) reply h fits = none_put (Accepted o) reply h fits refl refl
  request_put (Shaken o peer) reply h fits = none_put (Shaken o peer) reply h fits refl refl
  request_put (AskEnd e Closed) reply h fits = none_put (AskEnd e Closed) reply h fits refl refl
  request_put (AskEnd e BadId) reply h fits = none_put (AskEnd e BadId) reply h fits refl refl
  request_put (AskEnd e Second) reply h fits = none_put (AskEnd e Second) reply h fits refl refl
  request_put (AskEnd e Linger) reply h fits = none_put (AskEnd e Linger) reply h fits refl (no_and (owner_of c e == i))
  request_put (AskEnd e Link) reply h fits = none_put (AskEnd e Link) reply h fits refl (no_and (owner_of c e == i))
  request_put (AskOver o) reply h fits = asked_put (AskOver o) reply h fits (sym (and_true (o.0 == i)) ∙ ap (λ (r : Reply). is_granted r && (o.0 == i && true)) (sym fits.may.1))
    where
      and_true : (b : Bool) → (b && true) ≡ b
      and_true true = refl
      and_true false = refl
  request_put (OutputOver o) reply h fits = none_put (OutputOver o) reply h fits refl refl

  pub over_after : (did : Did N S) → Fits c did → OverAs i (after did c) (known_in i did k)
  over_after (Asked req reply h) fits = request_put req reply h fits
  over_after (Delivered slot letter h) fits = put_so (Delivered slot letter h) fits (word_over i letter.to.0 letter.word h.output_left k)
  over_after (Delimited e h) fits = put_so (Delimited e h) fits refl
