-- A session that asked its end with a reason did so by an item of the caller that has it.
use Rattle.std.specs.Prelude.{◌≡◌, ◌<◌, ◌==◌, ◌&&◌, ◌||◌, ◌++◌, ℕ, zero, suc, Bool, true, false, not, cond, List, [], ◌∷◌, Some, None, if◌then◌else◌, refl}
use Rattle.std.specs.List.{list_any}
use Rattle.std.proofs.Common.{sym, ap, ◌∙◌, subst}
use Rattle.std.proofs.lemmas.Bool.{eq-eqb, eqb-true}
use Rattle.std.proofs.lemmas.List.{append-nil, append_assoc, get_or_past}
use Rattle.zq_base.specs.declared.ids.EndId.{EndId}
use Rattle.spec_control.specs.declared.end.Reason.{Reason}
use Rattle.spec_control.specs.declared.end.Reason.TheVariants.{Closed, BadId, Second, Linger, Link}
use Rattle.spec_control.specs.declared.entry.Answered.{Answered}
use Rattle.spec_control.specs.declared.entry.Did.{Did}
use Rattle.spec_control.specs.declared.entry.Did.TheVariants.{Asked, Delivered, Delimited}
use Rattle.spec_control.specs.declared.entry.Item.{Item}
use Rattle.spec_control.specs.declared.entry.Item.TheVariants.{Event, Seen}
use Rattle.spec_control.specs.declared.entry.Sight.{Sight}
use Rattle.spec_control.specs.declared.letter.Word.{Word}
use Rattle.spec_control.specs.declared.letter.Word.TheVariants.{Own, Plug, TermReq, Term, TermAck, PipeBind, PipeTerm, PipeTermAck, Stop, Reap}
use Rattle.spec_control.specs.declared.request.Req.{Req}
use Rattle.spec_control.specs.declared.request.Req.TheVariants.{Socket as MakeSocket, AskTerm, Bind, Connect, Unbind, Disconnect, Close, Accepted, Shaken, AskEnd, AskOver, OutputOver}
use Rattle.spec_control.specs.declared.request.Reply.{Reply}
use Rattle.spec_control.specs.Row.{Row, LinkEvent, nobody, is_session}
use Rattle.spec_control.specs.Rows.{obj, is_owner}
use Rattle.spec_control.specs.Control.{Control, begun, end_of, is_end, next_object, owner_of}
use Rattle.spec_control.specs.After.{after, pair_or_none}
use Rattle.spec_control.specs.ControlRun.{Fits, IsControlRun, after_all}
use Rattle.spec_control.specs.Held.{caller_of, items_by}
use Rattle.spec_control.specs.Has.{AreBy, IsBy, acts_in_request, given_up, given_by_request, has_after, has_then, taken_by_request, taken_in}
use Rattle.spec_control.specs.OwnAsks.{asks_end, is_ask, is_reason}
use Rattle.control_laws.proofs.ListLemmas.{never, left, right, placed}
use Rattle.control_laws.specs.Kept.{Kept}
use Rattle.control_laws.specs.Move.{Move}
use Rattle.control_laws.specs.OwnMoves.{own_moves}
use Rattle.control_laws.proofs.AskLemmas.{end_self}
use Rattle.control_laws.proofs.EndFitLemmas.{EndsFit, begun_fit, ends_fit_after}
use Rattle.control_laws.proofs.GrownLemmas.{ShapeOf, same_shape, shape}
use Rattle.control_laws.proofs.FlagLemmas.{Flagged, IsFlag, event_flag, set_by_request, set_by_word, set_in}
use Rattle.control_laws.proofs.HeldOpenLemmas.{has_snoc, none_some, owned_by}
use Rattle.control_laws.proofs.HeldRowLemmas.{event_row, none_touches}
use Rattle.control_laws.proofs.OwnFoldLemmas.{not_closed}
use Rattle.control_laws.proofs.RootLemmas.{begun_kept}
use Rattle.control_laws.proofs.RunLemmas.{after_kept, is_granted}
use Rattle.control_laws.proofs.WorkFlagLemmas.{linger_by, linger_flag, linger_row, link_by, link_flag, link_row, linked_row_is, session_row_is}
use Rattle.control_laws.proofs.HeldEventLemmas.{no_and}
use Rattle.control_laws.proofs.LawLemmas.{session_is}

-- the end of a session, by its row
abbrev pub own_end : Row → EndId
own_end o = end_of (pair_or_none o.pair) o.accepted

abbrev end_by : ShapeOf → EndId
end_by s = end_of (pair_or_none s.1.0) s.1.1

-- the caller that has an object asked this end with this reason
pub record AskedBy {N S : Type 0} (past : List (Item N S)) (i : ℕ) (e : EndId) (reason : Reason) : Type 0 where
  pub by : ℕ
  pub has : has_after i past ≡ Some by
  pub asked : list_any (is_ask e reason) (items_by by past) ≡ true

-- the request asks an end of this object with this reason
pub record AsksFor (reason : Reason) (c : Control) (i : ℕ) (req : Req) : Type 0 where
  pub end : EndId
  pub is : req ≡ AskEnd end reason
  pub owner : owner_of c end ≡ i

or_true : (b : Bool) → (b || true) ≡ true
or_true true = refl
or_true false = refl

module _ {N S : Type 0} where
  asked_more : (f : Item N S → Bool) (k : ℕ) (xs ys : List (Item N S)) → list_any f (items_by k xs) ≡ true → list_any f (items_by k (xs ++ ys)) ≡ true
  asked_more f k [] ys h = absurd (never h)
  asked_more f k (x ∷ xs) ys h = by (caller_of x == k) (asked_more f k xs ys) h
    where
      first : (a : Bool) → (list_any f (items_by k xs) ≡ true → list_any f (items_by k (xs ++ ys)) ≡ true) → (a || list_any f (items_by k xs)) ≡ true → (a || list_any f (items_by k (xs ++ ys))) ≡ true
      first true rest g = refl
      first false rest g = rest g

      by : (b : Bool) → (list_any f (items_by k xs) ≡ true → list_any f (items_by k (xs ++ ys)) ≡ true) → list_any f (cond b (x ∷ items_by k xs) (items_by k xs)) ≡ true → list_any f (cond b (x ∷ items_by k (xs ++ ys)) (items_by k (xs ++ ys))) ≡ true
      by true rest g = first (f x) rest g
      by false rest g = rest g

  asked_last : (f : Item N S → Bool) (k : ℕ) (xs : List (Item N S)) (x : Item N S) → caller_of x ≡ k → f x ≡ true → list_any f (items_by k (xs ++ x ∷ [])) ≡ true
  asked_last f k [] x is passes = ap (λ (b : Bool). list_any f (cond b (x ∷ []) [])) (eq-eqb (caller_of x) k is) ∙ ap (λ (b : Bool). b || false) passes
  asked_last f k (y ∷ xs) x is passes = by (caller_of y == k) (asked_last f k xs x is passes)
    where
      by : (b : Bool) → list_any f (items_by k (xs ++ x ∷ [])) ≡ true → list_any f (cond b (y ∷ items_by k (xs ++ x ∷ [])) (items_by k (xs ++ x ∷ []))) ≡ true
      by true rest = ap (λ (b : Bool). f y || b) rest ∙ or_true (f y)
      by false rest = rest

  -- a row keeps what it says of its ends
  pub event_shape : (c : Control) (did : Did N S) → Kept c → Fits c did → (i : ℕ) → i < next_object c → shape (obj (after did c).rows i) ≡ shape (obj c.rows i)
  event_shape c did kept fits i there =
      event_row shape (λ (i : ℕ) (m : Move). false) (λ event o i may_so free. same_shape event o) (λ o. refl) (λ i m free. refl) c did kept fits i there (none_touches (own_moves c did))

module _ (watched flag : Row → Bool) (does : LinkEvent → Bool) (is_flag : IsFlag watched flag does) (reason : Reason)
    (same : is_reason reason reason ≡ true)
    (session : (o : Row) → watched o ≡ true → is_session o.kind ≡ true)
    (word_none : (i at : ℕ) (word : Word) → set_by_word does i at word ≡ false)
    (asks : (i : ℕ) (c : Control) (req : Req) → set_by_request does i c req ≡ true → AsksFor reason c i req) where
  -- where its row says that it asked, somebody did
  abbrev pub IsAsked : {N S : Type 0} → List (Item N S) → Control → ℕ → Type 0
  IsAsked past c i = watched (obj c.rows i) ≡ true → flag (obj c.rows i) ≡ true → AskedBy past i (own_end (obj c.rows i)) reason

  module _ {N S : Type 0} (past : List (Item N S)) (c : Control) (kept : Kept c) (fit : EndsFit c.rows) (i b : ℕ) where
    abbrev more : Did N S → List (Item N S)
    more did = past ++ Event (record { by = b; did = did }) ∷ []

    -- it had asked before
    asked_still : (did : Did N S) → Fits c did → IsBy past c did b → watched (obj c.rows i) ≡ true → AskedBy past i (own_end (obj c.rows i)) reason → AskedBy (more did) i (own_end (obj (after did c).rows i)) reason
    asked_still did fits may w was = record {
      by = was.by;
      has = has_snoc i None past (Event (record { by = b; did = did })) ∙ untaken (is_owner i (taken_in did)) refl;
      asked = subst (λ (e : EndId). list_any (is_ask e reason) (items_by was.by (more did)) ≡ true) (sym end_same) (asked_more (is_ask (own_end (obj c.rows i)) reason) was.by past (Event (record { by = b; did = did }) ∷ []) was.asked);
    }
      where
        there : i < next_object c
        there = placed (λ (o : Row). not (watched o)) c.rows.objects nobody i (ap not is_flag.nobodys) (ap not w)

        end_same : own_end (obj (after did c).rows i) ≡ own_end (obj c.rows i)
        end_same = ap end_by (event_shape c did kept fits i there)

        free : is_owner i (given_up did) ≡ false
        free = not_closed c did fits i (session_is (obj c.rows i).kind (session (obj c.rows i) w))

        untaken : (t : Bool) → is_owner i (taken_in did) ≡ t → has_then i (Event (record { by = b; did = did })) (has_after i past) ≡ Some was.by
        untaken true t = absurd (none_some (sym (may.takes i (owned_by i (taken_in did) t)) ∙ was.has))
        untaken false t =
            ap (λ (y : Bool). if y then Some b else (if is_owner i (given_up did) then None else has_after i past)) t ∙ ap (λ (y : Bool). if y then None else has_after i past) free ∙ was.has

    -- it asks now
    asked_now : (req : Req) (reply : Reply) (h : Answered N S) → Fits c (Asked req reply h) → IsBy past c (Asked req reply h) b → AsksFor reason c i req → AskedBy (more (Asked req reply h)) i (own_end (obj (after (Asked req reply h) c).rows i)) reason
    asked_now req reply h fits may ask = record {
      by = b;
      has = has_snoc i None past (Event (record { by = b; did = Asked req reply h }))
          ∙ ap (λ (q : Req). if is_owner i (taken_by_request q reply) then Some b else (if is_owner i (given_by_request q) then None else has_after i past)) ask.is
          ∙ may.acts i (ap (acts_in_request c) ask.is ∙ ap (λ (n : ℕ). Some n) ask.owner);
      asked = asked_last (is_ask (own_end (obj (after (Asked req reply h) c).rows i)) reason) b past (Event (record { by = b; did = Asked req reply h })) refl
          (ap (asks_end (own_end (obj (after (Asked req reply h) c).rows i)) reason) ask.is
          ∙ ap (λ (e : EndId). is_end e ask.end && is_reason reason reason) end_is ∙ ap (λ (x : Bool). x && is_reason reason reason) (end_self ask.end) ∙ same);
    }
      where
        asked_session : is_session (obj c.rows (owner_of c ask.end)).kind ≡ true
        asked_session = (subst (λ (q : Req). Fits c (Asked q reply h)) ask.is fits).may.0.session

        there : i < next_object c
        there =
            placed (λ (o : Row). not (is_session o.kind)) c.rows.objects nobody i refl (ap not (subst (λ (n : ℕ). is_session (obj c.rows n).kind ≡ true) ask.owner asked_session))

        mine : (pair_or_none (obj c.rows (owner_of c ask.end)).pair ≡ ask.end.pair.0) × ((obj c.rows (owner_of c ask.end)).accepted ≡ ask.end.a)
        mine = let both = fit ask.end.pair.0 ask.end.a asked_session in (ap pair_or_none both.0, both.1)

        end_is : own_end (obj (after (Asked req reply h) c).rows i) ≡ ask.end
        end_is =
            ap end_by (event_shape c (Asked req reply h) kept fits i there) ∙ ap (λ (n : ℕ). own_end (obj c.rows n)) (sym ask.owner)
            ∙ ap (λ (n : ℕ). end_of n (obj c.rows (owner_of c ask.end)).accepted) mine.0 ∙ ap (λ (x : Bool). end_of ask.end.pair.0 x) mine.1

    set_now : (did : Did N S) → Fits c did → IsBy past c did b → set_in does i c did ≡ true → AskedBy (more did) i (own_end (obj (after did c).rows i)) reason
    set_now (Asked req reply h) fits may is = asked_now req reply h fits may (asks i c req (right (is_granted reply) _ is))
    set_now (Delivered slot letter h) fits may is = absurd (never (sym (word_none i letter.to.0 letter.word) ∙ is))
    set_now (Delimited e h) fits may is = absurd (never is)

    asked_then : (did : Did N S) → Fits c did → IsBy past c did b → IsAsked past c i → IsAsked (more did) (after did c) i
    asked_then did fits may was w f = by (set_in does i c did) refl
      where
        before : Flagged watched flag does is_flag c.rows i (watched (obj c.rows i) && flag (obj c.rows i))
        before = record {
          is = λ h. sym (ap (λ (x : Bool). x && flag (obj c.rows i)) h);
          unmade = λ far. ap (λ (o : Row). watched o && flag o) (get_or_past c.rows.objects i nobody far) ∙ ap (λ (x : Bool). x && flag nobody) is_flag.nobodys;
        }

        now : (set_in does i c did || (watched (obj c.rows i) && flag (obj c.rows i))) ≡ true
        now = sym ((event_flag watched flag does is_flag c did kept fits i (watched (obj c.rows i) && flag (obj c.rows i)) before).is w) ∙ f

        by : (x : Bool) → set_in does i c did ≡ x → AskedBy (more did) i (own_end (obj (after did c).rows i)) reason
        by true e = set_now did fits may e
        by false e =
            let both = sym (ap (λ (x : Bool). x || (watched (obj c.rows i) && flag (obj c.rows i))) e) ∙ now in
            let watch = left (watched (obj c.rows i)) (flag (obj c.rows i)) both in
            asked_still did fits may watch (was watch (right (watched (obj c.rows i)) (flag (obj c.rows i)) both))

  seen_by : {N S : Type 0} (past : List (Item N S)) (sight : Sight) (i : ℕ) (e : EndId) → AskedBy past i e reason → AskedBy (past ++ Seen sight ∷ []) i e reason
  seen_by past sight i e was = record { by = was.by; has = has_snoc i None past (Seen sight) ∙ was.has; asked = asked_more (is_ask e reason) was.by past (Seen sight ∷ []) was.asked }

  asked_over : {N S : Type 0} (i : ℕ) (items past : List (Item N S)) (c : Control) → Kept c → EndsFit c.rows → IsControlRun c items → AreBy past c items → IsAsked past c i → IsAsked (past ++ items) (after_all items c) i
  asked_over i [] past c kept fit run may was w f = subst (λ ys. AskedBy ys i (own_end (obj c.rows i)) reason) (sym (append-nil past)) (was w f)
  asked_over i (Event entry ∷ items) past c kept fit run may was w f =
      subst (λ ys. AskedBy ys i (own_end (obj (after_all items (after entry.did c)).rows i)) reason) (append_assoc past (Event entry ∷ []) items)
      (asked_over i items (past ++ Event entry ∷ []) (after entry.did c) (after_kept c entry.did kept run.0) (ends_fit_after c entry.did kept run.0 fit) run.1 may.1
      (asked_then past c kept fit i entry.by entry.did run.0 may.0 was) w f)
  asked_over i (Seen sight ∷ items) past c kept fit run may was w f =
      subst (λ ys. AskedBy ys i (own_end (obj (after_all items c).rows i)) reason) (append_assoc past (Seen sight ∷ []) items)
      (asked_over i items (past ++ Seen sight ∷ []) c kept fit run.1 may.1 (λ v g. seen_by past sight i (own_end (obj c.rows i)) (was v g)) w f)

  pub asked_run : {N S : Type 0} (workers : ℕ) (items : List (Item N S)) → IsControlRun (begun workers) items → AreBy [] (begun workers) items → (i : ℕ) → IsAsked items (after_all items (begun workers)) i
  asked_run {N} {S} workers items run may i =
      asked_over i items [] (begun workers) (begun_kept workers) (begun_fit workers) run may (λ w f. absurd (none i w))
    where
      none : (i : ℕ) → watched (obj (begun workers).rows i) ≡ true → ⊥
      none zero w = never (session (obj (begun workers).rows zero) w)
      none (suc n) w = never (session (obj (begun workers).rows (suc n)) w)

-- ---- with `linger`, and with `link`
linger_word : (i at : ℕ) (word : Word) → set_by_word linger_by i at word ≡ false
linger_word i at (Own child) = no_and (child.0 == i)
linger_word i at (Plug end) = no_and (at == i)
linger_word i at (TermReq child) = no_and (child.0 == i)
linger_word i at Term = no_and (at == i)
linger_word i at (TermAck child) = no_and (child.0 == i)
linger_word i at (PipeBind e peer) = refl
linger_word i at (PipeTerm e) = refl
linger_word i at (PipeTermAck e) = refl
linger_word i at Stop = no_and (at == i)
linger_word i at (Reap socket) = no_and (socket.0 == i)

linger_asks : (i : ℕ) (c : Control) (req : Req) → set_by_request linger_by i c req ≡ true → AsksFor Linger c i req
linger_asks i c (MakeSocket kind options) h = absurd (never h)
linger_asks i c AskTerm h = absurd (never (sym (no_and (0 == i)) ∙ h))
linger_asks i c (Bind o at) h = absurd (never h)
linger_asks i c (Connect o at) h = absurd (never h)
linger_asks i c (Unbind o at) h = absurd (never h)
linger_asks i c (Disconnect o at) h = absurd (never h)
linger_asks i c (Close o) h = absurd (never (sym (no_and (o.0 == i)) ∙ h))
linger_asks i c (Accepted o) h = absurd (never h)
linger_asks i c (Shaken o peer) h = absurd (never h)
linger_asks i c (AskEnd e Closed) h = absurd (never h)
linger_asks i c (AskEnd e BadId) h = absurd (never h)
linger_asks i c (AskEnd e Second) h = absurd (never h)
linger_asks i c (AskEnd e Linger) h = record { end = e; is = refl; owner = eqb-true (owner_of c e) i (left (owner_of c e == i) _ h) }
linger_asks i c (AskEnd e Link) h = absurd (never (sym (no_and (owner_of c e == i)) ∙ h))
linger_asks i c (AskOver o) h = absurd (never (sym (no_and (o.0 == i)) ∙ h))
linger_asks i c (OutputOver o) h = absurd (never h)

link_word : (i at : ℕ) (word : Word) → set_by_word link_by i at word ≡ false
link_word i at (Own child) = no_and (child.0 == i)
link_word i at (Plug end) = no_and (at == i)
link_word i at (TermReq child) = no_and (child.0 == i)
link_word i at Term = no_and (at == i)
link_word i at (TermAck child) = no_and (child.0 == i)
link_word i at (PipeBind e peer) = refl
link_word i at (PipeTerm e) = refl
link_word i at (PipeTermAck e) = refl
link_word i at Stop = no_and (at == i)
link_word i at (Reap socket) = no_and (socket.0 == i)

link_asks : (i : ℕ) (c : Control) (req : Req) → set_by_request link_by i c req ≡ true → AsksFor Link c i req
link_asks i c (MakeSocket kind options) h = absurd (never h)
link_asks i c AskTerm h = absurd (never (sym (no_and (0 == i)) ∙ h))
link_asks i c (Bind o at) h = absurd (never h)
link_asks i c (Connect o at) h = absurd (never h)
link_asks i c (Unbind o at) h = absurd (never h)
link_asks i c (Disconnect o at) h = absurd (never h)
link_asks i c (Close o) h = absurd (never (sym (no_and (o.0 == i)) ∙ h))
link_asks i c (Accepted o) h = absurd (never h)
link_asks i c (Shaken o peer) h = absurd (never h)
link_asks i c (AskEnd e Closed) h = absurd (never h)
link_asks i c (AskEnd e BadId) h = absurd (never h)
link_asks i c (AskEnd e Second) h = absurd (never h)
link_asks i c (AskEnd e Linger) h = absurd (never (sym (no_and (owner_of c e == i)) ∙ h))
link_asks i c (AskEnd e Link) h = record { end = e; is = refl; owner = eqb-true (owner_of c e) i (left (owner_of c e == i) _ h) }
link_asks i c (AskOver o) h = absurd (never (sym (no_and (o.0 == i)) ∙ h))
link_asks i c (OutputOver o) h = absurd (never h)

pub linger_run : {N S : Type 0} (workers : ℕ) (items : List (Item N S)) → IsControlRun (begun workers) items → AreBy [] (begun workers) items → (i : ℕ) →
    is_session (obj (after_all items (begun workers)).rows i).kind ≡ true → (obj (after_all items (begun workers)).rows i).asked_linger ≡ true → AskedBy items i (own_end (obj (after_all items (begun workers)).rows i)) Linger
linger_run workers items run may i = asked_run session_row_is linger_row linger_by linger_flag Linger refl (λ o h. h) linger_word linger_asks workers items run may i

pub link_run : {N S : Type 0} (workers : ℕ) (items : List (Item N S)) → IsControlRun (begun workers) items → AreBy [] (begun workers) items → (i : ℕ) →
    linked_row_is (obj (after_all items (begun workers)).rows i) ≡ true → (obj (after_all items (begun workers)).rows i).asked_link ≡ true → AskedBy items i (own_end (obj (after_all items (begun workers)).rows i)) Link
link_run workers items run may i = asked_run linked_row_is link_row link_by link_flag Link refl (λ o h. left (is_session o.kind) o.accepted h) link_word link_asks workers items run may i
