-- What is read off a caller's own items of an object that it has is what is read off all.
use Rattle.std.specs.Prelude.{◌≡◌, ◌≢◌, ◌==◌, ◌||◌, ◌++◌, ℕ, zero, suc, Bool, true, false, cond, List, [], ◌∷◌, Option, Some, None, if◌then◌else◌, refl}
use Rattle.std.proofs.Common.{sym, ap, ◌∙◌, subst}
use Rattle.std.proofs.lemmas.Bool.{eq-eqb, eqb-true}
use Rattle.std.proofs.lemmas.List.{append-nil, append_assoc}
use Rattle.zq_base.specs.declared.ids.ObjId.{ObjId}
use Rattle.spec_control.specs.declared.entry.Did.{Did}
use Rattle.spec_control.specs.declared.entry.Did.TheVariants.{Asked, Delivered, Delimited}
use Rattle.spec_control.specs.declared.entry.Item.{Item}
use Rattle.spec_control.specs.declared.entry.Item.TheVariants.{Event, Seen}
use Rattle.spec_control.specs.declared.letter.Word.{Word}
use Rattle.spec_control.specs.declared.letter.Word.TheVariants.{Own, Plug, TermReq, Term, TermAck, PipeBind, PipeTerm, PipeTermAck, Stop, Reap}
use Rattle.spec_control.specs.declared.request.Req.TheVariants.{Socket as MakeSocket, AskTerm, Bind, Connect, Unbind, Disconnect, Close, Accepted, Shaken, AskEnd, AskOver, OutputOver}
use Rattle.spec_control.specs.Row.{is_socket}
use Rattle.spec_control.specs.Rows.{obj, is_owner}
use Rattle.spec_control.specs.Control.{Control, begun}
use Rattle.spec_control.specs.After.{after}
use Rattle.spec_control.specs.ControlRun.{Fits, IsControlRun, after_all}
use Rattle.spec_control.specs.Held.{Held, ends_after, ends_at_word, ends_in, ends_over, heard_of, items_by, subject_of}
use Rattle.spec_control.specs.Has.{AreBy, IsBy, acts_in, acts_at_word, given_up, has_after, has_then, made_by, taken_by_word, taken_in, unless_root}
use Rattle.spec_control.specs.OwnAsks.{Known, known_after, known_at_word, known_in, known_over, unknown}
use Rattle.control_laws.proofs.ListLemmas.{never}
use Rattle.control_laws.specs.Kept.{Kept}
use Rattle.control_laws.proofs.HeldOpenLemmas.{has_snoc, none_some, owned_by, some_is}
use Rattle.control_laws.proofs.HeldRowLemmas.{event_keeps}
use Rattle.control_laws.proofs.RootLemmas.{begun_kept}
use Rattle.control_laws.proofs.RunLemmas.{after_kept}
use Rattle.control_laws.proofs.SoundLemmas.{socket_there}
use Rattle.control_laws.proofs.MomentLemmas.{either_false}

-- an object acts in an event, or is taken in by it
abbrev pub is_of : {N S : Type 0} → ℕ → Control → Did N S → Bool
is_of i c did = is_owner i (acts_in c did) || is_owner i (taken_in did)

module _ {N S : Type 0} where
  pub not_closed : (c : Control) (did : Did N S) → Fits c did → (i : ℕ) → is_socket (obj c.rows i).kind ≡ false → is_owner i (given_up did) ≡ false
  not_closed c (Asked (MakeSocket kind options) reply h) fits i none = refl
  not_closed c (Asked AskTerm reply h) fits i none = refl
  not_closed c (Asked (Bind o at) reply h) fits i none = refl
  not_closed c (Asked (Connect o at) reply h) fits i none = refl
  not_closed c (Asked (Unbind o at) reply h) fits i none = refl
  not_closed c (Asked (Disconnect o at) reply h) fits i none = refl
  not_closed c (Asked (Close o) reply h) fits i none = by (o.0 == i) refl
    where
      by : (b : Bool) → (o.0 == i) ≡ b → b ≡ false
      by true e = absurd (never (sym none ∙ subst (λ (n : ℕ). is_socket (obj c.rows n).kind ≡ true) (eqb-true o.0 i e) fits.may.0.socket))
      by false e = refl
  not_closed c (Asked (Accepted o) reply h) fits i none = refl
  not_closed c (Asked (Shaken o peer) reply h) fits i none = refl
  not_closed c (Asked (AskEnd e reason) reply h) fits i none = refl
  not_closed c (Asked (AskOver o) reply h) fits i none = refl
  not_closed c (Asked (OutputOver o) reply h) fits i none = refl
  not_closed c (Delivered slot letter h) fits i none = refl
  not_closed c (Delimited e h) fits i none = refl

  -- no object becomes a socket, or is one no more
  no_socket_before : (c : Control) (did : Did N S) → Kept c → Fits c did → (i : ℕ) → is_socket (obj (after did c).rows i).kind ≡ false → is_socket (obj c.rows i).kind ≡ false
  no_socket_before c did kept fits i none = by (is_socket (obj c.rows i).kind) refl
    where
      by : (b : Bool) → is_socket (obj c.rows i).kind ≡ b → b ≡ false
      by true e = absurd (never (sym none ∙ ap is_socket (event_keeps c did kept fits i (socket_there c.rows i e)).kind ∙ e))
      by false e = refl

module _ {N S X : Type 0} (step : Did N S → X → X) (start : X) (i : ℕ)
    (idle : (c : Control) (did : Did N S) (x : X) → is_of i c did ≡ false → step did x ≡ x) where
  -- what is read off items
  abbrev pub read_off : X → List (Item N S) → X
  read_off x [] = x
  read_off x (Event entry ∷ items) = read_off (step entry.did x) items
  read_off x (Seen sight ∷ items) = read_off x items

  -- of an object that this caller has it is what all items say, of another it is nothing
  pub record OwnAs (had : Option ℕ) (k : ℕ) (own all : X) : Type 0 where
    pub mine : had ≡ Some k → own ≡ all
    pub not_mine : (had ≡ Some k → ⊥) → own ≡ start
    pub nobodys : had ≡ None → all ≡ start

  -- an event of this caller, or of another
  own_then : (past : List (Item N S)) (c : Control) (did : Did N S) (b k : ℕ) (own all : X) → IsBy past c did b → is_owner i (given_up did) ≡ false → OwnAs (has_after i past) k own all →
      (x : Bool) → (b == k) ≡ x → OwnAs (has_then i (Event (record { by = b; did = did })) (has_after i past)) k (if x then step did own else own) (step did all)
  own_then past c did b k own all may free was x who = by (is_owner i (taken_in did)) refl (is_owner i (acts_in c did)) refl
    where
      apart : (b == k) ≡ false → Some b ≡ Some k → ⊥
      apart e f = never (sym e ∙ eq-eqb b k (some_is f))

      same : (b == k) ≡ true → Some b ≡ Some k
      same e = ap (λ (n : ℕ). Some n) (eqb-true b k e)

      had_is : (t : Bool) → is_owner i (taken_in did) ≡ t → has_then i (Event (record { by = b; did = did })) (has_after i past) ≡ (if t then Some b else has_after i past)
      had_is true t = ap (λ (y : Bool). if y then Some b else (if is_owner i (given_up did) then None else has_after i past)) t
      had_is false t = ap (λ (y : Bool). if y then Some b else (if is_owner i (given_up did) then None else has_after i past)) t ∙ ap (λ (y : Bool). if y then None else has_after i past) free

      now : (had : Option ℕ) → has_then i (Event (record { by = b; did = did })) (has_after i past) ≡ had → OwnAs had k (if x then step did own else own) (step did all) →
          OwnAs (has_then i (Event (record { by = b; did = did })) (has_after i past)) k (if x then step did own else own) (step did all)
      now had e o = subst (λ (w : Option ℕ). OwnAs w k (if x then step did own else own) (step did all)) (sym e) o

      -- of who has it by now
      of_b : (y : Bool) → (b == k) ≡ y → own ≡ (if y then all else start) → OwnAs (Some b) k (if y then step did own else own) (step did all)
      of_b true e so = record { mine = λ h. ap (step did) so; not_mine = λ h. absurd (h (same e)); nobodys = λ h. absurd (none_some (sym h)) }
      of_b false e so = record { mine = λ h. absurd (apart e h); not_mine = λ h. so; nobodys = λ h. absurd (none_some (sym h)) }

      owned : (had : Option ℕ) → has_after i past ≡ had → (y : Bool) → (b == k) ≡ y → had ≡ Some b → own ≡ (if y then all else start)
      owned had is true e h = was.mine (is ∙ h ∙ same e)
      owned had is false e h = was.not_mine (λ f. apart e (sym (is ∙ h) ∙ f))

      fresh : has_after i past ≡ None → (y : Bool) → own ≡ (if y then all else start)
      fresh h true = was.not_mine (λ f. none_some (sym h ∙ f)) ∙ sym (was.nobodys h)
      fresh h false = was.not_mine (λ f. none_some (sym h ∙ f))

      idle_own : (y : Bool) → is_of i c did ≡ false → (if y then step did own else own) ≡ own
      idle_own true none = idle c did own none
      idle_own false none = refl

      by : (t : Bool) → is_owner i (taken_in did) ≡ t → (a : Bool) → is_owner i (acts_in c did) ≡ a → OwnAs (has_then i (Event (record { by = b; did = did })) (has_after i past)) k (if x then step did own else own) (step did all)
      by true t a f = now (Some b) (had_is true t) (of_b x who (fresh (may.takes i (owned_by i (taken_in did) t)) x))
      by false t true f =
          let had = may.acts i (owned_by i (acts_in c did) f) in
          now (Some b) (had_is false t ∙ had) (of_b x who (owned (has_after i past) refl x who had))
      by false t false f =
          let none : is_of i c did ≡ false = ap (λ (y : Bool). y || is_owner i (taken_in did)) f ∙ t in
          now (has_after i past) (had_is false t) (record {
            mine = λ h. idle_own x none ∙ was.mine h ∙ sym (idle c did all none);
            not_mine = λ h. idle_own x none ∙ was.not_mine h;
            nobodys = λ h. idle c did all none ∙ was.nobodys h;
          })

  own_over : (k : ℕ) (items past : List (Item N S)) (c : Control) (own all : X) → Kept c → IsControlRun c items → AreBy past c items → (is_socket (obj c.rows i).kind ≡ false → OwnAs (has_after i past) k own all) →
      is_socket (obj (after_all items c).rows i).kind ≡ false → OwnAs (has_after i (past ++ items)) k (read_off own (items_by k items)) (read_off all items)
  own_over k [] past c own all kept run may so none = subst (λ (ys : List (Item N S)). OwnAs (has_after i ys) k own all) (sym (append-nil past)) (so none)
  own_over k (Seen sight ∷ items) past c own all kept run may so none =
      subst (λ (ys : List (Item N S)). OwnAs (has_after i ys) k (read_off own (items_by k (Seen sight ∷ items))) (read_off all items)) (append_assoc past (Seen sight ∷ []) items)
      (skip (sight.by == k) (own_over k items (past ++ Seen sight ∷ []) c own all kept run.1 may.1 (λ e. subst (λ (had : Option ℕ). OwnAs had k own all) (sym (has_snoc i None past (Seen sight))) (so e)) none))
    where
      skip : (b : Bool) → OwnAs (has_after i ((past ++ Seen sight ∷ []) ++ items)) k (read_off own (items_by k items)) (read_off all items) →
          OwnAs (has_after i ((past ++ Seen sight ∷ []) ++ items)) k (read_off own (cond b (Seen sight ∷ items_by k items) (items_by k items))) (read_off all items)
      skip true o = o
      skip false o = o
  own_over k (Event entry ∷ items) past c own all kept run may so none =
      subst (λ (ys : List (Item N S)). OwnAs (has_after i ys) k (read_off own (items_by k (Event entry ∷ items))) (read_off all (Event entry ∷ items))) (append_assoc past (Event entry ∷ []) items)
      (by (λ mine was. own_over k items (past ++ Event entry ∷ []) (after entry.did c) mine (step entry.did all) (after_kept c entry.did kept run.0) run.1 may.1 was none) (entry.by == k) refl)
    where
      own_next : (x : Bool) → (entry.by == k) ≡ x → is_socket (obj (after entry.did c).rows i).kind ≡ false → OwnAs (has_after i (past ++ Event entry ∷ [])) k (if x then step entry.did own else own) (step entry.did all)
      own_next x who e =
          let was = no_socket_before c entry.did kept run.0 i e in
          subst (λ (had : Option ℕ). OwnAs had k (if x then step entry.did own else own) (step entry.did all)) (sym (has_snoc i None past (Event entry)))
          (own_then past c entry.did entry.by k own all may.0 (not_closed c entry.did run.0 i was) (so was) x who)

      by : ((mine : X) → (is_socket (obj (after entry.did c).rows i).kind ≡ false → OwnAs (has_after i (past ++ Event entry ∷ [])) k mine (step entry.did all)) →
          OwnAs (has_after i ((past ++ Event entry ∷ []) ++ items)) k (read_off mine (items_by k items)) (read_off (step entry.did all) items)) →
          (x : Bool) → (entry.by == k) ≡ x → OwnAs (has_after i ((past ++ Event entry ∷ []) ++ items)) k (read_off own (cond x (Event entry ∷ items_by k items) (items_by k items))) (read_off (step entry.did all) items)
      by next true who = next (step entry.did own) (own_next true who)
      by next false who = next own (own_next false who)

-- ---- what is known of it, and its ends
itself : (i to : ℕ) → i ≢ 0 → is_owner i (unless_root to) ≡ false → (to == i) ≡ false
itself i zero more none = by (zero == i) refl
  where
    by : (b : Bool) → (zero == i) ≡ b → b ≡ false
    by true e = absurd (more (sym (eqb-true zero i e)))
    by false e = refl
itself i (suc n) more none = none

if_none : {X : Type 0} (b : Bool) (x y : X) → b ≡ false → (if b then x else y) ≡ y
if_none true x y h = absurd (never (sym h))
if_none false x y h = refl

if_same : {X : Type 0} (b : Bool) (x : X) → (if b then x else x) ≡ x
if_same true x = refl
if_same false x = refl

module _ (i : ℕ) (more : i ≢ 0) where
  word_idle : {X : Type 0} (to : ℕ) (word : Word) (x y : X) → is_owner i (acts_at_word to word) ≡ false → is_owner i (taken_by_word to word) ≡ false → ((socket : ObjId) → word ≡ Reap socket → x ≡ y) → (if to == i then x else y) ≡ y
  word_idle to (Own child) x y a b r = if_none (to == i) x y (itself i to more a)
  word_idle to (Plug end) x y a b r = if_none (to == i) x y b
  word_idle to (TermReq child) x y a b r = if_none (to == i) x y (itself i to more a)
  word_idle to Term x y a b r = if_none (to == i) x y (itself i to more a)
  word_idle to (TermAck child) x y a b r = if_none (to == i) x y (itself i to more a)
  word_idle to (PipeBind e peer) x y a b r = if_none (to == i) x y (itself i to more a)
  word_idle to (PipeTerm e) x y a b r = if_none (to == i) x y (itself i to more a)
  word_idle to (PipeTermAck e) x y a b r = if_none (to == i) x y (itself i to more a)
  word_idle to Stop x y a b r = if_none (to == i) x y (itself i to more a)
  word_idle to (Reap socket) x y a b r = ap (λ z. if to == i then z else y) (r socket refl) ∙ if_same (to == i) y

module _ {N S : Type 0} (i : ℕ) (more : i ≢ 0) where
  known_idle : (c : Control) (did : Did N S) (k : Known) → is_of i c did ≡ false → known_in i did k ≡ k
  known_idle c (Asked (MakeSocket kind options) reply h) k none = if_none (is_owner i (made_by reply)) (record k { open_socket = true }) k none
  known_idle c (Asked AskTerm reply h) k none = refl
  known_idle c (Asked (Bind o at) reply h) k none = refl
  known_idle c (Asked (Connect o at) reply h) k none = refl
  known_idle c (Asked (Unbind o at) reply h) k none = refl
  known_idle c (Asked (Disconnect o at) reply h) k none = refl
  known_idle c (Asked (Close o) reply h) k none = if_none (o.0 == i) (record k { open_socket = false }) k (either_false (o.0 == i) _ none).0
  known_idle c (Asked (Accepted o) reply h) k none = if_none (is_owner i (made_by reply)) (record k { session = true; accepted = true }) k (either_false (o.0 == i) (is_owner i (made_by reply)) none).1
  known_idle c (Asked (Shaken o peer) reply h) k none = if_none (o.0 == i) (record k { shaken = true }) k (either_false (o.0 == i) _ none).0
  known_idle c (Asked (AskEnd e reason) reply h) k none = refl
  known_idle c (Asked (AskOver o) reply h) k none = if_none (o.0 == i) (record k { asked_over = true }) k (either_false (o.0 == i) _ none).0
  known_idle c (Asked (OutputOver o) reply h) k none = if_none (o.0 == i) (record k { output_left = false }) k (either_false (o.0 == i) _ none).0
  known_idle c (Delivered slot letter h) k none =
      let n = either_false (is_owner i (acts_at_word letter.to.0 letter.word)) (is_owner i (taken_by_word letter.to.0 letter.word)) none in
      word_idle i more letter.to.0 letter.word (known_at_word letter.word h.output_left k) k n.0 n.1 (λ socket is. ap (λ (w : Word). known_at_word w h.output_left k) is)
  known_idle c (Delimited e h) k none = refl

  abbrev pub ends_step : Did N S → List (Held N) → List (Held N)
  ends_step did hs = if is_owner i (subject_of did) then ends_in did hs else hs

  ends_idle : (c : Control) (did : Did N S) (hs : List (Held N)) → is_of i c did ≡ false → ends_step did hs ≡ hs
  ends_idle c (Asked (MakeSocket kind options) reply h) hs none = refl
  ends_idle c (Asked AskTerm reply h) hs none = refl
  ends_idle c (Asked (Bind o at) reply h) hs none = if_none (o.0 == i) (ends_in (let did : Did N S = Asked (Bind o at) reply h in did) hs) hs (either_false (o.0 == i) _ none).0
  ends_idle c (Asked (Connect o at) reply h) hs none = if_none (o.0 == i) (ends_in (let did : Did N S = Asked (Connect o at) reply h in did) hs) hs (either_false (o.0 == i) _ none).0
  ends_idle c (Asked (Unbind o at) reply h) hs none = if_none (o.0 == i) (ends_in (let did : Did N S = Asked (Unbind o at) reply h in did) hs) hs (either_false (o.0 == i) _ none).0
  ends_idle c (Asked (Disconnect o at) reply h) hs none = if_none (o.0 == i) (ends_in (let did : Did N S = Asked (Disconnect o at) reply h in did) hs) hs (either_false (o.0 == i) _ none).0
  ends_idle c (Asked (Close o) reply h) hs none = if_none (o.0 == i) (ends_in (let did : Did N S = Asked (Close o) reply h in did) hs) hs (either_false (o.0 == i) _ none).0
  ends_idle c (Asked (Accepted o) reply h) hs none = if_none (o.0 == i) (ends_in (let did : Did N S = Asked (Accepted o) reply h in did) hs) hs (either_false (o.0 == i) _ none).0
  ends_idle c (Asked (Shaken o peer) reply h) hs none = if_none (o.0 == i) (ends_in (let did : Did N S = Asked (Shaken o peer) reply h in did) hs) hs (either_false (o.0 == i) _ none).0
  ends_idle c (Asked (AskEnd e reason) reply h) hs none = refl
  ends_idle c (Asked (AskOver o) reply h) hs none = if_none (o.0 == i) (ends_in (let did : Did N S = Asked (AskOver o) reply h in did) hs) hs (either_false (o.0 == i) _ none).0
  ends_idle c (Asked (OutputOver o) reply h) hs none = if_none (o.0 == i) (ends_in (let did : Did N S = Asked (OutputOver o) reply h in did) hs) hs (either_false (o.0 == i) _ none).0
  ends_idle c (Delivered slot letter h) hs none =
      let n = either_false (is_owner i (acts_at_word letter.to.0 letter.word)) (is_owner i (taken_by_word letter.to.0 letter.word)) none in
      heard letter.to.0 letter.word n.0 n.1
    where
      heard : (to : ℕ) (word : Word) → is_owner i (acts_at_word to word) ≡ false → is_owner i (taken_by_word to word) ≡ false → (if heard_of to word == i then ends_at_word word h.joined hs else hs) ≡ hs
      heard to (Own child) a b = if_none (to == i) (ends_at_word (Own child) h.joined hs) hs (itself i to more a)
      heard to (Plug end) a b = if_none (to == i) (ends_at_word (Plug end) h.joined hs) hs b
      heard to (TermReq child) a b = if_none (to == i) (ends_at_word (TermReq child) h.joined hs) hs (itself i to more a)
      heard to Term a b = if_none (to == i) (ends_at_word Term h.joined hs) hs (itself i to more a)
      heard to (TermAck child) a b = if_none (to == i) (ends_at_word (TermAck child) h.joined hs) hs (itself i to more a)
      heard to (PipeBind e peer) a b = if_none (to == i) (ends_at_word (PipeBind e peer) h.joined hs) hs (itself i to more a)
      heard to (PipeTerm e) a b = if_none (to == i) (ends_at_word (PipeTerm e) h.joined hs) hs (itself i to more a)
      heard to (PipeTermAck e) a b = if_none (to == i) (ends_at_word (PipeTermAck e) h.joined hs) hs (itself i to more a)
      heard to Stop a b = if_none (to == i) (ends_at_word Stop h.joined hs) hs (itself i to more a)
      heard to (Reap socket) a b = if_none (socket.0 == i) (ends_at_word (Reap socket) h.joined hs) hs b
  ends_idle c (Delimited e h) hs none = refl

  known_reads : (items : List (Item N S)) (k : Known) → known_over i k items ≡ read_off (known_in i) unknown i known_idle k items
  known_reads [] k = refl
  known_reads (Event entry ∷ items) k = known_reads items (known_in i entry.did k)
  known_reads (Seen sight ∷ items) k = known_reads items k

  ends_read : (items : List (Item N S)) (hs : List (Held N)) → ends_over i hs items ≡ read_off ends_step [] i ends_idle hs items
  ends_read [] hs = refl
  ends_read (Event entry ∷ items) hs = ends_read items (ends_step entry.did hs)
  ends_read (Seen sight ∷ items) hs = ends_read items hs

  -- a caller that knows a listener or a session has it, and knows all of it and its ends
  pub record KnowsAll (items : List (Item N S)) (k : ℕ) : Type 0 where
    pub has : has_after i items ≡ Some k
    pub known : known_after i (items_by k items) ≡ known_after i items
    pub ends : ends_after i (items_by k items) ≡ ends_after i items

  pub knows_all : (workers : ℕ) (items : List (Item N S)) → IsControlRun (begun workers) items → AreBy [] (begun workers) items → (k : ℕ) →
      is_socket (obj (after_all items (begun workers)).rows i).kind ≡ false → (known_after i (items_by k items) ≡ unknown → ⊥) → KnowsAll items k
  knows_all workers items run may k none more_known = record {
    has = has;
    known = known_reads (items_by k items) unknown ∙ of_known.mine has ∙ sym (known_reads items unknown);
    ends = ends_read (items_by k items) [] ∙ of_ends.mine has ∙ sym (ends_read items []);
  }
    where
      of_known : OwnAs (known_in i) unknown i known_idle (has_after i items) k (read_off (known_in i) unknown i known_idle unknown (items_by k items)) (read_off (known_in i) unknown i known_idle unknown items)
      of_known = own_over (known_in i) unknown i known_idle k items [] (begun workers) unknown unknown (begun_kept workers) run may (λ e. record { mine = λ h. refl; not_mine = λ h. refl; nobodys = λ h. refl }) none

      of_ends : OwnAs ends_step [] i ends_idle (has_after i items) k (read_off ends_step [] i ends_idle [] (items_by k items)) (read_off ends_step [] i ends_idle [] items)
      of_ends = own_over ends_step [] i ends_idle k items [] (begun workers) [] [] (begun_kept workers) run may (λ e. record { mine = λ h. refl; not_mine = λ h. refl; nobodys = λ h. refl }) none

      has : has_after i items ≡ Some k
      has = by (has_after i items) refl
        where
          unless : (had : Option ℕ) → has_after i items ≡ had → (had ≡ Some k → ⊥) → had ≡ Some k
          unless had is not_so = absurd (more_known (known_reads (items_by k items) unknown ∙ of_known.not_mine (λ h. not_so (sym is ∙ h))))

          by : (had : Option ℕ) → has_after i items ≡ had → had ≡ Some k
          by None is = unless None is (λ h. none_some h)
          by (Some b) is = who (b == k) refl
            where
              who : (x : Bool) → (b == k) ≡ x → Some b ≡ Some k
              who true e = ap (λ (n : ℕ). Some n) (eqb-true b k e)
              who false e = unless (Some b) is (λ h. never (sym e ∙ eq-eqb b k (some_is h)))
