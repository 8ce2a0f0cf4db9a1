-- Each socket is open and an actor's, or was closed: what a worker's step does to that.
use Rattle.std.specs.Prelude.{◌≡◌, ◌≢◌, ◌⊎◌, ◌==◌, ◌||◌, ℕ, Bool, true, false, not, List, [], ◌∷◌, ◌++◌, Option, Some, None, cond, filter, if◌then◌else◌, map, nat_lt, refl}
use Rattle.std.proofs.Common.{sym, ap, ◌∙◌, subst, inl, inr, append-nil}
use Rattle.std.proofs.lemmas.Bool.{cases_eq, eq-eqb, eqb-true}
use Rattle.std.proofs.lemmas.List.Folds.{list_any-append}
use Rattle.std.specs.List.{list_any}
use Rattle.zq_base.specs.Ends.{PipeId}
use Rattle.zq_base.specs.declared.endpoint.Endpoint.TheVariants.{Inproc, Tcp}
use Rattle.zq_base.specs.declared.ids.ObjId.{ObjId}
use Rattle.zq_base.specs.declared.kind.Kind.{Kind}
use Rattle.zq_base.specs.declared.options.Options.{Options}
use Rattle.spec_run.specs.declared.script.Call.TheVariants as call
use Rattle.spec_pattern.specs.PipeStep.{PipeStep}
use Rattle.spec_pattern.specs.PatternCalls.{Subscribe, Unsubscribe}
use Rattle.spec_control.specs.declared.end.Reason.TheVariants.{Closed, BadId, Second, Linger, Link}
use Rattle.spec_control.specs.declared.request.Req.{Req}
use Rattle.spec_control.specs.declared.request.Req.TheVariants.{Socket as MakeSocket, AskTerm, Bind, Connect, Unbind, Disconnect, Close, Accepted, Shaken, AskEnd, AskOver, OutputOver}
use Rattle.spec_control.specs.declared.request.Refusal.TheVariants.{Term as RefusesTerm, TooMany}
use Rattle.spec_control.specs.declared.request.Reply.{Reply}
use Rattle.spec_control.specs.declared.request.Reply.TheVariants.{Done, Object, Pair, Both, Wait, Asked as WasAsked, Before, Refused}
use Rattle.spec_control.specs.declared.entry.Answered.{Answered}
use Rattle.spec_control.specs.declared.entry.Did.{Did}
use Rattle.spec_control.specs.declared.entry.Did.TheVariants.{Asked, Delivered, Delimited}
use Rattle.spec_control.specs.declared.entry.Item.{Item}
use Rattle.spec_control.specs.declared.entry.Item.TheVariants.{Event, Seen}
use Rattle.spec_control.specs.Register.{fulfilled_by}
use Rattle.spec_control.specs.Row.{Row, nobody, is_socket}
use Rattle.spec_control.specs.Rows.{obj}
use Rattle.spec_control.specs.Control.{Control, id, next_object, next_pair}
use Rattle.spec_control.specs.After.{binding_by, socket_row, after}
use Rattle.spec_control.specs.Reply.{most_living_sockets, living_sockets, has_object, unless, root_asked}
use Rattle.spec_control.specs.ControlRun.{Fits, FitsItem, unless_refused, after_item}
use Rattle.control_laws.proofs.ListLemmas.{never, left, right, pushed, is_old, is_new}
use Rattle.control_laws.specs.OwnMoves.{own_moves, request_moves}
use Rattle.spec_control.specs.Moments.{Moment}
use Rattle.spec_run.specs.declared.script.Call.{Call}
use Rattle.spec_pattern.specs.declared.answers.Skip.{Skip}
use Rattle.spec_run.specs.declared.script.Line.{Line}
use Rattle.spec_run.specs.Act.{Act, Step, Said, Try, Deed, Tries, Shuts, Fetches, Idles, Works, Looks, AsksRoot, Reads, all_acts}
use Rattle.spec_run.specs.OpenSocket.{OpenSock, new_open}
use Rattle.spec_run.specs.Event.{IsRequest, seals_in, acts_said}
use Rattle.spec_run.specs.SocketCall.{SendsCall, ReceivesCall, ChangesCall, BindsCall, ConnectsCall, UnbindsCall, DisconnectsCall}
use Rattle.spec_run.specs.Standing.{Sockets, ActorStanding, open_at, made_so, MakesSocket, CallsOpen, ClosesOne, ClosesLine, OnFound, DoesLine, standing_after}
use Rattle.spec_run.specs.InTurns.{ActorStep}
use Rattle.replay_laws.proofs.KeepLemmas.{made_number}
use Rattle.replay_laws.proofs.LetterLemmas.{kept_of}
use Rattle.replay_laws.proofs.SlotLemmas.{Mark, mark, marks, mark_in, mark_of, marks_after, made, fulfils_none, connects_none, word_makes_none}
use Rattle.replay_laws.proofs.WalkLemmas.{leaves, Walks, seals_alone, Reached, reached_item}
use Rattle.replay_laws.specs.LocalScript.{is_local_line, are_local_lines}
use Rattle.replay_laws.specs.Resting.{IsClosed}
use Rattle.replay_laws.proofs.ItemLemmas.{is_plain, is_plain_did, is_plain_item, are_plain, line_plain, shut_plain}
use Rattle.replay_laws.proofs.DoneStayLemmas.{closes_in, closed_after}

-- an open socket of an actor has this number
abbrev pub Has : Sockets → ℕ → Type 0
Has mine i = list_any (λ s. s.object == i) mine.socks ≡ true

abbrev IsSocketAt : Control → ℕ → Type 0
IsSocketAt c i = is_socket (obj c.rows i).kind ≡ true

or_left : (a b : Bool) → a ≡ true → (a || b) ≡ true
or_left true b h = refl
or_left false b h = absurd (never h)

or_right : (a b : Bool) → b ≡ true → (a || b) ≡ true
or_right true b h = refl
or_right false b h = h

-- ---- the numbers of open sockets
same_numbers : (s : OpenSock) (socks : List OpenSock) (i : ℕ) → list_any (λ x. x.object == i) (map (λ old. if old.object == s.object then s else old) socks) ≡ list_any (λ x. x.object == i) socks
same_numbers s [] i = refl
same_numbers s (x ∷ socks) i = let one = by (x.object == s.object) refl in let rest = same_numbers s socks i in λ j. one j || rest j
  where
    by : (b : Bool) → (x.object == s.object) ≡ b → ((if b then s else x).object == i) ≡ (x.object == i)
    by true e = ap (λ (n : ℕ). n == i) (sym (eqb-true x.object s.object e))
    by false e = refl

others_stay : (o i : ℕ) (socks : List OpenSock) → i ≢ o → list_any (λ x. x.object == i) socks ≡ true → list_any (λ x. x.object == i) (filter (λ x. not (x.object == o)) socks) ≡ true
others_stay o i [] other h = absurd (never h)
others_stay o i (x ∷ socks) other h = by (x.object == o) refl (x.object == i) refl h (others_stay o i socks other)
  where
    by : (b : Bool) → (x.object == o) ≡ b → (d : Bool) → (x.object == i) ≡ d → (d || list_any (λ y. y.object == i) socks) ≡ true
        → (list_any (λ y. y.object == i) socks ≡ true → list_any (λ y. y.object == i) (filter (λ y. not (y.object == o)) socks) ≡ true)
        → list_any (λ y. y.object == i) (cond (not b) (x ∷ filter (λ y. not (y.object == o)) socks) (filter (λ y. not (y.object == o)) socks)) ≡ true
    by true is true at g later = absurd (other (sym (eqb-true x.object i at) ∙ eqb-true x.object o is))
    by true is false at g later = later g
    by false is true at g later = or_left (x.object == i) _ at
    by false is false at g later = or_right (x.object == i) _ (later g)

without_one : (o i : ℕ) (socks : List OpenSock) → list_any (λ x. x.object == i) socks ≡ true → (i ≡ o) ⊎ (list_any (λ x. x.object == i) (filter (λ x. not (x.object == o)) socks) ≡ true)
without_one o i socks h =
    elim (cases_eq i o) [
      | inl same ↦ inl same
      | inr other ↦ inr (others_stay o i socks other h)
    ]

pushed_old : (socks : List OpenSock) (s : OpenSock) (i : ℕ) → list_any (λ x. x.object == i) socks ≡ true → list_any (λ x. x.object == i) (socks ++ s ∷ []) ≡ true
pushed_old socks s i h = list_any-append (λ (x : OpenSock). x.object == i) socks (s ∷ []) ∙ or_left _ _ h

pushed_new : (socks : List OpenSock) (s : OpenSock) (i : ℕ) → s.object ≡ i → list_any (λ x. x.object == i) (socks ++ s ∷ []) ≡ true
pushed_new socks s i e = list_any-append (λ (x : OpenSock). x.object == i) socks (s ∷ []) ∙ or_right _ _ (or_left (s.object == i) false (eq-eqb s.object i e))

-- ---- what a request makes that makes no object
request_none : (c : Control) (req : Req) → is_plain req ≡ true → made (request_moves c req) ≡ []
request_none c (MakeSocket kind options) h = absurd (never h)
request_none c AskTerm h = refl
request_none c (Bind o (Inproc name)) h = fulfils_none c o.0 (next_pair c) (fulfilled_by (Inproc name) (binding_by o.0 c) c.names)
request_none c (Bind o (Tcp address)) h = absurd (never h)
request_none c (Connect o (Inproc name)) h = connects_none c o.0 (c.names.held (Inproc name))
request_none c (Connect o (Tcp address)) h = absurd (never h)
request_none c (Unbind o at) h = refl
request_none c (Disconnect o at) h = refl
request_none c (Close o) h = refl
request_none c (Accepted o) h = absurd (never h)
request_none c (Shaken o peer) h = refl
request_none c (AskEnd e Closed) h = refl
request_none c (AskEnd e BadId) h = refl
request_none c (AskEnd e Second) h = refl
request_none c (AskEnd e Linger) h = refl
request_none c (AskEnd e Link) h = refl
request_none c (AskOver o) h = refl
request_none c (OutputOver o) h = refl

-- a socket line is answered with an object or refused
abbrev is_made_or_refused : Reply → Bool
is_made_or_refused (Object o) = true
is_made_or_refused (Refused refusal) = true
is_made_or_refused Done = false
is_made_or_refused (Pair p) = false
is_made_or_refused (Both o p) = false
is_made_or_refused Wait = false
is_made_or_refused WasAsked = false
is_made_or_refused Before = false

made_or_refused : (a b : Bool) (n : ℕ) (r : Reply) → r ≡ unless a RefusesTerm (unless b TooMany (Object (id n))) → is_made_or_refused r ≡ true
made_or_refused true b n r e = ap is_made_or_refused e
made_or_refused false true n r e = ap is_made_or_refused e
made_or_refused false false n r e = ap is_made_or_refused e

-- what a worker's step does: a socket that it made is its own, and one that it had is still or was closed
pub record Holds (c d : Control) (old new : Sockets) : Type 0 where
  pub made : (i : ℕ) → is_socket (obj d.rows i).kind ≡ true → (is_socket (obj c.rows i).kind ≡ true) ⊎ Has new i
  pub kept : (i : ℕ) → Has old i → Has new i ⊎ IsClosed d i

holds_as : (c d e : Control) (old u v : Sockets) → e ≡ d → u ≡ v → Holds c d old v → Holds c e old u
holds_as c d e old u v p q h = subst (λ (x : Control). Holds c x old u) (sym p) (subst (Holds c d old) (sym q) h)

after_try : (b : Bool) (rest : List Line) (told : List Skip) (mine : Sockets) (old : ActorStanding) → (standing_after b rest told mine old).mine ≡ mine
after_try true rest told mine old = refl
after_try false rest told mine old = refl

module _ {N S : Type 0} where
  did_none : (c : Control) (did : Did N S) → is_plain_did did ≡ true → made (own_moves c did) ≡ []
  did_none c (Asked req reply h) is = by reply
    where
      by : (r : Reply) → made (unless_refused r (request_moves c req)) ≡ []
      by Done = request_none c req is
      by (Object o) = request_none c req is
      by (Pair p) = request_none c req is
      by (Both o p) = request_none c req is
      by Wait = request_none c req is
      by WasAsked = request_none c req is
      by Before = refl
      by (Refused refusal) = refl
  did_none c (Delivered slot letter h) is = word_makes_none letter.to.0 letter.word
  did_none c (Delimited e h) is = refl

  -- a socket that is there behind acts that make no object was there before them
  socket_before : (item : Item N S) (c : Control) → Reached N S c → FitsItem c item → is_plain_item item ≡ true → (i : ℕ) → IsSocketAt (after_item item c) i → IsSocketAt c i
  socket_before (Event entry) c r fits is i h =
      let d = after entry.did c in
      let same : mark (obj d.rows i) ≡ mark (obj c.rows i) = sym (mark_of d.rows i)
      ∙ ap (λ l. mark_in l i) (marks_after c entry.did (kept_of c r) fits ∙ ap (λ l. marks c.rows.objects ++ marks l) (did_none c entry.did is) ∙ append-nil (marks c.rows.objects)) ∙ mark_of c.rows i in
      ap (λ (m : Mark). is_socket m.kind) (sym same) ∙ h
  socket_before (Seen sight) c r fits is i h = h

  pub sockets_before : (cap : PipeId → ℕ) (xs : List (Act N S)) (c : Control) (past : List PipeStep) → Reached N S c → Walks cap c past xs → are_plain xs ≡ true → (i : ℕ) → IsSocketAt (leaves c xs) i → IsSocketAt c i
  sockets_before cap [] c past r w plain i h = h
  sockets_before cap (Step x ∷ xs) c past r w plain i h = sockets_before cap xs c (past ++ x ∷ []) r w.1 plain i h
  sockets_before cap (Said m ∷ xs) c past r w plain i h =
      socket_before m.item c r w.1 (left _ _ plain) i (sockets_before cap xs (after_item m.item c) past (reached_item m.item c r w.1) w.2 (right (is_plain_item m.item) _ plain) i h)

  -- what was closed stays so
  closed_item : (item : Item N S) (c : Control) (i : ℕ) → IsClosed c i → IsClosed (after_item item c) i
  closed_item (Event entry) c i h =
      let test : ObjId → Bool = λ o. o.0 == i in
      ap (list_any test) (closed_after c entry.did) ∙ list_any-append test c.closed (closes_in entry.did) ∙ or_left _ _ h
  closed_item (Seen sight) c i h = h

  pub closed_on : (xs : List (Act N S)) (c : Control) (i : ℕ) → IsClosed c i → IsClosed (leaves c xs) i
  closed_on [] c i h = h
  closed_on (Step x ∷ xs) c i h = closed_on xs c i h
  closed_on (Said m ∷ xs) c i h = closed_on xs (after_item m.item c) i (closed_item m.item c i h)

  -- what an item with its delimiters leaves
  pub said_leaves : (m : Moment N S) (c : Control) (acts : List (Act N S)) → acts ≡ acts_said m → leaves c acts ≡ after_item m.item c
  said_leaves m c acts e = ap (leaves c) e ∙ seals_alone N S (seals_in m) (after_item m.item c)

  closed_now : (c : Control) (o : ℕ) (m : Moment N S) (acts : List (Act N S)) → IsRequest (Close (id o)) Done m → acts ≡ acts_said m → IsClosed (leaves c acts) o
  closed_now c o m acts f e =
      let did : Did N S = Asked (Close (id o)) Done f.answered in
      let test : ObjId → Bool = λ x. x.0 == o in
      let at : leaves c acts ≡ after did c = said_leaves m c acts e ∙ ap (λ (k : Item N S). after_item k c) f.item_is in
      let own : list_any test (id o ∷ []) ≡ true = or_left (o == o) false (eq-eqb o o refl) in
      ap (λ (x : Control). list_any test x.closed) at ∙ ap (list_any test) (closed_after c did) ∙ list_any-append test c.closed (id o ∷ []) ∙ or_right (list_any test c.closed) _ own

  -- ---- a line
  module _ (cap : PipeId → ℕ) (c : Control) (past : List PipeStep) (acts : List (Act N S)) (r : Reached N S c) (w : Walks cap c past acts) (old u : Sockets) where
    plainly : are_plain acts ≡ true → ((i : ℕ) → Has old i → Has u i ⊎ IsClosed (leaves c acts) i) → Holds c (leaves c acts) old u
    plainly plain kept = record { made = λ i h. inl (sockets_before cap acts c past r w plain i h); kept = kept }

    as_before : are_plain acts ≡ true → u.socks ≡ old.socks → Holds c (leaves c acts) old u
    as_before plain e = plainly plain (λ i h. inl (ap (list_any (λ (s : OpenSock). s.object == i)) e ∙ h))

    closes_holds : are_plain acts ≡ true → (s : OpenSock) (own : List (Act N S)) → acts ≡ own → ClosesOne s own old u → Holds c (leaves c acts) old u
    closes_holds plain s own is f =
        plainly plain (λ i h. elim (without_one s.object i old.socks h) [
          | inl same ↦ inr (subst (IsClosed (leaves c acts)) (sym same) (closed_now c s.object f.closed acts f.request (is ∙ f.acts_are)))
          | inr still ↦ inl (ap (λ (x : Sockets). list_any (λ (s : OpenSock). s.object == i) x.socks) f.new_is ∙ still)
        ])

    -- a socket is made
    made_object : (kind : Kind) (options : Options) (by : ℕ) (o : ObjId) (g : Answered N S) (m : Moment N S) → m.item ≡ Event (record { by = by; did = Asked (MakeSocket kind options) (Object o) g }) → acts ≡ acts_said m
        → FitsItem c m.item → u ≡ made_so (Object o) m kind options old → Holds c (leaves c acts) old u
    made_object kind options by o g m is e fits new_is =
        let did : Did N S = Asked (MakeSocket kind options) (Object o) g in
        let fit : Fits c did = subst (FitsItem c) is fits in
        let at : leaves c acts ≡ after did c = said_leaves m c acts e ∙ ap (λ (k : Item N S). after_item k c) is in
        let number : o.0 ≡ next_object c = made_number (root_asked c) (not (nat_lt (living_sockets c) most_living_sockets) || not (has_object c)) (next_object c) o fit.may.1 in
        let socket = new_open m o.0 kind options in
        record {
          made = λ i h. elim (pushed c.rows.objects (socket_row kind options c) nobody i) [
            | is_old same ↦ inl (ap (λ (x : Row). is_socket x.kind) (sym same) ∙ ap (λ (x : Control). is_socket (obj x.rows i).kind) (sym at) ∙ h)
            | is_new here now was ↦ inr (ap (λ (x : Sockets). list_any (λ (s : OpenSock). s.object == i) x.socks) new_is ∙ pushed_new old.socks socket i (number ∙ sym here))
          ];
          kept = λ i h. inl (ap (λ (x : Sockets). list_any (λ (s : OpenSock). s.object == i) x.socks) new_is ∙ pushed_old old.socks socket i h);
        }

    refused_object : (at : leaves c acts ≡ c) → u.socks ≡ old.socks → Holds c (leaves c acts) old u
    refused_object at e = record {
      made = λ i h. inl (ap (λ (x : Control). is_socket (obj x.rows i).kind) (sym at) ∙ h);
      kept = λ i h. inl (ap (list_any (λ (s : OpenSock). s.object == i)) e ∙ h);
    }

    no_reply : (reply : Reply) (g : Answered N S) (m : Moment N S) (by : ℕ) (kind : Kind) (options : Options) → m.item ≡ Event (record { by = by; did = Asked (MakeSocket kind options) reply g }) → FitsItem c m.item → is_made_or_refused reply ≡ true
    no_reply reply g m by kind options is fits =
        let did : Did N S = Asked (MakeSocket kind options) reply g in
        let fit : Fits c did = subst (FitsItem c) is fits in
        made_or_refused (root_asked c) (not (nat_lt (living_sockets c) most_living_sockets) || not (has_object c)) (next_object c) reply fit.may.1

    makes_holds : (kind : Kind) (options : Options) (by : ℕ) (reply : Reply) (g : Answered N S) (m : Moment N S) → m.item ≡ Event (record { by = by; did = Asked (MakeSocket kind options) reply g }) → acts ≡ acts_said m
        → FitsItem c m.item → u ≡ made_so reply m kind options old → Holds c (leaves c acts) old u
    makes_holds kind options by (Object o) g m is e fits new_is = made_object kind options by o g m is e fits new_is
    makes_holds kind options by (Refused refusal) g m is e fits new_is =
        refused_object (said_leaves m c acts e ∙ ap (λ (k : Item N S). after_item k c) is) (ap (λ (x : Sockets). x.socks) new_is)
    makes_holds kind options by Done g m is e fits new_is = absurd (never (no_reply Done g m by kind options is fits))
    makes_holds kind options by (Pair p) g m is e fits new_is = absurd (never (no_reply (Pair p) g m by kind options is fits))
    makes_holds kind options by (Both o p) g m is e fits new_is = absurd (never (no_reply (Both o p) g m by kind options is fits))
    makes_holds kind options by Wait g m is e fits new_is = absurd (never (no_reply Wait g m by kind options is fits))
    makes_holds kind options by WasAsked g m is e fits new_is = absurd (never (no_reply WasAsked g m by kind options is fits))
    makes_holds kind options by Before g m is e fits new_is = absurd (never (no_reply Before g m by kind options is fits))

  on_socket : (Does : OpenSock → Try N S → OpenSock → Type 0) (place : ℕ) (old u : Sockets) (t : Try N S) → OnFound (CallsOpen Does) (open_at old place) old t u → (i : ℕ) → Has old i → Has u i
  on_socket Does place old u t f = by (open_at old place) f
    where
      by : (found : Option OpenSock) → OnFound (CallsOpen Does) found old t u → (i : ℕ) → Has old i → Has u i
      by None g i h = ap (λ (x : Sockets). list_any (λ (s : OpenSock). s.object == i) x.socks) g.new_is ∙ h
      by (Some s) g i h = ap (λ (x : Sockets). list_any (λ (s : OpenSock). s.object == i) x.socks) g.new_is ∙ same_numbers g.called old.socks i ∙ h

  module _ (cap : PipeId → ℕ) (c : Control) (past : List PipeStep) (t : Try N S) (r : Reached N S c) (w : Walks cap c past (t.pump ++ t.call)) (old u : Sockets) where
    calls_holds : are_plain (t.pump ++ t.call) ≡ true → ((i : ℕ) → Has old i → Has u i) → Holds c (leaves c (t.pump ++ t.call)) old u
    calls_holds plain same = plainly cap c past (t.pump ++ t.call) r w old u plain (λ i h. inl (same i h))

    close_holds : are_plain (t.pump ++ t.call) ≡ true → (place : ℕ) → OnFound ClosesLine (open_at old place) old t u → Holds c (leaves c (t.pump ++ t.call)) old u
    close_holds plain place f = by (open_at old place) f
      where
        by : (found : Option OpenSock) → OnFound ClosesLine found old t u → Holds c (leaves c (t.pump ++ t.call)) old u
        by None g = as_before cap c past (t.pump ++ t.call) r w old u plain (ap (λ (x : Sockets). x.socks) g.new_is)
        by (Some s) g = closes_holds cap c past (t.pump ++ t.call) r w old u plain s t.call (ap (λ l. l ++ t.call) g.no_pump.pump_is) g.closes

    make_holds : (kind : Kind) (options : Options) → MakesSocket kind options old t u → Holds c (leaves c (t.pump ++ t.call)) old u
    make_holds kind options f =
        let acts_are : t.pump ++ t.call ≡ acts_said f.made = ap (λ l. l ++ t.call) f.no_pump.pump_is ∙ f.call_is in
        let said = subst (Walks cap c past) acts_are w in
        makes_holds cap c past (t.pump ++ t.call) r w old u kind options f.request.by f.reply f.request.answered f.made f.request.item_is acts_are said.1 f.new_is

    line_holds : (line : Call) → DoesLine line old t u → is_local_line line ≡ true → Holds c (leaves c (t.pump ++ t.call)) old u
    line_holds (call.Socket kind options) f is = make_holds kind options f
    line_holds (call.Bind place at) f is = calls_holds (line_plain (call.Bind place at) old u t f is refl) (on_socket (BindsCall at) place old u t f)
    line_holds (call.Connect place to) f is = calls_holds (line_plain (call.Connect place to) old u t f is refl) (on_socket (ConnectsCall to) place old u t f)
    line_holds (call.Send place m) f is = calls_holds (line_plain (call.Send place m) old u t f is refl) (on_socket (SendsCall m) place old u t f)
    line_holds (call.Recv place tries) f is = calls_holds (line_plain (call.Recv place tries) old u t f is refl) (on_socket ReceivesCall place old u t f)
    line_holds (call.Subscribe place topic) f is = calls_holds (line_plain (call.Subscribe place topic) old u t f is refl) (on_socket (ChangesCall Subscribe topic) place old u t f)
    line_holds (call.Unsubscribe place topic) f is = calls_holds (line_plain (call.Unsubscribe place topic) old u t f is refl) (on_socket (ChangesCall Unsubscribe topic) place old u t f)
    line_holds (call.Unbind place at) f is = calls_holds (line_plain (call.Unbind place at) old u t f is refl) (on_socket (UnbindsCall at) place old u t f)
    line_holds (call.Disconnect place at) f is = calls_holds (line_plain (call.Disconnect place at) old u t f is refl) (on_socket (DisconnectsCall at) place old u t f)
    line_holds (call.Close place) f is = close_holds (line_plain (call.Close place) old u t f is refl) place f
    line_holds call.Term f is = as_before cap c past (t.pump ++ t.call) r w old u (line_plain call.Term old u t f is refl) (ap (λ (x : Sockets). x.socks) f.new_is)

  -- ---- an actor's step
  pub actor_holds : (cap : PipeId → ℕ) (c : Control) (past : List PipeStep) (old u : ActorStanding) (ds : List (Deed N S)) → Reached N S c → Walks cap c past (all_acts ds) → ActorStep old ds u → are_local_lines old.lines ≡ true
      → Holds c (leaves c (all_acts ds)) old.mine u.mine
  actor_holds cap c past old u [] r w f is = record { made = λ i h. inl h; kept = λ i h. inl (ap (λ (x : ActorStanding). list_any (λ (s : OpenSock). s.object == i) x.mine.socks) f.1 ∙ h) }
  actor_holds cap c past old u (Tries t ∷ []) r w f is =
      let on = append-nil (t.pump ++ t.call) in
      holds_as c (leaves c (t.pump ++ t.call)) (leaves c ((t.pump ++ t.call) ++ [])) old.mine u.mine f.mine (ap (leaves c) on) (ap (λ (x : ActorStanding). x.mine) f.new_is ∙ after_try t.over f.rest t.told f.mine old)
      (line_holds cap c past t r (subst (Walks cap c past) on w) old.mine f.mine t.line.call f.does (left (is_local_line t.line.call) _ (sym (ap are_local_lines f.lines_are) ∙ is)))
  actor_holds cap c past old u (Shuts acts ∷ []) r w f is =
      holds_as c (leaves c (acts ++ [])) (leaves c (acts ++ [])) old.mine u.mine f.mine refl (ap (λ (x : ActorStanding). x.mine) f.new_is)
      (closes_holds cap c past (acts ++ []) r w old.mine f.mine (shut_plain old u acts f) f.first acts (append-nil acts) f.closes)
  actor_holds cap c past old u (Fetches slot acts ∷ []) r w f is = absurd f
  actor_holds cap c past old u (Idles m ∷ []) r w f is = absurd f
  actor_holds cap c past old u (Works acts ∷ []) r w f is = absurd f
  actor_holds cap c past old u (Looks m ∷ []) r w f is = absurd f
  actor_holds cap c past old u (AsksRoot acts ∷ []) r w f is = absurd f
  actor_holds cap c past old u (Reads now ∷ []) r w f is = absurd f
  actor_holds cap c past old u (d ∷ e ∷ ds) r w f is = elim f [ ]
