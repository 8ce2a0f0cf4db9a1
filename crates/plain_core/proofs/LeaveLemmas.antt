-- What a call that is one item leaves of all open sockets.
use Rattle.std.specs.Prelude.{◌≡◌, ◌+◌, ◌<◌, ◌==◌, ◌&&◌, ◌++◌, ℕ, Bool, false, List, [], ◌∷◌, if◌then◌else◌, refl}
use Rattle.std.proofs.Common.{sym, ap, ◌∙◌, subst}
use Rattle.std.proofs.lemmas.List.{map-append}
use Rattle.zq_base.specs.declared.ids.EndId.{EndId}
use Rattle.spec_control.specs.declared.entry.Did.TheVariants.{Asked as DidAsk}
use Rattle.spec_control.specs.declared.entry.Item.{Item}
use Rattle.spec_control.specs.declared.entry.Item.TheVariants.{Event, Seen}
use Rattle.spec_control.specs.declared.entry.SeenEmpty.TheVariants.{Nothing}
use Rattle.spec_control.specs.declared.entry.Sight.{Sight}
use Rattle.spec_control.specs.declared.request.Req.TheVariants.{AskTerm, Socket as MakeSocket}
use Rattle.spec_control.specs.declared.request.Reply.{Reply}
use Rattle.spec_control.specs.declared.request.Reply.TheVariants.{Done, Object, Pair, Both, Wait, Asked, Before, Refused}
use Rattle.spec_control.specs.After.{Answers, answered, answers_in, socket_row}
use Rattle.zq_base.specs.declared.kind.Kind.{Kind}
use Rattle.zq_base.specs.declared.options.Options.{Options}
use Rattle.std.specs.Prelude.{◌≤◌, true, length}
use Rattle.std.proofs.Common.{arith}
use Rattle.std.proofs.lemmas.List.{length-append}
use Rattle.spec_control.specs.Row.{RootAsked}
use Rattle.control_laws.proofs.RootLemmas.{begun_kept}
use Rattle.control_laws.proofs.RunLemmas.{run_kept}
use Rattle.control_laws.specs.Move.{LinkMoves}
use Rattle.control_laws.proofs.SoundLemmas.{socket_there, sound_of}
use Rattle.control_laws.proofs.HeldRowLemmas.{event_count}
use Rattle.spec_control.specs.Place.{is_away}
use Rattle.spec_control.specs.Rows.{PairRow, end_owner, end_place, obj, pair}
use Rattle.spec_control.specs.Control.{Control, begun, next_object, owner_of, place_of}
use Rattle.spec_control.specs.ControlRun.{IsControlRun, after_all, after_item}
use Rattle.spec_control.specs.Names.{name_of}
use Rattle.spec_control.specs.Held.{caller_of}
use Rattle.spec_control.specs.Moments.{Moment, is_of_item, items_in, left_after, left_over, left_then, moments_by, moments_from}
use Rattle.spec_control.specs.OwnAsks.{Known, known_after, known_over}
use Rattle.desk.specs.Holding.{Holding}
use Rattle.ctl_plane.specs.Past.{control_of, Past}
use Rattle.desk.specs.Desk.{HasWhatTheySay}
use Rattle.socket_laws.specs.Aside.{LooksAreAsides, RootAsksAreAsides, MakingsAreAsides}
use Rattle.socket_laws.proofs.AsideLemmas.{known_more, made_next, names_more, state_more}
use Rattle.plain_desk.specs.Lent.{Lent, coming_to, moments_of, Asks, IsOneOrder, KeepsAside, Sees}
use Rattle.plain_desk.proofs.MakeLemmas.{unless_none}
use Rattle.plain_desk.proofs.OrderLemmas.{other_same, own_more}
use Rattle.plain_desk.proofs.StayLemmas.{stays_over}
use Rattle.socket_laws.proofs.SocketLemmas.{is_in, kept_now}
use Rattle.core_laws.specs.Calls.{for_caller}
use Rattle.core_laws.proofs.SilentLemmas.{one_order_of}
use Rattle.plain_core.specs.Leaving.{moments_at, HasOpenAt, LeavesSockets}
use Rattle.plain_core.specs.Sound.{Core}
use Rattle.plain_core.proofs.NextLemmas.{last_fits, next_ask, next_look}

-- an item that says nothing of so many objects, behind which its caller knows of them what it knew
pub record SaysNothing {N T : Type 0} (many : ℕ) (item : Item N T) : Type 0 where
  pub knows : (o : ℕ) → o < many → (kn : Known) → known_over o kn (item ∷ []) ≡ kn
  pub of : (o : ℕ) → o < many → (c : Control) → is_of_item o c item ≡ false

module _ {N T : Type 0} where
  left_more : (o : ℕ) (c : Control) (ms : List (Moment N T)) (m : Moment N T) → is_of_item o m.found m.item ≡ false → left_over o c (ms ++ m ∷ []) ≡ left_over o c ms
  left_more o c [] m none = ap (λ (b : Bool). let r : Control = if b then after_item m.item m.found else c in r) none
  left_more o c (x ∷ ms) m none = left_more o (left_then o x c) ms m none

-- what is on its way to a mailbox goes by pairs, and by the mailboxes of who has their ends
abbrev coming_by : List PairRow → Control → ℕ → EndId → Bool
coming_by ps c slot e =
    is_away (end_place (pair (record { objects = []; pairs = ps }) e.pair.0) e.a) && slot == (obj c.rows (end_owner (pair (record { objects = []; pairs = ps }) e.pair.0) e.a)).slot

module _ {G N T : Type 0} (k : ℕ) (old lent new : Lent G N T) (item : Item N T) (one : old.past.workers ≡ 1) (is_lent : lent ≡ record old { caller = k }) (workers : new.past.workers ≡ 1) (items : new.items ≡ old.items ++ item ∷ [])
    (by : caller_of item ≡ k) (caller : new.caller ≡ lent.caller) (was : IsOneOrder old) (is : IsOneOrder new) (silent : SaysNothing (next_object (after_all old.items (begun 1))) item)
    (pairs : (after_item item (after_all old.items (begun 1))).rows.pairs ≡ (after_all old.items (begun 1)).rows.pairs)
    (objects : next_object (after_all old.items (begun 1)) ≤ next_object (after_item item (after_all old.items (begun 1))))
    (names : name_of (old.items ++ item ∷ []) ≡ name_of old.items) (given : new.past.given ≡ lent.past.given) (keeps : KeepsAside lent new) where
  abbrev c : Control
  c = after_all old.items (begun 1)

  abbrev m : Moment N T
  m = record { found = c; item = item }

  own : moments_at k new ≡ moments_at k old ++ m ∷ []
  own = ap (λ (xs : List (Item N T)). moments_by k (moments_from (begun 1) xs)) items ∙ own_more k 1 old.items item by

  items_own : items_in (moments_at k new) ≡ items_in (moments_at k old) ++ item ∷ []
  items_own = ap items_in own ∙ map-append (λ (x : Moment N T). x.item) (moments_at k old) (m ∷ [])

  lent_moments : moments_of lent ≡ moments_at k old
  lent_moments = ap moments_of is_lent ∙ ap (λ (n : ℕ). moments_by k (moments_from (begun n) old.items)) one

  caller_is : new.caller ≡ k
  caller_is = caller ∙ ap (λ (l : Lent G N T). l.caller) is_lent

  new_moments : moments_of new ≡ moments_at k new
  new_moments = ap (λ (n : ℕ). moments_by n (moments_from (begun new.past.workers) new.items)) caller_is ∙ ap (λ (n : ℕ). moments_by k (moments_from (begun n) new.items)) workers

  has_still : (h : Holding N) → HasWhatTheySay k (moments_at k old) h → HasWhatTheySay k (moments_at k new) h
  has_still h has =
      let start = subst (λ (n : ℕ). HasWhatTheySay n (moments_of lent) h) (sym (ap (λ (l : Lent G N T). l.caller) is_lent)) (subst (λ (ms : List (Moment N T)). HasWhatTheySay k ms h) (sym lent_moments) has) in
      subst (λ (ms : List (Moment N T)). HasWhatTheySay k ms h) new_moments (subst (λ (n : ℕ). HasWhatTheySay n (moments_of new) h) caller_is (keeps h start).has)

  was_control : control_of old.past ≡ c
  was_control = was.control ∙ ap (λ (n : ℕ). after_all old.items (begun n)) one

  -- who has a socket open has one that was made
  made : (o : ℕ) → HasOpenAt k old o → o < next_object c
  made o known =
      let open_so = subst (λ (n : ℕ). (known_after o (items_in (moments_by k (moments_from (begun n) old.items)))).open_socket ≡ true) (sym one) known in
      subst (λ (x : Control). o < next_object x) was_control
      (socket_there (control_of old.past).rows o (is_in (for_caller k old) (one_order_of k old was) o open_so).open_now.socket)

  is_control : control_of new.past ≡ after_item item c
  is_control = is.control ∙ ap (λ (n : ℕ). after_all new.items (begun n)) workers ∙ ap (λ (xs : List (Item N T)). after_all xs (begun 1)) items ∙ state_more old.items item (begun 1)

  same_pairs : (control_of new.past).rows.pairs ≡ (control_of old.past).rows.pairs
  same_pairs = ap (λ (x : Control). x.rows.pairs) is_control ∙ pairs ∙ ap (λ (x : Control). x.rows.pairs) (sym was_control)

  run_now : IsControlRun (begun 1) (old.items ++ item ∷ [])
  run_now = (let order = is.order in subst (λ (xs : List (Item N T)). IsControlRun (begun 1) xs) items (subst (λ (n : ℕ). IsControlRun (begun n) new.items) workers order.run))

  -- who was there has its mailbox still
  same_box : (i : ℕ) → i < next_object (control_of old.past) → (obj (control_of new.past).rows i).slot ≡ (obj (control_of old.past).rows i).slot
  same_box i there =
      let run = last_fits old.items item (begun 1) run_now in
      ap (λ (x : Control). (obj x.rows i).slot) is_control
      ∙ (stays_over (item ∷ []) c (run_kept old.items (begun 1) (begun_kept 1) run.0) (run.1, tt) i (subst (λ (x : Control). i < next_object x) was_control there)).slot
      ∙ ap (λ (x : Control). (obj x.rows i).slot) (sym was_control)

  same_coming : (slot : ℕ) (e : EndId) → coming_to new slot e ≡ coming_to old slot e
  same_coming slot e =
      let b = control_of old.past in
      ap (λ (ps : List PairRow). coming_by ps (control_of new.past) slot e) same_pairs
      ∙ ap (λ (n : ℕ). is_away (place_of b e) && slot == n) (same_box (owner_of b e) ((sound_of b (kept_now old was)).ends e.pair.0 e.a))

  pub leaves : LeavesSockets k old new
  leaves = record {
    was_one = one;
    one = workers;
    others = λ j other. ap (λ (xs : List (Item N T)). moments_by j (moments_from (begun 1) xs)) items ∙ other_same j 1 old.items item (λ same. other (sym by ∙ same));
    knows = λ o known. ap (known_after o) items_own ∙ known_more o _ (items_in (moments_at k old)) (item ∷ []) ∙ silent.knows o (made o known) (known_after o (items_in (moments_at k old)));
    left = λ o known. ap (left_after o) own ∙ left_more o (begun 0) (moments_at k old) m (silent.of o (made o known) c);
    has = has_still;
    names = ap name_of items ∙ names;
    given = given ∙ ap (λ (l : Lent G N T). l.past.given) is_lent;
    pairs = ap (λ (ps : List PairRow). length ps) same_pairs;
    places = λ e. ap (λ (ps : List PairRow). end_place (pair (record { objects = []; pairs = ps }) e.pair.0) e.a) same_pairs;
    coming = λ slot e. same_coming slot e;
    numbers = λ o lt. subst (λ (xs : List (Item N T)). o < next_object (after_all xs (begun 1))) (sym items)
        (subst (λ (x : Control). o < next_object x) (sym (state_more old.items item (begun 1))) (omega (arith, objects, lt)));
  }

-- ---- the calls

module _ {S G N T : Type 0} (v : Core S G N T) (lent new : Lent G N T) (k : ℕ) (one : v.desk.past.workers ≡ 1) (is_lent : lent ≡ record v.desk { caller = k }) (was : IsOneOrder v.desk) (is : IsOneOrder new) (keeps : KeepsAside lent new) where
  pub look_leaves : LooksAreAsides N T → (sight : Sight) → Sees Nothing sight lent new → LeavesSockets k v.desk new
  look_leaves looks sight sees =
      let next = next_look v lent new k one is_lent is sight sees in
      let aside = looks v.desk.items sight in
      leaves k v.desk lent new (Seen sight) one is_lent next.one next.order (sees.by ∙ ap (λ (l : Lent G N T). l.caller) is_lent) sees.caller was is
      (record { knows = λ o there kn. refl; of = λ o there c. refl }) aside.pairs (omega arith) (names_more v.desk.items (Seen sight) aside.names) (ap (λ (p : Past G N T). p.given) sees.past) keeps

  pub ask_leaves : RootAsksAreAsides N T → (reply : Reply) → Asks AskTerm reply lent new → LeavesSockets k v.desk new
  ask_leaves root reply asks =
      let item : Item N T = Event (record { by = lent.caller; did = DidAsk AskTerm reply asks.answered }) in
      let next = next_ask v lent new k one is_lent is AskTerm reply asks in
      let run = last_fits v.desk.items item (begun 1) next.run in
      let aside = root v.desk.items lent.caller reply asks.answered run.1 in
      let kept = run_kept v.desk.items (begun 1) (begun_kept 1) run.0 in
      let count = event_count (after_all v.desk.items (begun 1)) (DidAsk AskTerm reply asks.answered) kept run.1 (unless_none reply (LinkMoves 0 RootAsked ∷ []) refl) in
      leaves k v.desk lent new item one is_lent next.one next.order (ap (λ (l : Lent G N T). l.caller) is_lent) asks.caller was is
      (record { knows = λ o there kn. refl; of = λ o there c. refl }) aside.pairs (omega (arith, count)) (names_more v.desk.items item aside.names) (ap (λ (p : Past G N T). p.given) asks.past) keeps

  -- ---- the making of a socket
  made_count : (kind : Kind) (options : Options) (reply : Reply) (h : Answers) (c : Control) → next_object c ≤ next_object (answered (MakeSocket kind options) reply h c)
  made_count kind options Done h c = omega (arith, length-append c.rows.objects (socket_row kind options c ∷ []))
  made_count kind options (Object o) h c = omega (arith, length-append c.rows.objects (socket_row kind options c ∷ []))
  made_count kind options (Pair p) h c = omega (arith, length-append c.rows.objects (socket_row kind options c ∷ []))
  made_count kind options (Both o p) h c = omega (arith, length-append c.rows.objects (socket_row kind options c ∷ []))
  made_count kind options Wait h c = omega (arith, length-append c.rows.objects (socket_row kind options c ∷ []))
  made_count kind options Asked h c = omega (arith, length-append c.rows.objects (socket_row kind options c ∷ []))
  made_count kind options Before h c = omega arith
  made_count kind options (Refused refusal) h c = omega arith

  pub make_leaves : MakingsAreAsides N T → (kind : Kind) (options : Options) (reply : Reply) → Asks (MakeSocket kind options) reply lent new → LeavesSockets k v.desk new
  make_leaves makings kind options reply asks =
      let item : Item N T = Event (record { by = lent.caller; did = DidAsk (MakeSocket kind options) reply asks.answered }) in
      let c : Control = after_all v.desk.items (begun 1) in
      let next = next_ask v lent new k one is_lent is (MakeSocket kind options) reply asks in
      let run = last_fits v.desk.items item (begun 1) next.run in
      let aside = makings v.desk.items lent.caller kind options reply asks.answered run.1 in
      let not_it = made_next c kind options reply asks.answered run.1 in
      leaves k v.desk lent new item one is_lent next.one next.order (ap (λ (l : Lent G N T). l.caller) is_lent) asks.caller was is
      (record {
        knows = λ o there kn. ap (λ (b : Bool). let r : Known = if b then record kn { open_socket = true } else kn in r) (not_it o there);
        of = λ o there d. not_it o there;
      }) aside.pairs (made_count kind options reply (answers_in asks.answered) c) (names_more v.desk.items item aside.names) (ap (λ (p : Past G N T). p.given) asks.past) keeps
