-- What stands goes on over the calls of an open socket.
use Rattle.std.specs.Prelude.{◌≡◌, ◌<◌, ◌==◌, ◌++◌, ℕ, Bool, true, false, List, [], ◌∷◌, Option, Some, None, if◌then◌else◌, refl}
use Rattle.std.proofs.Common.{arith, sym, ap, ◌∙◌, subst}
use Rattle.std.proofs.lemmas.Bool.{eq-eqb, eqb-true}
use Rattle.std.proofs.lemmas.List.{append_cancel_left, map-append}
use Rattle.spec_pattern.specs.PipeStep.{PipeStep}
use Rattle.spec_control.specs.declared.entry.Answered.{Answered}
use Rattle.spec_control.specs.declared.entry.Did.{Did}
use Rattle.spec_control.specs.declared.entry.Did.TheVariants.{Asked, Delivered, Delimited}
use Rattle.spec_control.specs.declared.entry.Item.{Item}
use Rattle.spec_control.specs.declared.entry.Item.TheVariants.{Event, Seen}
use Rattle.spec_control.specs.declared.letter.Word.{Word}
use Rattle.spec_control.specs.declared.letter.Word.TheVariants.{Own, Plug, TermReq, Term, TermAck, PipeBind, PipeTerm, PipeTermAck, Stop, Reap}
use Rattle.spec_control.specs.declared.request.Req.{Req}
use Rattle.spec_control.specs.declared.request.Req.TheVariants.{Socket as MakeSocket, AskTerm, Bind, Connect, Unbind, Disconnect, Close, Accepted, Shaken, AskEnd, AskOver, OutputOver}
use Rattle.spec_control.specs.declared.request.Reply.{Reply}
use Rattle.spec_control.specs.Rows.{is_owner}
use Rattle.spec_control.specs.Control.{Control, begun, id, next_object, next_pair}
use Rattle.spec_control.specs.ControlRun.{after_all, after_item, Fits, IsControlRun}
use Rattle.spec_control.specs.Names.{name_of}
use Rattle.control_laws.proofs.ListLemmas.{never}
use Rattle.control_laws.specs.Kept.{Kept}
use Rattle.spec_control.specs.Held.{items_by}
use Rattle.spec_control.specs.Has.{has_after, made_by}
use Rattle.spec_control.specs.Moments.{Moment, items_in, moments_from}
use Rattle.spec_control.specs.OwnAsks.{Known as KnownOf, known_after, known_at_request, known_at_word, known_in, known_over, unknown}
use Rattle.msg_pipe.specs.Known.{Known}
use Rattle.ctl_plane.specs.Past.{control_of}
use Rattle.control_laws.proofs.MomentLemmas.{own_moments}
use Rattle.control_laws.proofs.ThereLemmas.{had_objects_are_there}
use Rattle.spec_run.specs.Act.{Act, moments_in, steps_in}
use Rattle.spec_run.specs.OwnedRun.{AreCountedBy}
use Rattle.zq_world.specs.Piece.{Piece, pipe_steps}
use Rattle.socket_laws.specs.Sides.{is_shut, AreAtEnds, CallMayCome, OpenSockets, OpensGoOn, by_owner, by_reaper}
use Rattle.zq_world.specs.CoreCalls.{IsOnlyReaper}
use Rattle.socket_laws.specs.Standing.{open_by, opens_in, CoreStands, PastStands}
use Rattle.socket_laws.specs.StandingCalls.{CallStands}
use Rattle.socket_laws.proofs.AsideLemmas.{known_more, made_next}
use Rattle.plain_desk.specs.Lent.{moments_of, GrowsBy, HasSocket, IsOneOrder, Lent}
use Rattle.socket_laws.proofs.LastLemmas.{grown, others_stay}
use Rattle.socket_laws.proofs.SocketLemmas.{is_in}
use Rattle.core_laws.specs.Calls.{for_caller}
use Rattle.core_laws.proofs.ChainLemmas.{kept_then, there_then}
use Rattle.plain_desk.proofs.StayLemmas.{found_by, kept_found, run_more}
use Rattle.core_laws.proofs.SilentLemmas.{one_order_of}
use Rattle.core_laws.specs.Done.{ActsDone, PastIn}
use Rattle.core_laws.specs.Reaps.{ReapDone}
use Rattle.core_laws.specs.Stands.{CallsStand, NamesMade}

none_some : {X : Type 0} {x : X} → None ≡ Some x → ⊥
none_some e = Prim.grind arith

some_is : {X : Type 0} {x y : X} → Some x ≡ Some y → x ≡ y
some_is e = Prim.grind arith

-- ---- no item opens a socket that was there
abbrev was_if : Bool → KnownOf → KnownOf → Bool
was_if b x y = (if b then x else y).open_socket

back_if : (b : Bool) (x y k : KnownOf) → (x.open_socket ≡ true → k.open_socket ≡ true) → (y.open_socket ≡ true → k.open_socket ≡ true) → was_if b x y ≡ true → k.open_socket ≡ true
back_if true x y k one other e = one e
back_if false x y k one other e = other e

word_back : (word : Word) (left : Bool) (k : KnownOf) → (known_at_word word left k).open_socket ≡ true → k.open_socket ≡ true
word_back (Own child) left k e = e
word_back (Plug None) left k e = e
word_back (Plug (Some end)) left k e = e
word_back (TermReq child) left k e = e
word_back Term left k e = e
word_back (TermAck child) left k e = e
word_back (PipeBind end peer) left k e = e
word_back (PipeTerm end) left k e = e
word_back (PipeTermAck end) left k e = e
word_back Stop left k e = e
word_back (Reap socket) left k e = e

-- the object that a making makes
abbrev made_of : Req → Reply → Option ℕ
made_of (MakeSocket kind options) reply = made_by reply
made_of AskTerm reply = None
made_of (Bind s at) reply = None
made_of (Connect s at) reply = None
made_of (Unbind s at) reply = None
made_of (Disconnect s at) reply = None
made_of (Close s) reply = None
made_of (Accepted s) reply = None
made_of (Shaken s peer) reply = None
made_of (AskEnd end reason) reply = None
made_of (AskOver s) reply = None
made_of (OutputOver s) reply = None

request_back : (o : ℕ) (req : Req) (reply : Reply) (k : KnownOf) → is_owner o (made_of req reply) ≡ false → (known_at_request o req reply k).open_socket ≡ true → k.open_socket ≡ true
request_back o (MakeSocket kind options) reply k none e = sym (ap (λ (b : Bool). was_if b (record k { open_socket = true }) k) none) ∙ e
request_back o AskTerm reply k none e = e
request_back o (Bind s at) reply k none e = e
request_back o (Connect s at) reply k none e = e
request_back o (Unbind s at) reply k none e = e
request_back o (Disconnect s at) reply k none e = e
request_back o (Close s) reply k none e = back_if (s.0 == o) (record k { open_socket = false }) k k (λ f. absurd (never f)) (λ f. f) e
request_back o (Accepted s) reply k none e = back_if (is_owner o (made_by reply)) (record k { session = true; accepted = true }) k k (λ f. f) (λ f. f) e
request_back o (Shaken s peer) reply k none e = back_if (s.0 == o) (record k { shaken = true }) k k (λ f. f) (λ f. f) e
request_back o (AskEnd end reason) reply k none e = e
request_back o (AskOver s) reply k none e = back_if (s.0 == o) (record k { asked_over = true }) k k (λ f. f) (λ f. f) e
request_back o (OutputOver s) reply k none e = back_if (s.0 == o) (record k { output_left = false }) k k (λ f. f) (λ f. f) e

module _ {N T : Type 0} (o : ℕ) where
  made_none : (c : Control) (req : Req) (reply : Reply) (h : Answered N T) → Fits c (let did : Did N T = Asked req reply h in did) → o < next_object c → is_owner o (made_of req reply) ≡ false
  made_none c (MakeSocket kind options) reply h fits there = made_next c kind options reply h fits o there
  made_none c AskTerm reply h fits there = refl
  made_none c (Bind s at) reply h fits there = refl
  made_none c (Connect s at) reply h fits there = refl
  made_none c (Unbind s at) reply h fits there = refl
  made_none c (Disconnect s at) reply h fits there = refl
  made_none c (Close s) reply h fits there = refl
  made_none c (Accepted s) reply h fits there = refl
  made_none c (Shaken s peer) reply h fits there = refl
  made_none c (AskEnd end reason) reply h fits there = refl
  made_none c (AskOver s) reply h fits there = refl
  made_none c (OutputOver s) reply h fits there = refl

  did_back : (c : Control) (did : Did N T) → Fits c did → o < next_object c → (k : KnownOf) → (known_in o did k).open_socket ≡ true → k.open_socket ≡ true
  did_back c (Asked req reply h) fits there k e = request_back o req reply k (made_none c req reply h fits there) e
  did_back c (Delivered slot letter h) fits there k e = back_if (letter.to.0 == o) (known_at_word letter.word h.output_left k) k k (word_back letter.word h.output_left k) (λ f. f) e
  did_back c (Delimited end h) fits there k e = e

  open_back : (xs : List (Item N T)) (c : Control) → Kept c → IsControlRun c xs → o < next_object c → (k : KnownOf) → (known_over o k xs).open_socket ≡ true → k.open_socket ≡ true
  open_back [] c kept run there k e = e
  open_back (Event entry ∷ xs) c kept run there k e =
      let item : Item N T = Event entry in
      did_back c entry.did run.0 there k
      (open_back xs (after_item item c) (kept_then item c kept run.0) run.1 (there_then item c kept run.0 o there) (known_in o entry.did k) e)
  open_back (Seen sight ∷ xs) c kept run there k e = open_back xs c kept run.1 there k e

-- ---- whose open sockets there are
module _ {N T : Type 0} (items : List (Item N T)) (o j : ℕ) where
  record IsOpened : Type 0 where
    has : has_after o items ≡ Some j
    knows : (known_after o (items_by j items)).open_socket ≡ true

  opened : opens_in items o ≡ Some j → IsOpened
  opened e = by (has_after o items) refl e
    where
      knows_it : (k : ℕ) → has_after o items ≡ Some k → (b : Bool) → (known_after o (items_by k items)).open_socket ≡ b → (let r : Option ℕ = if b then Some k else None in r) ≡ Some j → IsOpened
      knows_it k has true knows is =
          let same : k ≡ j = some_is is in
          record { has = has ∙ is; knows = subst (λ (n : ℕ). (known_after o (items_by n items)).open_socket ≡ true) same knows }
      knows_it k has false knows is = absurd (none_some is)

      by : (h : Option ℕ) → has_after o items ≡ h → open_by h o items ≡ Some j → IsOpened
      by None has is = absurd (none_some is)
      by (Some k) has is = knows_it k has (known_after o (items_by k items)).open_socket refl is

  open_so : IsOpened → opens_in items o ≡ Some j
  open_so is = ap (λ (h : Option ℕ). open_by h o items) is.has ∙ ap (λ (b : Bool). let r : Option ℕ = if b then Some j else None in r) is.knows

module _ {N T : Type 0} where
  items_of : (xs : List (Item N T)) (c : Control) → items_in (moments_from c xs) ≡ xs
  items_of [] c = refl
  items_of (x ∷ xs) c = ap (λ (ys : List (Item N T)). x ∷ ys) (items_of xs (after_item x c))

-- ---- an open socket was open before the calls of any caller
module _ {G N T : Type 0} (d : Lent G N T) (o j : ℕ) where
  own_items : items_in (moments_of (for_caller j d)) ≡ items_by j d.items
  own_items = own_moments j d.items (begun d.past.workers)

  from_open : IsOpened d.items o j → HasSocket (for_caller j d) (id o)
  from_open is = ap (λ (xs : List (Item N T)). (known_after o xs).open_socket) own_items ∙ is.knows

  to_open : IsOneOrder d → HasSocket (for_caller j d) (id o) → IsOpened d.items o j
  to_open order known = record {
    has = (is_in (for_caller j d) (one_order_of j d order) o known).has;
    knows = sym (ap (λ (xs : List (Item N T)). (known_after o xs).open_socket) own_items) ∙ known;
  }

module _ {G N T : Type 0} (old new : Lent G N T) (was : IsOneOrder old) (is : IsOneOrder new) (grows : GrowsBy old new) (o : ℕ) (there : o < next_object (found_by old new is grows)) where
  own_was : HasSocket (for_caller old.caller new) (id o) → HasSocket old (id o)
  own_was known = open_back o grows.more (found_by old new is grows) (kept_found old new is grows was) (run_more old new is grows) there (known_after o (items_in (moments_of old))) now
    where
      all : items_in (moments_of (for_caller old.caller new)) ≡ items_in (moments_of old) ++ grows.more
      all =
          ap (λ (k : ℕ). items_in (moments_of (for_caller k new))) (sym grows.caller)
          ∙ ap items_in (grown old new grows)
          ∙ map-append (λ (m : Moment N T). m.item) (moments_of old) (moments_from (found_by old new is grows) grows.more)
          ∙ ap (λ (xs : List (Item N T)). items_in (moments_of old) ++ xs) (items_of grows.more (found_by old new is grows))

      now : (known_over o (known_after o (items_in (moments_of old))) grows.more).open_socket ≡ true
      now =
          ap (λ (k : KnownOf). k.open_socket) (sym (known_more o unknown (items_in (moments_of old)) grows.more))
          ∙ ap (λ (xs : List (Item N T)). (known_after o xs).open_socket) (sym all) ∙ known

  was_open : (j : ℕ) → HasSocket (for_caller j new) (id o) → HasSocket (for_caller j old) (id o)
  was_open j known = by (j == old.caller) refl
    where
      by : (b : Bool) → (j == old.caller) ≡ b → HasSocket (for_caller j old) (id o)
      by true e = subst (λ (k : ℕ). HasSocket (for_caller k old) (id o)) (sym (eqb-true j old.caller e)) (own_was (subst (λ (k : ℕ). HasSocket (for_caller k new) (id o)) (eqb-true j old.caller e) known))
      by false e =
          sym (ap (λ (ms : List (Moment N T)). (known_after o (items_in ms)).open_socket) (others_stay G N T old new grows j (λ same. never (sym e ∙ eq-eqb j old.caller same)))) ∙ known

-- ---- a call of whichever caller
module _ {S O I N : Type 0} (K : Known S O I N) {G T : Type 0} (old new : Lent G N T) (before behind : S) (was : IsOneOrder old) (is : IsOneOrder new) (grows : GrowsBy old new) (one : old.past.workers ≡ 1) where
  abbrev more : List (Item N T)
  more = grows.more

  abbrev c : Control
  c = after_all old.items (begun 1)

  abbrev d : Control
  d = after_all (old.items ++ more) (begun 1)

  pub found : after_all old.items (begun old.past.workers) ≡ after_all old.items (begun 1)
  found = ap (λ (n : ℕ). after_all old.items (begun n)) one

  control_was : control_of old.past ≡ after_all old.items (begun 1)
  control_was = was.control ∙ found

  control_is : control_of new.past ≡ after_all (old.items ++ more) (begun 1)
  control_is = is.control ∙ ap (λ (n : ℕ). after_all new.items (begun n)) (grows.workers ∙ one) ∙ ap (λ (xs : List (Item N T)). after_all xs (begun 1)) grows.items

  past_of : (steps : List PipeStep) → PastStands K (after_all old.items (begun 1)) (name_of old.items) before steps → PastStands K (control_of old.past) (name_of old.items) before steps
  past_of steps stands = subst (λ (x : Control). PastStands K x (name_of old.items) before steps) (sym control_was) stands

  past_now : (steps : List PipeStep) → PastStands K (control_of new.past) (name_of new.items) behind steps → PastStands K (after_all (old.items ++ more) (begun 1)) (name_of (old.items ++ more)) behind steps
  past_now steps stands =
      subst (λ (xs : List (Item N T)). PastStands K (after_all (old.items ++ more) (begun 1)) (name_of xs) behind steps) grows.items
      (subst (λ (x : Control). PastStands K x (name_of new.items) behind steps) control_is stands)

  opens_on : OpensGoOn (after_all old.items (begun 1)) (opens_in old.items) (opens_in (old.items ++ more))
  opens_on p j there opens =
      let now : opens_in new.items p ≡ Some j = ap (λ (xs : List (Item N T)). opens_in xs p) grows.items ∙ opens in
      let known = from_open new p j (opened new.items p j now) in
      let there_now = subst (λ (x : Control). p < next_object x) (sym found) there in
      open_so old.items p j (to_open old p j was (was_open old new was is grows p there_now j known))

  -- its steps are at ends of such objects
  ends_now : (opens : OpenSockets → ℕ → Bool) (acts : List (Act N T)) → AreAtEnds (control_of new.past) (opens (opens_in new.items)) acts → AreAtEnds (after_all (old.items ++ more) (begun 1)) (opens (opens_in (old.items ++ more))) acts
  ends_now opens acts at =
      subst (λ (xs : List (Item N T)). AreAtEnds (after_all (old.items ++ more) (begun 1)) (opens (opens_in xs)) acts) grows.items
      (subst (λ (x : Control). AreAtEnds x (opens (opens_in new.items)) acts) control_is at)

  module _ (acts : List (Act N T)) (said : moments_in acts ≡ moments_from (after_all old.items (begun 1)) grows.more)
      (past : (past : List PipeStep) → PastIn K old before past → PastIn K new behind (past ++ steps_in acts))
      (counted : (past : List PipeStep) → PastIn K old before past → AreCountedBy past (control_of old.past).settlements → AreCountedBy (past ++ steps_in acts) (control_of new.past).settlements) where
    stands_by : NamesMade new → (k : ℕ) (reaps : Bool) (pieces : List (Piece N T)) → CoreStands K old.items before pieces →
        CallMayCome (after_all old.items (begun 1)) (after_all (old.items ++ grows.more) (begun 1)) (opens_in old.items) (opens_in (old.items ++ grows.more)) pieces k reaps acts → CallStands K old.items grows.more before behind pieces k reaps acts
    stands_by made k reaps pieces stands may =
        let stood = stands.past in record {
          said = said;
          past = λ stand. past_now (pipe_steps pieces ++ steps_in acts) (past (pipe_steps pieces) (past_of (pipe_steps pieces) stand));
          names_made = λ p n named. subst (λ (x : Control). p.pair.0 < next_pair x) control_is (made p n (ap (λ (xs : List (Item N T)). name_of xs p) grows.items ∙ named));
          counted = λ counts. subst (λ (x : Control). AreCountedBy (pipe_steps pieces ++ steps_in acts) x.settlements) control_is
              (counted (pipe_steps pieces) (past_of (pipe_steps pieces) stood) (subst (λ (x : Control). AreCountedBy (pipe_steps pieces) x.settlements) (sym control_was) counts));
          opens = opens_on;
          may = may;
        }

-- ---- of an open socket's
module _ {S O I N : Type 0} (K : Known S O I N) {G T : Type 0} (o : ℕ) (old new : Lent G N T) (before behind : S) (acts : List (Act N T)) (was : IsOneOrder old) (is : IsOneOrder new) (had : HasSocket old (id o))
    (done : ActsDone K o old new before behind acts) (one : old.past.workers ≡ 1) where
  abbrev grows : GrowsBy old new
  grows = done.grows

  pub said : moments_in acts ≡ moments_from (after_all old.items (begun 1)) done.grows.more
  said =
      append_cancel_left (moments_of old) (moments_in acts) (moments_from (after_all old.items (begun old.past.workers)) grows.more) (sym done.moments ∙ grown old new grows)
      ∙ ap (λ (x : Control). moments_from x grows.more) (found K old new before behind was is grows one)

  mine : opens_in old.items o ≡ Some old.caller
  mine = open_so old.items o old.caller (to_open old o old.caller was had)

  pub it_is_there : o < next_object (after_all old.items (begun 1))
  it_is_there =
      let order = was.order in
      subst (λ (x : Control). o < next_object x) (found K old new before behind was is grows one) (had_objects_are_there N T old.past.workers old.items order.run o old.caller (is_in old was o had).has)

  pub call_stands : NamesMade new → (pieces : List (Piece N T)) → CoreStands K old.items before pieces → CallStands K old.items done.grows.more before behind pieces old.caller false acts
  call_stands made pieces stands =
      stands_by K old new before behind was is grows one acts said done.past done.counted made old.caller false pieces stands
      (by_owner o refl it_is_there mine (ends_now K old new before behind was is grows one (λ opens i. i == o) acts done.at_ends))

pub calls_stand : {S O I N : Type 0} (K : Known S O I N) (G T : Type 0) → CallsStand K G T
calls_stand K G T o old new before behind acts was is had done made one pieces stands = call_stands K o old new before behind acts was is had done one made pieces stands

-- ---- of the reaper's
module _ {S O I N : Type 0} (K : Known S O I N) {G T : Type 0} (old new : Lent G N T) (before behind : S) (acts : List (Act N T)) (was : IsOneOrder old) (is : IsOneOrder new) (done : ReapDone K old new before behind acts) (one : old.past.workers ≡ 1) where
  pub reap_said : moments_in acts ≡ moments_from (after_all old.items (begun 1)) done.grows.more
  reap_said = done.said ∙ ap (λ (x : Control). moments_from x done.grows.more) (was.control ∙ found K old new before behind was is done.grows one)

  pub reap_stands : NamesMade new → (pieces : List (Piece N T)) → IsOnlyReaper old.caller pieces → CoreStands K old.items before pieces → CallStands K old.items done.grows.more before behind pieces old.caller true acts
  reap_stands made pieces only stands =
      stands_by K old new before behind was is done.grows one acts reap_said done.past done.counted made old.caller true pieces stands
      (by_reaper refl only (ends_now K old new before behind was is done.grows one (λ opens i. is_shut (opens i)) acts done.at_ends))
