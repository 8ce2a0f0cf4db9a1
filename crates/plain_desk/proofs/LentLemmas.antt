-- A request more is noted in the order, and in the history.
use Rattle.std.specs.Prelude.{◌≡◌, ◌<◌, ◌≤◌, ◌+◌, ◌++◌, ℕ, zero, suc, true, false, List, [], ◌∷◌, Option, None, Some, is_some, length, map, refl}
use Rattle.std.specs.List.{list_any}
use Rattle.std.proofs.Common.{arith, sym, ap, ◌∙◌, subst}
use Rattle.std.proofs.lemmas.List.{length-append, map-append}
use Rattle.zq_base.specs.declared.ids.ObjId.{ObjId}
use Rattle.zq_base.specs.declared.kind.Kind.{Kind}
use Rattle.zq_base.specs.declared.options.Options.{Options}
use Rattle.spec_control.specs.Rows.{obj}
use Rattle.spec_control.specs.Row.{Row}
use Rattle.spec_control.specs.After.{after, answers_in, requested, socket_row}
use Rattle.spec_control.specs.ControlRun.{Fits, IsOpenSocket}
use Rattle.control_laws.proofs.ListLemmas.{never}
use Rattle.control_laws.specs.Kept.{Kept}
use Rattle.control_laws.proofs.RootLemmas.{begun_kept}
use Rattle.control_laws.proofs.RunLemmas.{run_kept}
use Rattle.control_laws.specs.OwnMoves.{own_moves}
use Rattle.spec_control.specs.Held.{items_by}
use Rattle.spec_control.specs.OwnAsks.{known_after}
use Rattle.spec_control.specs.Moments.{items_in}
use Rattle.desk.specs.Kinds.{kind_after}
use Rattle.ctl_moves.specs.Papers.{HasMarks}
use Rattle.control_laws.proofs.MomentLemmas.{own_moments}
use Rattle.control_laws.specs.SocketLaws.{HasOpen}
use Rattle.control_laws.proofs.KnownLemmas.{known_sockets_have_kinds}
use Rattle.control_laws.proofs.HeldOpenLemmas.{made_new, sockets_are_open}
use Rattle.control_laws.proofs.ThereLemmas.{both_new, had_objects_are_there}
use Rattle.control_laws.proofs.HeldRowLemmas.{event_count, makes_object}
use Rattle.spec_control.specs.declared.entry.Answered.{Answered}
use Rattle.spec_control.specs.declared.entry.Did.{Did}
use Rattle.spec_control.specs.declared.entry.Did.TheVariants.{Asked}
use Rattle.spec_control.specs.declared.entry.Item.{Item}
use Rattle.spec_control.specs.declared.entry.Item.TheVariants.{Event as IsEvent}
use Rattle.spec_control.specs.declared.request.Req.{Req}
use Rattle.spec_control.specs.declared.request.Req.TheVariants.{Accepted, AskTerm, Socket as MakeSocket}
use Rattle.spec_control.specs.declared.request.Reply.{Reply}
use Rattle.spec_control.specs.Control.{Control, begun, next_object, next_pair}
use Rattle.spec_control.specs.ControlRun.{after_all}
use Rattle.spec_control.specs.Names.{AreNamed}
use Rattle.spec_control.specs.Has.{IsBy, acts_in, has_after, made_by, taken_in}
use Rattle.ctl_plane.specs.Past.{as_item, control_of, items_of, with_event, IsPast, Past}
use Rattle.plain_desk.specs.declared.mark.Mark.{Mark}
use Rattle.plain_desk.specs.declared.mark.Mark.TheVariants.{Event, Seen}
use Rattle.plain_desk.specs.Order.{events_in, order_of, AreMarked, IsOrder}
use Rattle.plain_desk.specs.Lent.{AreSockets, HaveMarks, Lent, lent_to, moments_of, Asks, HaveOwnBoxes, IsLent, IsOneOrder, made_at_most}
use Rattle.desk.specs.Asking.{MayHave}
use Rattle.plain_desk.proofs.OrderLemmas.{after_more, event_more, goes_on, looks_nothing}
use Rattle.plain_desk.proofs.FitLemmas.{event_fits, last_fits, names_fit}
use Rattle.plain_desk.proofs.BoxLemmas.{boxes_begin, boxes_stay, pushed_boxes, socket_gets, GetsBox}
use Rattle.plain_desk.proofs.MakeLemmas.{either_done, made_count, marks_stay, pushed_marks, socket_made, MakesRow}

some_is : {X : Type 0} {x y : X} → Some x ≡ Some y → x ≡ y
some_is e = Prim.grind arith

none_some : {X : Type 0} {x : X} → None ≡ Some x → ⊥
none_some e = Prim.grind arith

-- nobody's object acts where the context is asked to end
pub term_by : {N S : Type 0} (past : List (Item N S)) (c : Control) (reply : Reply) (h : Answered N S) (by : ℕ) → IsBy past c (Asked AskTerm reply h) by
term_by past c reply h by = record {
  acts = λ i e. absurd (none_some e);
  takes = λ i e. absurd (none_some e);
}

pub some_of : (k : Option Kind) → is_some k ≡ true → (x : Kind) × (k ≡ Some x)
some_of None h = absurd (never h)
some_of (Some x) h = (x, refl)

events_more : (ms : List Mark) (by : ℕ) → events_in (ms ++ Event by ∷ []) ≡ events_in ms + 1
events_more [] by = refl
events_more (Event k ∷ ms) by = let more = events_more ms by in omega (arith, more)
events_more (Seen sight ∷ ms) by = events_more ms by

module _ {G N S : Type 0} where
  pub lent_begins : (workers wakers : ℕ) → workers + 1 ≤ wakers → 1 ≤ workers → IsLent {G = G} {N = N} {S = S} [] (record { workers = workers; events = []; given = [] }) wakers
  lent_begins workers wakers many some = record { marked = refl; order = record { run = tt; named = tt; by = tt }; options = none; wakers = many; boxes = boxes_begin workers some }
    where
      none : HaveMarks (begun workers)
      none zero above within = absurd (omega (arith, above))
      none (suc i) above within = absurd (omega (arith, within))

  -- ---- what is so of the control plane as it stands
  pub control_next : (old : Past G N S) (did : Did N S) → control_of (with_event did old) ≡ after did (control_of old)
  control_next old did =
      ap (λ (items : List (Item N S)). after_all items (begun old.workers)) (map-append as_item old.events (did ∷ []))
      ∙ after_more (map as_item old.events) (as_item did) (begun old.workers)

  pub control_is : (ms : List Mark) (old : Past G N S) (wakers : ℕ) → IsLent ms old wakers → after_all (order_of ms old.events) (begun old.workers) ≡ control_of old
  control_is ms old wakers lent = looks_nothing ms old.events (begun old.workers) lent.marked

  pub kept_of : (ms : List Mark) (old : Past G N S) (wakers : ℕ) → IsLent ms old wakers → Kept (control_of old)
  kept_of ms old wakers lent =
      let order = lent.order in
      subst Kept (control_is ms old wakers lent) (run_kept (order_of ms old.events) (begun old.workers) (begun_kept old.workers) order.run)

  pub one_order : (ms : List Mark) (old : Past G N S) (wakers by : ℕ) → IsLent ms old wakers → AreSockets (control_of old) (control_of old).closed → IsOneOrder (lent_to by ms old)
  one_order ms old wakers by lent closed = record {
    order = lent.order;
    control = sym (control_is ms old wakers lent);
    boxes = lent.boxes;
    options = lent.options;
    closed = closed;
  }

  -- ---- an event more
  more : (ms : List Mark) (by wakers many : ℕ) (old : Past G N S) (did : Did N S) → IsLent ms old wakers → IsPast (with_event did old) → AreNamed [] (items_of (with_event did old)) →
      IsBy (order_of ms old.events) (after_all (order_of ms old.events) (begun old.workers)) did by → HaveMarks (after did (control_of old)) → old.workers + next_object (after did (control_of old)) ≤ many → HaveOwnBoxes old.workers (after did (control_of old)) → IsLent (ms ++ Event by ∷ []) (with_event did old) many
  more ms by wakers many old did lent run named is options enough boxes = record {
    marked =
        let marks = events_more ms by in
        let events : length (old.events ++ did ∷ []) ≡ length old.events + 1 = length-append old.events (did ∷ []) in
        let marked = lent.marked in
        marks ∙ ap (λ (n : ℕ). n + 1) marked ∙ sym events;
    order = subst (λ (xs : List (Item N S)). IsOrder old.workers xs) (sym (event_more ms old.events by did lent.marked))
        (goes_on old.workers (order_of ms old.events) (IsEvent (record { by = by; did = did })) lent.order (record {
          fits = event_fits old.workers ms old.events did lent.marked run;
          names = names_fit ms old.events by did lent.marked named;
          by = is;
        }));
    options = subst HaveMarks (sym (control_next old did)) options;
    wakers = subst (λ (c : Control). old.workers + next_object c ≤ many) (sym (control_next old did)) enough;
    boxes = subst (HaveOwnBoxes old.workers) (sym (control_next old did)) boxes;
  }

  module _ (ms ms' : List Mark) (by wakers : ℕ) (old new : Past G N S) (did : Did N S) (marks : ms' ≡ ms ++ Event by ∷ []) (step : new ≡ with_event did old) where
    stands : (many : ℕ) → IsLent ms old wakers → IsPast new → AreNamed [] (items_of new) →
        IsBy (order_of ms old.events) (after_all (order_of ms old.events) (begun old.workers)) did by → HaveMarks (after did (control_of old)) → old.workers + next_object (after did (control_of old)) ≤ many → HaveOwnBoxes old.workers (after did (control_of old)) → IsLent ms' new many
    stands many lent run named is options enough boxes =
        subst (λ (xs : List Mark). IsLent xs new many) (sym marks) (subst (λ (p : Past G N S). IsLent (ms ++ Event by ∷ []) p many) (sym step)
        (more ms by wakers many old did lent (subst (λ (p : Past G N S). IsPast p) step run) (subst (λ (p : Past G N S). AreNamed [] (items_of p)) step named) is options enough boxes))

    -- one that makes no object
    pub lent_more : IsLent ms old wakers → IsPast new → AreNamed [] (items_of new) →
        IsBy (order_of ms old.events) (after_all (order_of ms old.events) (begun old.workers)) did by → list_any makes_object (own_moves (control_of old) did) ≡ false → IsLent ms' new wakers
    lent_more lent run named is none =
        let kept = kept_of ms old wakers lent in
        let fits = last_fits old.events did (begun old.workers) (subst (λ (p : Past G N S). IsPast p) step run) in
        let count = event_count (control_of old) did kept fits none in
        let enough = lent.wakers in
        stands wakers lent run named is (marks_stay (control_of old) did kept fits none lent.options) (omega (arith, count, enough)) (boxes_stay old.workers (control_of old) did kept fits none lent.boxes)

    -- an object that is made, or not
    pub lent_one : (many : ℕ) (req : Req) (reply : Reply) (h : Answered N S) (row : Row) → did ≡ Asked req reply h → MakesRow row (control_of old) (requested req (answers_in h) (control_of old)) → GetsBox old.workers (control_of old) row →
        HasMarks row → IsLent ms old wakers → IsPast new → AreNamed [] (items_of new) →
        IsBy (order_of ms old.events) (after_all (order_of ms old.events) (begun old.workers)) did by → many ≡ wakers + made_at_most reply → IsLent ms' new many
    lent_one many req reply h row is_so made gets may lent run named is count =
        let c = control_of old in
        let enough = lent.wakers in
        let one = made_count row c (requested req (answers_in h) c) made in
        stands many lent run named is (subst (λ (d : Did N S). HaveMarks (after d c)) (sym is_so) (either_done req h c HaveMarks reply (λ some. pushed_marks c row (requested req (answers_in h) c) made.rows may lent.options) lent.options))
        (subst (λ (d : Did N S). old.workers + next_object (after d c) ≤ many) (sym is_so)
        (either_done req h c (λ (d : Control). old.workers + next_object d ≤ many) reply (λ some. omega (arith, one, enough, count, some)) (omega (arith, enough, count))))
        (subst (λ (d : Did N S). HaveOwnBoxes old.workers (after d c)) (sym is_so)
        (either_done req h c (HaveOwnBoxes old.workers) reply (λ some. pushed_boxes old.workers c (kept_of ms old wakers lent) lent.boxes row gets (requested req (answers_in h) c) made) lent.boxes))

  module _ (ms ms' : List Mark) (by : ℕ) (old new : Past G N S) (req : Req) (reply : Reply) (h : Answered N S) (marks : ms' ≡ ms ++ Event by ∷ []) (step : new ≡ with_event (Asked req reply h) old) where
    pub asks_more : AreMarked ms old.events → Asks req reply (lent_to by ms old) (lent_to by ms' new)
    asks_more marked = record {
      answered = h;
      past = step;
      items = ap (λ (xs : List Mark). order_of xs new.events) marks ∙ ap (λ (p : Past G N S). order_of (ms ++ Event by ∷ []) p.events) step
          ∙ event_more ms old.events by (Asked req reply h) marked;
      caller = refl;
    }

  -- ---- a socket of the caller
  pub record Opens (ms : List Mark) (past : Past G N S) (by i : ℕ) : Type 0 where
    pub open_now : IsOpenSocket (obj (control_of past).rows i)
    pub has : has_after i (order_of ms past.events) ≡ Some by

  -- with its kind, as the caller's items say it
  pub record Shows (ms : List Mark) (past : Past G N S) (by i : ℕ) : Type 0 where
    pub kind : Kind
    pub known : kind_after i (items_by by (order_of ms past.events)) ≡ Some kind
    pub is : HasOpen past.workers (order_of ms past.events) by i kind

  pub opens : (ms : List Mark) (past : Past G N S) (wakers by i : ℕ) → IsLent ms past wakers → (known_after i (items_in (moments_of (lent_to by ms past)))).open_socket ≡ true → Shows ms past by i
  opens ms past wakers by i lent known =
      let own = own_moments by (order_of ms past.events) (begun past.workers) in
      let kind = some_of (kind_after i (items_by by (order_of ms past.events)))
      (sym (known_sockets_have_kinds N S (items_by by (order_of ms past.events)) i) ∙ ap (λ (xs : List (Item N S)). (known_after i xs).open_socket) (sym own) ∙ known) in
      let order = lent.order in
      record { kind = kind.0; known = kind.1; is = sockets_are_open N S past.workers (order_of ms past.events) order.run order.by by i kind.0 kind.1 }

  module _ (ms : List Mark) (past : Past G N S) (wakers by i : ℕ) (l : Lent G N S) (same : lent_to by ms past ≡ l) where
    pub lent_open : IsLent ms past wakers → (known_after i (items_in (moments_of l))).open_socket ≡ true → Opens ms past by i
    lent_open lent known =
        let socket = opens ms past wakers by i lent (subst (λ (d : Lent G N S). (known_after i (items_in (moments_of d))).open_socket ≡ true) (sym same) known) in
        let row = socket.is in
        record { open_now = subst (λ (c : Control). IsOpenSocket (obj c.rows i)) (control_is ms past wakers lent) row.open_socket; has = row.has }

-- nobody has an object that is not there yet
none_has : {G N S : Type 0} (ms : List Mark) (wakers : ℕ) (past : Past G N S) → IsLent ms past wakers → (i : ℕ) → next_object (control_of past) ≡ i → has_after i (order_of {N = N} {S = S} ms past.events) ≡ None
none_has {G} {N} {S} ms wakers past lent i at = of (has_after i (order_of ms past.events)) refl
  where
    of : (had : Option ℕ) → has_after i (order_of ms past.events) ≡ had → had ≡ None
    of None e = refl
    of (Some k) e =
        let order = lent.order in
        let there = had_objects_are_there N S past.workers (order_of ms past.events) order.run i k e in
        let within = subst (λ (c : Control). i < next_object c) (control_is ms past wakers lent) there in
        absurd (omega (arith, at, within))

-- nor an accepted session, whose listener acts
pub accepted_by : {G N S : Type 0} (ms : List Mark) (wakers by : ℕ) (past : Past G N S) (o : ObjId) (reply : Reply) (h : Answered N S) → IsLent ms past wakers → Fits (control_of past) (Asked (Accepted o) reply h) → has_after o.0 (order_of {N = N} {S = S} ms past.events) ≡ Some by →
    IsBy (order_of ms past.events) (after_all (order_of ms past.events) (begun past.workers)) (Asked (Accepted o) reply h) by
accepted_by ms wakers by past o reply h lent fits has = record {
  acts = λ i e. ap (λ (n : ℕ). has_after n (order_of ms past.events)) (sym (some_is e)) ∙ has;
  takes = λ i e. none_has ms wakers past lent i (both_new (next_object (control_of past)) (next_pair (control_of past)) _ i (ap made_by (sym fits.may.1) ∙ e));
}

-- nobody has a socket that is made
module _ {G N S : Type 0} (ms : List Mark) (wakers : ℕ) (past : Past G N S) (kind : Kind) (options : Options) (reply : Reply) (h : Answered N S) where
  pub made_by_one : (by : ℕ) → IsLent ms past wakers → Fits (control_of past) (Asked (MakeSocket kind options) reply h) → IsBy (order_of ms past.events) (after_all (order_of ms past.events) (begun past.workers)) (Asked (MakeSocket kind options) reply h) by
  made_by_one by lent fits = record {
    acts = λ i e. absurd (none_some e);
    takes = λ i e. none_has ms wakers past lent i (made_new (next_object (control_of past)) _ _ i (ap made_by (sym fits.may.1) ∙ e));
  }

module _ {G N S : Type 0} (ms ms' : List Mark) (by wakers many : ℕ) (old new : Past G N S) (kind : Kind) (options : Options) (reply : Reply) (h : Answered N S) (marks : ms' ≡ ms ++ Event by ∷ []) (step : new ≡ with_event (Asked (MakeSocket kind options) reply h) old) where
  pub lent_socket : MayHave options → IsLent ms old wakers → IsPast new → AreNamed [] (items_of new) → many ≡ wakers + made_at_most reply → IsLent ms' new many
  lent_socket may lent run named count =
      let fits = last_fits old.events (Asked (MakeSocket kind options) reply h) (begun old.workers) (subst (λ (p : Past G N S). IsPast p) step run) in
      lent_one ms ms' by wakers old new (Asked (MakeSocket kind options) reply h) marks step many (MakeSocket kind options) reply h (socket_row kind options (control_of old)) refl
      (socket_made (answers_in h) (control_of old) kind options) (socket_gets old.workers (control_of old) lent.boxes kind options)
      (record { some_out = may.some_out; few_out = may.few_out; some_in = may.some_in; few_in = may.few_in })
      lent run named (made_by_one ms wakers old kind options reply h by lent fits) count

-- the asking socket acts in its request
pub socket_by : {N S : Type 0} (past : List (Item N S)) (c : Control) (did : Did N S) (i by : ℕ) → acts_in c did ≡ Some i → taken_in did ≡ None → has_after i past ≡ Some by → IsBy past c did by
socket_by past c did i by acts takes has = record {
  acts = λ j e. ap (λ (n : ℕ). has_after n past) (some_is (sym e ∙ acts)) ∙ has;
  takes = λ j e. absurd (none_some (sym takes ∙ e));
}
