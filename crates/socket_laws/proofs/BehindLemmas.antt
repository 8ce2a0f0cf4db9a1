-- How an open socket goes on behind an item of it.
use Rattle.std.specs.Prelude.{◌≡◌, ◌==◌, ◌&&◌, ◌||◌, ℕ, Bool, true, false, cond, List, [], ◌∷◌, ◌++◌, Some, Option, None, is_some, if◌then◌else◌, map, refl}
use Rattle.std.proofs.Common.{sym, ap, ◌∙◌}
use Rattle.std.proofs.lemmas.Bool.{eq-eqb}
use Rattle.std.proofs.lemmas.List.{map-append}
use Rattle.std.proofs.lemmas.List.Elements.{filter-append}
use Rattle.zq_base.specs.declared.ids.EndId.{EndId}
use Rattle.zq_base.specs.declared.kind.Kind.{Kind}
use Rattle.spec_control.specs.declared.end.EndState.TheVariants.{Gone}
use Rattle.spec_control.specs.declared.request.Req.{Req}
use Rattle.spec_control.specs.declared.request.Req.TheVariants.{Socket as MakeSocket, AskTerm, Bind, Connect, Unbind, Disconnect, Close, Accepted, Shaken, AskEnd, AskOver, OutputOver}
use Rattle.spec_control.specs.declared.request.Reply.{Reply}
use Rattle.spec_control.specs.declared.entry.Joining.{Joining}
use Rattle.spec_control.specs.declared.entry.Did.{Did}
use Rattle.spec_control.specs.declared.entry.Did.TheVariants.{Asked, Delivered, Delimited}
use Rattle.spec_control.specs.declared.entry.Item.{Item}
use Rattle.spec_control.specs.declared.entry.Item.TheVariants.{Event, Seen}
use Rattle.spec_control.specs.Place.{At}
use Rattle.spec_control.specs.Rows.{obj, is_owner}
use Rattle.spec_control.specs.Control.{Control, begun, is_end, ends_of}
use Rattle.spec_control.specs.ControlRun.{after_item, after_all, IsControlRun}
use Rattle.spec_control.specs.Held.{caller_of, items_by}
use Rattle.spec_control.specs.Has.{made_by, has_after, given_by_request, given_up}
use Rattle.spec_control.specs.Moments.{Moment, moments_from, moments_by, items_in, left_after, left_by}
use Rattle.spec_control.proofs.OwnLemmas.{own_items_are_whole}
use Rattle.control_laws.proofs.ListLemmas.{never}
use Rattle.control_laws.proofs.RootLemmas.{begun_kept}
use Rattle.desk.specs.Holding.{Holding, has_end}
use Rattle.desk.specs.Desk.{HasWhatTheySay, came_with}
use Rattle.desk.specs.Kinds.{kind_at_request, kind_in, kind_over, kind_after}
use Rattle.end_table.specs.declared.table.Place.{Place}
use Rattle.end_table.specs.Places.{held_in, held_of}
use Rattle.sock_core.specs.Has.{state_in}
use Rattle.control_laws.proofs.KnownLemmas.{known_sockets_have_kinds}
use Rattle.control_laws.proofs.SlotLemmas.{event_slot, slot_left}
use Rattle.control_laws.proofs.ThereLemmas.{had_objects_are_there}
use Rattle.spec_run.specs.OpenSocket.{SockEnd}
use Rattle.socket_laws.specs.Open.{ends_at, moments_of, HasOpen, moment_at, left_before, ComesTo}
use Rattle.socket_laws.specs.OpenEnds.{state_held}
use Rattle.socket_laws.specs.Told.{closes_it, IsOpenBehind, OpenGoesOn, ToldEndsGoOn, StatesAreHeld}
use Rattle.socket_laws.proofs.OpenLemmas.{none_some, had, all_kept, above, after_more, run_last}
use Rattle.socket_laws.proofs.LeftLemmas.{open_ends_are_left}
use Rattle.socket_laws.proofs.GoLemmas.{open_before, item_goes}
use Rattle.socket_laws.proofs.ToldLemmas.{told_ends_are_left}

-- ---- one moment more
module _ {N S : Type 0} where
  moments_snoc : (c : Control) (items : List (Item N S)) (item : Item N S) → moments_from c (items ++ item ∷ []) ≡ moments_from c items ++ record { found = after_all items c; item = item } ∷ []
  moments_snoc c [] item = refl
  moments_snoc c (x ∷ items) item = ap (λ (ms : List (Moment N S)). record { found = c; item = x } ∷ ms) (moments_snoc (after_item x c) items item)

  pub moment_more : (io : ℕ) (before : List (Item N S)) (item : Item N S) → moments_of io (before ++ item ∷ []) (caller_of item) ≡ moments_of io before (caller_of item) ++ moment_at io before item ∷ []
  moment_more io before item =
      ap (moments_by (caller_of item)) (moments_snoc (begun io) before item)
      ∙ filter-append (λ m. caller_of m.item == caller_of item) (moments_from (begun io) before) (moment_at io before item ∷ [])
      ∙ ap (λ (b : Bool). moments_of io before (caller_of item) ++ cond b (moment_at io before item ∷ []) []) (eq-eqb (caller_of item) (caller_of item) refl)

  kind_snoc : (i : ℕ) (k : Option Kind) (items : List (Item N S)) (item : Item N S) → kind_over i k (items ++ item ∷ []) ≡ kind_over i (kind_over i k items) (item ∷ [])
  kind_snoc i k [] item = refl
  kind_snoc i k (Event entry ∷ items) item = kind_snoc i (kind_in i entry.did k) items item
  kind_snoc i k (Seen sight ∷ items) item = kind_snoc i k items item

-- ---- what leaves a socket open
asked_open : (i : ℕ) (req : Req) (reply : Reply) (k : Option Kind) → is_owner i (given_by_request req) ≡ false → is_some k ≡ true → is_some (kind_at_request i req reply k) ≡ true
asked_open i (MakeSocket kind options) reply k none is = by (is_owner i (made_by reply))
  where
    by : (b : Bool) → is_some (if b then Some kind else k) ≡ true
    by true = refl
    by false = is
asked_open i AskTerm reply k none is = is
asked_open i (Bind o at) reply k none is = is
asked_open i (Connect o at) reply k none is = is
asked_open i (Unbind o at) reply k none is = is
asked_open i (Disconnect o at) reply k none is = is
asked_open i (Close o) reply k none is = ap (λ (b : Bool). is_some (if b then None else k)) none ∙ is
asked_open i (Accepted o) reply k none is = is
asked_open i (Shaken o peer) reply k none is = is
asked_open i (AskEnd e reason) reply k none is = is
asked_open i (AskOver o) reply k none is = is
asked_open i (OutputOver o) reply k none is = is

module _ {N S : Type 0} where
  did_open : (i : ℕ) (did : Did N S) (k : Option Kind) → is_owner i (given_up did) ≡ false → is_some k ≡ true → is_some (kind_in i did k) ≡ true
  did_open i (Asked req reply h) k none is = asked_open i req reply k none is
  did_open i (Delivered slot letter h) k none is = is
  did_open i (Delimited e h) k none is = is

  item_open : (i : ℕ) (item : Item N S) (k : Option Kind) → closes_it i item ≡ false → is_some k ≡ true → is_some (kind_over i k (item ∷ [])) ≡ true
  item_open i (Event entry) k none is = did_open i entry.did k none is
  item_open i (Seen sight) k none is = is

module _ {N S : Type 0} (io : ℕ) (before : List (Item N S)) (item : Item N S) (o : ℕ) (comes_so : ComesTo io before item o) (stays : closes_it o item ≡ false) where
  abbrev by : ℕ
  by = caller_of item

  abbrev all : List (Item N S)
  all = before ++ item ∷ []

  abbrev m : Moment N S
  m = moment_at io before item

  items_more : items_in (moments_of io all by) ≡ items_in (moments_of io before by) ++ item ∷ []
  items_more = ap items_in (moment_more io before item) ∙ map-append (λ (x : Moment N S). x.item) (moments_of io before by) (m ∷ [])

  opens : HasOpen io all by o
  opens = record {
    run = comes_so.run;
    callers = comes_so.callers;
    is_open = known_sockets_have_kinds N S (items_in (moments_of io all by)) o
        ∙ ap (λ (xs : List (Item N S)). is_some (kind_after o xs)) items_more
        ∙ ap (λ (k : Option Kind). is_some k) (kind_snoc o None (items_in (moments_of io before by)) item)
        ∙ item_open o item (kind_after o (items_in (moments_of io before by))) stays (sym (known_sockets_have_kinds N S (items_in (moments_of io before by)) o) ∙ comes_so.is_open);
  }

  -- its mailbox, in the order and by its caller's moments
  slot_is : (items : List (Item N S)) → HasOpen io items by o → (obj (left_after o (moments_of io items by)).rows o).slot ≡ (obj (after_all items (begun io)).rows o).slot
  slot_is items open_so =
      (slot_left by o items (begun io) (begun 0) None (begun_kept io) open_so.run (λ e. absurd (none_some e)) own).slot
    where
      own : has_after o (items_by by items) ≡ Some by
      own = (own_items_are_whole N S (begun io) items open_so.callers o by (above io items by o open_so) (had io items by o open_so).has).has

  -- an item leaves it
  slot_stays : (x : Item N S) → IsControlRun (begun io) (before ++ x ∷ []) → HasOpen io before (caller_of x) o → (obj (after_item x (after_all before (begun io))).rows o).slot ≡ (obj (after_all before (begun io)).rows o).slot
  slot_stays (Event entry) run open_so =
      event_slot (after_all before (begun io)) entry.did (all_kept io before entry.by o open_so) (run_last before (Event entry) (begun io) run) o
      (had_objects_are_there N S io before open_so.run o entry.by (had io before entry.by o open_so).has)
  slot_stays (Seen sight) run open_so = refl

  pub behind : IsOpenBehind io before item o
  behind = record {
    moments = moment_more io before item;
    opens = opens;
    ends = (open_ends_are_left N S io all by o opens).told ∙ ap (ends_at o) (after_more before item (begun io));
    slot = slot_is all opens ∙ ap (λ (c : Control). (obj c.rows o).slot) (after_more before item (begun io))
        ∙ slot_stays item comes_so.run (open_before io before item o comes_so) ∙ sym (slot_is before (open_before io before item o comes_so));
  }

  -- ---- what is told of its ends
  module _ (js : List (Joining N)) (were : map (λ j. j.end) js ≡ ends_of o (left_before io before item o)) (h : Holding N) (say : HasWhatTheySay by (moments_of io all by) h) (holds : h.holds o ≡ true) where
    told_at : EndId → SockEnd
    told_at e = record { end = e; place = At (state_held h o e) }

    map_ends : (xs : List (Joining N)) → map (λ j. told_at j.end) xs ≡ map told_at (map (λ j. j.end) xs)
    map_ends [] = refl
    map_ends (x ∷ xs) = ap (λ (es : List SockEnd). told_at x.end ∷ es) (map_ends xs)

    -- those that joined are its ends
    ends_now : map (λ j. j.end) (js ++ came_with item) ≡ ends_of o (left_after o (moments_of io all by))
    ends_now =
        map-append (λ (j : Joining N). j.end) js (came_with item) ∙ ap (λ (es : List EndId). es ++ map (λ j. j.end) (came_with item)) were
        ∙ sym (item_goes io before item o comes_so).ends ∙ ap (ends_of o) (sym (after_more before item (begun io))) ∙ sym (open_ends_are_left N S io all by o opens).ends

    pub told_now : map (λ j. let x : SockEnd = record { end = j.end; place = At (state_held h o j.end) } in x) (js ++ came_with item) ≡ ends_at o (left_by m)
    unfolding told_at
    told_now =
        map_ends (js ++ came_with item) ∙ ap (map told_at) ends_now ∙ sym (told_ends_are_left N S io all by o opens h say holds) ∙ ap (ends_at o) (after_more before item (begun io))

pub open_goes_on : (N S : Type 0) → OpenGoesOn N S
open_goes_on N S io before item o comes_so stays = behind io before item o comes_so stays

pub told_ends_go_on : (N S : Type 0) → ToldEndsGoOn N S
told_ends_go_on N S io before item o comes_so stays js were h say holds = told_now io before item o comes_so stays js were h say holds

-- ---- how far an end is, by its place
module _ {N I : Type 0} where
  none_held : (e : EndId) (ps : List (Place N I)) → has_end e (held_in ps) ≡ false → state_in ps e ≡ Gone
  none_held e [] none = refl
  none_held e (p ∷ ps) none = by p.held none (none_held e ps)
    where
      rest : (b : Bool) → is_end e p.end ≡ b → (b || has_end e (held_in ps)) ≡ false → (has_end e (held_in ps) ≡ false → state_in ps e ≡ Gone) → (if b then p.state else state_in ps e) ≡ Gone
      rest true is h next = absurd (never (sym h))
      rest false is h next = next h

      by : (b : Bool) → has_end e (if b then held_of p ∷ held_in ps else held_in ps) ≡ false → (has_end e (held_in ps) ≡ false → state_in ps e ≡ Gone) → (if (b && is_end e p.end) then p.state else state_in ps e) ≡ Gone
      by true h next = rest (is_end e p.end) refl h next
      by false h next = next h

  held_state : (e : EndId) (ps : List (Place N I)) → (if has_end e (held_in ps) then state_in ps e else Gone) ≡ state_in ps e
  held_state e ps = by (has_end e (held_in ps)) refl
    where
      by : (b : Bool) → has_end e (held_in ps) ≡ b → (if b then state_in ps e else Gone) ≡ state_in ps e
      by true is = refl
      by false is = sym (none_held e ps is)

pub states_are_held : (C W N O I : Type 0) → StatesAreHeld C W N O I
states_are_held C W N O I kind s e =
    ap (λ (b : Bool). if has_end e (if b then held_in s.ends.places.items else []) then state_in s.ends.places.items e else Gone) (eq-eqb s.number.0 s.number.0 refl)
    ∙ held_state e s.ends.places.items
