-- Where the ends of closed sockets are over a call of the reaper.
use Rattle.std.specs.Prelude.{◌≡◌, ◌≤◌, ◌&&◌, ◌++◌, ◌∷◌, [], ℕ, Bool, true, false, not, List, Some, All, drop, length, map, refl}
use Rattle.std.specs.List.{list_any}
use Rattle.std.proofs.Common.{arith, sym, ap, ◌∙◌, subst, true≢false}
use Rattle.std.proofs.lemmas.List.{append-nil}
use Rattle.std.proofs.lemmas.List.Elements.{All-head}
use Rattle.zq_base.specs.Ends.{PipeId}
use Rattle.zq_base.specs.declared.ids.EndId.{EndId}
use Rattle.msg_pipe.specs.Known.{Known}
use Rattle.spec_control.specs.declared.end.EndState.TheVariants.{Gone}
use Rattle.spec_control.specs.declared.entry.Item.{Item}
use Rattle.spec_control.specs.Place.{At, is_here}
use Rattle.spec_control.specs.Stage.{has_ended}
use Rattle.spec_control.specs.Row.{is_socket as is_socket_row}
use Rattle.spec_control.specs.Rows.{obj}
use Rattle.spec_control.specs.Control.{Control, begun, owner_of, place_of}
use Rattle.spec_control.specs.ControlRun.{after_all, after_item}
use Rattle.spec_control.specs.Names.{name_of}
use Rattle.spec_control.specs.Has.{has_after}
use Rattle.spec_control.specs.Moments.{Moment, moments_from}
use Rattle.desk.specs.declared.given.Given.{Given}
use Rattle.desk.specs.Joins.{is_plugged_between, StaysHad}
use Rattle.ctl_plane.specs.Past.{control_of}
use Rattle.desk.specs.Desk.{HasWhatTheySay}
use Rattle.end_table.specs.declared.changes.PipeChange.{PipeChange}
use Rattle.end_table.specs.declared.table.Place.{Place}
use Rattle.end_table.specs.Places.{place_at}
use Rattle.socket_laws.specs.Ends.{IsGoneFrom}
use Rattle.socket_laws.proofs.PlaceLemmas.{gone_is}
use Rattle.socket_laws.specs.Changes.{ArePlacesNamed}
use Rattle.socket_laws.specs.Said.{sealed_with}
use Rattle.closed_ends.specs.declared.sockets.ClosedSockets.{ClosedSockets}
use Rattle.closed_ends.specs.Finding.{place_given}
use Rattle.closed_ends.specs.Has.{all_ends, holding_in, is_of, is_socket}
use Rattle.closed_ends.specs.Noted.{first_places}
use Rattle.core_laws.specs.ReaperCalls.{came_since, told_since}
use Rattle.core_laws.specs.Here.{AreHere}
use Rattle.core_laws.specs.Moves.{EndsGoOn}
use Rattle.core_laws.proofs.ReaperCallLemmas.{as_long, behind as dropped_behind}
use Rattle.core_laws.proofs.HereLemmas.{at_its_place, IsHere, reaper_ends_are_here}
use Rattle.plain_desk.specs.Lent.{moments_of, GrowsBy, IsOneOrder, Lent}
use Rattle.plain_desk.proofs.PluggedLemmas.{had_are_in}
use Rattle.socket_laws.specs.Behind.{is_request, IsOneCall}
use Rattle.socket_laws.proofs.LastLemmas.{grown}
use Rattle.socket_laws.proofs.SendLemmas.{requests_alone_send}
use Rattle.socket_laws.proofs.SocketLemmas.{kept_now}
use Rattle.core_laws.specs.Ends.{ReaperDid, ReapedEndsGoOn, ReaperGoesOn}
use Rattle.core_laws.proofs.ReapedComingLemmas.{ends_here, has_now}
use Rattle.core_laws.proofs.GrowLemmas.{leads_to}
use Rattle.core_laws.proofs.LedLemmas.{is_still, IsStill}
use Rattle.core_laws.proofs.HadLemmas.{ended_has_none, had_by, had_free, has_still, is_among, sockets_had}

and_none : (b : Bool) → (b && false) ≡ false
and_none true = refl
and_none false = refl

dropped_all : {X : Type 0} (xs : List X) → drop (length xs) xs ≡ []
dropped_all [] = refl
dropped_all (x ∷ xs) = dropped_all xs

module _ {S O I N T : Type 0} (K : Known S O I N) (old new : Lent (Given N O I) N T) (before behind : S) (from to : ClosedSockets N O I) (changes : List (PipeChange O I × S)) (did : ReaperDid K old new before behind from to changes) where
  abbrev c : Control
  c = control_of old.past

  abbrev now : Control
  now = control_of new.past

  abbrev found : Control
  found = after_all old.items (begun old.past.workers)

  was_order : IsOneOrder old
  was_order = did.call.before

  order : IsOneOrder new
  order = did.call.behind

  abbrev grows : GrowsBy old new
  grows = did.call.grows

  say_now : HasWhatTheySay new.caller (moments_of new) (holding_in K.out_name K.in_name to)
  say_now = did.keeps.has

  -- ---- the sockets that it has
  module _ (o : ℕ) (holds : list_any (is_socket o) from.sockets.items ≡ true) (e : EndId) (own : owner_of (control_of new.past) e ≡ o) (here : is_here (place_of (control_of new.past) e) ≡ true) where
    not_over : has_ended (obj now.rows o).stage ≡ true → ⊥
    not_over over = ended_has_none now (kept_now new order) e here (ap (λ (i : ℕ). has_ended (obj now.rows i).stage) own ∙ over)

    had : has_after o old.items ≡ Some old.caller
    had = had_by old was_order (holding_in K.out_name K.in_name from) did.has o holds

    -- it was taken in before
    not_new : is_plugged_between (obj c.rows o) (obj now.rows o) ≡ false
    not_new =
        let order = was_order.order in
        let is = had_are_in old.past.workers old.items order.run o old.caller had in
        ap (λ (b : Bool). not (is_socket_row (obj c.rows o).kind) && (not b && (obj now.rows o).plugged)) (ap (λ (a : Control). (obj a.rows o).plugged) was_order.control ∙ is.plugged)
        ∙ and_none (not (is_socket_row (obj c.rows o).kind))

    stays : (x : Item N T) → new.items ≡ old.items ++ x ∷ [] → is_request x ≡ false → StaysHad (obj c.rows o) (obj now.rows o)
    stays x items none =
        let still = has_still o old.caller old.items x none had in
        record {
          ended = λ over. absurd (not_over over);
          plug = not_new;
          way = had_free new order o still.0 (ap (has_after o) items ∙ still.1) ∙ sym (had_free old was_order o old.caller had);
        }

    one_holds : (x : Item N T) → grows.more ≡ x ∷ [] → is_request x ≡ false → list_any (is_socket o) to.sockets.items ≡ true
    one_holds x one none =
        let m : Moment N T = record { found = found; item = x } in
        let items = grows.items ∙ ap (λ (xs : List (Item N T)). old.items ++ xs) one in
        let moments = grown old new grows ∙ ap (λ (xs : List (Item N T)). moments_of old ++ moments_from found xs) one in
        let left : now ≡ after_item x found = leads_to old new order grows ∙ ap (λ (xs : List (Item N T)). after_all xs found) one in
        let stay = subst (λ (a : Control). StaysHad (obj a.rows o) (obj (after_item x found).rows o)) was_order.control (subst (λ (b : Control). StaysHad (obj c.rows o) (obj b.rows o)) left (stays x items none)) in
        (did.keeps.objects.one m moments).holds o stay ∙ holds

    pub holds_still : list_any (is_socket o) to.sockets.items ≡ true
    holds_still = by grows.more refl did.call.few did.call.asks_none
      where
        by : (xs : List (Item N T)) → grows.more ≡ xs → length xs ≤ 1 → All (λ x. is_request x ≡ false) xs → list_any (is_socket o) to.sockets.items ≡ true
        by [] e few none = (did.keeps.objects.none (grown old new grows ∙ ap (λ (xs : List (Item N T)). moments_of old ++ moments_from found xs) e ∙ append-nil (moments_of old)) o).0 ∙ holds
        by (x ∷ []) e few none = one_holds x e (All-head (λ (y : Item N T). is_request y ≡ false) x [] none)
        by (x ∷ y ∷ ys) e few none = absurd (omega (arith, few))

  -- ---- an end that it had
  pub record WasHad (g : Given N O I) : Type 0 where
    pub here : IsHere K.in_name (control_of old.past) (name_of old.items) g
    pub holds : list_any (is_socket (owner_of (control_of old.past) g.end)) from.sockets.items ≡ true

  pub all_had : All WasHad (all_ends from.sockets.items)
  all_had = λ k g lt. record {
    here = ends_here K old was_order before from did.was_sound did.has k g lt;
    holds = sockets_had K old was_order before from did.was_sound did.has k g lt;
  }

  -- an end that was there is gone if it is among them no more, where its socket is had while it is there
  pub gone_there : (g : Given N O I) → is_here (place_of (control_of old.past) g.end) ≡ true → (is_here (place_of (control_of new.past) g.end) ≡ true → list_any (is_socket (owner_of (control_of old.past) g.end)) to.sockets.items ≡ true)
      → list_any (is_of g.end) (all_ends to.sockets.items) ≡ false → IsGoneFrom {N = N} {I = I} (control_of new.past) (place_given K.in_name g)
  gone_there g here holds none =
      let still = is_still old new did.call g.end here in
      record {
        above = still.above;
        numbered = still.numbered;
        gone = by still (is_here (place_of now g.end)) refl;
      }
    where
      by : IsStill old new did.call g.end here → (b : Bool) → is_here (place_of now g.end) ≡ b → place_of now g.end ≡ At Gone
      by still false e = gone_is (place_of now g.end) still.at e
      by still true e =
          absurd (true≢false (sym (is_among K new order behind to did.sound say_now g.end e (ap (λ (i : ℕ). list_any (is_socket i) to.sockets.items) still.own ∙ holds e)) ∙ none))

  -- so is one that it had
  gone_one : (g : Given N O I) → WasHad g → list_any (is_of g.end) (all_ends to.sockets.items) ≡ false → IsGoneFrom {N = N} {I = I} (control_of new.past) (place_given K.in_name g)
  gone_one g was none = gone_there g was.here.here (λ here. holds_still (owner_of c g.end) was.holds g.end (is_still old new did.call g.end was.here.here).own here) none

  -- ---- the places
  abbrev had_places : List (Place N I)
  had_places = map (place_given K.in_name) (all_ends from.sockets.items)

  pub are_here : AreHere (control_of old.past) (name_of old.items) (map (place_given K.in_name) (all_ends from.sockets.items))
  are_here = reaper_ends_are_here K c (name_of old.items) before from did.was_sound (has_now K old was_order before from did.was_sound did.has)

  pub gone_at : (k : ℕ) (p : Place N I) → place_at (map (place_given K.in_name) (all_ends from.sockets.items)) k ≡ Some p → list_any (is_of p.end) (all_ends to.sockets.items) ≡ false → IsGoneFrom (control_of new.past) p
  gone_at k p at none =
      let g = at_its_place K.in_name WasHad (all_ends from.sockets.items) all_had k p at in
      subst (IsGoneFrom now) (sym g.1) (gone_one g.0 g.2 (ap (λ (q : Place N I). list_any (is_of q.end) (all_ends to.sockets.items)) (sym g.1) ∙ none))

  module _ (none : length to.came.items ≡ length from.came.items) where
    pub no_came : came_since from to ≡ []
    no_came = ap (λ (n : ℕ). drop n to.came.items) (sym none) ∙ dropped_all to.came.items

    firsts : first_places K.in_name from (came_since from to) ≡ map (place_given K.in_name) (all_ends from.sockets.items)
    firsts = ap (first_places K.in_name from) no_came ∙ append-nil had_places

    at_first : (k : ℕ) (p : Place N I) → place_at (first_places K.in_name from (came_since from to)) k ≡ Some p → place_at (map (place_given K.in_name) (all_ends from.sockets.items)) k ≡ Some p
    at_first k p at = ap (λ (ps : List (Place N I)). place_at ps k) (sym firsts) ∙ at

    ends_go : EndsGoOn K.in_name (control_of old.past) (control_of new.past) from to
    ends_go = record {
      different = λ j k p q a b. are_here.different j k p q (at_first j p a) (at_first k q b);
      was = had_places;
      since = [];
      are = firsts ∙ sym (append-nil had_places);
      held = are_here.held;
      new = λ k p at. absurd (nowhere k p at);
      stand = λ k p at. absurd (nowhere k p at);
      gone = λ k p at. gone_at k p (at_first k p at);
    }
      where
        nowhere : (k : ℕ) (p : Place N I) → place_at [] k ≡ Some p → ⊥
        nowhere k p e = cc

    named : ArePlacesNamed (name_of old.items) (first_places K.in_name from (came_since from to))
    named k p at = are_here.named k p (at_first k p at)

  -- ---- names, and what was told
  pub same_names : (p : PipeId) → name_of new.items p ≡ name_of old.items p
  same_names p = by grows.more refl did.call.few did.call.asks_none
    where
      by : (xs : List (Item N T)) → grows.more ≡ xs → length xs ≤ 1 → All (λ x. is_request x ≡ false) xs → name_of new.items p ≡ name_of old.items p
      by [] e few none = ap (λ (xs : List (Item N T)). name_of xs p) (grows.items ∙ ap (λ (xs : List (Item N T)). old.items ++ xs) e ∙ append-nil old.items)
      by (x ∷ []) e few none =
          let m : Moment N T = record { found = found; item = x } in
          let one : IsOneCall old new m = record {
            before = was_order;
            behind = order;
            grows = grows;
            one_more = grown old new grows ∙ ap (λ (xs : List (Item N T)). moments_of old ++ moments_from found xs) e;
          } in
          let sends = requests_alone_send (Given N O I) N T old new m one (All-head (λ (y : Item N T). is_request y ≡ false) x [] none) in
          sends.names p
      by (x ∷ y ∷ ys) e few none = absurd (omega (arith, few))

  pub told : told_since from to ≡ sealed_with (moments_from (control_of old.past) did.call.grows.more)
  told =
      let ms = moments_from found grows.more in
      let turned = did.keeps.turned ms (grown old new grows) in
      ap (λ n. drop n (map (λ x. x.0) to.sealed.items)) (sym (as_long (λ x. x.0) from.sealed.items))
      ∙ dropped_behind (map (λ x. x.0) from.sealed.items) (sealed_with ms) (map (λ x. x.0) to.sealed.items) turned.sealed
      ∙ ap (λ (x : Control). sealed_with (moments_from x grows.more)) (sym was_order.control)

  pub goes_on : length to.came.items ≡ length from.came.items → ReaperGoesOn K old new did.call from to
  goes_on none = record { ends = ends_go none; named = named none; names = same_names; told = told }

pub reaped_ends_go_on : {S O I N : Type 0} (K : Known S O I N) (T : Type 0) → ReapedEndsGoOn K T
reaped_ends_go_on K T old new before behind from to changes did none = goes_on K old new before behind from to changes did none
