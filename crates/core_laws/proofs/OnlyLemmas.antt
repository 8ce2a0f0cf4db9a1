-- What a caller has that only reaps are closed sockets that were taken over.
use Rattle.std.specs.Prelude.{◌≡◌, ◌≢◌, ◌≤◌, ◌<◌, ◌++◌, ◌∷◌, [], ℕ, Bool, true, false, List, Option, None, Some, All, if◌then◌else◌, length, refl}
use Rattle.std.proofs.Common.{arith, sym, ap, ◌∙◌, subst}
use Rattle.std.proofs.lemmas.List.{get_or-set_same}
use Rattle.std.proofs.lemmas.List.Elements.{All-head, All-tail}
use Rattle.zq_base.specs.declared.ids.ObjId.{ObjId}
use Rattle.zq_base.specs.declared.ids.SlotId.{SlotId}
use Rattle.spec_control.specs.declared.entry.Answered.{Answered}
use Rattle.spec_control.specs.declared.entry.Did.{Did}
use Rattle.spec_control.specs.declared.entry.Did.TheVariants.{Asked, Delivered, Delimited}
use Rattle.spec_control.specs.declared.entry.Item.{Item}
use Rattle.spec_control.specs.declared.entry.Item.TheVariants.{Event, Seen}
use Rattle.spec_control.specs.declared.letter.Letter.{Letter}
use Rattle.spec_control.specs.declared.letter.Word.{Word}
use Rattle.spec_control.specs.declared.letter.Word.TheVariants.{Own, Plug, TermReq, Term, TermAck, PipeBind, PipeTerm, PipeTermAck, Stop, Reap}
use Rattle.spec_control.specs.declared.stage.Stage.TheVariants.{Finished}
use Rattle.spec_control.specs.declared.stage.Use.{Use}
use Rattle.spec_control.specs.declared.stage.Use.TheVariants.{Unused, OnItsWay, Used}
use Rattle.spec_control.specs.Stage.{is_alive, is_coming, is_unused, is_used}
use Rattle.spec_control.specs.Row.{Row, LinkEvent, OwnComes, PlugComes, IsTold, TermComes, AsksOver, RequestComes, ReapComes, AckComes, RootAsked, StopPut, StopComes, AsksForLink, AsksForLinger, is_socket, link_after, link_may, nobody}
use Rattle.spec_control.specs.Rows.{Rows, is_owner, obj}
use Rattle.spec_control.specs.Control.{Control, begun, next_object}
use Rattle.spec_control.specs.After.{after}
use Rattle.spec_control.specs.ControlRun.{Fits, FitsItem, IsControlRun, after_all, after_item}
use Rattle.control_laws.proofs.ListLemmas.{is_elsewhere, is_here, is_new, is_old, left, never, pushed, right, written}
use Rattle.control_laws.specs.Kept.{Kept}
use Rattle.spec_control.specs.Held.{caller_of}
use Rattle.spec_control.specs.Has.{given_up, has_after, has_over, has_then, taken_by_word, taken_in}
use Rattle.control_laws.specs.Move.{EndMoves, Leads, LetterPut, LinkMoves, MayMove, Move, ObjectEnds, ObjectMade, PairDrawn, move_boxes, move_rows}
use Rattle.control_laws.specs.OwnMoves.{having_taken}
use Rattle.control_laws.proofs.EventGoLemmas.{event_goes}
use Rattle.control_laws.proofs.GuardLemmas.{may_come}
use Rattle.control_laws.proofs.SoundLemmas.{ending_there, link_there, move_stays}
use Rattle.control_laws.proofs.WeighLemmas.{taken_rows}
use Rattle.ctl_plane.specs.Past.{control_of}
use Rattle.control_laws.proofs.LawLemmas.{owned_by}
use Rattle.control_laws.proofs.ThereLemmas.{had_objects_are_there}
use Rattle.plain_desk.specs.Lent.{GrowsBy, IsOneOrder, Lent}
use Rattle.socket_laws.specs.Behind.{is_request, is_requested}
use Rattle.core_laws.proofs.ChainLemmas.{kept_then, there_then}
use Rattle.plain_desk.proofs.StayLemmas.{kept_found, led_more, run_more, stays_at}
use Rattle.core_laws.specs.ReapedCall.{IsReapersCall}
use Rattle.core_laws.specs.ReapedComing.{HasOnlyTaken}
use Rattle.core_laws.specs.Taken.{KeepsOnlyTaken}
use Rattle.core_laws.specs.Arriving.{plugs, plugs_by, plugs_in}
use Rattle.core_laws.proofs.PlugLemmas.{no_plugs}
use Rattle.core_laws.proofs.TakenLemmas.{both}
use Rattle.plain_desk.specs.Reaping.{is_taken}

none_some : {X : Type 0} {x : X} → None ≡ Some x → ⊥
none_some e = Prim.grind arith

some_same : {m n : ℕ} → Some m ≡ Some n → m ≡ n
some_same e = Prim.grind arith

-- ---- what was asked to end stays so
used_link : (event : LinkEvent) (o : Row) → link_may event o ≡ true → is_used o.request ≡ true → is_used (link_after event o).request ≡ true
used_link OwnComes o may used = used
used_link PlugComes o may used = used
used_link IsTold o may used = used
used_link TermComes o may used = used
used_link AsksOver o may used = absurd (clash o.request (left (is_unused o.request) _ may) used)
  where
    clash : (u : Use) → is_unused u ≡ true → is_used u ≡ true → ⊥
    clash Unused un us = never us
    clash OnItsWay un us = never un
    clash Used un us = never un
used_link RequestComes o may used = refl
used_link ReapComes o may used = refl
used_link AckComes o may used = used
used_link RootAsked o may used = used
used_link StopPut o may used = used
used_link StopComes o may used = used
used_link AsksForLink o may used = used
used_link AsksForLinger o may used = used

used_move : (m : Move) (s : Rows) (i : ℕ) → MayMove m s → i < length s.objects → is_used (obj s i).request ≡ true → is_used (obj (move_rows m s) i).request ≡ true
used_move (LinkMoves j event) s i may there used =
    elim (written s.objects (link_after event (obj s j)) nobody j i (link_there s j event may)) [
      | is_here here same ↦ ap (λ (o : Row). is_used o.request) same ∙ used_link event (obj s j) may (ap (λ (n : ℕ). is_used (obj s n).request) (sym here) ∙ used)
      | is_elsewhere same ↦ ap (λ (o : Row). is_used o.request) same ∙ used
    ]
used_move (EndMoves e event) s i may there used = used
used_move (ObjectEnds j) s i may there used =
    elim (written s.objects (record (obj s j) { stage = Finished }) nobody j i (ending_there s j may)) [
      | is_here here same ↦ ap (λ (o : Row). is_used o.request) same ∙ ap (λ (n : ℕ). is_used (obj s n).request) (sym here) ∙ used
      | is_elsewhere same ↦ ap (λ (o : Row). is_used o.request) same ∙ used
    ]
used_move (ObjectMade row) s i may there used =
    elim (pushed s.objects row nobody i) [
      | is_old e ↦ ap (λ (o : Row). is_used o.request) e ∙ used
      | is_new at e was ↦ absurd (omega (arith, at, there))
    ]
used_move (PairDrawn a b) s i may there used = used
used_move (LetterPut to word) s i may there used = used

used_lead : (ms : List Move) (s : Rows) (boxes : ℕ → List Letter) (d : Control) (i : ℕ) → Leads ms s boxes d → i < length s.objects → is_used (obj s i).request ≡ true → is_used (obj d.rows i).request ≡ true
used_lead [] s boxes d i h there used = ap (λ (r : Rows). is_used (obj r i).request) h.0 ∙ used
used_lead (m ∷ ms) s boxes d i h there used =
    used_lead ms (move_rows m s) (move_boxes m s boxes) d i h.1 (move_stays m s i h.0 there).there (used_move m s i h.0 there used)

module _ {N S : Type 0} where
  used_event : (c : Control) (did : Did N S) → Kept c → Fits c did → (i : ℕ) → i < next_object c → is_used (obj c.rows i).request ≡ true → is_used (obj (after did c).rows i).request ≡ true
  used_event c did kept fits i there used =
      let g = event_goes c did kept fits in
      let same = taken_rows did c in
      used_lead g.moves (having_taken did c).rows (having_taken did c).boxes (after did c) i g.leads (subst (λ (r : Rows). i < length r.objects) (sym same) there)
      (ap (λ (r : Rows). is_used (obj r i).request) same ∙ used)

  used_item : (x : Item N S) (c : Control) → Kept c → FitsItem c x → (i : ℕ) → i < next_object c → is_used (obj c.rows i).request ≡ true → is_used (obj (after_item x c).rows i).request ≡ true
  used_item (Event entry) c kept fits i there used = used_event c entry.did kept fits i there used
  used_item (Seen sight) c kept fits i there used = used

  pub used_over : (xs : List (Item N S)) (c : Control) → Kept c → IsControlRun c xs → (i : ℕ) → i < next_object c → is_used (obj c.rows i).request ≡ true → is_used (obj (after_all xs c).rows i).request ≡ true
  used_over [] c kept run i there used = used
  used_over (x ∷ xs) c kept run i there used =
      used_over xs (after_item x c) (kept_then x c kept run.0) run.1 i (there_then x c kept run.0 i there) (used_item x c kept run.0 i there used)

  -- ---- what another's items give to a caller: nothing
  other_then : (i j k : ℕ) → k ≢ j → (x : Item N S) → caller_of x ≡ j → (had : Option ℕ) → has_then i x had ≡ Some k → had ≡ Some k
  other_then i j k other (Seen sight) by had is = is
  other_then i j k other (Event entry) by had is = of (is_owner i (taken_in entry.did)) (is_owner i (given_up entry.did)) is
    where
      of : (t g : Bool) → (if t then Some entry.by else (if g then None else had)) ≡ Some k → had ≡ Some k
      of true g e = absurd (other (sym (some_same e) ∙ by))
      of false true e = absurd (none_some e)
      of false false e = e

  other_over : (i j k : ℕ) → k ≢ j → (xs : List (Item N S)) → All (λ x. caller_of x ≡ j) xs → (had : Option ℕ) → has_over i had xs ≡ Some k → had ≡ Some k
  other_over i j k other [] all had is = is
  other_over i j k other (x ∷ xs) all had is =
      other_then i j k other x (All-head (λ (y : Item N S). caller_of y ≡ j) x xs all) had (other_over i j k other xs (All-tail (λ (y : Item N S). caller_of y ≡ j) x xs all) (has_then i x had) is)

  has_split : (i : ℕ) (had : Option ℕ) (xs ys : List (Item N S)) → has_over i had (xs ++ ys) ≡ has_over i (has_over i had xs) ys
  has_split i had [] ys = refl
  has_split i had (x ∷ xs) ys = has_split i (has_then i x had) xs ys

module _ {G N T : Type 0} (old new : Lent G N T) (before : IsOneOrder old) (behind : IsOneOrder new) (grows : GrowsBy old new) where
  abbrev found : Control
  found = after_all old.items (begun old.past.workers)

  had_then : (i k : ℕ) → has_after i new.items ≡ Some k → has_over i (has_after i old.items) grows.more ≡ Some k
  had_then i k is = sym (has_split i None old.items grows.more) ∙ sym (ap (has_after i) grows.items) ∙ is

  there_then_had : (i k : ℕ) → has_after i old.items ≡ Some k → i < next_object (after_all old.items (begun old.past.workers))
  there_then_had i k had = (let all = before.order in had_objects_are_there _ _ old.past.workers old.items all.run i k had)

  -- what it had was taken over, and is so still
  pub still_taken : (k : ℕ) → HasOnlyTaken k old → (i : ℕ) → has_after i old.items ≡ Some k → is_taken (obj (control_of new.past).rows i) ≡ true
  still_taken k only i had =
      let was = only i had in
      let there = there_then_had i k had in
      let o = obj (control_of old.past).rows i in
      let now = obj (control_of new.past).rows i in
      both (is_socket now.kind) (is_used now.request)
      (ap is_socket (stays_at old new behind grows before i (subst (λ (c : Control). i < next_object c) (sym before.control) there)).kind ∙ left (is_socket o.kind) _ was)
      (ap (λ (c : Control). is_used (obj c.rows i).request) (led_more old new behind grows)
      ∙ used_over grows.more found (kept_found old new behind grows before) (run_more old new behind grows) i there (ap (λ (c : Control). is_used (obj c.rows i).request) (sym before.control) ∙ right (is_socket o.kind) _ was))

  pub others_keep : (k : ℕ) → k ≢ old.caller → HasOnlyTaken k old → HasOnlyTaken k new
  others_keep k other only i is = still_taken k only i (other_over i old.caller k other grows.more grows.by (has_after i old.items) (had_then i k is))

-- ---- what the reaper takes in
module _ {N S : Type 0} (c : Control) (kept : Kept c) (i : ℕ) where
  -- an object that is taken in was taken over
  taken_over : (slot : SlotId) (to : ObjId) (word : Word) (h : Answered N S) → plugs word ≡ false → Fits c (Delivered slot (record { to = to; word = word }) h) → taken_by_word to.0 word ≡ Some i → is_taken (obj (after (Delivered slot (record { to = to; word = word }) h) c).rows i) ≡ true
  taken_over slot to (Own child) h none fits e = absurd (none_some e)
  taken_over slot to (Plug end) h none fits e = absurd (never (sym none))
  taken_over slot to (TermReq child) h none fits e = absurd (none_some e)
  taken_over slot to Term h none fits e = absurd (none_some e)
  taken_over slot to (TermAck child) h none fits e = absurd (none_some e)
  taken_over slot to (PipeBind end peer) h none fits e = absurd (none_some e)
  taken_over slot to (PipeTerm end) h none fits e = absurd (none_some e)
  taken_over slot to (PipeTermAck end) h none fits e = absurd (none_some e)
  taken_over slot to Stop h none fits e = absurd (none_some e)
  taken_over slot to (Reap socket) h none fits e =
      let row = link_after ReapComes (obj c.rows socket.0) in
      let comes = (may_come c kept slot.0 fits.may.behind to.0 (Reap socket) fits.may.oldest).comes in
      ap (λ (n : ℕ). is_taken (obj (after (Delivered slot (record { to = to; word = Reap socket }) h) c).rows n)) (sym (some_same e))
      ∙ ap is_taken (get_or-set_same c.rows.objects socket.0 row nobody (link_there c.rows socket.0 ReapComes comes))
      ∙ both (is_socket (obj c.rows socket.0).kind) true (right (is_alive (obj c.rows socket.0).stage) _ (right (is_coming (obj c.rows socket.0).request) _ comes)) refl

  -- what somebody has behind an item that is no request and no Plug it had, or was taken over
  has_taken : (k : ℕ) (did : Did N S) (by : ℕ) → is_requested did ≡ false → plugs_in did ≡ false → Fits c did → (had : Option ℕ) → (had ≡ Some k → is_taken (obj (after did c).rows i) ≡ true) → has_then i (Event (record { by = by; did = did })) had ≡ Some k → is_taken (obj (after did c).rows i) ≡ true
  has_taken k (Asked req reply h) by none no_plug fits had so is = absurd (never (sym none))
  has_taken k (Delivered slot letter h) by none no_plug fits had so is = of (is_owner i (taken_by_word letter.to.0 letter.word)) refl is
    where
      of : (t : Bool) → is_owner i (taken_by_word letter.to.0 letter.word) ≡ t → (if t then Some by else had) ≡ Some k → is_taken (obj (after (Delivered slot letter h) c).rows i) ≡ true
      of true t e = taken_over slot letter.to letter.word h no_plug fits (owned_by i (taken_by_word letter.to.0 letter.word) t)
      of false t e = so e
  has_taken k (Delimited e h) by none no_plug fits had so is = so is

  has_taken_item : (k : ℕ) (x : Item N S) → is_request x ≡ false → plugs_by x ≡ false → FitsItem c x → (had : Option ℕ) → (had ≡ Some k → is_taken (obj (after_item x c).rows i) ≡ true) → has_then i x had ≡ Some k → is_taken (obj (after_item x c).rows i) ≡ true
  has_taken_item k (Event entry) none no_plug fits had so is = has_taken k entry.did entry.by none no_plug fits had so is
  has_taken_item k (Seen sight) none no_plug fits had so is = so is

module _ {G N T : Type 0} (old new : Lent G N T) (call : IsReapersCall old new) where
  abbrev first : Control
  first = after_all old.items (begun old.past.workers)

  was_order : IsOneOrder old
  was_order = call.before

  order : IsOneOrder new
  order = call.behind

  abbrev grows : GrowsBy old new
  grows = call.grows

  pub reaper_keeps : HasOnlyTaken old.caller old → HasOnlyTaken old.caller new
  reaper_keeps only i is = by grows.more refl call.few call.asks_none (no_plugs G N T old new call)
    where
      still : has_after i old.items ≡ Some old.caller → is_taken (obj (control_of new.past).rows i) ≡ true
      still had = still_taken old new was_order order grows old.caller only i had

      had : has_over i (has_after i old.items) grows.more ≡ Some old.caller
      had = had_then old new was_order order grows i old.caller is

      led : control_of new.past ≡ after_all grows.more (after_all old.items (begun old.past.workers))
      led = led_more old new order grows

      by : (xs : List (Item N T)) → grows.more ≡ xs → length xs ≤ 1 → All (λ x. is_request x ≡ false) xs → All (λ x. plugs_by x ≡ false) xs → is_taken (obj (control_of new.past).rows i) ≡ true
      by [] none few asks plugged = still (ap (has_over i (has_after i old.items)) (sym none) ∙ had)
      by (x ∷ []) one few asks plugged =
          let left_at : control_of new.past ≡ after_item x (after_all old.items (begun old.past.workers)) = led ∙ ap (λ (xs : List (Item N T)). after_all xs first) one in
          let fits = subst (IsControlRun first) one (run_more old new order grows) in
          ap (λ (c : Control). is_taken (obj c.rows i)) left_at
          ∙ has_taken_item first (kept_found old new order grows was_order) i old.caller x (All-head (λ (y : Item N T). is_request y ≡ false) x [] asks) (All-head (λ (y : Item N T). plugs_by y ≡ false) x [] plugged) fits.0 (has_after i old.items)
          (λ mine. ap (λ (c : Control). is_taken (obj c.rows i)) (sym left_at) ∙ still mine) (ap (has_over i (has_after i old.items)) (sym one) ∙ had)
      by (x ∷ y ∷ ys) many few asks plugged = absurd (omega (arith, few))

pub keeps_only_taken : (G N T : Type 0) → KeepsOnlyTaken G N T
keeps_only_taken G N T = record {
  first = λ d none k i is. absurd (none_some (sym (ap (has_after i) none) ∙ is));
  others = λ old new before behind grows k other only. others_keep old new before behind grows k other only;
  reaper = λ old new call only. reaper_keeps old new call only;
}
