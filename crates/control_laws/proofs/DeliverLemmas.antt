-- What is kept where a command about an object is processed.
use Rattle.std.specs.Prelude.{◌≡◌, ◌≢◌, ◌<◌, ◌&&◌, ℕ, Bool, true, false, not, cond, List, [], ◌∷◌, Option, Some, None, length, refl}
use Rattle.std.proofs.Common.{length-set, sym, ap, ◌∙◌, subst}
use Rattle.std.proofs.lemmas.List.{get_or-set_same, get_or-set_other}
use Rattle.zq_base.specs.declared.ids.ObjId.{ObjId}
use Rattle.spec_control.specs.declared.letter.Letter.{Letter}
use Rattle.spec_control.specs.declared.letter.Word.TheVariants.{Own, Plug, TermReq, Term, TermAck, Stop, Reap}
use Rattle.spec_control.specs.Stage.{is_alive, is_told, is_finished, is_cleared, was_asked, is_coming, is_unused, is_used}
use Rattle.spec_control.specs.PairPhase.{behind_first}
use Rattle.spec_control.specs.Row.{Row, nobody, is_socket, is_unowned, OwnComes, PlugComes, RequestComes, ReapComes, AckComes, StopComes, link_may, link_after}
use Rattle.spec_control.specs.Rows.{Rows, obj, with_object}
use Rattle.spec_control.specs.Control.{Control, with_value, id, put, link}
use Rattle.spec_control.specs.After.{Answers, owner_or_root, processed, without_front}
use Rattle.control_laws.specs.Mail.{Mark, OwnSign, RequestSign, ReapSign, AckSign, PlugSign, StopSign, TermSign, Link, UpLink, DownLink, is_link, marks, up_marks, down_marks, queue, slot_of, Delivers, IsDelivered, with_queue}
use Rattle.control_laws.specs.Kept.{KeptBut, Kept}
use Rattle.control_laws.proofs.ListLemmas.{never, left, right, and}
use Rattle.control_laws.proofs.LinkLemmas.{at_socket, at_stage}
use Rattle.control_laws.proofs.ClosedLemmas.{Inv}
use Rattle.control_laws.proofs.MailLemmas.{Oldest, take_one}
use Rattle.control_laws.proofs.FrontLemmas.{up_list, down_list, own_front, request_front, reap_front, ack_front, plug_front, stop_front}
use Rattle.control_laws.proofs.StepLemmas.{inv_of, link_there}
use Rattle.control_laws.proofs.PutLemmas.{rows_queues, upward_now, downward_now, object_now, object_put_down}
use Rattle.control_laws.proofs.TellLemmas.{rows_of, link_kept, stays_there, tell_where_kept, told_up, told_down}
use Rattle.control_laws.proofs.EndLemmas.{AtOnce, at_once, kept_but, kept_at, kept_unasked, child_keeps, try_end_kept}
use Rattle.control_laws.proofs.ChildLemmas.{but_child, but_write, and_child, but_tell, not_own, no_socket, owner_some, told_now, TellLeaves, tell_leaves, uncleared_over, uncleared_unnoted, coming_is, and_false, uncleared_coming, unplugged_unasked, stopping_unasked, finished_untold, closing_alive, tell_off}

-- ---- one command
module _ (c : Control) (kept : Kept c) (slot : ℕ) (rest : List Letter) where
  abbrev s : Rows
  s = c.rows

  abbrev taken : ℕ → List Letter
  taken = with_value slot (behind_first (c.boxes slot)) c.boxes

  pub inv : Inv s
  inv = inv_of (rows_of (kept_but 0 c kept))

  boxes_are : (l : Letter) → c.boxes slot ≡ l ∷ rest → with_value slot rest c.boxes ≡ with_value slot (behind_first (c.boxes slot)) c.boxes
  boxes_are l is = ap (λ (q : List Letter). with_value slot q c.boxes) (sym (ap behind_first is))

  pub first_of : (l : Letter) → c.boxes slot ≡ l ∷ rest → (own : Link) (mark : Mark) → ((link : Link) → marks link l ≡ cond (is_link link own) (mark ∷ []) []) → Oldest (slot_of s) (queue s) c.boxes slot rest own mark
  first_of l is own mark on = take_one (slot_of s) (queue s) c.boxes slot l rest own mark kept.delivered is on

  pub left_over : (l : Letter) (is : c.boxes slot ≡ l ∷ rest) (own : Link) (mark : Mark) (on : (link : Link) → marks link l ≡ cond (is_link link own) (mark ∷ []) []) →
      Delivers (slot_of s) (with_queue own (first_of l is own mark on).behind (queue s)) (with_value slot (behind_first (c.boxes slot)) c.boxes)
  left_over l is own mark on = subst (Delivers (slot_of s) (with_queue own (first_of l is own mark on).behind (queue s))) (boxes_are l is) (first_of l is own mark on).left_over

  -- Own
  pub own_kept : (at : ℕ) (child : ObjId) (h : Answers) → c.boxes slot ≡ record { to = id at; word = Own child } ∷ rest → Kept (processed at (Own child) h (without_front slot c))
  own_kept at child h is = kept_at at (processed at (Own child) h (without_front slot c)) all now (child_keeps at (processed at (Own child) h (without_front slot c)) child.0 all (leaves.owner ∙ owner1) (uncleared_over (obj (processed at (Own child) h (without_front slot c)).rows child.0) (leaves.uncleared not_cleared)))
    where
      first : Oldest (slot_of c.rows) (queue c.rows) c.boxes slot rest (UpLink child.0) (record { to = at; sign = OwnSign })
      first = first_of (record { to = id at; word = Own child }) is (UpLink child.0) (record { to = at; sign = OwnSign }) (λ link. refl)

      front : ((obj c.rows child.0).noted ≡ false) × (owner_or_root (obj c.rows child.0).owner ≡ at) × (up_marks (link_after OwnComes (obj c.rows child.0)) ≡ first.behind)
      front = own_front (is_socket (obj c.rows child.0).kind) (owner_or_root (obj c.rows child.0).owner) (obj c.rows child.0).noted (is_coming (obj c.rows child.0).request)
          (is_finished (obj c.rows child.0).stage && not (is_unowned (obj c.rows child.0).owner)) at first.behind first.is_first

      may : link_may OwnComes (obj c.rows child.0) ≡ true
      may = ap not front.0

      there : child.0 < length c.rows.objects
      there = link_there c.rows child.0 OwnComes inv may

      owned : (obj c.rows child.0).owner ≡ Some at
      owned = owner_some (obj c.rows child.0) at (inv.fits child.0) (ap (λ (n : Bool). n && ((obj c.rows child.0).plugged && is_used (obj c.rows child.0).request)) front.0) front.1

      other : child.0 ≢ at
      other = not_own c.rows child.0 at inv kept.shape owned

      mail : IsDelivered (with_object child.0 (link_after OwnComes (obj c.rows child.0)) c.rows) (with_value slot (behind_first (c.boxes slot)) c.boxes)
      mail = object_now c.rows child.0 (link_after OwnComes (obj c.rows child.0)) _ _ _ _ (stays_there c.rows child.0 OwnComes there)
          (upward_now c.rows child.0 _ _ first.behind (queue c.rows) (rows_queues c.rows child.0))
          (left_over (record { to = id at; word = Own child }) is (UpLink child.0) (record { to = at; sign = OwnSign }) (λ link. refl)) (sym front.2) refl

      one : KeptBut at (link OwnComes child.0 (without_front slot c))
      one = link_kept at c OwnComes child.0 _ (kept_but at c kept) may owned refl mail

      row1 : obj (with_object child.0 (link_after OwnComes (obj c.rows child.0)) c.rows) child.0 ≡ link_after OwnComes (obj c.rows child.0)
      row1 = get_or-set_same c.rows.objects child.0 (link_after OwnComes (obj c.rows child.0)) nobody there

      there1 : child.0 < length (with_object child.0 (link_after OwnComes (obj c.rows child.0)) c.rows).objects
      there1 = subst (λ (n : ℕ). child.0 < n) (sym (length-set c.rows.objects child.0 (link_after OwnComes (obj c.rows child.0)))) there

      owner1 : (obj (link OwnComes child.0 (without_front slot c)).rows child.0).owner ≡ Some at
      owner1 = ap (λ (o : Row). o.owner) row1 ∙ owned

      all : KeptBut at (processed at (Own child) h (without_front slot c))
      all = tell_where_kept at (was_asked (obj c.rows at).stage) child.0 (link OwnComes child.0 (without_front slot c)) one (λ e. owner1)

      leaves : TellLeaves child.0 (link OwnComes child.0 (without_front slot c)) (processed at (Own child) h (without_front slot c))
      leaves = tell_leaves (was_asked (obj c.rows at).stage) child.0 (link OwnComes child.0 (without_front slot c)) there1

      not_cleared : is_cleared (obj (link OwnComes child.0 (without_front slot c)).rows child.0).stage ≡ false
      not_cleared = ap (λ (o : Row). is_cleared o.stage) row1 ∙ uncleared_unnoted (obj c.rows child.0).stage (obj c.rows child.0).noted (obj c.rows child.0).plugged (obj c.rows child.0).request (obj c.rows child.0).stop (at_stage (obj c.rows child.0) (inv.fits child.0)) front.0

      now : AtOnce at (processed at (Own child) h (without_front slot c)).rows
      now = and_child at child.0 _
          (but_tell at child.0 (was_asked (obj c.rows at).stage) (link OwnComes child.0 (without_front slot c)) other
          (but_write at child.0 c.rows (link_after OwnComes (obj c.rows child.0)) other (but_child at child.0 c.rows (at_once at c.rows c.output_left kept.prompt))))
          (λ below of asked noted. told_now (was_asked (obj c.rows at).stage) child.0 (link OwnComes child.0 (without_front slot c))
          (sym (ap (λ (o : Row). was_asked o.stage) (leaves.rest at (λ e. other (sym e)) ∙ get_or-set_other c.rows.objects child.0 at (link_after OwnComes (obj c.rows child.0)) nobody (λ e. other (sym e)))) ∙ asked)
          there1 (ap (λ (o : Row). is_socket o.kind) row1 ∙ no_socket c.rows child.0 at inv owned below))

  -- TermReq
  pub request_kept : (at : ℕ) (child : ObjId) (h : Answers) → c.boxes slot ≡ record { to = id at; word = TermReq child } ∷ rest → Kept (processed at (TermReq child) h (without_front slot c))
  request_kept at child h is =
      kept_at at (processed at (TermReq child) h (without_front slot c)) all now
      (child_keeps at (processed at (TermReq child) h (without_front slot c)) child.0 all (leaves.owner ∙ owner1) (uncleared_over (obj (processed at (TermReq child) h (without_front slot c)).rows child.0) (leaves.uncleared not_cleared)))
    where
      first : Oldest (slot_of c.rows) (queue c.rows) c.boxes slot rest (UpLink child.0) (record { to = at; sign = RequestSign })
      first = first_of (record { to = id at; word = TermReq child }) is (UpLink child.0) (record { to = at; sign = RequestSign }) (λ link. refl)

      front : ((obj c.rows child.0).noted ≡ true) × (is_coming (obj c.rows child.0).request ≡ true) × (is_socket (obj c.rows child.0).kind ≡ false) × (owner_or_root (obj c.rows child.0).owner ≡ at) × (up_marks (link_after RequestComes (obj c.rows child.0)) ≡ first.behind)
      front = request_front (is_socket (obj c.rows child.0).kind) (owner_or_root (obj c.rows child.0).owner) (obj c.rows child.0).noted (is_coming (obj c.rows child.0).request)
          (is_finished (obj c.rows child.0).stage && not (is_unowned (obj c.rows child.0).owner)) at first.behind first.is_first

      may : link_may RequestComes (obj c.rows child.0) ≡ true
      may = and _ _ front.1 (and _ _ front.0 (ap not front.2))

      there : child.0 < length c.rows.objects
      there = link_there c.rows child.0 RequestComes inv may

      owned : (obj c.rows child.0).owner ≡ Some at
      owned = owner_some (obj c.rows child.0) at (inv.fits child.0) (and_false (obj c.rows child.0).noted (obj c.rows child.0).plugged (is_used (obj c.rows child.0).request) (coming_is (obj c.rows child.0).request front.1)) front.3

      other : child.0 ≢ at
      other = not_own c.rows child.0 at inv kept.shape owned

      mail : IsDelivered (with_object child.0 (link_after RequestComes (obj c.rows child.0)) c.rows) (with_value slot (behind_first (c.boxes slot)) c.boxes)
      mail = object_now c.rows child.0 (link_after RequestComes (obj c.rows child.0)) _ _ _ _ (stays_there c.rows child.0 RequestComes there)
          (upward_now c.rows child.0 _ _ first.behind (queue c.rows) (rows_queues c.rows child.0))
          (left_over (record { to = id at; word = TermReq child }) is (UpLink child.0) (record { to = at; sign = RequestSign }) (λ link. refl)) (sym front.4) refl

      one : KeptBut at (link RequestComes child.0 (without_front slot c))
      one = link_kept at c RequestComes child.0 _ (kept_but at c kept) may owned refl mail

      row1 : obj (with_object child.0 (link_after RequestComes (obj c.rows child.0)) c.rows) child.0 ≡ link_after RequestComes (obj c.rows child.0)
      row1 = get_or-set_same c.rows.objects child.0 (link_after RequestComes (obj c.rows child.0)) nobody there

      there1 : child.0 < length (with_object child.0 (link_after RequestComes (obj c.rows child.0)) c.rows).objects
      there1 = subst (λ (n : ℕ). child.0 < n) (sym (length-set c.rows.objects child.0 (link_after RequestComes (obj c.rows child.0)))) there

      owner1 : (obj (link RequestComes child.0 (without_front slot c)).rows child.0).owner ≡ Some at
      owner1 = ap (λ (o : Row). o.owner) row1 ∙ owned

      all : KeptBut at (processed at (TermReq child) h (without_front slot c))
      all = tell_where_kept at (not (was_asked (obj c.rows at).stage)) child.0 (link RequestComes child.0 (without_front slot c)) one (λ e. owner1)

      leaves : TellLeaves child.0 (link RequestComes child.0 (without_front slot c)) (processed at (TermReq child) h (without_front slot c))
      leaves = tell_leaves (not (was_asked (obj c.rows at).stage)) child.0 (link RequestComes child.0 (without_front slot c)) there1

      not_cleared : is_cleared (obj (link RequestComes child.0 (without_front slot c)).rows child.0).stage ≡ false
      not_cleared = ap (λ (o : Row). is_cleared o.stage) row1 ∙ uncleared_coming (obj c.rows child.0).stage (obj c.rows child.0).noted (obj c.rows child.0).plugged (obj c.rows child.0).request (obj c.rows child.0).stop (at_stage (obj c.rows child.0) (inv.fits child.0)) front.1

      was : was_asked (obj (processed at (TermReq child) h (without_front slot c)).rows at).stage ≡ true → was_asked (obj c.rows at).stage ≡ true
      was asked = sym (ap (λ (o : Row). was_asked o.stage) (leaves.rest at (λ e. other (sym e)) ∙ get_or-set_other c.rows.objects child.0 at (link_after RequestComes (obj c.rows child.0)) nobody (λ e. other (sym e)))) ∙ asked

      now : AtOnce at (processed at (TermReq child) h (without_front slot c)).rows
      now = and_child at child.0 _
          (but_tell at child.0 (not (was_asked (obj c.rows at).stage)) (link RequestComes child.0 (without_front slot c)) other
          (but_write at child.0 c.rows (link_after RequestComes (obj c.rows child.0)) other (but_child at child.0 c.rows (at_once at c.rows c.output_left kept.prompt))))
          (λ below of asked noted.
          ap (λ (t : Control). is_alive (obj t.rows child.0).stage) (tell_off child.0 (link RequestComes child.0 (without_front slot c)) (not (was_asked (obj c.rows at).stage)) (ap not (was asked)))
          ∙ ap (λ (o : Row). is_alive o.stage) row1 ∙ (at_once at c.rows c.output_left kept.prompt).children child.0 below owned (was asked) front.0)

  -- TermAck
  pub ack_kept : (at : ℕ) (child : ObjId) (h : Answers) → c.boxes slot ≡ record { to = id at; word = TermAck child } ∷ rest → Kept (processed at (TermAck child) h (without_front slot c))
  ack_kept at child h is = try_end_kept at h.left (link AckComes child.0 (without_front slot c)) one now
    where
      first : Oldest (slot_of c.rows) (queue c.rows) c.boxes slot rest (UpLink child.0) (record { to = at; sign = AckSign })
      first = first_of (record { to = id at; word = TermAck child }) is (UpLink child.0) (record { to = at; sign = AckSign }) (λ link. refl)

      front : ((obj c.rows child.0).noted ≡ true) × (is_coming (obj c.rows child.0).request ≡ false) × ((is_finished (obj c.rows child.0).stage && not (is_unowned (obj c.rows child.0).owner)) ≡ true) × (owner_or_root (obj c.rows child.0).owner ≡ at) × (up_marks (link_after AckComes (obj c.rows child.0)) ≡ first.behind)
      front = ack_front (is_socket (obj c.rows child.0).kind) (owner_or_root (obj c.rows child.0).owner) (obj c.rows child.0).noted (is_coming (obj c.rows child.0).request)
          (is_finished (obj c.rows child.0).stage && not (is_unowned (obj c.rows child.0).owner)) at first.behind first.is_first

      finished : is_finished (obj c.rows child.0).stage ≡ true
      finished = left _ _ front.2

      may : link_may AckComes (obj c.rows child.0) ≡ true
      may = and _ _ finished (and _ _ front.0 (ap not front.1))

      there : child.0 < length c.rows.objects
      there = link_there c.rows child.0 AckComes inv may

      owned : (obj c.rows child.0).owner ≡ Some at
      owned = by (obj c.rows child.0).owner refl front.3 (right (is_finished (obj c.rows child.0).stage) _ front.2)
        where
          by : (v : Option ℕ) → (obj c.rows child.0).owner ≡ v → owner_or_root v ≡ at → not (is_unowned v) ≡ true → v ≡ Some at
          by None e i n = absurd (never n)
          by (Some v) e i n = ap (λ (w : ℕ). Some w) i

      other : child.0 ≢ at
      other = not_own c.rows child.0 at inv kept.shape owned

      mail : IsDelivered (with_object child.0 (link_after AckComes (obj c.rows child.0)) c.rows) (with_value slot (behind_first (c.boxes slot)) c.boxes)
      mail = object_now c.rows child.0 (link_after AckComes (obj c.rows child.0)) _ _ _ _ (stays_there c.rows child.0 AckComes there)
          (upward_now c.rows child.0 _ _ first.behind (queue c.rows) (rows_queues c.rows child.0))
          (left_over (record { to = id at; word = TermAck child }) is (UpLink child.0) (record { to = at; sign = AckSign }) (λ link. refl)) (sym front.4)
          (ap (down_list child.0 (obj c.rows child.0).plugged (is_coming (obj c.rows child.0).stop)) (finished_untold (obj c.rows child.0).stage finished))

      one : KeptBut at (link AckComes child.0 (without_front slot c))
      one = link_kept at c AckComes child.0 _ (kept_but at c kept) may owned refl mail

      now : AtOnce at (link AckComes child.0 (without_front slot c)).rows
      now = and_child at child.0 _ (but_write at child.0 c.rows (link_after AckComes (obj c.rows child.0)) other (but_child at child.0 c.rows (at_once at c.rows c.output_left kept.prompt)))
          (λ below of asked noted. ap (λ (o : Row). is_alive o.stage) (get_or-set_same c.rows.objects child.0 (link_after AckComes (obj c.rows child.0)) nobody there))

  -- Reap
  pub reap_kept : (at : ℕ) (socket : ObjId) (h : Answers) → c.boxes slot ≡ record { to = id at; word = Reap socket } ∷ rest → Kept (processed at (Reap socket) h (without_front slot c))
  reap_kept at socket h is =
      kept_at at (put socket.0 Term (link ReapComes socket.0 (without_front slot c))) all now
      (child_keeps at (put socket.0 Term (link ReapComes socket.0 (without_front slot c))) socket.0 all (ap (λ (o : Row). o.owner) row1 ∙ owned) (uncleared_over (obj (put socket.0 Term (link ReapComes socket.0 (without_front slot c))).rows socket.0) (ap (λ (o : Row). is_cleared o.stage) row1)))
    where
      first : Oldest (slot_of c.rows) (queue c.rows) c.boxes slot rest (UpLink socket.0) (record { to = at; sign = ReapSign })
      first = first_of (record { to = id at; word = Reap socket }) is (UpLink socket.0) (record { to = at; sign = ReapSign }) (λ link. refl)

      front : ((obj c.rows socket.0).noted ≡ true) × (is_coming (obj c.rows socket.0).request ≡ true) × (is_socket (obj c.rows socket.0).kind ≡ true) × (owner_or_root (obj c.rows socket.0).owner ≡ at)
          × (up_list (is_socket (obj c.rows socket.0).kind) (owner_or_root (obj c.rows socket.0).owner) (obj c.rows socket.0).noted false (is_finished (obj c.rows socket.0).stage && not (is_unowned (obj c.rows socket.0).owner)) ≡ first.behind)
      front = reap_front (is_socket (obj c.rows socket.0).kind) (owner_or_root (obj c.rows socket.0).owner) (obj c.rows socket.0).noted (is_coming (obj c.rows socket.0).request)
          (is_finished (obj c.rows socket.0).stage && not (is_unowned (obj c.rows socket.0).owner)) at first.behind first.is_first

      alive : is_alive (obj c.rows socket.0).stage ≡ true
      alive = closing_alive (is_socket (obj c.rows socket.0).kind) (is_alive (obj c.rows socket.0).stage) (is_used (obj c.rows socket.0).request) (is_unused (obj c.rows socket.0).stop) (at_socket (obj c.rows socket.0) (inv.fits socket.0)) front.2 (coming_is (obj c.rows socket.0).request front.1)

      may : link_may ReapComes (obj c.rows socket.0) ≡ true
      may = and _ _ front.1 (and _ _ alive front.2)

      there : socket.0 < length c.rows.objects
      there = link_there c.rows socket.0 ReapComes inv may

      owned : (obj c.rows socket.0).owner ≡ Some at
      owned = owner_some (obj c.rows socket.0) at (inv.fits socket.0) (and_false (obj c.rows socket.0).noted (obj c.rows socket.0).plugged (is_used (obj c.rows socket.0).request) (coming_is (obj c.rows socket.0).request front.1)) front.3

      other : socket.0 ≢ at
      other = not_own c.rows socket.0 at inv kept.shape owned

      row1 : obj (with_object socket.0 (link_after ReapComes (obj c.rows socket.0)) c.rows) socket.0 ≡ link_after ReapComes (obj c.rows socket.0)
      row1 = get_or-set_same c.rows.objects socket.0 (link_after ReapComes (obj c.rows socket.0)) nobody there

      all : KeptBut at (put socket.0 Term (link ReapComes socket.0 (without_front slot c)))
      all = link_kept at c ReapComes socket.0 _ (kept_but at c kept) may owned refl
          (object_put_down c.rows socket.0 (link_after ReapComes (obj c.rows socket.0)) _ _ _ (with_value slot (behind_first (c.boxes slot)) c.boxes) (record { to = socket; word = Term }) (record { to = socket.0; sign = TermSign }) (stays_there c.rows socket.0 ReapComes there)
          (upward_now c.rows socket.0 _ _ first.behind (queue c.rows) (rows_queues c.rows socket.0))
          (left_over (record { to = id at; word = Reap socket }) is (UpLink socket.0) (record { to = at; sign = ReapSign }) (λ link. refl)) (λ link. refl)
          (sym front.4 ∙ told_up (is_socket (obj c.rows socket.0).kind) (owner_or_root (obj c.rows socket.0).owner) (obj c.rows socket.0).noted false (not (is_unowned (obj c.rows socket.0).owner)) (obj c.rows socket.0).stage alive)
          (told_down socket.0 (obj c.rows socket.0).plugged (is_coming (obj c.rows socket.0).stop) (obj c.rows socket.0).stage alive))

      now : AtOnce at (put socket.0 Term (link ReapComes socket.0 (without_front slot c))).rows
      now = and_child at socket.0 _ (but_write at socket.0 c.rows (link_after ReapComes (obj c.rows socket.0)) other (but_child at socket.0 c.rows (at_once at c.rows c.output_left kept.prompt)))
          (λ below of asked noted. ap (λ (o : Row). is_alive o.stage) row1)

  -- Plug of a listener
  pub plug_kept : (at : ℕ) (h : Answers) → c.boxes slot ≡ record { to = id at; word = Plug None } ∷ rest → Kept (processed at (Plug None) h (without_front slot c))
  plug_kept at h is =
      kept_unasked at (link PlugComes at (without_front slot c)) one
      (ap (λ (o : Row). was_asked o.stage) row1 ∙ unplugged_unasked (obj c.rows at).stage (obj c.rows at).noted (obj c.rows at).plugged (obj c.rows at).request (obj c.rows at).stop (at_stage (obj c.rows at) (inv.fits at)) front.0)
    where
      first : Oldest (slot_of c.rows) (queue c.rows) c.boxes slot rest (DownLink at) (record { to = at; sign = PlugSign })
      first = first_of (record { to = id at; word = Plug None }) is (DownLink at) (record { to = at; sign = PlugSign }) (λ link. refl)

      front : ((obj c.rows at).plugged ≡ false) × (down_marks at (link_after PlugComes (obj c.rows at)) ≡ first.behind)
      front = plug_front at (obj c.rows at).plugged (is_coming (obj c.rows at).stop) (is_told (obj c.rows at).stage) at first.behind first.is_first

      may : link_may PlugComes (obj c.rows at) ≡ true
      may = ap not front.0

      there : at < length c.rows.objects
      there = link_there c.rows at PlugComes inv may

      row1 : obj (with_object at (link_after PlugComes (obj c.rows at)) c.rows) at ≡ link_after PlugComes (obj c.rows at)
      row1 = get_or-set_same c.rows.objects at (link_after PlugComes (obj c.rows at)) nobody there

      one : KeptBut at (link PlugComes at (without_front slot c))
      one = link_kept at c PlugComes at _ (kept_but at c kept) may refl refl
          (object_now c.rows at (link_after PlugComes (obj c.rows at)) _ _ _ _ (stays_there c.rows at PlugComes there)
          (downward_now c.rows at _ _ first.behind (queue c.rows) (rows_queues c.rows at))
          (left_over (record { to = id at; word = Plug None }) is (DownLink at) (record { to = at; sign = PlugSign }) (λ link. refl)) refl (sym front.1))

  -- Stop
  pub stop_kept : (at : ℕ) (h : Answers) → c.boxes slot ≡ record { to = id at; word = Stop } ∷ rest → Kept (processed at Stop h (without_front slot c))
  stop_kept at h is =
      kept_unasked at (link StopComes at (without_front slot c)) one
      (ap (λ (o : Row). was_asked o.stage) row1 ∙ stopping_unasked (obj c.rows at).stage (obj c.rows at).noted (obj c.rows at).plugged (obj c.rows at).request (obj c.rows at).stop (at_stage (obj c.rows at) (inv.fits at)) front.1)
    where
      first : Oldest (slot_of c.rows) (queue c.rows) c.boxes slot rest (DownLink at) (record { to = at; sign = StopSign })
      first = first_of (record { to = id at; word = Stop }) is (DownLink at) (record { to = at; sign = StopSign }) (λ link. refl)

      front : ((obj c.rows at).plugged ≡ true) × (is_coming (obj c.rows at).stop ≡ true) × (down_marks at (link_after StopComes (obj c.rows at)) ≡ first.behind)
      front = stop_front at (obj c.rows at).plugged (is_coming (obj c.rows at).stop) (is_told (obj c.rows at).stage) at first.behind first.is_first

      may : link_may StopComes (obj c.rows at) ≡ true
      may = and _ _ front.1 front.0

      there : at < length c.rows.objects
      there = link_there c.rows at StopComes inv may

      row1 : obj (with_object at (link_after StopComes (obj c.rows at)) c.rows) at ≡ link_after StopComes (obj c.rows at)
      row1 = get_or-set_same c.rows.objects at (link_after StopComes (obj c.rows at)) nobody there

      one : KeptBut at (link StopComes at (without_front slot c))
      one = link_kept at c StopComes at _ (kept_but at c kept) may refl refl
          (object_now c.rows at (link_after StopComes (obj c.rows at)) _ _ _ _ (stays_there c.rows at StopComes there)
          (downward_now c.rows at _ _ first.behind (queue c.rows) (rows_queues c.rows at))
          (left_over (record { to = id at; word = Stop }) is (DownLink at) (record { to = at; sign = StopSign }) (λ link. refl)) refl (sym front.2))
