-- A lent socket behind one moment more that is of it: what its caller's moments left, as a run tells it.
use Rattle.std.proofs.Common.{◌≡◌, ◌∙◌, ◌==◌, ◌&&◌, ℕ, Bool, true, false, not, List, [], ◌∷◌, ◌++◌, append-nil, map, Some, refl, sym, ap, subst, true≢false}
use Rattle.zq_base.specs.declared.ids.EndId.{EndId}
use Rattle.spec_control.specs.declared.end.EndState.{EndState}
use Rattle.spec_control.specs.declared.entry.Joining.{Joining}
use Rattle.spec_control.specs.Row.{Row}
use Rattle.spec_control.specs.Rows.{obj}
use Rattle.spec_control.specs.Control.{Control, begun, place_of, ends_of}
use Rattle.spec_control.specs.ControlRun.{after_all, IsOpenSocket}
use Rattle.spec_control.specs.Moments.{Moment, items_in, left_after, left_by, moments_by, moments_from}
use Rattle.spec_control.specs.OwnAsks.{known_after}
use Rattle.desk.specs.Joins.{StaysHad}
use Rattle.desk.specs.declared.given.Given.{Given}
use Rattle.desk.specs.Desk.{came_with}
use Rattle.control_laws.proofs.LawLemmas.{open_not}
use Rattle.msg_pipe.specs.Known.{Known}
use Rattle.any_sock.specs.declared.any_sock.AnySock.{AnySock}
use Rattle.sock_core.specs.declared.sock.SockCore.{SockCore}
use Rattle.sock_core.specs.Has.{holding_in, state_in}
use Rattle.sock_core.specs.Standing.{standing_joins}
use Rattle.spec_run.specs.OpenSocket.{SockEnd, ends_left}
use Rattle.line_socket.specs.View.{ends_told}
use Rattle.line_socket.specs.Standing.{kind_told}
use Rattle.socket_laws.specs.Open.{ends_at, moment_at, left_before, HasOpen, ComesTo, IsOfItem}
use Rattle.socket_laws.specs.OpenEnds.{AreLeft, GoesOn}
use Rattle.socket_laws.proofs.OpenLemmas.{had}
use Rattle.socket_laws.proofs.LeftLemmas.{open_ends_are_left}
use Rattle.socket_laws.proofs.GoLemmas.{ends_go_on}
use Rattle.plain_desk.specs.Lent.{Lent, moments_of}
use Rattle.line_socket.specs.Owned.{IsLentTo}
use Rattle.line_socket.specs.Called.{IsCalled}
use Rattle.line_socket.proofs.BehindLemmas.{told_by, ends_so}
use Rattle.line_socket.proofs.MomentLemmas.{one, mine, left_now, comes_to}

-- an object that is an open socket before and behind is had still
stays_had : (was now : Row) → IsOpenSocket was → IsOpenSocket now → StaysHad was now
stays_had was now a b = record {
  ended = λ h. absurd (true≢false (sym h ∙ b.lives));
  plug = ap (λ (x : Bool). not x && (not was.plugged && now.plugged)) a.socket;
  way = open_not now b ∙ sym (open_not was a);
}

map_append : {X Y : Type 0} (f : X → Y) (xs ys : List X) → map f (xs ++ ys) ≡ map f xs ++ map f ys
map_append f [] ys = refl
map_append f (x ∷ xs) ys = ap (λ l. f x ∷ l) (map_append f xs ys)

pub ends_in : (js : List SockEnd) (c : Control) (es : List EndId) → js ≡ map (λ (e : EndId). let x : SockEnd = record { end = e; place = place_of c e } in x) es → map (λ (x : SockEnd). x.end) js ≡ es
ends_in js c es e = ap (map (λ (x : SockEnd). x.end)) e ∙ by es where
  by : (ds : List EndId) → map (λ (x : SockEnd). x.end) (map (λ (d : EndId). let x : SockEnd = record { end = d; place = place_of c d } in x) ds) ≡ ds
  by [] = refl
  by (d ∷ ds) = ap (λ l. d ∷ l) (by ds)

pub ends_of_told : {N : Type 0} (f : EndId → EndState) (js : List (Joining N)) → map (λ (x : SockEnd). x.end) (map (λ (j : Joining N). told_by f j.end) js) ≡ map (λ (j : Joining N). j.end) js
ends_of_told f [] = refl
ends_of_told f (j ∷ js) = ap (λ l. j.end ∷ l) (ends_of_told f js)

module _ {W N O I S T : Type 0} {made : Bool} {may_make : EndId → ℕ → ℕ → Type 0} (K : Known S O I N) (before now : S) (d e : Lent (Given N O I) N T) (n : ℕ) (s t : SockCore AnySock W N O I)
    (is : IsLentTo K before d n s) (called : IsCalled K made may_make before d (Some s) now e (Some t)) (mo : Moment N T) (more : moments_of e ≡ moments_of d ++ mo ∷ [])
    (of_it : IsOfItem s.number.0 mo.found mo.item) (still : (known_after s.number.0 (items_in (moments_of e))).open_socket ≡ true) where
  abbrev o : ℕ
  o = s.number.0

  abbrev io : ℕ
  io = d.past.workers

  pub same_number : t.number.0 ≡ o
  same_number = called.owner

  pub comes : ComesTo io d.items (one d e called.grows called.order mo more).item o
  comes = comes_to d e called.grows called.order mo more o is.owned.is_open of_it

  -- it is open before and behind
  pub open_before : HasOpen io d.items d.caller o
  open_before = record { run = is.order.order.run; callers = is.order.order.by; is_open = is.owned.is_open }

  open_behind : HasOpen e.past.workers e.items e.caller o
  open_behind = record { run = called.order.order.run; callers = called.order.order.by; is_open = still }

  row_before : IsOpenSocket (obj mo.found.rows o)
  row_before = subst (λ (m : Moment N T). IsOpenSocket (obj m.found.rows o)) (one d e called.grows called.order mo more).moment_is (had io d.items d.caller o open_before).open_socket

  row_behind : IsOpenSocket (obj (left_by mo).rows o)
  row_behind = subst (λ (c : Control). IsOpenSocket (obj c.rows o)) (left_now d e called.grows called.order mo more) (had e.past.workers e.items e.caller o open_behind).open_socket

  -- and held still
  pub holds_now : (holding_in (kind_told t.kind) t).holds o ≡ true
  holds_now = (called.keeps.objects.one mo more).holds o (stays_had (obj mo.found.rows o) (obj (left_by mo).rows o) row_before row_behind) ∙ is.owned.held

  and_front : (b c : Bool) → b && c ≡ true → b ≡ true
  and_front true c h = refl
  and_front false c h = absurd (true≢false (sym h))

  pub open_now : t.is_open ≡ true
  open_now = and_front t.is_open (o == t.number.0) holds_now

  pub held_now : (holding_in (kind_told t.kind) t).holds t.number.0 ≡ true
  held_now = ap (λ (i : ℕ). (holding_in (kind_told t.kind) t).holds i) same_number ∙ holds_now

  -- ---- its ends

  abbrev pub left_was : Control
  left_was = left_after o (moments_of d)

  abbrev pub left_is : Control
  left_is = left_after o (moments_of e)

  ends_were : map (λ (j : Joining N). j.end) (standing_joins s.joins.items) ≡ ends_of o left_was
  ends_were = sym (ends_of_told (state_in s.ends.places.items) (standing_joins s.joins.items)) ∙ ends_in (ends_told (standing_joins s.joins.items) s.ends.places.items) left_was (ends_of o left_was) is.owned.ends_are

  pub go : GoesOn o (left_before io d.items (one d e called.grows called.order mo more).item o) (moment_at io d.items (one d e called.grows called.order mo more).item)
  go = ends_go_on N T io d.items (one d e called.grows called.order mo more).item o comes

  pub left_behind : AreLeft o left_is (after_all e.items (begun e.past.workers))
  left_behind = open_ends_are_left N T e.past.workers e.items e.caller o open_behind

  pub joins_more : standing_joins t.joins.items ≡ standing_joins s.joins.items ++ came_with mo.item
  joins_more = called.keeps.came (mo ∷ []) more ∙ ap (λ l. standing_joins s.joins.items ++ l) (append-nil (came_with mo.item))

  pub ends_behind : ends_of o (left_by mo) ≡ ends_of o left_was ++ map (λ (j : Joining N). j.end) (came_with mo.item)
  ends_behind =
      subst (λ (m : Moment N T). ends_of o (left_by m) ≡ ends_of o left_was ++ map (λ (j : Joining N). j.end) (came_with m.item)) (one d e called.grows called.order mo more).moment_is
      (subst (λ (k : ℕ). ends_of o (left_by (moment_at io d.items (one d e called.grows called.order mo more).item))
      ≡ ends_of o (left_after o (moments_by k (moments_from (begun io) d.items))) ++ map (λ (j : Joining N). j.end) (came_with (one d e called.grows called.order mo more).item)) (mine d e called.grows called.order mo more) go.ends)

  pub ends_same : ends_of o left_is ≡ ends_of o (left_by mo)
  ends_same = left_behind.ends ∙ ap (ends_of o) (left_now d e called.grows called.order mo more)

  -- those that joined are those that the control plane has
  pub joined_are : map (λ (j : Joining N). j.end) (standing_joins t.joins.items) ≡ ends_of o left_is
  joined_are =
      ap (map (λ (j : Joining N). j.end)) joins_more ∙ map_append (λ (j : Joining N). j.end) (standing_joins s.joins.items) (came_with mo.item)
      ∙ ap (λ l. l ++ map (λ (j : Joining N). j.end) (came_with mo.item)) ends_were ∙ sym ends_behind ∙ sym ends_same

  pub ends_now : ends_told (standing_joins t.joins.items) t.ends.places.items ≡ ends_at o left_is
  ends_now = ends_so K now e o t same_number called.order called.keeps.has still holds_now joined_are

  -- each end that joined is told where it is
  pub told_now : ends_told (standing_joins t.joins.items) t.ends.places.items ≡ ends_left o mo
  told_now = ends_now ∙ left_behind.told ∙ ap (ends_at o) (left_now d e called.grows called.order mo more)
