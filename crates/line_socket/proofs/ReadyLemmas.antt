-- A lent socket that is ready is so behind one moment more that is of it, and the ends that join in it are answered as its kind answers them.
use Rattle.std.proofs.Common.{◌≡◌, ◌≤◌, ℕ, Bool, true, List, [], ◌∷◌, ◌++◌, append-nil, length, Some, sym, subst}
use Rattle.zq_base.specs.declared.ids.EndId.{EndId}
use Rattle.spec_control.specs.declared.end.EndState.{EndState}
use Rattle.spec_control.specs.declared.entry.Joining.{Joining}
use Rattle.spec_control.specs.Control.{begun, ends_of}
use Rattle.spec_pattern.specs.Pattern.{Pattern}
use Rattle.spec_control.specs.Moments.{Moment, items_in, left_after, left_by, moments_by, moments_from}
use Rattle.spec_control.specs.OwnAsks.{known_after}
use Rattle.desk.specs.declared.given.Given.{Given}
use Rattle.desk.specs.Turns.{turned_in}
use Rattle.desk.specs.Desk.{came_with}
use Rattle.msg_pipe.specs.Known.{Known}
use Rattle.any_sock.specs.declared.any_sock.AnySock.{AnySock}
use Rattle.any_sock.specs.Over.{over}
use Rattle.any_sock.specs.Told.{IsToldByPeers}
use Rattle.sock_core.specs.declared.sock.SockCore.{SockCore}
use Rattle.sock_core.specs.Way.{CanJoinAll, outs_of}
use Rattle.sock_calls.specs.Passing.{GoesOn, Passes}
use Rattle.spec_run.specs.OpenSocket.{attach_all, detach_all, AreAnswered}
use Rattle.line_socket.specs.View.{pattern_told, open_view}
use Rattle.line_socket.specs.Standing.{IsWhole}
use Rattle.socket_laws.specs.Bounds.{CanJoin, drawn_of}
use Rattle.socket_laws.specs.Open.{IsOfItem}
use Rattle.socket_laws.specs.Peers.{HasItsPeers}
use Rattle.socket_laws.proofs.JoinLemmas.{ends_can_join}
use Rattle.plain_desk.specs.Lent.{Lent, moments_of}
use Rattle.line_socket.specs.Owned.{IsLentTo}
use Rattle.line_socket.specs.Called.{IsCalled}
use Rattle.line_socket.specs.Ready.{HasPeers}
use Rattle.line_socket.proofs.MomentLemmas.{one, mine}
use Rattle.line_socket.proofs.MovesLemmas.{comes, ends_same, open_now, same_number}
use Rattle.line_socket.proofs.NamingLemmas.{told_named}
use Rattle.line_socket.proofs.PassingLemmas.{passed, pattern_now, view_now}

-- whatever mailbox it has
pub peers_in : {W N O I : Type 0} (s : SockCore AnySock W N O I) (slot : ℕ) → HasItsPeers (open_view 0 (Some s)) → HasItsPeers (open_view slot (Some s))
peers_in s slot has = record { once = has.once; peers = λ k d lt. let h = has.peers k d lt in record { here = h.here; in_use = h.in_use } }

module _ {W N O I S T : Type 0} {made : Bool} {may_make : EndId → ℕ → ℕ → Type 0} (K : Known S O I N) (before now : S) (d e : Lent (Given N O I) N T) (n : ℕ) (s t : SockCore AnySock W N O I)
    (is : IsLentTo K before d n s) (called : IsCalled K made may_make before d (Some s) now e (Some t)) (mo : Moment N T) (more : moments_of e ≡ moments_of d ++ mo ∷ [])
    (of_it : IsOfItem s.number.0 mo.found mo.item) (still : (known_after s.number.0 (items_in (moments_of e))).open_socket ≡ true)
    (whole : IsWhole (Some s)) (peered : HasPeers (moments_of d) s) where
  joins_at : CanJoin d.past.workers d.items (one d e called.grows called.order mo more).item s.number.0 (pattern_told s)
  joins_at = ends_can_join N T d.past.workers d.items (one d e called.grows called.order mo more).item s.number.0 (comes K before now d e n s t is called mo more of_it still) is.told (pattern_told s)
      (subst (λ (k : ℕ). drawn_of (pattern_told s) ≤ length (ends_of s.number.0 (left_after s.number.0 (moments_by k (moments_from (begun d.past.workers) d.items))))) (sym (mine d e called.grows called.order mo more)) peered.drawn)

  -- the ends that join can
  joins_now : CanJoinAll (came_with mo.item) (pattern_told s)
  joins_now = subst (λ (m : Moment N T). CanJoinAll (came_with m.item) (pattern_told s)) (one d e called.grows called.order mo more).moment_is joins_at.all

  drawn_now : (es : List EndId) → drawn_of (detach_all es (attach_all (came_with mo.item) (pattern_told s))) ≤ length (ends_of s.number.0 (left_by mo))
  drawn_now = subst (λ (m : Moment N T). (es : List EndId) → drawn_of (detach_all es (attach_all (came_with m.item) (pattern_told s))) ≤ length (ends_of s.number.0 (left_by m))) (one d e called.grows called.order mo more).moment_is joins_at.drawn

  -- the kind goes on from what a run tells
  pub goes_now : IsToldByPeers s.kind → Passes over (Some s) (Some t) (mo ∷ []) → GoesOn over (came_with mo.item) (turned_in mo.found (left_by mo)) (pattern_told s) (Some t)
  goes_now told passes =
      subst (λ (js : List (Joining N)). GoesOn over js (turned_in mo.found (left_by mo)) (pattern_told s) (Some t)) (append-nil (came_with mo.item))
      (subst (λ (ts : List (EndId × EndState)). GoesOn over (came_with mo.item ++ []) ts (pattern_told s) (Some t)) (append-nil (turned_in mo.found (left_by mo)))
      (passes (open_now K before now d e n s t is called mo more of_it still) (pattern_told s) (told_named K before s is.owned.stands told whole)))

  module _ (goes : GoesOn over (came_with mo.item) (turned_in mo.found (left_by mo)) (pattern_told s) (Some t)) (whole_now : IsWhole (Some t)) where
    pub answered_now : AreAnswered (came_with mo.item) (pattern_told s)
    answered_now = goes.answered joins_now

    -- it is ready still
    pub peers_now : HasPeers (moments_of e) t
    peers_now = record {
      peers = subst HasItsPeers (sym (view_now K before now d e n s t is called mo more of_it still 0 whole_now peered.peers goes)) (passed K before now d e n s t is called mo more of_it still 0 whole_now peered.peers goes).peers;
      drawn = subst (λ (i : ℕ). drawn_of (pattern_told t) ≤ length (ends_of i (left_after i (moments_of e)))) (sym (same_number K before now d e n s t is called mo more of_it still))
          (subst (λ (es : List EndId). drawn_of (pattern_told t) ≤ length es) (sym (ends_same K before now d e n s t is called mo more of_it still))
          (subst (λ (p : Pattern). drawn_of p ≤ length (ends_of s.number.0 (left_by mo))) (sym (pattern_now K before now d e n s t is called mo more of_it still 0 whole_now peered.peers goes))
          (drawn_now (outs_of (turned_in mo.found (left_by mo))))));
    }
