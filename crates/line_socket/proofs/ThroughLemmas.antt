-- A lent socket behind a moment of it that does not close it: it went through the moment as a run tells it, and is lent and ready still.
use Rattle.std.proofs.Common.{◌≡◌, ◌+◌, ◌∙◌, ℕ, Bool, true, false, List, [], ◌∷◌, ◌++◌, Option, Some, None, sym, ap, subst}
use Rattle.zq_base.specs.declared.ids.EndId.{EndId}
use Rattle.spec_control.specs.Moments.{Moment, items_in, left_by}
use Rattle.spec_control.specs.OwnAsks.{known_after}
use Rattle.desk.specs.declared.given.Given.{Given}
use Rattle.desk.specs.Turns.{turned_in}
use Rattle.desk.specs.Desk.{came_with, counts_with, slot_after}
use Rattle.socket_laws.specs.Behind.{closes, IsOneCall, StaysOpen}
use Rattle.socket_laws.proofs.SocketLemmas.{sockets_stay_open}
use Rattle.msg_pipe.specs.Known.{Known}
use Rattle.any_sock.specs.declared.any_sock.AnySock.{AnySock}
use Rattle.any_sock.specs.Over.{over}
use Rattle.any_sock.specs.Told.{IsToldByPeers}
use Rattle.sock_core.specs.declared.sock.SockCore.{SockCore}
use Rattle.sock_core.specs.Has.{holding_in}
use Rattle.sock_calls.specs.Calls.{counts_by, holding_of, owner_of}
use Rattle.sock_calls.specs.Passing.{GoesOn, Passes}
use Rattle.spec_run.specs.Event.{acts_said}
use Rattle.spec_run.specs.OpenSocket.{PassesItems}
use Rattle.line_calls.specs.Steps as steps
use Rattle.line_socket.specs.View.{pattern_told, open_view}
use Rattle.line_socket.specs.Standing.{IsWhole, kind_told}
use Rattle.socket_laws.specs.Open.{IsOfItem}
use Rattle.plain_desk.specs.Lent.{Lent, moments_of}
use Rattle.socket_laws.specs.Calling.{AddsItem, OpensBy}
use Rattle.line_socket.specs.Owned.{LentParts, IsLentTo, IsThereFor, Agrees, view_of}
use Rattle.line_socket.specs.Called.{IsCalled}
use Rattle.line_socket.specs.Leads.{Leads}
use Rattle.line_socket.specs.Ready.{IsReady, HasPeers, AreTold}
use Rattle.line_socket.proofs.MovedLemmas.{lent_now, leads_now}
use Rattle.line_socket.proofs.MovesLemmas.{held_now}
use Rattle.line_socket.proofs.PassingLemmas.{passes_now}
use Rattle.line_socket.proofs.ReadyLemmas.{peers_in, goes_now, answered_now, peers_now}
use Rattle.line_socket.proofs.SealedLemmas.{sealed_now}
use Rattle.line_socket.proofs.StandLemmas.{asked_by_moment, said_once, stands_by_moment}
use Rattle.line_socket.proofs.StillLemmas.{stands_now}

module _ {W N O I S T : Type 0} (K : Known S O I N) (before now : S) (d e : Lent (Given N O I) N T) (n : ℕ) where
  abbrev pub was : Option (SockCore AnySock W N O I) → LentParts W N O I S T
  was s = record { pipes = before; desk = d; socket = s; since = n }

  abbrev pub is_now : Option (SockCore AnySock W N O I) → ℕ → LentParts W N O I S T
  is_now t k = record { pipes = now; desk = e; socket = t; since = k }

  -- the acts of the moment led there, and the socket went through it
  pub record GoesThrough (mo : Moment N T) (old new : Option (SockCore AnySock W N O I)) (k : ℕ) : Type 0 where
    pub passes : steps.Passes (Leads K) view_of (was old) (acts_said mo) (is_now new k)
    pub agrees : Agrees K (is_now new k)
    pub ready : IsReady (is_now new k)

  module _ {made : Bool} {may_make : EndId → ℕ → ℕ → Type 0} (s t : SockCore AnySock W N O I) (is : IsLentTo K before d n s) (called : IsCalled K made may_make before d (Some s) now e (Some t)) (mo : Moment N T) (one_more : moments_of e ≡ moments_of d ++ mo ∷ [])
      (of_it : IsOfItem s.number.0 mo.found mo.item) (free : closes s.number.0 mo.item ≡ false) where
    pub one_call : IsOneCall d e mo
    one_call = record { before = is.order; behind = called.order; grows = called.grows; one_more = one_more }

    -- it is open still, in its mailbox
    pub stays_so : StaysOpen s.number.0 d e
    stays_so = sockets_stay_open (Given N O I) N T d e mo one_call s.number.0 is.owned.is_open free

    still : (known_after s.number.0 (items_in (moments_of e))).open_socket ≡ true
    still = stays_so.is_open

    -- it opens what its item tells, and tells the counts of a pipe that it settled
    module _ (opens : OpensBy made may_make s.number.0 mo) (counts : counts_with K.out_name (counts_by K before (Some s)) (holding_of kind_told (Some s)) mo.item) where
      adds : AddsItem K kind_told made may_make d before s e mo
      adds = record { call = one_call; of_it = of_it; opens = opens; counts = counts }

      held : (holding_in (kind_told t.kind) t).holds s.number.0 ≡ true
      held = ap (λ (i : ℕ). (holding_in (kind_told t.kind) t).holds i) (sym called.owner) ∙ held_now K before now d e n s t is called mo one_more of_it still

      pub lent_behind : IsLentTo K now e (n + 1) t
      lent_behind =
          lent_now K before now d e n s t is called mo one_more of_it still (stands_now K before now d e n s t is called mo one_more of_it still) (sealed_now K before now d e n s t is called mo one_more of_it still)
          (asked_by_moment K before now d e n s t is called held mo adds)

      module _ (told : IsToldByPeers s.kind) (whole_was : IsWhole (Some s)) (peered : HasPeers (moments_of d) s) (given : e.past.given ≡ d.past.given) (whole : IsWhole (Some t))
          (passes : (more : List (Moment N T)) → moments_of e ≡ moments_of d ++ more → Passes over (Some s) (Some t) more) where
        abbrev slot : ℕ
        slot = (slot_after s.number.0 (moments_of d)).0

        same_slot : (slot_after t.number.0 (moments_of e)).0 ≡ slot
        same_slot = ap (λ (i : ℕ). (slot_after i (moments_of e)).0) called.owner ∙ ap (λ x. x.0) stays_so.slot

        goes : GoesOn over (came_with mo.item) (turned_in mo.found (left_by mo)) (pattern_told s) (Some t)
        goes = goes_now K before now d e n s t is called mo one_more of_it still whole_was peered told (passes (mo ∷ []) one_more)

        passed_it : PassesItems (mo ∷ []) (open_view slot (Some s)) (open_view (slot_after t.number.0 (moments_of e)).0 (Some t))
        passed_it = subst (λ (x : ℕ). PassesItems (mo ∷ []) (open_view slot (Some s)) (open_view x (Some t))) (sym same_slot)
            (passes_now K before now d e n s t is called mo one_more of_it still slot whole (peers_in s slot peered.peers) goes (answered_now K before now d e n s t is called mo one_more of_it still whole_was peered goes whole))

        pub gone_through : GoesThrough mo (Some s) (Some t) (n + 1)
        gone_through = record {
          passes = record {
            led = leads_now K before now d e n s t is called mo one_more of_it still given (stands_by_moment K before now d e n s t is called held mo adds (n + 1));
            goes = subst (λ (ms : List (Moment N T)). PassesItems ms (open_view slot (Some s)) (open_view (slot_after t.number.0 (moments_of e)).0 (Some t))) (sym (said_once mo)) passed_it;
          };
          agrees = lent_behind;
          ready = record { whole = whole; peers = peers_now K before now d e n s t is called mo one_more of_it still whole_was peered goes whole };
        }

  -- the same of a socket that is there
  pub goes_through : {made : Bool} {may_make : EndId → ℕ → ℕ → Type 0} → (old new : Option (SockCore AnySock W N O I)) → IsThereFor K before d n old → AreTold old → IsReady (was old) → IsCalled K made may_make before d old now e new
      → e.past.given ≡ d.past.given → (IsWhole old → IsWhole new) → ((more : List (Moment N T)) → moments_of e ≡ moments_of d ++ more → Passes over old new more)
      → (mo : Moment N T) → moments_of e ≡ moments_of d ++ mo ∷ [] → IsOfItem (owner_of old) mo.found mo.item → closes (owner_of old) mo.item ≡ false
      → OpensBy made may_make (owner_of old) mo → counts_with K.out_name (counts_by K before old) (holding_of kind_told old) mo.item → (k : ℕ) → k ≡ n + 1 → GoesThrough mo old new k
  goes_through None new is told ready called given whole passes mo one_more of_it free opens counts k at = absurd is
  goes_through (Some s) None is told ready called given whole passes mo one_more of_it free opens counts k at = absurd called.fits
  goes_through (Some s) (Some t) is told ready called given whole passes mo one_more of_it free opens counts k at =
      subst (λ (j : ℕ). GoesThrough mo (Some s) (Some t) j) (sym at) (gone_through s t is called mo one_more of_it free opens counts told ready.whole ready.peers given (whole ready.whole) passes)
