-- A socket that was lent comes back as one of its caller's.
use Rattle.std.specs.Prelude.{◌≡◌, ◌+◌, ℕ, false, List, [], Option, Some, None}
use Rattle.std.proofs.Common.{ap, ◌∙◌, subst}
use Rattle.spec_control.specs.Control.{id}
use Rattle.msg_pipe.specs.Known.{Known}
use Rattle.desk.specs.declared.given.Given.{Given}
use Rattle.desk.specs.Desk.{slot_after}
use Rattle.any_sock.specs.declared.any_sock.AnySock.{AnySock}
use Rattle.sock_core.specs.declared.sock.SockCore.{SockCore}
use Rattle.sock_calls.specs.Calls.{owner_of}
use Rattle.plain_desk.specs.Lent.{moments_of, HasSocket, IsOneOrder, Lent}
use Rattle.socket_laws.proofs.SocketLemmas.{is_in}
use Rattle.line_socket.specs.Owned.{parts, view_of, Agrees as IsLent, MayTakeEnds}
use Rattle.line_socket.specs.Ready.{IsReady}
use Rattle.core_laws.specs.Agrees.{AgreesIn}
use Rattle.core_laws.specs.Calls.{for_caller}
use Rattle.zq_world.specs.Way.{KeepsLent}
use Rattle.plain_core.specs.Agreeing.{as_open, Agrees}
use Rattle.plain_core.specs.Calling.{lent_of}
use Rattle.plain_core.specs.Lending.{SocketsCanBeLent}
use Rattle.plain_core.specs.Sound.{Core, IsCore}

-- the mailbox of an open socket, in a context with one I/O worker
pub box_of_one : {G N T : Type 0} (d : Lent G N T) → IsOneOrder d → d.past.workers ≡ 1 → (o : ℕ) → HasSocket d (id o) → (slot_after o (moments_of d)).0 ≡ 1 + o
box_of_one d order one o known = (is_in d order o known).slot ∙ ap (λ (n : ℕ). n + o) one

module _ (W : Type 0) {S N O I T : Type 0} (K : Known S O I N) (w : Core S (Given N O I) N T) (k : ℕ) where
  -- a socket is there, and agrees in the core
  abbrev pub AgreesThere : Option (SockCore AnySock W N O I) → Type 0
  AgreesThere None = ⊥
  AgreesThere (Some t) = AgreesIn K w.desk k w.pipes t

  module _ (order : IsOneOrder (for_caller k w.desk)) (one : w.desk.past.workers ≡ 1) where
    pub agrees_back : (t : Option (SockCore AnySock W N O I)) → AgreesThere t → (w.wanted ≡ false → IsReady (lent_of K w k t)) → Agrees W K w k t
    agrees_back None is ready = is
    agrees_back (Some t) is ready = record { agrees = is; box = box_of_one (for_caller k w.desk) order one t.number.0 is.owned.is_open; ready = ready }

  same_object : (s t : Option (SockCore AnySock W N O I)) → owner_of t ≡ owner_of s → (as_open t).object ≡ (as_open s).object
  same_object None None same = same
  same_object None (Some t) same = same
  same_object (Some s) None same = same
  same_object (Some s) (Some t) same = same

  pub lent_back : IsOneOrder (for_caller k w.desk) → w.desk.past.workers ≡ 1 → (s t : Option (SockCore AnySock W N O I)) → AgreesThere t → (w.wanted ≡ false → IsReady (lent_of K w k t)) → owner_of t ≡ owner_of s →
      KeepsLent as_open (Agrees W K) k s t w
  lent_back order one s t is ready same = record { agrees_now = agrees_back order one t is ready; same = same_object s t same }

-- ---- it can be lent

module _ (W : Type 0) {S N O I T : Type 0} (K : Known S O I N) where
  -- with the core's pipes and its desk as its caller has it
  pub record IsLendable (w : Core S (Given N O I) N T) (k : ℕ) (s : Option (SockCore AnySock W N O I)) : Type 0 where
    pub lent : IsLent K (lent_of K w k s)
    pub takes : MayTakeEnds K (lent_of K w k s)
    pub ready : w.wanted ≡ false → IsReady (lent_of K w k s)
    pub view : view_of (lent_of K w k s) ≡ as_open s

  pub lendable : SocketsCanBeLent W T K → (w : Core S (Given N O I) N T) → IsCore K w → IsOneOrder w.desk → (k : ℕ) (s : Option (SockCore AnySock W N O I)) → Agrees W K w k s → IsLendable w k s
  lendable law w is order k None agrees = absurd agrees
  lendable law w is order k (Some s) agrees = let can = law w is order k s agrees in record { lent = can.lent; takes = can.takes; ready = can.ready; view = can.view }

-- ---- a desk that is its caller's already

module _ {W N O I S T : Type 0} where
  pub ready_for : (k : ℕ) (pipes : S) (d : Lent (Given N O I) N T) → d.caller ≡ k → (t : Option (SockCore AnySock W N O I)) (xs : List (Unit {0} × Unit {0})) → IsReady (parts pipes d t xs) → IsReady (parts pipes (for_caller k d) t [])
  ready_for k pipes d same t xs is =
      let now = subst (λ (n : ℕ). IsReady (parts pipes (for_caller n d) t xs)) same is in
      record { whole = now.whole; peers = now.peers }
