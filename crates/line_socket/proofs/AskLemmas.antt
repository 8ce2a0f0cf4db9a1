-- A lent socket behind a request of it that does not close it.
use Rattle.std.proofs.Common.{◌≡◌, ◌∙◌, ◌+◌, ℕ, Bool, true, false, List, [], ◌∷◌, ◌++◌, append-nil, length, length-append, Option, Some, None, refl, sym, ap, subst}
use Rattle.std.specs.Prelude.{Result, Err, OnErr}
use Rattle.zq_base.specs.declared.ids.EndId.{EndId}
use Rattle.spec_pattern.specs.declared.answers.Skip.{Skip}
use Rattle.spec_control.specs.declared.entry.Did.TheVariants.{Asked}
use Rattle.spec_control.specs.declared.request.Req.{Req}
use Rattle.spec_control.specs.declared.request.Reply.{Reply}
use Rattle.spec_control.specs.Held.{asker}
use Rattle.spec_control.specs.Control.{Control}
use Rattle.spec_control.specs.Rows.{is_owner}
use Rattle.spec_control.specs.Has.{given_by_request}
use Rattle.spec_control.specs.Moments.{Moment, items_in, left_by}
use Rattle.spec_control.specs.OwnAsks.{known_after}
use Rattle.desk.specs.declared.given.Given.{Given}
use Rattle.ctl_plane.specs.Past.{control_of}
use Rattle.desk.specs.Asking.{IsOfSockets}
use Rattle.desk.specs.Making.{IsMadeFor}
use Rattle.desk.specs.Turns.{turned_in}
use Rattle.desk.specs.Desk.{AsksOnce, by_caller, came_with, slot_after}
use Rattle.socket_laws.specs.Behind.{IsOneCall, StaysOpen}
use Rattle.socket_laws.proofs.LastLemmas.{moments_are_last}
use Rattle.socket_laws.proofs.SocketLemmas.{sockets_stay_open}
use Rattle.msg_pipe.specs.Known.{Known}
use Rattle.any_sock.specs.declared.any_sock.AnySock.{AnySock}
use Rattle.any_sock.specs.Over.{over}
use Rattle.any_sock.specs.Told.{IsToldByPeers}
use Rattle.sock_core.specs.declared.sock.SockCore.{SockCore}
use Rattle.sock_core.specs.Has.{holding_in}
use Rattle.sock_calls.specs.Calls.{owner_of}
use Rattle.sock_calls.specs.Passing.{GoesOn, Passes}
use Rattle.spec_run.specs.ControlAnswer.{reply_answer}
use Rattle.spec_run.specs.Event.{IsRequest}
use Rattle.line_calls.specs.Steps.{LeadsSome, RequestsSo}
use Rattle.line_socket.specs.View.{pattern_told}
use Rattle.line_socket.specs.Standing.{IsWhole, kind_told}
use Rattle.plain_desk.specs.Lent.{Lent, moments_of}
use Rattle.socket_laws.specs.Calling.{AddsItem, OpensBy, opens_some}
use Rattle.line_socket.specs.Owned.{LentParts, IsLentTo, IsThereFor, Agrees, view_of, moments_since}
use Rattle.line_socket.specs.Called.{IsCalled}
use Rattle.line_socket.specs.Leads.{Leads}
use Rattle.line_socket.specs.Ready.{IsReady, HasPeers, AreTold}
use Rattle.line_socket.proofs.MovedLemmas.{lent_now}
use Rattle.line_socket.proofs.MovesLemmas.{held_now}
use Rattle.line_socket.proofs.ReadyLemmas.{peers_in, goes_now, answered_now, peers_now}
use Rattle.line_socket.proofs.RequestLemmas.{requests_so}
use Rattle.line_socket.proofs.SealedLemmas.{sealed_now}
use Rattle.line_socket.proofs.StandLemmas.{asked_by_moment, stands_by_moment}
use Rattle.line_socket.proofs.StayedLemmas.{lent_stays, leads_stays, peers_stay}
use Rattle.line_socket.proofs.StillLemmas.{stands_now}

pub at_err : {A E : Type 0} (P : Type 0) {r : Result A E} {x : E} → r ≡ Err x → OnErr r P → P
at_err P e h = subst (λ s. OnErr s P) e h

-- one note more
pub one_longer : {X : Type 0} (xs ys zs : List X) (x : X) → zs ≡ ys ++ x ∷ [] → ys ≡ xs → length zs ≡ length xs + 1
one_longer xs ys zs x more same = ap length (more ∙ ap (λ l. l ++ x ∷ []) same) ∙ length-append xs (x ∷ [])

-- ---- which pairs a request opens

module _ {G N T : Type 0} (d : Lent G N T) where
  -- a moment of this request gives no pair its number, or makes the pipes of those that it does
  abbrev pub OpensFor : Bool → (EndId → ℕ → ℕ → Type 0) → ℕ → Req → Reply → Type 0
  OpensFor made may_make o req reply = (m : Moment N T) → m.found ≡ control_of d.past → IsRequest req reply m → OpensBy made may_make o m

  -- what its control state lets it make
  abbrev pub MayMakeBy : Req → EndId → ℕ → ℕ → Type 0
  MayMakeBy req x written read = (c : Control) × (c ≡ control_of d.past) × IsMadeFor c req x written read

  pub opens_made : (o : ℕ) (req : Req) (reply : Reply) → IsOfSockets true req → asker req ≡ Some o → OpensFor true (MayMakeBy req) o req reply
  opens_made o req reply of own m found is = opens_some refl req reply is of own (λ x written read may. subst (λ (c : Control). IsMadeFor c req x written read) (may.1 ∙ sym found) may.2)

-- ---- of a lent socket

module _ {W N O I S T : Type 0} (K : Known S O I N) (before now : S) (d e : Lent (Given N O I) N T) (n : ℕ) where
  abbrev with_old : Option (SockCore AnySock W N O I) → LentParts W N O I S T
  with_old s = record { pipes = before; desk = d; socket = s; since = n }

  abbrev with_new : Option (SockCore AnySock W N O I) → ℕ → LentParts W N O I S T
  with_new t k = record { pipes = now; desk = e; socket = t; since = k }

  -- the request led there, and it is lent and ready still
  pub record HasAsked (req : Req) (reply : Reply) (old new : Option (SockCore AnySock W N O I)) (k : ℕ) : Type 0 where
    pub asks : (told : List Skip) → RequestsSo (Leads K) view_of moments_since req (reply_answer reply) told (with_old old) (with_new new k)
    pub agrees : Agrees K (with_new new k)
    pub ready : IsReady (with_new new k)

  -- none was made, and it is so
  pub record HasStayed (old new : Option (SockCore AnySock W N O I)) (k : ℕ) : Type 0 where
    pub some : LeadsSome (Leads K) (with_old old) (with_new new k)
    pub agrees : Agrees K (with_new new k)
    pub ready : IsReady (with_new new k)

  module _ {made : Bool} {may_make : EndId → ℕ → ℕ → Type 0} (s t : SockCore AnySock W N O I) (is : IsLentTo K before d n s) (told : IsToldByPeers s.kind) (whole_was : IsWhole (Some s)) (peered : HasPeers (moments_of d) s)
      (called : IsCalled K made may_make before d (Some s) now e (Some t)) (given : e.past.given ≡ d.past.given) (whole : IsWhole (Some t))
      (passes : (more : List (Moment N T)) → moments_of e ≡ moments_of d ++ more → Passes over (Some s) (Some t) more) where
    module _ (req : Req) (reply : Reply) (own : asker req ≡ Some s.number.0) (free : is_owner s.number.0 (given_by_request req) ≡ false)
        (asks : AsksOnce d.caller req reply (moments_of d) (moments_of e)) (opens : OpensFor d made may_make s.number.0 req reply) where
      abbrev mo : Moment N T
      mo = record { found = asks.found; item = by_caller d.caller (Asked req reply asks.answered) }

      one_call : IsOneCall d e mo
      one_call = record { before = is.order; behind = called.order; grows = called.grows; one_more = asks.one_more }

      stays : StaysOpen s.number.0 d e
      stays = sockets_stay_open (Given N O I) N T d e mo one_call s.number.0 is.owned.is_open free

      still : (known_after s.number.0 (items_in (moments_of e))).open_socket ≡ true
      still = stays.is_open

      same_slot : (slot_after t.number.0 (moments_of e)).0 ≡ (slot_after s.number.0 (moments_of d)).0
      same_slot = ap (λ (i : ℕ). (slot_after i (moments_of e)).0) called.owner ∙ ap (λ x. x.0) stays.slot

      goes : GoesOn over (came_with mo.item) (turned_in mo.found (left_by mo)) (pattern_told s) (Some t)
      goes = goes_now K before now d e n s t is called mo asks.one_more own still whole_was peered told (passes (mo ∷ []) asks.one_more)

      adds : AddsItem K kind_told made may_make d before s e mo
      adds = record {
        call = one_call;
        of_it = own;
        opens = opens mo (moments_are_last (Given N O I) N T d e mo one_call).found (record { by = d.caller; answered = asks.answered; item_is = refl });
        counts = tt;
      }

      held : (holding_in (kind_told t.kind) t).holds s.number.0 ≡ true
      held = ap (λ (i : ℕ). (holding_in (kind_told t.kind) t).holds i) (sym called.owner) ∙ held_now K before now d e n s t is called mo asks.one_more own still

      asked_so : HasAsked req reply (Some s) (Some t) (n + 1)
      asked_so = record {
        asks = requests_so K before now d e n s t is called req reply asks own still same_slot given whole (peers_in s (slot_after s.number.0 (moments_of d)).0 peered.peers) goes
            (answered_now K before now d e n s t is called mo asks.one_more own still whole_was peered goes whole)
            (stands_by_moment K before now d e n s t is called held mo adds (n + 1));
        agrees = lent_now K before now d e n s t is called mo asks.one_more own still (stands_now K before now d e n s t is called mo asks.one_more own still) (sealed_now K before now d e n s t is called mo asks.one_more own still)
            (asked_by_moment K before now d e n s t is called held mo adds);
        ready = record { whole = whole; peers = peers_now K before now d e n s t is called mo asks.one_more own still whole_was peered goes whole };
      }

  -- the same of a socket that is there
  pub has_asked : {made : Bool} {may_make : EndId → ℕ → ℕ → Type 0} → (old new : Option (SockCore AnySock W N O I)) → IsThereFor K before d n old → AreTold old → IsReady (with_old old) → IsCalled K made may_make before d old now e new
      → e.past.given ≡ d.past.given → (IsWhole old → IsWhole new) → ((more : List (Moment N T)) → moments_of e ≡ moments_of d ++ more → Passes over old new more)
      → (req : Req) (reply : Reply) → asker req ≡ Some (owner_of old) → is_owner (owner_of old) (given_by_request req) ≡ false
      → AsksOnce d.caller req reply (moments_of d) (moments_of e) → OpensFor d made may_make (owner_of old) req reply → (k : ℕ) → k ≡ n + 1 → HasAsked req reply old new k
  has_asked None new is told ready called given whole passes req reply own free asks opens k at = absurd is
  has_asked (Some s) None is told ready called given whole passes req reply own free asks opens k at = absurd called.fits
  has_asked (Some s) (Some t) is told ready called given whole passes req reply own free asks opens k at =
      subst (λ (j : ℕ). HasAsked req reply (Some s) (Some t) j) (sym at) (asked_so s t is told ready.whole ready.peers called given (whole ready.whole) passes req reply own free asks opens)

  pub has_stayed : {made : Bool} {may_make : EndId → ℕ → ℕ → Type 0} → (old new : Option (SockCore AnySock W N O I)) → IsThereFor K before d n old → AreTold old → IsReady (with_old old) → IsCalled K made may_make before d old now e new
      → e.past.given ≡ d.past.given → (IsWhole old → IsWhole new) → ((more : List (Moment N T)) → moments_of e ≡ moments_of d ++ more → Passes over old new more)
      → moments_of e ≡ moments_of d → (k : ℕ) → k ≡ n → HasStayed old new k
  has_stayed None new is told ready called given whole passes same k at = absurd is
  has_stayed (Some s) None is told ready called given whole passes same k at = absurd called.fits
  has_stayed (Some s) (Some t) is told ready called given whole passes same k at = subst (λ (j : ℕ). HasStayed (Some s) (Some t) j) (sym at) (record {
    some = record { acts = []; led = leads_stays K before now d e n s t is called same given };
    agrees = lent_stays K before now d e n s t is called same;
    ready = record { whole = whole ready.whole; peers = peers_stay K before now d e n s t is called same told ready.whole (whole ready.whole) ready.peers (passes [] (same ∙ sym (append-nil (moments_of d)))) };
  })
