-- A request of a lent socket, as a run tells it.
use Rattle.std.proofs.Common.{◌≡◌, ◌+◌, ℕ, Bool, true, List, [], ◌∷◌, append-nil, Some, refl, sym, subst}
use Rattle.zq_base.specs.declared.ids.EndId.{EndId}
use Rattle.spec_pattern.specs.declared.answers.Skip.{Skip}
use Rattle.spec_control.specs.declared.entry.Did.TheVariants.{Asked}
use Rattle.spec_control.specs.declared.request.Req.{Req}
use Rattle.spec_control.specs.declared.request.Reply.{Reply}
use Rattle.spec_control.specs.Held.{asker}
use Rattle.spec_control.specs.Moments.{Moment, items_in, left_by}
use Rattle.spec_control.specs.OwnAsks.{known_after}
use Rattle.desk.specs.declared.given.Given.{Given}
use Rattle.desk.specs.Turns.{turned_in}
use Rattle.desk.specs.Desk.{AsksOnce, by_caller, came_with, slot_after}
use Rattle.msg_pipe.specs.Known.{Known}
use Rattle.any_sock.specs.declared.any_sock.AnySock.{AnySock}
use Rattle.any_sock.specs.Over.{over}
use Rattle.sock_core.specs.declared.sock.SockCore.{SockCore}
use Rattle.sock_calls.specs.Passing.{GoesOn}
use Rattle.spec_run.specs.ControlAnswer.{reply_answer}
use Rattle.spec_run.specs.OpenSocket.{AreAnswered, PassesItems}
use Rattle.spec_run.specs.SocketCall.{RequestsOnce}
use Rattle.spec_run.specs.Event.{acts_said}
use Rattle.line_calls.specs.Steps.{CallsSo}
use Rattle.line_socket.specs.View.{pattern_told, open_view}
use Rattle.line_socket.specs.Standing.{IsWhole}
use Rattle.socket_laws.specs.Peers.{HasItsPeers}
use Rattle.plain_desk.specs.Lent.{Lent, moments_of}
use Rattle.line_socket.specs.Owned.{IsLentTo, view_of, moments_since}
use Rattle.line_socket.specs.Called.{IsCalled}
use Rattle.line_socket.specs.Leaving.{LeavesStanding}
use Rattle.line_socket.specs.Leads.{Leads}
use Rattle.line_socket.proofs.MovedLemmas.{leads_now}
use Rattle.line_socket.proofs.PassingLemmas.{passes_now}

module _ {W N O I S T : Type 0} {made : Bool} {may_make : EndId → ℕ → ℕ → Type 0} (K : Known S O I N) (before now : S) (d e : Lent (Given N O I) N T) (n : ℕ) (s t : SockCore AnySock W N O I)
    (is : IsLentTo K before d n s) (called : IsCalled K made may_make before d (Some s) now e (Some t)) (req : Req) (reply : Reply) (asks : AsksOnce d.caller req reply (moments_of d) (moments_of e)) (own : asker req ≡ Some s.number.0) where
  -- the moment that it was
  abbrev pub mo : Moment N T
  mo = record { found = asks.found; item = by_caller d.caller (Asked req reply asks.answered) }

  module _ (still : (known_after s.number.0 (items_in (moments_of e))).open_socket ≡ true) (same_slot : (slot_after t.number.0 (moments_of e)).0 ≡ (slot_after s.number.0 (moments_of d)).0)
      (given : e.past.given ≡ d.past.given) (whole : IsWhole (Some t)) (peers : HasItsPeers (open_view (slot_after s.number.0 (moments_of d)).0 (Some s)))
      (goes : GoesOn over (came_with mo.item) (turned_in mo.found (left_by mo)) (pattern_told s) (Some t)) (answered : AreAnswered (came_with mo.item) (pattern_told s))
      (standing : LeavesStanding K (record { pipes = before; desk = d; socket = Some s; since = n }) (acts_said mo) (record { pipes = now; desk = e; socket = Some t; since = n + 1 })) where
    -- one request, which the socket went through
    pub requests_so : (told : List Skip) →
        CallsSo (Leads K) view_of moments_since (λ o u p. RequestsOnce req o u p) (reply_answer reply) told told
        (record { pipes = before; desk = d; socket = Some s; since = n }) (record { pipes = now; desk = e; socket = Some t; since = n + 1 })
    requests_so told = record {
      acts = acts_said mo;
      skips = [];
      does = λ line pump all over ends. record {
        reply = reply;
        made = mo;
        request = record { by = d.caller; answered = asks.answered; item_is = refl };
        call_is = refl;
        skips_are = refl;
        answer_is = refl;
        goes = subst (λ (x : ℕ). PassesItems (mo ∷ []) (open_view (slot_after s.number.0 (moments_of d)).0 (Some s)) (open_view x (Some t))) (sym same_slot)
            (passes_now K before now d e n s t is called mo asks.one_more own still (slot_after s.number.0 (moments_of d)).0 whole peers goes answered);
      };
      tells = sym (append-nil told);
      led = leads_now K before now d e n s t is called mo asks.one_more own still given standing;
    }
