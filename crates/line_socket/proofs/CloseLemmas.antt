-- A lent socket behind the request that closes it.
use Rattle.std.proofs.Common.{◌≡◌, ◌+◌, ◌∙◌, ℕ, Bool, [], ◌++◌, length, Option, Some, None, refl, sym, ap, subst, true≢false, arith}
use Rattle.zq_base.specs.declared.ids.EndId.{EndId}
use Rattle.spec_control.specs.declared.entry.Did.TheVariants.{Asked}
use Rattle.spec_control.specs.declared.request.Req.TheVariants.{Close}
use Rattle.spec_control.specs.declared.request.Reply.{Reply}
use Rattle.spec_control.specs.declared.request.Reply.TheVariants.{Done}
use Rattle.spec_control.specs.Control.{id}
use Rattle.spec_control.specs.Moments.{Moment}
use Rattle.desk.specs.declared.given.Given.{Given}
use Rattle.desk.specs.Holding.{Holding}
use Rattle.desk.specs.Coming.{SendsEnds}
use Rattle.desk.specs.Desk.{AsksOnce, by_caller}
use Rattle.msg_pipe.specs.Known.{Known}
use Rattle.any_sock.specs.declared.any_sock.AnySock.{AnySock}
use Rattle.sock_core.specs.declared.sock.SockCore.{SockCore}
use Rattle.sock_calls.specs.Calls.{owner_of, HasNone, OnlyMake}
use Rattle.spec_run.specs.Event.{acts_said}
use Rattle.line_calls.specs.Steps.{LeadsSome, ClosesOpen}
use Rattle.socket_laws.proofs.OpenMadeLemmas.{requests_are_answered}
use Rattle.line_socket.specs.Standing.{kind_told}
use Rattle.plain_desk.specs.Lent.{Lent, moments_of}
use Rattle.socket_laws.specs.Calling.{AddsItem, opens_none}
use Rattle.line_socket.specs.Owned.{LentParts, IsThereFor, IsLentTo, Agrees, view_of}
use Rattle.line_socket.specs.Called.{IsCalled}
use Rattle.line_socket.specs.Leads.{Leads}
use Rattle.line_socket.proofs.MomentLemmas.{one, runs_now}
use Rattle.line_socket.proofs.StandLemmas.{said_once, stands_by_close}
use Rattle.line_socket.proofs.StayedLemmas.{lent_stays, leads_stays}

module _ {W N O I S T : Type 0} (K : Known S O I N) (before now : S) (d e : Lent (Given N O I) N T) (n : ℕ) where
  abbrev was : Option (SockCore AnySock W N O I) → LentParts W N O I S T
  was s = record { pipes = before; desk = d; socket = s; since = n }

  abbrev is_now : Option (SockCore AnySock W N O I) → ℕ → LentParts W N O I S T
  is_now t k = record { pipes = now; desk = e; socket = t; since = k }

  module _ {made : Bool} {may_make : EndId → ℕ → ℕ → Type 0} (s t : SockCore AnySock W N O I) (is : IsLentTo K before d n s) (called : IsCalled K made may_make before d (Some s) now e (Some t)) where
    module _ (reply : Reply) (asks : AsksOnce d.caller (Close (id s.number.0)) reply (moments_of d) (moments_of e)) (none : HasNone (Some t)) (h : Holding N) (sends : SendsEnds K now h (Close (id s.number.0)) d.past.given e.past.given)
        (makings : OnlyMake K made may_make (Some s) (Some t) before now called.does) where
      abbrev mo : Moment N T
      mo = record { found = asks.found; item = by_caller d.caller (Asked (Close (id s.number.0)) reply asks.answered) }

      is_done : reply ≡ Done
      is_done =
          requests_are_answered N T d.past.workers d.items (one d e called.grows called.order mo asks.one_more).item (runs_now d e called.grows called.order mo asks.one_more) (Close (id s.number.0)) reply
          (record { by = d.caller; answered = asks.answered; item_is = ap (λ (m : Moment N T). m.item) (one d e called.grows called.order mo asks.one_more).moment_is })

      adds : AddsItem K kind_told made may_make d before s e mo
      adds = record { call = record { before = is.order; behind = called.order; grows = called.grows; one_more = asks.one_more }; of_it = refl; opens = opens_none refl; counts = tt }

      led : Leads K (was (Some s)) (acts_said mo) (is_now (Some t) (n + 1))
      led = record {
        moments = asks.one_more ∙ ap (λ l. moments_of d ++ l) (sym (said_once mo));
        since = let q = ap length (said_once mo) in omega (arith, q);
        grows = called.grows;
        others = λ _. called.others;
        given = record {
          was_open = λ _. is.owned.stands.is_open;
          kept = λ h. absurd (true≢false (sym h ∙ none.0));
          sent = record { ends = sends.ends; behind = sends.behind; given = sends.given };
          over = λ closed. absurd (true≢false (sym is.owned.stands.is_open ∙ closed));
        };
        standing = stands_by_close K before now d e n s t is called makings mo adds refl (n + 1);
      }

      closes_so : ClosesOpen (Leads K) view_of (was (Some s)) (is_now (Some t) (n + 1))
      closes_so = record {
        closed = mo;
        request = record { by = d.caller; answered = asks.answered; item_is = ap (λ (r : Reply). by_caller d.caller (Asked (Close (id s.number.0)) r asks.answered)) is_done };
        led = led;
      }

  -- the request led there
  pub has_closed : {made : Bool} {may_make : EndId → ℕ → ℕ → Type 0} → (old new : Option (SockCore AnySock W N O I)) → IsThereFor K before d n old → (called : IsCalled K made may_make before d old now e new)
      → (reply : Reply) → AsksOnce d.caller (Close (id (owner_of old))) reply (moments_of d) (moments_of e) → HasNone new → (h : Holding N) → SendsEnds K now h (Close (id (owner_of old))) d.past.given e.past.given → OnlyMake K made may_make old new before now called.does
      → (k : ℕ) → k ≡ n + 1 → ClosesOpen (Leads K) view_of (was old) (is_now new k)
  has_closed None new is called reply asks none h sends makings k at = absurd is
  has_closed (Some s) None is called reply asks none h sends makings k at = absurd called.fits
  has_closed (Some s) (Some t) is called reply asks none h sends makings k at =
      subst (λ (j : ℕ). ClosesOpen (Leads K) view_of (was (Some s)) (is_now (Some t) j)) (sym at) (closes_so s t is called reply asks none h sends makings)

  -- or none was made, and it is lent still
  pub record IsLeft (old new : Option (SockCore AnySock W N O I)) (k : ℕ) : Type 0 where
    pub some : LeadsSome (Leads K) (was old) (is_now new k)
    pub agrees : Agrees K (is_now new k)

  pub is_left : {made : Bool} {may_make : EndId → ℕ → ℕ → Type 0} → (old new : Option (SockCore AnySock W N O I)) → IsThereFor K before d n old → IsCalled K made may_make before d old now e new → moments_of e ≡ moments_of d → e.past.given ≡ d.past.given → (k : ℕ) → k ≡ n → IsLeft old new k
  is_left None new is called same given k at = absurd is
  is_left (Some s) None is called same given k at = absurd called.fits
  is_left (Some s) (Some t) is called same given k at = subst (λ (j : ℕ). IsLeft (Some s) (Some t) j) (sym at) (record {
    some = record { acts = []; led = leads_stays K before now d e n s t is called same given };
    agrees = lent_stays K before now d e n s t is called same;
  })
