-- A lent socket behind one moment more that is of it: it is lent still, and the acts of the moment led there.
use Rattle.std.proofs.Common.{◌≡◌, ◌∙◌, ◌+◌, ℕ, Bool, true, List, [], ◌∷◌, ◌++◌, length, map, Some, refl, sym, ap, subst, true≢false, arith}
use Rattle.std.specs.List.{list_any}
use Rattle.zq_base.specs.declared.ids.EndId.{EndId}
use Rattle.spec_control.specs.Control.{is_end, place_of, ends_of}
use Rattle.spec_control.specs.Reply.{root_asked}
use Rattle.spec_control.specs.Moments.{Moment, items_in, left_after, left_by}
use Rattle.spec_control.specs.OwnAsks.{known_after}
use Rattle.ctl_plane.specs.Past.{control_of}
use Rattle.desk.specs.declared.given.Given.{Given}
use Rattle.msg_pipe.specs.Known.{Known}
use Rattle.any_sock.specs.declared.any_sock.AnySock.{AnySock}
use Rattle.sock_core.specs.declared.sock.SockCore.{SockCore}
use Rattle.sock_core.specs.Standing.{standing_joins}
use Rattle.spec_run.specs.Event.{acts_said}
use Rattle.spec_run.specs.SocketCall.{leave_asked}
use Rattle.line_socket.specs.View.{ends_told}
use Rattle.line_socket.specs.Standing.{IsStanding}
use Rattle.socket_laws.specs.Bounds.{TellIdentities}
use Rattle.socket_laws.specs.Open.{ends_at, IsOfItem}
use Rattle.socket_laws.proofs.JoinLemmas.{identities_go_on}
use Rattle.socket_laws.specs.Asked.{WereAsked}
use Rattle.plain_desk.specs.Lent.{Lent, moments_of}
use Rattle.line_socket.specs.Owned.{IsOut, IsLentTo, newest}
use Rattle.line_socket.specs.Called.{IsCalled}
use Rattle.line_socket.specs.Leaving.{LeavesStanding}
use Rattle.line_socket.specs.Leads.{SendsMore, Leads}
use Rattle.line_socket.specs.LeadsOwed.{newest_more, none_sent}
use Rattle.line_socket.proofs.MomentLemmas.{one, items_now, left_now}
use Rattle.line_socket.proofs.MovesLemmas.{same_number, comes, held_now, ends_now}
use Rattle.line_socket.proofs.StandLemmas.{said_once}

-- the last moment decides
asked_last : {N T : Type 0} (xs : List (Moment N T)) (m : Moment N T) → leave_asked (xs ++ m ∷ []) ≡ root_asked (left_by m)
asked_last [] m = refl
asked_last (x ∷ []) m = refl
asked_last (x ∷ y ∷ xs) m = asked_last (y ∷ xs) m

module _ {W N O I S T : Type 0} {made : Bool} {may_make : EndId → ℕ → ℕ → Type 0} (K : Known S O I N) (before now : S) (d e : Lent (Given N O I) N T) (n : ℕ) (s t : SockCore AnySock W N O I)
    (is : IsLentTo K before d n s) (called : IsCalled K made may_make before d (Some s) now e (Some t)) (mo : Moment N T) (more : moments_of e ≡ moments_of d ++ mo ∷ [])
    (of_it : IsOfItem s.number.0 mo.found mo.item) (still : (known_after s.number.0 (items_in (moments_of e))).open_socket ≡ true) where
  -- the root is as the moment left it
  asked_now : leave_asked (newest (n + 1) (moments_of e)) ≡ root_asked (control_of e.past)
  asked_now =
      ap (λ (l : List (Moment N T)). leave_asked (newest (n + 1) l)) more ∙ ap leave_asked (newest_more n (moments_of d) (mo ∷ [])) ∙ asked_last (newest n (moments_of d)) mo
      ∙ ap root_asked (sym (left_now d e called.grows called.order mo more) ∙ sym called.order.control)

  -- it is lent still
  pub lent_now : IsStanding K now t → ((x : EndId) → list_any (is_end x) (map (λ y. y.0) t.sealed.items) ≡ true → IsOut (ends_of s.number.0 (left_after s.number.0 (moments_of e))) x (place_of (left_after s.number.0 (moments_of e)) x)) → WereAsked (control_of e.past) (map (λ y. y.0) t.sealed.items) → IsLentTo K now e (n + 1) t
  lent_now stands out were =
      let same = same_number K before now d e n s t is called mo more of_it still in
      record {
        owned = record {
          stands = stands;
          has = called.keeps.has;
          held = held_now K before now d e n s t is called mo more of_it still;
          is_open = ap (λ (i : ℕ). (known_after i (items_in (moments_of e))).open_socket) same ∙ still;
          ends_are = subst (λ (i : ℕ). ends_told (standing_joins t.joins.items) t.ends.places.items ≡ ends_at i (left_after i (moments_of e))) (sym same) (ends_now K before now d e n s t is called mo more of_it still);
          sealed_out = λ x h. subst (λ (i : ℕ). IsOut (ends_of i (left_after i (moments_of e))) x (place_of (left_after i (moments_of e)) x)) (sym same) (out x h);
        };
        order = called.order;
        told = subst TellIdentities (sym (items_now d e called.grows called.order mo more)) (identities_go_on N T d.past.workers d.items (one d e called.grows called.order mo more).item s.number.0 (comes K before now d e n s t is called mo more of_it still) is.told);
        asked = λ some. asked_now;
        were_asked = were;
      }

  -- and the moment with the delimiters that are written in it led there
  pub leads_now : e.past.given ≡ d.past.given → LeavesStanding K (record { pipes = before; desk = d; socket = Some s; since = n }) (acts_said mo) (record { pipes = now; desk = e; socket = Some t; since = n + 1 })
      → Leads K (record { pipes = before; desk = d; socket = Some s; since = n }) (acts_said mo) (record { pipes = now; desk = e; socket = Some t; since = n + 1 })
  leads_now given standing = record {
    moments = more ∙ ap (λ l. moments_of d ++ l) (sym (said_once mo));
    since = let q = ap length (said_once mo) in omega (arith, q);
    grows = called.grows;
    others = λ _. called.others;
    given = record {
      was_open = λ _. is.owned.stands.is_open;
      kept = λ _. given;
      sent = subst (λ l. SendsMore K now d.past.given l) (sym given) (none_sent K now d.past.given);
      over = λ closed. absurd (true≢false (sym is.owned.stands.is_open ∙ closed));
    };
    standing = standing;
  }
