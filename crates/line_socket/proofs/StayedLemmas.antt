-- A lent socket behind a call that its caller's moments do not tell: it is lent still, and no act led there.
use Rattle.std.proofs.Common.{◌≡◌, ◌≤◌, ◌∙◌, ◌==◌, ◌&&◌, ◌<◌, ℕ, Bool, true, false, List, [], ◌++◌, append-nil, length, map, Some, refl, sym, ap, subst, true≢false, arith}
use Rattle.std.specs.List.{list_any}
use Rattle.zq_base.specs.declared.ids.EndId.{EndId}
use Rattle.spec_pattern.specs.Pattern.{Pattern}
use Rattle.spec_control.specs.declared.entry.Joining.{Joining}
use Rattle.spec_control.specs.Reply.{root_asked}
use Rattle.spec_control.specs.Control.{is_end, place_of, ends_of}
use Rattle.spec_control.specs.Moments.{Moment, items_in, left_after}
use Rattle.spec_control.specs.OwnAsks.{known_after}
use Rattle.desk.specs.declared.given.Given.{Given}
use Rattle.socket_laws.specs.Behind.{IsAsBefore}
use Rattle.socket_laws.proofs.SendLemmas.{no_moment_no_item}
use Rattle.msg_pipe.specs.Known.{Known}
use Rattle.any_sock.specs.declared.any_sock.AnySock.{AnySock}
use Rattle.any_sock.specs.Over.{Leftover, over}
use Rattle.any_sock.specs.Told.{IsToldByPeers}
use Rattle.sock_core.specs.declared.sock.SockCore.{SockCore}
use Rattle.sock_core.specs.Has.{holding_in, is_stop, state_in}
use Rattle.sock_core.specs.Standing.{standing_joins}
use Rattle.sock_calls.specs.Passing.{Passes}
use Rattle.spec_run.specs.SocketCall.{leave_asked}
use Rattle.line_socket.specs.View.{end_at, ends_told, pattern_told}
use Rattle.line_socket.specs.Standing.{IsWhole, kind_told}
use Rattle.line_socket.proofs.ViewLemmas.{caught_as_is, end_found, opens_are}
use Rattle.socket_laws.specs.Bounds.{TellIdentities, drawn_of}
use Rattle.socket_laws.specs.Open.{ends_at}
use Rattle.socket_laws.specs.Peers.{HasItsPeers}
use Rattle.plain_desk.specs.Lent.{Lent, moments_of}
use Rattle.line_socket.specs.Owned.{IsOut, IsLentTo, newest}
use Rattle.line_socket.specs.Called.{IsCalled}
use Rattle.line_socket.specs.Leads.{SendsMore, Leads}
use Rattle.line_socket.specs.LeadsOwed.{none_sent}
use Rattle.line_socket.specs.Ready.{HasPeers}
use Rattle.line_socket.proofs.BehindLemmas.{ends_so, stands_so}
use Rattle.line_socket.proofs.MovesLemmas.{ends_in, ends_of_told}
use Rattle.line_socket.proofs.NamingLemmas.{told_named}
use Rattle.line_socket.proofs.PassingLemmas.{heard_any}
use Rattle.line_socket.proofs.StandLemmas.{asked_by_none, stands_by_none}

module _ {W N O I S T : Type 0} {made : Bool} {may_make : EndId → ℕ → ℕ → Type 0} (K : Known S O I N) (before now : S) (d e : Lent (Given N O I) N T) (n : ℕ) (s t : SockCore AnySock W N O I)
    (is : IsLentTo K before d n s) (called : IsCalled K made may_make before d (Some s) now e (Some t)) (same : moments_of e ≡ moments_of d) where
  abbrev o : ℕ
  o = s.number.0

  none_more : moments_of e ≡ moments_of d ++ []
  none_more = same ∙ sym (append-nil (moments_of d))

  same_number : t.number.0 ≡ o
  same_number = called.owner

  still : (known_after o (items_in (moments_of e))).open_socket ≡ true
  still = ap (λ (l : List (Moment N T)). (known_after o (items_in l)).open_socket) same ∙ is.owned.is_open

  holds : (holding_in (kind_told t.kind) t).holds o ≡ true
  holds = (called.keeps.objects.none same o).0 ∙ is.owned.held

  and_front : (b c : Bool) → b && c ≡ true → b ≡ true
  and_front true c h = refl
  and_front false c h = absurd (true≢false (sym h))

  joined : map (λ (j : Joining N). j.end) (standing_joins t.joins.items) ≡ ends_of o (left_after o (moments_of e))
  joined =
      ap (map (λ (j : Joining N). j.end)) (called.keeps.came [] none_more ∙ append-nil (standing_joins s.joins.items))
      ∙ sym (ends_of_told (state_in s.ends.places.items) (standing_joins s.joins.items))
      ∙ ends_in (ends_told (standing_joins s.joins.items) s.ends.places.items) (left_after o (moments_of d)) (ends_of o (left_after o (moments_of d))) is.owned.ends_are
      ∙ ap (λ (l : List (Moment N T)). ends_of o (left_after o l)) (sym same)

  sealed_out : (x : EndId) → list_any (is_end x) (map (λ y. y.0) t.sealed.items) ≡ true → IsOut (ends_of o (left_after o (moments_of e))) x (place_of (left_after o (moments_of e)) x)
  sealed_out x h =
      subst (λ (l : List (Moment N T)). IsOut (ends_of o (left_after o l)) x (place_of (left_after o l) x)) (sym same)
      (is.owned.sealed_out x (ap (list_any (is_end x)) (sym ((called.keeps.turned [] none_more).sealed ∙ append-nil (map (λ y. y.0) s.sealed.items))) ∙ h))

  as_before : IsAsBefore d e
  as_before = no_moment_no_item (Given N O I) N T d e is.order called.order called.grows same

  pub lent_stays : IsLentTo K now e n t
  lent_stays = record {
    owned = record {
      stands = stands_so K now e o t same_number called.order called.keeps.has still holds joined called.fits (and_front t.is_open (o == t.number.0) holds) sealed_out;
      has = called.keeps.has;
      held = ap (λ (i : ℕ). (holding_in (kind_told t.kind) t).holds i) same_number ∙ holds;
      is_open = ap (λ (i : ℕ). (known_after i (items_in (moments_of e))).open_socket) same_number ∙ still;
      ends_are = subst (λ (i : ℕ). ends_told (standing_joins t.joins.items) t.ends.places.items ≡ ends_at i (left_after i (moments_of e))) (sym same_number) (ends_so K now e o t same_number called.order called.keeps.has still holds joined);
      sealed_out = λ x h. subst (λ (i : ℕ). IsOut (ends_of i (left_after i (moments_of e))) x (place_of (left_after i (moments_of e)) x)) (sym same_number) (sealed_out x h);
    };
    order = called.order;
    told = subst TellIdentities (sym as_before.items) is.told;
    asked = λ some.
        ap (λ (l : List (Moment N T)). leave_asked (newest n l)) same
        ∙ is.asked (subst (λ (l : List (Moment N T)). 0 < length (newest n l)) same some)
        ∙ ap root_asked (sym as_before.control);
    were_asked = asked_by_none K before now d e n s t is called holds same;
  }

  pub leads_stays : e.past.given ≡ d.past.given → Leads K (record { pipes = before; desk = d; socket = Some s; since = n }) [] (record { pipes = now; desk = e; socket = Some t; since = n })
  leads_stays given = record {
    moments = none_more;
    since = omega arith;
    grows = called.grows;
    others = λ _. called.others;
    given = record {
      was_open = λ _. is.owned.stands.is_open;
      kept = λ _. given;
      sent = subst (λ l. SendsMore K now d.past.given l) (sym given) (none_sent K now d.past.given);
      over = λ closed. absurd (true≢false (sym is.owned.stands.is_open ∙ closed));
    };
    standing = stands_by_none K before now d e n s t is called holds same n;
  }

  stopped_same : t.stopped ≡ s.stopped
  stopped_same =
      called.fits.stopped_is ∙ heard_any t.heard.items ∙ ap (list_any is_stop) (called.keeps.heard [] none_more ∙ append-nil (map (λ x. x.0) s.heard.items))
      ∙ sym (is.owned.stands.fits.stopped_is ∙ heard_any s.heard.items)

  -- and it has the peers that it had
  pub peers_stay : IsToldByPeers s.kind → IsWhole (Some s) → IsWhole (Some t) → HasPeers (moments_of d) s → Passes over {S = T} (Some s) (Some t) [] → HasPeers (moments_of e) t
  peers_stay told whole whole_now peered passes =
      let at = end_at t.ends.places.items in
      let pattern : pattern_told t ≡ pattern_told s =
      ap (over at) (caught_as_is at t.kind (ap (λ (l : Leftover). l.to_obey) whole_now))
      ∙ (passes (and_front t.is_open (o == t.number.0) holds) (pattern_told s) (told_named K before s is.owned.stands told whole)).pattern_is at (λ k p here. end_found t.ends.places.items k p here) in
      let ends : ends_told (standing_joins t.joins.items) t.ends.places.items ≡ ends_told (standing_joins s.joins.items) s.ends.places.items =
      ends_so K now e o t same_number called.order called.keeps.has still holds joined ∙ ap (λ (l : List (Moment N T)). ends_at o (left_after o l)) same ∙ sym is.owned.ends_are in
      record {
        peers = subst HasItsPeers (sym (opens_are t.number.0 o 0 t.stopped s.stopped (pattern_told t) (pattern_told s) _ _ same_number stopped_same pattern ends)) peered.peers;
        drawn = subst (λ (i : ℕ). drawn_of (pattern_told t) ≤ length (ends_of i (left_after i (moments_of e)))) (sym same_number)
            (subst (λ (l : List (Moment N T)). drawn_of (pattern_told t) ≤ length (ends_of o (left_after o l))) (sym same) (subst (λ (p : Pattern). drawn_of p ≤ length (ends_of o (left_after o (moments_of d)))) (sym pattern) peered.drawn));
      }
