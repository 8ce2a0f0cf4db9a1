-- A lent socket goes through one moment more that is of it, as a run tells it.
use Rattle.std.proofs.Common.{◌≡◌, ◌∙◌, ◌||◌, ℕ, Bool, true, List, [], ◌∷◌, ◌++◌, append-nil, map, Some, refl, sym, ap, subst}
use Rattle.std.specs.List.{list_any}
use Rattle.std.proofs.lemmas.List.Folds.{list_any-append}
use Rattle.zq_base.specs.declared.ids.EndId.{EndId}
use Rattle.spec_control.specs.Moments.{Moment, items_in, left_after, left_by, moments_by, moments_from}
use Rattle.spec_control.specs.OwnAsks.{known_after}
use Rattle.spec_control.specs.Control.{begun}
use Rattle.desk.specs.declared.given.Given.{Given}
use Rattle.desk.specs.declared.notice.Notice.{Notice}
use Rattle.desk.specs.Turns.{turned_in}
use Rattle.desk.specs.Desk.{came_with, heard_with}
use Rattle.msg_pipe.specs.Known.{Known}
use Rattle.any_sock.specs.declared.any_sock.AnySock.{AnySock}
use Rattle.any_sock.specs.Over.{Leftover, over}
use Rattle.sock_core.specs.declared.sock.SockCore.{SockCore}
use Rattle.sock_core.specs.Has.{is_stop}
use Rattle.sock_core.specs.Standing.{standing_joins}
use Rattle.sock_core.specs.Way.{outs_of}
use Rattle.sock_calls.specs.Passing.{GoesOn}
use Rattle.spec_run.specs.OpenSocket.{OpenSock, attach_all, detach_all, AreAnswered, PassesItems, sock_after}
use Rattle.line_socket.specs.View.{end_at, ends_told, pattern_told, open_view}
use Rattle.line_socket.specs.Standing.{IsWhole}
use Rattle.line_socket.proofs.ViewLemmas.{opens_are, end_found, caught_as_is}
use Rattle.socket_laws.specs.Open.{ends_at, moment_at, IsOfItem}
use Rattle.socket_laws.specs.Passes.{IsPassed}
use Rattle.socket_laws.specs.Peers.{HasItsPeers}
use Rattle.socket_laws.proofs.PassLemmas.{items_pass}
use Rattle.plain_desk.specs.Lent.{Lent, moments_of}
use Rattle.line_socket.specs.Owned.{IsLentTo}
use Rattle.line_socket.specs.Called.{IsCalled}
use Rattle.line_socket.proofs.MomentLemmas.{one, mine}
use Rattle.line_socket.proofs.MovesLemmas.{comes, told_now, same_number}

pub heard_any : (xs : List (Notice × Unit {0})) → list_any (λ x. is_stop x.0) xs ≡ list_any is_stop (map (λ x. x.0) xs)
heard_any [] = refl
heard_any (x ∷ xs) = ap (λ (b : Bool). is_stop x.0 || b) (heard_any xs)

module _ {W N O I S T : Type 0} {made : Bool} {may_make : EndId → ℕ → ℕ → Type 0} (K : Known S O I N) (before now : S) (d e : Lent (Given N O I) N T) (n : ℕ) (s t : SockCore AnySock W N O I)
    (is : IsLentTo K before d n s) (called : IsCalled K made may_make before d (Some s) now e (Some t)) (mo : Moment N T) (more : moments_of e ≡ moments_of d ++ mo ∷ [])
    (of_it : IsOfItem s.number.0 mo.found mo.item) (still : (known_after s.number.0 (items_in (moments_of e))).open_socket ≡ true)
    (slot : ℕ) (whole : IsWhole (Some t)) (peers : HasItsPeers (open_view slot (Some s)))
    (goes : GoesOn over (came_with mo.item) (turned_in mo.found (left_by mo)) (pattern_told s) (Some t)) where
  abbrev was : OpenSock
  was = open_view slot (Some s)

  passed_at : IsPassed (moment_at d.past.workers d.items (one d e called.grows called.order mo more).item) was
  passed_at = items_pass N T d.past.workers d.items (one d e called.grows called.order mo more).item s.number.0 (comes K before now d e n s t is called mo more of_it still) was refl
      (subst (λ (k : ℕ). ends_told (standing_joins s.joins.items) s.ends.places.items ≡ ends_at s.number.0 (left_after s.number.0 (moments_by k (moments_from (begun d.past.workers) d.items)))) (sym (mine d e called.grows called.order mo more)) is.owned.ends_are)
      peers

  pub passed : IsPassed mo was
  passed = subst (λ (m : Moment N T). IsPassed m was) (one d e called.grows called.order mo more).moment_is passed_at

  hears : List Notice
  hears = heard_with mo.item mo.found (left_by mo)

  heard_more : map (λ x. x.0) t.heard.items ≡ map (λ x. x.0) s.heard.items ++ heard_with mo.item mo.found (left_by mo)
  heard_more = called.keeps.heard (mo ∷ []) more ∙ ap (λ l. map (λ x. x.0) s.heard.items ++ l) (append-nil (heard_with mo.item mo.found (left_by mo)))

  stopped_now : t.stopped ≡ (s.stopped || list_any is_stop (heard_with mo.item mo.found (left_by mo)))
  stopped_now =
      called.fits.stopped_is ∙ heard_any t.heard.items ∙ ap (list_any is_stop) heard_more
      ∙ list_any-append is_stop (map (λ x. x.0) s.heard.items) (heard_with mo.item mo.found (left_by mo))
      ∙ ap (λ (b : Bool). b || list_any is_stop (heard_with mo.item mo.found (left_by mo))) (sym (is.owned.stands.fits.stopped_is ∙ heard_any s.heard.items))

  pub pattern_now : pattern_told t ≡ detach_all (outs_of (turned_in mo.found (left_by mo))) (attach_all (came_with mo.item) (pattern_told s))
  pattern_now =
      ap (over (end_at t.ends.places.items)) (caught_as_is (end_at t.ends.places.items) t.kind (ap (λ (l : Leftover). l.to_obey) whole))
      ∙ goes.pattern_is (end_at t.ends.places.items) (λ k p at. end_found t.ends.places.items k p at)

  -- it is what a run says of it behind the moment
  pub view_now : open_view slot (Some t) ≡ sock_after mo was
  view_now = opens_are t.number.0 s.number.0 slot t.stopped (sock_after mo was).stopped (pattern_told t) (sock_after mo was).pattern _ (sock_after mo was).ends
      (same_number K before now d e n s t is called mo more of_it still) (stopped_now ∙ sym passed.stopped) (pattern_now ∙ sym passed.pattern) (told_now K before now d e n s t is called mo more of_it still)

  pub passes_now : AreAnswered (came_with mo.item) (pattern_told s) → PassesItems (mo ∷ []) was (open_view slot (Some t))
  passes_now answered = subst (λ (x : OpenSock). PassesItems (mo ∷ []) was x) (sym view_now) (passed.passes answered)
