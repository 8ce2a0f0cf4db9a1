-- The ends that the reaper had or has are none of a socket's that a caller has open.
use Rattle.std.specs.Prelude.{◌≡◌, ◌≢◌, ℕ, true, List, Some}
use Rattle.std.specs.List.{list_any}
use Rattle.std.proofs.Common.{arith, sym, ap, ◌∙◌, subst, inl, inr}
use Rattle.zq_base.specs.declared.ids.EndId.{EndId}
use Rattle.spec_control.specs.Stage.{is_used}
use Rattle.spec_control.specs.Place.{is_here}
use Rattle.spec_control.specs.Row.{is_socket}
use Rattle.spec_control.specs.Rows.{obj}
use Rattle.spec_control.specs.Control.{owner_of, place_of}
use Rattle.control_laws.proofs.ListLemmas.{never, right}
use Rattle.spec_control.specs.Has.{has_after}
use Rattle.spec_control.specs.Moments.{Moment}
use Rattle.msg_pipe.specs.Known.{Known}
use Rattle.any_sock.specs.declared.any_sock.AnySock.{AnySock}
use Rattle.desk.specs.declared.given.Given.{Given}
use Rattle.ctl_plane.specs.Past.{control_of}
use Rattle.desk.specs.Desk.{HasWhatTheySay}
use Rattle.end_table.specs.declared.changes.PipeChange.{PipeChange}
use Rattle.sock_core.specs.declared.sock.SockCore.{SockCore}
use Rattle.closed_ends.specs.declared.sockets.ClosedSockets.{ClosedSockets}
use Rattle.closed_ends.specs.Has.{all_ends, holding_in, is_of}
use Rattle.closed_ends.specs.Sound.{AreSound}
use Rattle.plain_desk.specs.Lent.{moments_of, GrowsBy, IsOneOrder, Lent}
use Rattle.socket_laws.proofs.LastLemmas.{others_stay}
use Rattle.socket_laws.proofs.SocketLemmas.{is_in}
use Rattle.line_socket.specs.Owned.{IsOwned}
use Rattle.core_laws.specs.Calls.{for_caller}
use Rattle.core_laws.proofs.SilentLemmas.{one_order_of}
use Rattle.core_laws.specs.ReapedComing.{HasOnlyTaken}
use Rattle.core_laws.specs.Ends.{ReaperDid}
use Rattle.core_laws.proofs.ReapedComingLemmas.{ends_here}
use Rattle.core_laws.proofs.LedLemmas.{is_still}
use Rattle.core_laws.proofs.HadLemmas.{had_by, sockets_had}
use Rattle.core_laws.specs.Agreeing.{OpenHasNone}
use Rattle.core_laws.proofs.ReapedLemmas.{of_one}

some_same : {m n : ℕ} → Some m ≡ Some n → m ≡ n
some_same e = Prim.grind arith

module _ {W T S O I N : Type 0} (K : Known S O I N) (d : Lent (Given N O I) N T) (order : IsOneOrder d) (before : S) (j : ℕ) (t : SockCore AnySock W N O I) (owned : IsOwned K j (moments_of (for_caller j d)) before t) where
  -- who has it open is another than the reaper
  pub another : HasOnlyTaken d.caller d → j ≢ d.caller
  another only same =
      let is = is_in (for_caller j d) (one_order_of j d order) t.number.0 owned.is_open in
      let open_now = is.open_now in
      never (sym (ap is_used open_now.open_still) ∙ right (is_socket (obj (control_of d.past).rows t.number.0).kind) _ (only t.number.0 (is.has ∙ ap (λ (n : ℕ). Some n) same)))

  -- and what the reaper has is none of its
  pub none_of_its : (pipes : S) (closed : ClosedSockets N O I) → AreSound K pipes closed.sockets.items → HasWhatTheySay d.caller (moments_of d) (holding_in K.out_name K.in_name closed) → j ≢ d.caller
      → (e : EndId) → list_any (is_of e) (all_ends closed.sockets.items) ≡ true → owner_of (control_of d.past) e ≢ t.number.0
  none_of_its pipes closed sound say differs e among same =
      let its = of_one (λ x. has_after (owner_of (control_of d.past) x) d.items ≡ Some d.caller) e (all_ends closed.sockets.items)
      (λ k g lt. had_by d order (holding_in K.out_name K.in_name closed) say _ (sockets_had K d order pipes closed sound say k g lt)) among in
      let is = is_in (for_caller j d) (one_order_of j d order) t.number.0 owned.is_open in
      differs (some_same (sym is.has ∙ ap (λ (i : ℕ). has_after i d.items) (sym same) ∙ its))

module _ {W T S O I N : Type 0} (K : Known S O I N) (old new : Lent (Given N O I) N T) (was_order : IsOneOrder old) (grows : GrowsBy old new) (only : HasOnlyTaken old.caller old) (before : S) (j : ℕ) (t : SockCore AnySock W N O I)
    (owned : IsOwned K j (moments_of (for_caller j old)) before t) where
  pub same_moments : moments_of (for_caller j new) ≡ moments_of (for_caller j old)
  same_moments = others_stay (Given N O I) N T old new grows j (another K old was_order before j t owned only)

  pub owned_now : IsOwned K j (moments_of (for_caller j new)) before t
  owned_now = subst (λ (ms : List (Moment N T)). IsOwned K j ms before t) (sym same_moments) owned

module _ {W T S O I N : Type 0} (K : Known S O I N) (old new : Lent (Given N O I) N T) (before behind : S) (from to : ClosedSockets N O I) (changes : List (PipeChange O I × S)) (did : ReaperDid K old new before behind from to changes)
    (only : HasOnlyTaken old.caller old) (j : ℕ) (t : SockCore AnySock W N O I) (owned : IsOwned K j (moments_of (for_caller j old)) before t) (e : EndId) where
  was_order : IsOneOrder old
  was_order = did.call.before

  differs : j ≢ old.caller
  differs = another K old was_order before j t owned only

  -- one that it had
  had_else : list_any (is_of e) (all_ends from.sockets.items) ≡ true → owner_of (control_of new.past) e ≢ t.number.0
  had_else among same =
      let here = of_one (λ x. is_here (place_of (control_of old.past) x) ≡ true) e (all_ends from.sockets.items) (λ k g lt. (ends_here K old was_order before from did.was_sound did.has k g lt).here) among in
      let still = is_still old new did.call e here in
      none_of_its K old was_order before j t owned before from did.was_sound did.has differs e among (sym still.own ∙ same)

  -- or has
  pub has_else : list_any (is_of e) (all_ends to.sockets.items) ≡ true → owner_of (control_of new.past) e ≢ t.number.0
  has_else =
      none_of_its K new did.call.behind before j t (owned_now K old new was_order did.call.grows only before j t owned) behind to did.sound did.keeps.has (λ same. differs (same ∙ did.call.grows.caller)) e

pub open_has_none : (W T : Type 0) {S O I N : Type 0} (K : Known S O I N) → OpenHasNone W T K
open_has_none W T K old new before behind from to changes did only j t agrees e (inl had) = had_else K old new before behind from to changes did only j t agrees.owned e had
open_has_none W T K old new before behind from to changes did only j t agrees e (inr has) = has_else K old new before behind from to changes did only j t agrees.owned e has
