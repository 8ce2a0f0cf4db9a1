-- The steps past stand with that of a look of the reaper's, which is at no open socket's end.
use Rattle.std.specs.Prelude.{◌≡◌, ◌<◌, ◌++◌, ◌∷◌, [], ℕ, Bool, true, false, List, Option, None, Some, if◌then◌else◌, refl}
use Rattle.std.proofs.Common.{sym, ap, ◌∙◌, subst}
use Rattle.zq_base.specs.Ends.{PipeId}
use Rattle.zq_base.specs.declared.ids.EndId.{EndId}
use Rattle.spec_pattern.specs.PipeStep.{PipeStep, read_through}
use Rattle.spec_control.specs.declared.entry.Item.{Item}
use Rattle.spec_control.specs.Stage.{is_used}
use Rattle.spec_control.specs.Place.{is_here}
use Rattle.spec_control.specs.Row.{is_socket}
use Rattle.spec_control.specs.Rows.{obj}
use Rattle.spec_control.specs.Control.{Control, begun, next_pair, owner_of, place_of}
use Rattle.spec_control.specs.ControlRun.{after_all}
use Rattle.spec_control.specs.Names.{name_of}
use Rattle.spec_run.specs.OwnedRun.{settlement_of, AreCountedBy}
use Rattle.run_laws.specs.CapacitiesStay.{pipe_at}
use Rattle.control_laws.proofs.ListLemmas.{never, right}
use Rattle.spec_control.specs.Held.{items_by}
use Rattle.spec_control.specs.Has.{has_after}
use Rattle.spec_control.specs.OwnAsks.{known_after}
use Rattle.control_laws.proofs.MomentLemmas.{own_moments}
use Rattle.msg_pipe.specs.Known.{Known}
use Rattle.msg_pipe.specs.Told.{front_step}
use Rattle.msg_pipe.specs.declared.pipes.Front.{Front}
use Rattle.msg_pipe.specs.declared.pipes.Front.TheVariants.{Message, Empty, Delimiter}
use Rattle.ctl_moves.proofs.HeldLemmas.{other_twice}
use Rattle.desk.specs.declared.given.Given.{Given}
use Rattle.ctl_plane.specs.Past.{control_of}
use Rattle.socket_laws.specs.Sides.{is_shut, step_end, IsDoneAt}
use Rattle.socket_laws.proofs.CountedLemmas.{counts_go_on}
use Rattle.socket_laws.specs.Standing.{open_by, opens_in, PastStands}
use Rattle.socket_laws.specs.Settled.{PipesAreSettled}
use Rattle.socket_laws.proofs.OfPipesLemmas.{here_not_gone}
use Rattle.closed_ends.specs.declared.sockets.ClosedSockets.{ClosedSockets}
use Rattle.closed_ends.specs.Has.{all_ends, holding_in}
use Rattle.core_laws.specs.Looks.{ReaperLooksGoOn}
use Rattle.plain_desk.specs.Lent.{IsOneOrder, Lent}
use Rattle.socket_laws.proofs.SocketLemmas.{is_in}
use Rattle.core_laws.specs.Calls.{for_caller}
use Rattle.core_laws.proofs.SilentLemmas.{one_order_of}
use Rattle.core_laws.specs.ReapedCall.{IsReapersCall}
use Rattle.core_laws.specs.ReapedComing.{HasOnlyTaken}
use Rattle.core_laws.proofs.HadLemmas.{had_by, sockets_had}
use Rattle.core_laws.proofs.LedLemmas.{is_still, IsStill}
use Rattle.core_laws.specs.Looked.{LooksAreShut, LooksStand, ReaperLooked}
use Rattle.core_laws.proofs.LookLemmas.{at_end, is_among, looked}
use Rattle.plain_desk.specs.Reaping.{is_taken}
use Rattle.core_laws.proofs.OnlyLemmas.{still_taken}
use Rattle.core_laws.proofs.ReapedLemmas.{of_one}

front_at : (p : PipeId) (found : Front) → pipe_at (front_step p found) ≡ p
front_at p Message = refl
front_at p Empty = refl
front_at p Delimiter = refl

front_end : (e : EndId) (found : Front) → step_end (front_step (read_through e) found) ≡ e
front_end e Message = other_twice e
front_end e Empty = other_twice e
front_end e Delimiter = other_twice e

module _ {S O I N T : Type 0} (K : Known S O I N) (d : Lent (Given N O I) N T) (before behind : S) (from : ClosedSockets N O I) (l : ReaperLooked K d before behind from) where
  order : IsOneOrder d
  order = l.order

  module _ (settled : PipesAreSettled N T) where
    unsettled : settlement_of (control_of d.past) (read_through l.end) ≡ None
    unsettled =
        let run = order.order in
        subst (λ (c : Control). settlement_of c (read_through l.end) ≡ None) (sym order.control)
        (settled.read d.past.workers d.items run.run l.end
        (here_not_gone (place_of (after_all d.items (begun d.past.workers)) l.end) (subst (λ (c : Control). is_here (place_of c l.end) ≡ true) order.control (at_end K d before behind from l).here)))

    past_on : ReaperLooksGoOn K → (past : List PipeStep) → PastStands K (control_of d.past) (name_of d.items) before past → PastStands K (control_of d.past) (name_of d.items) behind (past ++ front_step (read_through l.end) l.found ∷ [])
    past_on go past stands =
        go (control_of d.past) (name_of d.items) l.names.made before behind past l.object l.end l.found (holding_in K.out_name K.in_name from)
        ((at_end K d before behind from l).named ∙ sym (looked K d before behind from l).reads) unsettled (looked K d before behind from l) stands

    counted_on : (past : List PipeStep) → AreCountedBy past (control_of d.past).settlements → AreCountedBy (past ++ front_step (read_through l.end) l.found ∷ []) (control_of d.past).settlements
    counted_on past counted =
        counts_go_on.steps (control_of d.past) past (front_step (read_through l.end) l.found ∷ []) counted
        (ap (settlement_of (control_of d.past)) (front_at (read_through l.end) l.found) ∙ unsettled, tt)

  module _ (new : Lent (Given N O I) N T) (call : IsReapersCall d new) (only : HasOnlyTaken d.caller d) where
    still : IsStill d new call l.end (at_end K d before behind from l).here
    still = is_still d new call l.end (at_end K d before behind from l).here

    -- its socket is the reaper's
    had : has_after (owner_of (control_of d.past) l.end) d.items ≡ Some d.caller
    had =
        of_one (λ x. has_after (owner_of (control_of d.past) x) d.items ≡ Some d.caller) l.end (all_ends from.sockets.items)
        (λ k g lt. had_by d order (holding_in K.out_name K.in_name from) l.has _ (sockets_had K d order before from l.sound l.has k g lt)) (is_among K d before behind from l)

    taken : is_taken (obj (control_of new.past).rows (owner_of (control_of new.past) l.end)) ≡ true
    taken =
        ap (λ (i : ℕ). is_taken (obj (control_of new.past).rows i)) still.own
        ∙ still_taken d new order call.behind call.grows d.caller only (owner_of (control_of d.past) l.end) had

    shut : is_shut (opens_in new.items (owner_of (control_of new.past) l.end)) ≡ true
    shut = by (has_after (owner_of (control_of new.past) l.end) new.items)
      where
        open_to : (k : ℕ) → (known_after (owner_of (control_of new.past) l.end) (items_by k new.items)).open_socket ≡ true → ⊥
        open_to k known =
            let is = is_in (for_caller k new) (one_order_of k new call.behind) (owner_of (control_of new.past) l.end) (ap (λ (xs : List (Item N T)). (known_after (owner_of (control_of new.past) l.end) xs).open_socket) (own_moments k new.items (begun new.past.workers)) ∙ known) in
            let open_now = is.open_now in
            never (sym (ap is_used open_now.open_still) ∙ right (is_socket (obj (control_of new.past).rows (owner_of (control_of new.past) l.end)).kind) _ taken)

        if_open : (k : ℕ) (b : Bool) → (known_after (owner_of (control_of new.past) l.end) (items_by k new.items)).open_socket ≡ b → is_shut (if b then Some k else None) ≡ true
        if_open k true is = absurd (open_to k is)
        if_open k false is = refl

        by : (h : Option ℕ) → is_shut (open_by h (owner_of (control_of new.past) l.end) new.items) ≡ true
        by None = refl
        by (Some k) = if_open k (known_after (owner_of (control_of new.past) l.end) (items_by k new.items)).open_socket refl

    pub is_shut_at : IsDoneAt (control_of new.past) (λ i. is_shut (opens_in new.items i) ≡ true) (front_step (read_through l.end) l.found)
    is_shut_at = record {
      made = subst (λ (e : EndId). e.pair.0 < next_pair (control_of new.past)) (sym (front_end l.end l.found)) still.numbered;
      owner = λ other. subst (λ (e : EndId). is_shut (opens_in new.items (owner_of (control_of new.past) e)) ≡ true) (sym (front_end l.end l.found)) shut;
    }

pub looks_stand : {S O I N : Type 0} (K : Known S O I N) (T : Type 0) → ReaperLooksGoOn K → PipesAreSettled N T → LooksStand K T
looks_stand K T go settled = record {
  past = λ d before behind from l past stands. past_on K d before behind from l settled go past stands;
  counted = λ d before behind from l past counted. counted_on K d before behind from l settled past counted;
}

pub looks_are_shut : {S O I N : Type 0} (K : Known S O I N) (T : Type 0) → LooksAreShut K T
looks_are_shut K T d new before behind from l call only = is_shut_at K d before behind from l new call only
