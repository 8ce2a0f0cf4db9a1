-- What is kept where a bind or a connect is struck, and where the root is asked.
use Rattle.std.specs.Prelude.{◌≡◌, ◌≢◌, ◌<◌, ◌==◌, ◌&&◌, ℕ, zero, suc, Bool, true, false, not, List, [], ◌∷◌, ◌++◌, find, Option, Some, None, All, length, slice_index_or, if◌then◌else◌, refl}
use Rattle.std.proofs.Common.{arith, sym, ap, ◌∙◌, subst, inl, inr}
use Rattle.std.proofs.lemmas.List.{get_or-set_other}
use Rattle.std.proofs.lemmas.Bool.{eqb-true}
use Rattle.zq_base.specs.declared.endpoint.Endpoint.{Endpoint}
use Rattle.zq_base.specs.declared.ids.EndId.{EndId}
use Rattle.spec_control.specs.declared.book.Binding.{Binding}
use Rattle.spec_control.specs.declared.book.Waiting.{Waiting}
use Rattle.spec_control.specs.EndpointBook.{is_endpoint, is_connect_of, without_first}
use Rattle.spec_control.specs.Register.{Register, without_holder, waiting_now}
use Rattle.spec_control.specs.Hold.{Hold, Bound, Waits, Joined}
use Rattle.spec_control.specs.declared.end.Reason.TheVariants.{Closed}
use Rattle.spec_control.specs.declared.request.Req.TheVariants.{AskTerm}
use Rattle.spec_control.specs.declared.letter.Word.TheVariants.{Term, Stop}
use Rattle.spec_control.specs.declared.stage.Stage.{Stage}
use Rattle.spec_control.specs.declared.stage.Stage.TheVariants.{Alive, Told, Ending, Finished, Cleared}
use Rattle.spec_control.specs.declared.stage.Use.{Use}
use Rattle.spec_control.specs.declared.stage.Use.TheVariants.{Unused, OnItsWay, Used}
use Rattle.spec_control.specs.Stage.{is_alive, is_told, is_finished, was_asked, is_coming, is_unused, is_used}
use Rattle.spec_control.specs.Place.{is_away, was_ended}
use Rattle.spec_control.specs.Row.{Row, nobody, is_socket, is_unowned, socket_fits, root_fits, reads_on, IsTold, RootAsked, StopPut, link_may, link_after}
use Rattle.spec_control.specs.Rows.{PairRow, no_pair, obj, pair, with_object, end_place, end_owner, is_owner}
use Rattle.spec_control.specs.Control.{Control, with_value, with_end, id, end_of, place_of, owner_of, put, link, stop_sockets, ask}
use Rattle.spec_control.specs.After.{Answers, owner_or_root, requested, tell_struck, strike_end, strikes, strikes_first}
use Rattle.control_laws.specs.Mail.{StopSign}
use Rattle.control_laws.specs.Kept.{IsUnasked, NamesAreOpen, KeptBut, Kept}
use Rattle.control_laws.proofs.ListLemmas.{never, clash, left, right, and}
use Rattle.control_laws.proofs.LinkLemmas.{at_owner, at_root, at_socket, root_is}
use Rattle.control_laws.proofs.ClosedLemmas.{Inv, none_is_some}
use Rattle.control_laws.proofs.QuietLemmas.{socket_owner}
use Rattle.control_laws.proofs.FrontLemmas.{up_list, down_list}
use Rattle.control_laws.proofs.StepLemmas.{inv_of, link_there, rows_link}
use Rattle.control_laws.proofs.PutLemmas.{rows_queues, object_now, object_put_down}
use Rattle.control_laws.proofs.TellLemmas.{rows_of, kept_of, names_same, link_kept, stays_there, tell_where_kept}
use Rattle.control_laws.proofs.HearLemmas.{ask_kept}
use Rattle.control_laws.proofs.AskLemmas.{ask_leaves}
use Rattle.control_laws.proofs.EndLemmas.{kept_but, kept_unasked, try_end_kept}
use Rattle.control_laws.proofs.ChildLemmas.{not_own}

-- ---- a bind or a connect is struck
without_held : (at other : Endpoint) (b : Option Binding) (x : Binding) → (if is_endpoint other at then None else b) ≡ Some x → b ≡ Some x
without_held at other b x h = by (is_endpoint other at) h
  where
    no : None ≡ Some x → ⊥
    no e = Prim.grind arith

    by : (t : Bool) → (if t then None else b) ≡ Some x → b ≡ Some x
    by true e = absurd (no e)
    by false e = e

all_but_first : {X : Type 0} (P : X → Type 0) (test : X → Bool) (xs : List X) → All P xs → All P (without_first test xs)
all_but_first P test [] all = all
all_but_first P test (x ∷ xs) all = by (test x) (all_but_first P test xs (λ k d within. all (suc k) d (omega (arith, within))))
  where
    by : (t : Bool) → All P (without_first test xs) → All P (if t then xs else x ∷ without_first test xs)
    by true rest = λ k d within. all (suc k) d (omega (arith, within))
    by false rest = head rest
      where
        head : All P (without_first test xs) → All P (x ∷ without_first test xs)
        head rest zero d within = all zero x (omega arith)
        head rest (suc k) d within = rest k d (omega (arith, within))

-- only names and holds change
pub but_names : (b : ℕ) (c : Control) (names : Register) (holds : ℕ → List Hold) → KeptBut b c → NamesAreOpen c.rows names → KeptBut b (record c { names = names; holds = holds })
but_names b c names holds k n = record { reached = k.reached; shape = k.shape; prompt = k.prompt; delivered = k.delivered; listed = k.listed; names = n; pairs = k.pairs }

-- what a strike leaves of the socket that strikes: its row
pub record StrikeLeaves (i : ℕ) (c d : Control) : Type 0 where
  pub row : obj d.rows i ≡ obj c.rows i

pub owned_by : (i : ℕ) (w : Option ℕ) → is_owner i w ≡ true → w ≡ Some i
owned_by i None e = absurd (never e)
owned_by i (Some w) e = ap (λ (n : ℕ). Some n) (eqb-true w i e)

tell_struck_kept : (i : ℕ) (child : Option ℕ) (c : Control) → KeptBut i c → KeptBut i (tell_struck i child c) × (obj (tell_struck i child c).rows i ≡ obj c.rows i)
tell_struck_kept i None c k = (k, refl)
tell_struck_kept i (Some child) c k =
    (tell_where_kept i (is_owner i (obj c.rows child).owner) child c k (λ e. owned_by i (obj c.rows child).owner e), by (is_owner i (obj c.rows child).owner && link_may IsTold (obj c.rows child)) refl)
  where
    by : (x : Bool) → (is_owner i (obj c.rows child).owner && link_may IsTold (obj c.rows child)) ≡ x → obj (if x then put child Term (link IsTold child c) else c).rows i ≡ obj c.rows i
    by true e =
        let other = not_own c.rows child i (inv_of (rows_of k)) k.shape (owned_by i (obj c.rows child).owner (left _ _ e)) in
        get_or-set_other c.rows.objects child i (link_after IsTold (obj c.rows child)) nobody (λ same. other (sym same))
    by false e = refl

strike_end_kept : (i : ℕ) (e : EndId) (c : Control) → KeptBut i c → KeptBut i (strike_end i e c) × (obj (strike_end i e c).rows i ≡ obj c.rows i)
strike_end_kept i e c k = by (is_away (place_of c e)) (owner_of c e == i) refl
  where
    struck_now : KeptBut i (record c { struck = with_end e true c.struck })
    struck_now = record { reached = k.reached; shape = k.shape; prompt = k.prompt; delivered = k.delivered; listed = k.listed; names = k.names; pairs = k.pairs }

    by : (x y : Bool) → (owner_of c e == i) ≡ y →
        KeptBut i (if x then record c { struck = with_end e true c.struck } else (if y then ask Closed false e c else c)) ×
        (obj (if x then record c { struck = with_end e true c.struck } else (if y then ask Closed false e c else c)).rows i ≡ obj c.rows i)
    by true y h = (struck_now, refl)
    by false true h = (ask_kept i Closed false e c k (eqb-true (owner_of c e) i h), ap (λ (l : List Row). slice_index_or l i nobody) (ask_leaves Closed false true (λ g. refl) e c).0.objects)
    by false false h = (k, refl)

pub strikes_kept : (c : Control) (i : ℕ) (to : Endpoint) (test : Hold → Bool) → Kept c → was_asked (obj c.rows i).stage ≡ false → Kept (strikes_first i to test c)
strikes_kept c i to test kept unasked =
    let d = record c { holds = with_value i (without_first test (c.holds i)) c.holds } in
    let so = by (find test (c.holds i)) in
    kept_unasked i (strikes_first i to test c) so.0 (ap (λ (o : Row). was_asked o.stage) so.1 ∙ unasked)
  where
    start : KeptBut i (record c { holds = with_value i (without_first test (c.holds i)) c.holds })
    start = but_names i c c.names (with_value i (without_first test (c.holds i)) c.holds) (kept_but i c kept) kept.names

    by : (hold : Option Hold) → KeptBut i (strikes i to hold (record c { holds = with_value i (without_first test (c.holds i)) c.holds })) × (obj (strikes i to hold (record c { holds = with_value i (without_first test (c.holds i)) c.holds })).rows i ≡ obj c.rows i)
    by None = (start, refl)
    by (Some (Bound at listener)) =
        tell_struck_kept i listener (record c { holds = with_value i (without_first test (c.holds i)) c.holds; names = without_holder to c.names })
        (but_names i c (without_holder to c.names) (with_value i (without_first test (c.holds i)) c.holds) (kept_but i c kept)
        (record { holders = λ other binding is. kept.names.holders other binding (without_held to other (c.names.held other) binding is); waiters = kept.names.waiters }))
    by (Some (Waits at)) = (
      but_names i c (waiting_now (without_first (is_connect_of (id i) to) c.names.waiting) c.names) (with_value i (without_first test (c.holds i)) c.holds) (kept_but i c kept)
          (record { holders = kept.names.holders; waiters = all_but_first (λ (w : Waiting). IsUnasked c.rows w.waiter.0) (is_connect_of (id i) to) c.names.waiting kept.names.waiters }),
      refl,
    )
    by (Some (Joined at k session)) =
        let s = record c { holds = with_value i (without_first test (c.holds i)) c.holds } in
        let struck = strike_end_kept i (end_of k true) s start in
        let told = tell_struck_kept i session (strike_end i (end_of k true) s) struck.0 in
        (told.0, told.1 ∙ struck.1)

-- ---- the root is asked
stopped_down : (c : ℕ) (p t d : Bool) → t ≡ false → d ≡ false → down_list c p t d ++ record { to = c; sign = StopSign } ∷ [] ≡ down_list c p true d
stopped_down c true false false e f = refl
stopped_down c false false false e f = refl
stopped_down c p true d e f = absurd (never (sym e))
stopped_down c p false true e f = absurd (never (sym f))

pub alive_untold : (s : Stage) → is_alive s ≡ true → is_told s ≡ false
alive_untold Alive h = refl
alive_untold Told h = absurd (never h)
alive_untold Ending h = absurd (never h)
alive_untold Finished h = absurd (never h)
alive_untold Cleared h = absurd (never h)

pub unused_not_coming : (r : Use) → is_unused r ≡ true → is_coming r ≡ false
unused_not_coming Unused h = refl
unused_not_coming OnItsWay h = absurd (never h)
unused_not_coming Used h = absurd (never h)

pub stop_sockets_kept : (n : ℕ) (c : Control) → KeptBut 0 c → KeptBut 0 (stop_sockets n c) × ((stop_sockets n c).rows.pairs ≡ c.rows.pairs) × (obj (stop_sockets n c).rows 0 ≡ obj c.rows 0)
stop_sockets_kept zero c k = (k, refl, refl)
stop_sockets_kept (suc n) c k =
    let before = stop_sockets_kept n c k in
    let one = by n (stop_sockets n c) before.0 (link_may StopPut (obj (stop_sockets n c).rows n)) refl in
    (one.0, one.1 ∙ before.1, one.2 ∙ before.2)
  where
    by : (n : ℕ) (d : Control) → KeptBut 0 d → (x : Bool) → link_may StopPut (obj d.rows n) ≡ x →
        KeptBut 0 (if x then put n Stop (link StopPut n d) else d) × ((if x then put n Stop (link StopPut n d) else d).rows.pairs ≡ d.rows.pairs) × (obj (if x then put n Stop (link StopPut n d) else d).rows 0 ≡ obj d.rows 0)
    by n d k false e = (k, refl, refl)
    by n d k true e =
        let o = obj d.rows n in
        let fits = inv_of (rows_of k) in
        let socket = left _ _ (right (is_unused o.request) _ (right (is_unused o.stop) _ e)) in
        let alive = right (is_socket o.kind) _ (right (is_unused o.request) _ (right (is_unused o.stop) _ e)) in
        let owner = socket_owner o.kind o.owner (at_owner o (fits.fits n)) socket in
        let there = link_there d.rows n StopPut fits e in (
          link_kept 0 d StopPut n _ k e owner refl
              (object_put_down d.rows n (link_after StopPut o) _ _ _ d.boxes (record { to = id n; word = Stop }) (record { to = n; sign = StopSign }) (stays_there d.rows n StopPut there) (rows_queues d.rows n) k.delivered (λ link. refl) refl
              (stopped_down n o.plugged (is_coming o.stop) (is_told o.stage) (unused_not_coming o.stop (left _ _ e)) (alive_untold o.stage alive))),
          refl,
          get_or-set_other d.rows.objects n 0 (link_after StopPut o) nobody (λ same. none_is_some 0 (sym k.shape.root ∙ subst (λ (j : ℕ). (obj d.rows j).owner ≡ Some 0) (sym same) owner)),
        )

pub ask_term_kept : (c : Control) (h : Answers) → Kept c → is_alive (obj c.rows 0).stage ≡ true → Kept (requested AskTerm h c)
ask_term_kept c h kept alive =
    let stopped = stop_sockets_kept (length c.rows.objects) (link RootAsked 0 c) asked in
    try_end_kept 0 h.left (stop_sockets (length c.rows.objects) (link RootAsked 0 c)) stopped.0
    (record { ends = ends (stop_sockets (length c.rows.objects) (link RootAsked 0 c)) stopped.0; children = λ d below. absurd (below refl) })
  where
    fits : Inv c.rows
    fits = inv_of (rows_of (kept_but 0 c kept))

    unowned : is_unowned (obj c.rows 0).owner ≡ true
    unowned = ap is_unowned kept.shape.root

    known : ((obj c.rows 0).noted && ((obj c.rows 0).plugged && is_used (obj c.rows 0).request)) ≡ true
    known = by (is_unowned (obj c.rows 0).owner) unowned (at_root (obj c.rows 0) (fits.fits 0))
      where
        by : (u : Bool) → u ≡ true → root_fits u ((obj c.rows 0).noted && ((obj c.rows 0).plugged && is_used (obj c.rows 0).request)) ≡ true → ((obj c.rows 0).noted && ((obj c.rows 0).plugged && is_used (obj c.rows 0).request)) ≡ true
        by true e g = g
        by false e g = absurd (never e)

    no_stop : is_unused (obj c.rows 0).stop ≡ true
    no_stop = by (is_socket (obj c.rows 0).kind) (root_is (obj c.rows 0).kind (obj c.rows 0).owner (at_owner (obj c.rows 0) (fits.fits 0)) unowned) (at_socket (obj c.rows 0) (fits.fits 0))
      where
        by : (k : Bool) → k ≡ false → socket_fits k (is_alive (obj c.rows 0).stage) (is_used (obj c.rows 0).request) (is_unused (obj c.rows 0).stop) ≡ true → is_unused (obj c.rows 0).stop ≡ true
        by false e g = g
        by true e g = absurd (never (sym e))

    may : link_may RootAsked (obj c.rows 0) ≡ true
    may = and _ _ alive (and _ _ unowned (and _ _ (left _ _ (right (obj c.rows 0).noted _ known)) (ap not (unused_not_coming (obj c.rows 0).stop no_stop))))

    there : 0 < length c.rows.objects
    there = link_there c.rows 0 RootAsked fits may

    asked : KeptBut 0 (link RootAsked 0 c)
    asked = kept_of 0 (link RootAsked 0 c) (rows_link 0 c.rows c.output_left 0 RootAsked (rows_of (kept_but 0 c kept)) may (refl, kept.shape.root))
        (object_now c.rows 0 (link_after RootAsked (obj c.rows 0)) _ _ _ c.boxes (stays_there c.rows 0 RootAsked there) (rows_queues c.rows 0) kept.delivered
        (alive_up (is_socket (obj c.rows 0).kind) (owner_or_root (obj c.rows 0).owner) (obj c.rows 0).noted (is_coming (obj c.rows 0).request) (not (is_unowned (obj c.rows 0).owner)) (obj c.rows 0).stage alive)
        (ap (down_list 0 (obj c.rows 0).plugged (is_coming (obj c.rows 0).stop)) (alive_untold (obj c.rows 0).stage alive)))
        kept.listed
        (names_same c.rows _ c.names unasked kept.names)
      where
        alive_up : (k : Bool) (w : ℕ) (n c u : Bool) (s : Stage) → is_alive s ≡ true → up_list k w n c (is_finished s && u) ≡ up_list k w n c false
        alive_up k w n c u Alive h = refl
        alive_up k w n c u Told h = absurd (never h)
        alive_up k w n c u Ending h = absurd (never h)
        alive_up k w n c u Finished h = absurd (never h)
        alive_up k w n c u Cleared h = absurd (never h)

        unasked : (i : ℕ) → IsUnasked c.rows i → IsUnasked (with_object 0 (link_after RootAsked (obj c.rows 0)) c.rows) i
        unasked i u =
            let other : i ≢ 0 = (λ same. clash _ (subst (λ (j : ℕ). is_socket (obj c.rows j).kind ≡ true) same u.socket) (root_is (obj c.rows 0).kind (obj c.rows 0).owner (at_owner (obj c.rows 0) (fits.fits 0)) unowned)) in
            let row = get_or-set_other c.rows.objects 0 i (link_after RootAsked (obj c.rows 0)) nobody other in
            record { socket = ap (λ (o : Row). is_socket o.kind) row ∙ u.socket; unasked = ap (λ (o : Row). was_asked o.stage) row ∙ u.unasked }

    -- the root has no ends
    ends : (d : Control) → KeptBut 0 d → (k : ℕ) (a : Bool) → end_owner (pair d.rows k) a ≡ 0 → was_asked (obj d.rows 0).stage ≡ true → was_ended (reads_on (obj d.rows 0)) (end_place (pair d.rows k) a) ≡ true
    ends d keep k a of g =
        elim (keep.shape.ends k a) [
          | inl w ↦ absurd (none_is_some w.0 (sym keep.shape.root ∙ subst (λ (j : ℕ). (obj d.rows j).owner ≡ Some w.0) of w.1))
          | inr none ↦ ap (λ (p : PairRow). was_ended (reads_on (obj d.rows 0)) (end_place p a)) none ∙ gone (reads_on (obj d.rows 0)) a
        ]
      where
        gone : (on x : Bool) → was_ended on (end_place no_pair x) ≡ true
        gone on true = refl
        gone on false = refl
