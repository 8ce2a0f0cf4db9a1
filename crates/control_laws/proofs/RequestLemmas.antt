-- What is kept where an object asks to end, and where a session asks its end.
use Rattle.std.specs.Prelude.{◌≡◌, ◌≢◌, ◌<◌, ◌&&◌, ℕ, Bool, true, false, not, cond, List, [], ◌∷◌, ◌++◌, Option, Some, length, slice_index_or, refl}
use Rattle.std.proofs.Common.{arith, sym, ap, ◌∙◌, subst}
use Rattle.std.proofs.lemmas.List.{get_or-set_same}
use Rattle.zq_base.specs.declared.ids.EndId.{EndId}
use Rattle.zq_base.specs.declared.ids.ObjId.{ObjId}
use Rattle.spec_control.specs.declared.end.Reason.{Reason}
use Rattle.spec_control.specs.declared.end.Reason.TheVariants.{Closed, BadId, Second, Linger, Link as LinkOver}
use Rattle.spec_control.specs.declared.request.Req.TheVariants.{Close, AskEnd, AskOver, OutputOver}
use Rattle.spec_control.specs.declared.letter.Letter.{Letter}
use Rattle.spec_control.specs.declared.letter.Word.TheVariants.{Reap, TermReq}
use Rattle.spec_control.specs.declared.stage.Stage.{Stage}
use Rattle.spec_control.specs.declared.stage.Stage.TheVariants.{Alive, Told, Ending, Finished, Cleared}
use Rattle.spec_control.specs.declared.stage.Use.{Use}
use Rattle.spec_control.specs.declared.stage.Use.TheVariants.{Unused}
use Rattle.spec_control.specs.Stage.{is_alive, is_finished, has_ended, was_asked, is_coming, is_unused, is_used}
use Rattle.spec_control.specs.Place.{was_ended}
use Rattle.spec_control.specs.Row.{Row, nobody, is_socket, is_unowned, socket_fits, reads_on, LinkEvent, AsksOver, AsksForLink, AsksForLinger, link_may, link_after}
use Rattle.spec_control.specs.Rows.{Rows, obj, pair, with_object, end_place, end_owner, end_half, is_owner, of_child, own_waits, ack_at, ack_waits, lives_noted, behind, owed, living}
use Rattle.spec_control.specs.Control.{Control, with_value, id, end_of, owner_of, link, ask}
use Rattle.spec_control.specs.After.{Answers, owner_or_root, requested, uses_reason}
use Rattle.spec_control.specs.ControlRun.{IsOpenSocket, MayGive, MayAskEnd, MayAskOver}
use Rattle.control_laws.specs.Prompt.{IsOf}
use Rattle.control_laws.specs.Mail.{RequestSign, ReapSign, Link, UpLink, is_link, marks, up_marks, down_marks}
use Rattle.control_laws.specs.Kept.{KeptBut, Kept}
use Rattle.control_laws.proofs.ListLemmas.{never, clash, and}
use Rattle.control_laws.proofs.LinkLemmas.{at_owner, at_socket}
use Rattle.control_laws.proofs.ClosedLemmas.{Inv}
use Rattle.control_laws.proofs.QuietLemmas.{socket_owner}
use Rattle.control_laws.proofs.OthersLemmas.{sum_same, reads_same}
use Rattle.control_laws.proofs.FrontLemmas.{up_list}
use Rattle.control_laws.proofs.StepLemmas.{inv_of, link_there, same_owner}
use Rattle.control_laws.proofs.PutLemmas.{rows_queues, object_now, object_put_up}
use Rattle.control_laws.proofs.TellLemmas.{rows_of, asks_nobody, link_kept, stays_there}
use Rattle.control_laws.proofs.HearLemmas.{ask_kept}
use Rattle.control_laws.proofs.EndLemmas.{AtOnce, at_once, kept_but, kept_at, kept_unasked, end_keeps, try_end_kept}
use Rattle.control_laws.proofs.ChildLemmas.{at_once_self, not_own}
use Rattle.control_laws.proofs.EndCommandLemmas.{here_not_past}
use Rattle.control_laws.proofs.AttachLemmas.{Greets, asks_so}

-- ---- an object asks to end, or is closed
pub unused_facts : (r : Use) → r ≡ Unused → (is_unused r ≡ true) × (is_used r ≡ false) × (is_coming r ≡ false)
unused_facts r e = (ap is_unused e, ap is_used e, ap is_coming e)

unended_unfinished : (s : Stage) → has_ended s ≡ false → is_finished s ≡ false
unended_unfinished Alive h = refl
unended_unfinished Told h = refl
unended_unfinished Ending h = refl
unended_unfinished Finished h = absurd (never (sym h))
unended_unfinished Cleared h = absurd (never (sym h))

asked_more : (k : Bool) (w : ℕ) (n c g : Bool) → c ≡ false → g ≡ false → up_list k w n c g ++ record { to = w; sign = cond k ReapSign RequestSign } ∷ [] ≡ up_list k w n true g
asked_more k w true false false e f = refl
asked_more k w false false false e f = refl
asked_more k w n true g e f = absurd (never (sym e))
asked_more k w n false true e f = absurd (never (sym f))

open_alive : (k a u t : Bool) → socket_fits k a u t ≡ true → k ≡ true → u ≡ false → a ≡ true
open_alive true true u t h e f = refl
open_alive true false u t h e f = absurd (clash u h f)
open_alive false a u t h e f = absurd (never e)

alive_unasked : (s : Stage) → is_alive s ≡ true → was_asked s ≡ false
alive_unasked Alive h = refl
alive_unasked Told h = absurd (never h)
alive_unasked Ending h = absurd (never h)
alive_unasked Finished h = absurd (never h)
alive_unasked Cleared h = absurd (never h)

-- an open socket was not asked
pub open_unasked : (c : Control) (i : ℕ) → Kept c → IsOpenSocket (obj c.rows i) → (is_alive (obj c.rows i).stage ≡ true) × (was_asked (obj c.rows i).stage ≡ false)
open_unasked c i kept open_so =
    let o = obj c.rows i in
    let fits = inv_of (rows_of (kept_but i c kept)) in
    let alive = open_alive (is_socket o.kind) (is_alive o.stage) (is_used o.request) (is_unused o.stop) (at_socket o (fits.fits i)) open_so.socket (unused_facts o.request open_so.open_still).1 in
    (alive, alive_unasked o.stage alive)

-- a request of an object about itself is put
over_kept : (c : Control) (i w : ℕ) (l : Letter) → Kept c → (obj c.rows i).request ≡ Unused → has_ended (obj c.rows i).stage ≡ false → owner_or_root (obj c.rows i).owner ≡ w →
    l ≡ record { to = id w; word = cond (is_socket (obj c.rows i).kind) (Reap (id i)) (TermReq (id i)) } →
    let d = link AsksOver i c in let slot = (obj d.rows w).slot in KeptBut i (record d { boxes = with_value slot (c.boxes slot ++ l ∷ []) c.boxes })
over_kept c i w l kept unused lives owner is =
    let o = obj c.rows i in
    let f = unused_facts o.request unused in
    let may = and _ _ f.0 (ap not lives) in
    let there = link_there c.rows i AsksOver (inv_of (rows_of (kept_but i c kept))) may in
    link_kept i c AsksOver i _ (kept_but i c kept) may refl refl
    (object_put_up c.rows i (link_after AsksOver o) _ _ _ c.boxes l (record { to = w; sign = cond (is_socket o.kind) ReapSign RequestSign }) w (stays_there c.rows i AsksOver there) (rows_queues c.rows i) kept.delivered
    (λ link. ap (marks link) is ∙ by link (is_socket o.kind))
    (ap (λ (v : ℕ). up_marks o ++ record { to = v; sign = cond (is_socket o.kind) ReapSign RequestSign } ∷ []) (sym owner)
    ∙ asked_more (is_socket o.kind) (owner_or_root o.owner) o.noted (is_coming o.request) (is_finished o.stage && not (is_unowned o.owner)) f.2 (ap (λ (b : Bool). b && not (is_unowned o.owner)) (unended_unfinished o.stage lives)))
    refl owner)
  where
    by : (link : Link) (k : Bool) → marks link (record { to = id w; word = cond k (Reap (id i)) (TermReq (id i)) }) ≡ cond (is_link link (UpLink i)) (record { to = w; sign = cond k ReapSign RequestSign } ∷ []) []
    by link true = refl
    by link false = refl

pub close_kept : (c : Control) (o : ObjId) (h : Answers) → Kept c → IsOpenSocket (obj c.rows o.0) → Kept (requested (Close o) h c)
close_kept c o h kept open_so = kept_unasked o.0 (requested (Close o) h c) all (ap (λ (r : Row). was_asked r.stage) row ∙ (open_unasked c o.0 kept open_so).1)
  where
    fits : Inv c.rows
    fits = inv_of (rows_of (kept_but o.0 c kept))

    owner : owner_or_root (obj c.rows o.0).owner ≡ 0
    owner = ap owner_or_root (socket_owner (obj c.rows o.0).kind (obj c.rows o.0).owner (at_owner (obj c.rows o.0) (fits.fits o.0)) open_so.socket)

    closed_now : Kept (record c { closed = c.closed ++ o ∷ [] })
    closed_now = record { reached = kept.reached; shape = kept.shape; prompt = kept.prompt; delivered = kept.delivered; listed = kept.listed; names = kept.names; pairs = kept.pairs }

    all : KeptBut o.0 (requested (Close o) h c)
    all = over_kept (record c { closed = c.closed ++ o ∷ [] }) o.0 0 (record { to = id 0; word = Reap o }) closed_now open_so.open_still open_so.lives owner
        (ap (λ (k : Bool). record { to = id 0; word = cond k (Reap o) (TermReq o) }) (sym open_so.socket))

    row : obj (with_object o.0 (link_after AsksOver (obj c.rows o.0)) c.rows) o.0 ≡ link_after AsksOver (obj c.rows o.0)
    row = get_or-set_same c.rows.objects o.0 (link_after AsksOver (obj c.rows o.0)) nobody
        (link_there c.rows o.0 AsksOver fits (and _ _ (unused_facts (obj c.rows o.0).request open_so.open_still).0 (ap not open_so.lives)))

-- a row of the same owner, Own, Plug and stage counts the same
ended_still : (c d : Control) (b : ℕ) (n : Row) → Kept c → d.rows ≡ with_object b n c.rows → d.output_left ≡ c.output_left → b < length c.rows.objects →
    n.owner ≡ (obj c.rows b).owner → n.noted ≡ (obj c.rows b).noted → n.plugged ≡ (obj c.rows b).plugged → n.stage ≡ (obj c.rows b).stage →
    (obj d.rows b).stage ≡ Ending → behind d.rows b ≡ 0 → owed d.rows b ≡ 0 → living d.rows b ≡ 0 → d.output_left b ≡ true
ended_still c d b n kept rows out there owner noted plugged stage e x y z =
    ap (λ (f : ℕ → Bool). f b) out
    ∙ kept.prompt.ended b (sym (ap (λ (o : Row). o.stage) row ∙ stage) ∙ subst (λ (r : Rows). (obj r b).stage ≡ Ending) rows e) (behind_is (subst (λ (r : Rows). behind r b ≡ 0) rows x)) (owed_is (subst (λ (r : Rows). owed r b ≡ 0) rows y))
    (sym (sum_same (of_child lives_noted b) c.rows.objects b n nobody there lives) ∙ subst (λ (r : Rows). living r b ≡ 0) rows z)
  where
    row : obj (with_object b n c.rows) b ≡ n
    row = get_or-set_same c.rows.objects b n nobody there

    owns : of_child own_waits b n ≡ of_child own_waits b (obj c.rows b)
    owns = ap (λ (w : Option ℕ). cond (is_owner b w) (cond n.noted 0 1) 0) owner ∙ ap (λ (t : Bool). cond (is_owner b (obj c.rows b).owner) (cond t 0 1) 0) noted

    acks : of_child ack_waits b n ≡ of_child ack_waits b (obj c.rows b)
    acks = ap (λ (w : Option ℕ). cond (is_owner b w) (ack_waits n) 0) owner ∙ ap (λ (t : Stage). cond (is_owner b (obj c.rows b).owner) (ack_at t) 0) stage

    lives : of_child lives_noted b n ≡ of_child lives_noted b (obj c.rows b)
    lives = ap (λ (w : Option ℕ). cond (is_owner b w) (lives_noted n) 0) owner ∙ ap (λ (t : Bool). cond (is_owner b (obj c.rows b).owner) (cond t (cond (has_ended n.stage) 0 1) 0) 0) noted
        ∙ ap (λ (t : Stage). cond (is_owner b (obj c.rows b).owner) (cond (obj c.rows b).noted (cond (has_ended t) 0 1) 0) 0) stage

    behind_is : behind (with_object b n c.rows) b ≡ 0 → behind c.rows b ≡ 0
    behind_is g =
        let sums = sum_same (of_child own_waits b) c.rows.objects b n nobody there owns in
        let plug = ap {B = ℕ} (λ (o : Row). cond o.plugged 0 1) row in
        let plug_was = ap {B = ℕ} (λ (t : Bool). cond t 0 1) plugged in
        omega (arith, sums, plug, plug_was, g)

    owed_is : owed (with_object b n c.rows) b ≡ 0 → owed c.rows b ≡ 0
    owed_is g = let sums = sum_same (of_child ack_waits b) c.rows.objects b n nobody there acks in omega (arith, sums, g)

pub ask_over_kept : (c : Control) (o : ObjId) (h : Answers) → Kept c → MayAskOver (obj c.rows o.0) → Kept (requested (AskOver o) h c)
ask_over_kept c o h kept may_ask =
    kept_at o.0 (requested (AskOver o) h c) all
    (at_once_self o.0 c.rows (link_after AsksOver (obj c.rows o.0)) there (λ g. g) refl (λ mine. not_own c.rows o.0 o.0 fits kept.shape mine refl) refl (at_once o.0 c.rows c.output_left kept.prompt))
    (ended_still c (requested (AskOver o) h c) o.0 (link_after AsksOver (obj c.rows o.0)) kept refl refl there refl refl refl refl)
  where
    fits : Inv c.rows
    fits = inv_of (rows_of (kept_but o.0 c kept))

    there : o.0 < length c.rows.objects
    there = link_there c.rows o.0 AsksOver fits (and _ _ (unused_facts (obj c.rows o.0).request may_ask.first_time).0 (ap not may_ask.taken_in.lives))

    all : KeptBut o.0 (requested (AskOver o) h c)
    all = over_kept c o.0 (owner_or_root (obj c.rows o.0).owner) (record { to = id (owner_or_root (obj c.rows o.0).owner); word = TermReq o }) kept may_ask.first_time may_ask.taken_in.lives refl
        (ap (λ (k : Bool). record { to = id (owner_or_root (obj c.rows o.0).owner); word = cond k (Reap o) (TermReq o) }) (sym may_ask.no_socket))

pub over_ends_kept : (c : Control) (o : ObjId) (h : Answers) → Kept c → Kept (requested (OutputOver o) h c)
over_ends_kept c o h kept = try_end_kept o.0 h.left c (kept_but o.0 c kept) (at_once o.0 c.rows c.output_left kept.prompt)

-- ---- a session asks its end
marks_same : (c : Control) (i : ℕ) (e : LinkEvent) → Kept c → link_may e (obj c.rows i) ≡ true → IsOf e i (obj c.rows i) i → asks_nobody e ≡ true →
    up_marks (obj c.rows i) ≡ up_marks (link_after e (obj c.rows i)) → down_marks i (obj c.rows i) ≡ down_marks i (link_after e (obj c.rows i)) → KeptBut i (link e i c)
marks_same c i e kept may of nobody_asked up down =
    link_kept i c e i c.boxes (kept_but i c kept) may of nobody_asked
    (object_now c.rows i (link_after e (obj c.rows i)) _ _ _ c.boxes (stays_there c.rows i e (link_there c.rows i e (inv_of (rows_of (kept_but i c kept))) may)) (rows_queues c.rows i) kept.delivered up down)

pub ask_end_kept : (c : Control) (e : EndId) (why : Reason) (h : Answers) → Kept c → MayAskEnd c e why → Kept (requested (AskEnd e why) h c)
ask_end_kept c e why h kept may_ask = by why may_ask.gives
  where
    i : ℕ
    i = owner_of c e

    fits : Inv c.rows
    fits = inv_of (rows_of (kept_but 0 c kept))

    lives : not (has_ended (obj c.rows (owner_of c e)).stage) ≡ true
    lives = ap not may_ask.taken_in.lives

    asks : (ev : LinkEvent) → link_may ev (obj c.rows (owner_of c e)) ≡ true → IsOf ev (owner_of c e) (obj c.rows (owner_of c e)) (owner_of c e) → asks_nobody ev ≡ true →
        up_marks (obj c.rows (owner_of c e)) ≡ up_marks (link_after ev (obj c.rows (owner_of c e))) → down_marks (owner_of c e) (obj c.rows (owner_of c e)) ≡ down_marks (owner_of c e) (link_after ev (obj c.rows (owner_of c e))) →
        was_asked (link_after ev (obj c.rows (owner_of c e))).stage ≡ was_asked (obj c.rows (owner_of c e)).stage → Kept (ask why false e (link ev (owner_of c e) c))
    asks ev may of nobody_asked up down stage =
        kept_at (owner_of c e) (ask why false e (link ev (owner_of c e) c)) all (record { ends = ends; children = children })
        (end_keeps (owner_of c e) (ask why false e (link ev (owner_of c e) c)) e.pair.0 e.a all (g.leaves.owners e)
        (here_not_past (end_half (pair (ask why false e (link ev (owner_of c e) c)).rows e.pair.0) e.a) (g.stays may_ask.there)))
      where
        one : KeptBut (owner_of c e) (link ev (owner_of c e) c)
        one = marks_same c (owner_of c e) ev kept may of nobody_asked up down

        all : KeptBut (owner_of c e) (ask why false e (link ev (owner_of c e) c))
        all = ask_kept (owner_of c e) why false e (link ev (owner_of c e) c) one refl

        there : owner_of c e < length c.rows.objects
        there = link_there c.rows (owner_of c e) ev fits may

        now : AtOnce (owner_of c e) (link ev (owner_of c e) c).rows
        now = at_once_self (owner_of c e) c.rows (link_after ev (obj c.rows (owner_of c e))) there (λ g. sym stage ∙ g) (reads_same ev (obj c.rows (owner_of c e)))
            (λ mine. not_own c.rows (owner_of c e) (owner_of c e) fits kept.shape mine refl) (same_owner ev (obj c.rows (owner_of c e))) (at_once (owner_of c e) c.rows c.output_left kept.prompt)

        g : Greets (reads_on (obj (link ev (owner_of c e) c).rows (owner_of c e))) e (link ev (owner_of c e) c) (ask why false e (link ev (owner_of c e) c))
        g = asks_so (reads_on (obj (link ev (owner_of c e) c).rows (owner_of c e))) why e (link ev (owner_of c e) c)

        row : (j : ℕ) → obj (ask why false e (link ev (owner_of c e) c)).rows j ≡ obj (link ev (owner_of c e) c).rows j
        row j = ap (λ (l : List Row). slice_index_or l j nobody) g.leaves.objects

        ends : (k : ℕ) (a : Bool) → end_owner (pair (ask why false e (link ev (owner_of c e) c)).rows k) a ≡ owner_of c e → was_asked (obj (ask why false e (link ev (owner_of c e) c)).rows (owner_of c e)).stage ≡ true →
            was_ended (reads_on (obj (ask why false e (link ev (owner_of c e) c)).rows (owner_of c e))) (end_place (pair (ask why false e (link ev (owner_of c e) c)).rows k) a) ≡ true
        ends k a mine h =
            ap (λ (o : Row). was_ended (reads_on o) (end_place (pair (ask why false e (link ev (owner_of c e) c)).rows k) a)) (row (owner_of c e))
            ∙ g.leaves.ended (end_of k a) (now.ends k a (sym (g.leaves.owners (end_of k a)) ∙ mine) (sym (ap (λ (o : Row). was_asked o.stage) (row (owner_of c e))) ∙ h))

        children : (j : ℕ) → owner_of c e ≢ 0 → (obj (ask why false e (link ev (owner_of c e) c)).rows j).owner ≡ Some (owner_of c e) → was_asked (obj (ask why false e (link ev (owner_of c e) c)).rows (owner_of c e)).stage ≡ true →
            (obj (ask why false e (link ev (owner_of c e) c)).rows j).noted ≡ true → is_alive (obj (ask why false e (link ev (owner_of c e) c)).rows j).stage ≡ false
        children j below mine h noted =
            ap (λ (o : Row). is_alive o.stage) (row j)
            ∙ now.children j below (sym (ap (λ (o : Row). o.owner) (row j)) ∙ mine) (sym (ap (λ (o : Row). was_asked o.stage) (row (owner_of c e))) ∙ h) (sym (ap (λ (o : Row). o.noted) (row j)) ∙ noted)

    by : (r : Reason) → MayGive r (obj c.rows (owner_of c e)) → Kept (ask why false e (uses_reason r (owner_of c e) c))
    by Closed g = absurd g
    by BadId g = absurd g
    by Second g = absurd g
    by Linger g = asks AsksForLinger (and _ _ (ap not g.1) lives) refl refl refl refl refl
    by LinkOver g = asks AsksForLink (and _ _ (ap not g.1) lives) refl refl refl refl refl
