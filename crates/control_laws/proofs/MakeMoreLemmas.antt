-- What is kept where a listener, an accepted session or a connecting session is made.
use Rattle.std.specs.Prelude.{◌≡◌, ◌≢◌, ◌<◌, ◌&&◌, ℕ, zero, suc, Bool, true, false, List, [], ◌∷◌, ◌++◌, Some, None, length, refl}
use Rattle.std.proofs.Common.{arith, sym, ap, ◌∙◌, subst}
use Rattle.zq_base.specs.declared.endpoint.Address.{Address}
use Rattle.zq_base.specs.declared.endpoint.Endpoint.TheVariants.{Tcp}
use Rattle.spec_control.specs.declared.letter.Word.TheVariants.{Own, Plug}
use Rattle.spec_control.specs.declared.object.ObjKind.{ObjKind}
use Rattle.spec_control.specs.declared.object.ObjKind.TheVariants.{Root, Socket as IsSocket, Listener, Session}
use Rattle.spec_control.specs.Stage.{was_asked}
use Rattle.spec_control.specs.Row.{Row, is_socket, owner_fits, link_fits}
use Rattle.spec_control.specs.Rows.{Rows, obj}
use Rattle.spec_control.specs.Control.{Control, with_value, id}
use Rattle.spec_control.specs.After.{Answers, owner_or_root, listener_row, binding_by, binds}
use Rattle.spec_control.specs.ControlRun.{IsOpenSocket}
use Rattle.control_laws.specs.Mail.{Mark, OwnSign, PlugSign, Link, UpLink, DownLink, up_marks, down_marks, queue, slot_of, Delivers, with_queue}
use Rattle.control_laws.specs.Kept.{IsUnasked, KeptBut, Kept}
use Rattle.control_laws.proofs.ListLemmas.{never}
use Rattle.control_laws.proofs.LinkLemmas.{at_owner}
use Rattle.control_laws.proofs.ClosedLemmas.{Inv, none_is_some}
use Rattle.control_laws.proofs.QuietLemmas.{socket_owner}
use Rattle.control_laws.proofs.MailLemmas.{agree, put_one, with_here, with_else}
use Rattle.control_laws.proofs.StepLemmas.{inv_of, some_object}
use Rattle.control_laws.proofs.TellLemmas.{rows_of}
use Rattle.control_laws.proofs.EndLemmas.{kept_but, kept_unasked}
use Rattle.control_laws.proofs.JoinLemmas.{open_is, named_open, unasked_lives}
use Rattle.control_laws.proofs.MakeLemmas.{IsMade, made, new_row, no_row, old_row, push_slots, push_queue, nothing_yet, push_names, pairs_push}

pub down_not_up : (c d : ℕ) → DownLink c ≢ UpLink d
down_not_up c d e = Prim.grind arith

-- a number that is not 0
pub above_zero : (k : ObjKind) (w : ℕ) → owner_fits k (Some w) ≡ true → is_socket k ≡ false → w ≢ 0
above_zero k zero h e same = by k h e
  where
    by : (k : ObjKind) → owner_fits k (Some 0) ≡ true → is_socket k ≡ false → ⊥
    by Root h e = never h
    by (IsSocket kind) h e = never (sym e)
    by Listener h e = never h
    by Session h e = never h
above_zero k (suc w) h e same = omega (arith, same)

pub not_zero_fits : (w : ℕ) → w ≢ 0 → (owner_fits Listener (Some w) ≡ true) × (owner_fits Session (Some w) ≡ true)
not_zero_fits zero n = absurd (n refl)
not_zero_fits (suc w) n = (refl, refl)

-- ---- a listener
pub listener_kept : (c : Control) (i : ℕ) (address : Address) (h : Answers) → Kept c → IsOpenSocket (obj c.rows i) → Kept (binds i (Tcp address) h c)
listener_kept c i address h kept o =
    kept_unasked i (binds i (Tcp address) h c) all (ap (λ (x : Row). was_asked x.stage) (old_row c.rows (listener_row i c) fits kept.shape some i other) ∙ u.unasked)
  where
    u : IsUnasked c.rows i
    u = open_is c i kept o

    fits : Inv c.rows
    fits = inv_of (rows_of (kept_but i c kept))

    some : 0 < length c.rows.objects
    some = some_object c.rows kept.reached

    owner : (obj c.rows i).owner ≡ Some 0
    owner = socket_owner (obj c.rows i).kind (obj c.rows i).owner (at_owner (obj c.rows i) (fits.fits i)) u.socket

    below : i ≢ 0
    below same = none_is_some 0 (sym kept.shape.root ∙ subst (λ (j : ℕ). (obj c.rows j).owner ≡ Some 0) same owner)

    other : i ≢ length c.rows.objects
    other same = never (sym (ap (λ (j : ℕ). is_socket (obj c.rows j).kind) same ∙ ap (λ (x : Row). is_socket x.kind) (no_row c.rows (listener_row i c) fits kept.shape some)) ∙ u.socket)

    row_fits : link_fits (listener_row i c) ≡ true
    row_fits = ap (λ (b : Bool). b && true) (not_zero_fits i below).0

    so : IsMade i c.rows (listener_row i c) c.output_left
    so = made i c.rows c.output_left i (listener_row i c) (rows_of (kept_but i c kept)) (unasked_lives (obj c.rows i).stage u.unasked) refl refl row_fits (λ n. u.socket) (λ n noted. absurd (never noted))

    t : Rows
    t = record c.rows { objects = c.rows.objects ++ listener_row i c ∷ [] }

    abbrev_n : ℕ
    abbrev_n = length c.rows.objects

    start : Delivers (slot_of (record c.rows { objects = c.rows.objects ++ listener_row i c ∷ [] })) (queue c.rows) c.boxes
    start = push_slots c.rows (listener_row i c) fits kept.shape some c.boxes kept.delivered

    yet : (queue c.rows (UpLink (length c.rows.objects)) ≡ []) × (queue c.rows (DownLink (length c.rows.objects)) ≡ [])
    yet = nothing_yet c.rows (listener_row i c) fits kept.shape some

    slot_is : slot_of (record c.rows { objects = c.rows.objects ++ listener_row i c ∷ [] }) (UpLink (length c.rows.objects)) ≡ (obj (record c.rows { objects = c.rows.objects ++ listener_row i c ∷ [] }) i).slot
    slot_is = ap (λ (x : Row). (obj (record c.rows { objects = c.rows.objects ++ listener_row i c ∷ [] }) (owner_or_root x.owner)).slot) (new_row c.rows (listener_row i c) fits kept.shape some)

    own_put : let slot = (obj (record c.rows { objects = c.rows.objects ++ listener_row i c ∷ [] }) i).slot in
        Delivers (slot_of (record c.rows { objects = c.rows.objects ++ listener_row i c ∷ [] })) (with_queue (UpLink (length c.rows.objects)) (queue c.rows (UpLink (length c.rows.objects)) ++ record { to = i; sign = OwnSign } ∷ []) (queue c.rows))
        (with_value slot (c.boxes slot ++ record { to = id i; word = Own (id (length c.rows.objects)) } ∷ []) c.boxes)
    own_put =
        subst (λ (slot : ℕ). Delivers (slot_of (record c.rows { objects = c.rows.objects ++ listener_row i c ∷ [] })) (with_queue (UpLink (length c.rows.objects)) (queue c.rows (UpLink (length c.rows.objects)) ++ record { to = i; sign = OwnSign } ∷ []) (queue c.rows))
        (with_value slot (c.boxes slot ++ record { to = id i; word = Own (id (length c.rows.objects)) } ∷ []) c.boxes)) slot_is
        (put_one (slot_of (record c.rows { objects = c.rows.objects ++ listener_row i c ∷ [] })) (queue c.rows) c.boxes (record { to = id i; word = Own (id (length c.rows.objects)) }) (UpLink (length c.rows.objects)) (record { to = i; sign = OwnSign }) start (λ link. refl))

    all : KeptBut i (binds i (Tcp address) h c)
    all = record {
      reached = so.reached;
      shape = so.shape;
      prompt = so.prompt;
      delivered = agree _ _ _ _
          (put_one (slot_of (record c.rows { objects = c.rows.objects ++ listener_row i c ∷ [] })) _ _ (record { to = id (length c.rows.objects); word = Plug None }) (DownLink (length c.rows.objects)) (record { to = length c.rows.objects; sign = PlugSign }) own_put (λ link. refl))
          (push_queue c.rows (listener_row i c) fits kept.shape some _ up down rest);
      listed = kept.listed;
      names = push_names c.rows (listener_row i c) fits kept.shape some _ (named_open c.rows i (Tcp address) (binding_by i c) c.names refl u kept.names);
      pairs = pairs_push c.rows (listener_row i c) fits kept.shape some refl kept.pairs;
    }
      where
        n : ℕ
        n = length c.rows.objects

        q1 : Link → List Mark
        q1 = with_queue (UpLink (length c.rows.objects)) (queue c.rows (UpLink (length c.rows.objects)) ++ record { to = i; sign = OwnSign } ∷ []) (queue c.rows)

        up : with_queue (DownLink (length c.rows.objects)) (with_queue (UpLink (length c.rows.objects)) (queue c.rows (UpLink (length c.rows.objects)) ++ record { to = i; sign = OwnSign } ∷ []) (queue c.rows) (DownLink (length c.rows.objects)) ++ record { to = length c.rows.objects; sign = PlugSign } ∷ [])
            (with_queue (UpLink (length c.rows.objects)) (queue c.rows (UpLink (length c.rows.objects)) ++ record { to = i; sign = OwnSign } ∷ []) (queue c.rows)) (UpLink (length c.rows.objects)) ≡ up_marks (listener_row i c)
        up = with_here (UpLink (length c.rows.objects)) (queue c.rows (UpLink (length c.rows.objects)) ++ record { to = i; sign = OwnSign } ∷ []) (queue c.rows) ∙ ap (λ (q : List Mark). q ++ record { to = i; sign = OwnSign } ∷ []) yet.0

        down : with_queue (DownLink (length c.rows.objects)) (with_queue (UpLink (length c.rows.objects)) (queue c.rows (UpLink (length c.rows.objects)) ++ record { to = i; sign = OwnSign } ∷ []) (queue c.rows) (DownLink (length c.rows.objects)) ++ record { to = length c.rows.objects; sign = PlugSign } ∷ [])
            (with_queue (UpLink (length c.rows.objects)) (queue c.rows (UpLink (length c.rows.objects)) ++ record { to = i; sign = OwnSign } ∷ []) (queue c.rows)) (DownLink (length c.rows.objects)) ≡ down_marks (length c.rows.objects) (listener_row i c)
        down = with_here (DownLink (length c.rows.objects)) (queue c.rows (DownLink (length c.rows.objects)) ++ record { to = length c.rows.objects; sign = PlugSign } ∷ [])
            (with_queue (UpLink (length c.rows.objects)) (queue c.rows (UpLink (length c.rows.objects)) ++ record { to = i; sign = OwnSign } ∷ []) (queue c.rows))
            ∙ ap (λ (q : List Mark). q ++ record { to = length c.rows.objects; sign = PlugSign } ∷ []) yet.1

        rest : (link : Link) → link ≢ UpLink (length c.rows.objects) → link ≢ DownLink (length c.rows.objects) →
            with_queue (DownLink (length c.rows.objects)) (with_queue (UpLink (length c.rows.objects)) (queue c.rows (UpLink (length c.rows.objects)) ++ record { to = i; sign = OwnSign } ∷ []) (queue c.rows) (DownLink (length c.rows.objects)) ++ record { to = length c.rows.objects; sign = PlugSign } ∷ [])
            (with_queue (UpLink (length c.rows.objects)) (queue c.rows (UpLink (length c.rows.objects)) ++ record { to = i; sign = OwnSign } ∷ []) (queue c.rows)) link ≡ queue c.rows link
        rest link x y =
            with_else (DownLink (length c.rows.objects)) link (queue c.rows (DownLink (length c.rows.objects)) ++ record { to = length c.rows.objects; sign = PlugSign } ∷ [])
            (with_queue (UpLink (length c.rows.objects)) (queue c.rows (UpLink (length c.rows.objects)) ++ record { to = i; sign = OwnSign } ∷ []) (queue c.rows)) y
            ∙ with_else (UpLink (length c.rows.objects)) link (queue c.rows (UpLink (length c.rows.objects)) ++ record { to = i; sign = OwnSign } ∷ []) (queue c.rows) x
