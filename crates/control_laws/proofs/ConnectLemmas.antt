-- What is kept where a session is made that connects.
use Rattle.std.specs.Prelude.{◌≡◌, ◌≢◌, ◌⊎◌, ◌<◌, ◌&&◌, ℕ, Bool, true, false, cond, List, [], ◌∷◌, ◌++◌, Some, length, slice_index_or, refl}
use Rattle.std.proofs.Common.{arith, sym, ap, ◌∙◌, subst, inl, inr}
use Rattle.std.proofs.lemmas.List.{length-append, get_or-set_same, get_or-set_other, get_or_push, get_or_past}
use Rattle.std.proofs.lemmas.Bool.{cases_eq}
use Rattle.zq_base.specs.declared.endpoint.Address.{Address}
use Rattle.zq_base.specs.declared.endpoint.Endpoint.TheVariants.{Tcp}
use Rattle.spec_control.specs.Hold.{Joined}
use Rattle.spec_control.specs.declared.letter.Letter.{Letter}
use Rattle.spec_control.specs.declared.letter.Word.TheVariants.{Own, Plug}
use Rattle.spec_control.specs.Stage.{has_ended, was_asked}
use Rattle.spec_control.specs.Place.{Unmade}
use Rattle.spec_control.specs.PairPhase.{Opens}
use Rattle.spec_control.specs.Row.{Row, nobody}
use Rattle.spec_control.specs.Rows.{Rows, PairRow, no_pair, obj, pair, with_pair, end_owner, pair_after}
use Rattle.spec_control.specs.Control.{Control, with_value, id, end_of, next_object, next_pair, put, makes, draws, open_pair}
use Rattle.spec_control.specs.After.{Answers, session_row, with_hold, connects}
use Rattle.spec_control.specs.ControlRun.{IsOpenSocket}
use Rattle.control_laws.specs.Mail.{Mark, OwnSign, PlugSign, BindSign, Link, UpLink, DownLink, EndLink, up_marks, down_marks, end_marks, queue, slot_of, Delivers, IsDelivered, with_queue}
use Rattle.control_laws.specs.Kept.{IsUnasked, KeptBut, Kept}
use Rattle.control_laws.proofs.ListLemmas.{never, is_old, is_new, pushed}
use Rattle.control_laws.proofs.LinkLemmas.{at_owner}
use Rattle.control_laws.proofs.ClosedLemmas.{Inv, none_is_some}
use Rattle.control_laws.proofs.QuietLemmas.{socket_owner}
use Rattle.control_laws.proofs.MailLemmas.{agree, resort, put_two, with_here, with_else, pair_slot}
use Rattle.control_laws.proofs.StepLemmas.{RowsKept, inv_of, after_owner, rows_open}
use Rattle.control_laws.proofs.TellLemmas.{rows_of, names_same}
use Rattle.control_laws.proofs.EndLemmas.{kept_but, kept_unasked}
use Rattle.control_laws.proofs.JoinLemmas.{open_is, unasked_lives}
use Rattle.control_laws.proofs.OpenLemmas.{may_open}
use Rattle.control_laws.proofs.MakeMoreLemmas.{not_zero_fits}
use Rattle.control_laws.proofs.AttachLemmas.{attached_listed, greets, greet_kept}
use Rattle.control_laws.proofs.SessionLemmas.{IsSessionRow, IsGrown, grown, row_now, row_then, other, own_put, nothing_was}

-- the rows with the session and its drawn pair, and with the pair made
abbrev drawn_rows : ℕ → Control → Rows
drawn_rows i c = record c.rows { objects = c.rows.objects ++ session_row i c ∷ []; pairs = c.rows.pairs ++ record { a_owner = i; b_owner = length c.rows.objects; a = Unmade; b = Unmade } ∷ [] }

abbrev made_pair : ℕ → Control → PairRow
made_pair i c = pair_after Opens true (pair (drawn_rows i c) (length c.rows.pairs))

abbrev made_rows : ℕ → Control → Rows
made_rows i c = with_pair (length c.rows.pairs) (made_pair i c) (drawn_rows i c)

abbrev own_queue : ℕ → Control → Link → List Mark
own_queue i c = with_queue (UpLink (length c.rows.objects)) (queue c.rows (UpLink (length c.rows.objects)) ++ record { to = i; sign = OwnSign } ∷ []) (queue c.rows)

abbrev own_slot : ℕ → Control → ℕ
own_slot i c = (obj (drawn_rows i c) i).slot

abbrev own_boxes : ℕ → Control → ℕ → List Letter
own_boxes i c = with_value (own_slot i c) (c.boxes (own_slot i c) ++ record { to = id i; word = Own (id (length c.rows.objects)) } ∷ []) c.boxes

abbrev both_queue : ℕ → Control → Link → List Mark
both_queue i c =
    with_queue (EndLink (length c.rows.pairs) false) (own_queue i c (EndLink (length c.rows.pairs) false) ++ record { to = length c.rows.objects; sign = BindSign } ∷ [])
    (with_queue (DownLink (length c.rows.objects)) (own_queue i c (DownLink (length c.rows.objects)) ++ record { to = length c.rows.objects; sign = PlugSign } ∷ []) (own_queue i c))

ends_at_first : (i n : ℕ) (x : Bool) → end_marks (pair_after Opens true (record { a_owner = i; b_owner = n; a = Unmade; b = Unmade })) x ≡ cond x [] (record { to = n; sign = BindSign } ∷ [])
ends_at_first i n true = refl
ends_at_first i n false = refl

none_at_first : (x : Bool) → end_marks no_pair x ≡ []
none_at_first true = refl
none_at_first false = refl

pub session_kept : (c : Control) (i : ℕ) (address : Address) (h : Answers) → Kept c → IsOpenSocket (obj c.rows i) → Kept (connects i (Tcp address) h c)
session_kept c i address h kept o =
    kept_unasked i (connects i (Tcp address) h c)
    (greet_kept i (h.kind (end_of (next_pair c) true)) (end_of (next_pair c) true) (open_pair (end_of (next_pair c) true) (Plug (Some (end_of (next_pair c) false))) own_there) all owner_now)
    (ap (λ (l : List Row). was_asked (slice_index_or l i nobody).stage) same_objects ∙ ap (λ (x : Row). was_asked x.stage) (row_then i c i (session_row i c) kept r i other_i) ∙ u.unasked)
  where
    u : IsUnasked c.rows i
    u = open_is c i kept o

    fits : Inv c.rows
    fits = inv_of (rows_of (kept_but i c kept))

    owner : (obj c.rows i).owner ≡ Some 0
    owner = socket_owner (obj c.rows i).kind (obj c.rows i).owner (at_owner (obj c.rows i) (fits.fits i)) u.socket

    below : i ≢ 0
    below same = none_is_some 0 (sym kept.shape.root ∙ subst (λ (j : ℕ). (obj c.rows j).owner ≡ Some 0) same owner)

    r : IsSessionRow c i (session_row i c)
    r = record {
      unended = unasked_lives (obj c.rows i).stage u.unasked;
      below = below;
      socket = u.socket;
      owner = refl;
      alive = refl;
      row_fits = ap (λ (b : Bool). b && true) (not_zero_fits i below).1;
      unnoted = refl;
      own = refl;
      pair_is = refl;
    }

    other_i : i ≢ length c.rows.objects
    other_i = other i c i (session_row i c) kept r

    g : IsGrown i c.rows i (length c.rows.objects) (session_row i c) c
    g = grown i c i (session_row i c) kept r i (length c.rows.objects) (inr refl) (inl refl) (λ e. absurd (never e))

    own_there : Control
    own_there = put i (Own (id (next_object c))) (draws i (next_object c) (makes (session_row i c) (with_hold i (Joined (Tcp address) (next_pair c) (Some (next_object c))) c)))

    before : RowsKept i (drawn_rows i c) c.output_left
    before = record { reached = g.reached; shape = g.shape; prompt = g.prompt; pairs = g.pairs }

    pair_is : pair (drawn_rows i c) (length c.rows.pairs) ≡ record { a_owner = i; b_owner = length c.rows.objects; a = Unmade; b = Unmade }
    pair_is = get_or_push c.rows.pairs (record { a_owner = i; b_owner = length c.rows.objects; a = Unmade; b = Unmade }) no_pair (length c.rows.pairs) refl

    unended : (x : Bool) → has_ended (obj (drawn_rows i c) (end_owner (pair (drawn_rows i c) (length c.rows.pairs)) x)).stage ≡ false
    unended true = ap (λ (p : PairRow). has_ended (obj (drawn_rows i c) p.a_owner).stage) pair_is ∙ ap (λ (x : Row). has_ended x.stage) (row_then i c i (session_row i c) kept r i other_i) ∙ unasked_lives (obj c.rows i).stage u.unasked
    unended false = ap (λ (p : PairRow). has_ended (obj (drawn_rows i c) p.b_owner).stage) pair_is ∙ ap (λ (x : Row). has_ended x.stage) (row_now i c i (session_row i c) kept r)

    there : length c.rows.pairs < length (c.rows.pairs ++ record { a_owner = i; b_owner = length c.rows.objects; a = Unmade; b = Unmade } ∷ [])
    there = omega (arith, length-append c.rows.pairs (record { a_owner = i; b_owner = length c.rows.objects; a = Unmade; b = Unmade } ∷ []))

    pair_made : pair (made_rows i c) (length c.rows.pairs) ≡ made_pair i c
    pair_made = get_or-set_same (c.rows.pairs ++ record { a_owner = i; b_owner = length c.rows.objects; a = Unmade; b = Unmade } ∷ []) (length c.rows.pairs) (made_pair i c) no_pair there

    made_is : pair (made_rows i c) (length c.rows.pairs) ≡ pair_after Opens true (record { a_owner = i; b_owner = length c.rows.objects; a = Unmade; b = Unmade })
    made_is = pair_made ∙ ap (pair_after Opens true) pair_is

    owner_now : end_owner (pair (made_rows i c) (length c.rows.pairs)) true ≡ i
    owner_now = ap (λ (p : PairRow). p.a_owner) made_is

    owner_there : end_owner (pair (made_rows i c) (length c.rows.pairs)) false ≡ length c.rows.objects
    owner_there = ap (λ (p : PairRow). p.b_owner) made_is

    -- what is on its way, with the slots of the new rows
    start : Delivers (slot_of (made_rows i c)) (own_queue i c) (own_boxes i c)
    start = resort (slot_of (drawn_rows i c)) (slot_of (made_rows i c)) (own_queue i c) (own_boxes i c)
        (resort (slot_of (record c.rows { objects = c.rows.objects ++ session_row i c ∷ [] })) (slot_of (drawn_rows i c)) (own_queue i c) (own_boxes i c) (own_put i c i (session_row i c) kept r) slots)
        (λ link. inl (pair_slot (drawn_rows i c) (length c.rows.pairs) (made_pair i c) there (λ x. after_owner Opens true x (pair (drawn_rows i c) (length c.rows.pairs))) link))
      where
        slots : (link : Link) → (slot_of (record c.rows { objects = c.rows.objects ++ session_row i c ∷ [] }) link ≡ slot_of (drawn_rows i c) link) ⊎ (own_queue i c link ≡ [])
        slots (UpLink d) = inl refl
        slots (DownLink d) = inl refl
        slots (EndLink k x) =
            elim (pushed c.rows.pairs (record { a_owner = i; b_owner = length c.rows.objects; a = Unmade; b = Unmade }) no_pair k) [
              | is_old e ↦ inl (ap (λ (p : PairRow). (obj (drawn_rows i c) (end_owner p x)).slot) (sym e))
              | is_new at e was ↦ inr (ap (λ (p : PairRow). end_marks p x) was ∙ none_at_first x)
            ]

    plugged : Delivers (slot_of (made_rows i c)) (both_queue i c)
        (with_value (obj (made_rows i c) (length c.rows.objects)).slot (own_boxes i c (obj (made_rows i c) (length c.rows.objects)).slot ++ record { to = id (length c.rows.objects); word = Plug (Some (end_of (next_pair c) false)) } ∷ []) (own_boxes i c))
    plugged = put_two (slot_of (made_rows i c)) (own_queue i c) (own_boxes i c) (record { to = id (length c.rows.objects); word = Plug (Some (end_of (next_pair c) false)) }) (DownLink (length c.rows.objects)) (EndLink (length c.rows.pairs) false)
        (record { to = length c.rows.objects; sign = PlugSign }) (record { to = length c.rows.objects; sign = BindSign }) (obj (made_rows i c) (length c.rows.objects)).slot start refl
        (ap (λ (v : ℕ). (obj (made_rows i c) v).slot) owner_there) refl (λ link. refl)

    was : (queue c.rows (UpLink (length c.rows.objects)) ≡ []) × (queue c.rows (DownLink (length c.rows.objects)) ≡ [])
    was = nothing_was i c i (session_row i c) kept r

    row_new : obj (drawn_rows i c) (length c.rows.objects) ≡ session_row i c
    row_new = row_now i c i (session_row i c) kept r

    no_end : (x : Bool) → queue c.rows (EndLink (length c.rows.pairs) x) ≡ []
    no_end x = ap (λ (p : PairRow). end_marks p x) (get_or_past c.rows.pairs (length c.rows.pairs) no_pair (omega arith)) ∙ none_at_first x

    agrees : (link : Link) → both_queue i c link ≡ queue (made_rows i c) link
    agrees (UpLink d) =
        elim (cases_eq d (length c.rows.objects)) [
          | inl at ↦
              ap (λ (j : ℕ). own_queue i c (UpLink j)) at
              ∙ with_here (UpLink (length c.rows.objects)) (queue c.rows (UpLink (length c.rows.objects)) ++ record { to = i; sign = OwnSign } ∷ []) (queue c.rows)
              ∙ ap (λ (q : List Mark). q ++ record { to = i; sign = OwnSign } ∷ []) was.0
              ∙ sym (ap (λ (j : ℕ). up_marks (obj (drawn_rows i c) j)) at ∙ ap up_marks row_new)
          | inr apart ↦
              with_else (UpLink (length c.rows.objects)) (UpLink d) (queue c.rows (UpLink (length c.rows.objects)) ++ record { to = i; sign = OwnSign } ∷ []) (queue c.rows) (λ e. apart (up_is d (length c.rows.objects) e))
              ∙ ap up_marks (sym (row_then i c i (session_row i c) kept r d apart))
        ]
      where
        up_is : (x y : ℕ) → UpLink x ≡ UpLink y → x ≡ y
        up_is x y e = Prim.grind arith
    agrees (DownLink d) =
        elim (cases_eq d (length c.rows.objects)) [
          | inl at ↦
              ap (λ (j : ℕ). both_queue i c (DownLink j)) at
              ∙ with_here (DownLink (length c.rows.objects)) (own_queue i c (DownLink (length c.rows.objects)) ++ record { to = length c.rows.objects; sign = PlugSign } ∷ []) (own_queue i c)
              ∙ ap (λ (q : List Mark). q ++ record { to = length c.rows.objects; sign = PlugSign } ∷ []) was.1
              ∙ sym (ap (λ (j : ℕ). down_marks j (obj (drawn_rows i c) j)) at ∙ ap (down_marks (length c.rows.objects)) row_new)
          | inr apart ↦
              with_else (DownLink (length c.rows.objects)) (DownLink d) (own_queue i c (DownLink (length c.rows.objects)) ++ record { to = length c.rows.objects; sign = PlugSign } ∷ []) (own_queue i c) (λ e. apart (down_is d (length c.rows.objects) e))
              ∙ ap (down_marks d) (sym (row_then i c i (session_row i c) kept r d apart))
        ]
      where
        down_is : (x y : ℕ) → DownLink x ≡ DownLink y → x ≡ y
        down_is x y e = Prim.grind arith
    agrees (EndLink j x) =
        elim (cases_eq j (length c.rows.pairs)) [
          | inl at ↦ ap (λ (k : ℕ). both_queue i c (EndLink k x)) at ∙ here x ∙ ap (λ (k : ℕ). queue (made_rows i c) (EndLink k x)) (sym at)
          | inr apart ↦
              with_else (EndLink (length c.rows.pairs) false) (EndLink j x) (own_queue i c (EndLink (length c.rows.pairs) false) ++ record { to = length c.rows.objects; sign = BindSign } ∷ [])
              (with_queue (DownLink (length c.rows.objects)) (own_queue i c (DownLink (length c.rows.objects)) ++ record { to = length c.rows.objects; sign = PlugSign } ∷ []) (own_queue i c)) (λ e. apart (end_is j (length c.rows.pairs) x e))
              ∙ ap (λ (p : PairRow). end_marks p x) (sym (get_or-set_other (c.rows.pairs ++ record { a_owner = i; b_owner = length c.rows.objects; a = Unmade; b = Unmade } ∷ []) (length c.rows.pairs) j (made_pair i c) no_pair apart ∙ old apart))
        ]
      where
        end_is : (k l : ℕ) (x : Bool) → EndLink k x ≡ EndLink l false → k ≡ l
        end_is k l x e = Prim.grind arith

        old : j ≢ length c.rows.pairs → pair (drawn_rows i c) j ≡ pair c.rows j
        old apart =
            elim (pushed c.rows.pairs (record { a_owner = i; b_owner = length c.rows.objects; a = Unmade; b = Unmade }) no_pair j) [
              | is_old e ↦ e
              | is_new at e was ↦ absurd (apart at)
            ]

        here : (x : Bool) → both_queue i c (EndLink (length c.rows.pairs) x) ≡ queue (made_rows i c) (EndLink (length c.rows.pairs) x)
        here true =
            with_else (EndLink (length c.rows.pairs) false) (EndLink (length c.rows.pairs) true) (own_queue i c (EndLink (length c.rows.pairs) false) ++ record { to = length c.rows.objects; sign = BindSign } ∷ [])
            (with_queue (DownLink (length c.rows.objects)) (own_queue i c (DownLink (length c.rows.objects)) ++ record { to = length c.rows.objects; sign = PlugSign } ∷ []) (own_queue i c)) (λ e. Prim.grind (arith, e))
            ∙ no_end true ∙ sym (ap (λ (p : PairRow). end_marks p true) made_is ∙ ends_at_first i (length c.rows.objects) true)
        here false =
            with_here (EndLink (length c.rows.pairs) false) (own_queue i c (EndLink (length c.rows.pairs) false) ++ record { to = length c.rows.objects; sign = BindSign } ∷ [])
            (with_queue (DownLink (length c.rows.objects)) (own_queue i c (DownLink (length c.rows.objects)) ++ record { to = length c.rows.objects; sign = PlugSign } ∷ []) (own_queue i c))
            ∙ ap (λ (q : List Mark). q ++ record { to = length c.rows.objects; sign = BindSign } ∷ []) (no_end false) ∙ sym (ap (λ (p : PairRow). end_marks p false) made_is ∙ ends_at_first i (length c.rows.objects) false)

    all : KeptBut i (open_pair (end_of (next_pair c) true) (Plug (Some (end_of (next_pair c) false))) (put i (Own (id (next_object c))) (draws i (next_object c) (makes (session_row i c) (with_hold i (Joined (Tcp address) (next_pair c) (Some (next_object c))) c)))))
    all =
        let k = rows_open i (drawn_rows i c) c.output_left (length c.rows.pairs) true before (may_open (drawn_rows i c) (length c.rows.pairs) true (inv_of before) (ap (λ (p : PairRow). p.a) pair_is)) (ap (λ (p : PairRow). p.a_owner) pair_is) unended in
        record {
          reached = k.reached;
          shape = k.shape;
          prompt = k.prompt;
          pairs = k.pairs;
          listed = attached_listed (drawn_rows i c) (end_of (next_pair c) true) Opens c.attached there g.listed;
          names = names_same (drawn_rows i c) (made_rows i c) c.names (λ j v. record { socket = v.socket; unasked = v.unasked }) g.names;
          delivered = subst (λ (v : ℕ). IsDelivered (made_rows i c) (with_value (obj (made_rows i c) v).slot (own_boxes i c (obj (made_rows i c) v).slot ++ record { to = id v; word = Plug (Some (end_of (next_pair c) false)) } ∷ []) (own_boxes i c))) (sym owner_there)
              (agree _ _ _ _ plugged agrees);
        }

    same_objects : (connects i (Tcp address) h c).rows.objects ≡ c.rows.objects ++ session_row i c ∷ []
    same_objects = (greets true (h.kind (end_of (next_pair c) true)) (end_of (next_pair c) true) (open_pair (end_of (next_pair c) true) (Plug (Some (end_of (next_pair c) false))) (put i (Own (id (next_object c))) (draws i (next_object c) (makes (session_row i c) (with_hold i (Joined (Tcp address) (next_pair c) (Some (next_object c))) c)))))).leaves.objects
