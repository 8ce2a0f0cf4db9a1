-- What is kept where a session is accepted.
use Rattle.std.specs.Prelude.{◌≡◌, ◌≢◌, ◌⊎◌, ◌<◌, ◌&&◌, ℕ, Bool, true, false, List, [], ◌∷◌, ◌++◌, Option, Some, None, length, refl}
use Rattle.std.proofs.Common.{sym, ap, ◌∙◌, subst, inl, inr}
use Rattle.std.proofs.lemmas.List.{get_or_push}
use Rattle.std.proofs.lemmas.Bool.{cases_eq}
use Rattle.spec_control.specs.declared.letter.Letter.{Letter}
use Rattle.spec_control.specs.declared.letter.Word.TheVariants.{Own}
use Rattle.spec_control.specs.declared.object.ObjKind.{ObjKind}
use Rattle.spec_control.specs.declared.object.ObjKind.TheVariants.{Root, Socket as IsSocket, Listener, Session}
use Rattle.spec_control.specs.Stage.{has_ended, was_asked}
use Rattle.spec_control.specs.Place.{Unmade, is_here}
use Rattle.spec_control.specs.Row.{Row, is_socket, is_listener, owner_fits, link_fits}
use Rattle.spec_control.specs.Rows.{Rows, PairRow, no_pair, obj, pair, end_place, end_owner, draws_pair}
use Rattle.spec_control.specs.Control.{Control, with_value, id, put, makes, draws}
use Rattle.spec_control.specs.After.{Answers, owner_or_root, pair_or_none, accepted_row, accepts}
use Rattle.spec_control.specs.ControlRun.{IsTakenIn}
use Rattle.control_laws.specs.Reached.{IsReached, goes_on}
use Rattle.control_laws.specs.Prompt.{IsPromptBut, HasShape, HaveTheirPairs}
use Rattle.control_laws.specs.Mail.{Mark, OwnSign, Link, UpLink, DownLink, EndLink, up_marks, down_marks, end_marks, queue, slot_of, Delivers, IsDelivered, with_queue}
use Rattle.control_laws.specs.Kept.{AreListed, NamesAreOpen, Kept}
use Rattle.control_laws.proofs.ListLemmas.{never, clash, is_old, is_new, pushed}
use Rattle.control_laws.proofs.LinkLemmas.{at_owner}
use Rattle.control_laws.proofs.ClosedLemmas.{Inv, none_is_some}
use Rattle.control_laws.proofs.QuietLemmas.{socket_owner}
use Rattle.control_laws.proofs.ShapeLemmas.{shape_draw}
use Rattle.control_laws.proofs.PromptLemmas.{draw_prompt}
use Rattle.control_laws.proofs.MailLemmas.{agree, resort, put_one, with_here, with_else}
use Rattle.control_laws.proofs.StepLemmas.{inv_of, some_object}
use Rattle.control_laws.proofs.TellLemmas.{rows_of, names_same}
use Rattle.control_laws.proofs.EndLemmas.{kept_but, kept_unasked}
use Rattle.control_laws.proofs.OpenLemmas.{owner_lives, unended_uncleared}
use Rattle.control_laws.proofs.MakeLemmas.{IsMade, made, new_row, no_row, old_row, push_slots, push_queue, nothing_yet, push_names}
use Rattle.spec_control.specs.declared.stage.Stage.TheVariants.{Alive}
use Rattle.control_laws.proofs.MakeMoreLemmas.{down_not_up, above_zero, not_zero_fits}

abbrev drawn_pair : ℕ → ℕ → PairRow
drawn_pair a b = record { a_owner = a; b_owner = b; a = Unmade; b = Unmade }

abbrev with_row : Row → Rows → Rows
with_row o s = record s { objects = s.objects ++ o ∷ [] }

abbrev with_drawn : ℕ → ℕ → Rows → Rows
with_drawn a b s = record s { pairs = s.pairs ++ record { a_owner = a; b_owner = b; a = Unmade; b = Unmade } ∷ [] }

nothing_new : (a b : ℕ) (x : Bool) → end_marks (record { a_owner = a; b_owner = b; a = Unmade; b = Unmade }) x ≡ []
nothing_new a b true = refl
nothing_new a b false = refl

nothing_old : (x : Bool) → end_marks no_pair x ≡ []
nothing_old true = refl
nothing_old false = refl

not_here : (a b : ℕ) (x : Bool) → is_here (end_place (record { a_owner = a; b_owner = b; a = Unmade; b = Unmade }) x) ≡ true → ⊥
not_here a b true h = never h
not_here a b false h = never h

-- a drawn pair brings nothing
pub draw_mail : (s : Rows) (a b : ℕ) (boxes : ℕ → List Letter) → IsDelivered s boxes → IsDelivered (with_drawn a b s) boxes
draw_mail s a b boxes all = resort _ _ _ _ (agree _ _ _ _ all same) slots
  where
    same : (link : Link) → queue s link ≡ queue (record s { pairs = s.pairs ++ record { a_owner = a; b_owner = b; a = Unmade; b = Unmade } ∷ [] }) link
    same (UpLink d) = refl
    same (DownLink d) = refl
    same (EndLink k x) =
        elim (pushed s.pairs (record { a_owner = a; b_owner = b; a = Unmade; b = Unmade }) no_pair k) [
          | is_old e ↦ ap (λ (p : PairRow). end_marks p x) (sym e)
          | is_new at e was ↦ ap (λ (p : PairRow). end_marks p x) was ∙ nothing_old x ∙ sym (ap (λ (p : PairRow). end_marks p x) e ∙ nothing_new a b x)
        ]

    slots : (link : Link) → (slot_of s link ≡ slot_of (record s { pairs = s.pairs ++ record { a_owner = a; b_owner = b; a = Unmade; b = Unmade } ∷ [] }) link) ⊎ (queue (record s { pairs = s.pairs ++ record { a_owner = a; b_owner = b; a = Unmade; b = Unmade } ∷ [] }) link ≡ [])
    slots (UpLink d) = inl refl
    slots (DownLink d) = inl refl
    slots (EndLink k x) =
        elim (pushed s.pairs (record { a_owner = a; b_owner = b; a = Unmade; b = Unmade }) no_pair k) [
          | is_old e ↦ inl (ap (λ (p : PairRow). (obj s (end_owner p x)).slot) (sym e))
          | is_new at e was ↦ inr (ap (λ (p : PairRow). end_marks p x) e ∙ nothing_new a b x)
        ]

-- the rows where a session is made: its row, and the pair that was drawn for it
pub record IsGrown (b : ℕ) (s : Rows) (x y : ℕ) (o : Row) (c : Control) : Type 0 where
  pub reached : IsReached (with_drawn x y (with_row o s))
  pub shape : HasShape (with_drawn x y (with_row o s))
  pub prompt : IsPromptBut b (with_drawn x y (with_row o s)) c.output_left
  pub listed : AreListed (with_drawn x y (with_row o s)) c.attached
  pub names : NamesAreOpen (with_drawn x y (with_row o s)) c.names
  pub pairs : HaveTheirPairs (with_drawn x y (with_row o s))

-- what a session's row is
pub record IsSessionRow (c : Control) (w : ℕ) (o : Row) : Type 0 where
  pub unended : has_ended (obj c.rows w).stage ≡ false
  pub below : w ≢ 0
  pub socket : is_socket (obj c.rows w).kind ≡ true
  pub owner : o.owner ≡ Some w
  pub alive : o.stage ≡ Alive
  pub row_fits : link_fits o ≡ true
  pub unnoted : o.noted ≡ false
  pub own : up_marks o ≡ record { to = w; sign = OwnSign } ∷ []
  pub pair_is : o.pair ≡ Some (length c.rows.pairs)

module _ (b : ℕ) (c : Control) (w : ℕ) (o : Row) (kept : Kept c) (r : IsSessionRow c w o) where
  pub inv : Inv c.rows
  inv = inv_of (rows_of (kept_but b c kept))

  pub some : 0 < length c.rows.objects
  some = some_object c.rows kept.reached

  pub row_now : obj (record c.rows { objects = c.rows.objects ++ o ∷ [] }) (length c.rows.objects) ≡ o
  row_now = new_row c.rows o (inv_of (rows_of (kept_but b c kept))) kept.shape (some_object c.rows kept.reached)

  pub row_then : (i : ℕ) → i ≢ length c.rows.objects → obj (record c.rows { objects = c.rows.objects ++ o ∷ [] }) i ≡ obj c.rows i
  row_then = old_row c.rows o (inv_of (rows_of (kept_but b c kept))) kept.shape (some_object c.rows kept.reached)

  pub other : w ≢ length c.rows.objects
  other same = never (sym (ap (λ (j : ℕ). is_socket (obj c.rows j).kind) same ∙ ap (λ (x : Row). is_socket x.kind) (no_row c.rows o (inv_of (rows_of (kept_but b c kept))) kept.shape (some_object c.rows kept.reached))) ∙ r.socket)

  pub owner_is : (obj c.rows w).owner ≡ Some 0
  owner_is = socket_owner (obj c.rows w).kind (obj c.rows w).owner (at_owner (obj c.rows w) ((inv_of (rows_of (kept_but b c kept))).fits w)) r.socket

  so : IsMade b c.rows o c.output_left
  so = made b c.rows c.output_left w o (rows_of (kept_but b c kept)) r.unended r.owner r.alive r.row_fits (λ n. r.socket) (λ n noted. absurd (clash _ noted r.unnoted))

  -- who owns an end of the new pair
  has_owner_now : (i : ℕ) → (i ≡ length c.rows.objects) ⊎ (i ≡ w) → (v : ℕ) × ((obj (record c.rows { objects = c.rows.objects ++ o ∷ [] }) i).owner ≡ Some v)
  has_owner_now i which =
      elim which [
        | inl at ↦ (w, ap (λ (j : ℕ). (obj (record c.rows { objects = c.rows.objects ++ o ∷ [] }) j).owner) at ∙ ap (λ (x : Row). x.owner) row_now ∙ r.owner)
        | inr at ↦ (0, ap (λ (j : ℕ). (obj (record c.rows { objects = c.rows.objects ++ o ∷ [] }) j).owner) at ∙ ap (λ (x : Row). x.owner) (row_then w other) ∙ owner_is)
      ]

  pub grown : (x y : ℕ) → (x ≡ length c.rows.objects) ⊎ (x ≡ w) → (y ≡ length c.rows.objects) ⊎ (y ≡ w) → (o.accepted ≡ true → (x ≡ length c.rows.objects) × (y ≡ w)) → IsGrown b c.rows x y o c
  grown x y is_x is_y accepted = record {
    reached = goes_on (with_row o c.rows) _ so.reached (draws_pair (record { a_owner = x; b_owner = y; a = Unmade; b = Unmade }) refl refl refl);
    shape = shape_draw (with_row o c.rows) (record { a_owner = x; b_owner = y; a = Unmade; b = Unmade }) owned so.shape;
    prompt = draw_prompt (with_row o c.rows) c.output_left b (record { a_owner = x; b_owner = y; a = Unmade; b = Unmade }) refl refl so.prompt;
    listed = listed;
    names = names_same (with_row o c.rows) _ c.names (λ i u. record { socket = u.socket; unasked = u.unasked }) (push_names c.rows o (inv_of (rows_of (kept_but b c kept))) kept.shape (some_object c.rows kept.reached) c.names kept.names);
    pairs = pairs;
  }
    where
      owned : (z : Bool) → (v : ℕ) × ((obj (record c.rows { objects = c.rows.objects ++ o ∷ [] }) (end_owner (record { a_owner = x; b_owner = y; a = Unmade; b = Unmade }) z)).owner ≡ Some v)
      owned true = has_owner_now x is_x
      owned false = has_owner_now y is_y

      listed : AreListed (with_drawn x y (with_row o c.rows)) c.attached
      listed k z h =
          elim (pushed c.rows.pairs (record { a_owner = x; b_owner = y; a = Unmade; b = Unmade }) no_pair k) [
            | is_old e ↦ kept.listed k z (sym (ap (λ (p : PairRow). is_here (end_place p z)) e) ∙ h)
            | is_new at e was ↦ absurd (not_here x y z (sym (ap (λ (p : PairRow). is_here (end_place p z)) e) ∙ h))
          ]

      pairs : HaveTheirPairs (with_drawn x y (with_row o c.rows))
      pairs i h =
          elim (cases_eq i (length c.rows.objects)) [
            | inl at ↦
                let row = ap (λ (j : ℕ). obj (record c.rows { objects = c.rows.objects ++ o ∷ [] }) j) at ∙ row_now in
                let is = accepted (sym (ap (λ (q : Row). q.accepted) row) ∙ h) in
                let pair_now = ap (λ (q : Row). pair (with_drawn x y c.rows) (pair_or_none q.pair)) row ∙ ap (λ (q : Option ℕ). pair (with_drawn x y c.rows) (pair_or_none q)) r.pair_is
                ∙ get_or_push c.rows.pairs (record { a_owner = x; b_owner = y; a = Unmade; b = Unmade }) no_pair (length c.rows.pairs) refl in
                (ap (λ (p : PairRow). p.a_owner) pair_now ∙ is.0 ∙ sym at, ap (λ (q : Row). q.owner) row ∙ r.owner ∙ ap Some (sym is.1) ∙ ap (λ (p : PairRow). Some p.b_owner) (sym pair_now))
            | inr apart ↦
                let row = row_then i apart in
                let was_so = kept.pairs i (sym (ap (λ (q : Row). q.accepted) row) ∙ h) in
                elim (pushed c.rows.pairs (record { a_owner = x; b_owner = y; a = Unmade; b = Unmade }) no_pair (pair_or_none (obj c.rows i).pair)) [
                  | is_old e ↦
                      let pair_now = ap (λ (q : Row). pair (with_drawn x y c.rows) (pair_or_none q.pair)) row ∙ e in
                      (ap (λ (p : PairRow). p.a_owner) pair_now ∙ was_so.0, ap (λ (q : Row). q.owner) row ∙ was_so.1 ∙ ap (λ (p : PairRow). Some p.b_owner) (sym pair_now))
                  | is_new at e was ↦
                      let zero_is = ap (λ (p : PairRow). p.a_owner) (sym was) ∙ was_so.0 in
                      absurd (none_is_some _ (sym kept.shape.root ∙ subst (λ (j : ℕ). (obj c.rows j).owner ≡ Some (pair c.rows (pair_or_none (obj c.rows i).pair)).b_owner) (sym zero_is) was_so.1))
                ]
          ]

  -- its Own is put
  pub own_put : let slot = (obj (record c.rows { objects = c.rows.objects ++ o ∷ [] }) w).slot in
      Delivers (slot_of (record c.rows { objects = c.rows.objects ++ o ∷ [] })) (with_queue (UpLink (length c.rows.objects)) (queue c.rows (UpLink (length c.rows.objects)) ++ record { to = w; sign = OwnSign } ∷ []) (queue c.rows))
      (with_value slot (c.boxes slot ++ record { to = id w; word = Own (id (length c.rows.objects)) } ∷ []) c.boxes)
  own_put =
      subst (λ (slot : ℕ). Delivers (slot_of (record c.rows { objects = c.rows.objects ++ o ∷ [] })) (with_queue (UpLink (length c.rows.objects)) (queue c.rows (UpLink (length c.rows.objects)) ++ record { to = w; sign = OwnSign } ∷ []) (queue c.rows))
      (with_value slot (c.boxes slot ++ record { to = id w; word = Own (id (length c.rows.objects)) } ∷ []) c.boxes)) slot_is
      (put_one (slot_of (record c.rows { objects = c.rows.objects ++ o ∷ [] })) (queue c.rows) c.boxes (record { to = id w; word = Own (id (length c.rows.objects)) }) (UpLink (length c.rows.objects)) (record { to = w; sign = OwnSign })
      (push_slots c.rows o (inv_of (rows_of (kept_but b c kept))) kept.shape (some_object c.rows kept.reached) c.boxes kept.delivered) (λ link. refl))
    where
      slot_is : slot_of (record c.rows { objects = c.rows.objects ++ o ∷ [] }) (UpLink (length c.rows.objects)) ≡ (obj (record c.rows { objects = c.rows.objects ++ o ∷ [] }) w).slot
      slot_is = ap (λ (x : Row). (obj (record c.rows { objects = c.rows.objects ++ o ∷ [] }) (owner_or_root x.owner)).slot) row_now ∙ ap (λ (v : Option ℕ). (obj (record c.rows { objects = c.rows.objects ++ o ∷ [] }) (owner_or_root v)).slot) r.owner

  pub nothing_was : (queue c.rows (UpLink (length c.rows.objects)) ≡ []) × (queue c.rows (DownLink (length c.rows.objects)) ≡ [])
  nothing_was = nothing_yet c.rows o (inv_of (rows_of (kept_but b c kept))) kept.shape (some_object c.rows kept.reached)

  -- where no Plug is put, that is all
  pub own_mail : down_marks (length c.rows.objects) o ≡ [] → let slot = (obj (record c.rows { objects = c.rows.objects ++ o ∷ [] }) w).slot in
      IsDelivered (with_row o c.rows) (with_value slot (c.boxes slot ++ record { to = id w; word = Own (id (length c.rows.objects)) } ∷ []) c.boxes)
  own_mail no_plug = agree _ _ _ _ own_put (push_queue c.rows o (inv_of (rows_of (kept_but b c kept))) kept.shape (some_object c.rows kept.reached) _ up down rest)
    where
      up : with_queue (UpLink (length c.rows.objects)) (queue c.rows (UpLink (length c.rows.objects)) ++ record { to = w; sign = OwnSign } ∷ []) (queue c.rows) (UpLink (length c.rows.objects)) ≡ up_marks o
      up = with_here (UpLink (length c.rows.objects)) (queue c.rows (UpLink (length c.rows.objects)) ++ record { to = w; sign = OwnSign } ∷ []) (queue c.rows) ∙ ap (λ (q : List Mark). q ++ record { to = w; sign = OwnSign } ∷ []) nothing_was.0 ∙ sym r.own

      down : with_queue (UpLink (length c.rows.objects)) (queue c.rows (UpLink (length c.rows.objects)) ++ record { to = w; sign = OwnSign } ∷ []) (queue c.rows) (DownLink (length c.rows.objects)) ≡ down_marks (length c.rows.objects) o
      down = with_else (UpLink (length c.rows.objects)) (DownLink (length c.rows.objects)) (queue c.rows (UpLink (length c.rows.objects)) ++ record { to = w; sign = OwnSign } ∷ []) (queue c.rows) (down_not_up (length c.rows.objects) (length c.rows.objects)) ∙ nothing_was.1 ∙ sym no_plug

      rest : (link : Link) → link ≢ UpLink (length c.rows.objects) → link ≢ DownLink (length c.rows.objects) →
          with_queue (UpLink (length c.rows.objects)) (queue c.rows (UpLink (length c.rows.objects)) ++ record { to = w; sign = OwnSign } ∷ []) (queue c.rows) link ≡ queue c.rows link
      rest link x y = with_else (UpLink (length c.rows.objects)) link (queue c.rows (UpLink (length c.rows.objects)) ++ record { to = w; sign = OwnSign } ∷ []) (queue c.rows) x

-- ---- an accepted session
pub accepted_kept : (c : Control) (listener : ℕ) (h : Answers) → Kept c → is_listener (obj c.rows listener).kind ≡ true → IsTakenIn (obj c.rows listener) → Kept (accepts listener c)
accepted_kept c listener h kept is taken_in = by (obj c.rows listener).owner refl
  where
    fits : Inv c.rows
    fits = inv_of (rows_of (kept_but 0 c kept))

    owner_is_some : (k : ObjKind) (v : Option ℕ) → is_listener k ≡ true → owner_fits k v ≡ true → v ≡ None → ⊥
    owner_is_some Listener None e g none = never g
    owner_is_some Root v e g none = never e
    owner_is_some (IsSocket kind) v e g none = never e
    owner_is_some Session v e g none = never e
    owner_is_some Listener (Some w) e g none = none_is_some w (sym none)

    no_socket : (k : ObjKind) → is_listener k ≡ true → is_socket k ≡ false
    no_socket Listener e = refl
    no_socket Root e = refl
    no_socket (IsSocket kind) e = absurd (never e)
    no_socket Session e = refl

    by : (v : Option ℕ) → (obj c.rows listener).owner ≡ v → Kept (accepts listener c)
    by None e = absurd (owner_is_some (obj c.rows listener).kind (obj c.rows listener).owner is (at_owner (obj c.rows listener) (fits.fits listener)) e)
    by (Some w) e =
        let below = above_zero (obj c.rows listener).kind w (ap (owner_fits (obj c.rows listener).kind) (sym e) ∙ at_owner (obj c.rows listener) (fits.fits listener)) (no_socket (obj c.rows listener).kind is) in
        let socket = kept.shape.owners listener w e below in
        let unended = owner_lives c.rows listener w fits e (unended_uncleared (obj c.rows listener).stage taken_in.lives) in
        let at = ap owner_or_root e in
        let n = length c.rows.objects in
        let r = is_row w below socket unended at in
        let g = grown n c w (accepted_row listener c) kept r n (owner_or_root (obj c.rows listener).owner) (inl refl) (inr at) (λ h. (refl, at)) in
        kept_unasked n (accepts listener c)
        (record {
          reached = g.reached;
          shape = g.shape;
          prompt = g.prompt;
          listed = g.listed;
          names = g.names;
          pairs = g.pairs;
          delivered = subst (λ (v : ℕ). IsDelivered (with_drawn n (owner_or_root (obj c.rows listener).owner) (with_row (accepted_row listener c) c.rows)) (put v (Own (id n)) (draws n (owner_or_root (obj c.rows listener).owner) (makes (accepted_row listener c) c))).boxes) (sym at)
              (draw_mail (with_row (accepted_row listener c) c.rows) n (owner_or_root (obj c.rows listener).owner) _ (own_mail n c w (accepted_row listener c) kept r refl));
        })
        (ap (λ (x : Row). was_asked x.stage) (row_now n c w (accepted_row listener c) kept r))
      where
        is_row : (w : ℕ) → w ≢ 0 → is_socket (obj c.rows w).kind ≡ true → has_ended (obj c.rows w).stage ≡ false → owner_or_root (obj c.rows listener).owner ≡ w → IsSessionRow c w (accepted_row listener c)
        is_row w below socket unended at = record {
          unended = unended;
          below = below;
          socket = socket;
          owner = ap Some at;
          alive = refl;
          row_fits = ap (λ (v : ℕ). owner_fits Session (Some v) && true) at ∙ ap (λ (b : Bool). b && true) (not_zero_fits w below).1;
          unnoted = refl;
          own = ap (λ (v : ℕ). record { to = v; sign = OwnSign } ∷ []) at;
          pair_is = refl;
        }
