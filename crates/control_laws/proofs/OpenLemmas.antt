-- What is kept where a pair's number is drawn and where a pair is made.
use Rattle.std.specs.Prelude.{◌≡◌, ◌⊎◌, ◌<◌, ℕ, Bool, true, false, not, List, [], ◌∷◌, ◌++◌, map, Some, length, slice_index_or, refl}
use Rattle.std.proofs.Common.{sym, ap, ◌∙◌, subst, inl, inr}
use Rattle.std.proofs.lemmas.List.{get_or-set_same}
use Rattle.zq_base.specs.Ends.{other_end}
use Rattle.zq_base.specs.declared.ids.EndId.{EndId}
use Rattle.zq_base.specs.declared.ids.ObjId.{ObjId}
use Rattle.zq_base.specs.declared.options.Peer.{Peer}
use Rattle.spec_control.specs.declared.letter.Word.TheVariants.{PipeBind}
use Rattle.zq_base.specs.declared.attached.Attached.{Attached}
use Rattle.spec_control.specs.declared.request.Req.TheVariants.{Shaken}
use Rattle.spec_control.specs.declared.stage.Stage.{Stage}
use Rattle.spec_control.specs.declared.stage.Stage.TheVariants.{Alive, Told, Ending, Finished, Cleared}
use Rattle.spec_control.specs.Stage.{has_ended, was_asked, is_cleared}
use Rattle.spec_control.specs.Place.{Unmade, Binds, Half, is_here, is_unmade}
use Rattle.spec_control.specs.PairPhase.{Opens, Phase, Drawn, Over, place_in, may}
use Rattle.spec_control.specs.Row.{Row, nobody}
use Rattle.spec_control.specs.Rows.{Rows, PairRow, no_pair, obj, pair, end_place, end_owner, end_half, pair_after, IsInPhase, PairMoves, draws_pair}
use Rattle.spec_control.specs.Control.{Control, with_value, id, end_of, owner_of, draws, attach, open_pair, greet}
use Rattle.spec_control.specs.After.{Answers, pair_or_none, requested}
use Rattle.spec_control.specs.ControlRun.{MayShake}
use Rattle.control_laws.specs.Reached.{goes_on}
use Rattle.control_laws.specs.Mail.{Mark, Link, UpLink, DownLink, EndLink, end_mark, end_marks, queue, slot_of, IsDelivered}
use Rattle.control_laws.specs.Kept.{AreListed, KeptBut, Kept}
use Rattle.control_laws.proofs.ListLemmas.{never, clash, left, and, is_old, is_new, pushed}
use Rattle.control_laws.proofs.ClosedLemmas.{Inv, none_is_some}
use Rattle.control_laws.proofs.RowLemmas.{pair_there}
use Rattle.control_laws.proofs.PromptLemmas.{draw_prompt}
use Rattle.control_laws.proofs.ShapeLemmas.{shape_draw}
use Rattle.control_laws.proofs.MailLemmas.{agree, resort}
use Rattle.control_laws.proofs.StepLemmas.{inv_of, after_owner, moves_after, rows_open}
use Rattle.control_laws.proofs.PutLemmas.{rows_pair_queues, one_now, pair_put}
use Rattle.control_laws.proofs.TellLemmas.{rows_of, kept_of, names_same, map_more}
use Rattle.control_laws.proofs.EndLemmas.{kept_but, kept_unasked}
use Rattle.control_laws.proofs.AttachLemmas.{attach_moved, attached_listed, sides, greets, greet_kept}
use Rattle.control_laws.specs.Prompt.{HaveTheirPairs}

-- ---- a pair's number is drawn
abbrev drawn_row : ℕ → ℕ → PairRow
drawn_row a b = record { a_owner = a; b_owner = b; a = Unmade; b = Unmade }

pub draw_kept : (n a b : ℕ) (c : Control) → ((x : Bool) → (w : ℕ) × ((obj c.rows (end_owner (record { a_owner = a; b_owner = b; a = Unmade; b = Unmade }) x)).owner ≡ Some w)) →
    KeptBut n c → KeptBut n (draws a b c)
draw_kept n a b c owned kept = record {
  reached = goes_on c.rows _ kept.reached (draws_pair (drawn_row a b) refl refl refl);
  shape = shape_draw c.rows (drawn_row a b) owned kept.shape;
  prompt = draw_prompt c.rows c.output_left n (drawn_row a b) refl refl kept.prompt;
  delivered = resort _ _ _ _ (agree _ _ _ _ kept.delivered same) slots;
  listed = listed;
  names = names_same c.rows _ c.names (λ i u. record { socket = u.socket; unasked = u.unasked }) kept.names;
  pairs = pairs;
}
  where
    nothing_new : (x : Bool) → end_marks (record { a_owner = a; b_owner = b; a = Unmade; b = Unmade }) x ≡ []
    nothing_new true = refl
    nothing_new false = refl

    nothing_old : (x : Bool) → end_marks no_pair x ≡ []
    nothing_old true = refl
    nothing_old false = refl

    same : (link : Link) → queue c.rows link ≡ queue (draws a b c).rows link
    same (UpLink d) = refl
    same (DownLink d) = refl
    same (EndLink k x) =
        elim (pushed c.rows.pairs (drawn_row a b) no_pair k) [
          | is_old e ↦ ap (λ (p : PairRow). end_marks p x) (sym e)
          | is_new at e was ↦ ap (λ (p : PairRow). end_marks p x) was ∙ nothing_old x ∙ sym (ap (λ (p : PairRow). end_marks p x) e ∙ nothing_new x)
        ]

    slots : (link : Link) → (slot_of c.rows link ≡ slot_of (draws a b c).rows link) ⊎ (queue (draws a b c).rows link ≡ [])
    slots (UpLink d) = inl refl
    slots (DownLink d) = inl refl
    slots (EndLink k x) =
        elim (pushed c.rows.pairs (drawn_row a b) no_pair k) [
          | is_old e ↦ inl (ap (λ (p : PairRow). (obj c.rows (end_owner p x)).slot) (sym e))
          | is_new at e was ↦ inr (ap (λ (p : PairRow). end_marks p x) e ∙ nothing_new x)
        ]

    not_here : (x : Bool) → is_here (end_place (record { a_owner = a; b_owner = b; a = Unmade; b = Unmade }) x) ≡ true → ⊥
    not_here true h = never h
    not_here false h = never h

    listed : AreListed (draws a b c).rows c.attached
    listed k x h =
        elim (pushed c.rows.pairs (drawn_row a b) no_pair k) [
          | is_old e ↦ kept.listed k x (sym (ap (λ (p : PairRow). is_here (end_place p x)) e) ∙ h)
          | is_new at e was ↦ absurd (not_here x (sym (ap (λ (p : PairRow). is_here (end_place p x)) e) ∙ h))
        ]

    pairs : HaveTheirPairs (draws a b c).rows
    pairs i h =
        let was_so = kept.pairs i h in
        elim (pushed c.rows.pairs (drawn_row a b) no_pair (pair_or_none (obj c.rows i).pair)) [
          | is_old e ↦ (ap (λ (p : PairRow). p.a_owner) e ∙ was_so.0, was_so.1 ∙ ap (λ (p : PairRow). Some p.b_owner) (sym e))
          | is_new at e was ↦
              let zero_is = ap (λ (p : PairRow). p.a_owner) (sym was) ∙ was_so.0 in
              absurd (none_is_some _ (sym kept.shape.root ∙ subst (λ (j : ℕ). (obj c.rows j).owner ≡ Some (pair c.rows (pair_or_none (obj c.rows i).pair)).b_owner) (sym zero_is) was_so.1))
        ]

-- ---- a pair is made, and the other end's bind is put
pub open_kept : (n : ℕ) (c : Control) (e : EndId) (peer : List ℕ) → KeptBut n c → may Opens (end_half (pair c.rows e.pair.0) e.a) (end_half (pair c.rows e.pair.0) (not e.a)) ≡ true → owner_of c e ≡ n →
    ((x : Bool) → has_ended (obj c.rows (end_owner (pair c.rows e.pair.0) x)).stage ≡ false) → KeptBut n (open_pair e (PipeBind (other_end e) peer) c)
open_kept n c e peer kept comes of unended =
    kept_of n (open_pair e (PipeBind (other_end e) peer) c) (rows_open n c.rows c.output_left e.pair.0 e.a (rows_of kept) comes of unended) mail
    (attached_listed c.rows e Opens c.attached there kept.listed)
    (names_same c.rows _ c.names (λ i u. record { socket = u.socket; unasked = u.unasked }) kept.names)
  where
    there : e.pair.0 < length c.rows.pairs
    there = pair_there c.rows e.pair.0 e.a Opens comes

    m : PairMoves Opens e.a (pair c.rows e.pair.0) (pair_after Opens e.a (pair c.rows e.pair.0))
    m = moves_after Opens e.a (pair c.rows e.pair.0) ((inv_of (rows_of kept)).phases e.pair.0) comes

    owners : (x : Bool) → end_owner (pair_after Opens e.a (pair c.rows e.pair.0)) x ≡ end_owner (pair c.rows e.pair.0) x
    owners x = after_owner Opens e.a x (pair c.rows e.pair.0)

    to : ℕ
    to = end_owner (pair c.rows e.pair.0) (not e.a)

    back : (x y : Bool) (q : List Mark) (f : Bool → List Mark) → (one_now (not x) q f x ≡ f x) × (one_now (not x) q f (not x) ≡ q)
    back true y q f = (refl, refl)
    back false y q f = (refl, refl)

    mine : end_marks (pair_after Opens e.a (pair c.rows e.pair.0)) e.a ≡ end_marks (pair c.rows e.pair.0) e.a
    mine = ap (λ (w : ℕ). map (end_mark w) (end_half (pair_after Opens e.a (pair c.rows e.pair.0)) e.a).mail) (owners e.a) ∙ ap (λ (h : Half). map (end_mark (end_owner (pair c.rows e.pair.0) e.a)) h.mail) m.mine

    theirs : end_marks (pair_after Opens e.a (pair c.rows e.pair.0)) (not e.a) ≡ map (end_mark (end_owner (pair c.rows e.pair.0) (not e.a))) ((end_half (pair c.rows e.pair.0) (not e.a)).mail ++ Binds ∷ [])
    theirs = ap (λ (w : ℕ). map (end_mark w) (end_half (pair_after Opens e.a (pair c.rows e.pair.0)) (not e.a)).mail) (owners (not e.a)) ∙ ap (λ (h : Half). map (end_mark (end_owner (pair c.rows e.pair.0) (not e.a))) h.mail) m.theirs

    put_so : (w : ℕ) → end_owner (pair c.rows e.pair.0) (not e.a) ≡ w → let slot = slot_of (attach Opens e c).rows (EndLink e.pair.0 (not e.a)) in
        IsDelivered (attach Opens e c).rows (with_value slot (c.boxes slot ++ record { to = id w; word = PipeBind (other_end e) peer } ∷ []) c.boxes)
    put_so w is =
        let b = back e.a e.a (queue c.rows (EndLink e.pair.0 (not e.a)) ++ end_mark w Binds ∷ []) (end_marks (pair c.rows e.pair.0)) in
        pair_put c.rows e.pair.0 (pair_after Opens e.a (pair c.rows e.pair.0)) (not e.a) (end_marks (pair c.rows e.pair.0)) (queue c.rows) c.boxes (record { to = id w; word = PipeBind (other_end e) peer }) (end_mark w Binds) there owners
        (rows_pair_queues c.rows e.pair.0) kept.delivered (λ link. refl)
        (sides (λ x. one_now (not e.a) (queue c.rows (EndLink e.pair.0 (not e.a)) ++ end_mark w Binds ∷ []) (end_marks (pair c.rows e.pair.0)) x ≡ end_marks (pair_after Opens e.a (pair c.rows e.pair.0)) x) e.a
        (b.0 ∙ sym mine)
        (b.1 ∙ ap (λ (v : ℕ). queue c.rows (EndLink e.pair.0 (not e.a)) ++ end_mark v Binds ∷ []) (sym is) ∙ map_more (end_mark (end_owner (pair c.rows e.pair.0) (not e.a))) (end_half (pair c.rows e.pair.0) (not e.a)).mail Binds ∙ sym theirs))

    owner_now : end_owner (pair c.rows e.pair.0) (not e.a) ≡ owner_of (attach Opens e c) (other_end e)
    owner_now = sym (owners (not e.a)) ∙ ap (λ (p : PairRow). end_owner p (not e.a)) (sym (get_or-set_same c.rows.pairs e.pair.0 (pair_after Opens e.a (pair c.rows e.pair.0)) no_pair there))

    mail : IsDelivered (open_pair e (PipeBind (other_end e) peer) c).rows (open_pair e (PipeBind (other_end e) peer) c).boxes
    mail = put_so (owner_of (attach Opens e c) (other_end e)) owner_now

-- ---- both ends of a pair whose number was drawn
twice : (b : Bool) → not (not b) ≡ b
twice true = refl
twice false = refl

drawn_place : (ph : Phase) (r : Bool) → is_unmade (place_in ph r) ≡ true → place_in ph (not r) ≡ Unmade
drawn_place Drawn r h = refl
drawn_place Over true h = absurd (never h)
drawn_place _ true h = absurd (never h)
drawn_place Over false h = absurd (never h)
drawn_place _ false h = absurd (never h)

drawn_both : (p : PairRow) → IsInPhase p → (a : Bool) → end_place p a ≡ Unmade → end_place p (not a) ≡ Unmade
drawn_both p h true e = h.b_is ∙ drawn_place h.phase h.first (ap is_unmade (sym h.a_is ∙ e))
drawn_both p h false e = h.a_is ∙ ap (place_in h.phase) (sym (twice h.first)) ∙ drawn_place h.phase (not h.first) (ap is_unmade (sym h.b_is ∙ e))

pub may_open : (s : Rows) (k : ℕ) (a : Bool) → Inv s → end_place (pair s k) a ≡ Unmade → may Opens (end_half (pair s k) a) (end_half (pair s k) (not a)) ≡ true
may_open s k a fits e = and _ _ (ap is_unmade e) (ap is_unmade (drawn_both (pair s k) (fits.phases k) a e))

-- ---- a pair is made for an object that was not asked, and its end greeted
pub opened_kept : (n : ℕ) (c : Control) (e : EndId) (peer : List ℕ) (kind : Attached) → KeptBut n c → end_place (pair c.rows e.pair.0) e.a ≡ Unmade → owner_of c e ≡ n →
    ((x : Bool) → has_ended (obj c.rows (end_owner (pair c.rows e.pair.0) x)).stage ≡ false) →
    KeptBut n (greet kind e (open_pair e (PipeBind (other_end e) peer) c)) × ((greet kind e (open_pair e (PipeBind (other_end e) peer) c)).rows.objects ≡ c.rows.objects)
opened_kept n c e peer kind kept unmade of unended =
    let comes = may_open c.rows e.pair.0 e.a (inv_of (rows_of kept)) unmade in
    let m = attach_moved c Opens e (pair_there c.rows e.pair.0 e.a Opens comes) in (
      greet_kept n kind e (open_pair e (PipeBind (other_end e) peer) c) (open_kept n c e peer kept comes of unended) (m.owners e ∙ of),
      (greets true kind e (open_pair e (PipeBind (other_end e) peer) c)).leaves.objects,
    )

-- an object with a child that is not over has not ended
pub owner_lives : (s : Rows) (d w : ℕ) → Inv s → (obj s d).owner ≡ Some w → is_cleared (obj s d).stage ≡ false → has_ended (obj s w).stage ≡ false
owner_lives s d w fits of busy = by (has_ended (obj s w).stage) refl
  where
    by : (x : Bool) → has_ended (obj s w).stage ≡ x → has_ended (obj s w).stage ≡ false
    by false e = e
    by true e = absurd (clash (is_cleared (obj s d).stage) (left _ _ ((fits.closed w e).children d of)) busy)

pub unended_uncleared : (s : Stage) → has_ended s ≡ false → is_cleared s ≡ false
unended_uncleared Alive h = refl
unended_uncleared Told h = refl
unended_uncleared Ending h = refl
unended_uncleared Finished h = absurd (never (sym h))
unended_uncleared Cleared h = absurd (never (sym h))

pub shaken_kept : (c : Control) (o : ObjId) (peer : Peer) (h : Answers) → Kept c → MayShake c o.0 → Kept (requested (Shaken o peer) h c)
shaken_kept c o peer h kept may_shake =
    kept_unasked o.0 (requested (Shaken o peer) h c) so.0 (ap (λ (l : List Row). was_asked (slice_index_or l o.0 nobody).stage) so.1 ∙ may_shake.unasked)
  where
    k : ℕ
    k = pair_or_none (obj c.rows o.0).pair

    mine : ((pair c.rows (pair_or_none (obj c.rows o.0).pair)).a_owner ≡ o.0) × ((obj c.rows o.0).owner ≡ Some (pair c.rows (pair_or_none (obj c.rows o.0).pair)).b_owner)
    mine = kept.pairs o.0 may_shake.accepted

    fits : Inv c.rows
    fits = inv_of (rows_of (kept_but o.0 c kept))

    unended : (x : Bool) → has_ended (obj c.rows (end_owner (pair c.rows (pair_or_none (obj c.rows o.0).pair)) x)).stage ≡ false
    unended true = ap (λ (i : ℕ). has_ended (obj c.rows i).stage) mine.0 ∙ may_shake.taken_in.lives
    unended false = owner_lives c.rows o.0 (pair c.rows (pair_or_none (obj c.rows o.0).pair)).b_owner fits mine.1 (unended_uncleared (obj c.rows o.0).stage may_shake.taken_in.lives)

    so : KeptBut o.0 (requested (Shaken o peer) h c) × ((requested (Shaken o peer) h c).rows.objects ≡ c.rows.objects)
    so = opened_kept o.0 c (end_of (pair_or_none (obj c.rows o.0).pair) true) peer.identity (h.kind (end_of (pair_or_none (obj c.rows o.0).pair) true)) (kept_but o.0 c kept) may_shake.unmade mine.0 unended
