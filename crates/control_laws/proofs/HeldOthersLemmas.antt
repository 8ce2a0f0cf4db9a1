-- An event leaves what the holders of other objects have.
use Rattle.std.specs.Prelude.{◌≡◌, ◌<◌, ◌==◌, ◌||◌, ℕ, Bool, true, false, cond, List, [], ◌∷◌, Option, All, map, filter, refl}
use Rattle.std.proofs.Common.{arith, sym, ap, ◌∙◌, subst}
use Rattle.std.proofs.lemmas.Bool.{eqb-true}
use Rattle.std.proofs.lemmas.List.Elements.{All-head, All-tail, All-weaker, All-filter, filter_passes}
use Rattle.zq_base.specs.declared.ids.EndId.{EndId}
use Rattle.spec_control.specs.declared.end.Reason.{Reason}
use Rattle.spec_control.specs.declared.end.EndState.{EndState}
use Rattle.spec_control.specs.Place.{Place, Unmade, Away, At, is_here}
use Rattle.spec_control.specs.Control.{Control, begun, is_end, met_in, next_pair, owner_of, place_of, ends_of}
use Rattle.spec_control.specs.After.{after}
use Rattle.spec_control.specs.ControlRun.{after_all}
use Rattle.spec_control.specs.Held.{Held}
use Rattle.control_laws.proofs.ListLemmas.{never}
use Rattle.control_laws.proofs.AskLemmas.{same_end}
use Rattle.control_laws.specs.Spared.{shown, Known, Spared}
use Rattle.control_laws.proofs.EventLemmas.{other_ends_stay}
use Rattle.desk.specs.Holding.{Holding, has_end}
use Rattle.desk.specs.Lent.{has_writer, here_ends, HasEnds}
use Rattle.control_laws.specs.HeldLaws.{OtherHoldersStay}
use Rattle.control_laws.proofs.HeldStepLemmas.{known_after}

-- what is read of an end is read of where it is shown
shown_here : (p : Place) → is_here (shown p) ≡ is_here p
shown_here Unmade = refl
shown_here Away = refl
shown_here (At state) = refl

shown_writer : (p : Place) → has_writer (shown p) ≡ has_writer p
shown_writer Unmade = refl
shown_writer Away = refl
shown_writer (At state) = refl

shown_met : (p : Place) (reason : Option Reason) → met_in (shown p) reason ≡ met_in p reason
shown_met Unmade reason = refl
shown_met Away reason = refl
shown_met (At state) reason = refl

same_filter : (f g : EndId → Bool) (es : List EndId) → All (λ e. f e ≡ g e) es → filter f es ≡ filter g es
same_filter f g [] all = refl
same_filter f g (e ∷ es) all =
    ap (λ (b : Bool). cond b (e ∷ filter f es) (filter f es)) (All-head (λ x. f x ≡ g x) e es all)
    ∙ ap (λ (ys : List EndId). cond (g e) (e ∷ ys) ys) (same_filter f g es (All-tail (λ x. f x ≡ g x) e es all))

-- what is so of each of these ends is so of one that is among them
pub among : {N : Type 0} (P : EndId → Type 0) (hs : List (Held N)) → All P (map (λ x. x.end) hs) → (e : EndId) → has_end e hs ≡ true → P e
among P [] all e is = absurd (never is)
among P (h ∷ hs) all e is = by (is_end e h.end) refl (among P hs (All-tail P h.end (map (λ x. x.end) hs) all) e) is
  where
    by : (b : Bool) → is_end e h.end ≡ b → (has_end e hs ≡ true → P e) → (b || has_end e hs) ≡ true → P e
    by true same rest found = subst P (sym (same_end e h.end same)) (All-head P h.end (map (λ x. x.end) hs) all)
    by false other rest found = rest found

-- an attached end of this object
pub record IsIts (c : Control) (i : ℕ) (e : EndId) : Type 0 where
  pub within : e.pair.0 < next_pair c
  pub own : owner_of c e ≡ i

module _ (c : Control) (i : ℕ) (known : Known c) where
  pub its_ends : All (IsIts c i) (ends_of i c)
  its_ends = both (ends_of i c) (All-filter (λ e. owner_of c e == i) (λ e. e.pair.0 < next_pair c) c.attached known) (filter_passes (λ e. owner_of c e == i) c.attached)
    where
      both : (es : List EndId) → All (λ e. e.pair.0 < next_pair c) es → All (λ e. (owner_of c e == i) ≡ true) es → All (IsIts c i) es
      both es within own k d lt = record { within = within k d lt; own = eqb-true (owner_of c _) i (own k d lt) }

  pub its_here : All (IsIts c i) (here_ends c.rows.pairs c.attached i)
  its_here = All-filter (λ e. is_here (place_of c e)) (IsIts c i) (ends_of i c) its_ends

at_shown : (p : Place) (s : EndState) → shown p ≡ At s → p ≡ At s
at_shown Unmade s h = absurd (away_at h)
  where
    away_at : Away ≡ At s → ⊥
    away_at f = Prim.grind arith
at_shown Away s h = absurd (away_at h)
  where
    away_at : Away ≡ At s → ⊥
    away_at f = Prim.grind arith
at_shown (At state) s h = h

module _ {N : Type 0} (names : EndId → Option N) (c d : Control) (i : ℕ) (known : Known c) (spared : Spared i c d) where
  same_list : here_ends d.rows.pairs d.attached i ≡ here_ends c.rows.pairs c.attached i
  same_list =
      ap (filter (λ e. is_here (place_of d e))) spared.attached
      ∙ same_filter (λ e. is_here (place_of d e)) (λ e. is_here (place_of c e)) (ends_of i c) (All-weaker (IsIts c i) (λ e. is_here (place_of d e) ≡ is_here (place_of c e)) same (ends_of i c) (its_ends c i known))
    where
      same : (e : EndId) → IsIts c i e → is_here (place_of d e) ≡ is_here (place_of c e)
      same e its = sym (shown_here (place_of d e)) ∙ ap is_here (spared.places e its.within its.own) ∙ shown_here (place_of c e)

  pub spares_holder : (h : Holding N) → HasEnds names c.rows.pairs c.attached c.reasons h i → HasEnds names d.rows.pairs d.attached d.reasons h i
  spares_holder h has = record {
    ends = has.ends ∙ sym same_list;
    named = has.named;
    writes = λ e here. has.writes e here ∙ writer e (its e here);
    delimiters = λ e here met. has.delimiters e here (sym (met_same e (its e here)) ∙ met);
    states = λ e here. at_shown (place_of d e) (h.state e) (spared.places e (its e here).within (its e here).own ∙ ap shown (has.states e here));
  }
    where
      its : (e : EndId) → has_end e (h.ends i) ≡ true → IsIts c i e
      its e here = among (IsIts c i) (h.ends i) (subst (λ (es : List EndId). All (IsIts c i) es) (sym has.ends) (its_here c i known)) e here

      writer : (e : EndId) → IsIts c i e → has_writer (place_of c e) ≡ has_writer (place_of d e)
      writer e at = sym (shown_writer (place_of c e)) ∙ ap has_writer (sym (spared.places e at.within at.own)) ∙ shown_writer (place_of d e)

      met_same : (e : EndId) → IsIts c i e → met_in (place_of d e) (d.reasons e) ≡ met_in (place_of c e) (c.reasons e)
      met_same e at =
          ap (met_in (place_of d e)) (spared.reasons e at.within at.own) ∙ sym (shown_met (place_of d e) (c.reasons e))
          ∙ ap (λ (p : Place). met_in p (c.reasons e)) (spared.places e at.within at.own) ∙ shown_met (place_of c e) (c.reasons e)

pub other_holders_stay : (N S : Type 0) → OtherHoldersStay N S
other_holders_stay N S workers items run did fits names h other has i holds =
    spares_holder names (after_all items (begun workers)) (after did (after_all items (begun workers))) i (known_after workers items run)
    (other_ends_stay N S workers items run did fits i (other i holds)) h (has i holds)
