-- How the kept pairs change, and that they stay those of the control state.
use Rattle.std.specs.Prelude.{◌≡◌, ◌<◌, ◌⊎◌, ◌&&◌, ℕ, Bool, true, false, not, if◌then◌else◌, List, Option, None, length, slice_index_or, slice_set, refl}
use Rattle.std.proofs.Common.{arith, sym, ap, ◌∙◌, subst, inl, inr}
use Rattle.std.proofs.lemmas.Bool.{false≢true, cases_eq, eq-eqb, ne_eqb}
use Rattle.std.proofs.lemmas.List.{get_or_read, get_or-set_same, get_or-set_other, length-set}
use Rattle.zq_base.specs.Ends.{other_end}
use Rattle.zq_base.specs.declared.ids.EndId.{EndId}
use Rattle.spec_control.specs.declared.end.EndEvent.{EndEvent}
use Rattle.spec_control.specs.declared.end.EndEvent.TheVariants.{Asked, TermCame, DelimiterSeen, AckCame}
use Rattle.spec_control.specs.declared.end.Reason.{Reason}
use Rattle.spec_control.specs.EndLife.{new_life}
use Rattle.spec_control.specs.Place.{Place}
use Rattle.spec_control.specs.PairPhase.{Opens, BindCame, Happens, place_after}
use Rattle.spec_control.specs.Rows.{PairRow, no_pair, with_places, end_place, end_owner, pair_after}
use Rattle.spec_control.specs.Control.{with_end, same_side, reason_in, commands_in}
use Rattle.ctl_state.specs.declared.pair.Spot.{Spot}
use Rattle.ctl_state.specs.declared.pair.Spot.TheVariants.{Unmade, Away, At, Over}
use Rattle.ctl_state.specs.declared.pair.Entry.{Entry}
use Rattle.ctl_state.specs.Pairs.{place_at, reason_at, spot_in, struck_in, owner_in, spot_comes, spot_after, spot_commands, entry_with, entry_struck, entry_open, no_entry, entry_at, spot_at, struck_at, with_spot, pair_row, ArePairs}
use Rattle.ctl_state.proofs.ReadLemmas.{placed_where, read_kept}

nobody_comes : (event : EndEvent) (a : Bool) → spot_comes event (spot_in no_entry a) ≡ false
nobody_comes event true = refl
nobody_comes event false = refl

-- a pair to an end of which an event may come is there
pub coming_placed : (event : EndEvent) (a : Bool) (entries : List Entry) (k : ℕ) → spot_comes event (spot_in (slice_index_or entries k no_entry) a) ≡ true → k < length entries
coming_placed event a entries k h =
    placed_where (λ (p : Entry). spot_comes event (spot_in p a)) entries k no_entry (λ e. false≢true (sym (nobody_comes event a) ∙ sym e ∙ h))

-- what is to be done is read of the pair in the table
pub commands_read : (event : EndEvent) (a : Bool) (inside entries : List Entry) (k : ℕ) (p : Entry) → inside ≡ entries → p ≡ slice_index_or inside k p →
    spot_comes event (spot_in (slice_index_or entries k no_entry) a) ≡ true → spot_commands event (spot_in p a) ≡ spot_commands event (spot_in (slice_index_or entries k no_entry) a)
commands_read event a inside entries k p same is h =
    ap (λ (q : Entry). spot_commands event (spot_in q a)) (get_or_read inside k p within is no_entry) ∙ ap (λ (es : List Entry). spot_commands event (spot_in (slice_index_or es k no_entry) a)) same
  where
    within : k < length inside
    within = subst (λ (es : List Entry). k < length es) (sym same) (coming_placed event a entries k h)

-- where an end is behind an event, and why it was asked, as the control state has it
stepped_place : (event : EndEvent) (s : Spot) → place_at (spot_after event s) ≡ place_after (Happens event) (place_at s)
stepped_place event Unmade = refl
stepped_place event Away = refl
stepped_place event (At life) = refl
stepped_place (Asked reason delay) Over = refl
stepped_place TermCame Over = refl
stepped_place DelimiterSeen Over = refl
stepped_place AckCame Over = refl

stepped_reason : (event : EndEvent) (s : Spot) → reason_in event (place_at s) (reason_at s) ≡ reason_at (spot_after event s)
stepped_reason event Unmade = refl
stepped_reason event Away = refl
stepped_reason event (At life) = refl
stepped_reason (Asked reason delay) Over = refl
stepped_reason TermCame Over = refl
stepped_reason DelimiterSeen Over = refl
stepped_reason AckCame Over = refl

pub stepped_commands : (event : EndEvent) (s : Spot) → spot_commands event s ≡ commands_in event (place_at s)
stepped_commands event Unmade = refl
stepped_commands event Away = refl
stepped_commands event (At life) = refl
stepped_commands (Asked reason delay) Over = refl
stepped_commands TermCame Over = refl
stepped_commands DelimiterSeen Over = refl
stepped_commands AckCame Over = refl

stepped_row : (event : EndEvent) (a : Bool) (p : Entry) → pair_row (entry_with a (spot_after event (spot_in p a)) p) ≡ pair_after (Happens event) a (pair_row p)
stepped_row event true p = ap (λ (w : Place). with_places true w (place_at p.b) (pair_row p)) (stepped_place event p.a)
stepped_row event false p = ap (λ (w : Place). with_places false w (place_at p.a) (pair_row p)) (stepped_place event p.b)

bound_row : (a : Bool) (p : Entry) → pair_row (entry_with a (At new_life) p) ≡ pair_after BindCame a (pair_row p)
bound_row true p = refl
bound_row false p = refl

open_row : (a : Bool) (p : Entry) → pair_row (entry_open a p) ≡ pair_after Opens a (pair_row p)
open_row true p = refl
open_row false p = refl

-- where a side's end is
pub row_place : (p : Entry) (a : Bool) → end_place (pair_row p) a ≡ place_at (spot_in p a)
row_place p true = refl
row_place p false = refl

pub row_owner : (p : Entry) (a : Bool) → end_owner (pair_row p) a ≡ (owner_in p a).0
row_owner p true = refl
row_owner p false = refl

-- a function of ends that a write changes at its end alone
side_reason : (a b : Bool) (s : Spot) (p : Entry) (x r : Option Reason) → x ≡ reason_at s → r ≡ reason_at (spot_in p b) →
    (if same_side b a then x else r) ≡ reason_at (spot_in (entry_with a s p) b)
side_reason true true s p x r h k = h
side_reason true false s p x r h k = k
side_reason false true s p x r h k = k
side_reason false false s p x r h k = h

side_kept : (a b : Bool) (s : Spot) (p : Entry) → reason_at s ≡ reason_at (spot_in p a) → reason_at (spot_in (entry_with a s p) b) ≡ reason_at (spot_in p b)
side_kept true true s p h = h
side_kept true false s p h = refl
side_kept false true s p h = refl
side_kept false false s p h = h

open_reason : (a b : Bool) (p : Entry) → reason_at (spot_in p a) ≡ None → reason_at (spot_in p (not a)) ≡ None → reason_at (spot_in (entry_open a p) b) ≡ reason_at (spot_in p b)
open_reason true true p h k = sym h
open_reason true false p h k = sym k
open_reason false true p h k = sym k
open_reason false false p h k = sym h

with_struck : (a b : Bool) (s : Spot) (p : Entry) → struck_in (entry_with a s p) b ≡ struck_in p b
with_struck true true s p = refl
with_struck true false s p = refl
with_struck false true s p = refl
with_struck false false s p = refl

open_struck : (a b : Bool) (p : Entry) → struck_in (entry_open a p) b ≡ struck_in p b
open_struck true true p = refl
open_struck true false p = refl
open_struck false true p = refl
open_struck false false p = refl

module _ (es : List Entry) (rows : List PairRow) (reasons : EndId → Option Reason) (struck : EndId → Bool) (k : ℕ) (p : Entry) (within : k < length es) (h : ArePairs es rows reasons struck) where
  was : slice_index_or rows k no_pair ≡ pair_row (entry_at es k)
  was = h.each k

  -- the rows go with the pairs
  rows_go : (q : PairRow) → pair_row p ≡ q → (j : ℕ) → slice_index_or (slice_set rows k q) j no_pair ≡ pair_row (entry_at (slice_set es k p) j)
  rows_go q e j =
      elim (cases_eq j k) [
        | inl same ↦ subst (λ (n : ℕ). slice_index_or (slice_set rows k q) n no_pair ≡ pair_row (entry_at (slice_set es k p) n)) (sym same)
            (get_or-set_same rows k q no_pair (subst (λ (n : ℕ). k < n) (sym h.many) within) ∙ sym e ∙ ap pair_row (sym (get_or-set_same es k p no_entry within)))
        | inr other ↦ get_or-set_other rows k j q no_pair other ∙ h.each j ∙ ap pair_row (sym (get_or-set_other es k j p no_entry other))
      ]

  -- what is read of an end, of this pair and of others
  here_of : {X : Type 0} (g : Entry → X) (j : ℕ) → j ≡ k → g (entry_at (slice_set es k p) j) ≡ g p
  here_of g j same = ap (λ (n : ℕ). g (entry_at (slice_set es k p) n)) same ∙ ap g (get_or-set_same es k p no_entry within)

  there_of : {X : Type 0} (g : Entry → X) (j : ℕ) → (j ≡ k → ⊥) → g (entry_at (slice_set es k p) j) ≡ g (entry_at es j)
  there_of g j other = ap g (get_or-set_other es k j p no_entry other)

  struck_go : ((b : Bool) → struck_in p b ≡ struck_in (entry_at es k) b) → (d : EndId) → struck d ≡ struck_at (slice_set es k p) d
  struck_go same d =
      elim (cases_eq d.pair.0 k) [
        | inl e ↦ h.struck_are d ∙ ap (λ (n : ℕ). struck_in (entry_at es n) d.a) e ∙ sym (same d.a) ∙ sym (here_of (λ (x : Entry). struck_in x d.a) d.pair.0 e)
        | inr other ↦ h.struck_are d ∙ sym (there_of (λ (x : Entry). struck_in x d.a) d.pair.0 other)
      ]

  reasons_stay : ((b : Bool) → reason_at (spot_in p b) ≡ reason_at (spot_in (entry_at es k) b)) → (d : EndId) → reasons d ≡ reason_at (spot_at (slice_set es k p) d)
  reasons_stay same d =
      elim (cases_eq d.pair.0 k) [
        | inl e ↦ h.reasons_are d ∙ ap (λ (n : ℕ). reason_at (spot_in (entry_at es n) d.a)) e ∙ sym (same d.a) ∙ sym (here_of (λ (x : Entry). reason_at (spot_in x d.a)) d.pair.0 e)
        | inr other ↦ h.reasons_are d ∙ sym (there_of (λ (x : Entry). reason_at (spot_in x d.a)) d.pair.0 other)
      ]

  -- a pair is written, and no reason changes
  pub written_stand : (q : PairRow) → pair_row p ≡ q → ((b : Bool) → reason_at (spot_in p b) ≡ reason_at (spot_in (entry_at es k) b)) →
      ((b : Bool) → struck_in p b ≡ struck_in (entry_at es k) b) → ArePairs (slice_set es k p) (slice_set rows k q) reasons struck
  written_stand q e same_reasons same_struck = record {
    each = rows_go q e;
    many = length-set rows k q ∙ h.many ∙ sym (length-set es k p);
    reasons_are = reasons_stay same_reasons;
    struck_are = struck_go same_struck;
  }

module _ (es : List Entry) (rows : List PairRow) (reasons : EndId → Option Reason) (struck : EndId → Bool) (e : EndId) (within : e.pair.0 < length es) (h : ArePairs es rows reasons struck) where
  abbrev k : ℕ
  k = e.pair.0

  abbrev p : Entry
  p = entry_at es k

  -- an event of an end
  pub step_pairs : (event : EndEvent) →
      ArePairs (with_spot e (spot_after event (spot_at es e)) es) (slice_set rows k (pair_after (Happens event) e.a (slice_index_or rows k no_pair)))
      (with_end e (reason_in event (end_place (slice_index_or rows k no_pair) e.a) (reasons e)) reasons) struck
  step_pairs event = record {
    each = rows_go es rows reasons struck k now within h (pair_after (Happens event) e.a (slice_index_or rows k no_pair)) (stepped_row event e.a p ∙ ap (pair_after (Happens event) e.a) (sym (h.each k)));
    many = length-set rows k _ ∙ h.many ∙ sym (length-set es k now);
    reasons_are = λ d. reasons_go d (cases_eq d.pair.0 k);
    struck_are = struck_go es rows reasons struck k now within h (λ b. with_struck e.a b (spot_after event (spot_at es e)) p);
  }
    where
      now : Entry
      now = entry_with e.a (spot_after event (spot_at es e)) p

      reason : Option Reason
      reason = reason_in event (end_place (slice_index_or rows k no_pair) e.a) (reasons e)

      reason_is : reason ≡ reason_at (spot_after event (spot_at es e))
      reason_is =
          ap (λ (r : PairRow). reason_in event (end_place r e.a) (reasons e)) (h.each k)
          ∙ ap (λ (w : Place). reason_in event w (reasons e)) (row_place p e.a)
          ∙ ap (reason_in event (place_at (spot_in p e.a))) (h.reasons_are e)
          ∙ stepped_reason event (spot_at es e)

      reasons_go : (d : EndId) → (d.pair.0 ≡ k) ⊎ (d.pair.0 ≡ k → ⊥) → with_end e reason reasons d ≡ reason_at (spot_at (slice_set es k now) d)
      reasons_go d (inl same) =
          ap (λ (t : Bool). if t && same_side d.a e.a then reason else reasons d) (eq-eqb d.pair.0 k same)
          ∙ side_reason e.a d.a (spot_after event (spot_at es e)) p reason (reasons d) reason_is (h.reasons_are d ∙ ap (λ (n : ℕ). reason_at (spot_in (entry_at es n) d.a)) same)
          ∙ sym (here_of es rows reasons struck k now within h (λ (x : Entry). reason_at (spot_in x d.a)) d.pair.0 same)
      reasons_go d (inr other) =
          ap (λ (t : Bool). if t && same_side d.a e.a then reason else reasons d) (ne_eqb d.pair.0 k other)
          ∙ h.reasons_are d ∙ sym (there_of es rows reasons struck k now within h (λ (x : Entry). reason_at (spot_in x d.a)) d.pair.0 other)

  -- an end's bind comes
  pub bind_pairs : spot_at es e ≡ Away →
      ArePairs (with_spot e (At new_life) es) (slice_set rows k (pair_after BindCame e.a (slice_index_or rows k no_pair))) reasons struck
  bind_pairs away =
      written_stand es rows reasons struck k (entry_with e.a (At new_life) p) within h (pair_after BindCame e.a (slice_index_or rows k no_pair))
      (bound_row e.a p ∙ ap (pair_after BindCame e.a) (sym (h.each k)))
      (λ b. side_kept e.a b (At new_life) p (sym (ap reason_at away)))
      (λ b. with_struck e.a b (At new_life) p)

  -- a pair is made
  pub open_pairs : spot_at es e ≡ Unmade → spot_at es (other_end e) ≡ Unmade →
      ArePairs (slice_set es k (entry_open e.a p)) (slice_set rows k (pair_after Opens e.a (slice_index_or rows k no_pair))) reasons struck
  open_pairs mine theirs =
      written_stand es rows reasons struck k (entry_open e.a p) within h (pair_after Opens e.a (slice_index_or rows k no_pair))
      (open_row e.a p ∙ ap (pair_after Opens e.a) (sym (h.each k)))
      (λ b. open_reason e.a b p (ap reason_at mine) (ap reason_at theirs))
      (λ b. open_struck e.a b p)

  -- where the end is behind an event
  pub step_at : (event : EndEvent) → place_after (Happens event) (end_place (slice_index_or rows k no_pair) e.a) ≡ place_at (spot_after event (spot_at es e))
  step_at event = ap (place_after (Happens event)) (ap (λ (r : PairRow). end_place r e.a) (h.each k) ∙ row_place p e.a) ∙ sym (stepped_place event (spot_at es e))

  -- the connect of an end is struck
  pub strike_pairs : ArePairs (slice_set es k (entry_struck e.a p)) rows reasons (with_end e true struck)
  strike_pairs = record {
    each = λ j. h.each j ∙ sym (read_kept pair_row es k j (entry_struck e.a p) no_entry (struck_row e.a p));
    many = h.many ∙ sym (length-set es k (entry_struck e.a p));
    reasons_are = λ d. h.reasons_are d ∙ sym (read_kept (λ (x : Entry). reason_at (spot_in x d.a)) es k d.pair.0 (entry_struck e.a p) no_entry (struck_reason e.a d.a p));
    struck_are = λ d. at d (cases_eq d.pair.0 k);
  }
    where
      struck_row : (a : Bool) (x : Entry) → pair_row (entry_struck a x) ≡ pair_row x
      struck_row true x = refl
      struck_row false x = refl

      struck_reason : (a b : Bool) (x : Entry) → reason_at (spot_in (entry_struck a x) b) ≡ reason_at (spot_in x b)
      struck_reason true true x = refl
      struck_reason true false x = refl
      struck_reason false true x = refl
      struck_reason false false x = refl

      side_struck : (a b : Bool) (x : Entry) (t : Bool) → t ≡ struck_in x b → (if same_side b a then true else t) ≡ struck_in (entry_struck a x) b
      side_struck true true x t i = refl
      side_struck true false x t i = i
      side_struck false true x t i = i
      side_struck false false x t i = refl

      at : (d : EndId) → (d.pair.0 ≡ k) ⊎ (d.pair.0 ≡ k → ⊥) → with_end e true struck d ≡ struck_at (slice_set es k (entry_struck e.a p)) d
      at d (inl same) =
          ap (λ (t : Bool). if t && same_side d.a e.a then true else struck d) (eq-eqb d.pair.0 k same)
          ∙ side_struck e.a d.a p (struck d) (h.struck_are d ∙ ap (λ (n : ℕ). struck_in (entry_at es n) d.a) same)
          ∙ sym (ap (λ (n : ℕ). struck_in (entry_at (slice_set es k (entry_struck e.a p)) n) d.a) same
          ∙ ap (λ (x : Entry). struck_in x d.a) (get_or-set_same es k (entry_struck e.a p) no_entry within))
      at d (inr other) =
          ap (λ (t : Bool). if t && same_side d.a e.a then true else struck d) (ne_eqb d.pair.0 k other)
          ∙ h.struck_are d ∙ sym (ap (λ (x : Entry). struck_in x d.a) (get_or-set_other es k d.pair.0 (entry_struck e.a p) no_entry other))

nobody_is_away : (a : Bool) → spot_in no_entry a ≡ Over
nobody_is_away true = refl
nobody_is_away false = refl

-- a pair of which an end is away, or not made, is there
pub away_placed : (es : List Entry) (e : EndId) → spot_at es e ≡ Away → e.pair.0 < length es
away_placed es e h = placed_where (λ (p : Entry). spot_in p e.a) es e.pair.0 no_entry (λ same. other (sym (nobody_is_away e.a) ∙ sym same ∙ h))
  where
    other : Over ≡ Away → ⊥
    other k = Prim.grind arith

pub unmade_placed : (es : List Entry) (e : EndId) → spot_at es e ≡ Unmade → e.pair.0 < length es
unmade_placed es e h = placed_where (λ (p : Entry). spot_in p e.a) es e.pair.0 no_entry (λ same. other (sym (nobody_is_away e.a) ∙ sym same ∙ h))
  where
    other : Over ≡ Unmade → ⊥
    other k = Prim.grind arith
