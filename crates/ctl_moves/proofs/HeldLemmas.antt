-- The ends that a holder has, by the control state.
use Rattle.std.specs.Prelude.{◌≡◌, ◌==◌, ◌||◌, ◌∷◌, [], ℕ, Bool, true, false, not, cond, List, Option, Some, None, All, map, filter, if◌then◌else◌, refl}
use Rattle.std.specs.List.{list_any}
use Rattle.std.proofs.Common.{arith, sym, ap, ◌∙◌}
use Rattle.std.proofs.lemmas.Bool.{eq-eqb}
use Rattle.std.proofs.lemmas.List.Elements.{All-head, All-tail, filter_agree}
use Rattle.zq_base.specs.Ends.{other_end}
use Rattle.zq_base.specs.declared.ids.EndId.{EndId}
use Rattle.spec_control.specs.declared.end.Reason.{Reason}
use Rattle.spec_control.specs.Place.{is_here}
use Rattle.spec_control.specs.Rows.{PairRow}
use Rattle.spec_control.specs.Control.{is_end}
use Rattle.spec_control.specs.Held.{Held}
use Rattle.control_laws.proofs.ListLemmas.{never}
use Rattle.control_laws.proofs.AskLemmas.{same_end}
use Rattle.desk.specs.Holding.{Holding, has_end, written_in, read_in}
use Rattle.desk.specs.Lent.{place_by, owner_by, here_ends, HasBothNames, HasEnds}

pub other_twice : (e : EndId) → other_end (other_end e) ≡ e
other_twice e = by e.a
  where
    by : (b : Bool) → ◌≡◌ {A = EndId} (record { pair = e.pair; a = not (not b) }) (record { pair = e.pair; a = b })
    by true = refl
    by false = refl

-- an end of a list that passes a test is among those that pass it
pub among : (p : EndId → Bool) (e : EndId) (es : List EndId) → p e ≡ true → list_any (is_end e) es ≡ true → list_any (is_end e) (filter p es) ≡ true
among p e [] passes h = h
among p e (d ∷ es) passes h = by (is_end e d) refl h (among p e es passes)
  where
    first : (b : Bool) → p d ≡ b → is_end e d ≡ true → list_any (is_end e) (cond b (d ∷ filter p es) (filter p es)) ≡ true
    first true i same = ap (λ (z : Bool). z || list_any (is_end e) (filter p es)) same
    first false i same = absurd (never (sym i ∙ ap p (sym (same_end e d same)) ∙ passes))

    or_true : (b : Bool) → (b || true) ≡ true
    or_true true = refl
    or_true false = refl

    rest : (b : Bool) → list_any (is_end e) (filter p es) ≡ true → list_any (is_end e) (cond b (d ∷ filter p es) (filter p es)) ≡ true
    rest true k = ap (λ (z : Bool). is_end e d || z) k ∙ or_true (is_end e d)
    rest false k = k

    by : (x : Bool) → is_end e d ≡ x → (x || list_any (is_end e) es) ≡ true → (list_any (is_end e) es ≡ true → list_any (is_end e) (filter p es) ≡ true) →
        list_any (is_end e) (cond (p d) (d ∷ filter p es) (filter p es)) ≡ true
    by true same k later = first (p d) refl same
    by false other k later = rest (p d) (later k)

module _ {N : Type 0} where
  -- a holder has an end where it stands in the list of its ends
  pub has_listed : (e : EndId) (hs : List (Held N)) → has_end e hs ≡ list_any (is_end e) (map (λ x. x.end) hs)
  has_listed e [] = refl
  has_listed e (x ∷ hs) = ap (λ (b : Bool). is_end e x.end || b) (has_listed e hs)

  -- the names that are found are those of the pipes
  pub written_is : (names : EndId → Option N) (e : EndId) (hs : List (Held N)) (n : N) → All (HasBothNames names) hs → written_in hs e ≡ Some n → names e ≡ Some n
  written_is names e [] n all h = absurd (none_some h)
    where
      none_some : None ≡ Some n → ⊥
      none_some f = grind arith
  written_is names e (x ∷ hs) n all h = by (written_is names e hs n (All-tail (HasBothNames names) x hs all)) (is_end e x.end) refl h
    where
      by : (written_in hs e ≡ Some n → names e ≡ Some n) → (b : Bool) → is_end e x.end ≡ b → (if b then Some x.written else written_in hs e) ≡ Some n → names e ≡ Some n
      by later true same k = ap names (same_end e x.end same) ∙ (All-head (HasBothNames names) x hs all).written ∙ k
      by later false other k = later k

  pub read_is : (names : EndId → Option N) (e : EndId) (hs : List (Held N)) (n : N) → All (HasBothNames names) hs → has_end e hs ≡ true → names (other_end e) ≡ Some n → read_in hs e ≡ Some n
  read_is names e [] n all has h = absurd (never has)
  read_is names e (x ∷ hs) n all has h = by (λ k. read_is names e hs n (All-tail (HasBothNames names) x hs all) k h) (is_end e x.end) refl has
    where
      by : (has_end e hs ≡ true → read_in hs e ≡ Some n) → (b : Bool) → is_end e x.end ≡ b → (b || has_end e hs) ≡ true → (if b then Some x.read else read_in hs e) ≡ Some n
      by later true same k = sym (All-head (HasBothNames names) x hs all).read ∙ sym (ap (λ (d : EndId). names (other_end d)) (same_end e x.end same)) ∙ h
      by later false other k = later k

  module _ (names : EndId → Option N) (pairs : List PairRow) (attached : List EndId) (reasons : EndId → Option Reason) (h : Holding N) (i : ℕ) (has : HasEnds names pairs attached reasons h i) (e : EndId) where
    -- it has an end of the object that is there
    pub has_here : owner_by pairs e ≡ i → is_here (place_by pairs e) ≡ true → list_any (is_end e) attached ≡ true → has_end e (h.ends i) ≡ true
    has_here owner here listed =
        has_listed e (h.ends i) ∙ ap (list_any (is_end e)) has.ends
        ∙ among (λ d. is_here (place_by pairs d)) e (filter (λ d. owner_by pairs d == i) attached) here
        (among (λ d. owner_by pairs d == i) e attached (ap (λ (n : ℕ). n == i) owner ∙ equal i) listed)
      where
        equal : (n : ℕ) → (n == n) ≡ true
        equal n = eq-eqb n n refl

-- ends that are there still, of owners that stay, are those that were
pub here_same : (old new : List PairRow) (attached : List EndId) (i : ℕ) → ((d : EndId) → is_here (place_by new d) ≡ is_here (place_by old d)) → ((d : EndId) → owner_by new d ≡ owner_by old d) →
    here_ends new attached i ≡ here_ends old attached i
here_same old new attached i here owners =
    ap (λ (es : List EndId). filter (λ d. is_here (place_by new d)) es) (filter_agree (λ d. owner_by new d == i) (λ d. owner_by old d == i) (λ d. ap (λ (n : ℕ). n == i) (owners d)) attached)
    ∙ filter_agree (λ d. is_here (place_by new d)) (λ d. is_here (place_by old d)) here (filter (λ d. owner_by old d == i) attached)
