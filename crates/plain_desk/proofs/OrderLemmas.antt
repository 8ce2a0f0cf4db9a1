-- How the one order grows.
use Rattle.std.specs.Prelude.{◌≡◌, ◌≢◌, ◌+◌, ◌==◌, ◌++◌, ℕ, Bool, cond, List, [], ◌∷◌, length, map, refl}
use Rattle.std.proofs.Common.{arith, sym, ap, ◌∙◌, subst}
use Rattle.std.proofs.lemmas.Bool.{eq-eqb, ne_eqb}
use Rattle.std.proofs.lemmas.List.{append-nil, append_assoc}
use Rattle.std.proofs.lemmas.List.Elements.{filter-append}
use Rattle.spec_control.specs.declared.entry.Did.{Did}
use Rattle.spec_control.specs.declared.entry.Item.{Item}
use Rattle.spec_control.specs.declared.entry.Item.TheVariants.{Event as IsEvent, Seen as IsSeen}
use Rattle.spec_control.specs.declared.entry.Sight.{Sight}
use Rattle.spec_control.specs.Control.{Control, begun}
use Rattle.spec_control.specs.After.{after}
use Rattle.spec_control.specs.ControlRun.{after_all, after_item, FitsItem, IsControlRun}
use Rattle.spec_control.specs.Names.{AreNamed, FitsNames}
use Rattle.spec_control.specs.Held.{caller_of}
use Rattle.spec_control.specs.Has.{AreBy, IsByItem}
use Rattle.spec_control.specs.Moments.{Moment, moments_by, moments_from}
use Rattle.plain_desk.specs.declared.mark.Mark.{Mark}
use Rattle.plain_desk.specs.declared.mark.Mark.TheVariants.{Event, Seen}
use Rattle.plain_desk.specs.Order.{order_of, AreMarked, FitsOrder, IsOrder, events_in}

pub none_of : {X : Type 0} (n : ℕ) → 1 + n ≡ 0 → X
none_of n h = absurd (bad h)
  where
    bad : 1 + n ≡ 0 → ⊥
    bad e = omega (arith, e)

module _ {N S : Type 0} where
  pub event_more : (ms : List Mark) (dids : List (Did N S)) (by : ℕ) (did : Did N S) → AreMarked ms dids →
      order_of (ms ++ Event by ∷ []) (dids ++ did ∷ []) ≡ order_of ms dids ++ IsEvent (record { by = by; did = did }) ∷ []
  event_more [] [] by did marked = refl
  event_more [] (d ∷ dids) by did marked = let none : 1 + length dids ≡ 0 = omega (arith, marked) in none_of (length dids) none
  event_more (Event k ∷ ms) [] by did marked = none_of (events_in ms) marked
  event_more (Event k ∷ ms) (d ∷ dids) by did marked = ap (λ (xs : List (Item N S)). IsEvent (record { by = k; did = d }) ∷ xs) (event_more ms dids by did (omega (arith, marked)))
  event_more (Seen sight ∷ ms) dids by did marked = ap (λ (xs : List (Item N S)). IsSeen sight ∷ xs) (event_more ms dids by did marked)

  pub look_more : (ms : List Mark) (dids : List (Did N S)) (sight : Sight) → AreMarked ms dids → order_of (ms ++ Seen sight ∷ []) dids ≡ order_of ms dids ++ IsSeen sight ∷ []
  look_more [] dids sight marked = refl
  look_more (Event k ∷ ms) [] sight marked = none_of (events_in ms) marked
  look_more (Event k ∷ ms) (d ∷ dids) sight marked = ap (λ (xs : List (Item N S)). IsEvent (record { by = k; did = d }) ∷ xs) (look_more ms dids sight (omega (arith, marked)))
  look_more (Seen s ∷ ms) dids sight marked = ap (λ (xs : List (Item N S)). IsSeen s ∷ xs) (look_more ms dids sight marked)

  pub looks_nothing : (ms : List Mark) (dids : List (Did N S)) (c : Control) → AreMarked ms dids →
      after_all (order_of ms dids) c ≡ after_all (map (λ did. let x : Item N S = IsEvent (record { by = 0; did = did }) in x) dids) c
  looks_nothing [] [] c marked = refl
  looks_nothing [] (d ∷ dids) c marked = let none : 1 + length dids ≡ 0 = omega (arith, marked) in none_of (length dids) none
  looks_nothing (Event k ∷ ms) [] c marked = none_of (events_in ms) marked
  looks_nothing (Event k ∷ ms) (d ∷ dids) c marked = looks_nothing ms dids (after d c) (omega (arith, marked))
  looks_nothing (Seen sight ∷ ms) dids c marked = looks_nothing ms dids c marked

  -- ---- an item more
  pub after_more : (items : List (Item N S)) (item : Item N S) (c : Control) → after_all (items ++ item ∷ []) c ≡ after_item item (after_all items c)
  after_more [] item c = refl
  after_more (x ∷ items) item c = after_more items item (after_item x c)

  run_more : (items : List (Item N S)) (item : Item N S) (c : Control) → IsControlRun c items → FitsItem (after_all items c) item → IsControlRun c (items ++ item ∷ [])
  run_more [] item c run fits = (fits, tt)
  run_more (x ∷ items) item c run fits = (run.0, run_more items item (after_item x c) run.1 fits)

  by_more : (past items : List (Item N S)) (item : Item N S) (c : Control) → AreBy past c items → IsByItem (past ++ items) (after_all items c) item → AreBy past c (items ++ item ∷ [])
  by_more past [] item c are is = (subst (λ (xs : List (Item N S)). IsByItem xs c item) (append-nil past) is, tt)
  by_more past (x ∷ items) item c are is =
      (are.0, by_more (past ++ x ∷ []) items item (after_item x c) are.1 (subst (λ (xs : List (Item N S)). IsByItem xs (after_all items (after_item x c)) item) (sym (append_assoc past (x ∷ []) items)) is))

  named_more : (past items : List (Item N S)) (item : Item N S) → AreNamed past items → FitsNames (past ++ items) item → AreNamed past (items ++ item ∷ [])
  named_more past [] item are fits = (subst (λ (xs : List (Item N S)). FitsNames xs item) (append-nil past) fits, tt)
  named_more past (x ∷ items) item are fits =
      (are.0, named_more (past ++ x ∷ []) items item are.1 (subst (λ (xs : List (Item N S)). FitsNames xs item) (sym (append_assoc past (x ∷ []) items)) fits))

  pub goes_on : (workers : ℕ) (items : List (Item N S)) (item : Item N S) → IsOrder workers items → FitsOrder workers items item → IsOrder workers (items ++ item ∷ [])
  goes_on workers items item order fits = record {
    run = run_more items item (begun workers) order.run fits.fits;
    named = named_more [] items item order.named fits.names;
    by = by_more [] items item (begun workers) order.by fits.by;
  }

  -- ---- moments
  moments_more : (items : List (Item N S)) (item : Item N S) (c : Control) → moments_from c (items ++ item ∷ []) ≡ moments_from c items ++ record { found = after_all items c; item = item } ∷ []
  moments_more [] item c = refl
  moments_more (x ∷ items) item c = ap (λ (ms : List (Moment N S)). record { found = c; item = x } ∷ ms) (moments_more items item (after_item x c))

  module _ (k workers : ℕ) (items : List (Item N S)) (item : Item N S) where
    abbrev last : Moment N S
    last = record { found = after_all items (begun workers); item = item }

    split : moments_by k (moments_from (begun workers) (items ++ item ∷ [])) ≡ moments_by k (moments_from (begun workers) items) ++ (cond (caller_of item == k) (record { found = after_all items (begun workers); item = item } ∷ []) [])
    split =
        ap (moments_by k) (moments_more items item (begun workers))
        ∙ filter-append (λ (m : Moment N S). caller_of m.item == k) (moments_from (begun workers) items) (last ∷ [])

    pub own_more : caller_of item ≡ k → moments_by k (moments_from (begun workers) (items ++ item ∷ [])) ≡ moments_by k (moments_from (begun workers) items) ++ record { found = after_all items (begun workers); item = item } ∷ []
    own_more is = split ∙ ap (λ (b : Bool). moments_by k (moments_from (begun workers) items) ++ cond b (last ∷ []) []) (eq-eqb (caller_of item) k is)

    pub other_same : caller_of item ≢ k → moments_by k (moments_from (begun workers) (items ++ item ∷ [])) ≡ moments_by k (moments_from (begun workers) items)
    other_same other = split ∙ ap (λ (b : Bool). moments_by k (moments_from (begun workers) items) ++ cond b (last ∷ []) []) (ne_eqb (caller_of item) k other) ∙ append-nil (moments_by k (moments_from (begun workers) items))
