-- What fits the events alone fits them with their callers and the looks.
use Rattle.std.specs.Prelude.{◌≡◌, ◌+◌, ◌++◌, ℕ, List, [], ◌∷◌, All, flat_map, length, map, refl}
use Rattle.std.proofs.Common.{arith, sym, ap, ◌∙◌, subst}
use Rattle.std.proofs.lemmas.List.{append-nil, append_assoc}
use Rattle.zq_base.specs.Ends.{other_end}
use Rattle.spec_control.specs.declared.entry.Did.{Did}
use Rattle.spec_control.specs.declared.entry.Item.{Item}
use Rattle.spec_control.specs.declared.entry.Item.TheVariants.{Event as IsEvent}
use Rattle.spec_control.specs.declared.entry.Joining.{Joining}
use Rattle.spec_control.specs.declared.entry.PipeName.{PipeName}
use Rattle.spec_control.specs.Control.{Control, begun}
use Rattle.spec_control.specs.After.{after}
use Rattle.spec_control.specs.ControlRun.{after_all, answer_of, Fits, IsControlRun}
use Rattle.spec_control.specs.Names.{AreNamed, FitsNames, IsTold, name_in, named_in}
use Rattle.plain_desk.specs.declared.mark.Mark.{Mark}
use Rattle.plain_desk.specs.declared.mark.Mark.TheVariants.{Event, Seen}
use Rattle.plain_desk.specs.Order.{events_in, order_of, AreMarked}
use Rattle.plain_desk.proofs.OrderLemmas.{looks_nothing, none_of}

module _ {N S : Type 0} where
  abbrev alone : Did N S → Item N S
  alone did = IsEvent (record { by = 0; did = did })

  -- ---- the last event
  pub last_fits : (dids : List (Did N S)) (did : Did N S) (c : Control) → IsControlRun c (map alone (dids ++ did ∷ [])) → Fits (after_all (map alone dids) c) did
  last_fits [] did c run = run.0
  last_fits (d ∷ dids) did c run = last_fits dids did (after d c) run.1

  pub event_fits : (workers : ℕ) (ms : List Mark) (dids : List (Did N S)) (did : Did N S) → AreMarked ms dids →
      IsControlRun (begun workers) (map alone (dids ++ did ∷ [])) → Fits (after_all (order_of ms dids) (begun workers)) did
  event_fits workers ms dids did marked run =
      subst (λ (c : Control). Fits c did) (sym (looks_nothing ms dids (begun workers) marked)) (last_fits dids did (begun workers) run)

  -- ---- names
  last_named : (past : List (Item N S)) (dids : List (Did N S)) (did : Did N S) → AreNamed past (map alone (dids ++ did ∷ [])) → FitsNames (past ++ map alone dids) (alone did)
  last_named past [] did are = subst (λ (xs : List (Item N S)). FitsNames xs (alone did)) (sym (append-nil past)) are.0
  last_named past (d ∷ dids) did are =
      subst (λ (xs : List (Item N S)). FitsNames xs (alone did)) (append_assoc past (alone d ∷ []) (map alone dids)) (last_named (past ++ alone d ∷ []) dids did are.1)

  pub order_names : (ms : List Mark) (dids : List (Did N S)) → AreMarked ms dids → flat_map named_in (order_of ms dids) ≡ flat_map named_in (map alone dids)
  order_names [] [] marked = refl
  order_names [] (d ∷ dids) marked = let none : 1 + length dids ≡ 0 = omega (arith, marked) in none_of (length dids) none
  order_names (Event k ∷ ms) [] marked = none_of (events_in ms) marked
  order_names (Event k ∷ ms) (d ∷ dids) marked = ap (λ (ns : List (PipeName N)). (answer_of d).opened ++ ns) (order_names ms dids (omega (arith, marked)))
  order_names (Seen sight ∷ ms) dids marked = order_names ms dids marked

  names_same : (ms : List Mark) (dids : List (Did N S)) (by : ℕ) (did : Did N S) → AreMarked ms dids →
      flat_map named_in (map alone dids ++ alone did ∷ []) ≡ flat_map named_in (order_of ms dids ++ IsEvent (record { by = by; did = did }) ∷ [])
  names_same [] [] by did marked = refl
  names_same [] (d ∷ dids) by did marked = let none : 1 + length dids ≡ 0 = omega (arith, marked) in none_of (length dids) none
  names_same (Event k ∷ ms) [] by did marked = none_of (events_in ms) marked
  names_same (Event k ∷ ms) (d ∷ dids) by did marked = ap (λ (ns : List (PipeName N)). (answer_of d).opened ++ ns) (names_same ms dids by did (omega (arith, marked)))
  names_same (Seen sight ∷ ms) dids by did marked = names_same ms dids by did marked

  told : (xs ys : List (Item N S)) → flat_map named_in xs ≡ flat_map named_in ys → (j : Joining N) → IsTold xs j → IsTold ys j
  told xs ys same j is = record {
    written = ap (name_in j.end) (sym same) ∙ is.written;
    read = ap (name_in (other_end j.end)) (sym same) ∙ is.read;
  }

  all_told : (xs ys : List (Item N S)) → flat_map named_in xs ≡ flat_map named_in ys → (js : List (Joining N)) → All (IsTold xs) js → All (IsTold ys) js
  all_told xs ys same js are k d at = told xs ys same _ (are k d at)

  pub names_fit : (ms : List Mark) (dids : List (Did N S)) (by : ℕ) (did : Did N S) → AreMarked ms dids →
      AreNamed [] (map alone (dids ++ did ∷ [])) → FitsNames (order_of ms dids) (IsEvent (record { by = by; did = did }))
  names_fit ms dids by did marked are =
      all_told (map alone dids ++ alone did ∷ []) (order_of ms dids ++ IsEvent (record { by = by; did = did }) ∷ []) (names_same ms dids by did marked)
      (answer_of did).joined (last_named [] dids did are)
