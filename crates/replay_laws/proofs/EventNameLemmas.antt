-- Who has an object and how pipes are named is so without looks, and who may make what.
use Rattle.std.specs.Prelude.{◌≡◌, ◌⊎◌, ℕ, List, [], ◌∷◌, ◌++◌, Option, None, filter, flat_map, refl}
use Rattle.std.proofs.Common.{sym, ap, ◌∙◌, subst, append-nil, inl, inr}
use Rattle.std.proofs.lemmas.Grind.{flat_map-append}
use Rattle.std.proofs.lemmas.List.Elements.{All-weaker}
use Rattle.spec_control.specs.declared.entry.Sight.{Sight}
use Rattle.spec_control.specs.declared.entry.Joining.{Joining}
use Rattle.spec_control.specs.declared.entry.Item.{Item}
use Rattle.spec_control.specs.declared.entry.Item.TheVariants.{Event, Seen}
use Rattle.zq_base.specs.Ends.{other_end}
use Rattle.spec_control.specs.Control.{Control}
use Rattle.spec_control.specs.ControlRun.{after_item}
use Rattle.spec_control.specs.Names.{name_in, named_in, joined_in, IsTold, AreNamed}
use Rattle.spec_control.specs.Has.{has_then, has_over, has_after, IsByItem, AreBy}
use Rattle.spec_run.specs.Act.{Deed, acts_of, all_acts}
use Rattle.spec_run.specs.Worker.{EachDoes}
use Rattle.zq_world.proofs.AskedLemmas.{items_of, items_of-append}
use Rattle.replay_laws.proofs.DeedLemmas.{is_told}
use Rattle.replay_laws.proofs.ThinLemmas.{SeesSo, stays, goes, parted}

module _ {N S : Type 0} where
  -- these items are those, but for some looks
  abbrev pub IsSight : Item N S → Type 0
  IsSight item = (sight : Sight) × (item ≡ Seen sight)

  abbrev pub Thins : (few items : List (Item N S)) → Type 0
  Thins few [] = few ≡ []
  Thins few (item ∷ items) = (IsSight item × Thins few items) ⊎ ((rest : List (Item N S)) × (few ≡ item ∷ rest) × Thins rest items)

  thins_front : (zs few items : List (Item N S)) → Thins few items → Thins (zs ++ few) (zs ++ items)
  thins_front [] few items thin = thin
  thins_front (z ∷ zs) few items thin = inr (zs ++ few, refl, thins_front zs few items thin)

  pub thins_of : (ds : List (Deed N S)) → EachDoes SeesSo ds → Thins (items_of (all_acts (filter is_told ds))) (items_of (all_acts ds))
  thins_of [] so = refl
  thins_of (d ∷ ds) so =
      let rest = thins_of ds so.1 in
      elim (parted d ds so.0) [
        | stays e ↦
            subst (λ l. Thins (items_of (all_acts l)) (items_of (acts_of d ++ all_acts ds))) (sym e)
            (subst (λ l. Thins l (items_of (acts_of d ++ all_acts ds))) (sym (items_of-append (acts_of d) (all_acts (filter is_told ds))))
            (subst (λ l. Thins (items_of (acts_of d) ++ items_of (all_acts (filter is_told ds))) l) (sym (items_of-append (acts_of d) (all_acts ds)))
            (thins_front (items_of (acts_of d)) (items_of (all_acts (filter is_told ds))) (items_of (all_acts ds)) rest)))
        | goes m look is e ↦
            subst (λ l. Thins (items_of (all_acts l)) (items_of (acts_of d ++ all_acts ds))) (sym e)
            (subst (λ l. Thins (items_of (all_acts (filter is_told ds))) (items_of (l ++ all_acts ds))) (sym is) (inl ((look.sight, look.item_is), rest)))
      ]

  -- ---- names
  names_on : (past : List (Item N S)) (item : Item N S) → flat_map named_in (past ++ item ∷ []) ≡ flat_map named_in past ++ named_in item
  names_on past item = flat_map-append named_in past (item ∷ []) ∙ ap (λ l. flat_map named_in past ++ l) (append-nil (named_in item))

  told_alike : (past other : List (Item N S)) (j : Joining N) → flat_map named_in past ≡ flat_map named_in other → IsTold past j → IsTold other j
  told_alike past other j same told = record {
    written = ap (name_in j.end) (sym same) ∙ told.written;
    read = ap (name_in (other_end j.end)) (sym same) ∙ told.read;
  }

  pub thin_named : (items few past other : List (Item N S)) → flat_map named_in past ≡ flat_map named_in other → Thins few items → AreNamed past items → AreNamed other few
  thin_named [] few past other same thin are = subst (AreNamed other) (sym thin) tt
  thin_named (item ∷ items) few past other same thin are = by thin (λ fewer names. thin_named items fewer (past ++ item ∷ []) names)
    where
      by : (IsSight item × Thins few items) ⊎ ((rest : List (Item N S)) × (few ≡ item ∷ rest) × Thins rest items)
          → ((fewer names : List (Item N S)) → flat_map named_in (past ++ item ∷ []) ≡ flat_map named_in names → Thins fewer items → AreNamed (past ++ item ∷ []) items → AreNamed names fewer) → AreNamed other few
      by (inl h) on =
          let none : named_in item ≡ [] = ap named_in h.0.1 in
          on few other (names_on past item ∙ ap (λ l. flat_map named_in past ++ l) none ∙ append-nil (flat_map named_in past) ∙ same) h.1 are.1
      by (inr h) on =
          let both : flat_map named_in (past ++ item ∷ []) ≡ flat_map named_in (other ++ item ∷ []) = names_on past item ∙ ap (λ l. l ++ named_in item) same ∙ sym (names_on other item) in
          subst (AreNamed other) (sym h.1) (
            All-weaker (IsTold (past ++ item ∷ [])) (IsTold (other ++ item ∷ [])) (λ j. told_alike (past ++ item ∷ []) (other ++ item ∷ []) j both) (joined_in item) are.0,
            on h.0 (other ++ item ∷ []) both h.2 are.1,
          )

  -- ---- who has what
  has_on : (i : ℕ) (had : Option ℕ) (past : List (Item N S)) (item : Item N S) → has_over i had (past ++ item ∷ []) ≡ has_then i item (has_over i had past)
  has_on i had [] item = refl
  has_on i had (x ∷ past) item = has_on i (has_then i x had) past item

  by_alike : (item : Item N S) (past other : List (Item N S)) (c : Control) → ((i : ℕ) → has_after i past ≡ has_after i other) → IsByItem past c item → IsByItem other c item
  by_alike (Event entry) past other c same may = record { acts = λ i e. sym (same i) ∙ may.acts i e; takes = λ i e. sym (same i) ∙ may.takes i e }
  by_alike (Seen sight) past other c same may = tt

  pub thin_by : (items few past other : List (Item N S)) (c : Control) → ((i : ℕ) → has_after i past ≡ has_after i other) → Thins few items → AreBy past c items → AreBy other c few
  thin_by [] few past other c same thin are = subst (AreBy other c) (sym thin) tt
  thin_by (item ∷ items) few past other c same thin are = by thin (λ fewer names d. thin_by items fewer (past ++ item ∷ []) names d)
    where
      by : (IsSight item × Thins few items) ⊎ ((rest : List (Item N S)) × (few ≡ item ∷ rest) × Thins rest items)
          → ((fewer names : List (Item N S)) (d : Control) → ((i : ℕ) → has_after i (past ++ item ∷ []) ≡ has_after i names) → Thins fewer items → AreBy (past ++ item ∷ []) d items → AreBy names d fewer) → AreBy other c few
      by (inl h) on =
          on few other c (λ i. has_on i None past item ∙ ap (λ (x : Item N S). has_then i x (has_over i None past)) h.0.1 ∙ same i) h.1
          (subst (λ (x : Control). AreBy (past ++ item ∷ []) x items) (ap (λ (x : Item N S). after_item x c) h.0.1) are.1)
      by (inr h) on =
          subst (AreBy other c) (sym h.1) (
            by_alike item past other c same are.0,
            on h.0 (other ++ item ∷ []) (after_item item c) (λ i. has_on i None past item ∙ ap (has_then i item) (same i) ∙ sym (has_on i None other item)) h.2 are.1,
          )
