-- A walk goes on without its looks, from the same states by the same steps.
use Rattle.std.specs.Prelude.{◌≡◌, ℕ, Bool, List, [], ◌∷◌, ◌++◌, filter, flat_map, if◌then◌else◌, refl}
use Rattle.std.proofs.Common.{sym, ap, ◌∙◌, subst, append-nil, append_assoc}
use Rattle.zq_base.specs.Ends.{PipeId}
use Rattle.spec_pattern.specs.PipeStep.{PipeStep}
use Rattle.spec_control.specs.declared.entry.Item.{Item}
use Rattle.spec_control.specs.declared.entry.Item.TheVariants.{Seen}
use Rattle.spec_control.specs.declared.entry.Sight.{Sight}
use Rattle.spec_control.specs.Control.{Control}
use Rattle.spec_control.specs.ControlRun.{after_item, after_all, IsControlRun}
use Rattle.spec_control.specs.Moments.{Moment, moments_from}
use Rattle.spec_run.specs.declared.journal.Entry.{Entry}
use Rattle.spec_run.specs.Act.{Act, Step, Said, Deed, Tries, Shuts, Fetches, Idles, Works, Looks, AsksRoot, Reads, acts_of, all_acts, steps_in, moments_in}
use Rattle.spec_run.specs.Worker.{EachDoes}
use Rattle.spec_run.specs.Fate.{fates_in}
use Rattle.spec_run.specs.Journal.{entry_shown, entries_shown}
use Rattle.replay_laws.proofs.WalkLemmas.{leaves, Walks, leaves_on, steps_on, walks_front, walks_behind}
use Rattle.zq_world.proofs.AskedLemmas.{items_of}
use Rattle.replay_laws.proofs.DeedLemmas.{is_told}

module _ {N S : Type 0} where
  -- ---- a walk is a control run of its items
  pub run_of_walk : (cap : PipeId → ℕ) (acts : List (Act N S)) (c : Control) (past : List PipeStep) → Walks cap c past acts → IsControlRun c (items_of acts)
  run_of_walk cap [] c past w = tt
  run_of_walk cap (Step s ∷ acts) c past w = run_of_walk cap acts c (past ++ s ∷ []) w.1
  run_of_walk cap (Said m ∷ acts) c past w = (w.1, run_of_walk cap acts (after_item m.item c) past w.2)

  -- whose items find what those before them left
  pub found_of_walk : (cap : PipeId → ℕ) (acts : List (Act N S)) (c : Control) (past : List PipeStep) → Walks cap c past acts → moments_in acts ≡ moments_from c (items_of acts)
  found_of_walk cap [] c past w = refl
  found_of_walk cap (Step s ∷ acts) c past w = found_of_walk cap acts c (past ++ s ∷ []) w.1
  found_of_walk cap (Said m ∷ acts) c past w =
      let found : ◌≡◌ {A = Control} m.found c = w.0 in
      let rest = found_of_walk cap acts (after_item m.item c) past w.2 in
      λ i. (let n : Moment N S = record { found = found i; item = m.item } in n) ∷ rest i

  -- and that leads to where its items lead
  pub after_of_walk : (acts : List (Act N S)) (c : Control) → after_all (items_of acts) c ≡ leaves c acts
  after_of_walk [] c = refl
  after_of_walk (Step s ∷ acts) c = after_of_walk acts c
  after_of_walk (Said m ∷ acts) c = after_of_walk acts (after_item m.item c)

  pub walks_both : (cap : PipeId → ℕ) (xs ys : List (Act N S)) (c : Control) (past : List PipeStep) → Walks cap c past xs → Walks cap (leaves c xs) (past ++ steps_in xs) ys → Walks cap c past (xs ++ ys)
  walks_both cap [] ys c past w v = subst (λ l. Walks cap c l ys) (append-nil past) v
  walks_both cap (Step s ∷ xs) ys c past w v =
      (w.0, walks_both cap xs ys c (past ++ s ∷ []) w.1 (subst (λ l. Walks cap (leaves c xs) l ys) (sym (append_assoc past (s ∷ []) (steps_in xs))) v))
  walks_both cap (Said m ∷ xs) ys c past w v = (w.0, w.1, walks_both cap xs ys (after_item m.item c) past w.2 v)

  -- ---- without looks
  -- a moment is a look
  pub record IsLook (m : Moment N S) : Type 0 where
    pub sight : Sight
    pub item_is : m.item ≡ Seen sight

  -- what is not told of is a look
  abbrev pub SeesSo : Deed N S → Type 0
  SeesSo (Looks m) = IsLook m
  SeesSo (Idles m) = IsLook m
  SeesSo (Tries t) = Unit {0}
  SeesSo (Shuts acts) = Unit {0}
  SeesSo (Fetches slot acts) = Unit {0}
  SeesSo (Works acts) = Unit {0}
  SeesSo (AsksRoot acts) = Unit {0}
  SeesSo (Reads now) = Unit {0}

  -- the deeds without looks, one deed at a time
  pub data Parted (d : Deed N S) (ds : List (Deed N S)) : Type 0 where
    stays : filter is_told (d ∷ ds) ≡ d ∷ filter is_told ds → Parted d ds
    goes : (m : Moment N S) → IsLook m → acts_of d ≡ Said m ∷ [] → filter is_told (d ∷ ds) ≡ filter is_told ds → Parted d ds

  pub parted : (d : Deed N S) (ds : List (Deed N S)) → SeesSo d → Parted d ds
  parted (Looks m) ds so = goes m so refl refl
  parted (Idles m) ds so = goes m so refl refl
  parted (Tries t) ds so = stays refl
  parted (Shuts acts) ds so = stays refl
  parted (Fetches slot acts) ds so = stays refl
  parted (Works acts) ds so = stays refl
  parted (AsksRoot acts) ds so = stays refl
  parted (Reads now) ds so = stays refl

  look_leaves : (m : Moment N S) (c : Control) → IsLook m → after_item m.item c ≡ c
  look_leaves m c look = ap (λ (item : Item N S). after_item item c) look.item_is

  pub thin_leaves : (ds : List (Deed N S)) (c : Control) → EachDoes SeesSo ds → leaves c (all_acts (filter is_told ds)) ≡ leaves c (all_acts ds)
  thin_leaves [] c so = refl
  thin_leaves (d ∷ ds) c so = elim (parted d ds so.0) [
    | stays e ↦
        ap (λ l. leaves c (all_acts l)) e ∙ leaves_on (acts_of d) (all_acts (filter is_told ds)) c
        ∙ thin_leaves ds (leaves c (acts_of d)) so.1 ∙ sym (leaves_on (acts_of d) (all_acts ds) c)
    | goes m look is e ↦
        ap (λ l. leaves c (all_acts l)) e ∙ thin_leaves ds c so.1
        ∙ sym (ap (λ l. leaves c (l ++ all_acts ds)) is ∙ ap (λ (x : Control). leaves x (all_acts ds)) (look_leaves m c look))
  ]

  pub thin_walks : (cap : PipeId → ℕ) (ds : List (Deed N S)) (c : Control) (past : List PipeStep) → EachDoes SeesSo ds → Walks cap c past (all_acts ds) → Walks cap c past (all_acts (filter is_told ds))
  thin_walks cap [] c past so w = tt
  thin_walks cap (d ∷ ds) c past so w = elim (parted d ds so.0) [
    | stays e ↦
        subst (λ l. Walks cap c past (all_acts l)) (sym e)
        (walks_both cap (acts_of d) (all_acts (filter is_told ds)) c past (walks_front cap (acts_of d) (all_acts ds) c past w)
        (thin_walks cap ds (leaves c (acts_of d)) (past ++ steps_in (acts_of d)) so.1 (walks_behind cap (acts_of d) (all_acts ds) c past w)))
    | goes m look is e ↦
        let on = subst (λ l. Walks cap c past (l ++ all_acts ds)) is w in
        subst (λ l. Walks cap c past (all_acts l)) (sym e) (thin_walks cap ds c past so.1 (subst (λ (x : Control). Walks cap x past (all_acts ds)) (look_leaves m c look) on.2))
  ]

  -- ---- looks make no steps, have no fates and show nothing
  thin_on : (d : Deed N S) (ds : List (Deed N S)) → steps_in (all_acts (filter is_told ds)) ≡ steps_in (all_acts ds) → steps_in (acts_of d ++ all_acts (filter is_told ds)) ≡ steps_in (acts_of d ++ all_acts ds)
  thin_on d ds e = steps_on (acts_of d) (all_acts (filter is_told ds)) ∙ ap (λ l. steps_in (acts_of d) ++ l) e ∙ sym (steps_on (acts_of d) (all_acts ds))

  pub thin_steps : (ds : List (Deed N S)) → steps_in (all_acts (filter is_told ds)) ≡ steps_in (all_acts ds)
  thin_steps [] = refl
  thin_steps (Tries t ∷ ds) = thin_on (Tries t) ds (thin_steps ds)
  thin_steps (Shuts acts ∷ ds) = thin_on (Shuts acts) ds (thin_steps ds)
  thin_steps (Fetches slot acts ∷ ds) = thin_on (Fetches slot acts) ds (thin_steps ds)
  thin_steps (Idles m ∷ ds) = thin_steps ds
  thin_steps (Works acts ∷ ds) = thin_on (Works acts) ds (thin_steps ds)
  thin_steps (Looks m ∷ ds) = thin_steps ds
  thin_steps (AsksRoot acts ∷ ds) = thin_on (AsksRoot acts) ds (thin_steps ds)
  thin_steps (Reads now ∷ ds) = thin_steps ds

  pub thin_fates : (hears : Bool) (p : PipeId) (ds : List (Deed N S)) → flat_map (fates_in hears p) (filter is_told ds) ≡ flat_map (fates_in hears p) ds
  thin_fates hears p [] = refl
  thin_fates hears p (Tries t ∷ ds) = ap (λ l. fates_in hears p (Tries t) ++ l) (thin_fates hears p ds)
  thin_fates hears p (Shuts acts ∷ ds) = ap (λ l. fates_in hears p (Shuts acts) ++ l) (thin_fates hears p ds)
  thin_fates hears p (Fetches slot acts ∷ ds) = ap (λ l. fates_in hears p (Fetches slot acts) ++ l) (thin_fates hears p ds)
  thin_fates hears p (Idles m ∷ ds) = thin_fates hears p ds
  thin_fates hears p (Works acts ∷ ds) = ap (λ l. fates_in hears p (Works acts) ++ l) (thin_fates hears p ds)
  thin_fates hears p (Looks m ∷ ds) = thin_fates hears p ds
  thin_fates hears p (AsksRoot acts ∷ ds) = ap (λ l. fates_in hears p (AsksRoot acts) ++ l) (thin_fates hears p ds)
  thin_fates hears p (Reads now ∷ ds) = thin_fates hears p ds

  pub thin_shown : (ds : List (Deed N S)) → entries_shown (filter is_told ds) ≡ entries_shown ds
  thin_shown [] = refl
  thin_shown (Tries t ∷ ds) = ap (λ (l : List Entry). if t.over then entry_shown t ∷ l else l) (thin_shown ds)
  thin_shown (Shuts acts ∷ ds) = thin_shown ds
  thin_shown (Fetches slot acts ∷ ds) = thin_shown ds
  thin_shown (Idles m ∷ ds) = thin_shown ds
  thin_shown (Works acts ∷ ds) = thin_shown ds
  thin_shown (Looks m ∷ ds) = thin_shown ds
  thin_shown (AsksRoot acts ∷ ds) = thin_shown ds
  thin_shown (Reads now ∷ ds) = thin_shown ds
