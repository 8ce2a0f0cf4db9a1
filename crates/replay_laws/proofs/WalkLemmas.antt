-- Acts that go on from a state of the control plane and from steps past, one after another.
use Rattle.std.specs.Prelude.{◌≡◌, ℕ, not, ◌&&◌, List, [], ◌∷◌, ◌++◌, filter, map, refl}
use Rattle.std.proofs.Common.{sym, ap, ◌∙◌, subst, append-nil, append_assoc}
use Rattle.zq_base.specs.Ends.{PipeId}
use Rattle.zq_base.specs.declared.ids.EndId.{EndId}
use Rattle.spec_pattern.specs.PipeStep.{PipeStep, Seal, Follows, AreExact}
use Rattle.spec_control.specs.declared.entry.Item.{Item}
use Rattle.spec_control.specs.Control.{Control, begun, place_of}
use Rattle.spec_control.specs.ControlRun.{FitsItem, after_item, after_all, IsControlRun}
use Rattle.spec_control.specs.Moments.{Moment}
use Rattle.spec_run.specs.Act.{Act, Step, Said, steps_in, moments_in}
use Rattle.spec_run.specs.Event.{is_asked_once, seals_in, acts_said}
use Rattle.replay_laws.specs.Blank.{blank}

module _ {N S : Type 0} where
  pub run_more : (items : List (Item N S)) (item : Item N S) (c : Control) → IsControlRun c items → FitsItem (after_all items c) item → IsControlRun c (items ++ item ∷ [])
  run_more [] item c run fits = (fits, tt)
  run_more (x ∷ items) item c run fits = (run.0, run_more items item (after_item x c) run.1 fits)

  pub all_more : (items : List (Item N S)) (item : Item N S) (c : Control) → after_all (items ++ item ∷ []) c ≡ after_item item (after_all items c)
  all_more [] item c = refl
  all_more (x ∷ items) item c = all_more items item (after_item x c)

  -- the state that acts lead to
  abbrev pub leaves : Control → List (Act N S) → Control
  leaves c [] = c
  leaves c (Step s ∷ acts) = leaves c acts
  leaves c (Said m ∷ acts) = leaves (after_item m.item c) acts

  -- each item finds what those before it left and fits it, and each step follows from those before it
  abbrev pub Walks : (cap : PipeId → ℕ) → Control → List PipeStep → List (Act N S) → Type 0
  Walks cap c past [] = Unit {0}
  Walks cap c past (Step s ∷ acts) = Follows cap past s × Walks cap c (past ++ s ∷ []) acts
  Walks cap c past (Said m ∷ acts) = (m.found ≡ c) × FitsItem c m.item × Walks cap (after_item m.item c) past acts

  pub leaves_on : (xs ys : List (Act N S)) (c : Control) → leaves c (xs ++ ys) ≡ leaves (leaves c xs) ys
  leaves_on [] ys c = refl
  leaves_on (Step s ∷ xs) ys c = leaves_on xs ys c
  leaves_on (Said m ∷ xs) ys c = leaves_on xs ys (after_item m.item c)

  pub steps_on : (xs ys : List (Act N S)) → steps_in (xs ++ ys) ≡ steps_in xs ++ steps_in ys
  steps_on [] ys = refl
  steps_on (Step s ∷ xs) ys = ap (λ l. s ∷ l) (steps_on xs ys)
  steps_on (Said m ∷ xs) ys = steps_on xs ys

  pub moments_on : (xs ys : List (Act N S)) → moments_in (xs ++ ys) ≡ moments_in xs ++ moments_in ys
  moments_on [] ys = refl
  moments_on (Step s ∷ xs) ys = moments_on xs ys
  moments_on (Said m ∷ xs) ys = ap (λ l. m ∷ l) (moments_on xs ys)

  pub walks_front : (cap : PipeId → ℕ) (xs ys : List (Act N S)) (c : Control) (past : List PipeStep) → Walks cap c past (xs ++ ys) → Walks cap c past xs
  walks_front cap [] ys c past w = tt
  walks_front cap (Step s ∷ xs) ys c past w = (w.0, walks_front cap xs ys c (past ++ s ∷ []) w.1)
  walks_front cap (Said m ∷ xs) ys c past w = (w.0, w.1, walks_front cap xs ys (after_item m.item c) past w.2)

  pub walks_behind : (cap : PipeId → ℕ) (xs ys : List (Act N S)) (c : Control) (past : List PipeStep) → Walks cap c past (xs ++ ys) → Walks cap (leaves c xs) (past ++ steps_in xs) ys
  walks_behind cap [] ys c past w = subst (λ l. Walks cap c l ys) (sym (append-nil past)) w
  walks_behind cap (Step s ∷ xs) ys c past w =
      subst (λ l. Walks cap (leaves c xs) l ys) (append_assoc past (s ∷ []) (steps_in xs)) (walks_behind cap xs ys c (past ++ s ∷ []) w.1)
  walks_behind cap (Said m ∷ xs) ys c past w = walks_behind cap xs ys (after_item m.item c) past w.2

  pub exact_of : (cap : PipeId → ℕ) (xs : List (Act N S)) (c : Control) (past : List PipeStep) → Walks cap c past xs → AreExact cap past (steps_in xs)
  exact_of cap [] c past w = tt
  exact_of cap (Step s ∷ xs) c past w = (w.0, exact_of cap xs c (past ++ s ∷ []) w.1)
  exact_of cap (Said m ∷ xs) c past w = exact_of cap xs (after_item m.item c) past w.2

module _ (N S : Type 0) where
  -- acts that are steps alone
  pub steps_alone : (steps : List PipeStep) (c : Control) → leaves c (map (λ step. let a : Act N S = Step step in a) steps) ≡ c
  steps_alone [] c = refl
  steps_alone (s ∷ steps) c = steps_alone steps c

  pub steps_of_steps : (steps : List PipeStep) → steps_in (map (λ step. let a : Act N S = Step step in a) steps) ≡ steps
  steps_of_steps [] = refl
  steps_of_steps (s ∷ steps) = ap (λ l. s ∷ l) (steps_of_steps steps)

  pub no_moments : (steps : List PipeStep) → moments_in (map (λ step. let a : Act N S = Step step in a) steps) ≡ []
  no_moments [] = refl
  no_moments (s ∷ steps) = no_moments steps

  -- the same of the delimiters behind an item
  pub seals_alone : (es : List EndId) (c : Control) → leaves c (map (λ e. let a : Act N S = Step (Seal e) in a) es) ≡ c
  seals_alone [] c = refl
  seals_alone (e ∷ es) c = seals_alone es c

  pub steps_of_seals : (es : List EndId) → steps_in (map (λ e. let a : Act N S = Step (Seal e) in a) es) ≡ map Seal es
  steps_of_seals [] = refl
  steps_of_seals (e ∷ es) = ap (λ l. Seal e ∷ l) (steps_of_seals es)

  pub no_moments_sealed : (es : List EndId) → moments_in (map (λ e. let a : Act N S = Step (Seal e) in a) es) ≡ []
  no_moments_sealed [] = refl
  no_moments_sealed (e ∷ es) = no_moments_sealed es

-- the ends whose pipes get their delimiters between two states
abbrev sealed_between : Control → Control → List EndId
sealed_between c d = filter (λ e. is_asked_once (place_of d e) && not (is_asked_once (place_of c e))) d.attached

sealed_same : (c d e f : Control) → blank c ≡ blank e → blank d ≡ blank f → sealed_between c d ≡ sealed_between e f
sealed_same c d e f p q = ap (λ (x : Control). sealed_between x (blank d)) p ∙ ap (sealed_between (blank e)) q

-- a state that a control run leads to
pub record Reached (N S : Type 0) (c : Control) : Type 0 where
  pub items : List (Item N S)
  pub run : IsControlRun (begun 1) items
  pub is : after_all items (begun 1) ≡ c

module _ {N S : Type 0} where
  pub reached_item : (item : Item N S) (c : Control) → Reached N S c → FitsItem c item → Reached N S (after_item item c)
  reached_item item c r fits = record {
    items = r.items ++ item ∷ [];
    run = run_more r.items item (begun 1) r.run (subst (λ d. FitsItem d item) (sym r.is) fits);
    is = all_more r.items item (begun 1) ∙ ap (after_item item) r.is;
  }

  pub reached_on : (cap : PipeId → ℕ) (xs : List (Act N S)) (c : Control) (past : List PipeStep) → Reached N S c → Walks cap c past xs → Reached N S (leaves c xs)
  reached_on cap [] c past r w = r
  reached_on cap (Step s ∷ xs) c past r w = reached_on cap xs c (past ++ s ∷ []) r w.1
  reached_on cap (Said m ∷ xs) c past r w = reached_on cap xs (after_item m.item c) past (reached_item m.item c r w.1) w.2

  -- two lists of acts make the same steps, and leave the same but for counts
  pub record Same (c d : Control) (xs ys : List (Act N S)) : Type 0 where
    pub steps : steps_in xs ≡ steps_in ys
    pub states : blank (leaves c xs) ≡ blank (leaves d ys)

  pub same_none : (c d : Control) → blank c ≡ blank d → Same c d [] []
  same_none c d e = record { steps = refl; states = e }

  pub same_both : (c d : Control) (xs ys us vs : List (Act N S)) → Same c d xs ys → Same (leaves c xs) (leaves d ys) us vs → Same c d (xs ++ us) (ys ++ vs)
  same_both c d xs ys us vs one other = record {
    steps = steps_on xs us ∙ ap (λ l. l ++ steps_in us) one.steps ∙ ap (λ l. steps_in ys ++ l) other.steps ∙ sym (steps_on ys vs);
    states = ap blank (leaves_on xs us c) ∙ other.states ∙ sym (ap blank (leaves_on ys vs d));
  }

  pub same_as : (c d : Control) (xs ys us vs : List (Act N S)) → xs ≡ us → ys ≡ vs → Same c d us vs → Same c d xs ys
  same_as c d xs ys us vs p q same = subst (λ l. Same c d l ys) (sym p) (subst (Same c d us) (sym q) same)

  -- steps alone
  pub same_steps : (c d : Control) (xs ys : List PipeStep) → blank c ≡ blank d → xs ≡ ys → Same c d (map (λ step. Step step) xs) (map (λ step. Step step) ys)
  same_steps c d xs ys e p = record {
    steps = steps_of_steps N S xs ∙ p ∙ sym (steps_of_steps N S ys);
    states = ap blank (steps_alone N S xs c) ∙ e ∙ sym (ap blank (steps_alone N S ys d));
  }

  -- an item with the delimiters that are written in it
  pub said_same : (cap cup : PipeId → ℕ) (c d : Control) (past : List PipeStep) (m n : Moment N S) → Walks cap c past (acts_said m) → Walks cup d past (acts_said n)
      → blank c ≡ blank d → blank (after_item m.item c) ≡ blank (after_item n.item d) → Same c d (acts_said m) (acts_said n)
  said_same cap cup c d past m n w v p q =
      let found : ◌≡◌ {A = Control} m.found c = w.0 in
      let other : ◌≡◌ {A = Control} n.found d = v.0 in
      record {
        steps = steps_of_seals N S (seals_in m) ∙ ap (map Seal) (ap (λ (x : Control). sealed_between x (after_item m.item x)) found
            ∙ sealed_same c (after_item m.item c) d (after_item n.item d) p q ∙ sym (ap (λ (x : Control). sealed_between x (after_item n.item x)) other)) ∙ sym (steps_of_seals N S (seals_in n));
        states = ap blank (seals_alone N S (seals_in m) (after_item m.item c)) ∙ q ∙ sym (ap blank (seals_alone N S (seals_in n) (after_item n.item d)));
      }
