-- Of ends and of lists of them: which are one, and which stand once.
use Rattle.std.specs.Prelude.{◌≡◌, ◌||◌, Bool, true, false, not, cond, List, [], ◌∷◌, ◌++◌, All, map, filter, refl}
use Rattle.std.specs.List.{list_any}
use Rattle.std.proofs.Common.{sym, ap, ◌∙◌}
use Rattle.std.proofs.lemmas.List.Elements.{All-nil, All-cons, All-head, All-tail, All-append, All-filter}
use Rattle.zq_base.specs.declared.ids.EndId.{EndId}
use Rattle.spec_pattern.specs.PipeStep.{same_pipe}
use Rattle.spec_pattern.proofs.Exact.{same_pipes}
use Rattle.spec_control.specs.Control.{is_end}
use Rattle.control_laws.proofs.ListLemmas.{never}
use Rattle.control_laws.proofs.AskLemmas.{end_self, same_end}
use Rattle.control_laws.specs.AttachedOnce.{AreOnce}
use Rattle.end_table.proofs.StepLemmas.{own_pipe}

-- ---- one end and another
pub same_as_end : (e x : EndId) → same_pipe e x ≡ is_end e x
same_as_end e x = by (same_pipe e x) refl (is_end e x) refl
  where
    by : (a : Bool) → same_pipe e x ≡ a → (b : Bool) → is_end e x ≡ b → a ≡ b
    by true p true q = refl
    by true p false q = absurd (never (sym q ∙ (ap (is_end e) (sym (same_pipes e x p)) ∙ end_self e)))
    by false p true q = absurd (never (sym p ∙ (ap (same_pipe e) (sym (same_end e x q)) ∙ own_pipe e)))
    by false p false q = refl

pub turned_end : (e x : EndId) → is_end e x ≡ false → is_end x e ≡ false
turned_end e x other = by (is_end x e) refl
  where
    by : (b : Bool) → is_end x e ≡ b → b ≡ false
    by true is = absurd (never (sym other ∙ (ap (is_end e) (same_end x e is) ∙ end_self e)))
    by false is = refl

-- ---- of lists
module _ {X : Type 0} (P : X → Type 0) where
  pub all_snoc : (x : X) (xs : List X) → P x → All P xs → All P (xs ++ x ∷ [])
  all_snoc x xs is all = All-append P xs (x ∷ []) all (All-cons P x [] is (All-nil P))

  pub all_ends : {Y : Type 0} (f : Y → X) (ys : List Y) → All P (map f ys) → All (λ y. P (f y)) ys
  all_ends f [] all = All-nil (λ y. P (f y))
  all_ends f (y ∷ ys) all = All-cons (λ z. P (f z)) y ys (All-head P (f y) (map f ys) all) (all_ends f ys (All-tail P (f y) (map f ys) all))

-- what follows of each from two facts of it
pub all_both : {X : Type 0} (P Q R : X → Type 0) → ((x : X) → P x → Q x → R x) → (xs : List X) → All P xs → All Q xs → All R xs
all_both P Q R f [] one two = All-nil R
all_both P Q R f (x ∷ xs) one two =
    All-cons R x xs (f x (All-head P x xs one) (All-head Q x xs two)) (all_both P Q R f xs (All-tail P x xs one) (All-tail Q x xs two))

pub filter_ends : {X Y : Type 0} (f : Y → X) (p : X → Bool) (ys : List Y) → map f (filter (λ y. p (f y)) ys) ≡ filter p (map f ys)
filter_ends f p [] = refl
filter_ends {X = X} f p (y ∷ ys) = by (p (f y)) (filter_ends f p ys)
  where
    by : (b : Bool) → map f (filter (λ z. p (f z)) ys) ≡ filter p (map f ys) → map f (cond b (y ∷ filter (λ z. p (f z)) ys) (filter (λ z. p (f z)) ys)) ≡ cond b (f y ∷ filter p (map f ys)) (filter p (map f ys))
    by true rest = ap (λ (xs : List X). f y ∷ xs) rest
    by false rest = rest

pub not_so : (b : Bool) → not b ≡ true → b ≡ false
not_so true h = absurd (never h)
not_so false h = refl

-- ---- ends that stand once
pub none_among : (e : EndId) (es : List EndId) → list_any (is_end e) es ≡ false → All (λ x. is_end e x ≡ false) es
none_among e [] none = All-nil (λ x. is_end e x ≡ false)
none_among e (x ∷ es) none = All-cons (λ y. is_end e y ≡ false) x es (first (is_end e x) none) (none_among e es (rest (is_end e x) none))
  where
    first : (b : Bool) → (b || list_any (is_end e) es) ≡ false → b ≡ false
    first true h = absurd (never (sym h))
    first false h = refl

    rest : (b : Bool) → (b || list_any (is_end e) es) ≡ false → list_any (is_end e) es ≡ false
    rest true h = absurd (never (sym h))
    rest false h = h

pub among_none : (e : EndId) (es : List EndId) → All (λ x. is_end e x ≡ false) es → list_any (is_end e) es ≡ false
among_none e [] all = refl
among_none e (x ∷ es) all =
    ap (λ (b : Bool). b || list_any (is_end e) es) (All-head (λ y. is_end e y ≡ false) x es all) ∙ among_none e es (All-tail (λ y. is_end e y ≡ false) x es all)

pub once_filter : (f : EndId → Bool) (es : List EndId) → AreOnce es → AreOnce (filter f es)
once_filter f [] once = tt
once_filter f (e ∷ es) once = by (f e) (once_filter f es once.1)
  where
    by : (b : Bool) → AreOnce (filter f es) → AreOnce (cond b (e ∷ filter f es) (filter f es))
    by true rest = (among_none e (filter f es) (All-filter f (λ x. is_end e x ≡ false) es (none_among e es once.0)), rest)
    by false rest = rest

pub once_snoc : (e : EndId) (es : List EndId) → AreOnce es → list_any (is_end e) es ≡ false → AreOnce (es ++ e ∷ [])
once_snoc e [] once none = (refl, tt)
once_snoc e (x ∷ es) once none =
    let apart = none_among e (x ∷ es) none in (
      among_none x (es ++ e ∷ []) (all_snoc (λ y. is_end x y ≡ false) e es (turned_end e x (All-head (λ y. is_end e y ≡ false) x es apart)) (none_among x es once.0)),
      once_snoc e es once.1 (among_none e es (All-tail (λ y. is_end e y ≡ false) x es apart)),
    )
